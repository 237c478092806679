-- What a search knows of ranks that need buffers, on the way.
use Rattle.std.specs.Prelude.{◌≡◌, ◌⊎◌, Bool, true, false}
use Rattle.rv_image_types.specs.declared.images.ImageParts.{ImageParts}
use Rattle.cl_explore.specs.How.{How, waits_in}
use Rattle.cl_explore.specs.Needing.{AreSought}
use Rattle.cl_explore.specs.declared.course.Way.{Way}
use Rattle.cl_explore.specs.declared.course.Way.TheVariants as ways
use Rattle.cl_explore.specs.declared.halt.Halt.{Halt}
use Rattle.cl_explore.specs.declared.halt.Halt.TheVariants as halt
use Rattle.cl_explore.specs.declared.needs.Needs.{Needs}
use Rattle.cl_explore.specs.declared.needs.Needs.TheVariants as needs

-- before the first search
abbrev pub IsBegunWith : Bool → ImageParts → Needs → Type 0
IsBegunWith buffered image known =
    (¬ AreSought buffered image × (known ≡ needs.Unsought)) ⊎ (AreSought buffered image × (known ≡ needs.Unknown))

-- a search is halted for what ranks ask only where turns go first; and for ranks that need buffers only if standard sends may wait
-- in it too, and the listener was told of them
abbrev pub IsSearchHalt : Way → How → Type 0 → Halt → Type 0
IsSearchHalt goes how told (halt.Fault fault) = Unit {0}
IsSearchHalt goes how told halt.Outside = goes ≡ ways.First
IsSearchHalt goes how told halt.Needed = (goes ≡ ways.First) × (waits_in how ≡ true) × told

-- what was known is known still, or now it is known that some do
abbrev pub NotesNeed : Type 0 → Needs → Needs → Type 0
NotesNeed told old new = (new ≡ old) ⊎ ((new ≡ needs.Somebody) × told)

-- what is known behind a search in which standard sends might wait, or mightn't, and that left no state if they might
abbrev pub needs_of : Bool → Needs → Needs
needs_of true known = needs.Nobody
needs_of false known = known
