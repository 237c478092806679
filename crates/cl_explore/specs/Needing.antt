-- What a search says of ranks that need buffers.
use Rattle.std.specs.Prelude.{◌≡◌, Bool, true, false}
use Rattle.rv_image_types.specs.declared.images.ImageParts.{ImageParts}
use Rattle.cl_explore.specs.Ends.{Findings}
use Rattle.cl_explore.specs.declared.needs.Needs.{Needs}
use Rattle.cl_explore.specs.declared.needs.Needs.TheVariants as needs

-- they are looked for, unless standard sends buffer or ranks have several harts
abbrev pub AreSought : Bool → ImageParts → Type 0
AreSought buffered image = (buffered ≡ false) × (image.harts ≡ 1)

-- if they are looked for, either no state was left in a search in which standard sends might wait, so that no run comes to any;
-- or the listener was told of some; or it isn't known whether a run comes to some
abbrev pub SaysNeeds : Bool → ImageParts → Findings → Type 0 → Needs → Type 0
SaysNeeds buffered image found told needs.Unsought = ¬ AreSought buffered image
SaysNeeds buffered image found told needs.Nobody =
    AreSought buffered image × (found.left ≡ 0) × (found.may_wait ≡ true)
SaysNeeds buffered image found told needs.Somebody = AreSought buffered image × told
SaysNeeds buffered image found told needs.Unknown = AreSought buffered image
