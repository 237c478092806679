-- What a status says of all runs.
use Rattle.std.specs.Prelude.{ℕ, ◌≡◌, ◌⊎◌, ◌++◌, Bool, false, true, List}
use Rattle.rv_image_types.specs.Image.{IsImage}
use Rattle.rv_image_types.specs.declared.images.ImageParts.{ImageParts}
use Rattle.cl_explore.specs.Below.{IsOrder}
use Rattle.cl_explore.specs.Needing.{AreSought}
use Rattle.cl_explore.specs.declared.needs.Needs.{Needs}
use Rattle.cl_moves.specs.Standing.{first_node}
use Rattle.rvmc_explore.specs.Endless.{AllMayEnd, GoesOnThere, NeverNeeds, NeverStuck, SomeNeverEnds}
use Rattle.rvmc_explore.specs.Hangs.{NeverHangs}
use Rattle.rvmc_explore.specs.Outcomes.{ListsNeed}
use Rattle.rvmc_explore.specs.Telling.{Tells, needs_line, unending_line, unknown_line, unsought_line}
use Rattle.rvmc_explore.specs.declared.outcomes.Outcome.{Outcome}

-- wherever a run by the order leads, finished or not, it can still come to an end, and no ranks are stuck in it. Unless standard
-- sends were to buffer or ranks have several harts, none need buffers either, and it can still come to an end if each standard send
-- waits from there on
pub record IsQuiet (image : ImageParts) (order : List ℕ) (buffered : Bool) : Type 0 where
  pub ends : AllMayEnd order (first_node image)
  pub never_stuck : NeverStuck image order (first_node image)
  pub never_need : AreSought buffered image → NeverNeeds image order (first_node image)
  pub never_hangs : AreSought buffered image → NeverHangs order (first_node image)

-- some run comes to where it can't end any more; but no ranks are stuck in any, nor do any need buffers, unless sends were to
-- buffer or ranks have several harts
pub record IsEndless (image : ImageParts) (order : List ℕ) (buffered : Bool) : Type 0 where
  pub endless : SomeNeverEnds image order
  pub never_stuck : NeverStuck image order (first_node image)
  pub never_need : AreSought buffered image → NeverNeeds image order (first_node image)

-- the text has the line `some runs go on for ever`, and above it the lines of a state to which a run by the order leads and from which
-- no turns by the order lead to an end
pub record TellsWhereEndless (image : ImageParts) (order text : List ℕ) : Type 0 where
  pub going : List ℕ
  pub of : GoesOnThere image order going
  pub before : List ℕ
  pub after : List ℕ
  pub spelled : text ≡ before ++ (going ++ (unending_line true ++ after))

-- why the last line has `with buffered sends`, where it has: sends were to buffer, ranks that need buffers are listed, or the line
-- above says it
abbrev pub SaysWhyBuffered : ImageParts → List ℕ → Bool → List Outcome → Needs → Type 0
SaysWhyBuffered image order buffered told known =
    (buffered ≡ true)
    ⊎ (ListsNeed image order told
    ⊎ (((needs_line buffered known ≡ unsought_line) × ¬ (image.harts ≡ 1)) ⊎ (needs_line buffered known ≡ unknown_line)))

-- of searches by an order of harts that are there
pub record StatusLaw : Type 0 where
  pub zero : (image : ImageParts) (order : List ℕ) (buffered : Bool) (states turns : ℕ) (text : List ℕ)
      → IsOrder image.harts order → Tells image order buffered states turns text 0 → IsQuiet image order buffered
  pub eight : (image : ImageParts) (order : List ℕ) (buffered : Bool) (states turns : ℕ) (text : List ℕ)
      → Tells image order buffered states turns text 8 → IsEndless image order buffered
  -- where the text has the line, it says where
  pub going : (image : ImageParts) (order : List ℕ) (buffered : Bool) (states turns : ℕ) (text : List ℕ) (status : ℕ)
      → (tells : Tells image order buffered states turns text status) → tells.unending ≡ true
      → TellsWhereEndless image order text
  -- a complete search in whose last line `with buffered sends` stands says why
  pub why : (image : ImageParts) (order : List ℕ) (buffered : Bool) (states turns : ℕ) (text : List ℕ) (status : ℕ)
      → (tells : Tells image order buffered states turns text status) → ((tells.listed).found).may_wait ≡ false
      → SaysWhyBuffered image order buffered tells.told (tells.listed).needs
  -- unless sends were to buffer or ranks have several harts: no run comes to ranks that need buffers, or some are listed, or the
  -- status is 4
  pub needs : (image : ImageParts) (order : List ℕ) (buffered : Bool) (states turns : ℕ) (text : List ℕ) (status : ℕ)
      → AreSought buffered image → (tells : Tells image order buffered states turns text status)
      → NeverNeeds image order (first_node image) ⊎ (ListsNeed image order tells.told ⊎ (status ≡ 4))
  -- two searches of one image and order, of which either both take every send as buffered or neither does: whatever their bounds,
  -- they have the same status, unless that of one is 4
  pub same : (image : ImageParts) (order : List ℕ) (buffered : Bool) (states turns more longer : ℕ) (text other : List ℕ)
      (status its : ℕ) → IsImage image → IsOrder image.harts order → Tells image order buffered states turns text status
      → Tells image order buffered more longer other its → ¬ (status ≡ 4) → ¬ (its ≡ 4) → status ≡ its
