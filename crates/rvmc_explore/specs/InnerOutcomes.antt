-- Outcomes on the way: those that were heard of while a search went on, and lists to which more are added.
use Rattle.std.specs.Prelude.{ℕ, ◌+◌, ◌^◌, ◌<◌, ◌≡◌, ◌⊎◌, List, [], ◌∷◌, ◌++◌, Bool, false, true, map, slice_get, slice_set, Option, None, Some}
use Rattle.rv_image_types.specs.declared.images.ImageParts.{ImageParts}
use Rattle.cl_explore.specs.Covering.{AreNodes}
use Rattle.cl_explore.specs.Ends.{Findings}
use Rattle.cl_explore.specs.declared.companies.Company.{Company}
use Rattle.cl_explore.specs.declared.kept.KeptNode.{KeptNode}
use Rattle.cl_machine.specs.declared.steps.Step.{Step}
use Rattle.cl_moves.specs.Standing.{IsWay, by_order, first_node}
use Rattle.cl_order_laws.specs.Closed.{Node}
use Rattle.rvmc_explore.specs.Outcomes.{AreApart, AreCounted, HasBody, IsHeard, IsNeedOutcome, IsStuckBody, ListsNeed}
use Rattle.rvmc_explore.specs.declared.outcomes.Outcome.{Outcome}

-- outcomes that were heard of, however far a search came: each is such a one, its ends aren't counted yet, and no two have the
-- same text
pub record AreHeard (order : List ℕ) (image : ImageParts) (told : List Outcome) : Type 0 where
  pub each : (k : ℕ) (outcome : Outcome) → slice_get told k ≡ Some outcome → IsHeard order image outcome
  pub uncounted : (k : ℕ) (outcome : Outcome) → slice_get told k ≡ Some outcome → outcome.ends ≡ 0
  pub apart : AreApart told

-- one more of these
pub record IsNew (order : List ℕ) (image : ImageParts) (told : List Outcome) (outcome : Outcome) : Type 0 where
  pub is : IsHeard order image outcome
  pub uncounted : outcome.ends ≡ 0
  pub new : HasBody told outcome.body.items → ⊥

-- of ranks that need buffers: one more that is of such ranks, or their text is told
abbrev pub IsNeedAmong : List ℕ → ImageParts → List Outcome → Option Outcome → Type 0
IsNeedAmong order image told None = ListsNeed image order told
IsNeedAmong order image told (Some outcome) = IsNew order image told outcome × IsNeedOutcome order image outcome

-- their texts, in order
abbrev pub bodies_told : List Outcome → List (List ℕ)
bodies_told told = map (λ outcome. outcome.body.items) told

-- the texts of the one list are the first ones of the other
abbrev pub BeginsWith : List Outcome → List Outcome → Type 0
BeginsWith first told = (more : List (List ℕ)) × (bodies_told told ≡ bodies_told first ++ more)

-- the text of the outcome at this place
abbrev pub IsBodyAt : List Outcome → List ℕ → ℕ → Type 0
IsBodyAt told body place = (outcome : Outcome) × (slice_get told place ≡ Some outcome) × (outcome.body.items ≡ body)

-- the turns lead to whichever node is kept at this number
abbrev pub LeadThere : List KeptNode → ℕ → List Step → Type 0
LeadThere kept at turns =
    (image : ImageParts) (order : List ℕ) (nodes : List Node) (here : Node) → AreNodes image order kept nodes
    → slice_get nodes at ≡ Some here → IsWay (by_order order) (first_node image) turns here

-- the outcome at the node of this number, with this text, which so many ends have, and whether it is of ranks that need
-- buffers
pub record IsOutcomeOf (kept : List KeptNode) (node : ℕ) (body : List ℕ) (ends : ℕ) (need : Bool) (outcome : Outcome)
    : Type 0 where
  pub leads : LeadThere kept node outcome.way
  pub body_is : outcome.body.items ≡ body
  pub ends_are : outcome.ends ≡ ends
  pub need_is : outcome.need ≡ need

-- it stands behind the others, none of which has its text
abbrev pub AddsOne : List KeptNode → List Outcome → ℕ → List ℕ → ℕ → List Outcome → Type 0
AddsOne kept old node body ends new =
    (HasBody old body → ⊥)
    × ((outcome : Outcome) × IsOutcomeOf kept node body ends false outcome × (new ≡ old ++ outcome ∷ []))

abbrev pub one_end_more : Outcome → Outcome
one_end_more outcome = record outcome { ends = outcome.ends + 1 }

-- the outcome at this place has one end more
abbrev pub CountsOne : List Outcome → ℕ → List Outcome → Type 0
CountsOne old place new =
    (outcome : Outcome) → slice_get old place ≡ Some outcome → new ≡ slice_set old place (one_end_more outcome)

-- an end with this text: one more of the outcome that has it, or else an outcome of its own
abbrev pub AddsEnd : List KeptNode → List Outcome → ℕ → List ℕ → List Outcome → Type 0
AddsEnd kept old node body new =
    ((place : ℕ) × IsBodyAt old body place × CountsOne old place new) ⊎ AddsOne kept old node body 1 new

-- ranks that are stuck, behind the others, unless one has the same text
abbrev pub AddsStuck : List KeptNode → List Outcome → ℕ → List ℕ → List Outcome → Type 0
AddsStuck kept old node body new = (HasBody old body × (new ≡ old)) ⊎ AddsOne kept old node body 0 new

-- each may have one end more: the number still fits
abbrev pub HaveRoom : List Outcome → Type 0
HaveRoom told = (k : ℕ) (outcome : Outcome) → slice_get told k ≡ Some outcome → outcome.ends + 1 < 2 ^ 64

-- the ends, and the ranks that need buffers which were heard of
pub record AreToldEnds (order : List ℕ) (image : ImageParts) (found : Findings) (told : List Outcome) : Type 0 where
  pub each : (k : ℕ) (outcome : Outcome) → slice_get told k ≡ Some outcome → IsHeard order image outcome
  pub apart : AreApart told
  pub counted : AreCounted order image found told

-- of a node that is marked nothing is added
abbrev pub AreToldBeside : ImageParts → List KeptNode → List Bool → Company → List Outcome → List Outcome → Type 0
AreToldBeside image kept marks company old new =
    ((slice_get marks company.node ≡ Some true) × (new ≡ old))
    ⊎ ((slice_get marks company.node ≡ Some true → ⊥)
    × ((body : List ℕ) × IsStuckBody image kept company body × AddsStuck kept old company.node body new))
