-- That a list of ends is one to the letter.
use Rattle.std.specs.Prelude.{ℕ, ◌<◌, ◌≡◌, ◌↔◌, Bool, List, [], length, map, nat_lt, slice_get, Some}
use Rattle.std.specs.Cmp.Lexicographic.{slice_cmp}
use Rattle.std.specs.FinSet.{FinSet, from_list}
use Rattle.std.specs.List.{filter}
use Rattle.std.specs.Ordering.{nat_cmp}
use Rattle.rv_image_types.specs.Image.{IsImage}
use Rattle.rv_image_types.specs.declared.images.ImageParts.{ImageParts}
use Rattle.cl_deadlock_laws.specs.Stuck.{IsReachable}
use Rattle.cl_explore.specs.Ends.{AreAlikeEnds}
use Rattle.cl_machine.specs.Cluster.{Cluster}
use Rattle.cl_replay.specs.States.{ClusterStandsFor}
use Rattle.cl_replay.specs.declared.states.ClusterState.{ClusterState}
use Rattle.rvmc_explore.specs.Ends.{IsEndText}
use Rattle.rvmc_explore.specs.OneList.{TellsEnd}
use Rattle.rvmc_explore.specs.Outcomes.{HasBody, IsEndOutcome, IsListOf}
use Rattle.rvmc_explore.specs.declared.outcomes.Outcome.{Outcome}
use Rattle.rvmc_text_laws.specs.Laws.{AreAlikeStates}

-- what `explore` tells of alike ends is one text
abbrev pub EndTextLaw : Type 0
EndTextLaw =
    (order : List ℕ) (image : ImageParts) (a b : ClusterState) (x y : List ℕ) → IsImage image → AreAlikeStates image a b
    → IsEndText order image a [] x → IsEndText order image b [] y
    → x ≡ y

-- the outcome of this number in the list is an end, with this cluster
pub record IsEndAt (image : ImageParts) (order : List ℕ) (told : List Outcome) (k : ℕ) (end : Cluster) : Type 0 where
  pub outcome : Outcome
  pub there : slice_get told k ≡ Some outcome
  pub is : IsEndOutcome order image outcome
  pub cluster_is : (is.node).cluster ≡ end

-- each outcome of the list is an end
abbrev pub AreEndsAlone : List ℕ → ImageParts → List Outcome → Type 0
AreEndsAlone order image told =
    (k : ℕ) (outcome : Outcome) → slice_get told k ≡ Some outcome → IsEndOutcome order image outcome

-- the list has this text, and it is that of some of the ends that were found
abbrev pub HasEndBody : List Outcome → List ℕ → Type 0
HasEndBody told body =
    (k : ℕ) × (outcome : Outcome) × (slice_get told k ≡ Some outcome) × (0 < outcome.ends) × (outcome.body.items ≡ body)

-- a set of texts
abbrev pub Texts : Type 0
Texts = FinSet (slice_cmp nat_cmp)

-- the texts of ends in a list
abbrev pub end_texts : List Outcome → Texts
end_texts told =
    from_list (map (λ (outcome : Outcome). outcome.body.items) (filter (λ (outcome : Outcome). nat_lt 0 outcome.ends) told))

-- these are the texts of ends that a search within these bounds lists, if it left no state
pub record ListsEnds (image : ImageParts) (order : List ℕ) (buffered : Bool) (states turns : ℕ) (texts : Texts) : Type 0 where
  pub told : List Outcome
  pub listed : IsListOf image order buffered states turns told
  pub whole : (listed.found).left ≡ 0
  pub are : texts ≡ end_texts told

-- two lists have the same texts, and equally many
abbrev pub HaveSameTexts : List Outcome → List Outcome → Type 0
HaveSameTexts told other = ((body : List ℕ) → HasBody told body ↔ HasBody other body) × (length told ≡ length other)

-- of lists of one image and one order, whatever their bounds. `one_list_law` has which ends they tell
pub record OneTextLaw : Type 0 where
  -- the text by which a list tells the end of a run is that of this end, in full
  pub exactly : (image : ImageParts) (order : List ℕ) (buffered : Bool) (states turns : ℕ) (told : List Outcome)
      → (listed : IsListOf image order buffered states turns told) → IsImage image
      → (end : Cluster) → IsReachable image end → (tells : TellsEnd image order buffered states turns told listed end)
      → (state : ClusterState) (text : List ℕ) → ClusterStandsFor image state end → IsEndText order image state [] text
      → tells.body ≡ text
  -- no two ends of a list are alike
  pub apart : (image : ImageParts) (order : List ℕ) (buffered : Bool) (states turns : ℕ) (told : List Outcome)
      → IsListOf image order buffered states turns told → IsImage image
      → (k j : ℕ) (one other : Cluster) → IsEndAt image order told k one
      → IsEndAt image order told j other → AreAlikeEnds one other
      → k ≡ j
  -- each text of an end in one list is in each other one of a search that left no state
  pub texts : (image : ImageParts) (order : List ℕ) (buffered copied : Bool) (states turns more longer : ℕ)
      (told other : List Outcome)
      → (one : IsListOf image order buffered states turns told) → (two : IsListOf image order copied more longer other)
      → (two.found).left ≡ 0 → IsImage image
      → (k : ℕ) (outcome : Outcome) → slice_get told k ≡ Some outcome → IsEndOutcome order image outcome
      → HasBody other outcome.body.items
  -- if two searches left no state, both lists have the same texts of ends, whatever else they tell
  pub same_ends : (image : ImageParts) (order : List ℕ) (buffered copied : Bool) (states turns more longer : ℕ)
      (told other : List Outcome)
      → (one : IsListOf image order buffered states turns told) → (two : IsListOf image order copied more longer other)
      → (one.found).left ≡ 0 → (two.found).left ≡ 0 → IsImage image
      → (body : List ℕ) → HasEndBody told body ↔ HasEndBody other body
  -- so what such searches list has one value at most, as a set of texts, whatever their bounds
  pub one_set : (image : ImageParts) (order : List ℕ) (buffered copied : Bool) (states turns more longer : ℕ)
      (texts other : Texts) → IsImage image → ListsEnds image order buffered states turns texts
      → ListsEnds image order copied more longer other
      → texts ≡ other
  -- if two searches left no state, and their lists tell of ends alone, both lists have the same texts, and equally many. So
  -- they differ in the order of their outcomes, if at all
  pub same : (image : ImageParts) (order : List ℕ) (buffered copied : Bool) (states turns more longer : ℕ)
      (told other : List Outcome)
      → (one : IsListOf image order buffered states turns told) → (two : IsListOf image order copied more longer other)
      → (one.found).left ≡ 0 → (two.found).left ≡ 0 → IsImage image
      → AreEndsAlone order image told → AreEndsAlone order image other
      → HaveSameTexts told other
