-- Laws of runs, of merges, and of what a run leaves.
use Rattle.std.specs.Prelude.{ℕ, ◌<◌, ◌≤◌, List, [], ◌∷◌, ◌++◌, ◌≡◌, ◌↔◌, map, ⊤}
use Rattle.std.specs.List.{AllByRecursion}
use Rattle.rv_image_types.specs.declared.images.ImageParts.{ImageParts}
use Rattle.rv_image_types.specs.Image.{IsImage}
use Rattle.cl_journal.specs.declared.entries.Entry.{Entry}
use Rattle.cl_deeds.specs.Deeds.{Deed, PartRun}
use Rattle.cl_machine.specs.Boxes.{Box, empty_box}
use Rattle.cl_machine.specs.declared.steps.Step.{Step}
use Rattle.cl_machine.specs.Cluster.{Cluster, IsStep, IsRun, loaded_cluster}
use Rattle.cl_machine.specs.Joined.{Joined}
use Rattle.cl_machine.specs.Merge.{IsMerge}
use Rattle.cl_machine.specs.Order.{InOrder, of_rank}
use Rattle.cl_machine.specs.ProductSteps.{BoxMoves, step_of}

-- a run of a list and one step more is a run of the list, and then the step
abbrev pub AppendLaw : Type 0
AppendLaw =
    (old new : Cluster) (es : List Step) (e : Step)
    → IsRun old (es ++ e ∷ []) new ↔ ((mid : Cluster) × IsRun old es mid × IsStep mid e new)

-- the stamps rise strictly
abbrev pub StampsRise : {X : Type 0} → (X → ℕ) → List X → Type 0
StampsRise stamp [] = ⊤
StampsRise stamp (x ∷ xs) = AllByRecursion (λ y. stamp x < stamp y) xs × StampsRise stamp xs

-- the trace of one rank: its own steps, whose stamps rise
abbrev pub IsTrace : ℕ → List Step → Type 0
IsTrace r steps = StampsRise (λ (e : Step). e.stamp) steps × AllByRecursion (λ (e : Step). e.rank ≡ r) steps

-- the traces of finitely many ranks have a merge
abbrev pub MergeExistsLaw : Type 0
MergeExistsLaw =
    (count : ℕ) (traces : ℕ → List Step)
    → ((r : ℕ) → IsTrace r (traces r)) → ((r : ℕ) → count ≤ r → traces r ≡ [])
    → (steps : List Step) × IsMerge traces steps

-- what a run left, rank by rank, joined: the deeds of each rank are its steps in order
abbrev pub IsJoinedAs : ImageParts → Cluster → List Step → Type 0
IsJoinedAs image final steps =
    (deeds : ℕ → List Deed) × (entries : List Entry)
    × Joined image.links (loaded_cluster image) final deeds entries
    × ((r : ℕ) → map step_of (deeds r) ≡ of_rank (λ (e : Step). e.rank) r steps)

-- every run of an image comes apart into its ranks, its journal and its boxes
abbrev pub JoinedLaw : Type 0
JoinedLaw =
    (image : ImageParts) (steps : List Step) (final : Cluster) → IsImage image
    → IsRun (loaded_cluster image) steps final → IsJoinedAs image final steps

-- ranks that ran apart have a merge of their steps, if each step is its own rank's, and it is a run that ends where
-- they ended
abbrev pub MergedLaw : Type 0
MergedLaw =
    (image : ImageParts) (final : Cluster) (deeds : ℕ → List Deed) (entries : List Entry) → IsImage image
    → Joined image.links (loaded_cluster image) final deeds entries
    → ((r : ℕ) → AllByRecursion (λ (e : Step). e.rank ≡ r) (map step_of (deeds r)))
    → (steps : List Step) × IsMerge (λ r. map step_of (deeds r)) steps × IsRun (loaded_cluster image) steps final

-- the merge of what a run left is a run with the same end, whatever the run's own order was
abbrev pub ReorderLaw : Type 0
ReorderLaw =
    (image : ImageParts) (steps : List Step) (final : Cluster) → IsImage image
    → IsRun (loaded_cluster image) steps final
    → (sorted : List Step) × IsMerge (λ r. of_rank (λ (e : Step). e.rank) r steps) sorted
    × IsRun (loaded_cluster image) sorted final

-- the rule is needed: what a box went through in one order it need not go through in the order of the stamps
abbrev pub GateNeededLaw : Type 0
GateNeededLaw =
    (ds sorted : List Deed)
    × ((new : Box) × PartRun BoxMoves empty_box ds new)
    × ((r : ℕ) → of_rank (λ (d : Deed). d.rank) r sorted ≡ of_rank (λ (d : Deed). d.rank) r ds)
    × InOrder (λ (d : Deed). d.stamp) (λ (d : Deed). d.rank) sorted
    × ((new : Box) → ¬ (PartRun BoxMoves empty_box sorted new))
