-- Laws of steps and runs.
use Rattle.std.specs.Prelude.{List, [], ◌∷◌, ◌++◌, ◌≡◌, ◌↔◌, Option, None, Some, ⊤, ℕ, map}
use Rattle.std.specs.List.{last_or}
use Rattle.cl_machine.specs.declared.steps.Step.{Step}
use Rattle.cl_machine.specs.Order.{Before, InOrder}
use Rattle.cl_machine.specs.Cluster.{Cluster, IsStep, IsRun, loaded_cluster}
use Rattle.cl_machine.specs.ProductSteps.{PartsStep, step_of}
use Rattle.rv_image_types.specs.declared.images.ImageParts.{ImageParts}
use Rattle.rv_image_types.specs.Image.{IsImage}
use Rattle.cl_journal.specs.declared.entries.Entry.{Entry}
use Rattle.cl_deeds.specs.Deeds.{Deed}
use Rattle.cl_machine.specs.Merge.{IsMerge}
use Rattle.cl_machine.specs.Joined.{Joined}

-- the table and the product of parts are the same step
abbrev pub TableLaw : Type 0
TableLaw = (old : Cluster) (e : Step) (new : Cluster) → PartsStep old e new ↔ IsStep old e new

-- a list of steps leads to one cluster at most
abbrev pub OneEnd : Type 0
OneEnd = (start a b : Cluster) (es : List Step) → IsRun start es a → IsRun start es b → a ≡ b

-- the steps are a run from the start, and in order
abbrev pub IsGood : Cluster → List Step → Type 0
IsGood start es = ((end : Cluster) × IsRun start es end) × InOrder (λ (e : Step). e.stamp) (λ (e : Step). e.rank) es

-- e comes after this one, if there is one
abbrev pub ComesAfter : Option Step → Step → Type 0
ComesAfter None e = ⊤
ComesAfter (Some last) e = Before (λ (e : Step). e.stamp) (λ (e : Step). e.rank) last e

-- with e behind it a run in order stays one just where e is a step of the cluster that was reached and comes after the
-- step before it
abbrev pub StepByStep : Type 0
StepByStep =
    (start end : Cluster) (es : List Step) (e : Step) → IsRun start es end
    → InOrder (λ (e : Step). e.stamp) (λ (e : Step). e.rank) es
    → (IsGood start (es ++ e ∷ []) ↔ (((new : Cluster) × IsStep end e new) × ComesAfter (last_or None es) e))

-- all ranks' deeds, put in order of their stamps, are one run from the loaded cluster, which ends where the parts ended
abbrev pub OrderLaw : Type 0
OrderLaw =
    (image : ImageParts) (final : Cluster) (deeds : ℕ → List Deed) (entries : List Entry) (steps : List Step)
    → IsImage image
    → Joined image.links (loaded_cluster image) final deeds entries
    → IsMerge (λ r. map step_of (deeds r)) steps
    → IsRun (loaded_cluster image) steps final

-- there is one merge at most
abbrev pub OneMerge : Type 0
OneMerge = (traces : ℕ → List Step) (a b : List Step) → IsMerge traces a → IsMerge traces b → a ≡ b
