-- The change of a step, and of one step after another.
use Rattle.std.specs.Prelude.{ℕ, ◌≡◌, ◌-◌, List, [], ◌∷◌, drop, get_or, length, slice_get, take, Some}
use Rattle.rv_hart.specs.State.{State}
use Rattle.cl_state.specs.Asked.{no_hart}
use Rattle.cl_state.specs.Rank.{Rank}
use Rattle.cl_machine.specs.Cluster.{Cluster, IsStep}
use Rattle.cl_machine.specs.declared.steps.Step.{Step}
use Rattle.rvmc_changes.specs.declared.edits.Edit.{Edit}
use Rattle.rvmc_changes.specs.declared.steps.Stand.{Stand}
use Rattle.rvmc_changes.specs.Edits.{edits_from}
use Rattle.rvmc_changes.specs.Seen.{registers_of}

-- ---- the change of a step

-- of which hart of which rank it was; the hart's pc and mode, its registers and the rank's bytes, old and new; and what
-- was put behind the output
pub record Difference : Type 0 where
  pub rank : ℕ
  pub hart : ℕ
  pub old : Stand
  pub new : Stand
  pub registers : List Edit
  pub bytes : List Edit
  pub put : List ℕ

abbrev pub hart_in : Step → Rank → State
hart_in e rank = get_or rank.harts e.hart no_hart

abbrev pub stand_of : State → Stand
stand_of hart = record { pc = hart.pc; mode = hart.mode }

-- of a step whose rank is this before it, and that after it
abbrev pub difference : Step → Rank → Rank → Difference
difference e before after = record {
  rank = e.rank;
  hart = e.hart;
  old = stand_of (hart_in e before);
  new = stand_of (hart_in e after);
  registers = edits_from 0 (registers_of (hart_in e before)) (registers_of (hart_in e after));
  bytes = edits_from 0 before.memory.bytes after.memory.bytes;
  put = drop (length before.out) after.out;
}

-- of a step that leads from one cluster to another
pub record IsChange (old : Cluster) (e : Step) (new : Cluster) (d : Difference) : Type 0 where
  pub before : Rank
  pub after : Rank
  pub before_there : slice_get old.ranks e.rank ≡ Some before
  pub after_there : slice_get new.ranks e.rank ≡ Some after
  pub is : d ≡ difference e before after

-- of each step of a run that leads from one cluster to another
abbrev pub AreChanges : Cluster → List Step → List Difference → Cluster → Type 0
AreChanges old [] [] new = new ≡ old
AreChanges old [] (d ∷ ds) new = ⊥
AreChanges old (e ∷ es) [] new = ⊥
AreChanges old (e ∷ es) (d ∷ ds) new =
    (mid : Cluster) × IsStep old e mid × IsChange old e mid d × AreChanges mid es ds new

-- ---- between two places

-- the steps from one place of a record to another
abbrev pub stretch : ℕ → ℕ → List Step → List Step
stretch from to steps = take (to - from) (drop from steps)
