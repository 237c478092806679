-- What the code keeps of a step: what it sees before it does it, and what that left.
use Rattle.std.specs.Prelude.{ℕ, Option, None, Some, length, slice_get, ◌≡◌, ◌<◌, ◌≤◌}
use Rattle.rv_memory.specs.Access.{word_at}
use Rattle.cl_state.specs.Asked.{asked}
use Rattle.cl_state.specs.Rank.{Rank}
use Rattle.cl_state.specs.Room.{rank_of}
use Rattle.cl_state.specs.declared.state.RankState.{RankState}
use Rattle.cl_machine.specs.declared.steps.Step.{Step}
use Rattle.rvmc_inspect.specs.Below.{ClusterState}
use Rattle.rvmc_sights.specs.Lines.{Sight, box_met, hart_of, overflow_of}
use Rattle.rvmc_sights.specs.declared.lines.After.{After}
use Rattle.rvmc_sights.specs.declared.lines.Seen.{Seen}

-- what was seen before a step, and after it
abbrev pub seen : ℕ → Step → Seen → After → Sight
seen place e before after = record {
  place = place;
  step = e;
  before = before.hart;
  word = before.word;
  box = before.asks;
  after = after.hart;
  overflow = after.overflow;
}

-- nothing is seen only where the rank hasn't the step's hart
abbrev pub IsSeenBefore : Step → Rank → Option Seen → Type 0
IsSeenBefore e rank None = length rank.harts ≤ e.hart
IsSeenBefore e rank (Some s) =
    (s.hart ≡ hart_of e rank)
    × (s.word ≡ word_at rank.memory (hart_of e rank).pc)
    × (s.asks ≡ box_met e.kind (asked rank e.hart))

-- what is seen after it, in its rank
abbrev pub after_of : Step → Rank → After
after_of e rank = record { hart = hart_of e rank; overflow = overflow_of e rank }

abbrev pub IsSeenAfter : Step → Rank → Option After → Type 0
IsSeenAfter e rank None = length rank.harts ≤ e.hart
IsSeenAfter e rank (Some a) = a ≡ after_of e rank

-- whatever its rank is
abbrev pub IsAfter : ClusterState → Step → Option After → Type 0
IsAfter state e after =
    (t : RankState) → slice_get state.ranks.items e.rank ≡ Some t → e.hart < length t.harts.items
    → after ≡ Some (after_of e (rank_of t))
