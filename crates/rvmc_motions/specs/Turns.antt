-- Why a motion ends at a place of a record, by the turn that leads there and the turn that comes next.
use Rattle.std.specs.Prelude.{ℕ, ◌≡◌, ◌+◌, ◌-◌, Bool, true, false, not, List, slice_get, Option, Some, None}
use Rattle.std.specs.Prelude.{◌==◌, ◌&&◌, if◌then◌else◌, option_map}
use Rattle.std.specs.Option.{option_or}
use Rattle.rv_hart.specs.State.{State, is_stopped}
use Rattle.rv_hart.specs.declared.state.Mode.{Mode}
use Rattle.rv_hart.specs.declared.state.Mode.TheVariants.{Running, Waiting, Ended, Trapped}
use Rattle.rv_image_types.specs.declared.images.ImageParts.{ImageParts}
use Rattle.cl_state.specs.Rank.{Rank}
use Rattle.cl_machine.specs.Cluster.{Cluster}
use Rattle.cl_machine.specs.declared.steps.Step.{Step}
use Rattle.cl_debug.specs.Places.{IsAt}
use Rattle.rvmc_protocol.specs.declared.replies.stops.Stop.{Stop}
use Rattle.rvmc_protocol.specs.declared.replies.stops.Stop.TheVariants as stops
use Rattle.rvmc_motions.specs.declared.marks.Halt.{Halt}
use Rattle.rvmc_motions.specs.declared.marks.Mark.{Mark}
use Rattle.rvmc_motions.specs.declared.marks.Motion.{Motion}
use Rattle.rvmc_motions.specs.declared.marks.Motion.TheVariants as motions
use Rattle.rvmc_motions.specs.declared.marks.Mover.{Mover}
use Rattle.rvmc_motions.specs.declared.marks.Ranks.{Ranks}
use Rattle.rvmc_motions.specs.declared.turns.Whose.{Whose}
use Rattle.rvmc_motions.specs.Marks.{broken, covers}
use Rattle.rvmc_motions.specs.Watching.{Watched, seen_all, watched}

-- the cluster as it is at each place of the record
abbrev pub IsHistory : ImageParts → List Step → (ℕ → Cluster) → Type 0
IsHistory image steps history = (n : ℕ) (cluster : Cluster) → IsAt image steps n cluster → cluster ≡ history n

-- whose turn a step is, if its rank is one of these
abbrev pub own_turn : Ranks → Option Step → Option Whose
own_turn ranks None = None
own_turn ranks (Some e) = if covers ranks e.rank then Some (record { rank = e.rank; hart = e.hart }) else None

abbrev pub at_turn : Whose → Option Stop → Option Halt
at_turn turn stop = option_map (λ told. record { stop = told; rank = turn.rank; hart = turn.hart }) stop

-- the hart is there, and isn't stopped: a hart that is idles in its turns
abbrev pub is_live : Option State → Bool
is_live None = false
is_live (Some hart) = not (is_stopped hart.mode)

-- ---- breakpoints: before the instruction of the hart whose turn comes next; an idle turn meets none

abbrev pub broken_at : ℕ → List Mark → Option State → Option Stop
broken_at rank marks None = None
broken_at rank marks (Some hart) = if is_stopped hart.mode then None else broken rank hart.pc marks

abbrev pub break_at : List Mark → Whose → Option Rank → Option Halt
break_at marks turn None = None
break_at marks turn (Some owner) = at_turn turn (broken_at turn.rank marks (slice_get owner.harts turn.hart))

-- ---- steps: behind a turn of the hart that isn't idle, and after which it doesn't wait

abbrev pub is_waiting : Mode → Bool
is_waiting Running = false
is_waiting (Waiting wait) = true
is_waiting (Ended code) = false
is_waiting (Trapped cause pc) = false

abbrev pub goes_on : Option State → Bool
goes_on None = false
goes_on (Some hart) = not (is_waiting hart.mode)

-- the turn is one of the hart that is meant
abbrev pub is_meant : Mover → Whose → Bool
is_meant mover turn = turn.rank == mover.rank && turn.hart == mover.hart

abbrev pub stepped : Mover → Whose → Bool → Rank → Option Halt
stepped mover turn live behind =
    if is_meant mover turn && (live && goes_on (slice_get behind.harts turn.hart))
    then Some (record { stop = stops.Step; rank = turn.rank; hart = turn.hart }) else None

-- ---- what a motion ends for: a step for a watchpoint, or a step of its hart, and a run for a watchpoint or a breakpoint

abbrev pub step_stop : Motion → Mover → Whose → Bool → Rank → Option Halt
step_stop motions.Step mover turn live behind = stepped mover turn live behind
step_stop motions.Run mover turn live behind = None

abbrev pub place_stop : Motion → List Mark → Option Whose → Cluster → Option Halt
place_stop motions.Step marks turn cluster = None
place_stop motions.Run marks None cluster = None
place_stop motions.Run marks (Some turn) cluster = break_at marks turn (slice_get cluster.ranks turn.rank)

-- for a turn, by what was seen before it and the rank behind it
abbrev pub stop_behind : Mover → Whose → Bool → List Watched → Rank → Option Halt
stop_behind mover turn live seen behind =
    option_or (at_turn turn (watched behind.memory seen)) (step_stop mover.motion mover turn live behind)

-- and by the rank before it
abbrev pub stop_between : Mover → List Mark → Whose → Option Rank → Option Rank → Option Halt
stop_between mover marks turn None behind = None
stop_between mover marks turn (Some before) None = None
stop_between mover marks turn (Some before) (Some behind) =
    stop_behind mover turn (is_live (slice_get before.harts turn.hart)) (seen_all before turn.rank turn.hart marks) behind

abbrev pub turn_stop : Mover → List Mark → Option Whose → Cluster → Cluster → Option Halt
turn_stop mover marks None before behind = None
turn_stop mover marks (Some turn) before behind =
    stop_between mover marks turn (slice_get before.ranks turn.rank) (slice_get behind.ranks turn.rank)

-- ---- at the places of a record, whose history this is

-- for the turn from place n to the next
abbrev pub turn_at : Mover → List Mark → List Step → (ℕ → Cluster) → ℕ → Option Halt
turn_at mover marks steps history n =
    turn_stop mover marks (own_turn mover.ranks (slice_get steps n)) (history n) (history (n + 1))

-- for the turn that comes next at place n
abbrev pub next_at : Mover → List Mark → List Step → (ℕ → Cluster) → ℕ → Option Halt
next_at mover marks steps history n =
    place_stop mover.motion marks (own_turn mover.ranks (slice_get steps n)) (history n)

-- forwards a motion ends behind the turn for which it ends, or before an instruction with a breakpoint
abbrev pub forward_stop : Mover → List Mark → List Step → (ℕ → Cluster) → ℕ → Option Halt
forward_stop mover marks steps history n =
    option_or (turn_at mover marks steps history (n - 1)) (next_at mover marks steps history n)

-- and backwards before both
abbrev pub backward_stop : Mover → List Mark → List Step → (ℕ → Cluster) → ℕ → Option Halt
backward_stop mover marks steps history n =
    option_or (turn_at mover marks steps history n) (next_at mover marks steps history n)
