-- Why a rank on a thread of its own stops.
use Rattle.std.specs.Prelude.{◌≡◌, ◌<◌, ◌-◌, ◌^◌, ◌⊎◌, List, length}
use Rattle.cl_trace.specs.declared.events.Event.{Event}
use Rattle.cl_state.specs.Rank.{Rank}
use Rattle.cl_deeds.specs.Turns.{AllStopped}
use Rattle.cl_rank.specs.declared.stops.Stop.{Stop}
use Rattle.cl_record.specs.Records.{AsksHub, HasTurn}
use Rattle.cl_record.specs.declared.plans.Plan.{Plan}

-- why a rank stopped whose hub stands behind a lock. All harts being stopped is asked first, then the budget, then the
-- rank's own clock; where none of these holds, memory was refused, or the hub refused a call. What the hub held then
-- can't be seen later: of a refusal of its own only what it answered is known
abbrev pub StopsFor : Plan → Rank → List Event → Stop → Type 0
StopsFor plan rank events Stop.AllEnded = AllStopped rank
StopsFor plan rank events Stop.Budget = (¬ (AllStopped rank)) × (length events ≡ plan.budget)
StopsFor plan rank events Stop.Memory = HasTurn plan rank events
StopsFor plan rank events (Stop.ClockFull clock) =
    (clock ≡ 2 ^ 62 - 1)
    × (((clock ≡ rank.clock) × (¬ (AllStopped rank)) × (length events < plan.budget))
    ⊎ (HasTurn plan rank events × AsksHub plan rank events))
StopsFor plan rank events (Stop.Calls calls) =
    (calls ≡ 1048576) × HasTurn plan rank events × AsksHub plan rank events
