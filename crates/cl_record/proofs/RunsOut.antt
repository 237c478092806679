-- A rank that stopped for memory.
use Rattle.std.specs.Prelude.{ℕ, ◌≡◌, length, slice_index}
use Rattle.std.proofs.Common.{subst, sym, ap, ◌∙◌}
use mathlib.Core.Logic.{inl, inr}
use Rattle.cl_state.specs.Asked.{asked}
use Rattle.cl_deeds.specs.Memory.{TurnTakesMemory}
use Rattle.cl_rank.specs.Turning.{DeskRule, StopHolds}
use Rattle.cl_rank.specs.declared.stops.Stop.{Stop}
use Rattle.cl_rank.specs.declared.stops.Stop.TheVariants as stop
use Rattle.cl_record.specs.Seats.{MayRunOut, Station}
use Rattle.cl_record.specs.declared.plans.Plan.{Plan}

-- its turn takes some, or calls the hub, which refused it
pub runs_out : {D : Type 0} (gives : DeskRule D) (plan : Plan) (s : Station) (hart room : ℕ) (before after : D) (why : Stop)
    → hart ≡ slice_index plan.order.items s.next → why ≡ stop.Memory
    → StopHolds gives hart s.rank room (length s.events) s.budget before after why → MayRunOut plan s room
runs_out gives plan s hart room before after why is memory (inr refused) =
    let asks = refused.1.3 in inr (asks.0, ap (asked s.rank) (sym is) ∙ asks.1)
runs_out gives plan s hart room before after stop.Memory is memory (inl own) =
    inl (subst (λ (h : ℕ). TurnTakesMemory s.rank room h) is own.0.1)
runs_out gives plan s hart room before after stop.AllEnded is memory (inl own) = absurd (cc)
runs_out gives plan s hart room before after stop.Budget is memory (inl own) = absurd (cc)
runs_out gives plan s hart room before after (stop.ClockFull c) is memory (inl own) = absurd (cc)
runs_out gives plan s hart room before after (stop.Calls n) is memory (inl own) = absurd (cc)
