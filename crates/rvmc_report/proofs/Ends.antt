-- The ends of ranks, of their states, their traces and their stops.
use Rattle.std.proofs.Common.{◌≡◌, ◌||◌, if◌then◌else◌, Bool, List, [], ◌∷◌, length, refl, ap, arith}
use Rattle.std.specs.List.{list_any}
use Rattle.std.specs.Prelude.{Option, Some}
use Rattle.cl_rank.specs.declared.stops.Stop.{Stop}
use Rattle.cl_record.specs.declared.records.Record.{Record}
use Rattle.cl_state.specs.declared.state.RankState.{RankState}
use Rattle.cl_trace.specs.Traces.{TraceView}
use Rattle.rv_hart.specs.State.{State}
use Rattle.rvmc_report.specs.Report.{ends_of, has_trapped, is_cut_short, rank_ends, status_of, wants_memory}
use Rattle.rvmc_report.specs.WholeRecord.{HasEachRank}

-- the stops are those of the ends
pub any_of_stops : (p : Option Stop → Bool) (states : List RankState) (traces : List TraceView) (stops : List Stop) → length traces ≡ length states → length stops ≡ length states
    → list_any (λ end. p end.stop) (ends_of states traces stops) ≡ list_any (λ stop. p (Some stop)) stops
any_of_stops p [] traces [] t s = refl
any_of_stops p [] traces (stop ∷ stops) t s = absurd (omega (arith, s))
any_of_stops p (state ∷ states) [] stops t s = absurd (omega (arith, t))
any_of_stops p (state ∷ states) (trace ∷ traces) [] t s = absurd (omega (arith, s))
any_of_stops p (state ∷ states) (trace ∷ traces) (stop ∷ stops) t s = ap (λ rest. p (Some stop) || rest) (any_of_stops p states traces stops (omega (arith, t)) (omega (arith, s)))

-- and the harts
pub any_of_harts : (p : List State → Bool) (states : List RankState) (traces : List TraceView) (stops : List Stop) → length traces ≡ length states → length stops ≡ length states
    → list_any (λ end. p end.harts) (ends_of states traces stops) ≡ list_any (λ (state : RankState). p state.harts.items) states
any_of_harts p [] traces stops t s = refl
any_of_harts p (state ∷ states) [] stops t s = absurd (omega (arith, t))
any_of_harts p (state ∷ states) (trace ∷ traces) [] t s = absurd (omega (arith, s))
any_of_harts p (state ∷ states) (trace ∷ traces) (stop ∷ stops) t s =
    ap (λ rest. p state.harts.items || rest) (any_of_harts p states traces stops (omega (arith, t)) (omega (arith, s)))

-- the status by the lists of the record
pub status_by_lists : (left : Record) → HasEachRank left
    → status_of (rank_ends left) ≡ (if list_any (λ stop. wants_memory (Some stop)) left.stops.items then 5
    else (if list_any (λ (state : RankState). has_trapped state.harts.items) left.ranks.items then 3
    else (if list_any (λ stop. is_cut_short (Some stop)) left.stops.items then 4
    else 0)))
status_by_lists left each =
    rw (
      any_of_stops wants_memory left.ranks.items left.traces.items left.stops.items each.traces each.stops,
      any_of_harts has_trapped left.ranks.items left.traces.items left.stops.items each.traces each.stops,
      any_of_stops is_cut_short left.ranks.items left.traces.items left.stops.items each.traces each.stops,
    ) refl
