-- A rank whose room was made keeps what it kept.
use Rattle.std.proofs.Common.{◌≡◌, ◌<◌, ◌≤◌, ◌^◌, List, None, sym, subst}
use Rattle.cl_state.specs.declared.state.RankState.{RankState}
use Rattle.cl_state.specs.Rank.{Rank}
use Rattle.cl_state.specs.Room.{rank_of}
use Rattle.cl_trace.specs.declared.events.Event.{Event}
use Rattle.cl_trace.specs.Rising.{last_stamp}
use Rattle.cl_rank.specs.declared.ranks.Rank.{Rank as Running}
use Rattle.cl_rank.specs.Fitting.{RequestsFit}
use Rattle.cl_sides.specs.Sides.{AreSides, sides_in}
use Rattle.cl_rank.proofs.Went.{Keeps}

pub same_keeps : (r : Running) (new : RankState) → rank_of new ≡ rank_of r.state
    → Keeps new r.trace.events r.budget (sides_in r.sends.items r.recvs.items) None None
same_keeps r new same = record {
  low = subst (λ (x : Rank). x.clock < 2 ^ 62) (sym same) r.low;
  within = r.within;
  stamped = subst (λ (x : Rank). last_stamp 0 r.trace.events ≤ x.clock) (sym same) r.stamped;
  sides = subst (λ (x : Rank). AreSides x.site.version x.phases x.clock (sides_in r.sends.items r.recvs.items))
      (sym same) r.sides;
  fit = subst (λ (x : Rank). RequestsFit x.requests x.phases) (sym same) r.fit;
  room = tt;
}

-- so does one that took no turn
pub as_it_was : (r : Running) (new : RankState) (events : List Event) → new ≡ r.state → events ≡ r.trace.events
    → Keeps new events r.budget (sides_in r.sends.items r.recvs.items) r.roomy r.again
as_it_was r new events state none =
    subst (λ s. Keeps s events r.budget (sides_in r.sends.items r.recvs.items) r.roomy r.again) (sym state)
    (subst (λ es. Keeps r.state es r.budget (sides_in r.sends.items r.recvs.items) r.roomy r.again) (sym none)
    (record { low = r.low; within = r.within; stamped = r.stamped; sides = r.sides; fit = r.fit; room = r.room }))
