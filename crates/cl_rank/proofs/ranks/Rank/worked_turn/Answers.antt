use Rattle.std.proofs.Common.{refl}
use Rattle.cl_state.specs.declared.asking.Ask.TheVariants as ask
use Rattle.cl_state.specs.declared.state.RankState.{RankState}
use Rattle.cl_rank.specs.Known.{IsKnown}
use Rattle.cl_rank.proofs.Known.{has_room}
use Rattle.cl_rank.proofs.Ends.{by_hart, is_active}
use Rattle.cl_rank.proofs.SameEnds.{quiet_ends, same_ends}
use Rattle.cl_rank.proofs.ranks.Rank.worked_turn.Goals as goal

pub call_hub-requires-clause-may : goal.call_hub-requires-clause-may
call_hub-requires-clause-may g c =
    let has = c.requires.has in
    let it = c.in-Some in
    let old : RankState = c.args.self.now.state in
    let new : RankState = record old { fresh = c.new-in-Some.result } in
    let was = it.ensures.known in
    let at = was.next in
    let turn : IsKnown new it.turn (ask.Hub it.request) = record {
      next = record { there = at.there; spelled = at.spelled; right = at.right; running = at.running };
      row = was.row;
      asks_for = was.asks_for;
      quiet = was.quiet;
      pages = was.pages;
    } in
    record {
      has = record { there = at.there; low = has.low; left = has.left; few = has.few; space = has.space };
      next = turn.next;
      row = turn.row;
      room = has_room new it.turn (ask.Hub it.request) turn c.new-in-Some.ensures.items;
    }

pub call_hub-requires-clause-asked : goal.call_hub-requires-clause-asked
call_hub-requires-clause-asked g c = c.in-Some.ensures.known.asks_for

pub returns-in-Some : goal.returns-in-Some
returns-in-Some g c =
    same_ends g.D.Desk.gives c.args.hart c.args.self.now c.args.channels.now _ refl refl refl c.call_hub.result
    c.call_hub.new.self c.args.desk.now c.call_hub.new.desk (λ none. none)
    (by_hart c.in-Some.ensures.hart (c.call_hub.ensures c.args.channels.now c.requires.own))

pub returns-then-ready_turn : goal.returns-then-ready_turn
returns-then-ready_turn g c =
    quiet_ends g.D.Desk.gives c.args.hart c.args.self.now c.args.channels.now _ refl refl refl _ c.args.desk.now
    (is_active c.args.self.now c.args.hart c.requires.active c.requires.has) c.requires.own
    (c.ready_turn.ensures.turned c.if-ready_turn.true)

pub returns-then-look_turn : goal.returns-then-look_turn
returns-then-look_turn g c =
    quiet_ends g.D.Desk.gives c.args.hart c.args.self.now c.args.channels.now _ refl refl refl _ c.args.desk.now
    (is_active c.args.self.now c.args.hart c.requires.active c.requires.has) c.requires.own
    (c.look_turn.ensures.turned c.if-look_turn.true)
