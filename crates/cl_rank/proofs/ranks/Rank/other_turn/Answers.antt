use Rattle.std.proofs.Common.{◌≡◌, Some, refl, rules}
use Rattle.cl_rank.proofs.Stayed.{asks_again, waits_on}
use Rattle.cl_state.specs.declared.state.RankState.{RankState}
use Rattle.cl_rank.specs.QuickReceives.{Receives, request_in}
use Rattle.cl_rank.proofs.QuickReceives.{has_room}
use Rattle.cl_rank.proofs.SameEnds.{same_ends}
use Rattle.cl_rank.proofs.ranks.Rank.other_turn.Goals as goal

pub known-requires : goal.known-requires
known-requires g c =
    let is : c.args.self.now.roomy ≡ Some c.args.hart = search (rules, c.if-eq.ensures) in
    asks_again c.args.self.now c.args.hart is

pub poll_again-requires-clause-may : goal.poll_again-requires-clause-may
poll_again-requires-clause-may g c =
    let is : c.args.self.now.roomy ≡ Some c.args.hart = search (rules, c.if-eq.ensures) in
    waits_on c.args.self.now c.args.hart c.in-Some.request c.requires.has is c.in-Some.ensures

pub poll_again-requires-clause-again : goal.poll_again-requires-clause-again
poll_again-requires-clause-again g c =
    let is : c.args.self.now.roomy ≡ Some c.args.hart = search (rules, c.if-eq.ensures) in
    asks_again c.args.self.now c.args.hart is

pub returns-in-Some : goal.returns-in-Some
returns-in-Some g c = c.poll_again.ensures c.args.channels.now c.requires.own

pub receive-requires-clause-may : goal.receive-requires-clause-may
receive-requires-clause-may g c =
    let has = c.requires.has in
    let it = c.in-Some-received in
    let old : RankState = c.args.self.now.state in
    let new : RankState = record old { fresh = c.new-in-Some-received.result } in
    let was = it.ensures in
    let turn : Receives new c.args.hart it.receiving (request_in new it.receiving) =
    record { turn = was.turn; moves = was.moves; asks = was.asks; roomy = was.roomy } in
    record {
      has = record { there = has.there; low = has.low; left = has.left; few = has.few; space = has.space };
      turn = turn;
      room = has_room new c.args.hart it.receiving (request_in new it.receiving) turn c.new-in-Some-received.ensures.items;
    }

pub returns-in-Some-sent : goal.returns-in-Some-sent
returns-in-Some-sent g c =
    same_ends g.D.Desk.gives c.args.hart c.args.self.now c.args.channels.now _ refl refl refl c.send.result
    c.send.new.self c.args.desk.now c.send.new.desk (λ none. none) (c.send.ensures c.args.channels.now c.requires.own)

pub returns-in-Some-received : goal.returns-in-Some-received
returns-in-Some-received g c =
    same_ends g.D.Desk.gives c.args.hart c.args.self.now c.args.channels.now _ refl refl refl c.receive.result
    c.receive.new.self c.args.desk.now c.receive.new.desk (λ none. none) (c.receive.ensures c.args.channels.now c.requires.own)

pub returns : goal.returns
returns g c =
    same_ends g.D.Desk.gives c.args.hart c.args.self.now c.args.channels.now _ refl refl refl c.worked_turn.result
    c.worked_turn.new.self c.args.desk.now c.worked_turn.new.desk (λ none. none) c.worked_turn.ensures
