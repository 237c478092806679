use Rattle.std.proofs.Common.{Option, subst, sym}
use Rattle.mp_types.specs.declared.requests.Request.{Request}
use Rattle.cl_rank.specs.Roomy.{IsAgain}
use Rattle.cl_rank.proofs.Anew.{again_stays, asks_so, kept}
use Rattle.cl_rank.proofs.ranks.Rank.put_off.Goals as goal

pub wait_on-requires-clause-may : goal.wait_on-requires-clause-may
wait_on-requires-clause-may c =
    let may = c.requires.may in
    let state = c.args.self.now.state in
    let turn = c.args.turn.now in
    let again = asks_so state turn.hart c.index.result.now turn.doing c.args.request c.index.ensures may.has.there
    may.next.spelled (sym c.if-repeats.ensures) c.requires.asked in
    record {
      has = record { there = may.has.there; low = may.has.low; left = may.has.left; few = may.has.few; space = may.has.space };
      turn = again_stays state turn.hart c.args.request again;
      room = may.room;
    }

pub wait_on-requires-clause-again : goal.wait_on-requires-clause-again
wait_on-requires-clause-again c =
    let may = c.requires.may in
    let state = c.args.self.now.state in
    let turn = c.args.turn.now in
    let again = asks_so state turn.hart c.index.result.now turn.doing c.args.request c.index.ensures may.has.there
    may.next.spelled (sym c.if-repeats.ensures) c.requires.asked in
    subst (λ (o : Option Request). IsAgain state turn.hart o) (sym c.ok.ensures.value)
    (kept state turn.hart c.args.request c.try_copy.result again c.try_copy.ensures.copy)
