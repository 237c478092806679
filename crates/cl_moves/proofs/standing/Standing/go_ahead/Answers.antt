use Rattle.std.proofs.Common.{◌∙◌, subst, sym}
use Rattle.cl_moves.specs.Ahead.{IsAloneNext}
use Rattle.cl_moves.specs.Cycles.{kept_in}
use Rattle.cl_moves.specs.Standing.{Takes}
use Rattle.cl_moves.proofs.Rounds.{same_place}
use Rattle.cl_moves.proofs.Going.{ahead_more, ahead_one, ahead_stays, ahead_taken, alone_needs}
use Rattle.cl_moves.proofs.Watched.{trail_back, trail_shown, trail_starts, trail_taken}
use Rattle.cl_moves.proofs.standing.Standing.go_ahead.Goals as goal

pub loop-turn-init : goal.loop-turn-init
loop-turn-init c =
    let order = c.args.order.now in
    record {
      ahead = ahead_stays order c.args.self.now;
      trail = trail_starts order order c.args.rank c.args.self.now (kept_in c.new-watch.result) c.new-watch.ensures;
    }

pub returns-then-not-branch-clause-ahead : goal.returns-then-not-branch-clause-ahead
returns-then-not-branch-clause-ahead c =
    let order = c.args.order.now in
    let turn = subst (λ o. IsAloneNext order c.loop-turn.self c.args.rank o) c.in-Some.is c.in_ok-turn.ensures in
    ahead_more order c.args.self.now c.loop-turn.self c.take.new.self c.loop-turn.invariant.ahead
    (ahead_taken order c.loop-turn.self c.take.new.self c.args.rank c.in-Some.turn turn c.in_ok-take.field-0
    c.in_ok-take.ensures.takes)

pub returns-then-branch : goal.returns-then-branch
returns-then-branch c =
    let order = c.args.order.now in
    let old = c.args.self.now in
    let mid = c.loop-turn.self in
    let new = c.take.new.self in
    let turn = subst (λ o. IsAloneNext order mid c.args.rank o) c.in-Some.is c.in_ok-turn.ensures in
    let took = subst (Takes mid c.in-Some.turn new) c.if-not-branch.false c.in_ok-take.ensures.takes in
    record {
      ahead = ahead_more order old mid new c.loop-turn.invariant.ahead
          (ahead_one order mid new c.args.rank c.in-Some.turn turn took);
      round = λ is.
          trail_back order order c.args.rank old new c.loop-turn.watch
          (λ n m first other. same_place order n m (first ∙ sym other))
          (trail_taken order order c.args.rank 0 old mid new (kept_in c.loop-turn.watch) c.in-Some.turn turn.rank_is
          (alone_needs order mid c.args.rank c.in-Some.turn turn) took c.loop-turn.invariant.trail)
          (c.in_ok-is_back.ensures.back c.if-branch.true);
    }

pub loop-turn-preserved : goal.loop-turn-preserved
loop-turn-preserved c =
    let order = c.args.order.now in
    let old = c.args.self.now in
    let mid = c.loop-turn.self in
    let new = c.take.new.self in
    let turn = subst (λ o. IsAloneNext order mid c.args.rank o) c.in-Some.is c.in_ok-turn.ensures in
    let took = subst (Takes mid c.in-Some.turn new) c.if-not-branch.false c.in_ok-take.ensures.takes in
    record {
      ahead = ahead_more order old mid new c.loop-turn.invariant.ahead
          (ahead_one order mid new c.args.rank c.in-Some.turn turn took);
      trail = trail_shown order order c.args.rank 1 old new c.loop-turn.watch c.is_back.new.watch
          (trail_taken order order c.args.rank 0 old mid new (kept_in c.loop-turn.watch) c.in-Some.turn turn.rank_is
          (alone_needs order mid c.args.rank c.in-Some.turn turn) took c.loop-turn.invariant.trail)
          c.in_ok-is_back.ensures.kept;
    }
