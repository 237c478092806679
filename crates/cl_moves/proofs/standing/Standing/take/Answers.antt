use Rattle.std.proofs.Common.{◌≡◌, ◌+◌, Some, ap, arith, slice_get, slice_set, subst, ◌∙◌}
use Rattle.std.proofs.lemmas.Option.{slice_get_read}
use Rattle.cl_moves.specs.Whole.{Follows}
use Rattle.cl_moves.proofs.Ways.{no_such_rank, no_turn, took}
use Rattle.cl_moves.proofs.standing.Standing.take.Goals as goal

pub returns-then-rank-len-clause-takes : goal.returns-then-rank-len-clause-takes
returns-then-rank-len-clause-takes c =
    let had = c.args.self.now.had in
    no_such_rank c.args.self.now c.args.turn
    (omega (arith, c.if-rank-len.true, c.from-rank.ensures, c.rank.ensures, c.len.ensures, had.ok.0))

pub returns-in-Err-NotAStep-clause-takes : goal.returns-in-Err-NotAStep-clause-takes
returns-in-Err-NotAStep-clause-takes c =
    no_turn c.args.self.now c.args.turn (rw c.in-Err-NotAStep.field-0-is at c.in-Err-NotAStep.ensures.fault)

pub returns-clause-takes : goal.returns-clause-takes
returns-clause-takes c =
    let had = c.args.self.now.had in
    let here = slice_get_read had.items c.len.result c.from-rank.result c.index-had.result.now
    (c.len.ensures ∙ had.ok.0) c.if-rank-len.false c.index-had.ensures in
    took c.args.self.now _ c.args.turn c.index-had.result.now c.in_ok-request.request
    (subst (λ r. slice_get had.items r ≡ Some c.index-had.result.now) (c.from-rank.ensures ∙ c.rank.ensures) here)
    c.in-Ok.ensures.leads c.in_ok-request.ensures
    (subst (λ r. Follows c.args.self.now.whole r c.in_ok-request.request c.follow.new.whole) c.rank-2.ensures
    c.in_ok-follow.ensures)
    (ap (λ r. slice_set had.items r (c.index-had.result.now + 1)) (c.from-rank.ensures ∙ c.rank.ensures))
    c.in_ok-push.ensures.items
