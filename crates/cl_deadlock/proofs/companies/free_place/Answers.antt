use Rattle.std.proofs.Common.{get_or, subst}
use Rattle.std.proofs.lemmas.Option.{same_Some}
use Rattle.cl_deadlock.specs.Stuck.{IsFreeIn, IsStuckIn}
use Rattle.cl_deadlock.proofs.InTurn.{all_of, one_more}
use Rattle.cl_deadlock.proofs.companies.free_place.Goals as goal

pub loop-place-preserved : goal.loop-place-preserved
loop-place-preserved c =
    one_more (IsStuckIn c.args.among.now c.args.state.now) c.args.among.now c.loop-place.place c.loop-place-test.true
    c.loop-place.invariant (c.in_ok-is_stuck_beside.ensures.stuck c.if-not-branch.false)

pub returns-then-not-branch-clause-free : goal.returns-then-not-branch-clause-free
returns-then-not-branch-clause-free c = λ place found.
    subst (λ k. IsFreeIn c.args.among.now c.args.state.now (get_or c.args.among.now k 0))
    (same_Some c.loop-place.place place found) (c.in_ok-is_stuck_beside.ensures.free c.if-not-branch.true)

pub returns-clause-none : goal.returns-clause-none
returns-clause-none c = λ none image cluster stands r rank hart among there low.
    all_of (IsStuckIn c.args.among.now c.args.state.now) c.args.among.now c.loop-place.place c.loop-place-test.false
    c.loop-place.invariant r among image cluster stands rank hart there low
