use Rattle.std.proofs.Common.{get_or, subst, true, false}
use Rattle.std.proofs.lemmas.Option.{same_Some}
use Rattle.cl_rests.specs.Held.{TellsHeldUp}
use Rattle.cl_deadlock.proofs.InTurn.{all_of, one_more}
use Rattle.cl_rests.proofs.buffering.free_place.Goals as goal

pub loop-place-preserved : goal.loop-place-preserved
loop-place-preserved c =
    let among = c.args.among.now in
    let standing = c.args.standing.now in
    one_more (λ r. TellsHeldUp among standing r true) among c.loop-place.place c.loop-place-test.true
    c.loop-place.invariant
    (subst (TellsHeldUp among standing (get_or among c.loop-place.place 0)) c.if-not-branch.false
    c.in_ok-is_held_up.ensures)

pub returns-then-not-branch-clause-free : goal.returns-then-not-branch-clause-free
returns-then-not-branch-clause-free c = λ place found.
    let among = c.args.among.now in
    let standing = c.args.standing.now in
    subst (λ k. TellsHeldUp among standing (get_or among k 0) false) (same_Some c.loop-place.place place found)
    (subst (TellsHeldUp among standing (get_or among c.loop-place.place 0)) c.if-not-branch.true
    c.in_ok-is_held_up.ensures)

pub returns-clause-none : goal.returns-clause-none
returns-clause-none c = λ none image here is r rank hart within there low.
    all_of (λ r. TellsHeldUp c.args.among.now c.args.standing.now r true) c.args.among.now c.loop-place.place
    c.loop-place-test.false c.loop-place.invariant r within image here is rank hart there low
