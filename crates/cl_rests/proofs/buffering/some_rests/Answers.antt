use Rattle.std.proofs.Common.{◌==◌, refl, subst, false, get_or}
use Rattle.std.proofs.lemmas.Bool.{eq-eqb}
use Rattle.std.proofs.lemmas.List.Folds.{list_any_at}
use Rattle.cl_deadlock.proofs.InTurn.{all_of, one_more}
use Rattle.cl_rests.specs.Held.{TellsMayGoOn}
use Rattle.cl_rests.proofs.Held.{none_rests, one_rests}
use Rattle.cl_rests.proofs.buffering.some_rests.Goals as goal

pub loop-place-preserved : goal.loop-place-preserved
loop-place-preserved c =
    let among = c.args.among.now in
    let standing = c.args.standing.now in
    one_more (λ r. TellsMayGoOn among standing r false) among c.loop-place.place c.loop-place-test.true
    c.loop-place.invariant
    (subst (TellsMayGoOn among standing (get_or among c.loop-place.place 0)) c.if-branch.false
    c.in_ok-may_go_on_beside.ensures)

pub returns-then-branch : goal.returns-then-branch
returns-then-branch c = λ image here is.
    let among = c.args.among.now in
    let place = c.loop-place.place in
    one_rests among here.cluster (get_or among place 0) is.one
    (list_any_at (λ k. k == get_or among place 0) among place 0 c.loop-place-test.true
    (eq-eqb (get_or among place 0) (get_or among place 0) refl))
    (subst (TellsMayGoOn among c.args.standing.now (get_or among place 0)) c.if-branch.true
    c.in_ok-may_go_on_beside.ensures image here is.stands)

pub returns : goal.returns
returns c = λ image here is.
    let among = c.args.among.now in
    none_rests among here.cluster is.one (λ r within.
    all_of (λ r. TellsMayGoOn among c.args.standing.now r false) among c.loop-place.place
    c.loop-place-test.false c.loop-place.invariant r within image here is.stands)
