use Rattle.std.proofs.Common.{subst}
use Rattle.cl_moves.specs.Standing.{Takes}
use Rattle.cl_contests.specs.Kept.{search_of}
use Rattle.cl_contests.specs.Lone.{IsNextTurn}
use Rattle.cl_contests.specs.Turns.{TellsWithin}
use Rattle.cl_contests.proofs.Leading.{within_alone, within_more, within_stays}
use Rattle.cl_contests.proofs.Others.{next_taken}
use Rattle.cl_contests.proofs.first.go_on.Goals as goal

pub loop-round-init : goal.loop-round-init
loop-round-init c = within_stays c.args.patterns.now.may_wait c.args.patterns.now.kept.items c.args.standing.now

pub returns-then-is_enough : goal.returns-then-is_enough
returns-then-is_enough c =
    let may_wait = c.args.patterns.now.may_wait in
    let kept = c.args.patterns.now.kept.items in
    within_more may_wait kept c.args.standing.now c.loop-round.standing c.all_alone.new.standing c.loop-round.invariant
    (within_alone may_wait kept c.loop-round.standing c.all_alone.new.standing c.in_ok-more.ensures)

pub returns-in_default : goal.returns-in_default
returns-in_default c =
    let may_wait = c.args.patterns.now.may_wait in
    let kept = c.args.patterns.now.kept.items in
    within_more may_wait kept c.args.standing.now c.loop-round.standing c.all_alone.new.standing c.loop-round.invariant
    (within_alone may_wait kept c.loop-round.standing c.all_alone.new.standing c.in_ok-more.ensures)

pub loop-round-preserved : goal.loop-round-preserved
loop-round-preserved c =
    let may_wait = c.args.patterns.now.may_wait in
    let kept = c.args.patterns.now.kept.items in
    let mid = c.all_alone.new.standing in
    let new = c.take.new.self in
    let turn = c.in-Some.turn in
    let within = subst (λ b. TellsWithin (search_of may_wait kept) mid b) c.if-not-branch.false c.in_ok-all_within.ensures in
    let first = subst (λ o. IsNextTurn (search_of may_wait kept) mid o) c.in-Some.is c.in_ok-turn.ensures in
    let took = subst (λ b. Takes mid turn new b) c.if-not-branch-2.false c.in_ok-take.ensures.takes in
    within_more may_wait kept c.args.standing.now c.loop-round.standing new c.loop-round.invariant
    (within_more may_wait kept c.loop-round.standing mid new
    (within_alone may_wait kept c.loop-round.standing mid c.in_ok-more.ensures)
    (next_taken may_wait kept mid new turn within first took))
