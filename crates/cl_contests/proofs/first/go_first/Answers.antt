use Rattle.std.proofs.Common.{subst}
use Rattle.cl_contests.specs.Kept.{search_of}
use Rattle.cl_contests.specs.Turns.{GoesInVain, GoesWithin, TellsWithin}
use Rattle.cl_contests.proofs.Leading.{went_first}
use Rattle.cl_contests.proofs.first.go_first.Goals as goal

pub returns : goal.returns
returns c = λ yes.
    let may_wait = c.args.patterns.now.may_wait in
    let kept = c.args.patterns.now.kept.items in
    let old = c.args.standing.now in
    let mid = c.go_on.new.standing in
    let new = c.poll_all.new.standing in
    went_first may_wait kept old mid new
    (subst (λ b. GoesWithin (search_of may_wait kept) old mid b) c.if-not-went.false c.in_ok-went.ensures)
    (subst (λ b. TellsWithin (search_of may_wait kept) mid b) c.if-not-within.false c.in_ok-within.ensures)
    (subst (λ b. GoesInVain mid new b) c.if-not-branch.false c.in_ok-poll_all.ensures)
