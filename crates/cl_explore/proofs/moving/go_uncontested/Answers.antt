use Rattle.std.proofs.Common.{◌≡◌, Bool, true, false, refl, subst, sym}
use Rattle.std.specs.Prelude.{not}
use Rattle.cl_contests.specs.Kept.{search_of}
use Rattle.cl_explore.specs.How.{how_of}
use Rattle.cl_explore.specs.Searching.{GoesOn}
use Rattle.cl_explore.proofs.Covers.{goes_uncontested}
use Rattle.cl_explore.proofs.moving.go_uncontested.Goals as goal

so : (b : Bool) → not b ≡ false → b ≡ true
so true is = refl
so false is = absurd (cc)

pub returns-clause-on : goal.returns-clause-on
returns-clause-on c =
    let kept = c.args.course.now.patterns.now.kept.items in
    let may_wait = c.args.course.now.patterns.now.may_wait in
    subst (λ goes. GoesOn (how_of goes may_wait kept) c.args.course.now.order.now c.args.live.now c.go_first.new.standing)
    (sym c.requires.way)
    (goes_uncontested c.args.course.now.order.now (search_of may_wait kept) c.args.live.now c.go_first.new.standing
    (c.in_ok-went.ensures (so c.in_ok-went.went.within c.if-not-went.false) c.args.course.now.order.now
    (c.is_first_hart.ensures c.if-not-is_first_hart.false)))
