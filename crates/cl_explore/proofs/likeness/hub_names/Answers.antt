use Rattle.std.proofs.Common.{Bool, IfOk, IfSome, List, subst, sym}
use Rattle.cl_moves.proofs.Asking.{if_ok_on}
use Rattle.cl_contests.specs.declared.patterns.AskedBy.{AskedBy}
use Rattle.cl_explore.specs.Likeness.{AreNamedIn}
use Rattle.cl_explore.specs.How.{how_of}
use Rattle.cl_explore.proofs.Alike.{if_live_named, if_named}
use Rattle.cl_explore.proofs.likeness.hub_names.Goals as goal

pub returns-in-Plainly : goal.returns-in-Plainly
returns-in-Plainly c =
    if_ok_on c.alike_names.result (if_named (how_of c.args.way) c.args.standing.now.whole c.args.kept.now.whole) c.alike_names.ensures.some

pub returns-in_ok-sends-in-First : goal.returns-in_ok-sends-in-First
returns-in_ok-sends-in-First c =
    subst (λ way. IfOk c.live_names.result (λ found. IfSome found (λ names. (may_wait : Bool) (asked : List AskedBy)
    → AreNamedIn (how_of way may_wait asked) names c.args.standing.now.whole c.args.kept.now.whole))) (sym c.in-First.is)
    (if_ok_on c.live_names.result (if_live_named c.args.standing.now.whole c.args.kept.now.whole) c.live_names.ensures)
