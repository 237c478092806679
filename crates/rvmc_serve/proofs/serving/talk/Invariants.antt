use Rattle.rvmc_serve.proofs.Hearing.{Heard}
use Rattle.rvmc_serve.proofs.serving.talk.Given as goal

-- what was heard so far, and what was written for it
abbrev pub invariant-loop : goal.invariant-loop
invariant-loop g l =
    let remaining = g.I.Read.remaining in
    let contents = g.O.Write.contents in
    Heard l.fn.server (remaining l.fn.input) (contents l.fn.out) l.server (remaining l.input) (contents l.out) l.left l.fn.most
