use Rattle.rvmc_serve.proofs.Heard.{Heard}
use Rattle.rvmc_serve.proofs.words.answered.Given as goal

-- what was typed so far, and what was written for it
abbrev pub invariant-loop : goal.invariant-loop
invariant-loop g l =
    let remaining = g.I.Read.remaining in
    let contents = g.O.Write.contents in
    Heard l.fn.typing l.first (remaining l.fn.input) (contents l.fn.out) l.typing (remaining l.input) (contents l.out) l.left l.most
