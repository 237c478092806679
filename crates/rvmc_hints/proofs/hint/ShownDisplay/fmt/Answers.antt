use Rattle.std.proofs.Common.{ℕ, List, subst}
use Rattle.std.specs.Fmt.{WritesOnOk}
use Rattle.rvmc_hints.proofs.Shown.{as_it_is, as_unknown}
use Rattle.rvmc_hints.proofs.hint.ShownDisplay.fmt.Goals as goal

pub returns-in-Ok-clause-writes : goal.returns-in-Ok-clause-writes
returns-in-Ok-clause-writes g c =
    subst (λ (text : List ℕ). WritesOnOk g.W.Write.write_str_gives c.args.f.now c.write.result text c.write.new.self) (as_it_is c.args.self.now.0.now c.in-Ok.text.now c.in-Ok.ensures.cases.1 c.in-Ok.ensures.cases.0) c.write.ensures.writes

pub returns-in-Err-clause-writes : goal.returns-in-Err-clause-writes
returns-in-Err-clause-writes g c =
    subst (λ (text : List ℕ). WritesOnOk g.W.Write.write_str_gives c.args.f.now c.write-in-Err.result text c.write-in-Err.new.self) (as_unknown c.args.self.now.0.now c.in-Err.ensures.cases.0) c.write-in-Err.ensures.writes
