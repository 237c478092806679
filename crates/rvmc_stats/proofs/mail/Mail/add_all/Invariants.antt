use Rattle.std.specs.Prelude.{take}
use Rattle.std.specs.List.{filter_map}
use Rattle.rvmc_stats.specs.Counted.{received_by}
use Rattle.rvmc_stats.specs.Adding.{AddsMail}
use Rattle.rvmc_stats.proofs.mail.Mail.add_all.Given as goal

-- those so far
abbrev pub invariant-loop-got : goal.invariant-loop-got
invariant-loop-got l = AddsMail l.fn.self (received_by l.to (filter_map (λ got. got) (take l.got-index l.gots))) l.self
