use Rattle.std.proofs.Common.{map, take}
use Rattle.rvmc_cli.specs.Built.{rule_of_part}
use Rattle.rvmc_cli.specs.Built.{AddsRules}
use Rattle.rvmc_cli.proofs.parts.with_parts.Given as goal

-- the parts so far
abbrev pub invariant-loop-part : goal.invariant-loop-part
invariant-loop-part l = AddsRules (map rule_of_part (take l.part-index l.parts)) l.initial.command l.command
