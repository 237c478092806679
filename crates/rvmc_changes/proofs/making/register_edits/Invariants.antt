use Rattle.std.proofs.Common.{◌≡◌}
use Rattle.std.specs.Prelude.{map}
use Rattle.std.specs.List.{range_with_len}
use Rattle.rv_hart.specs.State.{read}
use Rattle.rvmc_changes.specs.Edits.{edits_from}
use Rattle.rvmc_changes.proofs.making.register_edits.Given as goal

-- those of the registers so far
abbrev pub invariant-loop-number : goal.invariant-loop-number
invariant-loop-number l =
    l.edits.items ≡ edits_from 0 (map (read l.old) (range_with_len 0 l.number)) (map (read l.new) (range_with_len 0 l.number))
