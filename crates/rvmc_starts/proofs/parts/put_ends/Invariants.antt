use Rattle.std.proofs.Common.{◌≡◌, ◌++◌, take}
use Rattle.std.specs.List.{flat_map}
use Rattle.rvmc_starts.specs.Parts.{end_text}
use Rattle.rvmc_starts.proofs.parts.put_ends.Given as goal

abbrev pub invariant-loop-end : goal.invariant-loop-end
invariant-loop-end l =
    l.text.items ≡ l.fn.text.items ++ flat_map end_text (take l.end-index l.ends)
