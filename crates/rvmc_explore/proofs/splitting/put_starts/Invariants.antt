use Rattle.std.proofs.Common.{◌≡◌, ◌++◌, drop}
use Rattle.std.specs.List.{flat_map}
use Rattle.rvmc_explore.specs.Splitting.{start_line}
use Rattle.rvmc_explore.proofs.splitting.put_starts.Given as goal

-- the text so far, and the lines of the starts that are left
abbrev pub invariant-loop-start : goal.invariant-loop-start
invariant-loop-start l =
    l.fn.text.items ++ flat_map start_line l.starts ≡ l.text.items ++ flat_map start_line (drop l.start-index l.starts)
