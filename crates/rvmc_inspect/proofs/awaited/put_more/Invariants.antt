use Rattle.std.proofs.Common.{◌≡◌, ◌++◌, take}
use Rattle.rvmc_inspect.specs.Texts.{more_text}
use Rattle.rvmc_inspect.proofs.awaited.put_more.Given as goal

-- those so far
abbrev pub invariant-loop-wait : goal.invariant-loop-wait
invariant-loop-wait l = l.text.items ≡ l.fn.text.items ++ more_text l.inside (take l.wait-index l.waits)
