use Rattle.std.proofs.Common.{◌≡◌, ◌++◌}
use Rattle.rvmc_inspect.specs.Unreceived.{sender_lines}
use Rattle.rvmc_inspect.proofs.unreceived.put_sender.Given as goal

-- the lines of the tags so far
abbrev pub invariant-loop-tag : goal.invariant-loop-tag
invariant-loop-tag l = l.text.items ≡ l.fn.text.items ++ sender_lines l.tag l.sends l.source
