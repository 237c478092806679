use Rattle.std.proofs.Common.{◌≡◌, ◌++◌, length}
use Rattle.std.specs.List.{flat_map, range_with_len}
use Rattle.rvmc_inspect.specs.Unreceived.{sender_lines, unreceived_head}
use Rattle.rvmc_inspect.proofs.unreceived.put_messages.Given as goal

-- the first line, and those of the senders so far
abbrev pub invariant-loop-source : goal.invariant-loop-source
invariant-loop-source l =
    l.text.items
    ≡ (l.fn.text.items ++ unreceived_head l.rank (length l.sends))
    ++ flat_map (sender_lines l.tags l.sends) (range_with_len 0 l.source)
