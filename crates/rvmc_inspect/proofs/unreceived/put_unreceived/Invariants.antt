use Rattle.std.proofs.Common.{◌≡◌, ◌++◌}
use Rattle.std.specs.List.{flat_map, range_with_len}
use Rattle.rvmc_inspect.specs.Unreceived.{messages_text, sent_to, tag_count, unreceived}
use Rattle.rvmc_inspect.proofs.unreceived.put_unreceived.Given as goal

-- those of the ranks so far
abbrev pub invariant-loop-rank : goal.invariant-loop-rank
invariant-loop-rank l =
    l.text.items
    ≡ l.fn.text.items
    ++ flat_map (λ rank. messages_text tag_count l.ranks rank (sent_to rank (unreceived l.hub.board.lines))) (range_with_len 0 l.rank)
