use Rattle.std.proofs.Common.{◌≡◌, ◌++◌, List, ℕ, map}
use Rattle.std.specs.List.{flat_map, range_with_len}
use Rattle.std.specs.Option.{option_map}
use Rattle.rvmc_picture.specs.Ends.{awaits_of, hart_row}
use Rattle.rvmc_picture.proofs.ends.put_rank_rows.Given as goal

-- those of the harts so far
abbrev pub invariant-loop-hart : goal.invariant-loop-hart
invariant-loop-hart l =
    map awaits_of l.rows.items
    ≡ map awaits_of l.fn.rows.items
    ++ flat_map (hart_row l.parts.ranks l.state (option_map (λ ranks. ranks.items) l.found) l.rank) (range_with_len 0 l.hart)
