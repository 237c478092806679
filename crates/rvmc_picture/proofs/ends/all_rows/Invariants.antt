use Rattle.std.proofs.Common.{◌≡◌, map}
use Rattle.std.specs.List.{flat_map, range_with_len}
use Rattle.std.specs.Option.{option_map}
use Rattle.rvmc_picture.specs.Ends.{awaits_of, rank_rows}
use Rattle.rvmc_picture.proofs.ends.all_rows.Given as goal

-- those of the ranks so far
abbrev pub invariant-loop-rank : goal.invariant-loop-rank
invariant-loop-rank l =
    map awaits_of l.rows.items
    ≡ flat_map (rank_rows l.parts l.state (option_map (λ ranks. ranks.items) l.found)) (range_with_len 0 l.rank)
