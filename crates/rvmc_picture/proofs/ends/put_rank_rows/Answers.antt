use Rattle.std.proofs.Common.{map}
use Rattle.std.specs.Option.{option_map}
use Rattle.rvmc_draw.proofs.Sources.{source_more}
use Rattle.rvmc_picture.specs.Ends.{awaits_of, hart_row}
use Rattle.rvmc_picture.proofs.ends.put_rank_rows.Goals as goal

pub loop-hart-preserved : goal.loop-hart-preserved
loop-hart-preserved c =
    source_more
    (hart_row c.args.parts.now.ranks c.args.state.now (option_map (λ ranks. ranks.items) c.args.found.now) c.args.rank)
    (map awaits_of c.args.rows.now.items) (map awaits_of c.loop-hart.rows.items)
    (map awaits_of c.put_row.new.rows.items) c.loop-hart.hart c.loop-hart.invariant c.in_ok-put_row.ensures
