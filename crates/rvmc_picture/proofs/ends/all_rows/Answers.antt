use Rattle.std.proofs.Common.{[], map}
use Rattle.std.specs.Option.{option_map}
use Rattle.rvmc_draw.proofs.Sources.{source_more}
use Rattle.rvmc_picture.specs.Ends.{awaits_of, rank_rows}
use Rattle.rvmc_picture.proofs.ends.all_rows.Goals as goal

pub loop-rank-preserved : goal.loop-rank-preserved
loop-rank-preserved c =
    source_more (rank_rows c.args.parts.now c.args.state.now (option_map (λ ranks. ranks.items) c.args.found.now)) []
    (map awaits_of c.loop-rank.rows.items) (map awaits_of c.put_rank_rows.new.rows.items) c.loop-rank.rank
    c.loop-rank.invariant c.in_ok-put_rank_rows.ensures
