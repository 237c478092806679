use Rattle.std.proofs.lemmas.Option.{slice_get-get_or}
use Rattle.rvmc_explore.specs.Splitting.{with_split}
use Rattle.rvmc_explore.proofs.EachStart.{one_changed}
use Rattle.rvmc_explore.proofs.splitting.set_split.Goals as goal

pub loop-start-preserved : goal.loop-start-preserved
loop-start-preserved c =
    let starts = c.args.starts.now in
    let place = c.loop-start.start-index in
    one_changed (with_split c.args.split) starts c.loop-start.starts place _ c.start-item.result
    (slice_get-get_or starts place c.start-item.result c.loop-start-test.true) c.loop-start.invariant
