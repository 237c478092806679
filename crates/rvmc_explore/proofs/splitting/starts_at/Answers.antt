use Rattle.std.proofs.lemmas.Option.{slice_get-get_or}
use Rattle.rvmc_explore.proofs.EachStart.{one_start_more}
use Rattle.rvmc_explore.proofs.splitting.starts_at.Goals as goal

pub loop-place-preserved : goal.loop-place-preserved
loop-place-preserved c =
    let numbers = c.args.numbers.now in
    let place = c.loop-place.place in
    one_start_more c.args.found.now.nodes.items c.args.common.now numbers place _ c.in_ok-start.start
    c.loop-place.starts.items c.push.new.self.items (slice_get-get_or numbers place _ c.loop-place-test.true)
    c.in_ok-start.ensures c.in_ok-push.ensures.items c.loop-place.invariant
