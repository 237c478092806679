use Rattle.std.proofs.Common.{ℕ, length, get_or, sym, ap, arith, ◌<◌, ◌∙◌}
use Rattle.std.specs.Prelude.{Option, Some, None}
use Rattle.std.proofs.lemmas.Option.{slice_get-get_or}
use Rattle.cl_threads.proofs.Paced.{nobody_yet}
use Rattle.cl_threads.proofs.sights.Sight.slowest.Goals as goal

pub loop-rank-init : goal.loop-rank-init
loop-rank-init c = nobody_yet c.args.self.now.counts

pub loop-rank-preserved : goal.loop-rank-preserved
loop-rank-preserved c =
    let counts = c.args.self.now.counts in
    let nobody : Option ℕ = None in
    let within : c.loop-rank.rank < length counts = omega (arith, c.loop-rank-test.true, c.args.self.now.whole) in
    c.slower-slowest.ensures counts c.loop-rank.invariant
    (slice_get-get_or counts c.loop-rank.rank nobody within
    ∙ ap (λ i. Some (get_or counts i nobody)) (sym c.from.ensures))
