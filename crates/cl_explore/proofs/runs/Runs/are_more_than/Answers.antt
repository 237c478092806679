use Rattle.std.proofs.Common.{◌≡◌, ◌+◌, suc, arith, ap, length, take}
use Rattle.cl_explore.specs.Runs.{all_turns}
use Rattle.cl_explore.proofs.Lists.{read_of}
use Rattle.cl_explore.proofs.Winding.{counted_all, counted_next}
use Rattle.cl_explore.proofs.runs.Runs.are_more_than.Goals as goal

pub loop-place-preserved : goal.loop-place-preserved
loop-place-preserved c =
    let runs = c.as_slice-runs.result.now in
    let place = c.loop-place.place in
    let at = read_of runs place c.index-runs-place.result c.loop-place-test.true c.index-runs-place.is in
    let next = counted_next runs place c.index-runs-place.result at in
    let one : place + 1 ≡ suc place = omega arith in
    let so : length (all_turns (take (place + 1) runs)) ≡ length (all_turns (take (suc place) runs)) =
    ap (λ n. length (all_turns (take n runs))) one in (
      omega (arith, next, so, c.turns_in.ensures, c.saturating_add-count.ensures, c.loop-place.invariant.0),
      c.loop-place.invariant.1,
    )

pub returns-then-count-many : goal.returns-then-count-many
returns-then-count-many c = λ is.
    let runs = c.as_slice-runs.result.now in
    let all = counted_all runs in
    let past : c.loop-place.place ≡ length runs = omega (arith, c.loop-place-test.false) in
    let so : length (all_turns (take c.loop-place.place runs)) ≡ length (all_turns (take (length runs) runs)) =
    ap (λ n. length (all_turns (take n runs))) past in
    omega (arith, c.if-count-many.true, all, so, c.loop-place.invariant.0, c.loop-place.invariant.1)
