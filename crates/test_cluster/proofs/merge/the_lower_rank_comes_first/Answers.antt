use Rattle.std.proofs.Common.{◌≡◌, ◌≤◌, ◌∷◌, [], length, refl, sym}
use Rattle.cl_machine.specs.Merge.{IsMerge}
use Rattle.cl_machine.proofs.Verdicts.{one_merge}
use Rattle.cl_record.specs.Records.{step_by, steps_in}
use Rattle.test_cluster.proofs.Merging.{few, ok_map}
use Rattle.test_cluster.proofs.Ties.{ties_by_rank}
use Rattle.test_cluster.proofs.merge.the_lower_rank_comes_first.Goals as goal

pub returns : goal.returns
returns c =
    let left = c.args.left.now in
    let low = c.args.low.now in
    let high = c.args.high.now in
    let listed = ties_by_rank left.traces.items (low ∷ high ∷ []) low.stamp (refl, (sym c.requires.stamps, tt))
    c.requires.traces in
    let two = few left.traces.items (low ∷ []) (high ∷ []) c.requires.traces in
    ok_map (λ steps. length left.traces.items ≤ 256 → IsMerge (steps_in left) steps.items)
    (λ steps. steps.items ≡ step_by 0 low ∷ step_by 1 high ∷ [])
    (λ steps is. one_merge (steps_in left) steps.items (step_by 0 low ∷ step_by 1 high ∷ []) (is two) listed)
    c.merge.result c.merge.ensures
