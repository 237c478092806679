use Rattle.std.proofs.Common.{◌≡◌, ◌≤◌, ◌∷◌, [], length}
use Rattle.cl_machine.specs.Merge.{IsMerge}
use Rattle.cl_machine.proofs.Verdicts.{one_merge}
use Rattle.cl_record.specs.Records.{step_by, steps_in}
use Rattle.test_cluster.proofs.Merging.{earlier_first, few, ok_map}
use Rattle.test_cluster.proofs.merge.the_earlier_comes_first.Goals as goal

pub returns : goal.returns
returns c =
    let left = c.args.left.now in
    let early = c.args.early.now in
    let late = c.args.late.now in
    let listed = earlier_first left.traces.items early late c.requires.stamps c.requires.traces in
    let two = few left.traces.items (late ∷ []) (early ∷ []) c.requires.traces in
    ok_map (λ steps. length left.traces.items ≤ 256 → IsMerge (steps_in left) steps.items)
    (λ steps. steps.items ≡ step_by 1 early ∷ step_by 0 late ∷ [])
    (λ steps is. one_merge (steps_in left) steps.items (step_by 1 early ∷ step_by 0 late ∷ []) (is two) listed) c.merge.result
    c.merge.ensures
