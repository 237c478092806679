use Rattle.std.proofs.Common.{◌≡◌, ◌≤◌, ◌∷◌, [], length}
use Rattle.cl_machine.specs.Merge.{IsMerge}
use Rattle.cl_machine.proofs.Verdicts.{one_merge}
use Rattle.cl_record.specs.Records.{step_by, steps_in}
use Rattle.test_cluster.proofs.Merging.{few, ok_map}
use Rattle.test_cluster.proofs.Ties.{between}
use Rattle.test_cluster.proofs.merge.a_send_stands_between_post_and_collect.Goals as goal

pub returns : goal.returns
returns c = λ one two three send receive collect stamps traces.
    let left = c.args.left.now in
    let listed = between one two three send receive collect left.traces.items stamps traces in
    let few_ranks = few left.traces.items (one ∷ two ∷ three ∷ send ∷ []) (receive ∷ collect ∷ []) traces in
    ok_map (λ steps. length left.traces.items ≤ 256 → IsMerge (steps_in left) steps.items)
    (λ steps. steps.items
    ≡ step_by 0 one ∷ step_by 1 receive ∷ step_by 0 two ∷ step_by 0 three ∷ step_by 0 send ∷ step_by 1 collect ∷ [])
    (λ steps is. one_merge (steps_in left) steps.items _ (is few_ranks) listed) c.merge.result c.merge.ensures
