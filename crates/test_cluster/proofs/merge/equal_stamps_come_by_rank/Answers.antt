use Rattle.std.proofs.Common.{◌≡◌, ◌≤◌, ◌∷◌, [], ◌∙◌, arith, length, map}
use Rattle.std.proofs.lemmas.List.{length-map}
use Rattle.std.proofs.lemmas.List.Elements.{recursion_from_All}
use Rattle.cl_trace.specs.declared.events.Event.{Event}
use Rattle.cl_machine.specs.Merge.{IsMerge}
use Rattle.cl_machine.proofs.Verdicts.{one_merge}
use Rattle.cl_record.specs.Records.{steps_in}
use Rattle.test_cluster.specs.Merges.{one_of_each}
use Rattle.test_cluster.proofs.Merging.{ok_map}
use Rattle.test_cluster.proofs.Ties.{count_of_traces, ties_by_rank}
use Rattle.test_cluster.proofs.merge.equal_stamps_come_by_rank.Goals as goal

pub returns : goal.returns
returns c =
    let left = c.args.left.now in
    let events = c.args.events.now in
    let stamp = c.requires.stamps.0 in
    let all = recursion_from_All (λ (event : Event). event.stamp ≡ stamp) events c.requires.stamps.1 in
    let listed = ties_by_rank left.traces.items events stamp all c.requires.traces in
    let count = count_of_traces left.traces.items (map (λ (event : Event). event ∷ []) events) c.requires.traces
    ∙ length-map events (λ (event : Event). event ∷ []) in
    let few : length left.traces.items ≤ 256 = omega (arith, count, c.requires.few) in
    ok_map (λ steps. length left.traces.items ≤ 256 → IsMerge (steps_in left) steps.items) (λ steps. steps.items ≡ one_of_each 0 events)
    (λ steps is. one_merge (steps_in left) steps.items (one_of_each 0 events) (is few) listed) c.merge.result c.merge.ensures
