-- What stands in a box behind a step that took from it.
use Rattle.std.specs.Prelude.{ℕ, ◌≡◌, ◌≤◌, ◌+◌, List, length, slice_get, slice_set, Some}
use Rattle.std.proofs.Common.{sym, ap, ◌∙◌, subst, arith}
use Rattle.std.proofs.lemmas.Option.{same_Some, slice_get_within}
use Rattle.rv_image_types.specs.declared.images.ImageParts.{ImageParts}
use Rattle.part_box.specs.declared.settled.Settled.{Settled}
use Rattle.cl_machine.specs.Keys.{ShowsAll}
use Rattle.cl_trace.specs.declared.events.Kind.{Kind}
use Rattle.cl_machine.proofs.Lists.{get-set_same}
use Rattle.cl_machine.specs.Boxes.{Box, IsEmpty, box_number, with_taken}
use Rattle.cl_machine.specs.Cluster.{CaseOf, Cluster, IsStep}
use Rattle.cl_machine.specs.declared.steps.Step.{Step}
use Rattle.cl_replay.proofs.Boxed.{empty_is}
use Rattle.cl_replay.specs.States.{ClusterStandsFor, IsClusterOf}
use Rattle.cl_replay.specs.Steps.{Leads}
use Rattle.cl_replay.specs.declared.states.ClusterState.{ClusterState}
use Rattle.test_cluster.proofs.Checking.{looked}
use Rattle.test_cluster.specs.Taken.{IsVacant, TakesFrom}

-- no box holds two things, so nothing is left where one was taken
vacated : (image : ImageParts) (cluster next : Cluster) (e : Step) (left : List (List Settled)) (link part : ℕ)
    → IsClusterOf image cluster → TakesFrom image cluster e link part → IsStep cluster e next
    → ShowsAll image left next.boxes → IsVacant left link part
vacated image cluster next e left link part of takes step shows =
    let case : CaseOf cluster e step.0 Kind.Take next = subst (λ k. CaseOf cluster e step.0 k next) takes.takes step.4 in
    let look = looked cluster e step.0 step.1 link part case.0 case.1 takes.looks case.4 in
    let number = box_number link part in
    let before : Box = case.3 in
    let behind : Box = with_taken before e.stamp in
    let there : slice_get cluster.boxes number ≡ Some before = ap (slice_get cluster.boxes) look.1 ∙ case.5 in
    let one : length before.made ≤ before.taken + 1 = of.one_thing number before there in
    let inside = slice_get_within before.made before.taken _ case.6 in
    let empty : length before.made ≡ before.taken + 1 = omega (arith, one, inside) in
    let changed : slice_get next.boxes number ≡ Some behind
    = ap (λ (c : Cluster). slice_get c.boxes number) case.8
    ∙ ap (λ n. slice_get (slice_set cluster.boxes n behind) number) (sym look.1)
    ∙ get-set_same cluster.boxes number before behind there in
    let at = shows.each link part takes.link_there takes.part_there in
    let same : at.2 ≡ behind = same_Some at.2 behind (sym at.5 ∙ changed) in
    record {
      parts = at.0;
      left = at.1;
      link_is = at.3;
      part_is = at.4;
      empty = empty_is image.version at.1 at.2 at.6 (subst IsEmpty (sym same) empty);
    }

pub gone : (image : ImageParts) (cluster : Cluster) (old new : ClusterState) (e : Step) (link part : ℕ)
    → ClusterStandsFor image old cluster → TakesFrom image cluster e link part → Leads old e new
    → IsVacant new.boxes.items link part
gone image cluster old new e link part stands takes leads =
    let led = leads image cluster stands in
    vacated image cluster led.0 e new.boxes.items link part stands.of takes led.1 led.2.boxes_show
