-- What is told of where runs go on that never end.
use Rattle.std.proofs.Common.{ℕ, ◌≡◌, ◌∙◌, ◌++◌, List, [], Option, None, Some, is_some, length, refl, sym}
use Rattle.std.proofs.lemmas.List.{append-nil}
use Rattle.rv_image_types.specs.declared.images.ImageParts.{ImageParts}
use Rattle.cl_explore.specs.Ends.{ExploredFrom, Findings}
use Rattle.cl_explore.proofs.Keeping.{node_found}
use Rattle.cl_moves.specs.Standing.{first_node}
use Rattle.rvmc_explore.specs.Endless.{SaysGoing}
use Rattle.rvmc_explore.specs.InnerGoing.{AddsGoings, IsInside, TellsEndless}
use Rattle.rvmc_explore.proofs.EndTexts.{stands_kept}

-- the node is there
pub is_inside : (found : Findings) (node : Option ℕ) → TellsEndless found node → IsInside found.kept node
is_inside found None tells = tt
is_inside found (Some i) tells = tells.0

-- its lines are of a state to which a run leads, and from which none ends
pub says_going : (image : ImageParts) (order : List ℕ) (found : Findings) (node : Option ℕ) (old new : List ℕ)
    → ExploredFrom image order (first_node image) found → TellsEndless found node
    → AddsGoings image order found.kept node old new
    → (text : List ℕ) × SaysGoing image order (is_some node) text × (new ≡ old ++ text)
says_going image order found None old new explored tells same = ([], refl, same ∙ sym (append-nil old))
says_going image order found (Some i) old new explored tells adds =
    let there = tells.1 image order (first_node image) explored in
    let way = node_found image order found.kept explored.nodes explored.are i there.0 there.1 in
    let at = adds.1 in
    let kept = at.is in (
      adds.0,
      record {
        run = record { steps = way.0; there = there.0; way = way.1; never = there.2 };
        state = at.state;
        stands = stands_kept image order (first_node image) found explored i kept.what there.0 at.state kept.there there.1
            kept.same;
        spelled = at.spelled;
      },
      adds.2,
    )
