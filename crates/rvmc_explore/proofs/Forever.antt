-- What follows where others run on beside ranks that are stuck.
use Rattle.std.proofs.Common.{ℕ, ◌≡◌, ◌∙◌, List, Bool, true, false, map, inl, inr, refl, sym, subst}
use Rattle.rv_image_types.specs.declared.images.ImageParts.{ImageParts}
use Rattle.cl_machine.specs.declared.steps.Step.{Step}
use Rattle.cl_explore.specs.Below.{IsOrder}
use Rattle.cl_explore.specs.Ends.{Findings}
use Rattle.cl_moves.specs.Standing.{IsWay, by_order, first_node, node_of}
use Rattle.cl_order_laws.specs.Closed.{Node, had_after}
use Rattle.cl_order_laws.proofs.Walks.{walk_of}
use Rattle.cl_outcome_laws.specs.Unending.{MayEnd}
use Rattle.rvmc_explore.specs.BesideLaw.{BesideLaw}
use Rattle.rvmc_explore.specs.Endless.{AllMayEnd, SaysUnending}
use Rattle.rvmc_explore.specs.Outcomes.{IsStuckOutcome}
use Rattle.rvmc_explore.specs.declared.outcomes.Outcome.{Outcome}

-- where each run can still end, one does from wherever turns lead
may_end_at : (image : ImageParts) (order : List ℕ) (steps : List Step) (node : Node) → AllMayEnd order (first_node image)
    → IsWay (by_order order) (first_node image) steps node → MayEnd (by_order order) node
may_end_at image order steps node may way =
    let same : node_of node.cluster (had_after (first_node image).had steps) ≡ node =
    (λ i. record { cluster = node.cluster; had = (sym way.had) i }) in
    subst (MayEnd (by_order order)) same (may steps node.cluster way.run way.follow)

-- so it is said that some runs go on for ever
said_so : (image : ImageParts) (order : List ℕ) (found : Findings) (outcome : Outcome) (unending : Bool)
    → SaysUnending image order (first_node image) found.left unending → IsOrder image.harts order → found.left ≡ 0
    → IsStuckOutcome order image found outcome → unending ≡ true
said_so image order found outcome true says harts whole stuck = refl
said_so image order found outcome false says harts whole stuck =
    let ends = may_end_at image order outcome.way stuck.node (says whole harts) stuck.led in
    absurd ((stuck.others).forever whole ends.0 ends.1 ends.2)

pub beside_law : BesideLaw
beside_law = record {
  no_end = λ order image found outcome stuck end.
      let one = (stuck.others).now in
      elim (end one.r one.slot one.rank one.there) [
        | inl stopped ↦ one.not_stopped stopped
        | inr waits ↦ one.not_in_vain waits
      ];
  forever = λ order image found outcome stuck whole steps end run follow.
      let here = stuck.node in (
        ((stuck.stuck).deadlock).forever steps end run,
        (stuck.others).forever whole (node_of end (had_after here.had steps))
            (map (λ (e : Step). e.rank) steps, walk_of (by_order order) steps here.cluster end here.had run follow),
      );
  unending = λ image order buffered states turns text status harts tells whole k outcome at stuck.
      said_so image order (tells.listed).found outcome tells.unending tells.unending_is harts whole stuck;
}
