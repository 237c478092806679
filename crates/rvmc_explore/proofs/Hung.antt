-- What is told of where runs hang if sends wait.
use Rattle.std.proofs.Common.{ℕ, ◌≡◌, ◌<◌, ◌∙◌, ◌⊎◌, List, Bool, true, false, Some, slice_get, length, inl, inr, sym, subst, ap, arith}
use Rattle.std.proofs.lemmas.Option.{same_Some, slice_get_within}
use Rattle.rv_image_types.specs.Image.{IsImage}
use Rattle.rv_image_types.specs.declared.images.ImageParts.{ImageParts}
use Rattle.cl_order_laws.specs.Closed.{Node}
use Rattle.cl_patient_laws.specs.Patient.{HangsIfSendsWait}
use Rattle.cl_replay.specs.States.{ClusterStandsFor}
use Rattle.cl_rests.specs.Sets.{AreResting}
use Rattle.cl_moves.specs.Standing.{by_order, first_node}
use Rattle.cl_explore.specs.Ends.{ExploredFrom, Findings}
use Rattle.cl_explore.specs.Needing.{SaysNeeds}
use Rattle.cl_explore.specs.declared.needs.Needs.{Needs}
use Rattle.cl_explore.specs.declared.needs.Needs.TheVariants as needs
use Rattle.cl_explore.proofs.Keeping.{node_found}
use Rattle.rvmc_explore.specs.HangTexts.{hang_text}
use Rattle.rvmc_explore.specs.Hanging.{EachGoes, TellsHang, TellsHangAt}
use Rattle.rvmc_explore.specs.Hangs.{ListsHang, SaysHanging}
use Rattle.rvmc_explore.specs.InnerOutcomes.{BeginsWith, IsOutcomeOf}
use Rattle.rvmc_explore.specs.Outcomes.{AreTold, HasBody, IsHangOutcome, any_need}
use Rattle.rvmc_explore.specs.declared.outcomes.Outcome.{Outcome}
use Rattle.rvmc_explore.proofs.EndTexts.{stands_kept}
use Rattle.rvmc_explore.proofs.Hanging.{never_hangs, some_hangs}
use Rattle.rvmc_explore.proofs.Listed.{by_stuck, still_counted, was_stuck}

-- where no ranks need buffers no state is left, and sends might wait
pub whole_by : (buffered : Bool) (image : ImageParts) (found : Findings) (told : Type 0) (known : Needs)
    → SaysNeeds buffered image found told known → known ≡ needs.Nobody → (found.left ≡ 0) × (found.may_wait ≡ true)
whole_by buffered image found told needs.Nobody says is = (says.1, says.2)
whole_by buffered image found told needs.Unsought says is = absurd (cc)
whole_by buffered image found told needs.Somebody says is = absurd (cc)
whole_by buffered image found told needs.Unknown says is = absurd (cc)

module _ (order : List ℕ) (image : ImageParts) (found : Findings) (known : Needs) (unending : Bool)
    (whole : known ≡ needs.Nobody → (found.left ≡ 0) × (found.may_wait ≡ true)) where
  -- the node at which it hangs
  hung_node : (old new : List Outcome) → IsImage image → (explored : ExploredFrom image order (first_node image) found)
      → (at : TellsHangAt image found old new known unending)
      → (node : Node) × (slice_get explored.nodes at.node ≡ Some node) × HangsIfSendsWait (by_order order) node
      × AreResting at.set node.cluster × ClusterStandsFor image (at.spelled).state node.cluster
  hung_node old new limits explored at =
      let all = whole at.nobody in
      let some = some_hangs image order (first_node image) found limits explored all.0 all.1 at.node at.inside at.hangs in
      let kept = (at.spelled).is in
      let inside = slice_get_within explored.nodes at.node some.0 some.1 in
      let noted = explored.rested limits all.1 at.node some.0 (omega (arith, inside, all.0), some.1) in (
        some.0,
        some.1,
        some.2,
        subst (λ set. AreResting set (some.0).cluster) (sym (at.noted noted.0 noted.1)) noted.2,
        stands_kept image order (first_node image) found explored at.node kept.what some.0 (at.spelled).state kept.there some.1
            kept.same,
      )

  -- an outcome of it
  hang_outcome : (old new : List Outcome) (outcome : Outcome) → IsImage image
      → ExploredFrom image order (first_node image) found → (at : TellsHangAt image found old new known unending)
      → IsOutcomeOf found.kept at.node at.body 0 false outcome → IsHangOutcome order image found outcome
  hang_outcome old new outcome limits explored at one =
      let all = whole at.nobody in
      let there = hung_node old new limits explored at in
      record {
        all = all.0;
        waiting = all.1;
        node = there.0;
        led = one.leads image order explored.nodes there.0 explored.are there.1;
        hangs = there.2;
        set = at.set;
        resting = there.3;
        state = (at.spelled).state;
        stands = there.4;
        told = one.body_is ∙ (at.spelled).spelled;
        no_ends = one.ends_are;
        no_need = one.need_is;
      }

  -- what was told is told still, and so is what hangs
  hung_at : (old new : List Outcome) → IsImage image → ExploredFrom image order (first_node image) found
      → AreTold order image found old → TellsHangAt image found old new known unending
      → AreTold order image found new
  hung_at old new limits explored are at =
      let grows = by_stuck found.kept old new at.node at.body at.adds in
      record {
        each = λ k outcome there. elim (was_stuck found.kept old new at.node at.body at.adds k outcome there) [
          | inl was ↦ are.each k outcome was
          | inr one ↦ inr (inr (inr (hang_outcome old new outcome limits explored at one)))
        ];
        apart = grows.still_apart are.apart;
        counted = still_counted order image found old new at.node at.body at.adds are.counted;
        stuck = λ k company there. elim (are.stuck k company there) [
          | inl leads ↦ inl leads
          | inr t ↦ inr (t.0, grows.stays t.0 t.1, t.2)
        ];
      }

  pub hung : (old new : List Outcome) (hangs : Bool) → IsImage image → ExploredFrom image order (first_node image) found
      → AreTold order image found old → TellsHang image found old new known unending hangs → AreTold order image found new
  hung old new false limits explored are tells = subst (AreTold order image found) (sym tells.0) are
  hung old new true limits explored are tells = hung_at old new limits explored are tells

  pub hung_begins : (heard old new : List Outcome) (hangs : Bool) → BeginsWith heard old
      → TellsHang image found old new known unending hangs → BeginsWith heard new
  hung_begins heard old new false begins tells = subst (BeginsWith heard) (sym tells.0) begins
  hung_begins heard old new true begins tells =
      (by_stuck found.kept old new tells.node tells.body tells.adds).begins heard begins

  pub hung_needs : (old new : List Outcome) (hangs : Bool) → TellsHang image found old new known unending hangs
      → any_need new ≡ any_need old
  hung_needs old new false tells = ap any_need tells.0
  hung_needs old new true tells = (by_stuck found.kept old new tells.node tells.body tells.adds).needs

  -- what it says of all runs
  pub says_hanging : (old new : List Outcome) (hangs : Bool) → IsImage image → ExploredFrom image order (first_node image) found
      → (unending ≡ false → found.left ≡ 0 → EachGoes found) → TellsHang image found old new known unending hangs
      → SaysHanging image order new known unending hangs
  says_hanging old new false limits explored each tells = λ nobody ends.
      let all = whole nobody in
      never_hangs image order (first_node image) found limits explored all.0 all.1
      (λ i low. elim (tells.1 nobody ends i low) [
        | inl goes ↦ goes
        | inr none ↦ absurd (none (each ends all.0 i low))
      ])
  says_hanging old new true limits explored each at =
      let there = hung_node old new limits explored at in
      let way = node_found image order found.kept explored.nodes explored.are at.node there.0 there.1 in (
        at.nobody,
        at.ends,
        record {
          steps = way.0;
          node = there.0;
          way = way.1;
          hangs = there.2;
          set = at.set;
          resting = there.3;
          state = (at.spelled).state;
          stands = there.4;
          listed = subst (HasBody new) (at.spelled).spelled (by_stuck found.kept old new at.node at.body at.adds).here;
        },
      )
