-- Ranks that need buffers stay held up, along each run in which sends wait for their receives.
use Rattle.std.proofs.Common.{◌≡◌, ℕ, ◌⊎◌, inl, inr, List, [], ◌∷◌, length, true, false, Some, refl, sym, ap, ◌∙◌, subst}
use Rattle.std.specs.Prelude.{◌≢◌, ◌<◌, IsTrue}
use Rattle.std.specs.List.{slice_get, slice_set}
use Rattle.std.proofs.lemmas.Bool.{cases_Bool, cases_eq}
use Rattle.std.proofs.lemmas.Option.{same_Some}
use Rattle.rv_image_types.specs.declared.images.ImageParts.{ImageParts}
use Rattle.mp_hub.specs.Hub.{HubView, outcome}
use Rattle.mp_types.specs.declared.replies.Reply.TheVariants.{NotYet}
use Rattle.mp_transfers.specs.Inits.{is_receiver}
use Rattle.mp_wait_laws.specs.Waits.{IsUpTo, OnlyOf, sends_over}
use Rattle.cl_calls.specs.declared.sites.Site.{Site}
use Rattle.cl_state.specs.declared.asking.Ask.{Ask}
use Rattle.cl_state.specs.declared.asking.Ask.TheVariants as ask
use Rattle.cl_state.specs.Asked.{asked}
use Rattle.cl_state.specs.Rank.{Rank}
use Rattle.cl_state_laws.specs.Vain.{IsStopped, mode_of}
use Rattle.cl_state_laws.specs.VainLaws.{at_clock}
use Rattle.cl_state_laws.proofs.Vain.{vain_law}
use Rattle.cl_deeds.specs.Deeds.{Deed}
use Rattle.cl_machine.specs.declared.steps.Step.{Step}
use Rattle.cl_machine.specs.Boxes.{box_number}
use Rattle.cl_machine.specs.Cluster.{Cluster, IsStep}
use Rattle.cl_machine.specs.Product.{entry_of}
use Rattle.cl_machine.specs.ProductSteps.{Goes}
use Rattle.cl_machine.proofs.Lists.{get-set_other, get-set_same}
use Rattle.cl_order_laws.proofs.Steps.{step_leads}
use Rattle.cl_deadlock_laws.specs.Stuck.{AreAsTheyWere, AsksInVain, IsAsItWas, IsEmptyAt, IsFullAt, IsStuckHart, is_among, is_member}
use Rattle.cl_deadlock_laws.proofs.Boxes.{boxes_move}
use Rattle.cl_deadlock_laws.proofs.Others.{in_vain_still}
use Rattle.cl_deadlock_laws.proofs.Own.{Passed, hub_of, passed}
use Rattle.cl_deadlock_laws.proofs.Reached.{Comes, comes_on, comes_reached, deed_of, same_links}
use Rattle.cl_first_laws.specs.Laws.{Turn}
use Rattle.cl_rest_laws.specs.Rests.{rests, rests_if}
use Rattle.cl_rest_laws.specs.Buffering.{AreHeldUp, RestsAmong}
use Rattle.cl_rest_laws.specs.Laws.{BufferingLaw, IsPatientRun}
use Rattle.cl_rest_laws.proofs.Resting.{is_to, rest_law}

module _ (ranks : List ℕ) where
  abbrev IsHeldUp : Cluster → ℕ → Rank → ℕ → Type 0
  IsHeldUp c r rank hart =
      IsStopped (mode_of rank hart) ⊎ (IsStuckHart ranks c r rank hart ⊎ RestsAmong ranks c r hart)

  record Kept (old new : Cluster) : Type 0 where
    held : AreHeldUp ranks new
    as_they_were : AreAsTheyWere ranks old new

  -- ---- links, hub and boxes are the same

  module _ (old new : Cluster) (links : new.journal.links ≡ old.journal.links)
      (hub : hub_of new.journal ≡ hub_of old.journal) (boxes : new.boxes ≡ old.boxes) where
    same_vain : (r : ℕ) (site : Site) (a : Ask) → AsksInVain ranks old r site a → AsksInVain ranks new r site a
    same_vain r site (ask.Hub q) vain =
        subst (λ (h : HubView). ((outcome h r q).0 ≡ NotYet) × IsUpTo (is_member site) (is_among ranks) h r q) (sym hub)
        vain
    same_vain r site (ask.Look link part) vain = (
      subst (λ bs. IsEmptyAt bs (box_number link part)) (sym boxes) vain.0,
      subst (λ ls. OnlyOf (is_among ranks) (sends_over ls link)) (sym links) vain.1,
    )
    same_vain r site (ask.Freed link part) vain = (
      subst (λ bs. IsFullAt bs (box_number link part)) (sym boxes) vain.0,
      subst (λ ls. OnlyOf (is_among ranks) (λ k. is_receiver ls k link)) (sym links) vain.1,
    )
    same_vain r site ask.Held vain = tt
    same_vain r site _ vain = absurd vain

    -- and the rank is, but for its clock
    still_held : (r : ℕ) (rank : Rank) (hart clock : ℕ) → slice_get old.ranks r ≡ Some rank
        → slice_get new.ranks r ≡ Some (at_clock rank clock) → IsHeldUp old r rank hart
        → IsHeldUp new r (at_clock rank clock) hart
    still_held r rank hart clock before after (inl is) = inl is
    still_held r rank hart clock before after (inr (inl is)) =
        inr (inl (record {
          patient = record { waits = is.patient.waits; on = is.patient.on };
          in_vain = same_vain r rank.site (asked (at_clock rank clock) hart)
              (subst (λ (a : Ask). AsksInVain ranks old r rank.site a) (sym ((vain_law.timeless) rank hart clock))
              is.in_vain);
        }))
    still_held r rank hart clock before after (inr (inr is)) =
        inr (inr (record {
          receiver = is.receiver;
          among = is.among;
          rests_there = ap (λ o. rests_if (is_to is.receiver) (hub_of new.journal) r o hart) after
              ∙ ap (λ h. rests_if (is_to is.receiver) h r (Some rank) hart) hub
              ∙ sym (ap (λ o. rests_if (is_to is.receiver) (hub_of old.journal) r o hart) before) ∙ is.rests_there;
        }))

  -- ---- a turn of one of them

  own_step : (old new : Cluster) (d : Deed) (s t : Rank) → slice_get old.ranks d.rank ≡ Some s
      → new.ranks ≡ slice_set old.ranks d.rank t → Passed old new d.stamp s t → AreHeldUp ranks old → Kept old new
  own_step old new d s t here moved p held = record {
    held = λ r y hart among there low.
        (let w = was r y there in
        subst (λ (z : Rank). IsHeldUp new r z hart) (sym w.3)
        (still_held old new p.links p.hub p.boxes r w.0 hart w.1 w.2 (there ∙ ap (λ (z : Rank). Some z) w.3)
        (held r w.0 hart among w.2 (subst (λ (z : Rank). hart < length z.harts) w.3 low))));
    as_they_were = λ r x among there. now r x there;
  }
    where
      at : slice_get new.ranks d.rank ≡ Some t
      at = ap (λ xs. slice_get xs d.rank) moved ∙ get-set_same old.ranks d.rank s t here

      beside : (r : ℕ) → d.rank ≢ r → slice_get new.ranks r ≡ slice_get old.ranks r
      beside r other = ap (λ xs. slice_get xs r) moved ∙ get-set_other old.ranks d.rank r t other

      was : (r : ℕ) (y : Rank) → slice_get new.ranks r ≡ Some y
          → (x : Rank) × (clock : ℕ) × (slice_get old.ranks r ≡ Some x) × (y ≡ at_clock x clock)
      was r y there = elim (cases_eq d.rank r) [
        | inl same ↦ (
          s,
          d.stamp,
          subst (λ k. slice_get old.ranks k ≡ Some s) same here,
          same_Some y t (sym there ∙ subst (λ k. slice_get new.ranks k ≡ Some t) same at) ∙ p.rank,
        )
        | inr other ↦ (y, y.clock, sym (beside r other) ∙ there, refl)
      ]

      now : (r : ℕ) (x : Rank) → slice_get old.ranks r ≡ Some x
          → (after : Rank) × (slice_get new.ranks r ≡ Some after) × IsAsItWas x after
      now r x there = elim (cases_eq d.rank r) [
        | inl same ↦ (
          t,
          subst (λ k. slice_get new.ranks k ≡ Some t) same at,
          (
            d.stamp,
            p.rank
                ∙ ap (λ (z : Rank). at_clock z d.stamp)
                (same_Some s x (sym (subst (λ k. slice_get old.ranks k ≡ Some s) same here) ∙ there)),
          ),
        )
        | inr other ↦ (x, beside r other ∙ there, (x.clock, refl))
      ]

  -- ---- a turn of another

  other_step : (image : ImageParts) (old new : Cluster) (d : Deed) → Comes image old → Goes old d new
      → Turn d.rank d.hart old new → is_among ranks d.rank ≡ false → AreHeldUp ranks old → Kept old new
  other_step image old new d comes goes turn out held = record {
    held = λ r x hart among there low.
        (let before = sym (stays r among) ∙ there in still r x hart among before (held r x hart among before low));
    as_they_were = λ r x among there. (x, stays r among ∙ there, (x.clock, refl));
  }
    where
      differs : (r : ℕ) → IsTrue (is_among ranks r) → d.rank ≢ r
      differs r among same =
          (let inside : is_among ranks d.rank ≡ true = subst (λ k. is_among ranks k ≡ true) (sym same) among in
          absurd (cc))

      stays : (r : ℕ) → IsTrue (is_among ranks r) → slice_get new.ranks r ≡ slice_get old.ranks r
      stays r among =
          ap (λ xs. slice_get xs r) (goes.0).4 ∙ get-set_other old.ranks d.rank r (goes.0).1 (differs r among)

      still : (r : ℕ) (x : Rank) (hart : ℕ) → IsTrue (is_among ranks r) → slice_get old.ranks r ≡ Some x
          → IsHeldUp old r x hart → IsHeldUp new r x hart
      still r x hart among there (inl is) = inl is
      still r x hart among there (inr (inl is)) =
          let ran = comes.alone d.rank (goes.0).0 (goes.0).2 in
          let its = comes.alone r x there in
          inr (inl (record {
            patient = is.patient;
            in_vain = in_vain_still ranks image old new d (goes.0).0 ran.0 ran.1 out r x its.0 its.1 among comes.links
                hart (asked x hart) refl d.act (((goes.0).3).2) goes.1
                (boxes_move old.boxes d new.boxes goes.2)
                (same_links old.journal new.journal (entry_of d) goes.1) is.in_vain;
          }))
      still r x hart among there (inr (inr is)) =
          inr (inr (record {
            receiver = is.receiver;
            among = is.among;
            rests_there = (rest_law.stays) old new r d.rank d.hart hart is.receiver (differs r among)
                (differs is.receiver is.among) turn is.rests_there;
          }))

  -- ---- any turn of a hart that doesn't rest

  one_step : (image : ImageParts) (old : Cluster) (e : Step) (new : Cluster) → Comes image old → AreHeldUp ranks old
      → rests old e.rank e.hart ≡ false → IsStep old e new → Kept old new
  one_step image old e new comes held awake is =
      let p = deed_of old e new is in
      let d = p.0 in
      let goes = p.2 in
      let moves = (goes.0).3 in
      elim (cases_Bool (is_among ranks d.rank)) [
        | inl among ↦
            own_step old new d (goes.0).0 (goes.0).1 (goes.0).2 (goes.0).4
            (passed ranks old new d (goes.0).0 (goes.0).1
            (no_rest d (goes.0).0 (ap (λ (x : Step). rests old x.rank x.hart) p.1 ∙ awake)
            (held d.rank (goes.0).0 d.hart among (goes.0).2 moves.0)) d.act moves.2
            (moves.4, goes.1, boxes_move old.boxes d new.boxes goes.2))
            held
        | inr out ↦
            other_step image old new d comes goes (record {
              step = e;
              rank = ap (λ (x : Step). x.rank) (sym p.1);
              hart = ap (λ (x : Step). x.hart) (sym p.1);
              leads = step_leads old new e is;
            }) out held
      ]
    where
      no_rest : (d : Deed) (s : Rank) → rests old d.rank d.hart ≡ false → IsHeldUp old d.rank s d.hart
          → IsStopped (mode_of s d.hart) ⊎ IsStuckHart ranks old d.rank s d.hart
      no_rest d s awake (inl is) = inl is
      no_rest d s awake (inr (inl is)) = inr is
      no_rest d s awake (inr (inr is)) =
          let e : true ≡ false = sym ((rest_law.each) old d.rank d.hart is.receiver is.rests_there) ∙ awake in absurd (cc)

  -- ---- one after the other

  then_too : (a b c : Cluster) → AreAsTheyWere ranks a b → AreAsTheyWere ranks b c → AreAsTheyWere ranks a c
  then_too a b c first second r x among there =
      let one = first r x among there in
      let two = second r one.0 among one.1 in
      (two.0, two.1, ((two.2).0, (two.2).1 ∙ ap (λ (y : Rank). at_clock y (two.2).0) (one.2).1))

  all_steps : (image : ImageParts) (steps : List Step) (old new : Cluster) → Comes image old → AreHeldUp ranks old
      → IsPatientRun old steps new → AreAsTheyWere ranks old new
  all_steps image [] old new comes held same =
      subst (λ (x : Cluster). AreAsTheyWere ranks old x) (sym same) (λ r x among there. (x, there, (x.clock, refl)))
  all_steps image (e ∷ es) old new comes held run =
      let first = one_step image old e run.0 comes held run.1 run.2 in
      let p = deed_of old e run.0 run.2 in
      then_too old run.0 new first.as_they_were
      (all_steps image es run.0 new (comes_on image old p.0 run.0 comes p.2) first.held run.3)

pub buffering_law : BufferingLaw
buffering_law image c ranks reached need steps new run =
    all_steps ranks image steps c new (comes_reached image reached.0 c reached.1) need.held run
