-- Ranks that are stuck stay so, along each run.
use Rattle.std.specs.Prelude.{ℕ, ◌≡◌, ◌≢◌, ◌⊎◌, ◌<◌, true, false, IsTrue, List, [], ◌∷◌, length, Some}
use Rattle.std.specs.Prelude.{slice_get, slice_set}
use Rattle.std.proofs.Common.{refl, sym, ap, ◌∙◌, subst, inl, inr}
use Rattle.std.proofs.lemmas.Bool.{cases_Bool, cases_eq}
use Rattle.std.proofs.lemmas.Option.{same_Some}
use Rattle.rv_image_types.specs.declared.images.ImageParts.{ImageParts}
use Rattle.mp_hub.specs.Hub.{HubView, outcome}
use Rattle.mp_types.specs.declared.replies.Reply.TheVariants.{NotYet}
use Rattle.mp_transfers.specs.Inits.{is_receiver}
use Rattle.mp_wait_laws.specs.Waits.{IsUpTo, sends_over}
use Rattle.cl_state.specs.declared.asking.Ask.{Ask}
use Rattle.cl_state.specs.declared.asking.Ask.TheVariants as ask
use Rattle.cl_state.specs.Asked.{asked}
use Rattle.cl_state.specs.Rank.{Rank}
use Rattle.cl_state_laws.specs.Vain.{IsStopped, mode_of}
use Rattle.cl_state_laws.specs.VainLaws.{at_clock}
use Rattle.cl_state_laws.proofs.Vain.{vain_law}
use Rattle.cl_deeds.specs.Deeds.{Deed}
use Rattle.cl_machine.specs.declared.steps.Step.{Step}
use Rattle.cl_machine.specs.Boxes.{box_number}
use Rattle.cl_machine.specs.Cluster.{Cluster, IsRun, IsStep}
use Rattle.cl_machine.specs.Product.{entry_of}
use Rattle.cl_machine.specs.ProductSteps.{Goes}
use Rattle.cl_machine.proofs.Lists.{get-set_same, get-set_other}
use Rattle.cl_deadlock_laws.specs.Stuck.{AreAsTheyWere, AreStuck, AsksInVain, IsAsItWas, IsStuckHart, is_among, is_member}
use Rattle.cl_deadlock_laws.specs.Laws.{DeadlockLaw}
use Rattle.cl_deadlock_laws.proofs.Boxes.{boxes_move}
use Rattle.cl_deadlock_laws.proofs.Others.{in_vain_still}
use Rattle.cl_deadlock_laws.proofs.Own.{Passed, hub_of, passed}
use Rattle.cl_deadlock_laws.proofs.Reached.{Comes, comes_on, comes_reached, deed_of, same_links}

module _ (ranks : List ℕ) where
  -- stopped, or held
  abbrev IsStuck : Cluster → ℕ → Rank → ℕ → Type 0
  IsStuck cluster r rank hart = IsStopped (mode_of rank hart) ⊎ IsStuckHart ranks cluster r rank hart

  -- where links, hub and boxes are the same, what was asked in vain is asked in vain
  same_vain : (old new : Cluster) (r : ℕ) (rank : Rank) (a : Ask) → new.journal.links ≡ old.journal.links
      → hub_of new.journal ≡ hub_of old.journal → new.boxes ≡ old.boxes → AsksInVain ranks old r rank.site a
      → AsksInVain ranks new r rank.site a
  same_vain old new r rank (ask.Hub q) links hub boxes vain =
      subst
      (λ (h : HubView). ((outcome h r q).0 ≡ NotYet) × IsUpTo (is_member rank.site) (is_among ranks) h r q) (sym hub)
      vain
  same_vain old new r rank (ask.Look link part) links hub boxes vain = (
    λ box there. vain.0 box (ap (λ bs. slice_get bs (box_number link part)) (sym boxes) ∙ there),
    λ k could. vain.1 k (ap (λ ls. sends_over ls link k) (sym links) ∙ could),
  )
  same_vain old new r rank (ask.Freed link part) links hub boxes vain = (
    λ box there. vain.0 box (ap (λ bs. slice_get bs (box_number link part)) (sym boxes) ∙ there),
    λ k could. vain.1 k (ap (λ ls. is_receiver ls k link) (sym links) ∙ could),
  )
  same_vain old new r rank ask.Held links hub boxes vain = tt
  same_vain old new r rank _ links hub boxes vain = absurd vain

  same_stuck : (old new : Cluster) (r : ℕ) (rank : Rank) (hart : ℕ) → new.journal.links ≡ old.journal.links
      → hub_of new.journal ≡ hub_of old.journal → new.boxes ≡ old.boxes → IsStuck old r rank hart
      → IsStuck new r rank hart
  same_stuck old new r rank hart links hub boxes (inl is) = inl is
  same_stuck old new r rank hart links hub boxes (inr is) =
      inr (record {
        patient = is.patient;
        in_vain = same_vain old new r rank (asked rank hart) links hub boxes is.in_vain;
      })

  -- the clock doesn't matter
  any_clock : (cluster : Cluster) (r : ℕ) (rank : Rank) (hart clock : ℕ) → IsStuck cluster r rank hart
      → IsStuck cluster r (at_clock rank clock) hart
  any_clock cluster r rank hart clock (inl is) = inl is
  any_clock cluster r rank hart clock (inr is) =
      inr (record {
        patient = record { waits = is.patient.waits; on = is.patient.on };
        in_vain = subst (λ (a : Ask). AsksInVain ranks cluster r rank.site a)
            (sym ((vain_law.timeless) rank hart clock)) is.in_vain;
      })

  record Kept (old new : Cluster) : Type 0 where
    stuck : AreStuck ranks new
    as_they_were : AreAsTheyWere ranks old new

  -- a step of one of them
  own_step : (old new : Cluster) (d : Deed) (s t : Rank) → slice_get old.ranks d.rank ≡ Some s
      → new.ranks ≡ slice_set old.ranks d.rank t → Passed old new d.stamp s t → AreStuck ranks old → Kept old new
  own_step old new d s t here moved p stuck = record {
    stuck = λ r x hart among there low.
        same_stuck old new r x hart p.links p.hub p.boxes
        (each r x hart among (sym (ap (λ xs. slice_get xs r) moved) ∙ there) low);
    as_they_were = λ r x among there.
        (let w = was r x there in (w.0, ap (λ xs. slice_get xs r) moved ∙ w.1, w.2));
  }
    where
      at : slice_get (slice_set old.ranks d.rank t) d.rank ≡ Some t
      at = get-set_same old.ranks d.rank s t here

      each : (r : ℕ) (x : Rank) (hart : ℕ) → IsTrue (is_among ranks r)
          → slice_get (slice_set old.ranks d.rank t) r ≡ Some x → hart < length x.harts → IsStuck old r x hart
      each r x hart among there low = elim (cases_eq d.rank r) [
        | inl same ↦
            let is : at_clock s d.stamp ≡ x =
            sym p.rank
            ∙ same_Some t x (sym (subst (λ k. slice_get (slice_set old.ranks d.rank t) k ≡ Some t) same at)
            ∙ there) in
            subst (λ (y : Rank). IsStuck old r y hart) is
            (any_clock old r s hart d.stamp
            (stuck r s hart among (subst (λ k. slice_get old.ranks k ≡ Some s) same here)
            (subst (λ (y : Rank). hart < length y.harts) (sym is) low)))
        | inr other ↦ stuck r x hart among (sym (get-set_other old.ranks d.rank r t other) ∙ there) low
      ]

      was : (r : ℕ) (x : Rank) → slice_get old.ranks r ≡ Some x
          → (after : Rank) × (slice_get (slice_set old.ranks d.rank t) r ≡ Some after) × IsAsItWas x after
      was r x there = elim (cases_eq d.rank r) [
        | inl same ↦
            let is : s ≡ x = same_Some s x (sym (subst (λ k. slice_get old.ranks k ≡ Some s) same here) ∙ there) in (
              t,
              subst (λ k. slice_get (slice_set old.ranks d.rank t) k ≡ Some t) same at,
              (d.stamp, p.rank ∙ ap (λ (y : Rank). at_clock y d.stamp) is),
            )
        | inr other ↦ (x, get-set_other old.ranks d.rank r t other ∙ there, (x.clock, refl))
      ]

  -- a step of another
  other_step : (image : ImageParts) (old new : Cluster) (d : Deed) → Comes image old → Goes old d new
      → is_among ranks d.rank ≡ false → AreStuck ranks old → Kept old new
  other_step image old new d comes goes out stuck = record {
    stuck = λ r x hart among there low.
        (let before = sym (stays r among) ∙ there in still r x hart among before (stuck r x hart among before low));
    as_they_were = λ r x among there. (x, stays r among ∙ there, (x.clock, refl));
  }
    where
      differs : (r : ℕ) → IsTrue (is_among ranks r) → d.rank ≢ r
      differs r among same =
          (let inside : is_among ranks d.rank ≡ true = subst (λ k. is_among ranks k ≡ true) (sym same) among in
          absurd (cc))

      stays : (r : ℕ) → IsTrue (is_among ranks r) → slice_get new.ranks r ≡ slice_get old.ranks r
      stays r among =
          ap (λ xs. slice_get xs r) (goes.0).4 ∙ get-set_other old.ranks d.rank r (goes.0).1 (differs r among)

      still : (r : ℕ) (x : Rank) (hart : ℕ) → IsTrue (is_among ranks r) → slice_get old.ranks r ≡ Some x
          → IsStuck old r x hart → IsStuck new r x hart
      still r x hart among there (inl is) = inl is
      still r x hart among there (inr is) =
          let ran = comes.alone d.rank (goes.0).0 (goes.0).2 in
          let its = comes.alone r x there in
          inr (record {
            patient = is.patient;
            in_vain = in_vain_still ranks image old new d (goes.0).0 ran.0 ran.1 out r x its.0 its.1 among comes.links
                hart (asked x hart) refl d.act (((goes.0).3).2) goes.1
                (boxes_move old.boxes d new.boxes goes.2)
                (same_links old.journal new.journal (entry_of d) goes.1) is.in_vain;
          })

  one_step : (image : ImageParts) (old : Cluster) (e : Step) (new : Cluster) → Comes image old → AreStuck ranks old
      → IsStep old e new → Kept old new
  one_step image old e new comes stuck is =
      let p = deed_of old e new is in
      let d = p.0 in
      let goes = p.2 in
      let moves = (goes.0).3 in
      elim (cases_Bool (is_among ranks d.rank)) [
        | inl among ↦
            own_step old new d (goes.0).0 (goes.0).1 (goes.0).2 (goes.0).4
            (passed ranks old new d (goes.0).0 (goes.0).1
            (stuck d.rank (goes.0).0 d.hart among (goes.0).2 moves.0) d.act moves.2
            (moves.4, goes.1, boxes_move old.boxes d new.boxes goes.2))
            stuck
        | inr out ↦ other_step image old new d comes goes out stuck
      ]

  -- one after the other
  then_too : (a b c : Cluster) → AreAsTheyWere ranks a b → AreAsTheyWere ranks b c → AreAsTheyWere ranks a c
  then_too a b c first second r x among there =
      let one = first r x among there in
      let two = second r one.0 among one.1 in
      (two.0, two.1, ((two.2).0, (two.2).1 ∙ ap (λ (y : Rank). at_clock y (two.2).0) (one.2).1))

  all_steps : (image : ImageParts) (steps : List Step) (old new : Cluster) → Comes image old → AreStuck ranks old
      → IsRun old steps new → AreAsTheyWere ranks old new
  all_steps image [] old new comes stuck same =
      subst (λ (x : Cluster). AreAsTheyWere ranks old x) (sym same) (λ r x among there. (x, there, (x.clock, refl)))
  all_steps image (e ∷ es) old new comes stuck run =
      let first = one_step image old e run.0 comes stuck run.1 in
      let p = deed_of old e run.0 run.1 in
      then_too old run.0 new first.as_they_were
      (all_steps image es run.0 new (comes_on image old p.0 run.0 comes p.2) first.stuck run.2)

pub deadlock_law : DeadlockLaw
deadlock_law image cluster ranks reached stuck waits = record {
  waits = waits;
  forever = λ steps new run.
      all_steps ranks image steps cluster new (comes_reached image reached.0 cluster reached.1) stuck run;
}
