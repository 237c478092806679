-- Alike clusters have the same ranks stuck, and one verdict.
use Rattle.std.proofs.Common.{◌≡◌, ◌∙◌, ℕ, ◌⊎◌, inl, inr, refl, sym, ap, subst, arith, List, Option, Some, None}
use Rattle.std.specs.List.{slice_get}
use Rattle.mp_transfers.specs.Inits.{is_receiver}
use Rattle.mp_hub.specs.Hub.{hub_at_start}
use Rattle.mp_hub.proofs.Transfers.{links_on}
use Rattle.mp_wait_laws.specs.Waits.{sends_over}
use Rattle.mp_alike_laws.specs.Renaming.{Renaming}
use Rattle.mp_source_laws.specs.Alike.{Wild}
use Rattle.cl_journal.specs.Journal.{calls_of}
use Rattle.cl_calls.specs.declared.sites.Site.{Site}
use Rattle.cl_state.specs.declared.asking.Ask.{Ask}
use Rattle.cl_state.specs.Asked.{asked}
use Rattle.cl_state.specs.Rank.{Rank}
use Rattle.cl_state_laws.specs.Vain.{IsStopped, IsWaiting, mode_of}
use Rattle.cl_names_laws.specs.Named.{ask_by}
use Rattle.cl_machine.specs.Boxes.{box_number}
use Rattle.cl_machine.specs.Cluster.{Cluster}
use Rattle.cl_deadlock_laws.specs.Stuck.{AreStuck, AsksInVain, IsStuckHart, SomeWaits, is_among, is_member}
use Rattle.cl_deadlock.specs.Why.{AreRanks, IsVerdictOf}
use Rattle.cl_deadlock.proofs.One.{one_list}
use Rattle.cl_order_laws.specs.Alike.{AlikeRanks}
use Rattle.cl_order_laws.proofs.Ahead.{mode_alike, stopped_on}
use Rattle.cl_order_laws.proofs.Boxes.{empty_before, empty_too}
use Rattle.cl_order_laws.proofs.Deadlocks.{patient_on, waiting_on}
use Rattle.cl_order_laws.proofs.Likeness.{each_from}
use Rattle.cl_order_laws.proofs.Ranks.{asked_alike, harts_alike}
use Rattle.cl_reduction_laws.proofs.Below.{source_law}
use Rattle.cl_reduction_laws.specs.Below.{AreAlike, AskOfLive}
use Rattle.cl_verdict_laws.specs.Live.{AllAskOfLive}
use Rattle.cl_verdict_laws.specs.Verdicts.{VerdictLaw}
use Rattle.cl_verdict_laws.proofs.Asking.{asking_law}
use Rattle.cl_verdict_laws.proofs.Live.{live_law}

module _ (ranks : List ℕ) (wild : Wild) (a b : Cluster) (alike : AreAlike wild a b) (live : AllAskOfLive a) where
  abbrev names : Renaming
  names = alike.0

  same_links : b.journal.links ≡ a.journal.links
  same_links =
      sym (links_on (calls_of b.journal.entries) (hub_at_start b.journal.links)) ∙ ((alike.1).hubs).links
      ∙ links_on (calls_of a.journal.entries) (hub_at_start a.journal.links)

  vain_on : (r : ℕ) (site : Site) (q : Ask) → AskOfLive a q → AsksInVain ranks a r site q
      → AsksInVain ranks b r site (ask_by names q)
  vain_on r site (Ask.Hub q) of_live vain =
      (asking_law.waits) (is_member site) (is_among ranks) wild names a.journal.links b.journal.links
      (calls_of a.journal.entries) (calls_of b.journal.entries) r q of_live (alike.1).hubs vain
  vain_on r site (Ask.Look link part) of_live vain = (
    λ box there.
        let v = each_from (alike.1).boxes (box_number link part) box there in empty_too v.0 box v.2 (vain.0 v.0 v.1),
    λ k could. vain.1 k (ap (λ ls. sends_over ls link k) (sym same_links) ∙ could),
  )
  vain_on r site (Ask.Freed link part) of_live vain = (
    λ box there empty.
        let v = each_from (alike.1).boxes (box_number link part) box there in
        vain.0 v.0 v.1 (empty_before v.0 box v.2 empty),
    λ k could. vain.1 k (ap (λ ls. is_receiver ls k link) (sym same_links) ∙ could),
  )
  vain_on r site Ask.Held of_live vain = tt
  vain_on r site Ask.Plain of_live vain = absurd vain
  vain_on r site Ask.Local of_live vain = absurd vain
  vain_on r site Ask.Idle of_live vain = absurd vain
  vain_on r site (Ask.Ready link part bytes) of_live vain = absurd vain

  hart_on : (r : ℕ) (x y : Rank) → slice_get a.ranks r ≡ Some x → AlikeRanks names x y → (hart : ℕ)
      → IsStopped (mode_of x hart) ⊎ IsStuckHart ranks a r x hart
      → IsStopped (mode_of y hart) ⊎ IsStuckHart ranks b r y hart
  hart_on r x y there both hart (inl stopped) =
      inl (subst IsStopped (sym (mode_alike names x y both hart)) (stopped_on names x y both (mode_of x hart) stopped))
  hart_on r x y there both hart (inr held) = inr (record {
    patient = patient_on names x y both hart held.patient;
    in_vain =
        subst (λ site. AsksInVain ranks b r site (asked y hart)) (sym (ap (λ (z : Rank). z.site) both.1))
        (subst (AsksInVain ranks b r x.site) (sym (asked_alike names x y both hart))
        (vain_on r x.site (asked x hart) (live r x hart there) held.in_vain));
  })

  pub stuck_on : AreStuck ranks a → AreStuck ranks b
  stuck_on stuck r y hart among there below =
      let v = each_from (alike.1).ranks r y there in
      let many = harts_alike names v.0 y v.2 in
      hart_on r v.0 y v.1 v.2 hart (stuck r v.0 hart among v.1 (omega (arith, below, many)))

  waits_on : SomeWaits ranks a → SomeWaits ranks b
  waits_on w =
      let v = ((alike.1).ranks).each w.r w.rank w.there in
      record {
        r = w.r;
        rank = v.0;
        hart = w.hart;
        among = w.among;
        there = v.1;
        waits = subst IsWaiting (sym (mode_alike names w.rank v.0 v.2 w.hart))
            (waiting_on names w.rank v.0 v.2 (mode_of w.rank w.hart) w.waits);
      }

  ranks_on : AreRanks ranks a → AreRanks ranks b
  ranks_on are r among = (let low = are r among in let many = ((alike.1).ranks).many in omega (arith, low, many))

-- ---- the verdict

module _ (wild : Wild) (a b : Cluster) (alike : AreAlike wild a b) (live : AllAskOfLive a) (also : AllAskOfLive b) where
  abbrev back : AreAlike wild b a
  back = (source_law.back) wild a b alike

  one_verdict : (one other : Option (List ℕ)) → IsVerdictOf a one → IsVerdictOf b other → one ≡ other
  one_verdict None None f g = refl
  one_verdict None (Some ys) f g =
      absurd (f ys (ranks_on ys wild b a back also g.are_ranks) (stuck_on ys wild b a back also g.stuck)
      (waits_on ys wild b a back also (g.deadlock).waits))
  one_verdict (Some xs) None f g =
      absurd (g xs (ranks_on xs wild a b alike live f.are_ranks) (stuck_on xs wild a b alike live f.stuck)
      (waits_on xs wild a b alike live (f.deadlock).waits))
  one_verdict (Some xs) (Some ys) f g =
      ap (λ l. Some l) (one_list xs ys f.rising g.rising
      (g.most xs (ranks_on xs wild a b alike live f.are_ranks) (stuck_on xs wild a b alike live f.stuck))
      (f.most ys (ranks_on ys wild b a back also g.are_ranks) (stuck_on ys wild b a back also g.stuck)))

pub verdict_law : VerdictLaw
verdict_law = record {
  stuck = λ image wild a b ranks reached alike stuck. stuck_on ranks wild a b alike (live_law image a reached) stuck;
  verdict = λ image wild a b one other reached also alike first second.
      one_verdict wild a b alike (live_law image a reached) (live_law image b also) one other first second;
}
