-- A turn in vain leads to a cluster that is alike.
use Rattle.std.proofs.Common.{◌≡◌, ℕ, ◌⊎◌, inl, inr, length, Some, sym, ap, ◌∙◌, subst}
use Rattle.std.specs.List.{slice_get, slice_set}
use Rattle.std.proofs.lemmas.Bool.{cases_eq}
use Rattle.std.proofs.lemmas.Option.{same_Some}
use Rattle.mp_types.specs.declared.replies.Reply.{Reply}
use Rattle.mp_types.specs.declared.replies.Reply.TheVariants as reply
use Rattle.mp_hub.specs.Hub.{HubView, hub_after}
use Rattle.mp_hub.proofs.Histories.{hub_more}
use Rattle.mp_hub.proofs.Vain.{in_vain}
use Rattle.mp_wait_laws.proofs.Sets.{get-set_other}
use Rattle.mp_wait_laws.proofs.Vain.{vain_law as told_in_vain}
use Rattle.mp_alike_laws.specs.Renaming.{no_renaming}
use Rattle.mp_alike_laws.specs.Alike.{AlikeHubs}
use Rattle.mp_alike_laws.proofs.Likeness.{itself as hub_itself}
use Rattle.cl_journal.specs.declared.entries.Entry.{Entry}
use Rattle.cl_journal.specs.Journal.{call_of, calls_of}
use Rattle.cl_journal.proofs.History.{calls_of-snoc}
use Rattle.cl_state.specs.declared.asking.Answer.{Answer}
use Rattle.cl_state.specs.declared.asking.Ask.{Ask}
use Rattle.cl_state.specs.Asked.{asked}
use Rattle.cl_state.specs.Rank.{Rank}
use Rattle.cl_state.specs.Told.{told}
use Rattle.cl_state_laws.specs.Laws.{IsLook}
use Rattle.cl_state_laws.specs.VainLaws.{at_clock}
use Rattle.cl_state_laws.proofs.Vain.{vain_law as rank_vain}
use Rattle.cl_trace.specs.declared.events.Kind.{Kind}
use Rattle.cl_machine.specs.declared.steps.Step.{Step}
use Rattle.cl_machine.specs.Cluster.{CaseOf, Cluster, only_told}
use Rattle.cl_machine.specs.Journal.{Journal, reply_in, with_entry}
use Rattle.cl_order_laws.specs.Alike.{AlikeBoxes, AlikeClusters, AlikeRanks, AreEach, hub_of}
use Rattle.cl_order_laws.specs.Laws.{IsReached, IsVainTurn, VainLaw}
use Rattle.cl_order_laws.proofs.Each.{set_here, set_length}
use Rattle.cl_order_laws.proofs.Likeness.{rank_itself, reached_sound}

-- a call that is answered NotYet leaves the hub as it was
pub hub_stays : (journal : Journal) (e : Entry) → reply_in journal e.rank e.request ≡ reply.NotYet
    → hub_of (with_entry journal e) ≡ hub_of journal
unfolding reply_in
hub_stays journal e told =
    let calls = calls_of journal.entries in
    ap (hub_after journal.links) (calls_of-snoc journal.entries e)
    ∙ hub_more journal.links calls (call_of e)
    ∙ ap (λ (o : Reply × HubView). o.1)
    (in_vain (hub_after journal.links calls) e.rank e.request ((told_in_vain journal.links calls e.rank e.request).1 told))

module _ (old new : Cluster) (e : Step) (x : Rank) (reached : IsReached old) (here : slice_get old.ranks e.rank ≡ Some x) where
  -- the rank has another clock, and the hub is as it was
  passed : (z : Rank) (stamp : ℕ) → z ≡ at_clock x stamp → new.ranks ≡ slice_set old.ranks e.rank z
      → hub_of new.journal ≡ hub_of old.journal → new.boxes ≡ old.boxes → AlikeClusters no_renaming old new
  passed z stamp is ranks hub boxes = record {
    ranks = record {
      many = ap (λ xs. length xs) ranks ∙ set_length old.ranks e.rank z;
      each = λ r rank there. elim (cases_eq e.rank r) [
        | inl same ↦
            let at : x ≡ rank = same_Some x rank (sym here ∙ subst (λ k. slice_get old.ranks k ≡ Some rank) (sym same) there) in (
              z,
              ap (λ xs. slice_get xs r) ranks
                  ∙ subst (λ k. slice_get (slice_set old.ranks e.rank z) k ≡ Some z) same (set_here old.ranks e.rank z x here),
              subst (λ q. AlikeRanks no_renaming rank q) (ap (λ q. at_clock q stamp) (sym at) ∙ sym is)
                  (rank_itself rank stamp),
            )
        | inr other ↦ (
          rank,
          ap (λ xs. slice_get xs r) ranks ∙ get-set_other old.ranks e.rank r z other ∙ there,
          rank_itself rank rank.clock,
        )
      ];
    };
    hubs = subst (λ h. AlikeHubs no_renaming (hub_of old.journal) h) (sym hub) (hub_itself (hub_of old.journal));
    boxes = subst (λ bs. AreEach AlikeBoxes old.boxes bs) (sym boxes) (reached_sound old reached);
  }

  only : (answer : Answer) → told x e.hart answer e.stamp ≡ at_clock x e.stamp → new ≡ only_told old e x answer
      → AlikeClusters no_renaming old new
  only answer is same =
      passed (told x e.hart answer e.stamp) e.stamp is (ap (λ (c : Cluster). c.ranks) same)
      (ap (λ (c : Cluster). hub_of c.journal) same) (ap (λ (c : Cluster). c.boxes) same)

  looks : (link part : ℕ) → ((asked x e.hart ≡ Ask.Look link part) ⊎ (asked x e.hart ≡ Ask.Freed link part))
      → IsLook (asked x e.hart)
  looks link part (inl look) = subst IsLook (sym look) tt
  looks link part (inr freed) = subst IsLook (sym freed) tt

  pub vain : (kind : Kind) → IsVainTurn x e.hart kind → CaseOf old e x kind new → AlikeClusters no_renaming old new
  vain (Kind.Hub reply.NotYet) patient c =
      passed (told x e.hart (Answer.Reply reply.NotYet) e.stamp) e.stamp
      ((rank_vain.not_yet) x e.hart e.stamp c.0 patient c.1)
      (ap (λ (k : Cluster). k.ranks) c.4)
      (ap (λ (k : Cluster). hub_of k.journal) c.4 ∙ hub_stays old.journal _ (sym c.2))
      (ap (λ (k : Cluster). k.boxes) c.4)
  vain Kind.Miss patient c =
      only Answer.Missed ((rank_vain.missed) x e.hart e.stamp patient (looks c.0 c.1 c.2)) c.4
  vain Kind.Held patient c = only Answer.Alone ((rank_vain.held) x e.hart e.stamp patient c.0) c.2
  vain Kind.Idle stopped c = only Answer.Alone ((rank_vain.stopped) x e.hart e.stamp Answer.Alone stopped).1 c.2
  vain _ is c = absurd is

pub vain_law : VainLaw
vain_law old new e rank reached here turn step =
    let same : step.0 ≡ rank = same_Some step.0 rank (sym step.1 ∙ here) in
    (no_renaming, vain old new e rank reached here e.kind turn (subst (λ x. CaseOf old e x e.kind new) same step.4))
