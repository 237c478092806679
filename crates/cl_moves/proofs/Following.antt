-- A hub that forgets nothing goes as the cluster's own.
use Rattle.std.specs.Prelude.{ℕ, ◌≡◌, ◌<◌, List, [], ◌∷◌, ◌++◌, length, option_map, slice_get, Option, Some, None}
use Rattle.std.proofs.Common.{refl, sym, ap, ◌∙◌, subst}
use Rattle.std.proofs.lemmas.List.{map-append}
use Rattle.std.proofs.lemmas.Option.{same_Some, slice_get-map}
use Rattle.rv_image_types.specs.declared.images.ImageParts.{ImageParts}
use Rattle.mp_types.specs.declared.requests.Request.{Request}
use Rattle.mp_hub.specs.Hub.{HubView, hub_after}
use Rattle.cl_journal.specs.declared.entries.Entry.{Entry}
use Rattle.cl_journal.specs.Journal.{call_of, calls_of}
use Rattle.cl_state.specs.declared.asking.Ask.{Ask}
use Rattle.cl_state.specs.declared.state.RankState.{RankState}
use Rattle.cl_state.specs.Asked.{asked}
use Rattle.cl_state.specs.Rank.{Rank}
use Rattle.cl_state.specs.Room.{rank_of}
use Rattle.cl_trace.specs.declared.events.Kind.{Kind}
use Rattle.cl_machine.specs.Cluster.{CaseOf, Cluster, IsStep}
use Rattle.cl_machine.specs.Journal.{Journal}
use Rattle.cl_machine.specs.declared.steps.Step.{Step}
use Rattle.cl_order_laws.specs.Alike.{hub_of}
use Rattle.cl_replay.specs.declared.states.ClusterState.{ClusterState}
use Rattle.cl_replay.specs.States.{ClusterStandsFor}
use Rattle.cl_moves.specs.Whole.{Follows, IsAskedAs, IsAskedBy, requested}

-- the state's rank is the cluster's
own_of : (state : ClusterState) (r : ℕ) (P : Rank → Type 0)
    → ((own : RankState) → slice_get state.ranks.items r ≡ Some own → P (rank_of own))
    → (x : Rank) (o : Option RankState) → slice_get state.ranks.items r ≡ o → option_map rank_of o ≡ Some x → P x
own_of state r P each x None is mapped = absurd (cc)
own_of state r P each x (Some own) is mapped = subst P (same_Some (rank_of own) x mapped) (each own is)

module _ (state : ClusterState) (old new : Cluster) (e : Step) (rank : Rank) (q : Option Request) (h g : HubView)
    (was : h ≡ hub_of old.journal) (follows : Follows h e.rank q g) where
  as_before : q ≡ None → new.journal ≡ old.journal → g ≡ hub_of new.journal
  as_before none same = subst (λ o. Follows h e.rank o g) none follows ∙ was ∙ ap hub_of (sym same)

  calls_more : (journal : Journal) (request : Request) (entry : Entry) → journal.links ≡ old.journal.links
      → journal.entries ≡ old.journal.entries ++ entry ∷ [] → call_of entry ≡ (e.rank, request) → Some request ≡ q
      → g ≡ hub_of journal
  calls_more journal request entry links entries call is =
      let calls = calls_of old.journal.entries in
      let more : calls_of journal.entries ≡ calls ++ (e.rank, request) ∷ [] =
      ap calls_of entries
      ∙ (map-append call_of old.journal.entries (entry ∷ []) ∙ ap (λ c. calls ++ c ∷ []) call) in
      subst (λ o. Follows h e.rank o g) (sym is) follows old.journal.links calls was
      ∙ (λ i. hub_after (sym links i) (sym more i))

  pub whole_on : (kind : Kind) → CaseOf old e rank kind new → IsAskedAs kind state e q
      → ((request : Request) → asked rank e.hart ≡ Ask.Hub request
      → ((own : RankState) → slice_get state.ranks.items e.rank ≡ Some own → e.hart < length own.harts.items
      → requested (asked (rank_of own) e.hart) ≡ q)
      → Some request ≡ q)
      → g ≡ hub_of new.journal
  whole_on Kind.Plain c is at = as_before is (ap (λ (k : Cluster). k.journal) c.2)
  whole_on Kind.Local c is at = as_before is (ap (λ (k : Cluster). k.journal) c.2)
  whole_on Kind.Held c is at = as_before is (ap (λ (k : Cluster). k.journal) c.2)
  whole_on Kind.Idle c is at = as_before is (ap (λ (k : Cluster). k.journal) c.2)
  whole_on Kind.Ready c is at = as_before is (ap (λ (k : Cluster). k.journal) c.8)
  whole_on Kind.Take c is at = as_before is (ap (λ (k : Cluster). k.journal) c.8)
  whole_on Kind.Miss c is at = as_before is (ap (λ (k : Cluster). k.journal) c.4)
  whole_on Kind.Freed c is at = as_before is (ap (λ (k : Cluster). k.journal) c.7)
  whole_on (Kind.Hub reply) c is at =
      calls_more new.journal c.0
      (record { rank = e.rank; hart = e.hart; clock = rank.clock; stamp = e.stamp; request = c.0; reply = reply })
      (ap (λ (k : Cluster). (k.journal).links) c.4) (ap (λ (k : Cluster). (k.journal).entries) c.4) refl
      (at c.0 c.1 is)

-- whatever the step was
pub whole_follows : (image : ImageParts) (state : ClusterState) (old new : Cluster) (e : Step) (q : Option Request)
    (h g : HubView) → ClusterStandsFor image state old → IsStep old e new → IsAskedBy state e q
    → Follows h e.rank q g → h ≡ hub_of old.journal → g ≡ hub_of new.journal
whole_follows image state old new e q h g stands step is follows was =
    let mapped : option_map rank_of (slice_get state.ranks.items e.rank) ≡ Some step.0 =
    sym (slice_get-map rank_of state.ranks.items e.rank)
    ∙ (sym (ap (λ (rs : List Rank). slice_get rs e.rank) stands.ranks_are) ∙ step.1) in
    whole_on state old new e step.0 q h g was follows e.kind step.4 is
    (λ request asks each.
    sym (ap requested asks)
    ∙ own_of state e.rank (λ x. e.hart < length x.harts → requested (asked x e.hart) ≡ q) each step.0
    (slice_get state.ranks.items e.rank) refl mapped step.2)
