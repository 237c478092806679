-- A step of a state is a step of the cluster for which it stands.
use Rattle.std.specs.Prelude.{ℕ, ◌≡◌, ◌<◌, ◌^◌, ◌++◌, ◌∷◌, [], List, length, map, option_map, slice_get, slice_set}
use Rattle.std.specs.Prelude.{Some}
use Rattle.std.proofs.Common.{refl, sym, ap, ◌∙◌, subst}
use Rattle.std.proofs.lemmas.List.{map-append, map-set}
use Rattle.std.proofs.lemmas.Option.{same_Some, slice_get-map}
use Rattle.rv_image_types.specs.declared.images.ImageParts.{ImageParts}
use Rattle.part_box.specs.declared.settled.Settled.{Settled}
use Rattle.mp_hub.specs.Hub.{Call}
use Rattle.mp_hub.specs.Outcomes.{StandsFor as HubStandsFor}
use Rattle.cl_journal.specs.declared.entries.Entry.{Entry}
use Rattle.cl_state.specs.declared.asking.Answer.{Answer}
use Rattle.cl_state.specs.declared.state.RankState.{RankState}
use Rattle.cl_state.specs.Rank.{Rank}
use Rattle.cl_state.specs.Room.{rank_of}
use Rattle.cl_state.specs.Told.{told}
use Rattle.cl_trace.specs.declared.events.Kind.{Kind}
use Rattle.cl_machine.specs.Keys.{Shows, ShowsAll}
use Rattle.cl_machine.specs.Boxes.{Box}
use Rattle.cl_machine.specs.Cluster.{CaseOf, Cluster, IsStep, only_told, ranks_told, with_box}
use Rattle.cl_machine.specs.Journal.{with_entry}
use Rattle.cl_journal.specs.Journal.{call_of, calls_of}
use Rattle.cl_machine.specs.declared.steps.Step.{Step}
use Rattle.cl_replay.specs.declared.states.ClusterState.{ClusterState}
use Rattle.cl_replay.specs.Boxes.{ChangesBox, settled_at}
use Rattle.cl_replay.specs.States.{ClusterStandsFor}
use Rattle.cl_replay.specs.Turns.{IsTold}
use Rattle.cl_replay.proofs.Boxed.{shows_changed}
use Rattle.cl_replay.proofs.Clusters.{of_step}

-- where a step leads
abbrev pub LeadsFrom : ImageParts → Cluster → Step → ClusterState → Type 0
LeadsFrom image cluster e new = (next : Cluster) × IsStep cluster e next × ClusterStandsFor image new next

module _ (image : ImageParts) (old : ClusterState) (cluster : Cluster) (stands : ClusterStandsFor image old cluster) (e : Step)
    (s : RankState) (at : slice_get old.ranks.items e.rank ≡ Some s) where
  pub rank_there : slice_get cluster.ranks e.rank ≡ Some (rank_of s)
  rank_there =
      ap (λ (rs : List Rank). slice_get rs e.rank) stands.ranks_are
      ∙ (slice_get-map rank_of old.ranks.items e.rank ∙ ap (option_map rank_of) at)

  -- whatever the step leads to, its kind's case holds of this rank
  pub case_of : (next : Cluster) (k : Kind) → e.kind ≡ k → IsStep cluster e next → CaseOf cluster e (rank_of s) k next
  case_of next k is step =
      subst (λ x. CaseOf cluster e x k next) (same_Some step.0 (rank_of s) (sym step.1 ∙ rank_there))
      (subst (λ j. CaseOf cluster e step.0 j next) is step.4)

  module _ (new : ClusterState) (after : RankState) (hart : e.hart < length s.harts.items) (low : e.stamp < 2 ^ 62)
      (ranks : new.ranks.items ≡ slice_set old.ranks.items e.rank after) (k : Kind) (is : e.kind ≡ k)
      (answer : Answer) (by : IsTold (rank_of s) e answer (rank_of after)) where
    ranks_are : ranks_told cluster e (rank_of s) answer ≡ map rank_of new.ranks.items
    ranks_are =
        ap (λ (rs : List Rank). slice_set rs e.rank (told (rank_of s) e.hart answer e.stamp)) stands.ranks_are
        ∙ (ap (slice_set (map rank_of old.ranks.items) e.rank) (sym by)
        ∙ (sym (map-set rank_of old.ranks.items e.rank after) ∙ ap (map rank_of) (sym ranks)))

    lead : (next : Cluster) → CaseOf cluster e (rank_of s) k next
        → next.ranks ≡ ranks_told cluster e (rank_of s) answer
        → HubStandsFor new.hub image.links (calls_of next.journal.entries) → new.clock ≡ next.journal.clock
        → ShowsAll image new.boxes.items next.boxes → LeadsFrom image cluster e new
    lead next case told_are hub clock boxes =
        let step : IsStep cluster e next =
        (rank_of s, rank_there, hart, low, subst (λ j. CaseOf cluster e (rank_of s) j next) (sym is) case) in (
          next,
          step,
          record {
            of = of_step image cluster next e stands.of step;
            ranks_are = told_are ∙ ranks_are;
            hub_stands = hub;
            clock_is = clock;
            boxes_show = boxes;
          },
        )

    -- a step that touches its rank alone
    pub lead_alone : new.hub ≡ old.hub → new.clock ≡ old.clock → new.boxes.items ≡ old.boxes.items
        → CaseOf cluster e (rank_of s) k (only_told cluster e (rank_of s) answer) → LeadsFrom image cluster e new
    lead_alone hub clock boxes case =
        lead (only_told cluster e (rank_of s) answer) case refl (hub ∙ stands.hub_stands) (clock ∙ stands.clock_is)
        (subst (λ left. ShowsAll image left cluster.boxes) (sym boxes) stands.boxes_show)

    -- a step that changes a box
    pub lead_boxed : (n : ℕ) (before now : Settled) (box : Box) → new.hub ≡ old.hub → new.clock ≡ old.clock
        → settled_at old.boxes.items n ≡ Some before → ChangesBox old.boxes.items n now new.boxes.items
        → Shows image.version now box
        → CaseOf cluster e (rank_of s) k (with_box cluster e (rank_of s) answer n box) → LeadsFrom image cluster e new
    lead_boxed n before now box hub clock there changes shows case =
        lead (with_box cluster e (rank_of s) answer n box) case refl (hub ∙ stands.hub_stands) (clock ∙ stands.clock_is)
        (shows_changed image old.boxes.items cluster.boxes stands.boxes_show stands.of.boxes n new.boxes.items now box
        changes
        before there shows)

    -- a step that calls the hub
    pub lead_called : (entry : Entry) → new.clock ≡ entry.stamp → new.boxes.items ≡ old.boxes.items
        → HubStandsFor new.hub image.links (calls_of cluster.journal.entries ++ call_of entry ∷ [])
        → CaseOf cluster e (rank_of s) k (record {
          ranks = ranks_told cluster e (rank_of s) answer;
          journal = with_entry cluster.journal entry;
          boxes = cluster.boxes;
        })
        → LeadsFrom image cluster e new
    lead_called entry clock boxes hub case =
        lead (record {
          ranks = ranks_told cluster e (rank_of s) answer;
          journal = with_entry cluster.journal entry;
          boxes = cluster.boxes;
        }) case refl
        (subst (λ (calls : List Call). HubStandsFor new.hub image.links calls)
        (sym (map-append call_of cluster.journal.entries (entry ∷ []))) hub)
        clock (subst (λ left. ShowsAll image left cluster.boxes) (sym boxes) stands.boxes_show)
