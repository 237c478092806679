-- A cluster whose parts are as they were.
use Rattle.std.specs.Prelude.{ℕ, ◌≡◌, List, length, map}
use Rattle.std.specs.Global.{Vec}
use Rattle.std.specs.Vec.{with_item, with_items}
use Rattle.std.proofs.lemmas.List.{with_items_is}
use Rattle.part_box.specs.declared.settled.Settled.{Settled}
use Rattle.std.proofs.Common.{ap, get_or, subst, sym, ◌∙◌}
use Rattle.std.proofs.Math.Seq.{map-set_same}
use Rattle.mp_hub.specs.Outcomes.{StandsFor as HubStandsFor}
use Rattle.cl_machine.specs.Keys.{ShowsAll}
use Rattle.cl_state.specs.Room.{rank_of}
use Rattle.cl_state.specs.declared.state.RankState.{RankState}
use Rattle.cl_journal.specs.Journal.{calls_of}
use Rattle.cl_replay.specs.Kept.{Snapshot, snapshot}
use Rattle.cl_machine.specs.declared.steps.Step.{Step}
use Rattle.cl_replay.specs.InnerStates.{AreSame, StandsAlike}
use Rattle.cl_replay.specs.Steps.{Leads, StepFaultHolds}
use Rattle.cl_replay.specs.declared.faults.StepFault.{StepFault}
use Rattle.cl_replay.specs.declared.faults.StepFault.TheVariants.{NotAStep, Memory}
use Rattle.cl_replay.specs.declared.states.ClusterState.{ClusterState}

-- one rank is another in memory, and the same to those who look
pub same_but_rank : (old new : ClusterState) (i : ℕ) (s t : RankState) → s ≡ get_or old.ranks.items i s
    → rank_of t ≡ rank_of s → new.ranks ≡ with_item old.ranks i t → new.hub ≡ old.hub → new.clock ≡ old.clock
    → new.boxes.items ≡ old.boxes.items → AreSame old new
same_but_rank old new i s t value same ranks hub clock boxes = record {
  ranks = ap (λ r. map rank_of r.items) ranks ∙ map-set_same rank_of old.ranks.items i t s (same ∙ ap rank_of value);
  hub = hub;
  clock = clock;
  boxes = boxes;
}

-- whichever cluster the one is, the other is that too
pub same_stands : (one other : ClusterState) → AreSame one other → StandsAlike one other
same_stands one other same image cluster stands = record {
  of = stands.of;
  ranks_are = stands.ranks_are ∙ sym same.ranks;
  hub_stands = subst (λ hub. HubStandsFor hub image.links (calls_of cluster.journal.entries)) (sym same.hub) stands.hub_stands;
  clock_is = same.clock ∙ stands.clock_is;
  boxes_show = subst (λ boxes. ShowsAll image boxes cluster.boxes) (sym same.boxes) stands.boxes_show;
}

-- boxes that were written back as they were
pub same_items : (boxes : Vec (List Settled)) (after : List (List Settled)) → after ≡ boxes.items
    → (with_items boxes after).items ≡ boxes.items
same_items boxes after same =
    with_items_is boxes after (ap (λ (xs : List (List Settled)). length xs) same ∙ sym boxes.ok.0) ∙ same

-- two states of which the same is kept are the same
pub snapshot_same : (one other : ClusterState) → snapshot other ≡ snapshot one → AreSame one other
snapshot_same one other same = record {
  ranks = ap (λ (kept : Snapshot). kept.ranks) same;
  hub = ap (λ (kept : Snapshot). kept.hub) same;
  clock = ap (λ (kept : Snapshot). kept.clock) same;
  boxes = ap (λ (kept : Snapshot). kept.boxes) same;
}

-- a step from a cluster that is the same
pub same_leads : (one other new : ClusterState) (e : Step) → AreSame one other → Leads other e new → Leads one e new
same_leads one other new e same leads = λ image cluster stands. leads image cluster (same_stands one other same image cluster stands)

pub same_fault : (one other : ClusterState) (e : Step) → AreSame one other → (fault : StepFault) → StepFaultHolds other e fault → StepFaultHolds one e fault
same_fault one other e same NotAStep holds = λ image cluster next stands. holds image cluster next (same_stands one other same image cluster stands)
same_fault one other e same Memory holds = λ image cluster stands. holds image cluster (same_stands one other same image cluster stands)

pub same_twice : (one other new : ClusterState) → AreSame one other → AreSame other new → AreSame one new
same_twice one other new same more = record {
  ranks = more.ranks ∙ same.ranks;
  hub = more.hub ∙ same.hub;
  clock = more.clock ∙ same.clock;
  boxes = more.boxes ∙ same.boxes;
}
