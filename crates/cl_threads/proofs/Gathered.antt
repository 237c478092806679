-- What is gathered behind the joins, if anything is.
use Rattle.std.specs.Prelude.{ℕ, List, ◌≡◌, ◌≢◌, IfErr, IfOk, OnOk, Result, Ok, Err, map, slice_get, Some}
use Rattle.std.proofs.Common.{sym, ◌∙◌, subst, inl, inr}
use Rattle.std.proofs.lemmas.List.{length-map}
use Rattle.std.proofs.lemmas.Option.{same_Some}
use Rattle.rv_image_types.specs.declared.images.ImageParts.{ImageParts}
use Rattle.rv_image_types.specs.Image.{IsImage}
use Rattle.cl_journal.specs.Replaying.{HubHistory, Replays}
use Rattle.cl_trace.specs.Traces.{TraceView}
use Rattle.cl_state.specs.Rank.{Rank, loaded}
use Rattle.cl_deeds.specs.Alone.{IsAlone}
use Rattle.cl_deeds.specs.Deeds.{Deed}
use Rattle.cl_rank.specs.Views.{view_of}
use Rattle.cl_rank.specs.declared.stops.Stop.{Stop}
use Rattle.cl_record.specs.Plans.{HasPlans}
use Rattle.cl_record.specs.Records.{IsMergedRun}
use Rattle.cl_record.specs.declared.plans.Plan.{Plan}
use Rattle.cl_record.specs.declared.records.Record.{Record}
use Rattle.cl_record.specs.declared.records.RunFault.{RunFault}
use Rattle.cl_record.specs.declared.records.RunFault.TheVariants as fault
use Rattle.cl_threads.proofs.CutPlans.{planned_same, planned_whole}
use Rattle.cl_threads.proofs.Merged.{merged_run}
use Rattle.cl_record.proofs.Elements.{from_map}
use Rattle.cl_threads.proofs.RanksJoined.{AllWent, all_went, are_by, cuts_of}
use Rattle.cl_threads.proofs.Together.{thread_run}
use Rattle.cl_threads.specs.OnThreads.{AreDone}
use Rattle.cl_record.specs.Leaving.{IsRecordOf, trace_of}
use Rattle.cl_threads.specs.Callers.{AreOf}
use Rattle.cl_threads.specs.Loading.{IsCluster}
use Rattle.cl_threads.specs.Cuts.{AreBy, IsRunUntil}
use Rattle.cl_threads.specs.Refusals.{IsLeftUnlike, IsRefusal}
use Rattle.cl_threads.specs.CutRefusals.{IsRefusalUntil}
use Rattle.cl_threads.specs.Runs.{IsThreadRun, IsTracedRank}
use Rattle.cl_threads.specs.Ties.{AreTied, TellsUnlike, IsUnlikeLeft}
use Rattle.cl_threads.specs.declared.loading.Cluster.{Cluster}
use Rattle.cl_threads.specs.declared.until.Until.{Until}
use Rattle.cl_record.specs.declared.done.Done.{Done}

pub gathered : (until : Until) (image : ImageParts) (plans : List Plan) (cluster : Cluster) (all : List Done) (hub : HubHistory)
    (r : Result Record RunFault) → HasPlans image plans → IsCluster image plans cluster
    → AreDone until cluster.channels.items cluster.seats.items all
    → OnOk r (hub.links ≡ image.links) → OnOk r (Replays hub)
    → IfOk r (IsRecordOf image.links cluster.channels.items hub.entries all)
    → IfOk r (λ left. AreTied left.journal.items left.traces.items)
    → IfOk r (λ left. AreOf image.ranks left.journal.items)
    → IfOk r (IsRunUntil until image plans)
gathered until image plans cluster all hub (Ok left) planned is done links replays record_is tied of =
    thread_run until image plans cluster all hub left planned is done links replays record_is tied of
gathered until image plans cluster all hub (Err fault) planned is done links replays record_is tied of = tt

pub merged_ok : (until : Until) (image : ImageParts) (plans : List Plan) (r : Result Record RunFault) → IsImage image
    → IfOk r (IsRunUntil until image plans) → IfOk r (IsMergedRun image)
merged_ok until image plans (Ok left) is ran = merged_run image ran.cuts left is ran.run
merged_ok until image plans (Err fault) is ran = tt

-- ranks that go by their plans
pub planned_ok : (image : ImageParts) (plans : List Plan) (r : Result Record RunFault)
    → IfOk r (IsRunUntil Until.Planned image plans) → IfOk r (IsThreadRun image plans)
planned_ok image plans (Ok left) ran = planned_whole image plans left ran
planned_ok image plans (Err fault) ran = tt

pub planned_refused : (image : ImageParts) (plans : List Plan) (r : Result Record RunFault)
    → IfErr r (IsRefusalUntil Until.Planned image plans) → IfErr r (IsRefusal image plans)
planned_refused image plans (Ok left) is = tt
planned_refused image plans (Err (fault.Unlike rank place)) is = (
  is.0,
  subst (λ ps. IsLeftUnlike image ps (fault.Unlike rank place)) (planned_same plans is.1.0 is.1.1 is.1.2) is.1.3,
)
planned_refused image plans (Err fault.Plans) is = is
planned_refused image plans (Err fault.Memory) is = is
planned_refused image plans (Err fault.Spawn) is = is

-- where nothing is gathered, what is told is of the first place that differs
module _ (until : Until) (image : ImageParts) (plans : List Plan) (cluster : Cluster) (all : List Done) (hub : HubHistory)
    (planned : HasPlans image plans) (is : IsCluster image plans cluster)
    (done : AreDone until cluster.channels.items cluster.seats.items all) where
  cuts : List Plan
  cuts = cuts_of until cluster.channels.items cluster.seats.items all done

  ran : AllWent image cluster.channels.items cuts all
  unfolding cuts
  ran = all_went until cluster.channels.items image plans cluster.seats.items all done is.count planned is.plans_are
      is.loaded

  went_at : (r : ℕ) (plan : Plan) (trace : TraceView) → slice_get cuts r ≡ Some plan
      → slice_get (map trace_of all) r ≡ Some trace
      → (deeds : List Deed) × (rank : Rank) × (stop : Stop) × IsAlone (loaded image r) deeds rank
      × IsTracedRank plan deeds trace.events rank stop
  went_at r plan trace at_plan at_trace =
      let one = from_map trace_of all r trace at_trace in
      let w = ran.each r one.0 one.1 in (
        ran.deeds r,
        (view_of one.0.rank).rank,
        one.0.stop,
        w.2.alone,
        subst (λ p. IsTracedRank p (ran.deeds r) trace.events (view_of one.0.rank).rank one.0.stop)
            (same_Some w.0 plan (sym w.1 ∙ at_plan))
            (subst (λ (t : TraceView). IsTracedRank w.0 (ran.deeds r) t.events (view_of one.0.rank).rank one.0.stop)
            one.2 w.2.left),
      )

  left_unlike : (told : RunFault) → IsUnlikeLeft image hub.links hub.entries (map trace_of all) told → IsLeftUnlike image cuts told
  left_unlike told unlike = record {
    traces = map trace_of all;
    one_each = length-map all trace_of ∙ ran.count;
    went = went_at;
    links = hub.links;
    entries = hub.entries;
    unlike = unlike;
  }

  by_cuts : (told : RunFault) → IsUnlikeLeft image hub.links hub.entries (map trace_of all) told
      → (by : List Plan) × (stops : List Stop) × AreBy until plans by stops × IsLeftUnlike image by told
  unfolding cuts
  by_cuts told unlike = (
    cuts,
    map (λ (x : Done). x.stop) all,
    are_by until cluster.channels.items image plans cluster.seats.items all done is.count planned is.plans_are is.loaded,
    left_unlike told unlike,
  )

  no_other : (told : RunFault) → told ≢ fault.Unlike 255 0
      → (TellsUnlike image.ranks hub.entries (map trace_of all) told → ⊥)
      → IsUnlikeLeft image hub.links hub.entries (map trace_of all) told → ⊥
  no_other told links ties unlike = elim unlike [ inl u ↦ links u.1 | inr u ↦ ties u.1 ]

  pub refused : (r : Result Record RunFault) → IfErr r (IsUnlikeLeft image hub.links hub.entries (map trace_of all))
      → IfErr r (IsRefusalUntil until image plans)
  refused (Ok left) unlike = tt
  refused (Err (fault.Unlike rank place)) unlike = (planned, by_cuts (fault.Unlike rank place) unlike)
  refused (Err fault.Plans) unlike = absurd (no_other fault.Plans (λ e. cc) (λ u. u) unlike)
  refused (Err fault.Memory) unlike = planned
  refused (Err fault.Spawn) unlike = planned
