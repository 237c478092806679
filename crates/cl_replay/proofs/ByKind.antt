-- What each kind of step asks of a state is what the table asks of its cluster.
use Rattle.std.specs.Prelude.{ℕ, ◌≡◌, ◌<◌, ◌≤◌, ◌⊎◌, ◌+◌, ◌^◌, max, List, length, slice_get, slice_set, Some}
use Rattle.std.specs.Prelude.{◌/◌, ◌%◌, Result, Ok, Err, IfErr, MatchResult, OnErr, OnOk, vec_len}
use Rattle.std.specs.Global.{Vec}
use Rattle.std.specs.Vec.{with_items}
use Rattle.std.proofs.Common.{refl, sym, ap, ◌∙◌, subst, arith, get_or, inl, inr, ⊎_elim}
use Rattle.std.proofs.lemmas.List.{length-map, length-set, with_items_is}
use Rattle.std.proofs.lemmas.Option.{same_Some, slice_get_read}
use Rattle.rv_image_types.specs.declared.images.ImageParts.{ImageParts}
use Rattle.rv_image_types.specs.declared.images.Link.{Link}
use Rattle.part_box.specs.declared.settled.Settled.{Settled}
use Rattle.mp_types.specs.declared.replies.Reply.{Reply}
use Rattle.mp_types.specs.declared.requests.Request.{Request}
use Rattle.mp_hub.specs.Hub.{Call, reply_of}
use Rattle.mp_hub.specs.Made.{makes}
use Rattle.cl_journal.specs.declared.entries.Entry.{Entry}
use Rattle.cl_state.specs.declared.asking.Answer.{Answer}
use Rattle.cl_state.specs.declared.asking.Ask.{Ask}
use Rattle.cl_state.specs.declared.state.RankState.{RankState}
use Rattle.cl_state.specs.Asked.{doing, part_of}
use Rattle.cl_state.specs.Right.{growth_of}
use Rattle.cl_state.specs.Rank.{Rank}
use Rattle.cl_state.specs.Room.{rank_of}
use Rattle.cl_state.specs.Told.{told}
use Rattle.cl_trace.specs.declared.events.Kind.{Kind}
use Rattle.cl_machine.specs.Keys.{bytes_in}
use Rattle.cl_machine.specs.Boxes.{box_number, with_made, with_taken}
use Rattle.cl_machine.specs.Cluster.{CaseOf, Cluster, only_told}
use Rattle.cl_machine.specs.Journal.{reply_in}
use Rattle.cl_journal.specs.Journal.{calls_of}
use Rattle.cl_machine.specs.declared.steps.Step.{Step}
use Rattle.cl_replay.specs.declared.faults.StepFault.{StepFault}
use Rattle.cl_replay.specs.declared.states.ClusterState.{ClusterState}
use Rattle.cl_replay.specs.Boxes.{ChangesBox, filled, vacant}
use Rattle.cl_replay.specs.States.{ClusterStandsFor}
use Rattle.cl_replay.specs.Steps.{KindTakesMemory, Leads, LeadsNowhere, StepFaultHolds, TakesMemory}
use Rattle.cl_replay.specs.Turns.{AsksNext, CallFault, Calls, HasCalls, IsFreed, IsLook, IsMiss, IsQuiet, IsReady}
use Rattle.cl_deeds.specs.Memory.{LacksPages}
use Rattle.cl_replay.specs.Turns.{AloneFault, QuietFault}
use Rattle.cl_replay.specs.Turns.{IsTake, IsTold, Readies, Takes, quiet_ask}
use Rattle.cl_replay.proofs.Boxed.{empty_is, held_is, shown_of_box, shown_of_settled, shows_made, shows_taken}
use Rattle.cl_replay.proofs.Lifts.{case_of, lead_alone, lead_boxed, lead_called, rank_there}

module _ (old : ClusterState) (e : Step) (s : RankState) (at : slice_get old.ranks.items e.rank ≡ Some s) where
  -- ---- steps that lead nowhere

  nowhere : (k : Kind) → e.kind ≡ k
      → ((image : ImageParts) (cluster next : Cluster) → ClusterStandsFor image old cluster
      → CaseOf cluster e (rank_of s) k next → ⊥)
      → LeadsNowhere old e
  nowhere k is none = λ image cluster next stands step.
      none image cluster next stands (case_of image old cluster stands e s at next k is step)

  pub plain_nowhere : e.kind ≡ Kind.Plain → ¬ AsksNext (rank_of s) e Ask.Plain → LeadsNowhere old e
  plain_nowhere is none = nowhere Kind.Plain is (λ image cluster next stands c. none (c.0, c.1))

  pub quiet_nowhere : (k : Kind) (ask : Ask) → e.kind ≡ k → quiet_ask k ≡ Some ask → ¬ IsQuiet (rank_of s) e
      → LeadsNowhere old e
  quiet_nowhere k ask is quiet none =
      nowhere k is (λ image cluster next stands c.
      none (ask, ap quiet_ask is ∙ quiet, asks_of k ask cluster next quiet c))
    where
      asks_of : (k : Kind) (ask : Ask) (cluster next : Cluster) → quiet_ask k ≡ Some ask
          → CaseOf cluster e (rank_of s) k next → AsksNext (rank_of s) e ask
      asks_of Kind.Local ask cluster next quiet c = (c.0 ∙ same_Some Ask.Local ask quiet, c.1)
      asks_of Kind.Held ask cluster next quiet c = (c.0 ∙ same_Some Ask.Held ask quiet, c.1)
      asks_of Kind.Idle ask cluster next quiet c = (c.0 ∙ same_Some Ask.Idle ask quiet, c.1)
      asks_of Kind.Plain ask cluster next quiet c = absurd (cc)
      asks_of (Kind.Hub reply) ask cluster next quiet c = absurd (cc)
      asks_of Kind.Ready ask cluster next quiet c = absurd (cc)
      asks_of Kind.Take ask cluster next quiet c = absurd (cc)
      asks_of Kind.Miss ask cluster next quiet c = absurd (cc)
      asks_of Kind.Freed ask cluster next quiet c = absurd (cc)

  pub miss_nowhere : e.kind ≡ Kind.Miss → ¬ IsMiss (rank_of s) e → LeadsNowhere old e
  miss_nowhere is none =
      nowhere Kind.Miss is (λ image cluster next stands c.
      ⊎_elim (λ look. none (Ask.Look c.0 c.1, tt, (look, c.3))) (λ freed. none (Ask.Freed c.0 c.1, tt, (freed, c.3)))
      c.2)

  pub ready_nowhere : e.kind ≡ Kind.Ready → ¬ IsReady (rank_of s) old.boxes.items e → LeadsNowhere old e
  ready_nowhere is none =
      nowhere Kind.Ready is (λ image cluster next stands c.
      let h = shown_of_box image old.boxes.items cluster.boxes stands.boxes_show stands.of.boxes (box_number c.0 c.1)
      c.3 c.5 in
      none (record {
        link = c.0;
        part = c.1;
        bytes = c.2;
        settled = h.0;
        asks = (c.4, c.7);
        there = h.1;
        empty = empty_is image.version h.0 c.3 h.2 c.6;
      }))

  pub take_nowhere : e.kind ≡ Kind.Take → ¬ IsTake (rank_of s) old.boxes.items e → LeadsNowhere old e
  take_nowhere is none =
      nowhere Kind.Take is (λ image cluster next stands c.
      let h = shown_of_box image old.boxes.items cluster.boxes stands.boxes_show stands.of.boxes (box_number c.0 c.1)
      c.3 c.5 in
      none (record {
        link = c.0;
        part = c.1;
        settled = h.0;
        asks = c.4;
        there = h.1;
        full = (held_is image.version h.0 c.3 h.2 c.2 c.6).0;
        stamp = c.7 ∙ ap (λ n. max s.clock n + 1) (sym h.2.stamp);
      }))

  pub freed_nowhere : e.kind ≡ Kind.Freed → ¬ IsFreed (rank_of s) old.boxes.items e → LeadsNowhere old e
  freed_nowhere is none =
      nowhere Kind.Freed is (λ image cluster next stands c.
      let h = shown_of_box image old.boxes.items cluster.boxes stands.boxes_show stands.of.boxes (box_number c.0 c.1)
      c.2 c.4 in
      none (record {
        link = c.0;
        part = c.1;
        settled = h.0;
        asks = c.3;
        there = h.1;
        empty = empty_is image.version h.0 c.2 h.2 c.5;
        stamp = c.6 ∙ ap (λ n. max s.clock n + 1) (sym h.2.stamp);
      }))

  -- ---- calls

  has_calls : (image : ImageParts) (cluster : Cluster) → ClusterStandsFor image old cluster
      → HasCalls old.hub old.clock image.links (calls_of cluster.journal.entries)
  has_calls image cluster stands =
      let count : length (calls_of cluster.journal.entries) ≡ length cluster.journal.entries = length-map _ _ in
      (stands.hub_stands, omega (arith, count, stands.of.calls, stands.clock_is))

  reply_is : (image : ImageParts) (cluster : Cluster) → ClusterStandsFor image old cluster → (request : Request)
      → reply_in cluster.journal e.rank request ≡ reply_of image.links (calls_of cluster.journal.entries) e.rank request
  unfolding reply_in
  reply_is image cluster stands request =
      ap (λ (links : List Link). reply_of links (calls_of cluster.journal.entries) e.rank request) stands.of.links

  pub call_nowhere : (reply : Reply) → e.kind ≡ Kind.Hub reply
      → CallFault (rank_of s) old.hub old.clock e reply StepFault.NotAStep → LeadsNowhere old e
  call_nowhere reply is none =
      nowhere (Kind.Hub reply) is (λ image cluster next stands c.
      none image.links (calls_of cluster.journal.entries) (has_calls image cluster stands) (record {
        request = c.0;
        asks = c.1;
        stamp = c.3 ∙ ap (λ n. max s.clock n + 1) (sym stands.clock_is);
        gives = c.2 ∙ reply_is image cluster stands c.0;
      }))

  pub alone_takes : LacksPages (rank_of s) e.hart → TakesMemory old e
  alone_takes lacks = λ image cluster stands. (rank_of s, rank_there image old cluster stands e s at, inl lacks)

  pub call_takes : (reply : Reply) → e.kind ≡ Kind.Hub reply
      → CallFault (rank_of s) old.hub old.clock e reply StepFault.Memory → TakesMemory old e
  call_takes reply is takes = λ image cluster stands.
      ⊎_elim (λ lacks. alone_takes lacks image cluster stands) (λ t. (
        rank_of s,
        rank_there image old cluster stands e s at,
        inr (subst (λ k. KindTakesMemory cluster e (rank_of s) k) (sym is) (
          t.0,
          t.1,
          ⊎_elim (λ carries. inl carries)
              (λ made. inr (ap (makes t.0) (reply_is image cluster stands t.0) ∙ made)) t.2,
        )),
      ))
      (takes image.links (calls_of cluster.journal.entries) (has_calls image cluster stands))

  pub quiet_takes : e.kind ≡ Kind.Local → 0 < growth_of (doing s.site (part_of (rank_of s) e.hart)) → TakesMemory old e
  quiet_takes is grows = λ image cluster stands. (
    rank_of s,
    rank_there image old cluster stands e s at,
    inr (subst (λ k. KindTakesMemory cluster e (rank_of s) k) (sym is) grows),
  )

  -- ---- steps that lead on

  module _ (new : ClusterState) (after : RankState) (hart : e.hart < length s.harts.items) (low : e.stamp < 2 ^ 62)
      (ranks : new.ranks.items ≡ slice_set old.ranks.items e.rank after) where
    module _ (hub : new.hub ≡ old.hub) (clock : new.clock ≡ old.clock) where
      module _ (boxes : new.boxes.items ≡ old.boxes.items) where
        pub plain_leads : e.kind ≡ Kind.Plain → AsksNext (rank_of s) e Ask.Plain
            → IsTold (rank_of s) e Answer.Alone (rank_of after) → Leads old e new
        plain_leads is asks by = λ image cluster stands.
            lead_alone image old cluster stands e s at new after hart low ranks Kind.Plain is Answer.Alone by hub clock
            boxes
            (asks.0, asks.1, refl)

        pub quiet_leads : (k : Kind) → e.kind ≡ k → IsQuiet (rank_of s) e
            → IsTold (rank_of s) e Answer.Alone (rank_of after) → Leads old e new
        quiet_leads k is quiet by = λ image cluster stands.
            lead_alone image old cluster stands e s at new after hart low ranks k is Answer.Alone by hub clock boxes
            (case k quiet.0 cluster (sym (ap quiet_ask is) ∙ quiet.1) quiet.2)
          where
            case : (k : Kind) (ask : Ask) (cluster : Cluster) → quiet_ask k ≡ Some ask → AsksNext (rank_of s) e ask
                → CaseOf cluster e (rank_of s) k (only_told cluster e (rank_of s) Answer.Alone)
            case Kind.Local ask cluster quiet asks = (asks.0 ∙ sym (same_Some Ask.Local ask quiet), asks.1, refl)
            case Kind.Held ask cluster quiet asks = (asks.0 ∙ sym (same_Some Ask.Held ask quiet), asks.1, refl)
            case Kind.Idle ask cluster quiet asks = (asks.0 ∙ sym (same_Some Ask.Idle ask quiet), asks.1, refl)
            case Kind.Plain ask cluster quiet asks = absurd (cc)
            case (Kind.Hub reply) ask cluster quiet asks = absurd (cc)
            case Kind.Ready ask cluster quiet asks = absurd (cc)
            case Kind.Take ask cluster quiet asks = absurd (cc)
            case Kind.Miss ask cluster quiet asks = absurd (cc)
            case Kind.Freed ask cluster quiet asks = absurd (cc)

        pub miss_leads : e.kind ≡ Kind.Miss → IsMiss (rank_of s) e
            → IsTold (rank_of s) e Answer.Missed (rank_of after) → Leads old e new
        miss_leads is miss by = λ image cluster stands.
            lead_alone image old cluster stands e s at new after hart low ranks Kind.Miss is Answer.Missed by hub clock
            boxes
            (case miss.0 cluster miss.1 miss.2)
          where
            case : (ask : Ask) (cluster : Cluster) → IsLook ask → AsksNext (rank_of s) e ask
                → CaseOf cluster e (rank_of s) Kind.Miss (only_told cluster e (rank_of s) Answer.Missed)
            case (Ask.Look link part) cluster look asks = (link, part, inl asks.0, asks.1, refl)
            case (Ask.Freed link part) cluster look asks = (link, part, inr asks.0, asks.1, refl)
            case Ask.Plain cluster look asks = absurd look
            case Ask.Local cluster look asks = absurd look
            case (Ask.Hub request) cluster look asks = absurd look
            case (Ask.Ready link part bytes) cluster look asks = absurd look
            case Ask.Held cluster look asks = absurd look
            case Ask.Idle cluster look asks = absurd look

        pub freed_leads : e.kind ≡ Kind.Freed → IsFreed (rank_of s) old.boxes.items e
            → IsTold (rank_of s) e Answer.Freed (rank_of after) → Leads old e new
        freed_leads is f by = λ image cluster stands.
            let h = shown_of_settled image old.boxes.items cluster.boxes stands.boxes_show stands.of.boxes
            (box_number f.link f.part) f.settled f.there in
            lead_alone image old cluster stands e s at new after hart low ranks Kind.Freed is Answer.Freed by hub clock
            boxes (
              f.link,
              f.part,
              h.0,
              f.asks,
              h.1,
              (h.2.empty f.empty).0,
              f.stamp ∙ ap (λ n. max s.clock n + 1) h.2.stamp,
              refl,
            )

      pub ready_leads : e.kind ≡ Kind.Ready
          → Readies (rank_of s) old.boxes.items e (rank_of after) new.boxes.items → Leads old e new
      ready_leads is r = λ image cluster stands.
          let n = box_number r.ready.link r.ready.part in
          let h = shown_of_settled image old.boxes.items cluster.boxes stands.boxes_show stands.of.boxes n
          r.ready.settled
          r.ready.there in
          let version = stands.of.versions e.rank (rank_of s) (rank_there image old cluster stands e s at) in
          let spelled : r.ready.bytes ≡ bytes_in image.version r.words =
          r.spelled ∙ ap (λ v. bytes_in v r.words) version in
          lead_boxed image old cluster stands e s at new after hart low ranks Kind.Ready is Answer.Alone r.told n
          r.ready.settled (filled e.stamp r.words) (with_made h.0 e.stamp r.ready.bytes) hub clock r.ready.there
          r.changes
          (shows_made image.version r.ready.settled h.0 h.2 e.stamp r.ready.bytes r.words r.ready.empty spelled) (
            r.ready.link,
            r.ready.part,
            r.ready.bytes,
            h.0,
            r.ready.asks.0,
            h.1,
            (h.2.empty r.ready.empty).0,
            r.ready.asks.1,
            refl,
          )

      pub take_leads : e.kind ≡ Kind.Take
          → Takes (rank_of s) old.boxes.items e (rank_of after) new.boxes.items → Leads old e new
      take_leads is t = λ image cluster stands.
          let n = box_number t.take.link t.take.part in
          let h = shown_of_settled image old.boxes.items cluster.boxes stands.boxes_show stands.of.boxes n
          t.take.settled
          t.take.there in
          let version = stands.of.versions e.rank (rank_of s) (rank_there image old cluster stands e s at) in
          let bytes : List ℕ = bytes_in image.version t.take.settled.words in
          let by : IsTold (rank_of s) e (Answer.Taken bytes) (rank_of after) =
          t.told ∙ ap (λ v. told (rank_of s) e.hart (Answer.Taken (bytes_in v t.take.settled.words)) e.stamp) version in
          lead_boxed image old cluster stands e s at new after hart low ranks Kind.Take is (Answer.Taken bytes) by n
          t.take.settled (vacant e.stamp) (with_taken h.0 e.stamp) hub clock t.take.there t.changes
          (shows_taken image.version t.take.settled h.0 h.2 e.stamp t.take.full (stands.of.one_thing n h.0 h.1)) (
            t.take.link,
            t.take.part,
            bytes,
            h.0,
            t.take.asks,
            h.1,
            h.2.full t.take.full,
            t.take.stamp ∙ ap (λ n. max s.clock n + 1) h.2.stamp,
            refl,
          )

    pub call_leads : (reply : Reply) → e.kind ≡ Kind.Hub reply → new.clock ≡ e.stamp
        → new.boxes.items ≡ old.boxes.items
        → ((links : List Link) (calls : List Call) → HasCalls old.hub old.clock links calls
        → Calls (rank_of s) old.hub old.clock e reply (rank_of after) new.hub links calls)
        → Leads old e new
    call_leads reply is clock boxes called = λ image cluster stands.
        let h = called image.links (calls_of cluster.journal.entries) (has_calls image cluster stands) in
        let entry : Entry = record {
          rank = e.rank;
          hart = e.hart;
          clock = s.clock;
          stamp = e.stamp;
          request = h.call.request;
          reply = reply;
        } in
        lead_called image old cluster stands e s at new after hart low ranks (Kind.Hub reply) is (Answer.Reply reply)
        h.told
        entry clock boxes h.stands (
          h.call.request,
          h.call.asks,
          h.call.gives ∙ sym (reply_is image cluster stands h.call.request),
          h.call.stamp ∙ ap (λ n. max s.clock n + 1) stands.clock_is,
          refl,
        )

-- ---- the code's own facts

-- the step's rank and hart are there, and its stamp is one
pub record IsAt (old : ClusterState) (e : Step) (s : RankState) : Type 0 where
  pub there : slice_get old.ranks.items e.rank ≡ Some s
  pub hart : e.hart < length s.harts.items
  pub low : e.stamp < 2 ^ 62

pub at_step : (old : ClusterState) (e : Step) (i n h m : ℕ) (s : RankState) → i ≡ e.rank → n ≡ vec_len old.ranks → i < n
    → e.stamp ≤ 4611686018427387903 → s ≡ get_or old.ranks.items i s → h ≡ e.hart → m ≡ vec_len s.harts → h < m
    → IsAt old e s
at_step old e i n h m s rank count below low value hart harts inside = record {
  there = ap (slice_get old.ranks.items) (sym rank)
      ∙ slice_get_read old.ranks.items n i s (count ∙ old.ranks.ok.0) below value;
  hart = omega (arith, hart, harts, inside, s.harts.ok.0);
  low = omega (arith, low);
}

pub weaker_err : {T E : Type 0} (r : Result T E) (Q S : E → Type 0) → IfErr r Q → ((y : E) → Q y → S y) → IfErr r S
weaker_err (Ok x) Q S h f = tt
weaker_err (Err y) Q S h f = f y h

-- a page was refused alone
pub lacking : {T : Type 0} (r : Result T StepFault) (rank : Rank) (e : Step) (step : Type 0)
    → OnErr r ((r ≡ Err StepFault.Memory) × LacksPages rank e.hart) → IfErr r (AloneFault rank e step)
lacking (Ok x) rank e step h = tt
lacking (Err StepFault.Memory) rank e step h = h.1
lacking (Err StepFault.NotAStep) rank e step h = let is = h.0 in absurd (cc)

-- a step that was no call, and put nothing out
pub alone_fault : (old : ClusterState) (e : Step) (s : RankState) → IsAt old e s → (step : Type 0)
    → ((step → ⊥) → LeadsNowhere old e) → (f : StepFault) → AloneFault (rank_of s) e step f → StepFaultHolds old e f
alone_fault old e s here step nowhere StepFault.NotAStep none = nowhere none
alone_fault old e s here step nowhere StepFault.Memory lacks = alone_takes old e s here.there lacks

pub matched_ok : {T E R : Type 0} (r : Result T E) (P : T → Type 0) (Q : E → Type 0) → MatchResult r P Q
    → ((x : T) → P x → R) → OnOk r R
matched_ok (Ok x) P Q h f = f x h
matched_ok (Err y) P Q h f = tt

pub matched_err : {T E : Type 0} (r : Result T E) (P : T → Type 0) (Q S : E → Type 0) → MatchResult r P Q
    → ((y : E) → Q y → S y) → IfErr r S
matched_err (Ok x) P Q S h f = tt
matched_err (Err y) P Q S h f = f y h

pub quiet_fault : (old : ClusterState) (e : Step) (s : RankState) → IsAt old e s
    → (e.kind ≡ Kind.Local) ⊎ ((e.kind ≡ Kind.Held) ⊎ (e.kind ≡ Kind.Idle)) → (f : StepFault)
    → QuietFault (rank_of s) e f → StepFaultHolds old e f
quiet_fault old e s here is StepFault.NotAStep none =
    ⊎_elim (λ l. quiet_nowhere old e s here.there Kind.Local Ask.Local l refl none)
    (λ rest. ⊎_elim (λ h. quiet_nowhere old e s here.there Kind.Held Ask.Held h refl none)
    (λ i. quiet_nowhere old e s here.there Kind.Idle Ask.Idle i refl none) rest) is
quiet_fault old e s here is StepFault.Memory h =
    ⊎_elim (alone_takes old e s here.there) (λ more. quiet_takes old e s here.there more.0 more.1) h

pub call_fault : (old : ClusterState) (e : Step) (s : RankState) → IsAt old e s → (reply : Reply)
    → e.kind ≡ Kind.Hub reply → (f : StepFault) → CallFault (rank_of s) old.hub old.clock e reply f
    → StepFaultHolds old e f
call_fault old e s here reply is StepFault.NotAStep none = call_nowhere old e s here.there reply is none
call_fault old e s here reply is StepFault.Memory takes = call_takes old e s here.there reply is takes

-- boxes that were changed in place
pub changed_items : (boxes : Vec (List Settled)) (n : ℕ) (s : Settled) (after : List (List Settled))
    → ChangesBox boxes.items n s after → (with_items boxes after).items ≡ after
changed_items boxes n s after c =
    with_items_is boxes after
    (ap (λ (xs : List (List Settled)). length xs) c.changed
    ∙ (length-set boxes.items (n / 16) (slice_set c.link (n % 16) s) ∙ sym boxes.ok.0))
