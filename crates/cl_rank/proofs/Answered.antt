-- What an answer does to a rank's phases and to its table of requests, by the row of the turn.
use Rattle.std.proofs.Common.{◌≡◌, ℕ, List, [], Bool, true, false, Option, Some, None, refl, sym, subst}
use Rattle.std.proofs.Common.{◌⊎◌, inl, inr, ◌∙◌}
use Rattle.std.specs.Prelude.{if◌then◌else◌, slice_get}
use Rattle.rv_image_types.specs.declared.images.ImageVersion.{ImageVersion}
use Rattle.mp_types.specs.declared.codes.Code.TheVariants as code
use Rattle.mp_types.specs.declared.messages.Message.{Message}
use Rattle.mp_types.specs.declared.messages.Envelope.{Envelope}
use Rattle.mp_types.specs.declared.replies.Reply.{Reply}
use Rattle.mp_types.specs.declared.replies.Reply.TheVariants as reply
use Rattle.mp_types.specs.declared.requests.Request.{Request}
use Rattle.mp_request.specs.declared.entries.OpenRequest.{OpenRequest}
use Rattle.mp_request.specs.declared.entries.Partitions.{Partitions}
use Rattle.mp_request.specs.declared.entries.Progress.{Progress}
use Rattle.mp_request.specs.declared.entries.Progress.TheVariants as progress
use Rattle.mp_request.specs.declared.entries.State.TheVariants.{Inactive}
use Rattle.mp_request.specs.declared.entries.Transfer.{Transfer}
use Rattle.mp_request.specs.declared.entries.Transfer.TheVariants.{SendPartitions, ReceivePartitions}
use Rattle.mp_request.specs.Table.{lowest_free, with_request}
use Rattle.part_phase.specs.declared.phases.Phase.{Phase}
use Rattle.part_phase.specs.Limits.{are_parts, is_size}
use Rattle.part_phase.specs.Phases.{receiving_at, changed_at, on_sending, on_receiving, begun as begun_phase}
use Rattle.part_phase.specs.Phases.{is_unshaped_sending, is_unshaped_receiving}
use Rattle.part_phase.specs.Receiving.{shaped_receiving, is_cut, cut_into, one_taken}
use Rattle.part_phase.specs.Sending.{shaped_sending, readied, one_freed}
use Rattle.cl_calls.specs.declared.calls.Partitioning.{Partitioning}
use Rattle.cl_calls.specs.declared.sites.Site.{Site}
use Rattle.cl_calls.specs.Calls.{any}
use Rattle.cl_calls.specs.Checks.{sends_in}
use Rattle.cl_state.specs.declared.asking.Answer.TheVariants as answer
use Rattle.cl_state.specs.declared.pending.Manner.{Manner}
use Rattle.cl_state.specs.declared.pending.Manner.TheVariants.{Immediate, Blocking, Polling, Posting}
use Rattle.cl_state.specs.declared.pending.Target.{Target}
use Rattle.cl_state.specs.declared.row.Outcome.{Outcome}
use Rattle.cl_state.specs.declared.row.Outcome.TheVariants as outcome
use Rattle.cl_state.specs.declared.row.Purpose.{Purpose}
use Rattle.cl_state.specs.declared.row.Purpose.TheVariants as purpose
use Rattle.cl_state.specs.declared.row.Row.{Row}
use Rattle.cl_state.specs.declared.row.Row.TheVariants.{AtOnce, OnReply, OnBox}
use Rattle.cl_state.specs.declared.row.Visit.TheVariants.{Readies, Frees, Takes, Sees}
use Rattle.cl_state.specs.declared.row.Wanted.{Wanted}
use Rattle.cl_state.specs.declared.row.Wanted.TheVariants as wanted
use Rattle.cl_state.specs.Asked.{Part}
use Rattle.cl_state.specs.Table.{begun_outcome}
use Rattle.cl_state.specs.Told.{arrived, arrived_from, completed_all, done, ended, found, found_at, found_nothing, freed}
use Rattle.cl_state.specs.Told.{freed_one, gathered_if, not_yet, opened_at, part_readied, phase_begun}
use Rattle.cl_state.specs.Told.{received, received_from, received_message, replied, seen_one, taken_one, told_row}
use Rattle.cl_state.specs.Told.{made_side_at}
use Rattle.cl_state.specs.Partitions.{side_on}
use Rattle.cl_rank.specs.Follows.{named_link}
use Rattle.cl_rank.proofs.Rows.{AloneRow, HubRow, StartsAs, WantedOf, TakesAt, FreesAt}
use Rattle.cl_rank.proofs.Tables.{Keeps, keeps_all, keeps_completed, keeps_each, keeps_none, keeps_started}

-- the phases are these now, and no request sends other partitions
pub record Becomes (old : Part) (become : List Phase) (new : Part) : Type 0 where
  pub phases : new.phases ≡ become
  pub keeps : Keeps old.requests new.requests

abbrev pub Stays : Part → Part → Type 0
Stays old new = Becomes old old.phases new

still : (old new : Part) → new.phases ≡ old.phases → new.requests ≡ old.requests → Stays old new
still old new phases same =
    record { phases = phases; keeps = subst (λ t. Keeps old.requests t) (sym same) (keeps_all old.requests) }

abbrev pub begun_at : Option ℕ → List Phase → List Phase
begun_at None phases = phases
begun_at (Some link) phases = changed_at link begun_phase phases

-- ---- what is done at once

opened_stays : (free : Option ℕ) (r : OpenRequest) (part : Part) → sends_in r.transfer ≡ None
    → Stays part (opened_at free r part)
opened_stays None r part none = still part _ refl refl
opened_stays (Some handle) r part none =
    record { phases = refl; keeps = keeps_none part.requests handle (Some r) none }

received_stays : (target : Target) (source tag : ℕ) (bytes : List ℕ) (part : Part)
    → Stays part (received target source tag bytes part)
unfolding received
received_stays target source tag bytes part =
    record { phases = refl; keeps = keeps_completed part.requests target.handle }

freed_stays : (handle : ℕ) (part : Part) → Stays part (freed handle part)
unfolding freed
freed_stays handle part = record { phases = refl; keeps = keeps_none part.requests handle None refl }

nothing_stays : (value status : ℕ) (part : Part) → Stays part (found_nothing value status part)
unfolding found_nothing
nothing_stays value status part = still part _ refl refl

all_stays : (site : Site) (value statuses : ℕ) (handles : List ℕ) (gots : List (Option Message)) (part : Part)
    → Stays part (completed_all site value statuses handles gots part)
unfolding completed_all
all_stays site value statuses handles gots part =
    record { phases = refl; keeps = keeps_each handles part.requests }

arrived_stays_from : (o : Option ℕ) (side : Partitions) (target : Target) (part : Part)
    → Stays part (arrived_from o side target part)
arrived_stays_from None side target part = still part _ refl refl
arrived_stays_from (Some place) side target part =
    record { phases = refl; keeps = keeps_completed part.requests target.handle }

arrived_stays : (site : Site) (side : Partitions) (target : Target) (part : Part)
    → Stays part (arrived site side target part)
unfolding arrived
arrived_stays site side target part = arrived_stays_from _ side target part

begins_becomes : (handle link : ℕ) (part : Part)
    → Becomes part (changed_at link begun_phase part.phases) (phase_begun handle link part)
unfolding phase_begun
begins_becomes handle link part =
    record { phases = refl; keeps = keeps_started part.requests handle progress.InPhase }

done_becomes : (site : Site) (o : Outcome) (started : Option ℕ) (part : Part) → StartsAs o started
    → Becomes part (begun_at started part.phases) (done site o part)
done_becomes site o started part h = at_once o h
  where
    stays : (p : Part) → started ≡ None → Stays part p → Becomes part (begun_at started part.phases) p
    stays p none s = subst (λ l. Becomes part (begun_at l part.phases) p) (sym none) s

    at_once : (o : Outcome) → StartsAs o started → Becomes part (begun_at started part.phases) (done site o part)
    at_once outcome.Steps h = stays _ h (still part _ refl refl)
    at_once outcome.Stays h = stays _ h (still part _ refl refl)
    at_once (outcome.Exits value) h = stays _ h (still part _ refl refl)
    at_once (outcome.Ends c value) h = stays _ h (still part _ refl refl)
    at_once (outcome.Waits post) h = stays _ h (still part _ refl refl)
    at_once (outcome.Puts buffer count) h = stays _ h (still part _ refl refl)
    at_once (outcome.Opens r) h = stays _ h.0 (opened_stays _ r part h.1)
    at_once (outcome.Starts handle p) h =
        stays _ h (record { phases = refl; keeps = keeps_started part.requests handle p })
    at_once (outcome.Frees handle) h = stays _ h (freed_stays handle part)
    at_once (outcome.Completes source target) h = stays _ h (received_stays target source _ [] part)
    at_once (outcome.FindsNothing value status) h = stays _ h (nothing_stays value status part)
    at_once (outcome.CompletesAll value s) h = stays _ h (all_stays site value s.statuses _ [] part)
    at_once (outcome.BeginsPhase handle link) h =
        subst (λ l. Becomes part (begun_at l part.phases) (phase_begun handle link part)) (sym h)
        (begins_becomes handle link part)
    at_once outcome.Holds h = stays _ h (still part _ refl refl)
    at_once (outcome.Arrives side target) h = stays _ h (arrived_stays site side target part)

-- a turn that asks nobody
pub alone_becomes : (site : Site) (row : Row) (started : Option ℕ) (part : Part) → AloneRow started row
    → Becomes part (begun_at started part.phases) (told_row site row answer.Alone part)
alone_becomes site (AtOnce o) started part h = done_becomes site o started part h
alone_becomes site (OnReply m w) started part h =
    subst (λ l. Becomes part (begun_at l part.phases) (told_row site (OnReply m w) answer.Alone part)) (sym h)
    (still part _ refl refl)
alone_becomes site (OnBox v) started part h = absurd h

-- ---- what the hub replies

-- the sender's side of a link got its shape, and a request has it
pub record GotSending (version : ImageVersion) (link : ℕ) (old new : Part) : Type 0 where
  pub parts : ℕ
  pub size : ℕ
  pub handle : ℕ
  pub side : Partitions
  pub limits : (are_parts parts ≡ true) × (is_size version size ≡ true)
  pub unshaped : is_unshaped_sending (slice_get old.phases link) ≡ true
  pub phases : new.phases ≡ changed_at link (on_sending (shaped_sending parts size)) old.phases
  pub requests : new.requests
      ≡ with_request old.requests handle (Some (record { transfer = SendPartitions side; state = Inactive }))
  pub of : (side.link ≡ link) × (side.size ≡ size)

pub record GotReceiving (version : ImageVersion) (link : ℕ) (old new : Part) : Type 0 where
  pub parts : ℕ
  pub size : ℕ
  pub limits : (are_parts parts ≡ true) × (is_size version size ≡ true)
  pub unshaped : is_unshaped_receiving (slice_get old.phases link) ≡ true
  pub becomes : Becomes old (changed_at link (on_receiving (shaped_receiving parts size)) old.phases) new

pub record GotCut (version : ImageVersion) (link : ℕ) (old new : Part) : Type 0 where
  pub boxes : ℕ
  pub bytes : ℕ
  pub fits : is_cut version (receiving_at old.phases link) boxes bytes ≡ true
  pub becomes : Becomes old (changed_at link (on_receiving (cut_into boxes bytes)) old.phases) new

-- by the reply a side of this link gets its shape or its cut, or the phases stay
abbrev pub Replied : ImageVersion → ℕ → Part → Part → Type 0
Replied version link old new =
    Stays old new ⊎ GotSending version link old new ⊎ GotReceiving version link old new ⊎ GotCut version link old new

not_yet_stays : (m : Manner) (part : Part) → Stays part (not_yet m part)
not_yet_stays Immediate part = still part _ refl refl
not_yet_stays Blocking part = still part _ refl refl
not_yet_stays Polling part = still part _ refl refl
not_yet_stays Posting part = still part _ refl refl

-- what became something stays so where nothing more changes
then_stays : (a b c : Part) (phases : List Phase) → Becomes a phases b → Stays b c → Becomes a phases c
then_stays a b c phases p q = record {
  phases = q.phases ∙ p.phases;
  keeps = λ handle side is. p.keeps handle side (q.keeps handle side is);
}

received_from_stays : (o : Option ℕ) (target : Target) (message : Message) (part : Part)
    → Stays part (received_from o target message part)
received_from_stays None target message part = still part _ refl refl
received_from_stays (Some place) target message part = received_stays target place _ message.bytes part

message_stays : (site : Site) (target : Target) (message : Message) (part : Part)
    → Stays part (received_message site target message part)
unfolding received_message
message_stays site target message part = received_from_stays _ target message part

found_stays_at : (o : Option ℕ) (value status : ℕ) (envelope : Envelope) (part : Part)
    → Stays part (found_at o value status envelope part)
found_stays_at None value status envelope part = still part _ refl refl
found_stays_at (Some place) value status envelope part = still part _ refl refl

found_stays : (site : Site) (value status : ℕ) (envelope : Envelope) (part : Part)
    → Stays part (found site value status envelope part)
unfolding found
found_stays site value status envelope part = found_stays_at _ value status envelope part

gathered_stays : (b : Bool) (site : Site) (value statuses : ℕ) (handles : List ℕ) (gots : List (Option Message))
    (part : Part) → Stays part (gathered_if b site value statuses handles gots part)
gathered_stays true site value statuses handles gots part = all_stays site value statuses handles gots part
gathered_stays false site value statuses handles gots part = still part _ refl refl

begun_starts : (why : Purpose) (t : Transfer) (p : Progress) → sends_in t ≡ None → StartsAs (begun_outcome why t p) None
begun_starts purpose.Send t progress.Finished none = refl
begun_starts purpose.Send t (progress.Sent post) none = refl
begun_starts purpose.Send t (progress.OnPost post) none = refl
begun_starts purpose.Send t progress.InPhase none = refl
begun_starts purpose.Open t p none = (refl, none)
begun_starts (purpose.Start handle) t p none = refl

module _ (site : Site) (link : ℕ) (part : Part) where
  sending_side_made : (t : Partitioning) → (are_parts t.parts ≡ true) × (is_size site.version t.size ≡ true)
      → is_unshaped_sending (slice_get part.phases link) ≡ true → (free : Option ℕ)
      → Replied site.version link part
      (made_side_at free (SendPartitions (side_on site t link)) link (on_sending (shaped_sending t.parts t.size)) part)
  sending_side_made t limits unshaped None = inl (still part _ refl refl)
  sending_side_made t limits unshaped (Some handle) = inr (inl (record {
    parts = t.parts;
    size = t.size;
    handle = handle;
    side = side_on site t link;
    limits = limits;
    unshaped = unshaped;
    phases = refl;
    requests = refl;
    of = (refl, refl);
  }))

  sending_made : (t : Partitioning) → (are_parts t.parts ≡ true) × (is_size site.version t.size ≡ true) → (b : Bool)
      → is_unshaped_sending (slice_get part.phases link) ≡ b
      → Replied site.version link part
      (if b
      then made_side_at (lowest_free part.requests) (SendPartitions (side_on site t link)) link
      (on_sending (shaped_sending t.parts t.size)) part
      else ended code.BadRequest 0 part)
  sending_made t limits true unshaped = sending_side_made t limits unshaped (lowest_free part.requests)
  sending_made t limits false unshaped = inl (still part _ refl refl)

  receiving_side_made : (t : Partitioning) → (are_parts t.parts ≡ true) × (is_size site.version t.size ≡ true)
      → is_unshaped_receiving (slice_get part.phases link) ≡ true → (free : Option ℕ)
      → Replied site.version link part
      (made_side_at free (ReceivePartitions (side_on site t link)) link
      (on_receiving (shaped_receiving t.parts t.size)) part)
  receiving_side_made t limits unshaped None = inl (still part _ refl refl)
  receiving_side_made t limits unshaped (Some handle) = inr (inr (inl (record {
    parts = t.parts;
    size = t.size;
    limits = limits;
    unshaped = unshaped;
    becomes = record { phases = refl; keeps = keeps_none part.requests handle _ refl };
  })))

  receiving_made : (t : Partitioning) → (are_parts t.parts ≡ true) × (is_size site.version t.size ≡ true) → (b : Bool)
      → is_unshaped_receiving (slice_get part.phases link) ≡ b
      → Replied site.version link part
      (if b
      then made_side_at (lowest_free part.requests) (ReceivePartitions (side_on site t link)) link
      (on_receiving (shaped_receiving t.parts t.size)) part
      else ended code.BadRequest 0 part)
  receiving_made t limits true unshaped = receiving_side_made t limits unshaped (lowest_free part.requests)
  receiving_made t limits false unshaped = inl (still part _ refl refl)

  cut_made : (m : Manner) (boxes bytes : ℕ) (b : Bool)
      → is_cut site.version (receiving_at part.phases link) boxes bytes ≡ b
      → Replied site.version link part
      (if b
      then not_yet m (record part { phases = changed_at link (on_receiving (cut_into boxes bytes)) part.phases })
      else ended code.BadRequest 0 part)
  cut_made m boxes bytes true fits = inr (inr (inr (record {
    boxes = boxes;
    bytes = bytes;
    fits = fits;
    becomes = then_stays part _ _ _ (record { phases = refl; keeps = keeps_all part.requests }) (not_yet_stays m _);
  })))
  cut_made m boxes bytes false fits = inl (still part _ refl refl)

module _ (site : Site) (request : Request) (part : Part) where
  abbrev pub IsReplied : Wanted → Reply → Type 0
  IsReplied w r = Replied site.version (named_link request r) part (replied site w r part)

  by_posted : (post : ℕ) (paired : Bool) (w : Wanted) → WantedOf site.version request w → IsReplied w (reply.Posted post paired)
  by_posted post paired (wanted.Post why t) h = inl (done_becomes site _ None part (begun_starts why t _ h))
  by_posted post paired (wanted.MessageOrPost target) h = inl (still part _ refl refl)
  by_posted post paired (wanted.Message target) h = inl (still part _ refl refl)
  by_posted post paired (wanted.Word target) h = inl (still part _ refl refl)
  by_posted post paired wanted.Sent h = inl (still part _ refl refl)
  by_posted post paired (wanted.All value s) h = inl (still part _ refl refl)
  by_posted post paired (wanted.Sight value status) h = inl (still part _ refl refl)
  by_posted post paired (wanted.Claim status) h = inl (still part _ refl refl)
  by_posted post paired (wanted.SendingLink t) h = inl (still part _ refl refl)
  by_posted post paired (wanted.ReceivingLink t) h = inl (still part _ refl refl)
  by_posted post paired (wanted.Cut m at) h = inl (still part _ refl refl)
  by_posted post paired wanted.Nothing h = inl (still part _ refl refl)

  by_got : (message : Message) (w : Wanted) → WantedOf site.version request w → IsReplied w (reply.Got message)
  by_got message (wanted.Post why t) h = inl (still part _ refl refl)
  by_got message (wanted.MessageOrPost target) h = inl (message_stays site target message part)
  by_got message (wanted.Message target) h = inl (message_stays site target message part)
  by_got message (wanted.Word target) h = inl (still part _ refl refl)
  by_got message wanted.Sent h = inl (still part _ refl refl)
  by_got message (wanted.All value s) h = inl (still part _ refl refl)
  by_got message (wanted.Sight value status) h = inl (still part _ refl refl)
  by_got message (wanted.Claim status) h = inl (still part _ refl refl)
  by_got message (wanted.SendingLink t) h = inl (still part _ refl refl)
  by_got message (wanted.ReceivingLink t) h = inl (still part _ refl refl)
  by_got message (wanted.Cut m at) h = inl (still part _ refl refl)
  by_got message wanted.Nothing h = inl (still part _ refl refl)

  by_done : (w : Wanted) → WantedOf site.version request w → IsReplied w reply.Done
  by_done (wanted.Post why t) h = inl (still part _ refl refl)
  by_done (wanted.MessageOrPost target) h = inl (still part _ refl refl)
  by_done (wanted.Message target) h = inl (still part _ refl refl)
  by_done (wanted.Word target) h = inl (received_stays target _ _ [] part)
  by_done wanted.Sent h = inl (still part _ refl refl)
  by_done (wanted.All value s) h = inl (still part _ refl refl)
  by_done (wanted.Sight value status) h = inl (still part _ refl refl)
  by_done (wanted.Claim status) h = inl (still part _ refl refl)
  by_done (wanted.SendingLink t) h = inl (still part _ refl refl)
  by_done (wanted.ReceivingLink t) h = inl (still part _ refl refl)
  by_done (wanted.Cut m at) h = inl (still part _ refl refl)
  by_done wanted.Nothing h = inl (still part _ refl refl)

  by_seen : (envelope : Envelope) (w : Wanted) → WantedOf site.version request w → IsReplied w (reply.Seen envelope)
  by_seen envelope (wanted.Post why t) h = inl (still part _ refl refl)
  by_seen envelope (wanted.MessageOrPost target) h = inl (still part _ refl refl)
  by_seen envelope (wanted.Message target) h = inl (still part _ refl refl)
  by_seen envelope (wanted.Word target) h = inl (still part _ refl refl)
  by_seen envelope wanted.Sent h = inl (still part _ refl refl)
  by_seen envelope (wanted.All value s) h = inl (still part _ refl refl)
  by_seen envelope (wanted.Sight value status) h = inl (found_stays site value status envelope part)
  by_seen envelope (wanted.Claim status) h = inl (still part _ refl refl)
  by_seen envelope (wanted.SendingLink t) h = inl (still part _ refl refl)
  by_seen envelope (wanted.ReceivingLink t) h = inl (still part _ refl refl)
  by_seen envelope (wanted.Cut m at) h = inl (still part _ refl refl)
  by_seen envelope wanted.Nothing h = inl (still part _ refl refl)

  by_held : (number : ℕ) (envelope : Envelope) (w : Wanted) → WantedOf site.version request w → IsReplied w (reply.Held number envelope)
  by_held number envelope (wanted.Post why t) h = inl (still part _ refl refl)
  by_held number envelope (wanted.MessageOrPost target) h = inl (still part _ refl refl)
  by_held number envelope (wanted.Message target) h = inl (still part _ refl refl)
  by_held number envelope (wanted.Word target) h = inl (still part _ refl refl)
  by_held number envelope wanted.Sent h = inl (still part _ refl refl)
  by_held number envelope (wanted.All value s) h = inl (still part _ refl refl)
  by_held number envelope (wanted.Sight value status) h = inl (still part _ refl refl)
  by_held number envelope (wanted.Claim status) h = inl (found_stays site number status envelope part)
  by_held number envelope (wanted.SendingLink t) h = inl (still part _ refl refl)
  by_held number envelope (wanted.ReceivingLink t) h = inl (still part _ refl refl)
  by_held number envelope (wanted.Cut m at) h = inl (still part _ refl refl)
  by_held number envelope wanted.Nothing h = inl (still part _ refl refl)

  by_all_got : (gots : List (Option Message)) (w : Wanted) → WantedOf site.version request w → IsReplied w (reply.AllGot gots)
  by_all_got gots (wanted.Post why t) h = inl (still part _ refl refl)
  by_all_got gots (wanted.MessageOrPost target) h = inl (still part _ refl refl)
  by_all_got gots (wanted.Message target) h = inl (still part _ refl refl)
  by_all_got gots (wanted.Word target) h = inl (still part _ refl refl)
  by_all_got gots wanted.Sent h = inl (still part _ refl refl)
  by_all_got gots (wanted.All value s) h = inl (gathered_stays _ site value s.statuses _ gots part)
  by_all_got gots (wanted.Sight value status) h = inl (still part _ refl refl)
  by_all_got gots (wanted.Claim status) h = inl (still part _ refl refl)
  by_all_got gots (wanted.SendingLink t) h = inl (still part _ refl refl)
  by_all_got gots (wanted.ReceivingLink t) h = inl (still part _ refl refl)
  by_all_got gots (wanted.Cut m at) h = inl (still part _ refl refl)
  by_all_got gots wanted.Nothing h = inl (still part _ refl refl)

  by_link : (link : ℕ) (w : Wanted) → WantedOf site.version request w → IsReplied w (reply.Link link)
  by_link link (wanted.Post why t) h = inl (still part _ refl refl)
  by_link link (wanted.MessageOrPost target) h = inl (still part _ refl refl)
  by_link link (wanted.Message target) h = inl (still part _ refl refl)
  by_link link (wanted.Word target) h = inl (still part _ refl refl)
  by_link link wanted.Sent h = inl (still part _ refl refl)
  by_link link (wanted.All value s) h = inl (still part _ refl refl)
  by_link link (wanted.Sight value status) h = inl (still part _ refl refl)
  by_link link (wanted.Claim status) h = inl (still part _ refl refl)
  by_link link (wanted.SendingLink t) h = sending_made site link part t h _ refl
  by_link link (wanted.ReceivingLink t) h = receiving_made site link part t h _ refl
  by_link link (wanted.Cut m at) h = inl (still part _ refl refl)
  by_link link wanted.Nothing h = inl (still part _ refl refl)

  by_cut : (boxes bytes : ℕ) (w : Wanted) → WantedOf site.version request w → IsReplied w (reply.Cut boxes bytes)
  by_cut boxes bytes (wanted.Post why t) h = inl (still part _ refl refl)
  by_cut boxes bytes (wanted.MessageOrPost target) h = inl (still part _ refl refl)
  by_cut boxes bytes (wanted.Message target) h = inl (still part _ refl refl)
  by_cut boxes bytes (wanted.Word target) h = inl (still part _ refl refl)
  by_cut boxes bytes wanted.Sent h = inl (still part _ refl refl)
  by_cut boxes bytes (wanted.All value s) h = inl (still part _ refl refl)
  by_cut boxes bytes (wanted.Sight value status) h = inl (still part _ refl refl)
  by_cut boxes bytes (wanted.Claim status) h = inl (still part _ refl refl)
  by_cut boxes bytes (wanted.SendingLink t) h = inl (still part _ refl refl)
  by_cut boxes bytes (wanted.ReceivingLink t) h = inl (still part _ refl refl)
  by_cut boxes bytes (wanted.Cut m at) h =
      subst (λ q. Replied site.version (named_link q (reply.Cut boxes bytes)) part (replied site (wanted.Cut m at) (reply.Cut boxes bytes) part)) (sym h)
      (cut_made site at part m boxes bytes _ refl)
  by_cut boxes bytes wanted.Nothing h = inl (still part _ refl refl)

  replied_by : (w : Wanted) → WantedOf site.version request w → (m : Manner) (r : Reply)
      → Replied site.version (named_link request r) part (told_row site (OnReply m w) (answer.Reply r) part)
  replied_by w h m (reply.Code c) = inl (still part _ refl refl)
  replied_by w h m reply.NotYet = inl (not_yet_stays m part)
  replied_by w h m (reply.Posted post paired) = by_posted post paired w h
  replied_by w h m (reply.Got message) = by_got message w h
  replied_by w h m reply.Done = by_done w h
  replied_by w h m (reply.Seen envelope) = by_seen envelope w h
  replied_by w h m (reply.Held number envelope) = by_held number envelope w h
  replied_by w h m (reply.AllGot gots) = by_all_got gots w h
  replied_by w h m (reply.Link link) = by_link link w h
  replied_by w h m (reply.Cut boxes bytes) = by_cut boxes bytes w h

  -- a turn that asks the hub
  pub reply_becomes : (row : Row) (r : Reply) → HubRow site.version request row
      → Replied site.version (named_link request r) part (told_row site row (answer.Reply r) part)
  reply_becomes (AtOnce o) r h = absurd h
  reply_becomes (OnReply m w) r h = replied_by w h m r
  reply_becomes (OnBox v) r h = absurd h

-- ---- what a box answers

freed_if : (b : Bool) (m : Manner) (target : Target) (after : Part)
    → Stays after (if b then received target any any [] after else not_yet m after)
freed_if true m target after = received_stays target any any [] after
freed_if false m target after = not_yet_stays m after

frees_becomes : (m : Manner) (link : ℕ) (target : Target) (part : Part)
    → Becomes part (changed_at link (on_sending one_freed) part.phases) (freed_one m link target part)
unfolding freed_one
frees_becomes m link target part =
    then_stays part _ _ _ (record { phases = refl; keeps = keeps_all part.requests }) (freed_if _ m target _)

taken_if : (b : Bool) (site : Site) (m : Manner) (side : Partitions) (target : Target) (after : Part)
    → Stays after (if b then not_yet m after else arrived site side target after)
taken_if true site m side target after = not_yet_stays m after
taken_if false site m side target after = arrived_stays site side target after

takes_becomes : (site : Site) (m : Manner) (side : Partitions) (box : ℕ) (target : Target) (bytes : List ℕ)
    (part : Part)
    → Becomes part (changed_at side.link (on_receiving (one_taken box)) part.phases)
    (taken_one site m side box target bytes part)
unfolding taken_one
takes_becomes site m side box target bytes part =
    then_stays part _ _ _ (record { phases = refl; keeps = keeps_all part.requests })
    (taken_if _ site m side target _)

sees_becomes : (side : Partitions) (box asked : ℕ) (bytes : List ℕ) (part : Part)
    → Becomes part (changed_at side.link (on_receiving (one_taken box)) part.phases)
    (seen_one side box asked bytes part)
unfolding seen_one
sees_becomes side box asked bytes part = record { phases = refl; keeps = keeps_all part.requests }

pub ready_becomes : (site : Site) (link ready : ℕ) (part : Part)
    → Becomes part (changed_at link (on_sending (readied ready)) part.phases)
    (told_row site (OnBox (Readies link ready)) answer.Alone part)
unfolding part_readied
ready_becomes site link ready part = record { phases = refl; keeps = keeps_all part.requests }

module _ (site : Site) (part : Part) (link box : ℕ) where
  pub freed_becomes : (row : Row) → FreesAt part.phases link box row
      → Becomes part (changed_at link (on_sending one_freed) part.phases) (told_row site row answer.Freed part)
  freed_becomes (AtOnce o) h = absurd h
  freed_becomes (OnReply m w) h = absurd h
  freed_becomes (OnBox (Readies at ready)) h = absurd h
  freed_becomes (OnBox (Frees m at target)) h =
      subst (λ l. Becomes part (changed_at l (on_sending one_freed) part.phases)
      (told_row site (OnBox (Frees m at target)) answer.Freed part)) h.0 (frees_becomes m at target part)
  freed_becomes (OnBox (Takes m side at target)) h = absurd h
  freed_becomes (OnBox (Sees side at asked)) h = absurd h

  pub unfreed_stays : (row : Row) → FreesAt part.phases link box row
      → Stays part (told_row site row answer.Missed part)
  unfreed_stays (AtOnce o) h = absurd h
  unfreed_stays (OnReply m w) h = absurd h
  unfreed_stays (OnBox (Readies at ready)) h = absurd h
  unfreed_stays (OnBox (Frees m at target)) h = not_yet_stays m part
  unfreed_stays (OnBox (Takes m side at target)) h = absurd h
  unfreed_stays (OnBox (Sees side at asked)) h = absurd h

  pub taken_becomes : (row : Row) (bytes : List ℕ) → TakesAt part.phases link box row
      → Becomes part (changed_at link (on_receiving (one_taken box)) part.phases)
      (told_row site row (answer.Taken bytes) part)
  taken_becomes (AtOnce o) bytes h = absurd h
  taken_becomes (OnReply m w) bytes h = absurd h
  taken_becomes (OnBox (Readies at ready)) bytes h = absurd h
  taken_becomes (OnBox (Frees m at target)) bytes h = absurd h
  taken_becomes (OnBox (Takes m side at target)) bytes h =
      at_box side at (taken_one site m side at target bytes part) h.0 h.1
      (takes_becomes site m side at target bytes part)
    where
      at_box : (side : Partitions) (at : ℕ) (new : Part) → side.link ≡ link → at ≡ box
          → Becomes part (changed_at side.link (on_receiving (one_taken at)) part.phases) new
          → Becomes part (changed_at link (on_receiving (one_taken box)) part.phases) new
      at_box side at new p q h = subst (λ l. Becomes part (changed_at l (on_receiving (one_taken box)) part.phases) new) p
          (subst (λ b. Becomes part (changed_at side.link (on_receiving (one_taken b)) part.phases) new) q h)
  taken_becomes (OnBox (Sees side at asked)) bytes h =
      subst (λ l. Becomes part (changed_at l (on_receiving (one_taken box)) part.phases)
      (seen_one side at asked bytes part)) h.0
      (subst (λ b. Becomes part (changed_at side.link (on_receiving (one_taken b)) part.phases)
      (seen_one side at asked bytes part)) h.1 (sees_becomes side at asked bytes part))

  pub untaken_stays : (row : Row) → TakesAt part.phases link box row
      → Stays part (told_row site row answer.Missed part)
  untaken_stays (AtOnce o) h = absurd h
  untaken_stays (OnReply m w) h = absurd h
  untaken_stays (OnBox (Readies at ready)) h = absurd h
  untaken_stays (OnBox (Frees m at target)) h = absurd h
  untaken_stays (OnBox (Takes m side at target)) h = not_yet_stays m part
  untaken_stays (OnBox (Sees side at asked)) h = not_yet_stays Immediate part
