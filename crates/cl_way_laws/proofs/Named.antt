-- The posts that a rank's requests name: each one once, and none but those that it named and the one that it is told of.
use Rattle.std.proofs.Common.{◌≡◌, ◌∙◌, ℕ, zero, suc, ◌<◌, refl, ap, sym, arith, Bool, true, false, List, [], ◌∷◌, Option, Some, None, inl, inr}
use Rattle.std.specs.Prelude.{◌⊎◌, get_or, replicate, set, option_map, if◌then◌else◌}
use Rattle.std.specs.Option.{option_and_then}
use Rattle.mp_types.specs.declared.messages.Envelope.{Envelope}
use Rattle.mp_types.specs.declared.messages.Message.{Message}
use Rattle.mp_types.specs.declared.replies.Reply.{Reply}
use Rattle.mp_types.specs.declared.replies.Reply.TheVariants as reply
use Rattle.mp_request.specs.Entries.{active_with, is_persistent, remainder}
use Rattle.mp_request.specs.declared.entries.OpenRequest.{OpenRequest}
use Rattle.mp_request.specs.declared.entries.Partitions.{Partitions}
use Rattle.mp_request.specs.declared.entries.Progress.{Progress}
use Rattle.mp_request.specs.declared.entries.Progress.TheVariants.{Finished, Sent, OnPost, InPhase}
use Rattle.mp_request.specs.declared.entries.State.{State}
use Rattle.mp_request.specs.declared.entries.State.TheVariants.{Ordinary, Inactive, Active}
use Rattle.mp_request.specs.declared.entries.Transfer.{Transfer}
use Rattle.mp_request.specs.declared.entries.Transfer.TheVariants as transfer
use Rattle.mp_request.specs.Table.{Table, completed, lowest_free, no_requests, request_at, started, with_request}
use Rattle.part_phase.specs.declared.phases.Phase.{Phase}
use Rattle.part_phase.specs.Phases.{changed_at, on_sending}
use Rattle.part_phase.specs.Sending.{one_freed}
use Rattle.cl_calls.specs.Calls.{any}
use Rattle.cl_calls.specs.Handles.{handles_in}
use Rattle.cl_calls.specs.Needs.{array_at}
use Rattle.cl_calls.specs.Site.{members, position_of}
use Rattle.cl_calls.specs.declared.calls.Partitioning.{Partitioning}
use Rattle.cl_calls.specs.declared.sites.Site.{Site}
use Rattle.cl_state.specs.declared.asking.Answer.{Answer}
use Rattle.cl_state.specs.declared.asking.Answer.TheVariants as answer
use Rattle.cl_state.specs.declared.asking.Doing.{Doing}
use Rattle.cl_state.specs.declared.pending.Manner.{Manner}
use Rattle.cl_state.specs.declared.pending.Manner.TheVariants.{Immediate, Blocking, Polling, Posting}
use Rattle.cl_state.specs.declared.pending.Target.{Target}
use Rattle.cl_state.specs.declared.row.Outcome.{Outcome}
use Rattle.cl_state.specs.declared.row.Outcome.TheVariants as outcome
use Rattle.cl_state.specs.declared.row.Purpose.{Purpose}
use Rattle.cl_state.specs.declared.row.Purpose.TheVariants as purpose
use Rattle.cl_state.specs.declared.row.Row.{Row}
use Rattle.cl_state.specs.declared.row.Row.TheVariants.{AtOnce, OnReply, OnBox}
use Rattle.cl_state.specs.declared.row.Visit.{Visit}
use Rattle.cl_state.specs.declared.row.Visit.TheVariants.{Readies, Frees, Takes, Sees}
use Rattle.cl_state.specs.declared.row.Wanted.{Wanted}
use Rattle.cl_state.specs.declared.row.Wanted.TheVariants as wanted
use Rattle.cl_state.specs.Asked.{Part, doing, part_of}
use Rattle.cl_state.specs.Rank.{Rank}
use Rattle.cl_state.specs.Several.{are_fit, completed_each, pendings}
use Rattle.cl_state.specs.Table.{begun_outcome, row_in}
use Rattle.cl_state.specs.Told.{arrived, arrived_from, completed_all, cut_known, done, found, found_at, found_nothing, freed, freed_one, gathered_if, made_receiving, made_sending, made_side_at, not_yet, opened_at, part_readied, phase_begun, received, received_from, received_message, replied, seen_one, taken_one, told, told_row, visited}
use Rattle.cl_state.specs.Transfers.{posted}
use Rattle.cl_state.proofs.Forms.{by_form}

-- ---- posts of requests

abbrev pub post_of_progress : Progress → Option ℕ
post_of_progress (OnPost n) = Some n
post_of_progress _ = None

abbrev pub post_of_state : State → Option ℕ
post_of_state (Ordinary p) = post_of_progress p
post_of_state Inactive = None
post_of_state (Active p) = post_of_progress p

abbrev pub post_in : Option OpenRequest → Option ℕ
post_in None = None
post_in (Some r) = post_of_state r.state

abbrev pub post_at : Table → ℕ → Option ℕ
post_at table handle = post_in (request_at table handle)

-- the second table names no posts that the first one doesn't name by the same handles
abbrev pub Fewer : Table → Table → Type 0
Fewer t u = (h k : ℕ) → post_at u h ≡ Some k → post_at t h ≡ Some k

none_some : (k : ℕ) → (let o : Option ℕ = None in o) ≡ Some k → ⊥
none_some k e = absurd (cc)

set_is : (table : Table) (i k : ℕ) (o : Option OpenRequest)
    → (get_or (set table i o) k None ≡ get_or table k None) ⊎ ((k ≡ i) × (get_or (set table i o) k None ≡ o))
set_is [] i k o = inl refl
set_is (x ∷ table) zero zero o = inr (refl, refl)
set_is (x ∷ table) zero (suc k) o = inl refl
set_is (x ∷ table) (suc i) zero o = inl refl
set_is (x ∷ table) (suc i) (suc k) o = elim (set_is table i k o) [
  | inl e ↦ inl e
  | inr f ↦ inr (ap suc f.0, f.1)
]

module _ (n : ℕ) where
  abbrev pub IsNew : Option ℕ → Type 0
  IsNew o = (k : ℕ) → o ≡ Some k → k ≡ n

  -- it names none but those, and this post by one handle
  pub record More (t u : Table) : Type 0 where
    pub at : ℕ
    pub each : (h k : ℕ) → post_at u h ≡ Some k → (post_at t h ≡ Some k) ⊎ ((h ≡ at) × (k ≡ n))

  same : (table : Table) → More table table
  same table = record { at = 0; each = λ h k e. inl e }

  fewer_more : {t u : Table} → Fewer t u → More t u
  fewer_more fewer = record { at = 0; each = λ h k e. inl (fewer h k e) }

  more_with : (table : Table) (handle : ℕ) (o : Option OpenRequest)
      → ((k : ℕ) → post_in o ≡ Some k → (post_at table handle ≡ Some k) ⊎ (k ≡ n))
      → More table (with_request table handle o)
  more_with table zero o fits = same table
  more_with table (suc i) o fits = record { at = suc i; each = each }
    where
      each : (h k : ℕ) → post_at (with_request table (suc i) o) h ≡ Some k
          → (post_at table h ≡ Some k) ⊎ ((h ≡ suc i) × (k ≡ n))
      each zero k e = absurd (none_some k e)
      each (suc h) k e = elim (set_is table i h o) [
        | inl old ↦ inl (ap post_in (sym old) ∙ e)
        | inr new ↦ elim (fits k (ap post_in (sym new.1) ∙ e)) [
          | inl old ↦ inl (ap (λ j. post_at table (suc j)) new.0 ∙ old)
          | inr is ↦ inr (ap suc new.0, is)
        ]
      ]

  started_more : (table : Table) (handle : ℕ) (p : Progress) → IsNew (post_of_progress p)
      → More table (started table handle p)
  started_more table handle p fits =
      more_with table handle (option_map (active_with p) (request_at table handle))
      (λ k e. inr (go (request_at table handle) k e))
    where
      go : (o : Option OpenRequest) (k : ℕ) → post_in (option_map (active_with p) o) ≡ Some k → k ≡ n
      go None k e = absurd (none_some k e)
      go (Some r) k e = fits k e

-- what completes names no post
completed_none : (o : Option OpenRequest) (k : ℕ) → post_in (option_and_then remainder o) ≡ Some k → ⊥
completed_none None k e = none_some k e
completed_none (Some r) k e = go (is_persistent r.state) e
  where
    go : (b : Bool) → post_in (if b then Some (record r { state = Inactive }) else None) ≡ Some k → ⊥
    go true e = none_some k e
    go false e = none_some k e

completed_fewer : (table : Table) (handle : ℕ) → Fewer table (completed table handle)
completed_fewer table handle h k e =
    elim ((more_with (suc k) table handle (option_and_then remainder (request_at table handle))
    (λ j e. absurd (completed_none (request_at table handle) j e))).each h k e) [
      | inl old ↦ old
      | inr new ↦ absurd (next_is_not k new.1)
    ]
  where
    next_is_not : (k : ℕ) → k ≡ suc k → ⊥
    next_is_not k e = omega (arith, e)

each_fewer : (handles : List ℕ) (table : Table) → Fewer table (completed_each table handles)
each_fewer [] table h k e = e
each_fewer (x ∷ handles) table h k e =
    completed_fewer table x h k (each_fewer handles (completed table x) h k e)

-- ---- what a turn does

posted_is : (t : Transfer) (post : ℕ) (paired : Bool) (k : ℕ) → post_of_progress (posted t post paired) ≡ Some k → k ≡ post
posted_is (transfer.Send true buffer count dest tag comm) post true k e = absurd (none_some k e)
posted_is (transfer.Send true buffer count dest tag comm) post false k e = cc
posted_is (transfer.Send false buffer count dest tag comm) post paired k e = absurd (none_some k e)
posted_is transfer.SendToNull post paired k e = cc
posted_is transfer.ReceiveFromNull post paired k e = cc
posted_is (transfer.Receive buffer capacity source tag comm) post paired k e = cc
posted_is (transfer.ReceiveClaimed buffer capacity) post paired k e = cc
posted_is (transfer.SendPartitions side) post paired k e = cc
posted_is (transfer.ReceivePartitions side) post paired k e = cc

module _ (n : ℕ) (site : Site) where
  abbrev Keeps : Part → Part → Type 0
  Keeps part q = More n part.requests q.requests

  -- an answer tells of no other post
  abbrev pub Tells : Answer → Type 0
  Tells (answer.Reply (reply.Posted post paired)) = post ≡ n
  Tells _ = Unit {0}

  abbrev freed_part : ℕ → Part → Part
  freed_part link part =
      record part { phases = changed_at link (on_sending one_freed) part.phases }

  keeps_not_yet : (m : Manner) (part : Part) → Keeps part (not_yet m part)
  keeps_not_yet Immediate part = same n part.requests
  keeps_not_yet Blocking part = same n part.requests
  keeps_not_yet Polling part = same n part.requests
  keeps_not_yet Posting part = same n part.requests

  keeps_received : (target : Target) (source tag : ℕ) (bytes : List ℕ) (part : Part)
      → Keeps part (received target source tag bytes part)
  unfolding received
  keeps_received target source tag bytes part = fewer_more n (completed_fewer part.requests target.handle)

  keeps_from : (o : Option ℕ) (target : Target) (message : Message) (part : Part)
      → Keeps part (received_from o target message part)
  keeps_from None target message part = same n part.requests
  keeps_from (Some place) target message part =
      keeps_received target place message.envelope.tag message.bytes part

  keeps_message : (target : Target) (message : Message) (part : Part)
      → Keeps part (received_message site target message part)
  unfolding received_message
  keeps_message target message part =
      keeps_from (position_of message.envelope.source (members site message.envelope.comm)) target message part

  keeps_opened : (o : Option ℕ) (r : OpenRequest) (part : Part) → IsNew n (post_of_state r.state)
      → Keeps part (opened_at o r part)
  keeps_opened None r part fits = same n part.requests
  keeps_opened (Some handle) r part fits =
      more_with n part.requests handle (Some r) (λ k e. inr (fits k e))

  keeps_all : (value statuses : ℕ) (handles : List ℕ) (gots : List (Option Message)) (part : Part)
      → Keeps part (completed_all site value statuses handles gots part)
  unfolding completed_all
  keeps_all value statuses handles gots part = fewer_more n (each_fewer handles part.requests)

  keeps_if : (b : Bool) (value statuses : ℕ) (handles : List ℕ) (gots : List (Option Message)) (part : Part)
      → Keeps part (gathered_if b site value statuses handles gots part)
  keeps_if true value statuses handles gots part = keeps_all value statuses handles gots part
  keeps_if false value statuses handles gots part = same n part.requests

  keeps_freed : (handle : ℕ) (part : Part) → Keeps part (freed handle part)
  unfolding freed
  keeps_freed handle part = more_with n part.requests handle None (λ k e. absurd (none_some k e))

  keeps_found_at : (o : Option ℕ) (value status : ℕ) (envelope : Envelope) (part : Part)
      → Keeps part (found_at o value status envelope part)
  keeps_found_at None value status envelope part = same n part.requests
  keeps_found_at (Some place) value status envelope part = same n part.requests

  keeps_found : (value status : ℕ) (envelope : Envelope) (part : Part)
      → Keeps part (found site value status envelope part)
  unfolding found
  keeps_found value status envelope part =
      keeps_found_at (position_of envelope.source (members site envelope.comm)) value status envelope part

  keeps_nothing : (value status : ℕ) (part : Part) → Keeps part (found_nothing value status part)
  unfolding found_nothing
  keeps_nothing value status part = same n part.requests

  keeps_arrived_from : (o : Option ℕ) (side : Partitions) (target : Target) (part : Part)
      → Keeps part (arrived_from o side target part)
  keeps_arrived_from None side target part = same n part.requests
  keeps_arrived_from (Some place) side target part = fewer_more n (completed_fewer part.requests target.handle)

  keeps_arrived : (side : Partitions) (target : Target) (part : Part) → Keeps part (arrived site side target part)
  unfolding arrived
  keeps_arrived side target part =
      keeps_arrived_from (position_of side.peer (members site side.comm)) side target part

  keeps_begun_phase : (handle link : ℕ) (part : Part) → Keeps part (phase_begun handle link part)
  unfolding phase_begun
  keeps_begun_phase handle link part = started_more n part.requests handle InPhase (λ k e. absurd (none_some k e))

  -- ---- what is done at once

  -- an outcome that opens a request or starts one has no other post
  abbrev Opens : Outcome → Type 0
  Opens (outcome.Opens r) = IsNew n (post_of_state r.state)
  Opens (outcome.Starts handle p) = IsNew n (post_of_progress p)
  Opens _ = Unit {0}

  keeps_done : (o : Outcome) (part : Part) → Opens o → Keeps part (done site o part)
  keeps_done outcome.Steps part fits = same n part.requests
  keeps_done outcome.Stays part fits = same n part.requests
  keeps_done (outcome.Exits value) part fits = same n part.requests
  keeps_done (outcome.Ends c value) part fits = same n part.requests
  keeps_done (outcome.Waits post) part fits = same n part.requests
  keeps_done (outcome.Puts buffer count) part fits = same n part.requests
  keeps_done (outcome.Opens r) part fits = keeps_opened (lowest_free part.requests) r part fits
  keeps_done (outcome.Starts handle p) part fits = started_more n part.requests handle p fits
  keeps_done (outcome.Frees handle) part fits = keeps_freed handle part
  keeps_done (outcome.Completes source target) part fits = keeps_received target source any [] part
  keeps_done (outcome.FindsNothing value status) part fits = keeps_nothing value status part
  keeps_done (outcome.BeginsPhase handle link) part fits = keeps_begun_phase handle link part
  keeps_done outcome.Holds part fits = same n part.requests
  keeps_done (outcome.Arrives side target) part fits = keeps_arrived side target part
  keeps_done (outcome.CompletesAll value s) part fits =
      keeps_all value s.statuses (handles_in part.memory (array_at s.array s.count)) [] part

  opens_begun : (why : Purpose) (t : Transfer) (p : Progress) → IsNew n (post_of_progress p) → Opens (begun_outcome why t p)
  opens_begun purpose.Send t Finished fits = tt
  opens_begun purpose.Send t (Sent post) fits = tt
  opens_begun purpose.Send t (OnPost post) fits = tt
  opens_begun purpose.Send t InPhase fits = tt
  opens_begun purpose.Open t p fits = fits
  opens_begun (purpose.Start handle) t p fits = fits

  -- ---- what a reply does

  keeps_side : (o : Option ℕ) (t : Transfer) (link : ℕ) (shape : Phase → Phase) (part : Part)
      → Keeps part (made_side_at o t link shape part)
  keeps_side None t link shape part = same n part.requests
  keeps_side (Some handle) t link shape part =
      more_with n part.requests handle (Some (record { transfer = t; state = Inactive })) (λ k e. absurd (none_some k e))

  either : (b : Bool) (part x y : Part) → Keeps part x → Keeps part y → Keeps part (if b then x else y)
  either true part x y p q = p
  either false part x y p q = q

  keeps_sending : (t : Partitioning) (link : ℕ) (part : Part) → Keeps part (made_sending site t link part)
  keeps_sending t link part =
      either _ part _ _ (keeps_side (lowest_free part.requests) _ link _ part) (same n part.requests)

  keeps_receiving : (t : Partitioning) (link : ℕ) (part : Part) → Keeps part (made_receiving site t link part)
  keeps_receiving t link part =
      either _ part _ _ (keeps_side (lowest_free part.requests) _ link _ part) (same n part.requests)

  keeps_cut : (m : Manner) (link boxes bytes : ℕ) (part : Part) → Keeps part (cut_known site m link boxes bytes part)
  keeps_cut m link boxes bytes part = either _ part _ _ (keeps_not_yet m _) (same n part.requests)

  keeps_replied : (w : Wanted) (r : Reply) (part : Part) → Tells (answer.Reply r) → Keeps part (replied site w r part)
  keeps_replied (wanted.Post why t) r part fits = go r fits
    where
      go : (r : Reply) → Tells (answer.Reply r) → Keeps part (replied site (wanted.Post why t) r part)
      go (reply.Posted post paired) tells =
          keeps_done (begun_outcome why t (posted t post paired)) part
          (opens_begun why t (posted t post paired) (λ k e. posted_is t post paired k e ∙ tells))
      go _ tells = same n part.requests
  keeps_replied (wanted.MessageOrPost target) r part fits = go r
    where
      go : (r : Reply) → Keeps part (replied site (wanted.MessageOrPost target) r part)
      go (reply.Got message) = keeps_message target message part
      go _ = same n part.requests
  keeps_replied (wanted.Message target) r part fits = go r
    where
      go : (r : Reply) → Keeps part (replied site (wanted.Message target) r part)
      go (reply.Got message) = keeps_message target message part
      go _ = same n part.requests
  keeps_replied (wanted.Word target) r part fits = go r
    where
      go : (r : Reply) → Keeps part (replied site (wanted.Word target) r part)
      go reply.Done = keeps_received target any any [] part
      go _ = same n part.requests
  keeps_replied wanted.Sent r part fits = go r
    where
      go : (r : Reply) → Keeps part (replied site wanted.Sent r part)
      go reply.Done = same n part.requests
      go _ = same n part.requests
  keeps_replied (wanted.All value s) r part fits = go r
    where
      go : (r : Reply) → Keeps part (replied site (wanted.All value s) r part)
      go (reply.AllGot gots) =
          keeps_if (are_fit site (pendings part.requests (handles_in part.memory (array_at s.array s.count))) gots) value
          s.statuses (handles_in part.memory (array_at s.array s.count)) gots part
      go _ = same n part.requests
  keeps_replied (wanted.Sight value status) r part fits = go r
    where
      go : (r : Reply) → Keeps part (replied site (wanted.Sight value status) r part)
      go (reply.Seen envelope) = keeps_found value status envelope part
      go _ = same n part.requests
  keeps_replied (wanted.Claim status) r part fits = go r
    where
      go : (r : Reply) → Keeps part (replied site (wanted.Claim status) r part)
      go (reply.Held message envelope) = keeps_found message status envelope part
      go _ = same n part.requests
  keeps_replied (wanted.SendingLink t) r part fits = go r
    where
      go : (r : Reply) → Keeps part (replied site (wanted.SendingLink t) r part)
      go (reply.Link link) = keeps_sending t link part
      go _ = same n part.requests
  keeps_replied (wanted.ReceivingLink t) r part fits = go r
    where
      go : (r : Reply) → Keeps part (replied site (wanted.ReceivingLink t) r part)
      go (reply.Link link) = keeps_receiving t link part
      go _ = same n part.requests
  keeps_replied (wanted.Cut m link) r part fits = go r
    where
      go : (r : Reply) → Keeps part (replied site (wanted.Cut m link) r part)
      go (reply.Cut boxes bytes) = keeps_cut m link boxes bytes part
      go _ = same n part.requests
  keeps_replied wanted.Nothing r part fits = go r
    where
      go : (r : Reply) → Keeps part (replied site wanted.Nothing r part)
      go _ = same n part.requests

  -- ---- what the answer of a box does

  keeps_freed_one : (m : Manner) (link : ℕ) (target : Target) (part : Part) → Keeps part (freed_one m link target part)
  unfolding freed_one
  keeps_freed_one m link target part = either _ part _ _ (keeps_received target any any [] (freed_part link part)) (keeps_not_yet m (freed_part link part))

  keeps_taken_one : (m : Manner) (side : Partitions) (box : ℕ) (target : Target) (bytes : List ℕ) (part : Part)
      → Keeps part (taken_one site m side box target bytes part)
  unfolding taken_one
  keeps_taken_one m side box target bytes part = either _ part _ _ (keeps_not_yet m _) (keeps_arrived side target _)

  keeps_seen_one : (side : Partitions) (box asked : ℕ) (bytes : List ℕ) (part : Part)
      → Keeps part (seen_one side box asked bytes part)
  unfolding seen_one
  keeps_seen_one side box asked bytes part = same n part.requests

  keeps_readied : (link ready : ℕ) (part : Part) → Keeps part (part_readied link ready part)
  unfolding part_readied
  keeps_readied link ready part = same n part.requests

  keeps_visited : (v : Visit) (a : Answer) (part : Part) → Keeps part (visited site v a part)
  keeps_visited (Readies link ready) a part = go a
    where
      go : (a : Answer) → Keeps part (visited site (Readies link ready) a part)
      go answer.Alone = keeps_readied link ready part
      go _ = same n part.requests
  keeps_visited (Frees m link target) a part = go a
    where
      go : (a : Answer) → Keeps part (visited site (Frees m link target) a part)
      go answer.Freed = keeps_freed_one m link target part
      go answer.Missed = keeps_not_yet m part
      go _ = same n part.requests
  keeps_visited (Takes m side box target) a part = go a
    where
      go : (a : Answer) → Keeps part (visited site (Takes m side box target) a part)
      go (answer.Taken bytes) = keeps_taken_one m side box target bytes part
      go answer.Missed = keeps_not_yet m part
      go _ = same n part.requests
  keeps_visited (Sees side box asked) a part = go a
    where
      go : (a : Answer) → Keeps part (visited site (Sees side box asked) a part)
      go (answer.Taken bytes) = keeps_seen_one side box asked bytes part
      go answer.Missed = keeps_not_yet Immediate part
      go _ = same n part.requests

  -- ---- the row of a turn

  -- what is done at once opens no post
  abbrev pub RowFits : Row → Type 0
  RowFits (AtOnce o) = Opens o
  RowFits _ = Unit {0}

  keeps_reply : (m : Manner) (w : Wanted) (r : Reply) (part : Part) → Tells (answer.Reply r)
      → Keeps part (told_row site (OnReply m w) (answer.Reply r) part)
  keeps_reply m w reply.NotYet part fits = keeps_not_yet m part
  keeps_reply m w (reply.Code c) part fits = same n part.requests
  keeps_reply m w (reply.Posted post paired) part fits = keeps_replied w (reply.Posted post paired) part fits
  keeps_reply m w (reply.Got message) part fits = keeps_replied w (reply.Got message) part fits
  keeps_reply m w reply.Done part fits = keeps_replied w reply.Done part fits
  keeps_reply m w (reply.Seen envelope) part fits = keeps_replied w (reply.Seen envelope) part fits
  keeps_reply m w (reply.Held message envelope) part fits = keeps_replied w (reply.Held message envelope) part fits
  keeps_reply m w (reply.AllGot gots) part fits = keeps_replied w (reply.AllGot gots) part fits
  keeps_reply m w (reply.Link link) part fits = keeps_replied w (reply.Link link) part fits
  keeps_reply m w (reply.Cut boxes bytes) part fits = keeps_replied w (reply.Cut boxes bytes) part fits

  pub keeps_row : (row : Row) (a : Answer) (part : Part) → RowFits row → Tells a
      → Keeps part (told_row site row a part)
  keeps_row (AtOnce o) a part fits tells = keeps_done o part fits
  keeps_row (OnReply m w) (answer.Reply r) part fits tells = keeps_reply m w r part tells
  keeps_row (OnReply m w) answer.Alone part fits tells = same n part.requests
  keeps_row (OnReply m w) (answer.Taken bytes) part fits tells = same n part.requests
  keeps_row (OnReply m w) answer.Missed part fits tells = same n part.requests
  keeps_row (OnReply m w) answer.Freed part fits tells = same n part.requests
  keeps_row (OnBox v) a part fits tells = keeps_visited v a part

  row_fits : (hart : ℕ) (part : Part) (does : Doing)
      → RowFits (row_in site hart part.memory part.requests part.phases does)
  row_fits hart part =
      by_form site hart part.memory part.requests part.phases (λ started does asks row. RowFits row)
      (record {
        steps = tt;
        refused = λ c. tt;
        stopped = tt;
        polls_message = λ c post target. tt;
        polls_send = λ c post. tt;
        polls_other = λ c post. tt;
        stays = tt;
        exits = λ value. tt;
        puts = λ buffer count. tt;
        ends = λ c end value. tt;
        completes = λ c source target. tt;
        completes_all = λ c value s of. tt;
        finds_nothing = λ c value status. tt;
        arrives = λ c side target. tt;
        holds = λ c. tt;
        makes = λ c t of none k e. absurd (none_some k e);
        opens = λ c t of none k e. absurd (none_some k e);
        starts = λ handle k e. absurd (none_some k e);
        begins = λ handle link. tt;
        frees = λ handle. tt;
        sends = λ c why sync buffer count dest tag comm is of. tt;
        receives = λ c why now buffer capacity source tag comm is. tt;
        receives_claimed = λ c buffer capacity message. tt;
        starts_claimed = λ handle buffer capacity. tt;
        comes = λ c comm source tag target. tt;
        comes_claimed = λ c message target. tt;
        links_sending = λ t. tt;
        links_receiving = λ t. tt;
        collects = λ c m post target. tt;
        finishes = λ c m post target. tt;
        gathers = λ c m value s post posts of. tt;
        sees = λ c m comm source tag value status. tt;
        claims = λ c m comm source tag status. tt;
        cuts = λ c m link going unknown. tt;
        readies = λ handle part side is. tt;
        frees_part = λ c m link free target going next ready. tt;
        takes = λ c m side box target going next. tt;
        looks = λ c side box part going next. tt;
      })

-- told something, a rank names the posts that it named, and the one that it is told of
pub told_more : (n : ℕ) (rank : Rank) (hart stamp : ℕ) (a : Answer) → Tells n rank.site a
    → More n rank.requests (told rank hart a stamp).requests
unfolding told
told_more n rank hart stamp a tells =
    let part = part_of rank hart in
    keeps_row n rank.site (row_in rank.site hart part.memory part.requests part.phases (doing rank.site part)) a part
    (row_fits n rank.site hart part (doing rank.site part)) tells

-- ---- each post is named once

abbrev pub NamesApart : Table → Type 0
NamesApart table = (h k n : ℕ) → post_at table h ≡ Some n → post_at table k ≡ Some n → h ≡ k

-- and no post of this number or a later one
abbrev pub NamesBefore : ℕ → Table → Type 0
NamesBefore n table = (h k : ℕ) → post_at table h ≡ Some k → k < n

pub apart_more : (n : ℕ) (t u : Table) → NamesApart t → NamesBefore n t → More n t u → NamesApart u
apart_more n t u apart before more h k m one two = elim (more.each h m one) [
  | inl old ↦ elim (more.each k m two) [
    | inl other ↦ apart h k m old other
    | inr new ↦ (let less = before h m old in let is = new.1 in absurd (omega (arith, less, is)))
  ]
  | inr new ↦ elim (more.each k m two) [
    | inl old ↦ (let less = before k m old in let is = new.1 in absurd (omega (arith, less, is)))
    | inr other ↦ new.0 ∙ sym other.0
  ]
]

-- where nothing is open no post is named
pub apart_first : NamesApart no_requests
apart_first h k n one two = absurd (none_at h one)
  where
    all_none : (m i : ℕ) → get_or (replicate m (let o : Option OpenRequest = None in o)) i None ≡ None
    all_none zero i = refl
    all_none (suc m) zero = refl
    all_none (suc m) (suc i) = all_none m i

    none_at : (h : ℕ) → post_at no_requests h ≡ Some n → ⊥
    none_at zero e = none_some n e
    none_at (suc i) e = (let f = sym (ap post_in (all_none 255 i)) ∙ e in none_some n f)
