-- Each send that a rank opens or asks for is to a rank, where the communicators have ranks alone.
use Rattle.std.proofs.Common.{◌≡◌, ◌<◌, ◌∙◌, ℕ, zero, suc, refl, subst, sym, Bool, true, false, List, [], ◌∷◌, Option, Some, None, inl, inr}
use Rattle.std.specs.Prelude.{◌==◌, ◌⊎◌, get_or, set, replicate, option_map, if◌then◌else◌}
use Rattle.std.specs.Option.{option_and_then}
use Rattle.rv_memory.specs.Memory.{Memory}
use Rattle.mp_types.specs.declared.messages.Envelope.{Envelope}
use Rattle.mp_types.specs.declared.messages.Message.{Message}
use Rattle.mp_types.specs.declared.replies.Reply.{Reply}
use Rattle.mp_types.specs.declared.replies.Reply.TheVariants as reply
use Rattle.mp_types.specs.declared.requests.Request.TheVariants as request
use Rattle.mp_request.specs.Entries.{active_with, is_persistent, remainder}
use Rattle.mp_request.specs.declared.entries.OpenRequest.{OpenRequest}
use Rattle.mp_request.specs.declared.entries.Partitions.{Partitions}
use Rattle.mp_request.specs.declared.entries.Progress.{Progress}
use Rattle.mp_request.specs.declared.entries.Progress.TheVariants.{Finished, Sent, OnPost, InPhase}
use Rattle.mp_request.specs.declared.entries.State.TheVariants.{Inactive}
use Rattle.mp_request.specs.declared.entries.Transfer.{Transfer}
use Rattle.mp_request.specs.declared.entries.Transfer.TheVariants as transfer
use Rattle.mp_request.specs.Table.{Table, completed, lowest_free, no_requests, request_at, started, with_request}
use Rattle.part_phase.specs.declared.phases.Phase.{Phase}
use Rattle.cl_calls.specs.Checks.{receiving_side, sending_side}
use Rattle.cl_calls.specs.declared.calls.Call.{Call}
use Rattle.cl_calls.specs.declared.calls.Call.TheVariants as call
use Rattle.cl_calls.specs.declared.calls.Completing.{Completing}
use Rattle.cl_calls.specs.declared.calls.Partitioning.{Partitioning}
use Rattle.cl_calls.specs.declared.calls.Receiving.{Receiving}
use Rattle.cl_calls.specs.declared.calls.Sending.{Sending}
use Rattle.cl_calls.specs.declared.calls.Several.{Several}
use Rattle.cl_calls.specs.declared.sites.Site.{Site}
use Rattle.cl_calls.specs.Calls.{no_rank, no_message}
use Rattle.cl_calls.specs.Site.{member}
use Rattle.cl_state.specs.declared.asking.Answer.{Answer}
use Rattle.cl_state.specs.declared.asking.Answer.TheVariants as answer
use Rattle.cl_state.specs.declared.asking.Ask.{Ask}
use Rattle.cl_state.specs.declared.asking.Ask.TheVariants as ask
use Rattle.cl_state.specs.declared.asking.Doing.{Doing}
use Rattle.cl_state.specs.declared.asking.Doing.TheVariants.{Step, Refused, Go, Poll, Stopped}
use Rattle.cl_state.specs.declared.partitions.Awaited.{Awaited}
use Rattle.cl_state.specs.declared.partitions.Awaited.TheVariants as awaits
use Rattle.cl_state.specs.declared.pending.Manner.{Manner}
use Rattle.cl_state.specs.declared.pending.Manner.TheVariants.{Immediate, Blocking, Polling, Posting}
use Rattle.cl_state.specs.declared.pending.Pending.{Pending}
use Rattle.cl_state.specs.declared.pending.Pending.TheVariants as pending
use Rattle.cl_state.specs.declared.pending.Target.{Target}
use Rattle.cl_state.specs.declared.row.Outcome.{Outcome}
use Rattle.cl_state.specs.declared.row.Outcome.TheVariants as outcome
use Rattle.cl_state.specs.declared.row.Purpose.{Purpose}
use Rattle.cl_state.specs.declared.row.Purpose.TheVariants as purpose
use Rattle.cl_state.specs.declared.row.Row.{Row}
use Rattle.cl_state.specs.declared.row.Row.TheVariants.{AtOnce, OnReply, OnBox}
use Rattle.cl_state.specs.declared.row.Visit.{Visit}
use Rattle.cl_state.specs.declared.row.Visit.TheVariants as visit
use Rattle.cl_state.specs.declared.row.Wanted.{Wanted}
use Rattle.cl_state.specs.declared.row.Wanted.TheVariants as wanted
use Rattle.cl_state.specs.Asked.{Part, asked, asked_by, asked_in, asked_start, doing, part_of}
use Rattle.cl_state.specs.Pending.{pending_of}
use Rattle.cl_state.specs.Rank.{Rank}
use Rattle.cl_state.specs.Several.{completed_each}
use Rattle.cl_state.specs.Table.{begins, begins_phase, begun_outcome, completes, completing, concludes, gathers, holds_by, polled, row_arrived, row_awaited, row_completing, row_in, row_of, row_of_part, row_ready, starts, takes}
use Rattle.cl_state.specs.Told.{arrived, arrived_from, completed_all, cut_known, done, found, found_at, found_nothing, freed, freed_one, gathered_if, made_receiving, made_sending, made_side_at, not_yet, opened_at, part_readied, phase_begun, received, received_from, received_message, replied, seen_one, taken_one, told, told_row, visited}
use Rattle.cl_state.specs.Transfers.{asked_transfer, claimed_of, receive_of, send_of}
use Rattle.cl_post_laws.proofs.Posting.{BeginsTransfer, MakesPost, makes_post}
use Rattle.cl_names_laws.proofs.Told.{row_at}
use Rattle.cl_post_laws.proofs.Renamed.{by_row}

module _ (n : ℕ) where
  -- a send is to one of the first n ranks
  abbrev pub IsTo : Transfer → Type 0
  IsTo (transfer.Send sync buffer count dest tag comm) = dest < n
  IsTo _ = Unit {0}

  -- and so is each that is open
  abbrev pub AreTo : Table → Type 0
  AreTo table = (handle : ℕ) (r : OpenRequest) → request_at table handle ≡ Some r → IsTo r.transfer

  -- and the one that is asked for
  abbrev AsksTo : Ask → Type 0
  AsksTo (ask.Hub (request.Send sync comm dest tag bytes)) = dest < n
  AsksTo _ = Unit {0}

  -- ---- the table

  -- what a handle may name
  abbrev Fits : Option OpenRequest → Type 0
  Fits o = (r : OpenRequest) → o ≡ Some r → IsTo r.transfer

  set_at : (table : Table) (i k : ℕ) (o : Option OpenRequest) (r : OpenRequest)
      → get_or (set table i o) k None ≡ Some r → (o ≡ Some r) ⊎ (get_or table k None ≡ Some r)
  set_at [] i k o r h = inr h
  set_at (x ∷ table) zero zero o r h = inl h
  set_at (x ∷ table) zero (suc k) o r h = inr h
  set_at (x ∷ table) (suc i) zero o r h = inr h
  set_at (x ∷ table) (suc i) (suc k) o r h = set_at table i k o r h

  with_too : (table : Table) (handle : ℕ) (o : Option OpenRequest) → AreTo table → Fits o
      → AreTo (with_request table handle o)
  with_too table zero o to fits handle r there = to handle r there
  with_too table (suc i) o to fits zero r there = absurd (cc)
  with_too table (suc i) o to fits (suc k) r there = elim (set_at table i k o r there) [
    | inl new ↦ fits r new
    | inr old ↦ to (suc k) r old
  ]

  fits_some : (y : OpenRequest) → IsTo y.transfer → Fits (Some y)
  fits_some y fits r e = (let same : y ≡ r = (cc) in subst (λ (x : OpenRequest). IsTo x.transfer) same fits)

  started_too : (table : Table) (handle : ℕ) (p : Progress) → AreTo table → AreTo (started table handle p)
  started_too table handle p to =
      with_too table handle _ to (go (request_at table handle) (λ r e. to handle r e))
    where
      go : (o : Option OpenRequest) → Fits o → Fits (option_map (active_with p) o)
      go None fits r e = absurd (cc)
      go (Some x) fits r e = fits_some (active_with p x) (fits x refl) r e

  fits_if : (b : Bool) (y : OpenRequest) → IsTo y.transfer → Fits (if b then Some y else None)
  fits_if true y fits r e = fits_some y fits r e
  fits_if false y fits r e = absurd (cc)

  completed_too : (table : Table) (handle : ℕ) → AreTo table → AreTo (completed table handle)
  completed_too table handle to =
      with_too table handle _ to (go (request_at table handle) (λ r e. to handle r e))
    where
      go : (o : Option OpenRequest) → Fits o → Fits (option_and_then remainder o)
      go None fits r e = absurd (cc)
      go (Some x) fits r e = fits_if (is_persistent x.state) (record x { state = Inactive }) (fits x refl) r e

  each_too : (handles : List ℕ) (table : Table) → AreTo table → AreTo (completed_each table handles)
  each_too [] table to = to
  each_too (h ∷ hs) table to = each_too hs (completed table h) (completed_too table h to)

  -- ---- what a turn does

  module _ (site : Site) where
    abbrev Keeps : Part → Part → Type 0
    Keeps part q = AreTo part.requests → AreTo q.requests

    either : (b : Bool) (part x y : Part) → Keeps part x → Keeps part y → Keeps part (if b then x else y)
    either true part x y p q = p
    either false part x y p q = q

    keeps_not_yet : (m : Manner) (part : Part) → Keeps part (not_yet m part)
    keeps_not_yet Immediate part to = to
    keeps_not_yet Blocking part to = to
    keeps_not_yet Polling part to = to
    keeps_not_yet Posting part to = to

    keeps_received : (target : Target) (source tag : ℕ) (bytes : List ℕ) (part : Part)
        → Keeps part (received target source tag bytes part)
    unfolding received
    keeps_received target source tag bytes part to = completed_too part.requests target.handle to

    keeps_from : (o : Option ℕ) (target : Target) (message : Message) (part : Part)
        → Keeps part (received_from o target message part)
    keeps_from None target message part to = to
    keeps_from (Some place) target message part to =
        keeps_received target place message.envelope.tag message.bytes part to

    keeps_message : (target : Target) (message : Message) (part : Part)
        → Keeps part (received_message site target message part)
    unfolding received_message
    keeps_message target message part to = keeps_from _ target message part to

    keeps_opened : (o : Option ℕ) (r : OpenRequest) (part : Part) → IsTo r.transfer → Keeps part (opened_at o r part)
    keeps_opened None r part fits to = to
    keeps_opened (Some handle) r part fits to = with_too part.requests handle (Some r) to (fits_some r fits)

    keeps_all : (value statuses : ℕ) (handles : List ℕ) (gots : List (Option Message)) (part : Part)
        → Keeps part (completed_all site value statuses handles gots part)
    unfolding completed_all
    keeps_all value statuses handles gots part to = each_too handles part.requests to

    keeps_if : (b : Bool) (value statuses : ℕ) (handles : List ℕ) (gots : List (Option Message)) (part : Part)
        → Keeps part (gathered_if b site value statuses handles gots part)
    keeps_if true value statuses handles gots part to = keeps_all value statuses handles gots part to
    keeps_if false value statuses handles gots part to = to

    keeps_freed : (handle : ℕ) (part : Part) → Keeps part (freed handle part)
    unfolding freed
    keeps_freed handle part to = with_too part.requests handle None to (λ r e. absurd (cc))

    keeps_found_at : (o : Option ℕ) (value status : ℕ) (envelope : Envelope) (part : Part)
        → Keeps part (found_at o value status envelope part)
    keeps_found_at None value status envelope part to = to
    keeps_found_at (Some place) value status envelope part to = to

    keeps_found : (value status : ℕ) (envelope : Envelope) (part : Part)
        → Keeps part (found site value status envelope part)
    unfolding found
    keeps_found value status envelope part to = keeps_found_at _ value status envelope part to

    keeps_nothing : (value status : ℕ) (part : Part) → Keeps part (found_nothing value status part)
    unfolding found_nothing
    keeps_nothing value status part to = to

    keeps_arrived_from : (o : Option ℕ) (side : Partitions) (target : Target) (part : Part)
        → Keeps part (arrived_from o side target part)
    keeps_arrived_from None side target part to = to
    keeps_arrived_from (Some place) side target part to = completed_too part.requests target.handle to

    keeps_arrived : (side : Partitions) (target : Target) (part : Part) → Keeps part (arrived site side target part)
    unfolding arrived
    keeps_arrived side target part to = keeps_arrived_from _ side target part to

    keeps_begun_phase : (handle link : ℕ) (part : Part) → Keeps part (phase_begun handle link part)
    unfolding phase_begun
    keeps_begun_phase handle link part to = started_too part.requests handle InPhase to

    -- ---- what is done at once

    -- a request that is opened is to a rank, if it sends
    abbrev Opens : Outcome → Type 0
    Opens (outcome.Opens r) = IsTo r.transfer
    Opens _ = Unit {0}

    keeps_done : (o : Outcome) (part : Part) → Opens o → Keeps part (done site o part)
    keeps_done (outcome.Opens r) part fits to = keeps_opened (lowest_free part.requests) r part fits to
    keeps_done (outcome.Starts handle p) part fits to = started_too part.requests handle p to
    keeps_done (outcome.Frees handle) part fits to = keeps_freed handle part to
    keeps_done (outcome.Completes source target) part fits to = keeps_received target source _ _ part to
    keeps_done (outcome.FindsNothing value status) part fits to = keeps_nothing value status part to
    keeps_done (outcome.BeginsPhase handle link) part fits to = keeps_begun_phase handle link part to
    keeps_done (outcome.Arrives side target) part fits to = keeps_arrived side target part to
    keeps_done (outcome.CompletesAll value s) part fits to = keeps_all value s.statuses _ _ part to
    keeps_done _ part fits to = to

    opens_begun : (why : Purpose) (t : Transfer) (p : Progress) → IsTo t → Opens (begun_outcome why t p)
    opens_begun purpose.Send t Finished fits = tt
    opens_begun purpose.Send t (Sent post) fits = tt
    opens_begun purpose.Send t (OnPost post) fits = tt
    opens_begun purpose.Send t InPhase fits = tt
    opens_begun purpose.Open t p fits = fits
    opens_begun (purpose.Start handle) t p fits = tt

    -- ---- what a reply does

    keeps_side : (o : Option ℕ) (t : Transfer) (link : ℕ) (shape : Phase → Phase) (part : Part) → IsTo t
        → Keeps part (made_side_at o t link shape part)
    keeps_side None t link shape part fits to = to
    keeps_side (Some handle) t link shape part fits to =
        with_too part.requests handle (Some _) to (fits_some (record { transfer = t; state = Inactive }) fits)

    keeps_sending : (t : Partitioning) (link : ℕ) (part : Part) → Keeps part (made_sending site t link part)
    keeps_sending t link part =
        either _ part _ _ (keeps_side (lowest_free part.requests) _ link _ part tt) (λ to. to)

    keeps_receiving : (t : Partitioning) (link : ℕ) (part : Part) → Keeps part (made_receiving site t link part)
    keeps_receiving t link part =
        either _ part _ _ (keeps_side (lowest_free part.requests) _ link _ part tt) (λ to. to)

    keeps_cut : (m : Manner) (link boxes bytes : ℕ) (part : Part) → Keeps part (cut_known site m link boxes bytes part)
    keeps_cut m link boxes bytes part = either _ part _ _ (keeps_not_yet m _) (λ to. to)

    -- what is wanted where a request is opened
    abbrev Wants : Wanted → Type 0
    Wants (wanted.Post why t) = IsTo t
    Wants _ = Unit {0}

    keeps_replied : (w : Wanted) (r : Reply) (part : Part) → Wants w → Keeps part (replied site w r part)
    keeps_replied (wanted.Post why t) (reply.Posted post paired) part fits =
        keeps_done (begun_outcome why t _) part (opens_begun why t _ fits)
    keeps_replied (wanted.MessageOrPost target) (reply.Got message) part fits = keeps_message target message part
    keeps_replied (wanted.Message target) (reply.Got message) part fits = keeps_message target message part
    keeps_replied (wanted.Word target) reply.Done part fits = keeps_received target _ _ _ part
    keeps_replied wanted.Sent reply.Done part fits = λ to. to
    keeps_replied (wanted.All value s) (reply.AllGot gots) part fits = keeps_if _ value s.statuses _ gots part
    keeps_replied (wanted.Sight value status) (reply.Seen envelope) part fits = keeps_found value status envelope part
    keeps_replied (wanted.Claim status) (reply.Held message envelope) part fits = keeps_found message status envelope part
    keeps_replied (wanted.SendingLink t) (reply.Link link) part fits = keeps_sending t link part
    keeps_replied (wanted.ReceivingLink t) (reply.Link link) part fits = keeps_receiving t link part
    keeps_replied (wanted.Cut m link) (reply.Cut boxes bytes) part fits = keeps_cut m link boxes bytes part
    keeps_replied _ _ part fits = λ to. to

    -- ---- what the answer of a box does

    keeps_freed_one : (m : Manner) (link : ℕ) (target : Target) (part : Part) → Keeps part (freed_one m link target part)
    unfolding freed_one
    keeps_freed_one m link target part = either _ part _ _ (keeps_received target _ _ _ _) (keeps_not_yet m _)

    keeps_taken_one : (m : Manner) (side : Partitions) (box : ℕ) (target : Target) (bytes : List ℕ) (part : Part)
        → Keeps part (taken_one site m side box target bytes part)
    unfolding taken_one
    keeps_taken_one m side box target bytes part = either _ part _ _ (keeps_not_yet m _) (keeps_arrived side target _)

    keeps_seen_one : (side : Partitions) (box which : ℕ) (bytes : List ℕ) (part : Part)
        → Keeps part (seen_one side box which bytes part)
    unfolding seen_one
    keeps_seen_one side box which bytes part to = to

    keeps_readied : (link ready : ℕ) (part : Part) → Keeps part (part_readied link ready part)
    unfolding part_readied
    keeps_readied link ready part to = to

    keeps_visited : (v : Visit) (a : Answer) (part : Part) → Keeps part (visited site v a part)
    keeps_visited (visit.Readies link ready) answer.Alone part = keeps_readied link ready part
    keeps_visited (visit.Frees m link target) answer.Freed part = keeps_freed_one m link target part
    keeps_visited (visit.Frees m link target) answer.Missed part = keeps_not_yet m part
    keeps_visited (visit.Takes m side box target) (answer.Taken bytes) part =
        keeps_taken_one m side box target bytes part
    keeps_visited (visit.Takes m side box target) answer.Missed part = keeps_not_yet m part
    keeps_visited (visit.Sees side box which) (answer.Taken bytes) part = keeps_seen_one side box which bytes part
    keeps_visited (visit.Sees side box which) answer.Missed part = keeps_not_yet Immediate part
    keeps_visited _ _ part = λ to. to

    -- ---- the row of a turn

    abbrev RowFits : Row → Type 0
    RowFits (AtOnce o) = Opens o
    RowFits (OnReply m w) = Wants w
    RowFits (OnBox v) = Unit {0}

    keeps_row : (row : Row) (a : Answer) (part : Part) → RowFits row → Keeps part (told_row site row a part)
    keeps_row (AtOnce o) a part fits = keeps_done o part fits
    keeps_row (OnReply m w) (answer.Reply reply.NotYet) part fits = keeps_not_yet m part
    keeps_row (OnReply m w) (answer.Reply (reply.Code c)) part fits = λ to. to
    keeps_row (OnReply m w) (answer.Reply (reply.Posted post paired)) part fits =
        keeps_replied w (reply.Posted post paired) part fits
    keeps_row (OnReply m w) (answer.Reply (reply.Got message)) part fits = keeps_replied w (reply.Got message) part fits
    keeps_row (OnReply m w) (answer.Reply reply.Done) part fits = keeps_replied w reply.Done part fits
    keeps_row (OnReply m w) (answer.Reply (reply.Seen envelope)) part fits =
        keeps_replied w (reply.Seen envelope) part fits
    keeps_row (OnReply m w) (answer.Reply (reply.Held message envelope)) part fits =
        keeps_replied w (reply.Held message envelope) part fits
    keeps_row (OnReply m w) (answer.Reply (reply.AllGot gots)) part fits = keeps_replied w (reply.AllGot gots) part fits
    keeps_row (OnReply m w) (answer.Reply (reply.Link link)) part fits = keeps_replied w (reply.Link link) part fits
    keeps_row (OnReply m w) (answer.Reply (reply.Cut boxes bytes)) part fits =
        keeps_replied w (reply.Cut boxes bytes) part fits
    keeps_row (OnReply m w) _ part fits = λ to. to
    keeps_row (OnBox v) a part fits = keeps_visited v a part

    -- ---- the rows of calls

    if_fits : (b : Bool) (x y : Row) → RowFits x → RowFits y → RowFits (if b then x else y)
    if_fits true x y p q = p
    if_fits false x y p q = q

    phase_fits : (why : Purpose) (link : ℕ) → RowFits (begins_phase why link)
    phase_fits purpose.Send link = tt
    phase_fits purpose.Open link = tt
    phase_fits (purpose.Start handle) link = tt

    begins_fits : (why : Purpose) (t : Transfer) → IsTo t → RowFits (begins why t)
    begins_fits why transfer.SendToNull fits = opens_begun why transfer.SendToNull Finished fits
    begins_fits why transfer.ReceiveFromNull fits = opens_begun why transfer.ReceiveFromNull Finished fits
    begins_fits why (transfer.SendPartitions side) fits = phase_fits why side.link
    begins_fits why (transfer.ReceivePartitions side) fits = phase_fits why side.link
    begins_fits why (transfer.Send sync buffer count dest tag comm) fits = fits
    begins_fits why (transfer.Receive buffer capacity source tag comm) fits = tt
    begins_fits why (transfer.ReceiveClaimed buffer capacity) fits = tt

    starts_fits : (handle : ℕ) (o : Option OpenRequest) → Fits o → RowFits (starts handle o)
    starts_fits handle None fits = tt
    starts_fits handle (Some r) fits = begins_fits (purpose.Start handle) r.transfer (fits r refl)

    completes_fits : (m : Manner) (c : Completing) (p : Pending) → RowFits (completes m c p)
    completes_fits m c pending.Nothing = tt
    completes_fits m c pending.FromNull = tt
    completes_fits m c (pending.Message post buffer capacity) = tt
    completes_fits m c (pending.Word post) = tt

    concludes_fits : (t : Transfer) (target : Target) → Opens (concludes t target)
    concludes_fits (transfer.ReceivePartitions side) target = tt
    concludes_fits _ target = tt

    holds_fits : (m : Manner) → Opens (holds_by m)
    holds_fits Immediate = tt
    holds_fits _ = tt

    takes_fits : (m : Manner) (t : Transfer) (box : ℕ) (target : Target) → RowFits (takes m t box target)
    takes_fits m (transfer.ReceivePartitions side) box target = tt
    takes_fits m _ box target = tt

    awaited_fits : (m : Manner) (t : Transfer) (target : Target) (a : Awaited) → RowFits (row_awaited m t target a)
    awaited_fits m t target awaits.Nothing = concludes_fits t target
    awaited_fits m t target awaits.Unready = holds_fits m
    awaited_fits m t target (awaits.Taking link part) = tt
    awaited_fits m t target (awaits.Cut link) = tt
    awaited_fits m t target (awaits.Box link box) = takes_fits m t box target

    completing_fits : (m : Manner) (c : Completing) (a : Option Awaited) (o : Option OpenRequest)
        → RowFits (row_completing m c a o)
    completing_fits m c (Some a) (Some r) = awaited_fits m r.transfer (completing m c 0 0) a
    completing_fits m c (Some a) None = completes_fits m c (pending_of None)
    completing_fits m c None o = completes_fits m c (pending_of o)

    ready_fits : (part : ℕ) (o : Option Partitions) → RowFits (row_ready part o)
    ready_fits part None = tt
    ready_fits part (Some side) = tt

    part_fits : (side : Partitions) (part : ℕ) (a : Awaited) → RowFits (row_of_part side part a)
    part_fits side part (awaits.Cut link) = tt
    part_fits side part (awaits.Box link box) = tt
    part_fits side part _ = tt

    arrived_fits : (phases : List Phase) (part : ℕ) (o : Option Partitions) → RowFits (row_arrived phases part o)
    arrived_fits phases part None = tt
    arrived_fits phases part (Some side) = part_fits side part _

    gathers_fits : (m : Manner) (s : Several) (posts : List ℕ) → RowFits (gathers m s posts)
    gathers_fits m s [] = tt
    gathers_fits m s (post ∷ posts) = tt

    -- ---- calls

    send_to : (null sync : Bool) (buffer count dest tag comm : ℕ) → dest < n
        → IsTo (if null then transfer.SendToNull else transfer.Send sync buffer count dest tag comm)
    send_to true sync buffer count dest tag comm its = tt
    send_to false sync buffer count dest tag comm its = its

    receive_to : (null : Bool) (buffer capacity : ℕ) (source tag : Option ℕ) (comm : ℕ)
        → IsTo (if null then transfer.ReceiveFromNull else transfer.Receive buffer capacity source tag comm)
    receive_to true buffer capacity source tag comm = tt
    receive_to false buffer capacity source tag comm = tt

    claimed_to : (null : Bool) (buffer capacity : ℕ)
        → IsTo (if null then transfer.ReceiveFromNull else transfer.ReceiveClaimed buffer capacity)
    claimed_to true buffer capacity = tt
    claimed_to false buffer capacity = tt

    module _ (ranks : (comm place : ℕ) → member site comm place < n) where
      sends_to : (sync : Bool) (s : Sending) → IsTo (send_of site sync s)
      sends_to sync s =
          send_to (s.dest == no_rank) sync s.buffer s.count (member site s.comm s.dest) s.tag s.comm (ranks s.comm s.dest)

      receives_to : (r : Receiving) → IsTo (receive_of site r)
      receives_to r = receive_to (r.source == no_rank) r.buffer r.capacity _ _ r.comm

      module _ (hart : ℕ) (memory : Memory) (table : Table) (phases : List Phase) (to : AreTo table) where
        call_fits : (c : Call) → RowFits (row_of site hart memory table phases c)
        call_fits (call.Send s) = begins_fits purpose.Send (send_of site false s) (sends_to false s)
        call_fits (call.Ssend s) = begins_fits purpose.Send (send_of site true s) (sends_to true s)
        call_fits (call.Recv r status) = if_fits (r.source == no_rank) _ _ tt tt
        call_fits (call.Isend s) = begins_fits purpose.Open (send_of site false s) (sends_to false s)
        call_fits (call.Issend s) = begins_fits purpose.Open (send_of site true s) (sends_to true s)
        call_fits (call.Irecv r) = begins_fits purpose.Open (receive_of site r) (receives_to r)
        call_fits (call.Test c) = completing_fits Immediate c _ (request_at table c.handle)
        call_fits (call.Wait c) = completing_fits Blocking c _ (request_at table c.handle)
        call_fits (call.Iprobe p) = if_fits (p.source == no_rank) _ _ tt tt
        call_fits (call.Probe p) = if_fits (p.source == no_rank) _ _ tt tt
        call_fits (call.Improbe p) = if_fits (p.source == no_rank) _ _ tt tt
        call_fits (call.Mprobe p) = if_fits (p.source == no_rank) _ _ tt tt
        call_fits (call.Imrecv m) =
            begins_fits purpose.Open (claimed_of m) (claimed_to (m.message == no_message) m.buffer m.capacity)
        call_fits (call.Mrecv m status) = if_fits (m.message == no_message) _ _ tt tt
        call_fits (call.SendInit s) = sends_to false s
        call_fits (call.RecvInit r) = receives_to r
        call_fits (call.Start handle) = starts_fits handle (request_at table handle) (λ r e. to handle r e)
        call_fits (call.Testall s) = gathers_fits Immediate s _
        call_fits (call.Waitall s) = gathers_fits Blocking s _
        call_fits (call.Pready handle part) = ready_fits part (sending_side (request_at table handle))
        call_fits (call.Parrived handle part) = arrived_fits phases part (receiving_side (request_at table handle))
        call_fits _ = tt

        turn_fits : (d : Doing) → RowFits (row_in site hart memory table phases d)
        turn_fits Step = tt
        turn_fits (Refused code) = tt
        turn_fits (Go c) = call_fits c
        turn_fits (Poll c post) = polled_fits c
          where
            polled_fits : (c : Call) → Wants (polled c)
            polled_fits (call.Recv r status) = tt
            polled_fits (call.Mrecv m status) = tt
            polled_fits (call.Ssend s) = tt
            polled_fits _ = tt
        turn_fits Stopped = tt

        -- ---- what is asked

        transfer_asks : (now : Bool) (t : Transfer) → IsTo t → AsksTo (asked_transfer memory now t)
        transfer_asks now transfer.SendToNull fits = tt
        transfer_asks now transfer.ReceiveFromNull fits = tt
        transfer_asks now (transfer.Send sync buffer count dest tag comm) fits = fits
        transfer_asks now (transfer.Receive buffer capacity source tag comm) fits = tt
        transfer_asks now (transfer.ReceiveClaimed buffer capacity) fits = tt
        transfer_asks now (transfer.SendPartitions side) fits = tt
        transfer_asks now (transfer.ReceivePartitions side) fits = tt

        start_asks : (o : Option OpenRequest) → Fits o → AsksTo (asked_start memory o)
        start_asks None fits = tt
        start_asks (Some r) fits = transfer_asks false r.transfer (fits r refl)

        call_asks : (c : Call) → BeginsTransfer c → AsksTo (asked_by site memory table phases c)
        call_asks (call.Send s) is = transfer_asks true (send_of site false s) (sends_to false s)
        call_asks (call.Ssend s) is = transfer_asks true (send_of site true s) (sends_to true s)
        call_asks (call.Recv r status) is = transfer_asks true (receive_of site r) (receives_to r)
        call_asks (call.Isend s) is = transfer_asks false (send_of site false s) (sends_to false s)
        call_asks (call.Issend s) is = transfer_asks false (send_of site true s) (sends_to true s)
        call_asks (call.Irecv r) is = transfer_asks false (receive_of site r) (receives_to r)
        call_asks (call.Start handle) is = start_asks (request_at table handle) (λ r e. to handle r e)
        call_asks _ is = absurd is

        turn_asks : (d : Doing) → MakesPost (asked_in site memory table phases d)
            → AsksTo (asked_in site memory table phases d)
        turn_asks d makes =
            let m = makes_post site memory table phases d makes in
            subst (λ x. AsksTo (asked_in site memory table phases x)) (sym m.1) (call_asks m.0 m.2)

  -- ---- the rank

  -- each open send of the rank is to a rank, and stays so
  pub to_kept : (rank : Rank) (hart stamp : ℕ) (a : Answer) → ((comm place : ℕ) → member rank.site comm place < n)
      → AreTo rank.requests → AreTo (told rank hart a stamp).requests
  to_kept rank hart stamp a ranks to =
      let part = part_of rank hart in
      subst (λ (x : Rank). AreTo x.requests) (sym (by_row rank hart a stamp))
      (keeps_row rank.site (row_at rank hart) a part
      (turn_fits rank.site ranks hart rank.memory rank.requests rank.phases to (doing rank.site part)) to)

  -- and so is the one that it asks for
  pub sends_to_rank : (rank : Rank) (hart comm dest tag : ℕ) (sync : Bool) (bytes : List ℕ)
      → ((comm place : ℕ) → member rank.site comm place < n) → AreTo rank.requests
      → asked rank hart ≡ ask.Hub (request.Send sync comm dest tag bytes) → dest < n
  unfolding asked
  sends_to_rank rank hart comm dest tag sync bytes ranks to asks =
      let d = doing rank.site (part_of rank hart) in
      let makes : MakesPost (asked_in rank.site rank.memory rank.requests rank.phases d) =
      subst MakesPost (sym asks) tt in
      subst (λ (a : Ask). AsksTo a) asks
      (turn_asks rank.site ranks hart rank.memory rank.requests rank.phases to d makes)

  pub none_open : AreTo no_requests
  none_open zero r there = absurd (cc)
  none_open (suc k) r there = absurd (let no = sym (all_none 255 k) ∙ there in cc)
    where
      all_none : (m k : ℕ) → get_or (replicate m (let o : Option OpenRequest = None in o)) k None ≡ None
      all_none zero k = refl
      all_none (suc m) zero = refl
      all_none (suc m) (suc k) = all_none m k
