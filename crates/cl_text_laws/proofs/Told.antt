-- A turn leaves the requests of its rank inside the limits.
use Rattle.std.specs.Prelude.{ℕ, zero, suc, ◌==◌, ⊤, List, [], ◌∷◌, length, slice_get, Option, Some, None, Bool, true}
use Rattle.std.specs.Prelude.{false, if◌then◌else◌, option_map, option_and_then}
use Rattle.mp_types.specs.declared.messages.Message.{Message}
use Rattle.mp_types.specs.declared.messages.Envelope.{Envelope}
use Rattle.mp_types.specs.declared.replies.Reply.{Reply}
use Rattle.mp_types.specs.declared.replies.Reply.TheVariants as reply
use Rattle.mp_request.specs.Entries.{active_with, is_persistent, remainder}
use Rattle.mp_request.specs.declared.entries.OpenRequest.{OpenRequest}
use Rattle.mp_request.specs.declared.entries.Partitions.{Partitions}
use Rattle.mp_request.specs.declared.entries.Progress.{Progress}
use Rattle.mp_request.specs.declared.entries.Progress.TheVariants as progress
use Rattle.mp_request.specs.declared.entries.Transfer.{Transfer}
use Rattle.mp_request.specs.declared.entries.Transfer.TheVariants as transfer
use Rattle.mp_request.specs.Table.{Table, completed, lowest_free, request_at, started, with_request}
use Rattle.part_phase.specs.declared.phases.Phase.{Phase}
use Rattle.part_phase.specs.Phases.{is_unshaped_receiving, is_unshaped_sending, on_receiving, on_sending, receiving_at}
use Rattle.part_phase.specs.Receiving.{is_cut, shaped_receiving}
use Rattle.part_phase.specs.Sending.{shaped_sending}
use Rattle.cl_calls.specs.declared.calls.Call.{Call}
use Rattle.cl_calls.specs.declared.calls.Call.TheVariants as call
use Rattle.cl_calls.specs.declared.calls.Claimed.{Claimed}
use Rattle.cl_calls.specs.declared.calls.Completing.{Completing}
use Rattle.cl_calls.specs.declared.calls.Partitioning.{Partitioning}
use Rattle.cl_calls.specs.declared.calls.Sending.{Sending}
use Rattle.cl_calls.specs.declared.calls.Several.{Several}
use Rattle.cl_calls.specs.declared.sites.Site.{Site}
use Rattle.cl_calls.specs.Calls.{no_message, no_rank}
use Rattle.cl_calls.specs.Checks.{checks, receiving_side, sending_side}
use Rattle.cl_calls.specs.Handles.{handles_in}
use Rattle.cl_calls.specs.Needs.{array_at, needs_of_sending, opening}
use Rattle.cl_state.specs.declared.asking.Answer.{Answer}
use Rattle.cl_state.specs.declared.asking.Answer.TheVariants as answer
use Rattle.cl_state.specs.declared.asking.Doing.{Doing}
use Rattle.cl_state.specs.declared.asking.Doing.TheVariants.{Step, Refused, Go, Poll, Stopped}
use Rattle.cl_state.specs.declared.partitions.Awaited.{Awaited}
use Rattle.cl_state.specs.declared.partitions.Awaited.TheVariants as awaited_word
use Rattle.cl_state.specs.declared.pending.Manner.{Manner}
use Rattle.cl_state.specs.declared.pending.Manner.TheVariants.{Immediate, Blocking, Polling, Posting}
use Rattle.cl_state.specs.declared.pending.Pending.{Pending}
use Rattle.cl_state.specs.declared.pending.Pending.TheVariants as pending
use Rattle.cl_state.specs.declared.pending.Target.{Target}
use Rattle.cl_state.specs.declared.row.Outcome.{Outcome}
use Rattle.cl_state.specs.declared.row.Outcome.TheVariants as outcome
use Rattle.cl_state.specs.declared.row.Purpose.{Purpose}
use Rattle.cl_state.specs.declared.row.Purpose.TheVariants as purpose
use Rattle.cl_state.specs.declared.row.Row.{Row}
use Rattle.cl_state.specs.declared.row.Row.TheVariants.{AtOnce, OnReply, OnBox}
use Rattle.cl_state.specs.declared.row.Visit.{Visit}
use Rattle.cl_state.specs.declared.row.Visit.TheVariants as visit
use Rattle.cl_state.specs.declared.row.Wanted.{Wanted}
use Rattle.cl_state.specs.declared.row.Wanted.TheVariants as wanted
use Rattle.cl_state.specs.Asked.{Part, doing, part_of}
use Rattle.cl_state.specs.Partitions.{awaited, awaited_of_part, side_on}
use Rattle.cl_state.specs.Pending.{pending_of}
use Rattle.cl_state.specs.Rank.{Rank}
use Rattle.cl_state.specs.Several.{completed_each, pendings, posts_pending}
use Rattle.cl_state.specs.Table.{begins, begins_phase, begun_outcome, completes, concludes, gathers, holds_by, polled, row_arrived}
use Rattle.cl_state.specs.Table.{row_awaited, row_completing, row_in, row_of, row_of_part, row_ready, starts, takes}
use Rattle.cl_state.specs.Told.{arrived, arrived_from, completed_all, done, found, found_at, found_nothing, freed}
use Rattle.cl_state.specs.Told.{freed_one, gathered_if, made_side_at, not_yet, opened_at, part_readied, phase_begun}
use Rattle.cl_state.specs.Told.{received, received_from, received_message, replied, seen_one, taken_one, told, told_row}
use Rattle.cl_state.specs.Told.{visited}
use Rattle.cl_state.specs.Transfers.{claimed_of, receive_of, send_of}
use Rattle.cl_state.proofs.Passed.{AllHold, HasPassed, passed}
use Rattle.cl_text_laws.proofs.Lists.{all-set}
use Rattle.cl_text_laws.proofs.Requests.{HasFewComms, open_at, receive_fits, send_fits}
use Rattle.cl_text_laws.proofs.Right.{IsRightOpen, IsRightTable, IsRightTransfer}

-- ---- one request changes

changed : (table : Table) (handle : ℕ) (o : Option OpenRequest) → IsRightTable table → IsRightOpen o
    → IsRightTable (with_request table handle o)
changed table zero o right one = right
changed table (suc place) o right one = all-set IsRightOpen table place o right one

after_start : (table : Table) (handle : ℕ) (p : Progress) → IsRightTable table → IsRightTable (started table handle p)
after_start table handle p right =
    changed table handle _ right (go (request_at table handle) (open_at table handle right))
  where
    go : (o : Option OpenRequest) → IsRightOpen o → IsRightOpen (option_map (active_with p) o)
    go None one = tt
    go (Some r) one = one

after_completion : (table : Table) (handle : ℕ) → IsRightTable table → IsRightTable (completed table handle)
after_completion table handle right =
    changed table handle _ right (go (request_at table handle) (open_at table handle right))
  where
    left : (persistent : Bool) (r now : OpenRequest) → IsRightTransfer now.transfer
        → IsRightOpen (if persistent then Some now else None)
    left true r now one = one
    left false r now one = tt

    go : (o : Option OpenRequest) → IsRightOpen o → IsRightOpen (option_and_then remainder o)
    go None one = tt
    go (Some r) one = left (is_persistent r.state) r _ one

after_completions : (handles : List ℕ) (table : Table) → IsRightTable table
    → IsRightTable (completed_each table handles)
after_completions [] table right = right
after_completions (handle ∷ handles) table right =
    after_completions handles (completed table handle) (after_completion table handle right)

-- ---- what a row may open

abbrev pub OpensRight : Outcome → Type 0
OpensRight (outcome.Opens r) = IsRightTransfer r.transfer
OpensRight _ = ⊤

abbrev pub WantsRight : Wanted → Type 0
WantsRight (wanted.Post why t) = IsRightTransfer t
WantsRight _ = ⊤

abbrev pub IsRightRow : Row → Type 0
IsRightRow (AtOnce o) = OpensRight o
IsRightRow (OnReply m w) = WantsRight w
IsRightRow (OnBox v) = ⊤

-- ---- what a row does to the requests

abbrev IsRightPart : Part → Type 0
IsRightPart part = IsRightTable part.requests

one_or : (b : Bool) (x y : Part) → IsRightPart x → IsRightPart y → IsRightPart (if b then x else y)
one_or true x y p q = p
one_or false x y p q = q

by_not_yet : (m : Manner) (part : Part) → IsRightPart part → IsRightPart (not_yet m part)
by_not_yet Immediate part right = right
by_not_yet Blocking part right = right
by_not_yet Polling part right = right
by_not_yet Posting part right = right

by_received : (target : Target) (source tag : ℕ) (bytes : List ℕ) (part : Part) → IsRightPart part
    → IsRightPart (received target source tag bytes part)
unfolding received
by_received target source tag bytes part right = after_completion part.requests target.handle right

by_from : (o : Option ℕ) (target : Target) (message : Message) (part : Part) → IsRightPart part
    → IsRightPart (received_from o target message part)
by_from None target message part right = right
by_from (Some place) target message part right =
    by_received target place message.envelope.tag message.bytes part right

by_message : (site : Site) (target : Target) (message : Message) (part : Part) → IsRightPart part
    → IsRightPart (received_message site target message part)
unfolding received_message
by_message site target message part right = by_from _ target message part right

by_opened : (o : Option ℕ) (r : OpenRequest) (part : Part) → IsRightTransfer r.transfer → IsRightPart part
    → IsRightPart (opened_at o r part)
by_opened None r part fits right = right
by_opened (Some handle) r part fits right = changed part.requests handle (Some r) right fits

by_freed : (handle : ℕ) (part : Part) → IsRightPart part → IsRightPart (freed handle part)
unfolding freed
by_freed handle part right = changed part.requests handle None right tt

by_all : (site : Site) (value statuses : ℕ) (handles : List ℕ) (gots : List (Option Message)) (part : Part)
    → IsRightPart part → IsRightPart (completed_all site value statuses handles gots part)
unfolding completed_all
by_all site value statuses handles gots part right = after_completions handles part.requests right

by_gathered : (b : Bool) (site : Site) (value statuses : ℕ) (handles : List ℕ) (gots : List (Option Message))
    (part : Part) → IsRightPart part → IsRightPart (gathered_if b site value statuses handles gots part)
by_gathered true site value statuses handles gots part right = by_all site value statuses handles gots part right
by_gathered false site value statuses handles gots part right = right

by_found : (site : Site) (value status : ℕ) (envelope : Envelope) (part : Part) → IsRightPart part
    → IsRightPart (found site value status envelope part)
unfolding found
by_found site value status envelope part right = go _
  where
    go : (o : Option ℕ) → IsRightPart (found_at o value status envelope part)
    go None = right
    go (Some place) = right

by_nothing : (value status : ℕ) (part : Part) → IsRightPart part → IsRightPart (found_nothing value status part)
unfolding found_nothing
by_nothing value status part right = right

by_phase : (handle link : ℕ) (part : Part) → IsRightPart part → IsRightPart (phase_begun handle link part)
unfolding phase_begun
by_phase handle link part right = after_start part.requests handle progress.InPhase right

by_side : (o : Option ℕ) (t : Transfer) (link : ℕ) (shape : Phase → Phase) (part : Part) → IsRightTransfer t
    → IsRightPart part → IsRightPart (made_side_at o t link shape part)
by_side None t link shape part fits right = right
by_side (Some handle) t link shape part fits right = changed part.requests handle _ right fits

by_arrived : (site : Site) (side : Partitions) (target : Target) (part : Part) → IsRightPart part
    → IsRightPart (arrived site side target part)
unfolding arrived
by_arrived site side target part right = go _
  where
    go : (o : Option ℕ) → IsRightPart (arrived_from o side target part)
    go None = right
    go (Some place) = after_completion part.requests target.handle right

by_begun : (site : Site) (why : Purpose) (t : Transfer) (p : Progress) (part : Part) → IsRightTransfer t
    → IsRightPart part → IsRightPart (done site (begun_outcome why t p) part)
by_begun site purpose.Send t progress.Finished part fits right = right
by_begun site purpose.Send t (progress.Sent post) part fits right = right
by_begun site purpose.Send t (progress.OnPost post) part fits right = right
by_begun site purpose.Send t progress.InPhase part fits right = right
by_begun site purpose.Open t p part fits right = by_opened (lowest_free part.requests) _ part fits right
by_begun site (purpose.Start handle) t p part fits right = after_start part.requests handle p right

by_done : (site : Site) (o : Outcome) (part : Part) → OpensRight o → IsRightPart part → IsRightPart (done site o part)
by_done site outcome.Steps part fits right = right
by_done site outcome.Stays part fits right = right
by_done site (outcome.Exits value) part fits right = right
by_done site (outcome.Ends c value) part fits right = right
by_done site (outcome.Waits post) part fits right = right
by_done site (outcome.Puts buffer count) part fits right = right
by_done site (outcome.Opens r) part fits right = by_opened (lowest_free part.requests) r part fits right
by_done site (outcome.Starts handle p) part fits right = after_start part.requests handle p right
by_done site (outcome.Frees handle) part fits right = by_freed handle part right
by_done site (outcome.Completes source target) part fits right = by_received target source _ [] part right
by_done site (outcome.FindsNothing value status) part fits right = by_nothing value status part right
by_done site (outcome.BeginsPhase handle link) part fits right = by_phase handle link part right
by_done site outcome.Holds part fits right = right
by_done site (outcome.Arrives side target) part fits right = by_arrived site side target part right
by_done site (outcome.CompletesAll value s) part fits right = by_all site value s.statuses _ [] part right

-- ---- replies

module _ (site : Site) (part : Part) (right : IsRightPart part) where
  on_post : (why : Purpose) (t : Transfer) (r : Reply) → IsRightTransfer t
      → IsRightPart (replied site (wanted.Post why t) r part)
  on_post why t (reply.Posted post paired) fits = by_begun site why t _ part fits right
  on_post why t _ fits = right

  on_message_or_post : (target : Target) (r : Reply) → IsRightPart (replied site (wanted.MessageOrPost target) r part)
  on_message_or_post target (reply.Got message) = by_message site target message part right
  on_message_or_post target _ = right

  on_message : (target : Target) (r : Reply) → IsRightPart (replied site (wanted.Message target) r part)
  on_message target (reply.Got message) = by_message site target message part right
  on_message target _ = right

  on_word : (target : Target) (r : Reply) → IsRightPart (replied site (wanted.Word target) r part)
  on_word target reply.Done = by_received target _ _ _ part right
  on_word target _ = right

  on_sent : (r : Reply) → IsRightPart (replied site wanted.Sent r part)
  on_sent reply.Done = right
  on_sent _ = right

  on_all : (value : ℕ) (s : Several) (r : Reply) → IsRightPart (replied site (wanted.All value s) r part)
  on_all value s (reply.AllGot gots) = by_gathered _ site value s.statuses _ gots part right
  on_all value s _ = right

  on_sight : (value status : ℕ) (r : Reply) → IsRightPart (replied site (wanted.Sight value status) r part)
  on_sight value status (reply.Seen envelope) = by_found site value status envelope part right
  on_sight value status _ = right

  on_claim : (status : ℕ) (r : Reply) → IsRightPart (replied site (wanted.Claim status) r part)
  on_claim status (reply.Held message envelope) = by_found site message status envelope part right
  on_claim status _ = right

  on_sending_link : (t : Partitioning) (r : Reply) → IsRightPart (replied site (wanted.SendingLink t) r part)
  on_sending_link t (reply.Link link) =
      one_or (is_unshaped_sending (slice_get part.phases link)) _ _
      (by_side (lowest_free part.requests) (transfer.SendPartitions (side_on site t link)) link
      (on_sending (shaped_sending t.parts t.size)) part tt right)
      right
  on_sending_link t _ = right

  on_receiving_link : (t : Partitioning) (r : Reply) → IsRightPart (replied site (wanted.ReceivingLink t) r part)
  on_receiving_link t (reply.Link link) =
      one_or (is_unshaped_receiving (slice_get part.phases link)) _ _
      (by_side (lowest_free part.requests) (transfer.ReceivePartitions (side_on site t link)) link
      (on_receiving (shaped_receiving t.parts t.size)) part tt right)
      right
  on_receiving_link t _ = right

  on_cut : (m : Manner) (link : ℕ) (r : Reply) → IsRightPart (replied site (wanted.Cut m link) r part)
  on_cut m link (reply.Cut boxes bytes) =
      one_or (is_cut site.version (receiving_at part.phases link) boxes bytes) _ _ (by_not_yet m _ right) right
  on_cut m link _ = right

  on_nothing : (r : Reply) → IsRightPart (replied site wanted.Nothing r part)
  on_nothing _ = right

  on_reply : (w : Wanted) (r : Reply) → WantsRight w → IsRightPart (replied site w r part)
  on_reply (wanted.Post why t) r fits = on_post why t r fits
  on_reply (wanted.MessageOrPost target) r fits = on_message_or_post target r
  on_reply (wanted.Message target) r fits = on_message target r
  on_reply (wanted.Word target) r fits = on_word target r
  on_reply wanted.Sent r fits = on_sent r
  on_reply (wanted.All value s) r fits = on_all value s r
  on_reply (wanted.Sight value status) r fits = on_sight value status r
  on_reply (wanted.Claim status) r fits = on_claim status r
  on_reply (wanted.SendingLink t) r fits = on_sending_link t r
  on_reply (wanted.ReceivingLink t) r fits = on_receiving_link t r
  on_reply (wanted.Cut m link) r fits = on_cut m link r
  on_reply wanted.Nothing r fits = on_nothing r

  -- ---- boxes

  on_readied : (link ready : ℕ) → IsRightPart (part_readied link ready part)
  unfolding part_readied
  on_readied link ready = right

  on_freed : (m : Manner) (link : ℕ) (target : Target) → IsRightPart (freed_one m link target part)
  unfolding freed_one
  on_freed m link target = one_or _ _ _ (by_received target _ _ _ _ right) (by_not_yet m _ right)

  on_taken : (m : Manner) (side : Partitions) (box : ℕ) (target : Target) (bytes : List ℕ)
      → IsRightPart (taken_one site m side box target bytes part)
  unfolding taken_one
  on_taken m side box target bytes = one_or _ _ _ (by_not_yet m _ right) (by_arrived site side target _ right)

  on_seen : (side : Partitions) (box asked : ℕ) (bytes : List ℕ) → IsRightPart (seen_one side box asked bytes part)
  unfolding seen_one
  on_seen side box asked bytes = right

  on_visit : (v : Visit) (a : Answer) → IsRightPart (visited site v a part)
  on_visit (visit.Readies link ready) answer.Alone = on_readied link ready
  on_visit (visit.Readies link ready) _ = right
  on_visit (visit.Frees m link target) answer.Freed = on_freed m link target
  on_visit (visit.Frees m link target) answer.Missed = by_not_yet m part right
  on_visit (visit.Frees m link target) _ = right
  on_visit (visit.Takes m side box target) (answer.Taken bytes) = on_taken m side box target bytes
  on_visit (visit.Takes m side box target) answer.Missed = by_not_yet m part right
  on_visit (visit.Takes m side box target) _ = right
  on_visit (visit.Sees side box asked) (answer.Taken bytes) = on_seen side box asked bytes
  on_visit (visit.Sees side box asked) answer.Missed = right
  on_visit (visit.Sees side box asked) _ = right

  -- ---- any row

  on_row : (row : Row) (a : Answer) → IsRightRow row → IsRightPart (told_row site row a part)
  on_row (AtOnce o) a fits = by_done site o part fits right
  on_row (OnBox v) a fits = on_visit v a
  on_row (OnReply m w) (answer.Reply reply.NotYet) fits = by_not_yet m part right
  on_row (OnReply m w) (answer.Reply (reply.Code c)) fits = right
  on_row (OnReply m w) (answer.Reply (reply.Posted post paired)) fits = on_reply w (reply.Posted post paired) fits
  on_row (OnReply m w) (answer.Reply (reply.Got message)) fits = on_reply w (reply.Got message) fits
  on_row (OnReply m w) (answer.Reply reply.Done) fits = on_reply w reply.Done fits
  on_row (OnReply m w) (answer.Reply (reply.Seen envelope)) fits = on_reply w (reply.Seen envelope) fits
  on_row (OnReply m w) (answer.Reply (reply.Held message envelope)) fits =
      on_reply w (reply.Held message envelope) fits
  on_row (OnReply m w) (answer.Reply (reply.AllGot gots)) fits = on_reply w (reply.AllGot gots) fits
  on_row (OnReply m w) (answer.Reply (reply.Link link)) fits = on_reply w (reply.Link link) fits
  on_row (OnReply m w) (answer.Reply (reply.Cut boxes bytes)) fits = on_reply w (reply.Cut boxes bytes) fits
  on_row (OnReply m w) answer.Alone fits = right
  on_row (OnReply m w) (answer.Taken bytes) fits = right
  on_row (OnReply m w) answer.Missed fits = right
  on_row (OnReply m w) answer.Freed fits = right

-- ---- the rows of calls that passed their checks

row_or : (b : Bool) (x y : Row) → IsRightRow x → IsRightRow y → IsRightRow (if b then x else y)
row_or true x y p q = p
row_or false x y p q = q

begun_right : (why : Purpose) (t : Transfer) (p : Progress) → IsRightTransfer t → OpensRight (begun_outcome why t p)
begun_right purpose.Send t progress.Finished fits = tt
begun_right purpose.Send t (progress.Sent post) fits = tt
begun_right purpose.Send t (progress.OnPost post) fits = tt
begun_right purpose.Send t progress.InPhase fits = tt
begun_right purpose.Open t p fits = fits
begun_right (purpose.Start handle) t p fits = tt

phase_right : (why : Purpose) (link : ℕ) → IsRightRow (begins_phase why link)
phase_right purpose.Send link = tt
phase_right purpose.Open link = tt
phase_right (purpose.Start handle) link = tt

begins_right : (why : Purpose) (t : Transfer) → IsRightTransfer t → IsRightRow (begins why t)
begins_right why transfer.SendToNull fits = begun_right why transfer.SendToNull progress.Finished fits
begins_right why transfer.ReceiveFromNull fits = begun_right why transfer.ReceiveFromNull progress.Finished fits
begins_right why (transfer.SendPartitions side) fits = phase_right why side.link
begins_right why (transfer.ReceivePartitions side) fits = phase_right why side.link
begins_right why (transfer.Send sync buffer count dest tag comm) fits = fits
begins_right why (transfer.Receive buffer capacity source tag comm) fits = fits
begins_right why (transfer.ReceiveClaimed buffer capacity) fits = fits

starts_right : (handle : ℕ) (o : Option OpenRequest) → IsRightOpen o → IsRightRow (starts handle o)
starts_right handle None fits = tt
starts_right handle (Some r) fits = begins_right (purpose.Start handle) r.transfer fits

claimed_right : (m : Claimed) → IsRightTransfer (claimed_of m)
claimed_right m = go (m.message == no_message)
  where
    go : (null : Bool)
        → IsRightTransfer (if null then transfer.ReceiveFromNull else transfer.ReceiveClaimed m.buffer m.capacity)
    go true = tt
    go false = tt

completes_right : (m : Manner) (c : Completing) (p : Pending) → IsRightRow (completes m c p)
completes_right m c pending.Nothing = tt
completes_right m c pending.FromNull = tt
completes_right m c (pending.Message post buffer capacity) = tt
completes_right m c (pending.Word post) = tt

concludes_right : (t : Transfer) (target : Target) → OpensRight (concludes t target)
concludes_right (transfer.ReceivePartitions side) target = tt
concludes_right _ target = tt

holds_right : (m : Manner) → OpensRight (holds_by m)
holds_right Immediate = tt
holds_right _ = tt

takes_right : (m : Manner) (t : Transfer) (box : ℕ) (target : Target) → IsRightRow (takes m t box target)
takes_right m (transfer.ReceivePartitions side) box target = tt
takes_right m _ box target = tt

awaited_right : (m : Manner) (t : Transfer) (target : Target) (a : Awaited) → IsRightRow (row_awaited m t target a)
awaited_right m t target awaited_word.Nothing = concludes_right t target
awaited_right m t target awaited_word.Unready = holds_right m
awaited_right m t target (awaited_word.Taking link part) = tt
awaited_right m t target (awaited_word.Cut link) = tt
awaited_right m t target (awaited_word.Box link box) = takes_right m t box target

completing_right : (m : Manner) (c : Completing) (a : Option Awaited) (o : Option OpenRequest)
    → IsRightRow (row_completing m c a o)
completing_right m c None o = completes_right m c (pending_of o)
completing_right m c (Some a) None = completes_right m c pending.Nothing
completing_right m c (Some a) (Some r) = awaited_right m r.transfer _ a

gathers_right : (m : Manner) (s : Several) (posts : List ℕ) → IsRightRow (gathers m s posts)
gathers_right m s [] = tt
gathers_right m s (post ∷ posts) = tt

ready_right : (part : ℕ) (o : Option Partitions) → IsRightRow (row_ready part o)
ready_right part None = tt
ready_right part (Some side) = tt

arrived_right : (phases : List Phase) (part : ℕ) (o : Option Partitions) → IsRightRow (row_arrived phases part o)
arrived_right phases part None = tt
arrived_right phases part (Some side) = go (awaited_of_part side.link (receiving_at phases side.link) part)
  where
    go : (a : Awaited) → IsRightRow (row_of_part side part a)
    go (awaited_word.Cut link) = tt
    go (awaited_word.Box link box) = tt
    go _ = tt

polled_right : (c : Call) → WantsRight (polled c)
polled_right (call.Recv r status) = tt
polled_right (call.Mrecv m status) = tt
polled_right (call.Ssend s) = tt
polled_right _ = tt

module _ (site : Site) (hart : ℕ) (part : Part) (few : HasFewComms site) (right : IsRightTable part.requests) where
  sent : (sync : Bool) (s : Sending)
      → AllHold (checks site part.memory part.requests part.phases (length part.out) (needs_of_sending s))
      → IsRightTransfer (send_of site sync s)
  sent sync s passed =
      send_fits site sync s few passed.1.1.1.1.0 passed.1.1.1.1.1.1.0 passed.1.1.1.1.1.1.1.1.0

  opened_sent : (sync : Bool) (s : Sending)
      → AllHold (checks site part.memory part.requests part.phases (length part.out) (opening (needs_of_sending s)))
      → IsRightTransfer (send_of site sync s)
  opened_sent sync s passed =
      send_fits site sync s few passed.1.1.1.1.0 passed.1.1.1.1.1.1.0 passed.1.1.1.1.1.1.1.1.0

  call_right : (c : Call) → HasPassed site part (Go c)
      → IsRightRow (row_of site hart part.memory part.requests part.phases c)
  call_right (call.Send s) passed = begins_right purpose.Send (send_of site false s) (sent false s passed)
  call_right (call.Ssend s) passed = begins_right purpose.Send (send_of site true s) (sent true s passed)
  call_right (call.Isend s) passed = begins_right purpose.Open (send_of site false s) (opened_sent false s passed)
  call_right (call.Issend s) passed = begins_right purpose.Open (send_of site true s) (opened_sent true s passed)
  call_right (call.SendInit s) passed = opened_sent false s passed
  call_right (call.Recv r status) passed = row_or (r.source == no_rank) _ _ tt tt
  call_right (call.Irecv r) passed = begins_right purpose.Open (receive_of site r) (receive_fits site r)
  call_right (call.RecvInit r) passed = receive_fits site r
  call_right (call.Test c) passed =
      completing_right Immediate c (awaited part.phases (request_at part.requests c.handle))
      (request_at part.requests c.handle)
  call_right (call.Wait c) passed =
      completing_right Blocking c (awaited part.phases (request_at part.requests c.handle))
      (request_at part.requests c.handle)
  call_right (call.Iprobe p) passed = row_or (p.source == no_rank) _ _ tt tt
  call_right (call.Probe p) passed = row_or (p.source == no_rank) _ _ tt tt
  call_right (call.Improbe p) passed = row_or (p.source == no_rank) _ _ tt tt
  call_right (call.Mprobe p) passed = row_or (p.source == no_rank) _ _ tt tt
  call_right (call.Imrecv m) passed = begins_right purpose.Open (claimed_of m) (claimed_right m)
  call_right (call.Mrecv m status) passed = row_or (m.message == no_message) _ _ tt tt
  call_right (call.Start handle) passed =
      starts_right handle (request_at part.requests handle) (open_at part.requests handle right)
  call_right (call.Testall s) passed =
      gathers_right Immediate s (posts_pending (pendings part.requests (handles_in part.memory (array_at s.array s.count))))
  call_right (call.Waitall s) passed =
      gathers_right Blocking s (posts_pending (pendings part.requests (handles_in part.memory (array_at s.array s.count))))
  call_right (call.Pready handle ready) passed = ready_right ready (sending_side (request_at part.requests handle))
  call_right (call.Parrived handle asked) passed =
      arrived_right part.phases asked (receiving_side (request_at part.requests handle))
  call_right _ passed = tt

  turn_right : (d : Doing) → HasPassed site part d
      → IsRightRow (row_in site hart part.memory part.requests part.phases d)
  turn_right Step passed = tt
  turn_right (Refused c) passed = tt
  turn_right (Go c) passed = call_right c passed
  turn_right (Poll c post) passed = polled_right c
  turn_right Stopped passed = tt

-- after a turn
pub told_right : (rank : Rank) (hart : ℕ) (a : Answer) (stamp : ℕ) → HasFewComms rank.site
    → IsRightTable rank.requests → IsRightTable (told rank hart a stamp).requests
unfolding told
told_right rank hart a stamp few right =
    let part = part_of rank hart in
    on_row rank.site part right (row_in rank.site hart rank.memory rank.requests rank.phases (doing rank.site part)) a
    (turn_right rank.site hart part few right (doing rank.site part) (passed rank.site part))
