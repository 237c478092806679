-- What a rank is told where synchronous sends that have a receive are complete: it does the same with it.
use Rattle.std.proofs.Common.{◌≡◌, ◌∙◌, ℕ, refl, sym, ap, Bool, true, false, List, [], ◌∷◌, Option, Some, None}
use Rattle.std.specs.Prelude.{if◌then◌else◌}
use Rattle.std.specs.List.{slice_get}
use Rattle.rv_memory.specs.Memory.{Memory}
use Rattle.rv_hart.specs.State.{State}
use Rattle.mp_types.specs.declared.codes.Code.{Code}
use Rattle.mp_types.specs.declared.codes.Code.TheVariants as code
use Rattle.mp_types.specs.declared.messages.Envelope.{Envelope}
use Rattle.mp_types.specs.declared.messages.Message.{Message}
use Rattle.mp_types.specs.declared.replies.Reply.{Reply}
use Rattle.mp_types.specs.declared.replies.Reply.TheVariants as reply
use Rattle.mp_request.specs.declared.entries.OpenRequest.{OpenRequest}
use Rattle.mp_request.specs.declared.entries.Partitions.{Partitions}
use Rattle.mp_request.specs.declared.entries.Progress.TheVariants as progress
use Rattle.mp_request.specs.declared.entries.State.TheVariants as state
use Rattle.mp_request.specs.declared.entries.Transfer.{Transfer}
use Rattle.mp_request.specs.declared.entries.Transfer.TheVariants as transfer
use Rattle.mp_request.specs.Table.{Table, completed, lowest_free, with_request}
use Rattle.part_phase.specs.declared.phases.Phase.{Phase}
use Rattle.part_phase.specs.Phases.{changed_at, is_unshaped_receiving, is_unshaped_sending, on_receiving, on_sending, receiving_at, sending_at}
use Rattle.part_phase.specs.Receiving.{cut_into, is_cut}
use Rattle.part_phase.specs.Sending.{all_freed, one_freed}
use Rattle.cl_calls.specs.declared.calls.Partitioning.{Partitioning}
use Rattle.cl_calls.specs.declared.sites.Site.{Site}
use Rattle.cl_calls.specs.Site.{members, position_of}
use Rattle.cl_calls.specs.Calls.{any}
use Rattle.cl_calls.specs.Handles.{handles_in}
use Rattle.cl_calls.specs.Needs.{array_at}
use Rattle.cl_state.specs.declared.asking.Answer.{Answer}
use Rattle.cl_state.specs.declared.asking.Answer.TheVariants as answer
use Rattle.cl_state.specs.declared.pending.Manner.{Manner}
use Rattle.cl_state.specs.declared.pending.Manner.TheVariants.{Immediate, Blocking, Posting, Polling}
use Rattle.cl_state.specs.declared.pending.Target.{Target}
use Rattle.cl_state.specs.declared.row.Purpose.TheVariants as purpose
use Rattle.cl_state.specs.declared.row.Outcome.{Outcome}
use Rattle.cl_state.specs.declared.row.Outcome.TheVariants as outcome
use Rattle.cl_state.specs.declared.row.Purpose.{Purpose}
use Rattle.cl_state.specs.declared.row.Row.{Row}
use Rattle.cl_state.specs.declared.row.Row.TheVariants.{AtOnce, OnReply, OnBox}
use Rattle.cl_state.specs.declared.row.Visit.{Visit}
use Rattle.cl_state.specs.declared.row.Visit.TheVariants as visit
use Rattle.cl_state.specs.declared.row.Wanted.{Wanted}
use Rattle.cl_state.specs.declared.row.Wanted.TheVariants as wanted
use Rattle.cl_state.specs.Asked.{Part}
use Rattle.cl_state.specs.Several.{are_fit, code_of, completed_each, given, pendings, with_all_bytes, with_statuses}
use Rattle.cl_state.specs.Table.{begun_outcome}
use Rattle.cl_state.specs.Told.{arrived, arrived_from, completed_all, cut_known, done, ended, found, found_at, found_nothing, freed, freed_one, gathered, gathered_if, made_receiving, made_sending, made_side_at, not_yet, opened, opened_at, part_readied, phase_begun, received, received_from, received_message, replied, seen_one, taken_one, told_row, visited, with_taken_box}
use Rattle.cl_state.specs.Transfers.{posted}
use Rattle.std.specs.Prelude.{cond}
use Rattle.mp_request.specs.declared.entries.Progress.{Progress}
use Rattle.cl_way_laws.specs.Met.{met_open, met_progress, met_table}
use Rattle.cl_way_laws.proofs.MetAsks.{AllNeedSame, met_part}
use Rattle.cl_way_laws.proofs.MetTables.{completed_met, free_met, started_met, with_met}

-- the part with these
abbrev part_with : State → Memory → Table → List Phase → List ℕ → Part
part_with hart memory requests phases out =
    record { hart = hart; memory = memory; requests = requests; phases = phases; out = out }

module _ (d : ℕ → Bool) where
  -- the same where they are complete
  abbrev Named : (Part → Part) → Part → Type 0
  Named f part = f (met_part d part) ≡ met_part d (f part)

  ended_by : (c : Code) (v : ℕ) (part : Part) → Named (ended c v) part
  ended_by c v part = refl

  -- a call ends with other requests
  pub ends_with : (c : Code) (v : ℕ) (hart : State) (memory : Memory) (t u : Table) (phases : List Phase) (out : List ℕ)
      → t ≡ met_table d u
      → ended c v (part_with hart memory t phases out)
      ≡ met_part d (ended c v (part_with hart memory u phases out))
  ends_with c v hart memory t u phases out same =
      ap (λ x. ended c v (part_with hart memory x phases out)) same
      ∙ ended_by c v (part_with hart memory u phases out)

  if_by : (b : Bool) (x y z w : Part) → x ≡ met_part d z → y ≡ met_part d w
      → (if b then x else y) ≡ met_part d (if b then z else w)
  if_by true x y z w e f = e
  if_by false x y z w e f = f

  not_yet_by : (m : Manner) (part : Part) → Named (not_yet m) part
  not_yet_by Immediate part = ended_by code.Ok 0 part
  not_yet_by Blocking part = refl
  not_yet_by Polling part = refl
  not_yet_by Posting part = ended_by code.BadRequest 0 part

  -- ---- messages

  pub received_by : (target : Target) (source tag : ℕ) (bytes : List ℕ) (part : Part)
      → Named (received target source tag bytes) part
  unfolding received
  received_by target source tag bytes part =
      ends_with _ target.value part.hart _ _ _ part.phases part.out (completed_met d part.requests target.handle)

  from_by : (o : Option ℕ) (target : Target) (message : Message) (part : Part)
      → Named (received_from o target message) part
  from_by None target message part = ended_by code.BadRequest 0 part
  from_by (Some place) target message part = received_by target place message.envelope.tag message.bytes part

  message_by : (site : Site) (target : Target) (message : Message) (part : Part)
      → Named (received_message site target message) part
  unfolding received_message
  message_by site target message part =
      from_by (position_of message.envelope.source (members site message.envelope.comm)) target message part

  -- a request that is opened is one that is complete
  pub opens_by : (r other : OpenRequest) (part : Part) → met_open d r ≡ other
      → opened other (met_part d part) ≡ met_part d (opened r part)
  opens_by r other part same =
      ap (λ o. opened_at o other (met_part d part)) (free_met d part.requests) ∙ go (lowest_free part.requests)
    where
      go : (o : Option ℕ) → opened_at o other (met_part d part) ≡ met_part d (opened_at o r part)
      go None = ended_by code.Full 0 part
      go (Some handle) =
          ends_with code.Ok handle part.hart part.memory _ _ part.phases part.out
          (ap (λ x. with_request (met_table d part.requests) handle (Some x)) (sym same)
          ∙ with_met d part.requests handle (Some r))

  opened_by : (r : OpenRequest) (part : Part) → met_open d r ≡ r → Named (opened r) part
  opened_by r part same = opens_by r r part same

  freed_by : (handle : ℕ) (part : Part) → Named (freed handle) part
  unfolding freed
  freed_by handle part =
      ends_with code.Ok 0 part.hart part.memory _ _ part.phases part.out (with_met d part.requests handle None)

  -- ---- several requests

  each_by : (table : Table) (handles : List ℕ)
      → completed_each (met_table d table) handles ≡ met_table d (completed_each table handles)
  each_by table [] = refl
  each_by table (h ∷ handles) =
      ap (λ t. completed_each t handles) (completed_met d table h) ∙ each_by (completed table h) handles

  -- where each is given the same
  pub completes_by : (site : Site) (value statuses : ℕ) (handles : List ℕ) (gots others : List (Option Message)) (part : Part)
      → given site (pendings (met_table d part.requests) handles) others ≡ given site (pendings part.requests handles) gots
      → completed_all site value statuses handles others (met_part d part)
      ≡ met_part d (completed_all site value statuses handles gots part)
  unfolding completed_all
  completes_by site value statuses handles gots others part same =
      let gs = given site (pendings part.requests handles) gots in
      ap (λ gs. ended (code_of gs) value
      (part_with part.hart (with_statuses (with_all_bytes part.memory gs) statuses gs)
      (completed_each (met_table d part.requests) handles) part.phases part.out)) same
      ∙ ends_with (code_of gs) value part.hart (with_statuses (with_all_bytes part.memory gs) statuses gs) _ _ part.phases
      part.out (each_by part.requests handles)

  pub gathers_by : (b : Bool) (site : Site) (value statuses : ℕ) (handles : List ℕ) (gots others : List (Option Message))
      (part : Part)
      → given site (pendings (met_table d part.requests) handles) others ≡ given site (pendings part.requests handles) gots
      → gathered_if b site value statuses handles others (met_part d part)
      ≡ met_part d (gathered_if b site value statuses handles gots part)
  gathers_by true site value statuses handles gots others part same =
      completes_by site value statuses handles gots others part same
  gathers_by false site value statuses handles gots others part same = ended_by code.BadRequest 0 part

  all_by : (site : Site) (value statuses : ℕ) (handles : List ℕ) (gots : List (Option Message)) (part : Part)
      → AllNeedSame d part.requests handles
      → Named (completed_all site value statuses handles gots) part
  all_by site value statuses handles gots part same =
      completes_by site value statuses handles gots gots part (ap (λ ps. given site ps gots) same)

  gathered_by : (site : Site) (value statuses : ℕ) (handles : List ℕ) (gots : List (Option Message)) (part : Part)
      → AllNeedSame d part.requests handles
      → Named (gathered site value statuses handles gots) part
  gathered_by site value statuses handles gots part same =
      ap (λ b. gathered_if b site value statuses handles gots (met_part d part))
      (ap (λ ps. are_fit site ps gots) same)
      ∙ gathers_by (are_fit site (pendings part.requests handles) gots) site value statuses handles gots gots part
      (ap (λ ps. given site ps gots) same)

  -- ---- probes

  found_at_by : (o : Option ℕ) (value status : ℕ) (envelope : Envelope) (part : Part)
      → Named (found_at o value status envelope) part
  found_at_by None value status envelope part = ended_by code.BadRequest 0 part
  found_at_by (Some place) value status envelope part =
      ends_with code.Ok value part.hart _ _ _ part.phases part.out refl

  found_by : (site : Site) (value status : ℕ) (envelope : Envelope) (part : Part)
      → Named (found site value status envelope) part
  unfolding found
  found_by site value status envelope part =
      found_at_by (position_of envelope.source (members site envelope.comm)) value status envelope part

  nothing_by : (value status : ℕ) (part : Part) → Named (found_nothing value status) part
  unfolding found_nothing
  nothing_by value status part = ends_with code.Ok value part.hart _ _ _ part.phases part.out refl

  -- ---- partitions

  side_by : (o : Option ℕ) (t : Transfer) (link : ℕ) (shape : Phase → Phase) (part : Part)
      → Named (made_side_at o t link shape) part
  side_by None t link shape part = ended_by code.Full 0 part
  side_by (Some handle) t link shape part =
      ends_with code.Ok handle part.hart part.memory _ _ _ part.out
      (with_met d part.requests handle (Some (record { transfer = t; state = state.Inactive })))

  side_free : (t : Transfer) (link : ℕ) (shape : Phase → Phase) (part : Part)
      → made_side_at (lowest_free (met_table d part.requests)) t link shape (met_part d part)
      ≡ met_part d (made_side_at (lowest_free part.requests) t link shape part)
  side_free t link shape part =
      ap (λ o. made_side_at o t link shape (met_part d part)) (free_met d part.requests)
      ∙ side_by (lowest_free part.requests) t link shape part

  sending_by : (site : Site) (t : Partitioning) (link : ℕ) (part : Part) → Named (made_sending site t link) part
  sending_by site t link part =
      if_by (is_unshaped_sending (slice_get part.phases link)) _ _ _ _ (side_free _ link _ part)
      (ended_by code.BadRequest 0 part)

  receiving_by : (site : Site) (t : Partitioning) (link : ℕ) (part : Part) → Named (made_receiving site t link) part
  receiving_by site t link part =
      if_by (is_unshaped_receiving (slice_get part.phases link)) _ _ _ _ (side_free _ link _ part)
      (ended_by code.BadRequest 0 part)

  cut_by : (site : Site) (m : Manner) (link boxes bytes : ℕ) (part : Part)
      → Named (cut_known site m link boxes bytes) part
  cut_by site m link boxes bytes part =
      if_by (is_cut site.version (receiving_at part.phases link) boxes bytes) _ _ _ _
      (not_yet_by m (part_with part.hart part.memory part.requests
      (changed_at link (on_receiving (cut_into boxes bytes)) part.phases) part.out))
      (ended_by code.BadRequest 0 part)

  in_phase : (u : Transfer) → met_progress d u progress.InPhase ≡ progress.InPhase
  in_phase (transfer.Send sync buffer count dest tag comm) = refl
  in_phase transfer.SendToNull = refl
  in_phase transfer.ReceiveFromNull = refl
  in_phase (transfer.Receive buffer capacity source tag comm) = refl
  in_phase (transfer.ReceiveClaimed buffer capacity) = refl
  in_phase (transfer.SendPartitions side) = refl
  in_phase (transfer.ReceivePartitions side) = refl

  begun_by : (handle link : ℕ) (part : Part) → Named (phase_begun handle link) part
  unfolding phase_begun
  begun_by handle link part =
      ends_with code.Ok 0 part.hart part.memory _ _ _ part.out
      (started_met d part.requests handle progress.InPhase in_phase)

  readied_by : (link ready : ℕ) (part : Part) → Named (part_readied link ready) part
  unfolding part_readied
  readied_by link ready part = ends_with code.Ok 0 part.hart part.memory _ _ _ part.out refl

  arrived_from_by : (o : Option ℕ) (side : Partitions) (target : Target) (part : Part)
      → Named (arrived_from o side target) part
  arrived_from_by None side target part = ended_by code.BadRequest 0 part
  arrived_from_by (Some place) side target part =
      ends_with code.Ok target.value part.hart _ _ _ part.phases part.out
      (completed_met d part.requests target.handle)

  arrived_by : (site : Site) (side : Partitions) (target : Target) (part : Part) → Named (arrived site side target) part
  unfolding arrived
  arrived_by site side target part =
      arrived_from_by (position_of side.peer (members site side.comm)) side target part

  freed_one_by : (m : Manner) (link : ℕ) (target : Target) (part : Part) → Named (freed_one m link target) part
  unfolding freed_one
  freed_one_by m link target part =
      let after = part_with part.hart part.memory part.requests (changed_at link (on_sending one_freed) part.phases)
      part.out in
      if_by (all_freed (sending_at after.phases link)) _ _ _ _ (received_by target any any [] after)
      (not_yet_by m after)

  taken_one_by : (site : Site) (m : Manner) (side : Partitions) (box : ℕ) (target : Target) (bytes : List ℕ)
      (part : Part)
      → Named (taken_one site m side box target bytes) part
  unfolding taken_one
  taken_one_by site m side box target bytes part =
      let after = with_taken_box side box bytes part in
      if_by (receiving_at after.phases side.link).active _ _ _ _ (not_yet_by m after)
      (arrived_by site side target after)

  seen_one_by : (side : Partitions) (box asked : ℕ) (bytes : List ℕ) (part : Part)
      → Named (seen_one side box asked bytes) part
  unfolding seen_one
  seen_one_by side box asked bytes part = ended_by code.Ok _ (with_taken_box side box bytes part)

  -- ---- a turn

  abbrev pub IsFixed : Memory → Table → Outcome → Type 0
  IsFixed memory table (outcome.Opens r) = met_open d r ≡ r
  IsFixed memory table (outcome.Starts handle p) = (t : Transfer) → met_progress d t p ≡ p
  IsFixed memory table (outcome.CompletesAll value s) = AllNeedSame d table
      (handles_in memory (array_at s.array s.count))
  IsFixed memory table _ = Unit {0}

  done_by : (site : Site) (o : Outcome) (part : Part) → IsFixed part.memory part.requests o → Named (done site o) part
  done_by site outcome.Steps part fixed = refl
  done_by site outcome.Stays part fixed = refl
  done_by site (outcome.Exits value) part fixed = refl
  done_by site (outcome.Ends c value) part fixed = ended_by c value part
  done_by site (outcome.Waits post) part fixed = refl
  done_by site (outcome.Puts buffer count) part fixed = ends_with code.Ok 0 part.hart part.memory _ _ part.phases _ refl
  done_by site (outcome.Opens r) part fixed = opened_by r part fixed
  done_by site (outcome.Starts handle p) part fixed =
      ends_with code.Ok 0 part.hart part.memory _ _ part.phases part.out (started_met d part.requests handle p fixed)
  done_by site (outcome.Frees handle) part fixed = freed_by handle part
  done_by site (outcome.Completes source target) part fixed = received_by target source any [] part
  done_by site (outcome.FindsNothing value status) part fixed = nothing_by value status part
  done_by site (outcome.BeginsPhase handle link) part fixed = begun_by handle link part
  done_by site outcome.Holds part fixed = refl
  done_by site (outcome.Arrives side target) part fixed = arrived_by site side target part
  done_by site (outcome.CompletesAll value s) part fixed =
      all_by site value s.statuses (handles_in part.memory (array_at s.array s.count)) [] part fixed

  -- ---- posts

  -- the answer tells of no send that has its receive
  abbrev pub Unmet : Answer → Type 0
  Unmet (answer.Reply (reply.Posted post paired)) = d post ≡ false
  Unmet _ = Unit {0}

  finished_kept : (u : Transfer) → met_progress d u progress.Finished ≡ progress.Finished
  finished_kept (transfer.Send sync buffer count dest tag comm) = refl
  finished_kept transfer.SendToNull = refl
  finished_kept transfer.ReceiveFromNull = refl
  finished_kept (transfer.Receive buffer capacity source tag comm) = refl
  finished_kept (transfer.ReceiveClaimed buffer capacity) = refl
  finished_kept (transfer.SendPartitions side) = refl
  finished_kept (transfer.ReceivePartitions side) = refl

  sent_kept : (post : ℕ) (u : Transfer) → met_progress d u (progress.Sent post) ≡ progress.Sent post
  sent_kept post (transfer.Send sync buffer count dest tag comm) = refl
  sent_kept post transfer.SendToNull = refl
  sent_kept post transfer.ReceiveFromNull = refl
  sent_kept post (transfer.Receive buffer capacity source tag comm) = refl
  sent_kept post (transfer.ReceiveClaimed buffer capacity) = refl
  sent_kept post (transfer.SendPartitions side) = refl
  sent_kept post (transfer.ReceivePartitions side) = refl

  waits_kept : (post : ℕ) → d post ≡ false → (u : Transfer) → met_progress d u (progress.OnPost post)
      ≡ progress.OnPost post
  waits_kept post none (transfer.Send true buffer count dest tag comm) =
      ap (λ b. cond b progress.Finished (progress.OnPost post)) none
  waits_kept post none (transfer.Send false buffer count dest tag comm) = refl
  waits_kept post none transfer.SendToNull = refl
  waits_kept post none transfer.ReceiveFromNull = refl
  waits_kept post none (transfer.Receive buffer capacity source tag comm) = refl
  waits_kept post none (transfer.ReceiveClaimed buffer capacity) = refl
  waits_kept post none (transfer.SendPartitions side) = refl
  waits_kept post none (transfer.ReceivePartitions side) = refl

  kept_progress : (t other : Transfer) (post : ℕ) (paired : Bool) → d post ≡ false
      → met_progress d other (posted t post paired) ≡ posted t post paired
  kept_progress (transfer.Send true buffer count dest tag comm) other post true none = finished_kept other
  kept_progress (transfer.Send true buffer count dest tag comm) other post false none = waits_kept post none other
  kept_progress (transfer.Send false buffer count dest tag comm) other post paired none = sent_kept post other
  kept_progress transfer.SendToNull other post paired none = waits_kept post none other
  kept_progress transfer.ReceiveFromNull other post paired none = waits_kept post none other
  kept_progress (transfer.Receive buffer capacity source tag comm) other post paired none = waits_kept post none other
  kept_progress (transfer.ReceiveClaimed buffer capacity) other post paired none = waits_kept post none other
  kept_progress (transfer.SendPartitions side) other post paired none = waits_kept post none other
  kept_progress (transfer.ReceivePartitions side) other post paired none = waits_kept post none other

  begun_fixed : (memory : Memory) (table : Table) (why : Purpose) (t : Transfer) (p : Progress)
      → ((u : Transfer) → met_progress d u p ≡ p)
      → IsFixed memory table (begun_outcome why t p)
  begun_fixed memory table purpose.Send t progress.Finished e = tt
  begun_fixed memory table purpose.Send t (progress.Sent post) e = tt
  begun_fixed memory table purpose.Send t (progress.OnPost post) e = tt
  begun_fixed memory table purpose.Send t progress.InPhase e = tt
  begun_fixed memory table purpose.Open t p e =
      ap (λ x. (let r : OpenRequest = record { transfer = t; state = state.Ordinary x } in r)) (e t)
  begun_fixed memory table (purpose.Start handle) t p e = e

  abbrev pub IsFixedRow : Memory → Table → Row → Type 0
  IsFixedRow memory table (AtOnce o) = IsFixed memory table o
  IsFixedRow memory table (OnReply m (wanted.All value s)) = AllNeedSame d table
      (handles_in memory (array_at s.array s.count))
  IsFixedRow memory table _ = Unit {0}

  replied_by : (site : Site) (m : Manner) (w : Wanted) (r : Reply) (part : Part)
      → IsFixedRow part.memory part.requests (OnReply m w) → Unmet (answer.Reply r)
      → Named (replied site w r) part
  replied_by site m (wanted.Post why t) (reply.Posted post paired) part fixed same =
      done_by site (begun_outcome why t (posted t post paired)) part
      (begun_fixed part.memory part.requests why t (posted t post paired) (λ u. kept_progress t u post paired same))
  replied_by site m (wanted.MessageOrPost target) (reply.Posted post paired) part fixed same = refl
  replied_by site m (wanted.MessageOrPost target) (reply.Got message) part fixed same = message_by site target
      message part
  replied_by site m (wanted.Message target) (reply.Got message) part fixed same = message_by site target message part
  replied_by site m (wanted.Word target) reply.Done part fixed same = received_by target any any [] part
  replied_by site m wanted.Sent reply.Done part fixed same = ended_by code.Ok 0 part
  replied_by site m (wanted.All value s) (reply.AllGot gots) part fixed same =
      gathered_by site value s.statuses (handles_in part.memory (array_at s.array s.count)) gots part fixed
  replied_by site m (wanted.Sight value status) (reply.Seen envelope) part fixed same =
      found_by site value status envelope part
  replied_by site m (wanted.Claim status) (reply.Held message envelope) part fixed same =
      found_by site message status envelope part
  replied_by site m (wanted.SendingLink t) (reply.Link link) part fixed same = sending_by site t link part
  replied_by site m (wanted.ReceivingLink t) (reply.Link link) part fixed same = receiving_by site t link part
  replied_by site m (wanted.Cut n link) (reply.Cut boxes bytes) part fixed same = cut_by site n link boxes bytes part
  replied_by site m _ _ part fixed same = ended_by code.BadRequest 0 part

  visited_by : (site : Site) (v : Visit) (a : Answer) (part : Part) → Named (visited site v a) part
  visited_by site (visit.Readies link ready) answer.Alone part = readied_by link ready part
  visited_by site (visit.Frees m link target) answer.Freed part = freed_one_by m link target part
  visited_by site (visit.Frees m link target) answer.Missed part = not_yet_by m part
  visited_by site (visit.Takes m side box target) (answer.Taken bytes) part =
      taken_one_by site m side box target bytes part
  visited_by site (visit.Takes m side box target) answer.Missed part = not_yet_by m part
  visited_by site (visit.Sees side box asked) (answer.Taken bytes) part = seen_one_by side box asked bytes part
  visited_by site (visit.Sees side box asked) answer.Missed part = not_yet_by Immediate part
  visited_by site _ _ part = ended_by code.BadRequest 0 part

  pub row_by : (site : Site) (row : Row) (a : Answer) (part : Part) → IsFixedRow part.memory part.requests row → Unmet a
      → Named (told_row site row a) part
  row_by site (AtOnce o) a part fixed same = done_by site o part fixed
  row_by site (OnReply m w) (answer.Reply reply.NotYet) part fixed same = not_yet_by m part
  row_by site (OnReply m w) (answer.Reply (reply.Code c)) part fixed same = ended_by c 0 part
  row_by site (OnReply m w) (answer.Reply r) part fixed same = replied_by site m w r part fixed same
  row_by site (OnReply m w) _ part fixed same = ended_by code.BadRequest 0 part
  row_by site (OnBox v) a part fixed same = visited_by site v a part
