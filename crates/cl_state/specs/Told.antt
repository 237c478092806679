-- The rank after the answer. A reply that isn't one for its request is told as the code BadRequest.
use Rattle.std.specs.Prelude.{ℕ, ◌+◌, ◌*◌, ◌==◌, if◌then◌else◌, List, [], ◌++◌, length, take, set, slice_get, Option}
use Rattle.std.specs.Prelude.{Some, None}
use Rattle.std.specs.Prelude.{Bool, true, false, nat_lt, is_some}
use Rattle.rv_memory.specs.Memory.{Memory, bytes_of, bytes_at}
use Rattle.rv_hart.specs.State.{State, write, at_pc, in_mode}
use Rattle.rv_hart.specs.Effect.{next}
use Rattle.rv_hart.specs.Stepped.{stepped}
use Rattle.rv_hart.specs.declared.state.Mode.TheVariants.{Running, Waiting, Ended}
use Rattle.rv_hart.specs.declared.state.Wait.TheVariants.{Post, Again}
use Rattle.mp_types.specs.Codes.{code_number}
use Rattle.mp_types.specs.declared.codes.Code.{Code}
use Rattle.mp_types.specs.declared.codes.Code.TheVariants as code
use Rattle.mp_types.specs.declared.messages.Envelope.{Envelope}
use Rattle.mp_types.specs.declared.messages.Message.{Message}
use Rattle.mp_types.specs.declared.replies.Reply.{Reply}
use Rattle.mp_types.specs.declared.replies.Reply.TheVariants as reply
use Rattle.mp_request.specs.declared.entries.OpenRequest.{OpenRequest}
use Rattle.mp_request.specs.declared.entries.Partitions.{Partitions}
use Rattle.mp_request.specs.declared.entries.Progress.TheVariants.{InPhase}
use Rattle.mp_request.specs.declared.entries.State.TheVariants.{Inactive}
use Rattle.mp_request.specs.declared.entries.Transfer.{Transfer}
use Rattle.mp_request.specs.declared.entries.Transfer.TheVariants.{SendPartitions, ReceivePartitions}
use Rattle.part_phase.specs.declared.phases.Phase.{Phase}
use Rattle.part_phase.specs.Phases.{sending_at, receiving_at, changed_at, on_sending, on_receiving}
use Rattle.part_phase.specs.Phases.{begun as begun_phase}
use Rattle.part_phase.specs.Phases.{is_unshaped_sending, is_unshaped_receiving}
use Rattle.part_phase.specs.Receiving.{shaped_receiving, is_cut, cut_into, next_box_of, one_taken}
use Rattle.part_phase.specs.Sending.{shaped_sending, all_freed, readied, one_freed}
use Rattle.cl_calls.specs.declared.calls.Partitioning.{Partitioning}
use Rattle.cl_state.specs.Partitions.{side_on}
use Rattle.mp_request.specs.Table.{with_request, lowest_free, started, completed}
use Rattle.cl_calls.specs.declared.sites.Site.{Site}
use Rattle.cl_calls.specs.Site.{members, position_of}
use Rattle.cl_calls.specs.Calls.{any, no_rank}
use Rattle.cl_calls.specs.Handles.{handles_in}
use Rattle.cl_calls.specs.Needs.{array_at}
use Rattle.cl_state.specs.declared.asking.Answer.{Answer}
use Rattle.cl_state.specs.declared.asking.Answer.TheVariants as answer
use Rattle.cl_state.specs.declared.asking.Doing.{Doing}
use Rattle.cl_state.specs.declared.pending.Manner.{Manner}
use Rattle.cl_state.specs.declared.pending.Manner.TheVariants.{Immediate, Blocking, Posting, Polling}
use Rattle.cl_state.specs.declared.pending.Target.{Target}
use Rattle.cl_state.specs.declared.row.Outcome.{Outcome}
use Rattle.cl_state.specs.declared.row.Outcome.TheVariants.{Steps, Stays, Exits, Ends, Waits, Puts, Opens, Starts}
use Rattle.cl_state.specs.declared.row.Outcome.TheVariants.{Frees as FreesHandle, Completes, FindsNothing, CompletesAll}
use Rattle.cl_state.specs.declared.row.Outcome.TheVariants.{BeginsPhase, Holds, Arrives}
use Rattle.cl_state.specs.declared.row.Visit.{Visit}
use Rattle.cl_state.specs.declared.row.Visit.TheVariants.{Readies, Frees, Takes, Sees}
use Rattle.cl_state.specs.declared.row.Row.{Row}
use Rattle.cl_state.specs.declared.row.Row.TheVariants.{AtOnce, OnReply, OnBox}
use Rattle.cl_state.specs.declared.row.Wanted.{Wanted}
use Rattle.cl_state.specs.declared.row.Wanted.TheVariants as wanted
use Rattle.cl_state.specs.Rank.{Rank}
use Rattle.cl_state.specs.Transfers.{posted}
use Rattle.cl_state.specs.Several.{pendings, are_fit, given, with_all_bytes, with_statuses, code_of, completed_each}
use Rattle.cl_state.specs.Written.{written}
use Rattle.cl_state.specs.Asked.{Part, part_of, doing}
use Rattle.cl_state.specs.Table.{begun_outcome, row_in}

-- ---- how a call ends

-- the call returns: a0 has the code, a1 the value, the pc rises by 4, and the hart runs
unfoldable pub returned : Code → ℕ → State → State
returned c value hart = in_mode (at_pc (write (write hart 10 (code_number c)) 11 value) (next hart)) Running

abbrev pub ended : Code → ℕ → Part → Part
ended c value part = record part { hart = returned c value part.hart }

-- the hart waits for a post
abbrev pub waiting : ℕ → Part → Part
waiting post part = record part { hart = in_mode part.hart (Waiting (Post post)) }

-- the hart makes its call anew in its next turn
abbrev pub asking_again : Part → Part
asking_again part = record part { hart = in_mode part.hart (Waiting Again) }

-- ---- what is written

-- a status is three words: source, tag and count (MPI 4.1, 3.2.5); at address 0 none is wanted
unfoldable pub with_status : Memory → ℕ → ℕ → ℕ → ℕ → Memory
with_status memory address source tag count =
    if (address == 0) then memory else written memory address (bytes_of source 8 ++ bytes_of tag 8 ++ bytes_of count 8)

-- ---- receives

-- a receive completes: as many of the bytes as fit, then the
-- status; a longer message is truncated; its request completes
unfoldable pub received : Target → ℕ → ℕ → List ℕ → Part → Part
received target source tag bytes part =
    let kept = take target.capacity bytes in
    ended (if nat_lt target.capacity (length bytes) then code.Truncated else code.Ok) target.value
    (record part {
      memory = with_status (written part.memory target.buffer kept) target.status source tag (length kept);
      requests = completed part.requests target.handle;
    })

-- a message fits a receive if its source is a member of its communicator; the status tells the source's position
abbrev pub received_from : Option ℕ → Target → Message → Part → Part
received_from None target message part = ended code.BadRequest 0 part
received_from (Some place) target message part = received target place message.envelope.tag message.bytes part

unfoldable pub received_message : Site → Target → Message → Part → Part
received_message site target message part =
    received_from (position_of message.envelope.source (members site message.envelope.comm)) target message part

-- ---- requests that are opened and freed

-- a request is opened at the lowest free handle, which the call gives (MPI 4.1, 3.7.2)
abbrev pub opened_at : Option ℕ → OpenRequest → Part → Part
opened_at None request part = ended code.Full 0 part
opened_at (Some handle) request part =
    ended code.Ok handle (record part { requests = with_request part.requests handle (Some request) })

abbrev pub opened : OpenRequest → Part → Part
opened request part = opened_at (lowest_free part.requests) request part

unfoldable pub freed : ℕ → Part → Part
freed handle part = ended code.Ok 0 (record part { requests = with_request part.requests handle None })

-- ---- several requests

-- all complete: all bytes, then all statuses (MPI 4.1, 3.7.5)
unfoldable pub completed_all : Site → ℕ → ℕ → List ℕ → List (Option Message) → Part → Part
completed_all site value statuses handles gots part =
    let gs = given site (pendings part.requests handles) gots in
    ended (code_of gs) value (record part {
      memory = with_statuses (with_all_bytes part.memory gs) statuses gs;
      requests = completed_each part.requests handles;
    })

abbrev pub gathered_if : Bool → Site → ℕ → ℕ → List ℕ → List (Option Message) → Part → Part
gathered_if true site value statuses handles gots part = completed_all site value statuses handles gots part
gathered_if false site value statuses handles gots part = ended code.BadRequest 0 part

-- where each got what it waits for
abbrev pub gathered : Site → ℕ → ℕ → List ℕ → List (Option Message) → Part → Part
gathered site value statuses handles gots part =
    gathered_if (are_fit site (pendings part.requests handles) gots) site value statuses handles gots part

-- ---- probes

-- a message was found: its status, with the whole count, and this value
abbrev pub found_at : Option ℕ → ℕ → ℕ → Envelope → Part → Part
found_at None value status envelope part = ended code.BadRequest 0 part
found_at (Some place) value status envelope part =
    ended code.Ok value (record part { memory = with_status part.memory status place envelope.tag envelope.count })

unfoldable pub found : Site → ℕ → ℕ → Envelope → Part → Part
found site value status envelope part =
    found_at (position_of envelope.source (members site envelope.comm)) value status envelope part

-- a probe of the null process finds at once that nothing comes from there (3.8, 3.11)
unfoldable pub found_nothing : ℕ → ℕ → Part → Part
found_nothing value status part =
    ended code.Ok value (record part { memory = with_status part.memory status no_rank any 0 })

-- ---- what isn't there yet

-- what isn't there yet: an immediate call ends with flag 0, a
-- blocking one is made anew, a poll waits on; no post is told so
abbrev pub not_yet : Manner → Part → Part
not_yet Immediate part = ended code.Ok 0 part
not_yet Blocking part = asking_again part
not_yet Polling part = part
not_yet Posting part = ended code.BadRequest 0 part

-- ---- partitions

-- a side of a partitioned transfer is made (4.2.1): an inactive request at the
-- lowest free handle, and the side that the rank has of the link has its shape
abbrev pub made_side_at : Option ℕ → Transfer → ℕ → (Phase → Phase) → Part → Part
made_side_at None transfer link shape part = ended code.Full 0 part
made_side_at (Some handle) transfer link shape part =
    ended code.Ok handle (record part {
      requests = with_request part.requests handle (Some (record { transfer = transfer; state = Inactive }));
      phases = changed_at link shape part.phases;
    })

-- a link fits that names a side of the rank, of the asked direction, that no transfer has
abbrev pub made_sending : Site → Partitioning → ℕ → Part → Part
made_sending site t link part =
    if is_unshaped_sending (slice_get part.phases link)
    then made_side_at (lowest_free part.requests) (SendPartitions (side_on site t link)) link
    (on_sending (shaped_sending t.parts t.size)) part
    else ended code.BadRequest 0 part

abbrev pub made_receiving : Site → Partitioning → ℕ → Part → Part
made_receiving site t link part =
    if is_unshaped_receiving (slice_get part.phases link)
    then made_side_at (lowest_free part.requests) (ReceivePartitions (side_on site t link)) link
    (on_receiving (shaped_receiving t.parts t.size)) part
    else ended code.BadRequest 0 part

-- a cut fits that leaves the receiver's total, inside the limits. It is kept, and nothing has come yet
abbrev pub cut_known : Site → Manner → ℕ → ℕ → ℕ → Part → Part
cut_known site m link boxes bytes part =
    if is_cut site.version (receiving_at part.phases link) boxes bytes
    then not_yet m (record part { phases = changed_at link (on_receiving (cut_into boxes bytes)) part.phases })
    else ended code.BadRequest 0 part

-- a partitioned request is started, and with it a phase (4.2.1)
unfoldable pub phase_begun : ℕ → ℕ → Part → Part
phase_begun handle link part =
    ended code.Ok 0
    (record part { requests = started part.requests handle InPhase; phases = changed_at link begun_phase part.phases })

-- a partition was made ready
unfoldable pub part_readied : ℕ → ℕ → Part → Part
part_readied link ready part =
    ended code.Ok 0 (record part { phases = changed_at link (on_sending (readied ready)) part.phases })

-- a partitioned receive completes: its status has the source, the tag and all the bytes
abbrev pub arrived_from : Option ℕ → Partitions → Target → Part → Part
arrived_from None side target part = ended code.BadRequest 0 part
arrived_from (Some place) side target part =
    ended code.Ok target.value (record part {
      memory = with_status part.memory target.status place side.tag (side.parts * side.size);
      requests = completed part.requests target.handle;
    })

unfoldable pub arrived : Site → Partitions → Target → Part → Part
arrived site side target part =
    arrived_from (position_of side.peer (members site side.comm)) side target part

-- one more partition was found taken; with the last one the send completes, with the empty status
unfoldable pub freed_one : Manner → ℕ → Target → Part → Part
freed_one m link target part =
    let after = record part { phases = changed_at link (on_sending one_freed) part.phases } in
    if all_freed (sending_at after.phases link) then received target any any [] after else not_yet m after

-- a box was taken: its bytes stand at its number times the sender's size behind the buffer
abbrev pub with_taken_box : Partitions → ℕ → List ℕ → Part → Part
with_taken_box side box bytes part =
    let size = (receiving_at part.phases side.link).bytes in
    record part {
      memory = written part.memory (side.buffer + box * size) (take size bytes);
      phases = changed_at side.link (on_receiving (one_taken box)) part.phases;
    }

-- with the last one the receive completes
unfoldable pub taken_one : Site → Manner → Partitions → ℕ → Target → List ℕ → Part → Part
taken_one site m side box target bytes part =
    let after = with_taken_box side box bytes part in
    if (receiving_at after.phases side.link).active then not_yet m after else arrived site side target after

-- a partition has arrived where none of the boxes that it overlaps is left
unfoldable pub seen_one : Partitions → ℕ → ℕ → List ℕ → Part → Part
seen_one side box asked bytes part =
    let after = with_taken_box side box bytes part in
    ended code.Ok (if is_some (next_box_of (receiving_at after.phases side.link) asked) then 0 else 1) after

-- ---- a turn

-- what is done at once
abbrev pub done : Site → Outcome → Part → Part
done site Steps part =
    let after = stepped part.hart part.memory in record part { hart = after.state; memory = after.memory }
done site Stays part = part
done site (Exits value) part = record part { hart = in_mode part.hart (Ended value) }
done site (Ends c value) part = ended c value part
done site (Waits post) part = waiting post part
done site (Puts buffer count) part =
    ended code.Ok 0 (record part { out = part.out ++ bytes_at part.memory buffer count })
done site (Opens request) part = opened request part
done site (Starts handle progress) part =
    ended code.Ok 0 (record part { requests = started part.requests handle progress })
done site (FreesHandle handle) part = freed handle part
done site (Completes source target) part = received target source any [] part
done site (FindsNothing value status) part = found_nothing value status part
done site (BeginsPhase handle link) part = phase_begun handle link part
done site Holds part = asking_again part
done site (Arrives side target) part = arrived site side target part
done site (CompletesAll value s) part =
    completed_all site value s.statuses (handles_in part.memory (array_at s.array s.count)) [] part

-- what a reply does where it is wanted; any other doesn't fit
abbrev pub replied : Site → Wanted → Reply → Part → Part
replied site (wanted.Post why t) (reply.Posted post paired) part = done site (begun_outcome why t (posted t post paired)) part
replied site (wanted.MessageOrPost target) (reply.Posted post paired) part = waiting post part
replied site (wanted.MessageOrPost target) (reply.Got message) part = received_message site target message part
replied site (wanted.Message target) (reply.Got message) part = received_message site target message part
replied site (wanted.Word target) reply.Done part = received target any any [] part
replied site wanted.Sent reply.Done part = ended code.Ok 0 part
replied site (wanted.All value s) (reply.AllGot gots) part =
    gathered site value s.statuses (handles_in part.memory (array_at s.array s.count)) gots part
replied site (wanted.Sight value status) (reply.Seen envelope) part = found site value status envelope part
replied site (wanted.Claim status) (reply.Held message envelope) part = found site message status envelope part
replied site (wanted.SendingLink t) (reply.Link link) part = made_sending site t link part
replied site (wanted.ReceivingLink t) (reply.Link link) part = made_receiving site t link part
replied site (wanted.Cut m link) (reply.Cut boxes bytes) part = cut_known site m link boxes bytes part
replied site _ _ part = ended code.BadRequest 0 part

-- what the answer of a box does; any other doesn't fit
abbrev pub visited : Site → Visit → Answer → Part → Part
visited site (Readies link ready) answer.Alone part = part_readied link ready part
visited site (Frees m link target) answer.Freed part = freed_one m link target part
visited site (Frees m link target) answer.Missed part = not_yet m part
visited site (Takes m side box target) (answer.Taken bytes) part = taken_one site m side box target bytes part
visited site (Takes m side box target) answer.Missed part = not_yet m part
visited site (Sees side box asked) (answer.Taken bytes) part = seen_one side box asked bytes part
visited site (Sees side box asked) answer.Missed part = not_yet Immediate part
visited site _ _ part = ended code.BadRequest 0 part

-- where the hub is asked, NotYet is told by the call's manner,
-- a code ends the call, and the rest is what the reply does
abbrev pub told_row : Site → Row → Answer → Part → Part
told_row site (AtOnce o) a part = done site o part
told_row site (OnReply m w) (answer.Reply reply.NotYet) part = not_yet m part
told_row site (OnReply m w) (answer.Reply (reply.Code c)) part = ended c 0 part
told_row site (OnReply m w) (answer.Reply r) part = replied site w r part
told_row site (OnReply m w) _ part = ended code.BadRequest 0 part
told_row site (OnBox v) a part = visited site v a part

abbrev pub told_in : Site → ℕ → Doing → Answer → Part → Part
told_in site hart d a part = told_row site (row_in site hart part.memory part.requests part.phases d) a part

-- the rank with this part of the hart's, at this clock
abbrev pub with_part : Rank → ℕ → Part → ℕ → Rank
with_part rank hart part clock =
    record rank {
      memory = part.memory;
      harts = set rank.harts hart part.hart;
      requests = part.requests;
      phases = part.phases;
      out = part.out;
      clock = clock;
    }

-- the rank after the answer to what the hart asked; the event's stamp becomes the clock
unfoldable pub told : Rank → ℕ → Answer → ℕ → Rank
told rank hart a stamp =
    with_part rank hart (told_in rank.site hart (doing rank.site (part_of rank hart)) a (part_of rank hart)) stamp
