-- What a rank asks of the hub is inside the limits, if its open requests are.
use Rattle.std.specs.Prelude.{ℕ, zero, suc, ◌%◌, ◌<◌, ◌≤◌, ◌≡◌, ◌==◌, ◌&&◌, ◌||◌, ⊤, List, [], ◌∷◌, length, drop}
use Rattle.std.specs.Prelude.{Option, Some, None, Bool, true, false, if◌then◌else◌, IsTrue, nat_le}
use Rattle.std.proofs.Common.{refl, subst, arith}
use Rattle.std.proofs.lemmas.Bool.{and_parts, eqb-true, leb-true}
use Rattle.std.proofs.lemmas.List.{length-take}
use Rattle.rv_image_types.specs.declared.images.ImageVersion.{ImageVersion}
use Rattle.rv_image_types.specs.declared.images.ImageVersion.TheVariants.{One, Two}
use Rattle.rv_memory.specs.Memory.{Memory}
use Rattle.mp_types.specs.declared.requests.Request.{Request}
use Rattle.mp_types.specs.declared.requests.Request.TheVariants as request
use Rattle.mp_request.specs.declared.entries.OpenRequest.{OpenRequest}
use Rattle.mp_request.specs.declared.entries.Partitions.{Partitions}
use Rattle.mp_request.specs.declared.entries.Transfer.{Transfer}
use Rattle.mp_request.specs.declared.entries.Transfer.TheVariants as transfer
use Rattle.mp_request.specs.Table.{Table, request_at}
use Rattle.part_phase.specs.declared.phases.Phase.{Phase}
use Rattle.part_phase.specs.Limits.{are_parts, box_bytes, is_size}
use Rattle.part_phase.specs.Phases.{receiving_at}
use Rattle.cl_calls.specs.declared.calls.Call.{Call}
use Rattle.cl_calls.specs.declared.calls.Call.TheVariants as call
use Rattle.cl_calls.specs.declared.calls.Receiving.{Receiving}
use Rattle.cl_calls.specs.declared.calls.Sending.{Sending}
use Rattle.cl_calls.specs.declared.sites.Site.{Site}
use Rattle.cl_calls.specs.Calls.{any, no_message, no_rank}
use Rattle.cl_calls.specs.Checks.{is_comm, is_count, is_tag, receiving_side, sending_side}
use Rattle.cl_calls.specs.Handles.{handles_in}
use Rattle.cl_calls.specs.Needs.{array_at, one_tag, reads}
use Rattle.cl_calls.specs.Site.{member, members}
use Rattle.cl_calls.proofs.Members.{has_members, is_list}
use Rattle.cl_state.specs.declared.asking.Ask.{Ask}
use Rattle.cl_state.specs.declared.asking.Ask.TheVariants as ask
use Rattle.cl_state.specs.declared.asking.Doing.{Doing}
use Rattle.cl_state.specs.declared.asking.Doing.TheVariants.{Step, Refused, Go, Poll, Stopped}
use Rattle.cl_state.specs.declared.partitions.Awaited.{Awaited}
use Rattle.cl_state.specs.declared.partitions.Awaited.TheVariants as awaited_word
use Rattle.cl_state.specs.declared.pending.Manner.{Manner}
use Rattle.cl_state.specs.declared.pending.Manner.TheVariants.{Immediate, Blocking, Polling, Posting}
use Rattle.cl_state.specs.declared.pending.Pending.{Pending}
use Rattle.cl_state.specs.declared.pending.Pending.TheVariants as pending
use Rattle.cl_state.specs.Asked.{Part, asked, asked_by, asked_completing, asked_in, asked_poll, asked_start, doing}
use Rattle.cl_state.specs.Asked.{part_of}
use Rattle.cl_state.specs.Moves.{AsksShape, Known}
use Rattle.cl_state.specs.Partitions.{asked_arrived, asked_awaited, asked_ready, awaited, awaited_of_part}
use Rattle.cl_state.specs.Pending.{asked_pending, pending_of}
use Rattle.cl_state.specs.Rank.{Rank}
use Rattle.cl_state.specs.Several.{asked_all, pendings, posts_pending}
use Rattle.cl_state.specs.Transfers.{asked_transfer, receive_of, send_of, source_of, tag_of}
use Rattle.cl_state.proofs.Known.{known}
use Rattle.cl_state.proofs.Passed.{HasPassed, passed}
use Rattle.cl_state_laws.proofs.Asks.{at_most_255}
use Rattle.cl_text.specs.Limits.{FitsCut}
use Rattle.cl_text_laws.proofs.Lists.{all-get_or}
use Rattle.cl_text_laws.proofs.Right.{FitsSend, IsRight, IsRightOpen, IsRightTable, IsRightTransfer}

-- a site has at most 8 communicators
abbrev pub HasFewComms : Site → Type 0
HasFewComms site = length site.comms ≤ 8

-- ---- what the checks of a send make sure of

tag_fits : (tag : ℕ) → IsTrue (is_tag (one_tag tag)) → tag ≤ 32767
tag_fits tag holds = leb-true tag 32767 (go (nat_le tag 32767) holds)
  where
    go : (b : Bool) → IsTrue (b || (false && (tag == any))) → b ≡ true
    go true holds = refl
    go false holds = holds

comm_fits : (site : Site) (comm : ℕ) → HasFewComms site → IsTrue (is_comm site (Some comm)) → comm < 8
comm_fits site comm few holds =
    is_list site.comms comm (length site.comms) (has_members site.number (members site comm) holds) refl few

pub send_fits : (site : Site) (sync : Bool) (s : Sending) → HasFewComms site → IsTrue (is_comm site (Some s.comm))
    → IsTrue (is_tag (one_tag s.tag)) → IsTrue (is_count (reads s.buffer s.count))
    → IsRightTransfer (send_of site sync s)
send_fits site sync s few comm tag count = go (s.dest == no_rank)
  where
    fits : FitsSend s.comm s.tag s.count
    fits = record {
      comm = comm_fits site s.comm few comm;
      tag = tag_fits s.tag tag;
      count = leb-true s.count 4096 count;
    }

    go : (null : Bool)
        → IsRightTransfer (if null then transfer.SendToNull else
        transfer.Send sync s.buffer s.count (member site s.comm s.dest) s.tag s.comm)
    go true = tt
    go false = fits

pub receive_fits : (site : Site) (r : Receiving) → IsRightTransfer (receive_of site r)
receive_fits site r = go (r.source == no_rank)
  where
    go : (null : Bool)
        → IsRightTransfer (if null then transfer.ReceiveFromNull else
        transfer.Receive r.buffer r.capacity (source_of site r.comm r.source) (tag_of r.tag) r.comm)
    go true = tt
    go false = tt

pub open_at : (table : Table) (handle : ℕ) → IsRightTable table → IsRightOpen (request_at table handle)
open_at table zero right = tt
open_at table (suc place) right = all-get_or IsRightOpen table place None right tt

-- ---- sends, among all that is asked

abbrev pub SendsRight : Ask → Type 0
SendsRight (ask.Hub (request.Send sync comm dest tag bytes)) = FitsSend comm tag (length bytes)
SendsRight _ = ⊤

by_transfer : (memory : Memory) (now : Bool) (t : Transfer) → IsRightTransfer t
    → SendsRight (asked_transfer memory now t)
by_transfer memory now transfer.SendToNull right = tt
by_transfer memory now transfer.ReceiveFromNull right = tt
by_transfer memory now (transfer.Send sync buffer count dest tag comm) right = record {
  comm = right.comm;
  tag = right.tag;
  count = (let most = length-take count (drop buffer memory.bytes) in let fits = right.count in
      omega (arith, most, fits));
}
by_transfer memory now (transfer.Receive buffer capacity source tag comm) right = tt
by_transfer memory now (transfer.ReceiveClaimed buffer capacity) right = tt
by_transfer memory now (transfer.SendPartitions side) right = tt
by_transfer memory now (transfer.ReceivePartitions side) right = tt

by_if : (b : Bool) (q : Request) → SendsRight (ask.Hub q) → SendsRight (if b then ask.Local else ask.Hub q)
by_if true q right = tt
by_if false q right = right

by_start : (memory : Memory) (o : Option OpenRequest) → IsRightOpen o → SendsRight (asked_start memory o)
by_start memory None right = tt
by_start memory (Some r) right = by_transfer memory false r.transfer right

by_all : (posts : List ℕ) → SendsRight (asked_all posts)
by_all [] = tt
by_all (post ∷ posts) = tt

by_pending : (p : Pending) → SendsRight (asked_pending p)
by_pending pending.Nothing = tt
by_pending pending.FromNull = tt
by_pending (pending.Message post buffer capacity) = tt
by_pending (pending.Word post) = tt

by_awaited : (m : Manner) (a : Awaited) → SendsRight (asked_awaited m a)
by_awaited m awaited_word.Nothing = tt
by_awaited Immediate awaited_word.Unready = tt
by_awaited Blocking awaited_word.Unready = tt
by_awaited Polling awaited_word.Unready = tt
by_awaited Posting awaited_word.Unready = tt
by_awaited m (awaited_word.Taking link part) = tt
by_awaited m (awaited_word.Cut link) = tt
by_awaited m (awaited_word.Box link box) = tt

by_completing : (m : Manner) (o : Option Awaited) (p : Pending) → SendsRight (asked_completing m o p)
by_completing m None p = by_pending p
by_completing m (Some a) p = by_awaited m a

by_ready : (site : Site) (memory : Memory) (part : ℕ) (o : Option Partitions)
    → SendsRight (asked_ready site memory part o)
by_ready site memory part None = tt
by_ready site memory part (Some side) = tt

by_arrived : (phases : List Phase) (part : ℕ) (o : Option Partitions) → SendsRight (asked_arrived phases part o)
by_arrived phases part None = tt
by_arrived phases part (Some side) =
    by_awaited Immediate (awaited_of_part side.link (receiving_at phases side.link) part)

module _ (site : Site) (part : Part) (few : HasFewComms site) (right : IsRightTable part.requests) where
  by_call : (c : Call) → HasPassed site part (Go c)
      → SendsRight (asked_by site part.memory part.requests part.phases c)
  by_call (call.Send s) passed =
      by_transfer part.memory true (send_of site false s)
      (send_fits site false s few passed.1.1.1.1.0 passed.1.1.1.1.1.1.0 passed.1.1.1.1.1.1.1.1.0)
  by_call (call.Ssend s) passed =
      by_transfer part.memory true (send_of site true s)
      (send_fits site true s few passed.1.1.1.1.0 passed.1.1.1.1.1.1.0 passed.1.1.1.1.1.1.1.1.0)
  by_call (call.Isend s) passed =
      by_transfer part.memory false (send_of site false s)
      (send_fits site false s few passed.1.1.1.1.0 passed.1.1.1.1.1.1.0 passed.1.1.1.1.1.1.1.1.0)
  by_call (call.Issend s) passed =
      by_transfer part.memory false (send_of site true s)
      (send_fits site true s few passed.1.1.1.1.0 passed.1.1.1.1.1.1.0 passed.1.1.1.1.1.1.1.1.0)
  by_call (call.Recv r status) passed = by_transfer part.memory true (receive_of site r) (receive_fits site r)
  by_call (call.Irecv r) passed = by_transfer part.memory false (receive_of site r) (receive_fits site r)
  by_call (call.Test c) passed =
      by_completing Immediate (awaited part.phases (request_at part.requests c.handle))
      (pending_of (request_at part.requests c.handle))
  by_call (call.Wait c) passed =
      by_completing Blocking (awaited part.phases (request_at part.requests c.handle))
      (pending_of (request_at part.requests c.handle))
  by_call (call.Iprobe p) passed = by_if (p.source == no_rank) _ tt
  by_call (call.Probe p) passed = by_if (p.source == no_rank) _ tt
  by_call (call.Improbe p) passed = by_if (p.source == no_rank) _ tt
  by_call (call.Mprobe p) passed = by_if (p.source == no_rank) _ tt
  by_call (call.Imrecv m) passed = by_if (m.message == no_message) _ tt
  by_call (call.Mrecv m status) passed = by_if (m.message == no_message) _ tt
  by_call (call.Start handle) passed =
      by_start part.memory (request_at part.requests handle) (open_at part.requests handle right)
  by_call (call.Testall s) passed =
      by_all (posts_pending (pendings part.requests (handles_in part.memory (array_at s.array s.count))))
  by_call (call.Waitall s) passed =
      by_all (posts_pending (pendings part.requests (handles_in part.memory (array_at s.array s.count))))
  by_call (call.Pready handle ready) passed =
      by_ready site part.memory ready (sending_side (request_at part.requests handle))
  by_call (call.Parrived handle asked) passed =
      by_arrived part.phases asked (receiving_side (request_at part.requests handle))
  by_call _ passed = tt

  by_poll : (c : Call) (post : ℕ) → SendsRight (asked_poll c post)
  by_poll (call.Ssend s) post = tt
  by_poll _ post = tt

  by_turn : (d : Doing) → HasPassed site part d
      → SendsRight (asked_in site part.memory part.requests part.phases d)
  by_turn Step passed = tt
  by_turn (Refused code) passed = tt
  by_turn (Go c) passed = by_call c passed
  by_turn (Poll c post) passed = by_poll c post
  by_turn Stopped passed = tt

-- ---- shapes

cut_fits : (version : ImageVersion) (parts size : ℕ) → IsTrue (are_parts parts) → IsTrue (is_size version size)
    → FitsCut parts size
cut_fits version parts size count bytes =
    let counts = and_parts (nat_le 1 parts) (nat_le parts 16) count in
    let size_parts = and_parts (nat_le 8 size && nat_le size (box_bytes version)) (size % 8 == 0) bytes in
    let sizes = and_parts (nat_le 8 size) (nat_le size (box_bytes version)) size_parts.0 in
    record {
      some_parts = leb-true 1 parts counts.0;
      few_parts = leb-true parts 16 counts.1;
      least = leb-true 8 size sizes.0;
      most = (let widest = box_most version in let most = leb-true size (box_bytes version) sizes.1 in
          omega (arith, widest, most));
      whole = eqb-true (size % 8) 0 size_parts.1;
    }
  where
    box_most : (version : ImageVersion) → box_bytes version ≤ 128
    box_most One = omega arith
    box_most Two = omega arith

-- ---- all that is asked of the hub

sends_right : (rank : Rank) (hart : ℕ) → HasFewComms rank.site → IsRightTable rank.requests
    → SendsRight (asked rank hart)
unfolding asked
sends_right rank hart few right =
    by_turn rank.site (part_of rank hart) few right (doing rank.site (part_of rank hart))
    (passed rank.site (part_of rank hart))

pub asked_right : (rank : Rank) (hart : ℕ) (q : Request) → HasFewComms rank.site → IsRightTable rank.requests
    → asked rank hart ≡ ask.Hub q → IsRight q
asked_right rank hart (request.Send sync comm dest tag bytes) few right is =
    subst SendsRight is (sends_right rank hart few right)
asked_right rank hart (request.All posts) few right is = at_most_255 rank hart posts is
asked_right rank hart (request.Init sends comm peer tag parts size) few right is =
    let shape : AsksShape rank.site parts size = subst (Known rank.site rank.memory rank.phases) is (known rank hart) in
    cut_fits rank.site.version parts size shape.count shape.bytes
asked_right rank hart _ few right is = tt
