-- What a hart asks in its next turn.
use Rattle.std.specs.Prelude.{ℕ, ◌==◌, if◌then◌else◌, List, [], length, get_or, Option, Some, None, Bool, true, false}
use Rattle.rv_memory.specs.Memory.{Memory}
use Rattle.rv_memory.specs.Access.{word_at}
use Rattle.rv_hart.specs.State.{State}
use Rattle.rv_hart.specs.declared.state.Mode.{Mode}
use Rattle.rv_hart.specs.declared.state.Mode.TheVariants.{Running, Waiting, Ended, Trapped}
use Rattle.rv_hart.specs.declared.state.Wait.TheVariants.{Post, Again}
use Rattle.mp_types.specs.declared.codes.Code.{Code}
use Rattle.mp_types.specs.declared.requests.Request.TheVariants as request
use Rattle.mp_request.specs.declared.entries.OpenRequest.{OpenRequest}
use Rattle.mp_request.specs.Table.{Table, request_at}
use Rattle.part_phase.specs.declared.phases.Phase.{Phase}
use Rattle.cl_calls.specs.declared.calls.Call.{Call}
use Rattle.cl_calls.specs.declared.calls.Call.TheVariants as call
use Rattle.cl_calls.specs.declared.calls.Probing.{Probing}
use Rattle.cl_calls.specs.declared.calls.Several.{Several}
use Rattle.cl_calls.specs.declared.sites.Site.{Site}
use Rattle.cl_calls.specs.Calls.{no_rank, call_named}
use Rattle.cl_calls.specs.Handles.{handles_in}
use Rattle.cl_calls.specs.Needs.{array_at, needs_of}
use Rattle.cl_calls.specs.Checks.{checks, first_fault, sending_side, receiving_side}
use Rattle.cl_state.specs.declared.asking.Ask.{Ask}
use Rattle.cl_state.specs.declared.asking.Ask.TheVariants as ask
use Rattle.cl_state.specs.declared.asking.Doing.{Doing}
use Rattle.cl_state.specs.declared.asking.Doing.TheVariants.{Step, Refused, Go, Poll, Stopped}
use Rattle.cl_state.specs.declared.partitions.Awaited.{Awaited}
use Rattle.cl_state.specs.declared.pending.Manner.{Manner}
use Rattle.cl_state.specs.declared.pending.Manner.TheVariants.{Immediate, Blocking}
use Rattle.cl_state.specs.declared.pending.Pending.{Pending}
use Rattle.cl_state.specs.Rank.{Rank}
use Rattle.cl_state.specs.Transfers.{source_of, tag_of, send_of, receive_of, asked_transfer, asked_claimed}
use Rattle.cl_state.specs.Pending.{pending_of, asked_pending}
use Rattle.cl_state.specs.Partitions.{awaited, asked_awaited, asked_ready, asked_arrived, asked_sending}
use Rattle.cl_state.specs.Partitions.{asked_receiving}
use Rattle.cl_state.specs.Several.{pendings, posts_pending, asked_all}

-- what one hart's turn may change of its rank, but for the clock
pub record Part : Type 0 where
  pub hart : State
  pub memory : Memory
  pub requests : Table
  pub phases : List Phase
  pub out : List ℕ

-- a hart that isn't there is a stopped one
abbrev pub no_hart : State
no_hart = record { regs = []; pc = 0; mode = Ended 0 }

abbrev pub part_of : Rank → ℕ → Part
part_of rank hart = record {
  hart = get_or rank.harts hart no_hart;
  memory = rank.memory;
  requests = rank.requests;
  phases = rank.phases;
  out = rank.out;
}

abbrev pub go_or_refuse : Option Code → Call → Doing
go_or_refuse None c = Go c
go_or_refuse (Some code) c = Refused code

-- the call that the registers spell, if all its checks hold
abbrev pub checked : Site → Part → Doing
checked site part =
    go_or_refuse
    (first_fault (checks site part.memory part.requests part.phases (length part.out) (needs_of (call_named part.hart))))
    (call_named part.hart)

-- the word is ECALL's (RISC-V Unprivileged ISA, 2.8)
abbrev pub is_ecall : Option ℕ → Bool
is_ecall None = false
is_ecall (Some word) = word == 0x73

-- a running hart does the instruction at its pc; one that waits on
-- a post polls it; one that waits otherwise makes its call anew
abbrev pub doing_in : Mode → Site → Part → Doing
doing_in Running site part = if is_ecall (word_at part.memory part.hart.pc) then checked site part else Step
doing_in (Waiting (Post post)) site part = Poll (call_named part.hart) post
doing_in (Waiting Again) site part = checked site part
doing_in (Ended code) site part = Stopped
doing_in (Trapped cause pc) site part = Stopped

unfoldable pub doing : Site → Part → Doing
doing site part = doing_in part.hart.mode site part

-- a probe tells what a receive would give, a matched one takes
-- it (MPI 4.1, 3.8.1 and 3.8.2); the null process isn't asked
abbrev pub asked_probe : Site → Probing → Ask
asked_probe site p =
    if (p.source == no_rank) then ask.Local else ask.Hub
    (request.Probe p.comm (source_of site p.comm p.source) (tag_of p.tag))

abbrev pub asked_claim : Site → Probing → Ask
asked_claim site p =
    if (p.source == no_rank) then ask.Local else ask.Hub
    (request.Claim p.comm (source_of site p.comm p.source) (tag_of p.tag))

-- a start asks what its request transfers (3.9)
abbrev pub asked_start : Memory → Option OpenRequest → Ask
asked_start memory None = ask.Local
asked_start memory (Some r) = asked_transfer memory false r.transfer

abbrev pub asked_several : Memory → Table → Several → Ask
asked_several memory table s = asked_all (posts_pending (pendings table (handles_in memory (array_at s.array s.count))))

-- a partitioned request asks for what it awaits in its phase (4.2), any other for what it needs
abbrev pub asked_completing : Manner → Option Awaited → Pending → Ask
asked_completing m (Some a) pending = asked_awaited m a
asked_completing m None pending = asked_pending pending

-- what a right call asks: a request to the hub, or a question to one box; any other call asks nobody
abbrev pub asked_by : Site → Memory → Table → List Phase → Call → Ask
asked_by site memory table phases (call.Send s) = asked_transfer memory true (send_of site false s)
asked_by site memory table phases (call.Ssend s) = asked_transfer memory true (send_of site true s)
asked_by site memory table phases (call.Recv r status) = asked_transfer memory true (receive_of site r)
asked_by site memory table phases (call.Isend s) = asked_transfer memory false (send_of site false s)
asked_by site memory table phases (call.Issend s) = asked_transfer memory false (send_of site true s)
asked_by site memory table phases (call.Irecv r) = asked_transfer memory false (receive_of site r)
asked_by site memory table phases (call.Test c) =
    asked_completing Immediate (awaited phases (request_at table c.handle)) (pending_of (request_at table c.handle))
asked_by site memory table phases (call.Wait c) =
    asked_completing Blocking (awaited phases (request_at table c.handle)) (pending_of (request_at table c.handle))
asked_by site memory table phases (call.Iprobe p) = asked_probe site p
asked_by site memory table phases (call.Probe p) = asked_probe site p
asked_by site memory table phases (call.Improbe p) = asked_claim site p
asked_by site memory table phases (call.Mprobe p) = asked_claim site p
asked_by site memory table phases (call.Imrecv m) = asked_claimed false m
asked_by site memory table phases (call.Mrecv m status) = asked_claimed true m
asked_by site memory table phases (call.Start handle) = asked_start memory (request_at table handle)
asked_by site memory table phases (call.Testall s) = asked_several memory table s
asked_by site memory table phases (call.Waitall s) = asked_several memory table s
asked_by site memory table phases (call.PsendInit t) = asked_sending site t
asked_by site memory table phases (call.PrecvInit t) = asked_receiving site t
asked_by site memory table phases (call.Pready handle part) =
    asked_ready site memory part (sending_side (request_at table handle))
asked_by site memory table phases (call.Parrived handle part) =
    asked_arrived phases part (receiving_side (request_at table handle))
asked_by site memory table phases _ = ask.Local

-- a poll asks whether a synchronous send is complete, or for the message of a receive
abbrev pub asked_poll : Call → ℕ → Ask
asked_poll (call.Ssend s) post = ask.Hub (request.Finished post)
asked_poll _ post = ask.Hub (request.Collect post)

abbrev pub asked_in : Site → Memory → Table → List Phase → Doing → Ask
asked_in site memory table phases Step = ask.Plain
asked_in site memory table phases (Refused code) = ask.Local
asked_in site memory table phases (Go c) = asked_by site memory table phases c
asked_in site memory table phases (Poll c post) = asked_poll c post
asked_in site memory table phases Stopped = ask.Idle

-- what the hart's registers, mode and memory spell for its next turn
unfoldable pub asked : Rank → ℕ → Ask
asked rank hart = asked_in rank.site rank.memory rank.requests rank.phases (doing rank.site (part_of rank hart))
