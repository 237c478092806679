-- Partitioned requests (MPI 4.1, chapter 4): what each awaits, what it asks, and what completes it.
use Rattle.std.specs.Prelude.{ℕ, ◌+◌, ◌*◌, ◌==◌, if◌then◌else◌, List, Option, Some, None, not, take, true, false}
use Rattle.rv_memory.specs.Memory.{Memory, bytes_at}
use Rattle.mp_types.specs.declared.requests.Request.TheVariants as request
use Rattle.mp_request.specs.declared.entries.OpenRequest.{OpenRequest}
use Rattle.mp_request.specs.declared.entries.Partitions.{Partitions}
use Rattle.mp_request.specs.declared.entries.State.{State}
use Rattle.mp_request.specs.declared.entries.State.TheVariants.{Ordinary, Inactive, Active}
use Rattle.mp_request.specs.declared.entries.Transfer.{Transfer}
use Rattle.mp_request.specs.declared.entries.Transfer.TheVariants.{SendPartitions, ReceivePartitions}
use Rattle.part_phase.specs.declared.phases.Phase.{Phase}
use Rattle.part_phase.specs.declared.receiving.RecvPhase.{RecvPhase}
use Rattle.part_phase.specs.declared.sending.SendPhase.{SendPhase}
use Rattle.rv_image_types.specs.declared.images.ImageVersion.{ImageVersion}
use Rattle.part_phase.specs.Limits.{box_bytes, padded}
use Rattle.part_phase.specs.Phases.{sending_at, receiving_at}
use Rattle.part_phase.specs.Receiving.{next_box, next_box_of}
use Rattle.part_phase.specs.Sending.{is_part_ready, next_to_free}
use Rattle.cl_calls.specs.declared.calls.Partitioning.{Partitioning}
use Rattle.cl_calls.specs.declared.sites.Site.{Site}
use Rattle.cl_calls.specs.Site.{member}
use Rattle.cl_state.specs.declared.asking.Ask.{Ask}
use Rattle.cl_state.specs.declared.asking.Ask.TheVariants as ask
use Rattle.cl_state.specs.declared.partitions.Awaited.{Awaited}
use Rattle.cl_state.specs.declared.partitions.Awaited.TheVariants.{Nothing, Unready, Taking, Cut, Box}
use Rattle.cl_state.specs.declared.pending.Manner.{Manner}
use Rattle.cl_state.specs.declared.pending.Manner.TheVariants.{Immediate}

-- ---- what is awaited

-- the lowest partition that isn't freed decides: it has to be made ready first, and then to be taken
abbrev pub taking_of : ℕ → SendPhase → Option ℕ → Awaited
taking_of link p None = Nothing
taking_of link p (Some part) = if is_part_ready p part then Taking link part else Unready

abbrev pub awaited_by_sender : ℕ → SendPhase → Awaited
awaited_by_sender link p = taking_of link p (next_to_free p)

-- a box that is to be taken, if there is one
abbrev pub box_of : ℕ → Option ℕ → Awaited
box_of link None = Nothing
box_of link (Some box) = Box link box

-- until it knows the sender's cut a receiver asks for it, then it looks at boxes, while its phase is going on
abbrev pub awaited_in : ℕ → RecvPhase → Option ℕ → Awaited
awaited_in link p next =
    if not p.active then Nothing else
    if p.boxes == 0 then Cut link else
    box_of link next

-- the whole of a phase: the lowest box that isn't taken
abbrev pub awaited_by_receiver : ℕ → RecvPhase → Awaited
awaited_by_receiver link p = awaited_in link p (next_box p)

-- one partition: the lowest of its boxes that isn't taken
abbrev pub awaited_of_part : ℕ → RecvPhase → ℕ → Awaited
awaited_of_part link p part = awaited_in link p (next_box_of p part)

-- what TEST and WAIT of a partitioned request that is active await; any other request isn't asked about partitions
abbrev pub awaited_by : List Phase → Transfer → Option Awaited
awaited_by phases (SendPartitions side) = Some (awaited_by_sender side.link (sending_at phases side.link))
awaited_by phases (ReceivePartitions side) = Some (awaited_by_receiver side.link (receiving_at phases side.link))
awaited_by phases _ = None

abbrev pub awaited_at : List Phase → State → Transfer → Option Awaited
awaited_at phases Inactive t = None
awaited_at phases (Ordinary progress) t = awaited_by phases t
awaited_at phases (Active progress) t = awaited_by phases t

abbrev pub awaited : List Phase → Option OpenRequest → Option Awaited
awaited phases None = None
awaited phases (Some r) = awaited_at phases r.state r.transfer

-- ---- what is asked

-- an immediate call that finds its own partition unready ends; a blocking one is held
abbrev pub asked_awaited : Manner → Awaited → Ask
asked_awaited m Nothing = ask.Local
asked_awaited Immediate Unready = ask.Local
asked_awaited m Unready = ask.Held
asked_awaited m (Taking link part) = ask.Freed link part
asked_awaited m (Cut link) = ask.Hub (request.Cut link)
asked_awaited m (Box link box) = ask.Look link box

-- bytes as they stand in a box: no more than it has, and 0 behind them
abbrev pub boxed : ImageVersion → List ℕ → List ℕ
boxed version bytes = padded version (take (box_bytes version) bytes)

-- partition n stands n times the size behind the buffer (4.2.2)
abbrev pub asked_ready : Site → Memory → ℕ → Option Partitions → Ask
asked_ready site memory part None = ask.Local
asked_ready site memory part (Some side) =
    ask.Ready side.link part (boxed site.version (bytes_at memory (side.buffer + part * side.size) side.size))

-- 4.2.3
abbrev pub asked_arrived : List Phase → ℕ → Option Partitions → Ask
asked_arrived phases part None = ask.Local
asked_arrived phases part (Some side) =
    asked_awaited Immediate (awaited_of_part side.link (receiving_at phases side.link) part)

-- the hub pairs initialisations, and gives each pair a link
abbrev pub asked_sending : Site → Partitioning → Ask
asked_sending site t = ask.Hub (request.Init true t.comm (member site t.comm t.peer) t.tag t.parts t.size)

abbrev pub asked_receiving : Site → Partitioning → Ask
asked_receiving site t = ask.Hub (request.Init false t.comm (member site t.comm t.peer) t.tag t.parts t.size)

-- the side of a transfer that an initialisation begins, once the hub gave it a link
abbrev pub side_on : Site → Partitioning → ℕ → Partitions
side_on site t link = record {
  link = link;
  buffer = t.buffer;
  parts = t.parts;
  size = t.size;
  peer = member site t.comm t.peer;
  tag = t.tag;
  comm = t.comm;
}
