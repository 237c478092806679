-- The checks of a call, in their order. The first that fails gives the code.
use Rattle.std.specs.Prelude.{ℕ, ◌+◌, ◌*◌, ◌^◌, ◌==◌, if◌then◌else◌, List, [], ◌∷◌, ◌++◌, length, Option, Some, None}
use Rattle.std.specs.Prelude.{Bool, true, not, ◌&&◌, ◌||◌, nat_le, nat_lt, is_some}
use Rattle.rv_memory.specs.Memory.{Memory}
use Rattle.rv_memory.specs.Access.{is_readable, is_writable}
use Rattle.mp_types.specs.declared.codes.Code.{Code}
use Rattle.mp_types.specs.declared.codes.Code.TheVariants.{BadCall, BadRequest, BadComm, BadRank, BadTag, BadPartition}
use Rattle.mp_types.specs.declared.codes.Code.TheVariants.{BadCount, BadBuffer, Active, NotActive, AlreadyReady, Full}
use Rattle.mp_request.specs.Entries.{is_persistent, is_active}
use Rattle.mp_request.specs.Table.{Table, request_at, has, lowest_free, may_be_tested}
use Rattle.mp_request.specs.declared.entries.OpenRequest.{OpenRequest}
use Rattle.mp_request.specs.declared.entries.Partitions.{Partitions as Side}
use Rattle.mp_request.specs.declared.entries.Transfer.{Transfer}
use Rattle.mp_request.specs.declared.entries.Transfer.TheVariants.{SendPartitions, ReceivePartitions}
use Rattle.part_phase.specs.declared.phases.Phase.{Phase}
use Rattle.part_phase.specs.declared.receiving.RecvPhase.{RecvPhase}
use Rattle.part_phase.specs.declared.sending.SendPhase.{SendPhase}
use Rattle.part_phase.specs.Limits.{are_parts, is_size}
use Rattle.part_phase.specs.Phases.{sending_at, receiving_at}
use Rattle.part_phase.specs.Sending.{all_freed, is_part_ready}
use Rattle.rv_image_types.specs.declared.images.ImageVersion.{ImageVersion}
use Rattle.cl_calls.specs.Handles.{handles_in}
use Rattle.cl_calls.specs.declared.needs.Array.{Array}
use Rattle.cl_calls.specs.declared.needs.Named.{Named}
use Rattle.cl_calls.specs.declared.needs.Named.TheVariants.{Nothing, NullOrOpen, Persistent, Open, SendPart}
use Rattle.cl_calls.specs.declared.needs.Named.TheVariants.{ReceivePart}
use Rattle.cl_calls.specs.declared.needs.Needs.{Needs}
use Rattle.cl_calls.specs.declared.needs.Region.{Region}
use Rattle.cl_calls.specs.declared.needs.Peer.{Peer}
use Rattle.cl_calls.specs.declared.needs.Range.{Range}
use Rattle.cl_calls.specs.declared.needs.Statuses.{Statuses}
use Rattle.cl_calls.specs.declared.needs.Tag.{Tag}
use Rattle.cl_calls.specs.Calls.{any, no_rank}
use Rattle.cl_calls.specs.declared.sites.Site.{Site}
use Rattle.cl_calls.specs.Site.{members, position_of}

-- the side of a partitioned transfer that a request has (MPI 4.1, 4.2): the sender's, or the receiver's
abbrev pub sends_in : Transfer → Option Side
sends_in (SendPartitions side) = Some side
sends_in _ = None

abbrev pub sending_side : Option OpenRequest → Option Side
sending_side None = None
sending_side (Some r) = sends_in r.transfer

abbrev pub receives_in : Transfer → Option Side
receives_in (ReceivePartitions side) = Some side
receives_in _ = None

abbrev pub receiving_side : Option OpenRequest → Option Side
receiving_side None = None
receiving_side (Some r) = receives_in r.transfer

-- the handle names what it has to name (3.7.3, 3.9 and 4.2); handle 0 is the null request
abbrev pub is_named : Table → Named → Bool
is_named table Nothing = true
is_named table (NullOrOpen handle) = (handle == 0) || is_some (request_at table handle)
is_named table (Persistent handle) = has is_persistent table handle
is_named table (Open handle) = is_some (request_at table handle)
is_named table (SendPart handle part) = is_some (sending_side (request_at table handle))
is_named table (ReceivePart handle part) = is_some (receiving_side (request_at table handle))

-- a request that is started or freed isn't active
abbrev pub is_idle : Table → Named → Bool
is_idle table Nothing = true
is_idle table (NullOrOpen handle) = true
is_idle table (Persistent handle) = not (has is_active table handle)
is_idle table (Open handle) = not (has is_active table handle)
is_idle table (SendPart handle part) = true
is_idle table (ReceivePart handle part) = true

-- what holds of the phase of the side that a request has
abbrev pub holds_of_sender : (SendPhase → Bool) → List Phase → Option Side → Bool
holds_of_sender holds phases None = true
holds_of_sender holds phases (Some side) = holds (sending_at phases side.link)

abbrev pub holds_of_receiver : (RecvPhase → Bool) → List Phase → Option Side → Bool
holds_of_receiver holds phases None = true
holds_of_receiver holds phases (Some side) = holds (receiving_at phases side.link)

-- a partition that is named is one of the side's own
abbrev pub is_part : Table → List Phase → Named → Bool
is_part table phases (SendPart handle part) =
    holds_of_sender (λ p. nat_lt part p.parts) phases (sending_side (request_at table handle))
is_part table phases (ReceivePart handle part) =
    holds_of_receiver (λ p. nat_lt part p.parts) phases (receiving_side (request_at table handle))
is_part table phases _ = true

-- a partition is made ready while a phase is going on (4.2.2), and once in it
abbrev pub is_going : Table → List Phase → Named → Bool
is_going table phases (SendPart handle part) =
    holds_of_sender (λ p. not (all_freed p)) phases (sending_side (request_at table handle))
is_going table phases _ = true

abbrev pub is_unready : Table → List Phase → Named → Bool
is_unready table phases (SendPart handle part) =
    holds_of_sender (λ p. not (is_part_ready p part)) phases (sending_side (request_at table handle))
is_unready table phases _ = true

-- at most as many handles as a rank has
abbrev pub is_few : Array → Bool
is_few handles = nat_le handles.count 255

-- the array lies in the memory
abbrev pub is_array : Memory → Array → Bool
is_array memory handles = is_readable memory handles.address (8 * handles.count)

-- requests that may be completed together (3.7.5): none is partitioned, and no active one is named twice
abbrev pub are_named : Memory → Table → Array → Bool
are_named memory table handles = may_be_tested table (handles_in memory handles)

-- the caller is a member of the communicator
abbrev pub is_comm : Site → Option ℕ → Bool
is_comm site None = true
is_comm site (Some comm) = is_some (position_of site.number (members site comm))

-- a position of the communicator, or what may stand for one
abbrev pub is_peer : Site → Option ℕ → Option Peer → Bool
is_peer site None peer = true
is_peer site (Some comm) None = true
is_peer site (Some comm) (Some peer) =
    nat_lt peer.rank (length (members site comm))
    || (peer.any && (peer.rank == any))
    || (peer.null && (peer.rank == no_rank))

abbrev pub is_tag : Tag → Bool
is_tag t = nat_le t.tag 32767 || (t.any && (t.tag == any))

-- a shape inside the limits: the number of partitions, and the bytes of each
abbrev pub has_parts : Option Region → Bool
has_parts None = true
has_parts (Some t) = are_parts t.parts

abbrev pub has_size : ImageVersion → Option Region → Bool
has_size version None = true
has_size version (Some t) = is_size version t.size

-- all partitions lie in the memory, outside the text where they are written
abbrev pub has_region : Memory → Option Region → Bool
has_region memory None = true
has_region memory (Some t) =
    if t.writing then is_writable memory t.address (t.parts * t.size)
    else is_readable memory t.address (t.parts * t.size)

-- messages have at most 4,096 bytes
abbrev pub is_count : Range → Bool
is_count buffer = nat_le buffer.count 4096

abbrev pub is_buffer : Memory → Range → Bool
is_buffer memory buffer =
    if buffer.writing then is_writable memory buffer.address buffer.count
    else is_readable memory buffer.address buffer.count

-- a status has 24 bytes; address 0 means that none is wanted
abbrev pub are_statuses : Memory → Statuses → Bool
are_statuses memory statuses = (statuses.address == 0) || is_writable memory statuses.address (24 * statuses.count)

-- the output has at most 1,048,576 bytes
abbrev pub has_room : ℕ → ℕ → Bool
has_room written growth = (growth == 0) || nat_le (written + growth) (2 ^ 20)

-- a request is opened at a handle that is free
abbrev pub has_slot : Table → Bool → Bool
has_slot table slot = not slot || is_some (lowest_free table)

-- what the call names: itself, requests, and whom it concerns. Where an array is too long or isn't in the memory, no
-- handle is read
abbrev pub name_checks : Site → Memory → Table → Needs → List (Bool × Code)
name_checks site memory table needs =
    (needs.known, BadCall) ∷
    (is_few needs.handles, BadCount) ∷
    (is_array memory needs.handles, BadBuffer) ∷
    (is_named table needs.request && are_named memory table needs.handles, BadRequest) ∷
    (is_comm site needs.comm, BadComm) ∷
    (is_peer site needs.comm needs.peer, BadRank) ∷
    (is_tag needs.tag, BadTag) ∷
    []

-- and then its partitions and bytes, and whether they and its requests stand so that the call may be done
abbrev pub state_checks : Site → Memory → Table → List Phase → ℕ → Needs → List (Bool × Code)
state_checks site memory table phases written needs =
    (has_parts needs.region && is_part table phases needs.request, BadPartition) ∷
    (has_size site.version needs.region && is_count needs.buffer, BadCount) ∷ (
      has_region memory needs.region && is_buffer memory needs.buffer && are_statuses memory needs.statuses,
      BadBuffer,
    ) ∷
    (is_idle table needs.request, Active) ∷
    (is_going table phases needs.request, NotActive) ∷
    (is_unready table phases needs.request, AlreadyReady) ∷
    (has_room written needs.growth && has_slot table needs.slot, Full) ∷
    []

-- all checks, in their order
abbrev pub checks : Site → Memory → Table → List Phase → ℕ → Needs → List (Bool × Code)
checks site memory table phases written needs =
    name_checks site memory table needs ++ state_checks site memory table phases written needs

abbrev pub first_fault : List (Bool × Code) → Option Code
first_fault [] = None
first_fault (check ∷ checks) = if check.0 then first_fault checks else Some check.1
