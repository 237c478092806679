-- What partitioned calls need (MPI 4.1, chapter 4.2), and the first check that fails of them.
use Rattle.std.specs.Prelude.{◌≡◌, ℕ, ◌-◌, ◌^◌, List, [], ◌∷◌, ◌++◌, map, replicate, set, Option, Some, None, true}
use Rattle.std.specs.Prelude.{false}
use Rattle.rv_memory.specs.Memory.{Memory}
use Rattle.rv_image_types.specs.declared.images.ImageVersion.{ImageVersion}
use Rattle.rv_image_types.specs.declared.images.ImageVersion.TheVariants.{One, Two}
use Rattle.mp_types.specs.declared.codes.Code.{Code}
use Rattle.mp_types.specs.declared.codes.Code.TheVariants as code
use Rattle.mp_request.specs.declared.entries.OpenRequest.{OpenRequest}
use Rattle.mp_request.specs.declared.entries.Partitions.{Partitions}
use Rattle.mp_request.specs.declared.entries.Progress.TheVariants.{Sent, InPhase}
use Rattle.mp_request.specs.declared.entries.State.TheVariants.{Ordinary, Inactive, Active}
use Rattle.mp_request.specs.declared.entries.Transfer.TheVariants.{Send, SendPartitions, ReceivePartitions}
use Rattle.mp_request.specs.Table.{Table, no_requests}
use Rattle.part_phase.specs.declared.phases.Phase.{Phase}
use Rattle.part_phase.specs.declared.phases.Phase.TheVariants.{Sending, Receiving}
use Rattle.part_phase.specs.Receiving.{shaped_receiving, unshaped_receiving}
use Rattle.part_phase.specs.Sending.{none_marked}
use Rattle.cl_calls.specs.declared.calls.Call.{Call}
use Rattle.cl_calls.specs.declared.calls.Partitioning.{Partitioning}
use Rattle.cl_calls.specs.declared.sites.Site.{Site}
use Rattle.cl_calls.specs.Calls.{any, no_rank}
use Rattle.cl_calls.specs.Needs.{needs_of}
use Rattle.cl_calls.specs.Checks.{checks, first_fault}
use Rattle.cl_state.specs.Rows.{first_of_two, one_page}
use Rattle.cl_state_laws.specs.RequestRows.{full}

-- rank 0 of 2 in an image of a version, with 8 bytes of text and 152 behind them
abbrev pub site_of : ImageVersion → Site
site_of version = record first_of_two { version = version }

abbrev pub memory : Memory
memory = record { bytes = replicate 160 0; text = 8; pages = one_page }

abbrev pub code_in : ImageVersion → Table → Call → Option Code
code_in version table call = first_fault (checks (site_of version) memory table [] 0 (needs_of call))

-- partitions of a transfer with rank 1, tag 7, in the communicator of all, from address 8 on
abbrev pub shape : ℕ → ℕ → Partitioning
shape parts size = record { buffer = 8; parts = parts; size = size; peer = 1; tag = 7; comm = 0 }

abbrev pub codes_of_shapes : ImageVersion → List (ℕ × ℕ) → List (Option Code)
codes_of_shapes version shapes = map (λ s. code_in version no_requests (Call.PsendInit (shape s.0 s.1))) shapes

-- 1 to 16 partitions, of 8 to 64 bytes in version 1 and to 128 in version 2, in whole 8s
abbrev pub ShapeRows : Type 0
ShapeRows =
    (codes_of_shapes One ((0, 8) ∷ (1, 8) ∷ (16, 8) ∷ (17, 8) ∷ (2 ^ 64 - 1, 8) ∷ [])
    ≡ Some code.BadPartition ∷ None ∷ None ∷ Some code.BadPartition ∷ Some code.BadPartition ∷ [])
    ×
    (codes_of_shapes One ((1, 0) ∷ (1, 12) ∷ (1, 64) ∷ (1, 72) ∷ (1, 2 ^ 64 - 8) ∷ [])
    ≡ Some code.BadCount ∷ Some code.BadCount ∷ None ∷ Some code.BadCount ∷ Some code.BadCount ∷ [])
    ×
    (codes_of_shapes Two ((1, 72) ∷ (1, 128) ∷ (1, 136) ∷ (0, 8) ∷ (17, 8) ∷ [])
    ≡ None ∷ None ∷ Some code.BadCount ∷ Some code.BadPartition ∷ Some code.BadPartition ∷ [])

-- the communicator, then the rank, the tag, the number of partitions, the bytes of each, the range, and a free handle
abbrev pub sides : List (Partitioning × Option Code)
sides =
    (record { buffer = 64; parts = 17; size = 72; peer = any; tag = any; comm = 1 }, Some code.BadComm) ∷
    (record { buffer = 64; parts = 17; size = 72; peer = any; tag = any; comm = 0 }, Some code.BadRank) ∷
    (record { buffer = 64; parts = 17; size = 72; peer = no_rank; tag = any; comm = 0 }, Some code.BadRank) ∷
    (record { buffer = 64; parts = 17; size = 72; peer = 2; tag = any; comm = 0 }, Some code.BadRank) ∷
    (record { buffer = 64; parts = 17; size = 72; peer = 1; tag = any; comm = 0 }, Some code.BadTag) ∷
    (record { buffer = 64; parts = 17; size = 72; peer = 1; tag = 32768; comm = 0 }, Some code.BadTag) ∷
    (record { buffer = 64; parts = 17; size = 72; peer = 1; tag = 32767; comm = 0 }, Some code.BadPartition) ∷
    (record { buffer = 64; parts = 16; size = 72; peer = 1; tag = 32767; comm = 0 }, Some code.BadCount) ∷
    (record { buffer = 64; parts = 16; size = 8; peer = 1; tag = 32767; comm = 0 }, Some code.BadBuffer) ∷
    (record { buffer = 64; parts = 12; size = 8; peer = 1; tag = 32767; comm = 0 }, Some code.Full) ∷
    -- a rank may be its own other side
    (record { buffer = 64; parts = 12; size = 8; peer = 0; tag = 0; comm = 0 }, Some code.Full) ∷
    []

-- a sender reads its partitions, and a receiver writes them outside the text
abbrev pub SideRows : Type 0
SideRows =
    (map (λ row. code_in One full (Call.PsendInit row.0)) sides ≡ map (λ row. row.1) sides)
    × (map (λ row. code_in One full (Call.PrecvInit row.0)) sides ≡ map (λ row. row.1) sides)
    × (code_in One no_requests (Call.PsendInit (record (shape 2 8) { buffer = 0 })) ≡ None)
    × (code_in One no_requests (Call.PrecvInit (record (shape 2 8) { buffer = 0 })) ≡ Some code.BadBuffer)
    × (code_in One no_requests (Call.PrecvInit (shape 2 8)) ≡ None)

-- handle 1 sends 2 partitions and handle 2 receives 2, handle 3 is an ordinary send, and no other is open
abbrev pub side : ℕ → Partitions
side link = record { link = link; buffer = 8; parts = 2; size = 8; peer = 1; tag = 7; comm = 0 }

abbrev pub opened : List OpenRequest
opened =
    record { transfer = SendPartitions (side 0); state = Active InPhase } ∷
    record { transfer = ReceivePartitions (side 1); state = Inactive } ∷
    record { transfer = Send false 8 1 1 7 0; state = Ordinary (Sent 1) } ∷
    []

abbrev pub table : Table
table = map (λ r. Some r) opened ++ replicate 252 None

-- partition 1 is ready, and so many are freed
abbrev pub with_freed : ℕ → List Phase
with_freed freed =
    Sending (record { parts = 2; size = 8; ready = set none_marked 1 true; freed = freed }) ∷
    Receiving (shaped_receiving 2 8 unshaped_receiving) ∷
    []

abbrev pub code_with : ℕ → Call → Option Code
code_with freed call = first_fault (checks first_of_two memory table (with_freed freed) 0 (needs_of call))

-- while none is freed a phase is going on, and with both it has ended
abbrev pub parts : List (ℕ × Call × Option Code)
parts =
    (0, Call.Pready 1 0, None) ∷
    (0, Call.Pready 1 1, Some code.AlreadyReady) ∷
    (0, Call.Pready 1 2, Some code.BadPartition) ∷
    (0, Call.Pready 1 (2 ^ 64 - 1), Some code.BadPartition) ∷
    (2, Call.Pready 1 0, Some code.NotActive) ∷
    (2, Call.Pready 1 1, Some code.NotActive) ∷
    (2, Call.Pready 1 2, Some code.BadPartition) ∷
    (0, Call.Parrived 2 1, None) ∷
    (0, Call.Parrived 2 2, Some code.BadPartition) ∷
    []

-- the null request, one that isn't open, an ordinary one, and the other side
abbrev pub others : List (Call × Option Code)
others =
    (Call.Pready 0 0, Some code.BadRequest) ∷
    (Call.Pready 2 0, Some code.BadRequest) ∷
    (Call.Pready 3 9, Some code.BadRequest) ∷
    (Call.Pready 4 0, Some code.BadRequest) ∷
    (Call.Parrived 0 0, Some code.BadRequest) ∷
    (Call.Parrived 1 9, Some code.BadRequest) ∷
    (Call.Parrived 3 0, Some code.BadRequest) ∷
    (Call.Start 0, Some code.BadRequest) ∷
    (Call.Start 1, Some code.Active) ∷
    (Call.Start 2, None) ∷
    (Call.Start 3, Some code.BadRequest) ∷
    (Call.RequestFree 0, Some code.BadRequest) ∷
    (Call.RequestFree 1, Some code.Active) ∷
    (Call.RequestFree 2, None) ∷
    []

abbrev pub PartRows : Type 0
PartRows =
    (map (λ row. code_with row.0 row.1) parts ≡ map (λ row. row.2) parts)
    × (map (λ row. code_with 0 row.0) others ≡ map (λ row. row.1) others)
