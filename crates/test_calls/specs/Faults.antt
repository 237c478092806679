-- The first check that fails, of calls that are wrong in two ways, and of those at a limit.
use Rattle.std.specs.Prelude.{◌≡◌, ℕ, ◌-◌, ◌^◌, List, [], ◌∷◌, map, Option, Some, None}
use Rattle.mp_types.specs.declared.codes.Code.{Code}
use Rattle.mp_types.specs.declared.codes.Code.TheVariants as code
use Rattle.mp_request.specs.Table.{no_requests}
use Rattle.cl_calls.specs.declared.calls.Call.{Call}
use Rattle.cl_calls.specs.declared.calls.Claimed.{Claimed}
use Rattle.cl_calls.specs.declared.calls.Probing.{Probing}
use Rattle.cl_calls.specs.Calls.{any, no_rank}
use Rattle.cl_calls.specs.Needs.{needs_of}
use Rattle.cl_calls.specs.Checks.{checks, first_fault}
use Rattle.cl_state.specs.Rows.{first_of_two, small_memory}
use Rattle.cl_state_laws.specs.CallRows.{receiving, sending}
use Rattle.cl_state_laws.specs.RequestRows.{full}
use Rattle.cl_state_laws.specs.SeveralRows.{code_of_several, several}

-- with no requests, where the output has so many bytes
abbrev pub code_with_output : ℕ → Call → Option Code
code_with_output written call = first_fault (checks first_of_two small_memory no_requests [] written (needs_of call))

abbrev pub claimed : ℕ → ℕ → Claimed
claimed buffer capacity = record { buffer = buffer; capacity = capacity; message = 5 }

abbrev pub probing : ℕ → ℕ → ℕ → ℕ → Probing
probing source tag comm status = record { source = source; tag = tag; comm = comm; status = status }

-- the communicator, then the rank, then the tag, then the count, then the buffer
abbrev pub order : List (Call × Option Code)
order =
    (Call.Send (sending 63 4097 2 32768 1), Some code.BadComm) ∷
    (Call.Send (sending 63 4097 2 32768 0), Some code.BadRank) ∷
    (Call.Send (sending 63 4097 1 32768 0), Some code.BadTag) ∷
    (Call.Send (sending 63 4097 1 32767 0), Some code.BadCount) ∷
    (Call.Send (sending 63 4096 1 32767 0), Some code.BadBuffer) ∷
    (Call.Send (sending 63 1 1 32767 0), None) ∷
    []

abbrev pub OrderRows : Type 0
OrderRows = map (λ row. code_with_output 0 row.0) order ≡ map (λ row. row.1) order

-- each call that needs a communicator, a rank, a tag, bytes or a status
abbrev pub kinds : List (Call × Option Code)
kinds =
    (Call.Size 1, Some code.BadComm) ∷
    (Call.Ssend (sending 8 1 any 7 0), Some code.BadRank) ∷
    (Call.Issend (sending 8 1 1 any 0), Some code.BadTag) ∷
    (Call.SendInit (sending 63 2 1 7 0), Some code.BadBuffer) ∷
    (Call.Irecv (receiving 4 4 any any 0), Some code.BadBuffer) ∷
    (Call.RecvInit (receiving 8 4 2 any 0), Some code.BadRank) ∷
    (Call.Iprobe (probing any any 1 0), Some code.BadComm) ∷
    (Call.Probe (probing 2 any 0 0), Some code.BadRank) ∷
    (Call.Improbe (probing any 32768 0 0), Some code.BadTag) ∷
    (Call.Mprobe (probing no_rank any 0 4), Some code.BadBuffer) ∷
    (Call.Mprobe (probing no_rank any 0 40), None) ∷
    (Call.Imrecv (claimed 4 4), Some code.BadBuffer) ∷
    (Call.Mrecv (claimed 8 4097) 0, Some code.BadCount) ∷
    (Call.Mrecv (claimed 8 4) 4, Some code.BadBuffer) ∷
    (Call.Mrecv (claimed 8 4) 40, None) ∷
    (Call.Waitall (several 60 256 4), Some code.BadCount) ∷
    (Call.Waitall (several 60 2 4), Some code.BadBuffer) ∷
    (Call.Hart, None) ∷
    []

abbrev pub KindRows : Type 0
KindRows = map (λ row. code_with_output 0 row.0) kinds ≡ map (λ row. row.1) kinds

-- the output takes 1,048,576 bytes, and where it is full PUT of no bytes is right
abbrev pub outputs : List (ℕ × Call × Option Code)
outputs =
    (2 ^ 20 - 3, Call.Put 8 3, None) ∷
    (2 ^ 20 - 3, Call.Put 8 4, Some code.Full) ∷
    (2 ^ 20, Call.Put 8 1, Some code.Full) ∷
    (2 ^ 20, Call.Put 8 0, None) ∷
    (2 ^ 20, Call.Put 63 2, Some code.BadBuffer) ∷
    (2 ^ 20, Call.Exit 0, None) ∷
    []

abbrev pub OutputRows : Type 0
OutputRows = map (λ row. code_with_output row.0 row.1) outputs ≡ map (λ row. row.2) outputs

-- two statuses at 40 don't fit in 64 bytes, and one does; the second handle stands 8 bytes behind the first
abbrev pub SeveralStatuses : Type 0
SeveralStatuses =
    (code_of_several 0 0 (several 16 1 40) ≡ None)
    × (code_of_several 0 0 (several 16 2 40) ≡ Some code.BadBuffer)
    × (code_of_several 1 9 (several 16 1 0) ≡ None)
    × (code_of_several 1 9 (several 16 2 0) ≡ Some code.BadRequest)

-- where no handle is free only what opens a request is refused
abbrev pub code_where_full : Call → Option Code
code_where_full call = first_fault (checks first_of_two small_memory full [] 0 (needs_of call))

abbrev pub full_table : List (Call × Option Code)
full_table =
    (Call.Isend (sending 8 1 1 7 0), Some code.Full) ∷
    (Call.Issend (sending 8 1 1 7 0), Some code.Full) ∷
    (Call.Irecv (receiving 8 4 any any 0), Some code.Full) ∷
    (Call.Imrecv (claimed 8 4), Some code.Full) ∷
    (Call.SendInit (sending 8 1 1 7 0), Some code.Full) ∷
    (Call.RecvInit (receiving 8 4 any any 0), Some code.Full) ∷
    (Call.Recv (receiving 8 4 any any 0) 0, None) ∷
    (Call.Mrecv (claimed 8 4) 0, None) ∷
    []

abbrev pub FullTableRows : Type 0
FullTableRows = map (λ row. code_where_full row.0) full_table ≡ map (λ row. row.1) full_table
