-- The calls: their numbers, their names and their arguments.
use Rattle.std.specs.Prelude.{ℕ, ◌+◌, ◌-◌, ◌^◌, ◌==◌, if◌then◌else◌, List, [], ◌∷◌, codes}
use Rattle.rv_hart.specs.State.{State, read}
use Rattle.cl_calls.specs.declared.calls.Call.{Call}
use Rattle.cl_calls.specs.declared.calls.Call.TheVariants as call
use Rattle.cl_calls.specs.declared.calls.Claimed.{Claimed}
use Rattle.cl_calls.specs.declared.calls.Completing.{Completing}
use Rattle.cl_calls.specs.declared.calls.Partitioning.{Partitioning}
use Rattle.cl_calls.specs.declared.calls.Probing.{Probing}
use Rattle.cl_calls.specs.declared.calls.Receiving.{Receiving}
use Rattle.cl_calls.specs.declared.calls.Sending.{Sending}
use Rattle.cl_calls.specs.declared.calls.Several.{Several}

-- ANY_SOURCE and ANY_TAG are -1, PROC_NULL is -2 (MPI 4.1, 3.2.4 and 3.11), in 64 bits
abbrev pub any : ℕ
any = 2 ^ 64 - 1

abbrev pub no_rank : ℕ
no_rank = 2 ^ 64 - 2

-- MESSAGE_NO_PROC (3.8.2), in 64 bits
abbrev pub no_message : ℕ
no_message = 2 ^ 64 - 2

-- argument n stands in register a0 + n, which is x10 + n
abbrev pub argument : State → ℕ → ℕ
argument hart n = read hart (10 + n)

-- the arguments a 0, a 1, .. of the calls that send, that receive, that receive a claimed message, that probe, and that
-- complete a request
abbrev pub sending_by : (ℕ → ℕ) → Sending
sending_by a = record { buffer = a 0; count = a 1; dest = a 2; tag = a 3; comm = a 4 }

abbrev pub receiving_by : (ℕ → ℕ) → Receiving
receiving_by a = record { buffer = a 0; capacity = a 1; source = a 2; tag = a 3; comm = a 4 }

abbrev pub claimed_by : (ℕ → ℕ) → Claimed
claimed_by a = record { buffer = a 0; capacity = a 1; message = a 2 }

abbrev pub probing_by : (ℕ → ℕ) → Probing
probing_by a = record { source = a 0; tag = a 1; comm = a 2; status = a 3 }

abbrev pub completing_by : (ℕ → ℕ) → Completing
completing_by a = record { handle = a 0; status = a 1 }

-- and of the calls that complete several
abbrev pub several_by : (ℕ → ℕ) → Several
several_by a = record { array = a 0; count = a 1; statuses = a 2 }

-- and of the calls that begin a partitioned transfer (chapter 4.2): the buffer, its partitions, and the other side
abbrev pub partitioning_by : (ℕ → ℕ) → Partitioning
partitioning_by a = record { buffer = a 0; parts = a 1; size = a 2; peer = a 3; tag = a 4; comm = a 5 }

-- a call's row: its number, which stands in a7, its name, as docs/CALLS.md lists it, and the call with its arguments
pub record CallRow : Type 0 where
  pub number : ℕ
  pub name : List ℕ
  pub call : Call

abbrev pub call_at : ℕ → List ℕ → Call → CallRow
call_at number name call = record { number = number; name = name; call = call }

-- the one table of the calls, with the arguments a 0, a 1, ..
abbrev pub call_rows : (ℕ → ℕ) → List CallRow
call_rows a =
    call_at 0 (codes "EXIT") (call.Exit (a 0)) ∷
    call_at 1 (codes "PUT") (call.Put (a 0) (a 1)) ∷
    call_at 2 (codes "RANK") (call.Rank (a 0)) ∷
    call_at 3 (codes "SIZE") (call.Size (a 0)) ∷
    call_at 4 (codes "HART") call.Hart ∷
    call_at 16 (codes "SEND") (call.Send (sending_by a)) ∷
    call_at 17 (codes "SSEND") (call.Ssend (sending_by a)) ∷
    call_at 18 (codes "RECV") (call.Recv (receiving_by a) (a 5)) ∷
    call_at 19 (codes "ISEND") (call.Isend (sending_by a)) ∷
    call_at 20 (codes "ISSEND") (call.Issend (sending_by a)) ∷
    call_at 21 (codes "IRECV") (call.Irecv (receiving_by a)) ∷
    call_at 22 (codes "TEST") (call.Test (completing_by a)) ∷
    call_at 23 (codes "WAIT") (call.Wait (completing_by a)) ∷
    call_at 24 (codes "IPROBE") (call.Iprobe (probing_by a)) ∷
    call_at 25 (codes "PROBE") (call.Probe (probing_by a)) ∷
    call_at 26 (codes "IMPROBE") (call.Improbe (probing_by a)) ∷
    call_at 27 (codes "MPROBE") (call.Mprobe (probing_by a)) ∷
    call_at 28 (codes "IMRECV") (call.Imrecv (claimed_by a)) ∷
    call_at 29 (codes "MRECV") (call.Mrecv (claimed_by a) (a 3)) ∷
    call_at 30 (codes "SEND_INIT") (call.SendInit (sending_by a)) ∷
    call_at 31 (codes "RECV_INIT") (call.RecvInit (receiving_by a)) ∷
    call_at 32 (codes "START") (call.Start (a 0)) ∷
    call_at 33 (codes "REQUEST_FREE") (call.RequestFree (a 0)) ∷
    call_at 34 (codes "TESTALL") (call.Testall (several_by a)) ∷
    call_at 35 (codes "WAITALL") (call.Waitall (several_by a)) ∷
    call_at 40 (codes "PSEND_INIT") (call.PsendInit (partitioning_by a)) ∷
    call_at 41 (codes "PRECV_INIT") (call.PrecvInit (partitioning_by a)) ∷
    call_at 42 (codes "PREADY") (call.Pready (a 0) (a 1)) ∷
    call_at 43 (codes "PARRIVED") (call.Parrived (a 0) (a 1)) ∷
    []

-- the call in the row of a number; where there is no such row, no call
abbrev pub row_at : ℕ → List CallRow → Call
row_at number [] = call.Unknown
row_at number (row ∷ rows) = if (number == row.number) then row.call else row_at number rows

-- the call that a hart's registers spell: its number stands in a7
abbrev pub call_named : State → Call
call_named hart = row_at (argument hart 7) (call_rows (argument hart))
