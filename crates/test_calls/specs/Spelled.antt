-- The call of each number, with its arguments.
use Rattle.std.specs.Prelude.{◌≡◌, ℕ, [], ◌∷◌, map, replicate}
use Rattle.cl_calls.specs.declared.calls.Call.{Call}
use Rattle.cl_calls.specs.declared.calls.Claimed.{Claimed}
use Rattle.cl_calls.specs.declared.calls.Completing.{Completing}
use Rattle.cl_calls.specs.declared.calls.Partitioning.{Partitioning}
use Rattle.cl_calls.specs.declared.calls.Probing.{Probing}
use Rattle.cl_calls.specs.declared.calls.Receiving.{Receiving}
use Rattle.cl_calls.specs.declared.calls.Sending.{Sending}
use Rattle.cl_calls.specs.declared.calls.Several.{Several}
use Rattle.cl_calls.specs.Calls.{call_named}
use Rattle.cl_state.specs.Rows.{calling}

-- the call of this number whose arguments a0 to a5 are 1 to 6
abbrev pub spelled : ℕ → Call
spelled number = call_named (calling (1 ∷ 2 ∷ 3 ∷ 4 ∷ 5 ∷ 6 ∷ []) number)

abbrev pub sending : Sending
sending = record { buffer = 1; count = 2; dest = 3; tag = 4; comm = 5 }

abbrev pub receiving : Receiving
receiving = record { buffer = 1; capacity = 2; source = 3; tag = 4; comm = 5 }

abbrev pub claimed : Claimed
claimed = record { buffer = 1; capacity = 2; message = 3 }

abbrev pub probing : Probing
probing = record { source = 1; tag = 2; comm = 3; status = 4 }

abbrev pub completing : Completing
completing = record { handle = 1; status = 2 }

abbrev pub several : Several
several = record { array = 1; count = 2; statuses = 3 }

abbrev pub partitioning : Partitioning
partitioning = record { buffer = 1; parts = 2; size = 3; peer = 4; tag = 5; comm = 6 }

-- 0 to 4: of the rank itself
abbrev pub LocalCalls : Type 0
LocalCalls =
    map spelled (0 ∷ 1 ∷ 2 ∷ 3 ∷ 4 ∷ []) ≡ Call.Exit 1 ∷ Call.Put 1 2 ∷ Call.Rank 1 ∷ Call.Size 1 ∷ Call.Hart ∷ []

-- 16 to 21: sends and receives
abbrev pub TransferCalls : Type 0
TransferCalls =
    map spelled (16 ∷ 17 ∷ 18 ∷ 19 ∷ 20 ∷ 21 ∷ [])
    ≡ Call.Send sending ∷ Call.Ssend sending ∷ Call.Recv receiving 6 ∷ Call.Isend sending ∷ Call.Issend sending
    ∷ Call.Irecv receiving ∷ []

-- 24 to 29: probes and claimed messages
abbrev pub ProbeCalls : Type 0
ProbeCalls =
    map spelled (24 ∷ 25 ∷ 26 ∷ 27 ∷ 28 ∷ 29 ∷ [])
    ≡ Call.Iprobe probing ∷ Call.Probe probing ∷ Call.Improbe probing ∷ Call.Mprobe probing ∷ Call.Imrecv claimed
    ∷ Call.Mrecv claimed 4 ∷ []

-- 22, 23 and 30 to 35: of requests
abbrev pub RequestCalls : Type 0
RequestCalls =
    map spelled (22 ∷ 23 ∷ 30 ∷ 31 ∷ 32 ∷ 33 ∷ 34 ∷ 35 ∷ [])
    ≡ Call.Test completing ∷ Call.Wait completing ∷ Call.SendInit sending ∷ Call.RecvInit receiving ∷ Call.Start 1
    ∷ Call.RequestFree 1
    ∷ Call.Testall several ∷ Call.Waitall several ∷ []

-- 40 to 43: of partitioned transfers
abbrev pub PartitionedCalls : Type 0
PartitionedCalls =
    map spelled (40 ∷ 41 ∷ 42 ∷ 43 ∷ [])
    ≡ Call.PsendInit partitioning ∷ Call.PrecvInit partitioning ∷ Call.Pready 1 2 ∷ Call.Parrived 1 2 ∷ []

-- those between, and those above
abbrev pub NoCalls : Type 0
NoCalls = map spelled (5 ∷ 15 ∷ 36 ∷ 39 ∷ 44 ∷ 64 ∷ 272 ∷ []) ≡ replicate 7 Call.Unknown
