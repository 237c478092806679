-- The arguments of a call, by the names that docs/CALLS.md gives them: addresses in hex, other numbers in decimals.
use Rattle.std.specs.Prelude.{ℕ, ◌==◌, if◌then◌else◌, List, [], ◌++◌, codes}
use Rattle.std.specs.Fmt.{decimal}
use Rattle.cl_calls.specs.Calls.{any, no_rank}
use Rattle.cl_calls.specs.declared.calls.Call.{Call}
use Rattle.cl_calls.specs.declared.calls.Call.TheVariants as call
use Rattle.cl_calls.specs.declared.calls.Claimed.{Claimed}
use Rattle.cl_calls.specs.declared.calls.Completing.{Completing}
use Rattle.cl_calls.specs.declared.calls.Partitioning.{Partitioning}
use Rattle.cl_calls.specs.declared.calls.Probing.{Probing}
use Rattle.cl_calls.specs.declared.calls.Receiving.{Receiving}
use Rattle.cl_calls.specs.declared.calls.Sending.{Sending}
use Rattle.cl_calls.specs.declared.calls.Several.{Several}
use Rattle.rvmc_places.specs.Places.{hex_text}

-- a rank, a tag or a message: `any` is -1, as ANY_SOURCE and ANY_TAG are; `null` is -2, the null process and its message
abbrev pub wild_text : ℕ → List ℕ
wild_text number =
    if (number == any) then codes "any" else (if (number == no_rank) then codes "null" else decimal number)

-- a buffer, and how many bytes it has
abbrev pub buffer_text : ℕ → List ℕ → ℕ → List ℕ
buffer_text buffer name count = codes " buf=" ++ (hex_text buffer ++ (name ++ decimal count))

-- a tag and a communicator, behind the other rank
abbrev pub match_text : List ℕ → ℕ → ℕ → ℕ → List ℕ
match_text name rank tag comm =
    name ++ (wild_text rank ++ (codes " tag=" ++ (wild_text tag ++ (codes " c=" ++ decimal comm))))

abbrev pub sending_text : Sending → List ℕ
sending_text s = buffer_text s.buffer (codes " count=") s.count ++ match_text (codes " dest=") s.dest s.tag s.comm

abbrev pub receiving_text : Receiving → List ℕ
receiving_text r =
    buffer_text r.buffer (codes " cap=") r.capacity ++ match_text (codes " source=") r.source r.tag r.comm

abbrev pub claimed_text : Claimed → List ℕ
claimed_text m = buffer_text m.buffer (codes " cap=") m.capacity ++ (codes " m=" ++ wild_text m.message)

abbrev pub status_text : ℕ → List ℕ
status_text status = codes " st=" ++ hex_text status

abbrev pub probing_text : Probing → List ℕ
probing_text p = match_text (codes " source=") p.source p.tag p.comm ++ status_text p.status

abbrev pub handle_text : ℕ → List ℕ
handle_text handle = codes " h=" ++ decimal handle

abbrev pub completing_text : Completing → List ℕ
completing_text c = handle_text c.handle ++ status_text c.status

abbrev pub several_text : Several → List ℕ
several_text s =
    codes " array="
    ++ (hex_text s.array ++ (codes " count=" ++ (decimal s.count ++ (codes " statuses=" ++ hex_text s.statuses))))

abbrev pub partitioning_text : List ℕ → Partitioning → List ℕ
partitioning_text name t =
    buffer_text t.buffer (codes " parts=") t.parts
    ++ (codes " size=" ++ (decimal t.size ++ match_text name t.peer t.tag t.comm))

abbrev pub part_text : ℕ → ℕ → List ℕ
part_text handle part = handle_text handle ++ (codes " partition=" ++ decimal part)

abbrev pub comm_argument : ℕ → List ℕ
comm_argument comm = codes " c=" ++ decimal comm

-- each argument stands behind a blank
abbrev pub arguments_text : Call → List ℕ
arguments_text (call.Exit code) = codes " code=" ++ decimal code
arguments_text (call.Put buffer count) = buffer_text buffer (codes " count=") count
arguments_text (call.Rank comm) = comm_argument comm
arguments_text (call.Size comm) = comm_argument comm
arguments_text (call.Send s) = sending_text s
arguments_text (call.Ssend s) = sending_text s
arguments_text (call.Recv r status) = receiving_text r ++ status_text status
arguments_text (call.Isend s) = sending_text s
arguments_text (call.Issend s) = sending_text s
arguments_text (call.Irecv r) = receiving_text r
arguments_text (call.Test c) = completing_text c
arguments_text (call.Wait c) = completing_text c
arguments_text (call.Iprobe p) = probing_text p
arguments_text (call.Probe p) = probing_text p
arguments_text (call.Improbe p) = probing_text p
arguments_text (call.Mprobe p) = probing_text p
arguments_text (call.Imrecv m) = claimed_text m
arguments_text (call.Mrecv m status) = claimed_text m ++ status_text status
arguments_text (call.SendInit s) = sending_text s
arguments_text (call.RecvInit r) = receiving_text r
arguments_text (call.Start handle) = handle_text handle
arguments_text (call.RequestFree handle) = handle_text handle
arguments_text (call.Testall s) = several_text s
arguments_text (call.Waitall s) = several_text s
arguments_text (call.PsendInit t) = partitioning_text (codes " dest=") t
arguments_text (call.PrecvInit t) = partitioning_text (codes " source=") t
arguments_text (call.Pready handle part) = part_text handle part
arguments_text (call.Parrived handle part) = part_text handle part
arguments_text _ = []
