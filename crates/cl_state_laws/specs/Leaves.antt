-- What a call leaves of its hart, of the other harts and of the memory.
use Rattle.std.specs.Prelude.{◌≡◌, ◌≢◌, ◌<◌, ◌≤◌, ◌⊎◌, ◌==◌, ◌+◌, ◌*◌, if◌then◌else◌, ℕ, List, [], ◌∷◌, ◌++◌, length, get_or}
use Rattle.rv_memory.specs.Memory.{Memory}
use Rattle.rv_hart.specs.State.{State, in_mode}
use Rattle.rv_hart.specs.declared.state.Mode.TheVariants.{Waiting, Ended}
use Rattle.rv_hart.specs.declared.state.Wait.{Wait}
use Rattle.rv_hart.specs.declared.state.Wait.TheVariants.{Again}
use Rattle.mp_types.specs.declared.codes.Code.{Code}
use Rattle.mp_types.specs.declared.codes.Code.TheVariants as code
use Rattle.mp_types.specs.declared.replies.Reply.TheVariants as reply
use Rattle.mp_types.specs.declared.requests.Request.{Request}
use Rattle.mp_request.specs.Table.{Table}
use Rattle.mp_request.specs.declared.entries.Partitions.{Partitions}
use Rattle.part_phase.specs.declared.phases.Phase.{Phase}
use Rattle.part_phase.specs.Phases.{receiving_at}
use Rattle.cl_calls.specs.declared.calls.Call.TheVariants as call
use Rattle.cl_calls.specs.declared.calls.Several.{Several}
use Rattle.cl_calls.specs.Handles.{handles_in}
use Rattle.cl_calls.specs.Needs.{array_at}
use Rattle.cl_state.specs.declared.asking.Ask.{Ask}
use Rattle.cl_state.specs.declared.asking.Answer.{Answer}
use Rattle.cl_state.specs.declared.asking.Doing.{Doing}
use Rattle.cl_state.specs.declared.asking.Doing.TheVariants.{Step, Go, Poll}
use Rattle.cl_state.specs.declared.pending.Pending.{Pending}
use Rattle.cl_state.specs.declared.pending.Pending.TheVariants.{Message as Awaited}
use Rattle.cl_state.specs.declared.pending.Target.{Target}
use Rattle.cl_state.specs.declared.row.Outcome.TheVariants.{Completes, FindsNothing, CompletesAll, Arrives}
use Rattle.cl_state.specs.declared.row.Row.{Row}
use Rattle.cl_state.specs.declared.row.Row.TheVariants.{AtOnce, OnReply, OnBox}
use Rattle.cl_state.specs.declared.row.Visit.TheVariants.{Frees, Takes, Sees}
use Rattle.cl_state.specs.declared.row.Wanted.TheVariants as wanted
use Rattle.cl_state.specs.Rank.{Rank}
use Rattle.cl_state.specs.Asked.{part_of, doing, asked}
use Rattle.cl_state.specs.Several.{pendings}
use Rattle.cl_state.specs.Table.{row_in}
use Rattle.cl_state.specs.Told.{returned, told}

-- a turn that is no instruction
abbrev pub IsNoStep : Doing → Type 0
IsNoStep Step = ⊥
IsNoStep d = Unit {0}

-- ---- the harts

-- a hart whose call ended, that waits, that ended, or that is as it was: no other register and no other pc
pub data IsLeft (old new : State) : Type 0 where
  has_returned : (c : Code) (value : ℕ) → new ≡ returned c value old → IsLeft old new
  is_waiting : (w : Wait) → new ≡ in_mode old (Waiting w) → IsLeft old new
  has_ended : (value : ℕ) → new ≡ in_mode old (Ended value) → IsLeft old new
  is_kept : new ≡ old → IsLeft old new

pub record HartLaw : Type 0 where
  pub own : (rank : Rank) (hart : ℕ) (answer : Answer) (stamp : ℕ) → IsNoStep (doing rank.site (part_of rank hart))
      → hart < length rank.harts
      → IsLeft (part_of rank hart).hart (part_of (told rank hart answer stamp) hart).hart
  pub others : (rank : Rank) (hart other : ℕ) (answer : Answer) (stamp : ℕ) → other ≢ hart
      → (part_of (told rank hart answer stamp) other).hart ≡ (part_of rank other).hart

-- what the hub can't complete yet: WAIT, PROBE, MPROBE and WAITALL are made anew, a poll waits on, each with all its
-- registers; TEST, IPROBE, IMPROBE, TESTALL and PARRIVED end with flag 0; and no post is told so
abbrev pub delayed : Doing → State → State
delayed (Go (call.Wait c)) hart = in_mode hart (Waiting Again)
delayed (Go (call.Probe p)) hart = in_mode hart (Waiting Again)
delayed (Go (call.Mprobe p)) hart = in_mode hart (Waiting Again)
delayed (Go (call.Waitall s)) hart = in_mode hart (Waiting Again)
delayed (Poll c post) hart = hart
delayed (Go (call.Test c)) hart = returned code.Ok 0 hart
delayed (Go (call.Iprobe p)) hart = returned code.Ok 0 hart
delayed (Go (call.Improbe p)) hart = returned code.Ok 0 hart
delayed (Go (call.Testall s)) hart = returned code.Ok 0 hart
delayed (Go (call.Parrived handle part)) hart = returned code.Ok 0 hart
delayed d hart = returned code.BadRequest 0 hart

abbrev pub DelayLaw : Type 0
DelayLaw =
    (rank : Rank) (hart : ℕ) (request : Request) (stamp : ℕ) → asked rank hart ≡ Ask.Hub request
    → hart < length rank.harts
    → (part_of (told rank hart (Answer.Reply reply.NotYet) stamp) hart).hart
    ≡ delayed (doing rank.site (part_of rank hart)) (part_of rank hart).hart

-- ---- the memory

-- addresses: the first, and how many there are
abbrev pub Range : Type 0
Range = ℕ × ℕ

abbrev pub IsOutside : ℕ → Range → Type 0
IsOutside address range = (address < range.0) ⊎ (range.0 + range.1 ≤ address)

abbrev pub IsOutsideAll : ℕ → List Range → Type 0
IsOutsideAll address [] = Unit {0}
IsOutsideAll address (range ∷ ranges) = IsOutside address range × IsOutsideAll address ranges

-- a status is 24 bytes; at address 0 none is wanted
abbrev pub status_range : ℕ → List Range
status_range address = if (address == 0) then [] else (address, 24) ∷ []

-- a receive's buffer, and its status
abbrev pub target_ranges : Target → List Range
target_ranges target = (target.buffer, target.capacity) ∷ status_range target.status

-- the place of a box of a partitioned receive
abbrev pub box_range : List Phase → Partitions → ℕ → Range
box_range phases side box =
    (side.buffer + box * (receiving_at phases side.link).bytes, (receiving_at phases side.link).bytes)

-- the buffers of the receives among several requests
abbrev pub buffers_of : List Pending → List Range
buffers_of [] = []
buffers_of (Awaited post buffer capacity ∷ ps) = (buffer, capacity) ∷ buffers_of ps
buffers_of (p ∷ ps) = buffers_of ps

-- and one status for each request
abbrev pub statuses_range : ℕ → List Pending → List Range
statuses_range address ps = if (address == 0) then [] else (address, 24 * length ps) ∷ []

abbrev pub several_ranges : Memory → Table → Several → List Range
several_ranges memory table s =
    statuses_range s.statuses (pendings table (handles_in memory (array_at s.array s.count)))
    ++ buffers_of (pendings table (handles_in memory (array_at s.array s.count)))

-- where a call may write: what it receives, what it takes from a box, and its statuses
abbrev pub ranges_of : Memory → Table → List Phase → Row → List Range
ranges_of memory table phases (AtOnce (Completes source target)) = status_range target.status
ranges_of memory table phases (AtOnce (FindsNothing value status)) = status_range status
ranges_of memory table phases (AtOnce (Arrives side target)) = status_range target.status
ranges_of memory table phases (AtOnce (CompletesAll value s)) = several_ranges memory table s
ranges_of memory table phases (OnReply m (wanted.MessageOrPost target)) = target_ranges target
ranges_of memory table phases (OnReply m (wanted.Message target)) = target_ranges target
ranges_of memory table phases (OnReply m (wanted.Word target)) = status_range target.status
ranges_of memory table phases (OnReply m (wanted.All value s)) = several_ranges memory table s
ranges_of memory table phases (OnReply m (wanted.Sight value status)) = status_range status
ranges_of memory table phases (OnReply m (wanted.Claim status)) = status_range status
ranges_of memory table phases (OnBox (Frees m link target)) = status_range target.status
ranges_of memory table phases (OnBox (Takes m side box target)) =
    box_range phases side box ∷ status_range target.status
ranges_of memory table phases (OnBox (Sees side box asked)) = box_range phases side box ∷ []
ranges_of memory table phases _ = []

abbrev pub may_write : Rank → ℕ → List Range
may_write rank hart =
    ranges_of rank.memory rank.requests rank.phases
    (row_in rank.site hart rank.memory rank.requests rank.phases (doing rank.site (part_of rank hart)))

-- every byte that a call may not write is as it was
abbrev pub BytesLaw : Type 0
BytesLaw =
    (rank : Rank) (hart : ℕ) (answer : Answer) (stamp address : ℕ) → IsNoStep (doing rank.site (part_of rank hart))
    → IsOutsideAll address (may_write rank hart)
    → get_or (told rank hart answer stamp).memory.bytes address 0 ≡ get_or rank.memory.bytes address 0
