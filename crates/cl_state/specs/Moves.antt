-- What a turn does to the phases of its rank, by what was asked and answered: at most one link's phase changes.
use Rattle.std.specs.Prelude.{◌≡◌, ◌<◌, ℕ, if◌then◌else◌, List, length, slice_get, Option, Some, None, IsTrue, true}
use Rattle.std.specs.Prelude.{false, not}
use Rattle.rv_memory.specs.Memory.{Memory, bytes_at}
use Rattle.mp_types.specs.declared.replies.Reply.TheVariants as reply
use Rattle.mp_types.specs.declared.requests.Request.{Request}
use Rattle.mp_types.specs.declared.requests.Request.TheVariants as request
use Rattle.mp_request.specs.declared.entries.OpenRequest.{OpenRequest}
use Rattle.mp_request.specs.declared.entries.Transfer.{Transfer}
use Rattle.mp_request.specs.declared.entries.Transfer.TheVariants.{SendPartitions, ReceivePartitions}
use Rattle.mp_request.specs.Table.{Table, request_at}
use Rattle.part_phase.specs.declared.phases.Phase.{Phase}
use Rattle.part_phase.specs.declared.receiving.RecvPhase.{RecvPhase}
use Rattle.part_phase.specs.declared.sending.SendPhase.{SendPhase}
use Rattle.part_phase.specs.Limits.{are_parts, box_bytes, is_size}
use Rattle.part_phase.specs.Phases.{begun, changed_at, is_unshaped_receiving, is_unshaped_sending, on_receiving}
use Rattle.part_phase.specs.Phases.{on_sending, receiving_at, sending_at}
use Rattle.part_phase.specs.Receiving.{cut_into, is_cut, is_left, one_taken, shaped_receiving}
use Rattle.part_phase.specs.Sending.{all_freed, is_part_ready, next_to_free, one_freed, readied, shaped_sending}
use Rattle.cl_calls.specs.declared.calls.Call.TheVariants as call
use Rattle.cl_calls.specs.declared.sites.Site.{Site}
use Rattle.cl_state.specs.declared.asking.Answer.{Answer}
use Rattle.cl_state.specs.declared.asking.Answer.TheVariants as answer
use Rattle.cl_state.specs.declared.asking.Ask.{Ask}
use Rattle.cl_state.specs.declared.asking.Ask.TheVariants as ask
use Rattle.cl_state.specs.declared.asking.Doing.{Doing}
use Rattle.cl_state.specs.declared.asking.Doing.TheVariants.{Go}
use Rattle.cl_state.specs.Asked.{asked, doing, part_of}
use Rattle.cl_state.specs.Partitions.{boxed}
use Rattle.cl_state.specs.Rank.{Rank}
use Rattle.cl_state.specs.Told.{told}

-- ---- a phase begins

-- the link of a partitioned request
abbrev pub link_of : Transfer → Option ℕ
link_of (SendPartitions side) = Some side.link
link_of (ReceivePartitions side) = Some side.link
link_of _ = None

abbrev pub link_of_request : Option OpenRequest → Option ℕ
link_of_request None = None
link_of_request (Some r) = link_of r.transfer

-- the link whose phase a turn begins: that of the partitioned request that it starts (MPI 4.1, 4.2.1)
abbrev pub started_in : Table → Doing → Option ℕ
started_in table (Go (call.Start handle)) = link_of_request (request_at table handle)
started_in table _ = None

unfoldable pub started_by : Rank → ℕ → Option ℕ
started_by rank hart = started_in rank.requests (doing rank.site (part_of rank hart))

abbrev pub begun_at : Option ℕ → List Phase → List Phase
begun_at None phases = phases
begun_at (Some link) phases = changed_at link begun phases

-- ---- what an answer does

-- a link shapes the side that the rank has of it, where no transfer has that side
abbrev pub with_sending : ℕ → ℕ → Answer → List Phase → List Phase
with_sending parts size (answer.Reply (reply.Link link)) phases =
    if is_unshaped_sending (slice_get phases link)
    then changed_at link (on_sending (shaped_sending parts size)) phases
    else phases
with_sending parts size _ phases = phases

abbrev pub with_receiving : ℕ → ℕ → Answer → List Phase → List Phase
with_receiving parts size (answer.Reply (reply.Link link)) phases =
    if is_unshaped_receiving (slice_get phases link)
    then changed_at link (on_receiving (shaped_receiving parts size)) phases
    else phases
with_receiving parts size _ phases = phases

-- a cut that fits is known from then on
abbrev pub with_cut : Site → ℕ → Answer → List Phase → List Phase
with_cut site link (answer.Reply (reply.Cut boxes bytes)) phases =
    if is_cut site.version (receiving_at phases link) boxes bytes
    then changed_at link (on_receiving (cut_into boxes bytes)) phases
    else phases
with_cut site link _ phases = phases

-- of the hub's replies a link and a cut alone change a phase
abbrev pub moved_by_hub : Site → Request → Answer → List Phase → List Phase
moved_by_hub site (request.Init true comm peer tag parts size) a phases = with_sending parts size a phases
moved_by_hub site (request.Init false comm peer tag parts size) a phases = with_receiving parts size a phases
moved_by_hub site (request.Cut link) a phases = with_cut site link a phases
moved_by_hub site _ a phases = phases

-- a partition is ready once its box was asked to hold it
abbrev pub with_ready : ℕ → ℕ → Answer → List Phase → List Phase
with_ready link part answer.Alone phases = changed_at link (on_sending (readied part)) phases
with_ready link part _ phases = phases

abbrev pub with_freed : ℕ → Answer → List Phase → List Phase
with_freed link answer.Freed phases = changed_at link (on_sending one_freed) phases
with_freed link _ phases = phases

abbrev pub with_taken : ℕ → ℕ → Answer → List Phase → List Phase
with_taken link box (answer.Taken bytes) phases = changed_at link (on_receiving (one_taken box)) phases
with_taken link box _ phases = phases

-- the phases after a turn that begins this phase, or none, asks this, and is answered so
abbrev pub moved : Site → Option ℕ → Ask → Answer → List Phase → List Phase
moved site begins ask.Local a phases = begun_at begins phases
moved site begins (ask.Hub r) a phases = moved_by_hub site r a phases
moved site begins (ask.Ready link part bytes) a phases = with_ready link part a phases
moved site begins (ask.Freed link part) a phases = with_freed link a phases
moved site begins (ask.Look link box) a phases = with_taken link box a phases
moved site begins _ a phases = phases

-- ---- what a turn that asks knows of the phase that it asks about

-- a partition of a phase that is going on, which isn't ready; its bytes stand in the memory
pub record AsksReady (site : Site) (memory : Memory) (p : SendPhase) (part : ℕ) (bytes : List ℕ) : Type 0 where
  pub going : IsTrue (not (all_freed p))
  pub there : part < p.parts
  pub unready : is_part_ready p part ≡ false
  pub address : ℕ
  pub size : ℕ
  pub copied : bytes ≡ boxed site.version (bytes_at memory address size)
  pub width : length bytes ≡ box_bytes site.version

-- the lowest partition that isn't freed, and it is ready
pub record AsksFreed (p : SendPhase) (part : ℕ) : Type 0 where
  pub going : IsTrue (not (all_freed p))
  pub next : next_to_free p ≡ Some part
  pub ready : is_part_ready p part ≡ true

-- a box that isn't taken, of a phase that is going on, once the sender's cut is known
pub record AsksLook (p : RecvPhase) (box : ℕ) : Type 0 where
  pub going : p.active ≡ true
  pub known : 0 < p.boxes
  pub there : box < p.boxes
  pub left : is_left p.taken box ≡ true

-- the cut is asked for in a phase that is going on, until it is known
pub record AsksCut (p : RecvPhase) : Type 0 where
  pub going : p.active ≡ true
  pub unknown : p.boxes ≡ 0

-- a shape inside the limits
pub record AsksShape (site : Site) (parts size : ℕ) : Type 0 where
  pub count : IsTrue (are_parts parts)
  pub bytes : IsTrue (is_size site.version size)

abbrev pub KnownOfRequest : Site → List Phase → Request → Type 0
KnownOfRequest site phases (request.Init sending comm peer tag parts size) = AsksShape site parts size
KnownOfRequest site phases (request.Cut link) = AsksCut (receiving_at phases link)
KnownOfRequest site phases _ = Unit {0}

abbrev pub Known : Site → Memory → List Phase → Ask → Type 0
Known site memory phases (ask.Hub r) = KnownOfRequest site phases r
Known site memory phases (ask.Ready link part bytes) = AsksReady site memory (sending_at phases link) part bytes
Known site memory phases (ask.Freed link part) = AsksFreed (sending_at phases link) part
Known site memory phases (ask.Look link box) = AsksLook (receiving_at phases link) box
Known site memory phases _ = Unit {0}

-- ---- the laws

-- the phases after a turn
abbrev pub MovedLaw : Type 0
MovedLaw =
    (rank : Rank) (hart : ℕ) (a : Answer) (stamp : ℕ)
    → (told rank hart a stamp).phases ≡ moved rank.site (started_by rank hart) (asked rank hart) a rank.phases

-- and what its question knows
abbrev pub KnownLaw : Type 0
KnownLaw = (rank : Rank) (hart : ℕ) → Known rank.site rank.memory rank.phases (asked rank hart)
