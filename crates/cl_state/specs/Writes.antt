-- Which bytes of its rank's memory a turn may write, and the pages that it needs for them.
use Rattle.std.specs.Prelude.{◌≤◌, ℕ, ◌+◌, ◌-◌, ◌*◌, ◌^◌, ◌==◌, if◌then◌else◌, min, List, [], ◌∷◌, ◌++◌, length, map}
use Rattle.std.specs.Prelude.{Bool, true, false}
use Rattle.rv_memory.specs.Memory.{Memory}
use Rattle.rv_memory.specs.Pages.{written_pages}
use Rattle.rv_memory.specs.MorePages.{missing_pages}
use Rattle.rv_hart.specs.Stores.{store_range}
use Rattle.mp_request.specs.declared.entries.Partitions.{Partitions}
use Rattle.mp_request.specs.Table.{Table}
use Rattle.part_phase.specs.declared.phases.Phase.{Phase}
use Rattle.part_phase.specs.Phases.{receiving_at}
use Rattle.cl_calls.specs.declared.calls.Several.{Several}
use Rattle.cl_calls.specs.declared.sites.Site.{Site}
use Rattle.cl_calls.specs.Handles.{handles_in}
use Rattle.cl_calls.specs.Needs.{array_at}
use Rattle.cl_state.specs.declared.asking.Doing.{Doing}
use Rattle.cl_state.specs.declared.pending.Pending.{Pending}
use Rattle.cl_state.specs.declared.pending.Pending.TheVariants.{Message}
use Rattle.cl_state.specs.declared.pending.Target.{Target}
use Rattle.cl_state.specs.declared.row.Outcome.{Outcome}
use Rattle.cl_state.specs.declared.row.Outcome.TheVariants.{Steps, Completes, FindsNothing, CompletesAll, Arrives}
use Rattle.cl_state.specs.declared.row.Row.{Row}
use Rattle.cl_state.specs.declared.row.Row.TheVariants.{AtOnce, OnReply, OnBox}
use Rattle.cl_state.specs.declared.row.Visit.{Visit}
use Rattle.cl_state.specs.declared.row.Visit.TheVariants.{Frees, Takes, Sees}
use Rattle.cl_state.specs.declared.row.Wanted.{Wanted}
use Rattle.cl_state.specs.declared.row.Wanted.TheVariants as wanted
use Rattle.cl_state.specs.declared.writes.Range.{Range}
use Rattle.cl_state.specs.Asked.{Part}
use Rattle.cl_state.specs.Several.{pendings}
use Rattle.cl_state.specs.Table.{row_in}

-- ---- ranges of bytes

abbrev pub bytes_from : ℕ → ℕ → Range
bytes_from address count = record { address = address; count = count }

-- so many statuses of three words each; at address 0 none is wanted
abbrev pub statuses_from : ℕ → ℕ → Range
statuses_from address n = bytes_from address (if (address == 0) then 0 else 24 * n)

-- so many bytes of a message, and its status
abbrev pub message_into : Target → ℕ → List Range
message_into target count = bytes_from target.buffer count ∷ statuses_from target.status 1 ∷ []

-- where the message goes that a request waits for, if it waits for one
abbrev pub buffer_of : Pending → Range
buffer_of (Message post buffer capacity) = bytes_from buffer capacity
buffer_of _ = bytes_from 0 0

-- the messages of several requests, and behind them one range more
abbrev pub messages_then : Table → List ℕ → Range → List Range
messages_then table handles last = map buffer_of (pendings table handles) ++ last ∷ []

-- that of their statuses
abbrev pub messages_into : Table → List ℕ → ℕ → List Range
messages_into table handles statuses = messages_then table handles (statuses_from statuses (length handles))

-- the bytes of a box stand at its number times the sender's size behind the buffer; past all addresses is no memory, and
-- the last of them is as good
abbrev pub box_into : List Phase → Partitions → ℕ → Range
box_into phases side box =
    let size = (receiving_at phases side.link).bytes in
    bytes_from (min (side.buffer + box * size) (2 ^ 64 - 1)) size

-- ---- what a turn may write

abbrev pub several_into : Part → Several → List Range
several_into part s =
    messages_into part.requests (handles_in part.memory (array_at s.array s.count)) s.statuses

abbrev pub writes_at_once : Part → Outcome → List Range
writes_at_once part Steps =
    let stored = store_range part.hart part.memory in bytes_from stored.address stored.count ∷ []
writes_at_once part (Completes source target) = message_into target 0
writes_at_once part (FindsNothing value status) = statuses_from status 1 ∷ []
writes_at_once part (CompletesAll value s) = several_into part s
writes_at_once part (Arrives side target) = statuses_from target.status 1 ∷ []
writes_at_once part _ = []

-- a message that comes with a reply has as many bytes as its buffer takes, at most
abbrev pub writes_on_reply : Part → Wanted → List Range
writes_on_reply part (wanted.MessageOrPost target) = message_into target target.capacity
writes_on_reply part (wanted.Message target) = message_into target target.capacity
writes_on_reply part (wanted.Word target) = message_into target 0
writes_on_reply part (wanted.All value s) = several_into part s
writes_on_reply part (wanted.Sight value status) = statuses_from status 1 ∷ []
writes_on_reply part (wanted.Claim status) = statuses_from status 1 ∷ []
writes_on_reply part _ = []

abbrev pub writes_on_box : Part → Visit → List Range
writes_on_box part (Frees m link target) = message_into target 0
writes_on_box part (Takes m side box target) =
    box_into part.phases side box ∷ statuses_from target.status 1 ∷ []
writes_on_box part (Sees side box asked) = box_into part.phases side box ∷ []
writes_on_box part _ = []

abbrev pub writes_by : Part → Row → List Range
writes_by part (AtOnce o) = writes_at_once part o
writes_by part (OnReply m w) = writes_on_reply part w
writes_by part (OnBox v) = writes_on_box part v

-- what a hart's turn may write, whatever it is answered
abbrev pub writes_in : Site → ℕ → Doing → Part → List Range
writes_in site hart d part = writes_by part (row_in site hart part.memory part.requests part.phases d)

-- ---- the pages that it needs

-- how many pages that a range touches aren't there, summed over the ranges
abbrev pub missing_for : List Bool → List Range → ℕ
missing_for pages [] = 0
missing_for pages (r ∷ rs) = missing_pages pages r.address r.count + missing_for pages rs

-- the pages that are there when all ranges were written
abbrev pub written_for : List Bool → List Range → List Bool
written_for pages [] = pages
written_for pages (r ∷ rs) = written_for (written_pages pages r.address r.count) rs

-- how many pages are there
abbrev pub how_many : List Bool → ℕ
how_many [] = 0
how_many (true ∷ pages) = 1 + how_many pages
how_many (false ∷ pages) = how_many pages

-- so many spare pages are enough for all pages that the ranges touch
abbrev pub IsEnough : List Bool → ℕ → List Range → Type 0
IsEnough pages spares ranges = how_many (written_for pages ranges) ≤ how_many pages + spares
