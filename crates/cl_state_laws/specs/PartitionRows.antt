-- Worked rows of partitioned calls (MPI 4.1, chapter 4): what each asks and is told.
use Rattle.std.specs.Prelude.{◌≡◌, ℕ, ◌-◌, List, [], ◌∷◌, ◌++◌, drop, replicate, take, Bool, Option, true, false}
use Rattle.rv_image_types.specs.declared.images.ImageVersion.{ImageVersion}
use Rattle.rv_image_types.specs.declared.images.ImageVersion.TheVariants.{One}
use Rattle.rv_image_types.specs.declared.images.Link.{Link}
use Rattle.rv_memory.specs.Memory.{Memory}
use Rattle.rv_hart.specs.declared.state.Mode.TheVariants.{Waiting}
use Rattle.rv_hart.specs.declared.state.Wait.TheVariants.{Again}
use Rattle.mp_types.specs.declared.replies.Reply.TheVariants as reply
use Rattle.mp_types.specs.declared.requests.Request.TheVariants as request
use Rattle.mp_request.specs.declared.entries.OpenRequest.{OpenRequest}
use Rattle.mp_request.specs.declared.entries.Partitions.{Partitions}
use Rattle.mp_request.specs.declared.entries.Progress.TheVariants.{InPhase}
use Rattle.mp_request.specs.declared.entries.Transfer.TheVariants.{SendPartitions}
use Rattle.mp_request.specs.Table.{Table, no_requests}
use Rattle.part_phase.specs.declared.phases.Phase.{Phase}
use Rattle.part_phase.specs.declared.phases.Phase.TheVariants.{Sending}
use Rattle.part_phase.specs.Sending.{none_marked, unshaped_sending}
use Rattle.cl_calls.specs.declared.sites.Site.{Site}
use Rattle.cl_state.specs.declared.asking.Answer.{Answer}
use Rattle.cl_state.specs.declared.asking.Ask.{Ask}
use Rattle.cl_state.specs.Rank.{Rank, below}
use Rattle.cl_state.specs.Asked.{asked}
use Rattle.cl_state.specs.Told.{told}
use Rattle.cl_state.specs.Rows.{calling, one_page}
use Rattle.cl_state_laws.specs.CallRows.{behind}
use Rattle.cl_state_laws.specs.RequestRows.{active, empty_status, inactive, table_of}

-- ---- a small rank with links

-- two links from rank 0 to rank 1
abbrev pub two_links : List Link
two_links = record { from = 0; to = 1 } ∷ record { from = 0; to = 1 } ∷ []

abbrev pub linked : ImageVersion → ℕ → Site
linked version number =
    record { number = number; ranks = 2; comms = (0 ∷ 1 ∷ []) ∷ []; links = two_links; version = version }

-- 8 bytes of text, the second word ECALL's; then each byte tells its address
abbrev pub told_apart : Memory
told_apart = record { bytes = 0 ∷ 0 ∷ 0 ∷ 0 ∷ 0x73 ∷ 0 ∷ 0 ∷ 0 ∷ drop 8 (below 64); text = 8; pages = one_page }

-- a rank at a call, at clock 8
abbrev pub caller : Site → Memory → Table → List Phase → List ℕ → ℕ → Rank
caller site memory table phases arguments number = record {
  site = site;
  memory = memory;
  harts = calling arguments number ∷ [];
  requests = table;
  phases = phases;
  out = [];
  clock = 8;
}

-- the call ended at clock 9 with these in a0, a1 and the registers behind them, and with these phases
abbrev pub ended_in : Rank → ℕ → ℕ → List ℕ → ℕ → Rank
ended_in rank code value rest number =
    record rank { harts = behind (code ∷ value ∷ rest) number ∷ []; clock = 9 }

-- it waits to be made anew
abbrev pub held_in : Rank → List ℕ → ℕ → Rank
held_in rank arguments number =
    record rank { harts = record (calling arguments number) { mode = Waiting Again } ∷ []; clock = 9 }

abbrev pub marks : List Bool → List Bool
marks first = first ++ replicate 12 false

-- ---- the sender's side: 4 partitions of 8 bytes from 16 on, to rank 1 with tag 7, on link 0

abbrev pub side_of : ℕ → Partitions
side_of size = record { link = 0; buffer = 16; parts = 4; size = size; peer = 1; tag = 7; comm = 0 }

abbrev pub sending : Option OpenRequest
sending = active (SendPartitions (side_of 8)) InPhase

-- these partitions are ready, and so many freed
abbrev pub sent : List Bool → ℕ → List Phase
sent ready freed =
    Sending (record { parts = 4; size = 8; ready = marks ready; freed = freed }) ∷ Sending unshaped_sending ∷ []

abbrev pub sender : List Bool → ℕ → List ℕ → ℕ → Rank
sender ready freed arguments number =
    caller (linked One 0) told_apart (table_of (sending ∷ [])) (sent ready freed) arguments number

-- PREADY (42) of a partition: its 8 bytes go into a box of 64
abbrev pub pready : List Bool → ℕ → Rank
pready ready part = sender ready 0 (1 ∷ part ∷ []) 42

abbrev pub readied : List Bool → Rank
readied ready = ended_in (sender ready 0 [] 42) 0 0 [] 42

abbrev pub box_of : ℕ → List ℕ
box_of address = take 8 (drop address told_apart.bytes) ++ replicate 56 0

-- in the order 3, 0, 2, 1, and once in a phase
abbrev pub ReadyRow : Type 0
ReadyRow =
    (asked (pready (false ∷ false ∷ false ∷ false ∷ []) 3) 0 ≡ Ask.Ready 0 3 (box_of 40))
    × (told (pready (false ∷ false ∷ false ∷ false ∷ []) 3) 0 Answer.Alone 9
    ≡ readied (false ∷ false ∷ false ∷ true ∷ []))
    × (asked (pready (false ∷ false ∷ false ∷ true ∷ []) 0) 0 ≡ Ask.Ready 0 0 (box_of 16))
    × (told (pready (false ∷ false ∷ false ∷ true ∷ []) 0) 0 Answer.Alone 9
    ≡ readied (true ∷ false ∷ false ∷ true ∷ []))
    × (asked (pready (true ∷ false ∷ false ∷ true ∷ []) 2) 0 ≡ Ask.Ready 0 2 (box_of 32))
    × (told (pready (true ∷ false ∷ false ∷ true ∷ []) 2) 0 Answer.Alone 9 ≡ readied (true ∷ false ∷ true ∷ true ∷ []))
    × (told (pready (true ∷ false ∷ true ∷ true ∷ []) 1) 0 Answer.Alone 9 ≡ readied (true ∷ true ∷ true ∷ true ∷ []))

abbrev pub all_ready : List Bool
all_ready = true ∷ true ∷ true ∷ true ∷ []

abbrev pub none_ready : List Bool
none_ready = false ∷ false ∷ false ∷ false ∷ []

-- a partition again, one that isn't there, and one before START: codes 15, 9 and 16, and nobody is asked
abbrev pub UnreadyRow : Type 0
UnreadyRow =
    (asked (pready all_ready 3) 0 ≡ Ask.Local)
    × (told (pready all_ready 3) 0 Answer.Alone 9 ≡ ended_in (sender all_ready 0 [] 42) 15 0 [] 42)
    × (asked (pready none_ready 4) 0 ≡ Ask.Local)
    × (told (pready none_ready 4) 0 Answer.Alone 9 ≡ ended_in (sender none_ready 0 [] 42) 9 0 [] 42)
    × (asked (sender none_ready 4 (1 ∷ 3 ∷ []) 42) 0 ≡ Ask.Local)
    × (told (sender none_ready 4 (1 ∷ 3 ∷ []) 42) 0 Answer.Alone 9
    ≡ ended_in (sender none_ready 4 [] 42) 16 0 [] 42)

-- ---- TEST (22) and WAIT (23) of the sender, without a status

abbrev pub testing : List Bool → ℕ → Rank
testing ready freed = sender ready freed (1 ∷ 0 ∷ []) 22

abbrev pub waiting : List Bool → ℕ → Rank
waiting ready freed = sender ready freed (1 ∷ 0 ∷ []) 23

-- each touches the lowest partition alone that isn't freed; where
-- that isn't ready TEST is a local call and WAIT is held
abbrev pub FreedRow : Type 0
FreedRow =
    (asked (testing all_ready 1) 0 ≡ Ask.Freed 0 1)
    × (told (testing all_ready 1) 0 Answer.Missed 9 ≡ ended_in (testing all_ready 1) 0 0 [] 22)
    × (told (testing all_ready 1) 0 Answer.Freed 9 ≡ ended_in (testing all_ready 2) 0 0 [] 22)
    × (told (waiting all_ready 1) 0 Answer.Missed 9 ≡ held_in (waiting all_ready 1) (1 ∷ 0 ∷ []) 23)
    × (told (waiting all_ready 1) 0 Answer.Freed 9 ≡ held_in (waiting all_ready 2) (1 ∷ 0 ∷ []) 23)
    × (asked (testing (true ∷ false ∷ true ∷ true ∷ []) 1) 0 ≡ Ask.Local)
    × (told (testing (true ∷ false ∷ true ∷ true ∷ []) 1) 0 Answer.Alone 9
    ≡ ended_in (testing (true ∷ false ∷ true ∷ true ∷ []) 1) 0 0 [] 22)
    × (asked (waiting (true ∷ false ∷ true ∷ true ∷ []) 1) 0 ≡ Ask.Held)
    × (told (waiting (true ∷ false ∷ true ∷ true ∷ []) 1) 0 Answer.Alone 9
    ≡ held_in (waiting (true ∷ false ∷ true ∷ true ∷ []) 1) (1 ∷ 0 ∷ []) 23)

-- with the last one the request is inactive and the status empty, which stands at 32
abbrev pub sender_status : List Bool → ℕ → Rank
sender_status ready freed = sender ready freed (1 ∷ 32 ∷ []) 22

abbrev pub with_empty_status : Memory
with_empty_status =
    record { bytes = take 32 told_apart.bytes ++ empty_status ++ drop 56 told_apart.bytes; text = 8; pages = one_page }

abbrev pub sent_whole : Rank
sent_whole = record (ended_in (sender none_ready 4 [] 22) 0 1 [] 22) {
  memory = with_empty_status;
  requests = table_of (inactive (SendPartitions (side_of 8)) ∷ []);
}

abbrev pub SentRow : Type 0
SentRow =
    (asked (sender_status all_ready 3) 0 ≡ Ask.Freed 0 3)
    × (told (sender_status all_ready 3) 0 Answer.Freed 9 ≡ sent_whole)
    × (asked (sender_status none_ready 4) 0 ≡ Ask.Local)
    × (told (sender_status none_ready 4) 0 Answer.Alone 9 ≡ sent_whole)

-- ---- START (32) begins a phase, and asks nobody

abbrev pub starting : Rank
starting =
    caller (linked One 0) told_apart (table_of (inactive (SendPartitions (side_of 8)) ∷ [])) (sent all_ready 4)
    (1 ∷ []) 32

abbrev pub StartRow : Type 0
StartRow =
    (asked starting 0 ≡ Ask.Local)
    × (told starting 0 Answer.Alone 9 ≡ ended_in (sender none_ready 0 [] 32) 0 0 [] 32)

-- ---- PSEND_INIT (40) and PRECV_INIT (41): 4 partitions of 8 bytes from 16 on, to or from the other rank with tag 7

abbrev pub initialising : ℕ → Table → List Phase → ℕ → Rank
initialising rank table phases number =
    caller (linked One rank) told_apart table phases (16 ∷ 4 ∷ 8 ∷ (1 - rank) ∷ 7 ∷ 0 ∷ []) number

abbrev pub side_to : ℕ → ℕ → Partitions
side_to link peer = record { link = link; buffer = 16; parts = 4; size = 8; peer = peer; tag = 7; comm = 0 }

abbrev pub apart : List Phase
apart = Sending unshaped_sending ∷ Sending unshaped_sending ∷ []

abbrev pub shaped : Phase
shaped = Sending (record { parts = 4; size = 8; ready = none_marked; freed = 4 })

abbrev pub one_side : Table
one_side = table_of (inactive (SendPartitions (side_to 0 1)) ∷ [])

abbrev pub two_sides : Table
two_sides = table_of (inactive (SendPartitions (side_to 0 1)) ∷ inactive (SendPartitions (side_to 1 1)) ∷ [])

abbrev pub linked_by : Rank → ℕ → Rank
linked_by rank link = told rank 0 (Answer.Reply (reply.Link link)) 9

abbrev pub rest_of : ℕ → List ℕ
rest_of peer = 8 ∷ peer ∷ 7 ∷ 0 ∷ []

-- two transfers of equal tag have a link each. A link that a transfer has, one of another's side, and one that isn't
-- there are refused: code 6, and nothing changes
abbrev pub LinkRow : Type 0
LinkRow =
    (asked (initialising 0 no_requests apart 40) 0 ≡ Ask.Hub (request.Init true 0 1 7 4 8))
    × (linked_by (initialising 0 no_requests apart 40) 0
    ≡ ended_in (initialising 0 one_side (shaped ∷ Sending unshaped_sending ∷ []) 40) 0 1 (rest_of 1) 40)
    × (linked_by (initialising 0 one_side (shaped ∷ Sending unshaped_sending ∷ []) 40) 1
    ≡ ended_in (initialising 0 two_sides (shaped ∷ shaped ∷ []) 40) 0 2 (rest_of 1) 40)
    × (linked_by (initialising 0 one_side (shaped ∷ Sending unshaped_sending ∷ []) 40) 0
    ≡ ended_in (initialising 0 one_side (shaped ∷ Sending unshaped_sending ∷ []) 40) 6 0 (rest_of 1) 40)
    × (linked_by (initialising 0 no_requests apart 40) 2
    ≡ ended_in (initialising 0 no_requests apart 40) 6 0 (rest_of 1) 40)
    × (asked (initialising 1 no_requests apart 41) 0 ≡ Ask.Hub (request.Init false 0 0 7 4 8))
    × (linked_by (initialising 1 no_requests apart 41) 0
    ≡ ended_in (initialising 1 no_requests apart 41) 6 0 (rest_of 0) 41)
