-- What calls of a small rank ask and are told.
use Rattle.std.specs.Prelude.{◌≡◌, ℕ, List, [], ◌∷◌, ◌++◌, replicate, take, Some, None, true, false}
use Rattle.rv_memory.specs.Memory.{Memory}
use Rattle.rv_memory.specs.declared.fault.Cause.{Cause}
use Rattle.rv_hart.specs.State.{State}
use Rattle.rv_hart.specs.declared.state.Mode.{Mode}
use Rattle.rv_hart.specs.declared.state.Mode.TheVariants.{Running, Waiting, Ended, Trapped}
use Rattle.rv_hart.specs.declared.state.Wait.TheVariants.{Again}
use Rattle.rv_image_types.specs.declared.images.ImageParts.{ImageParts}
use Rattle.rv_image_types.specs.declared.images.ImageVersion.TheVariants.{Two}
use Rattle.mp_types.specs.declared.messages.Envelope.{Envelope}
use Rattle.mp_types.specs.declared.messages.Message.{Message}
use Rattle.mp_types.specs.declared.replies.Reply.TheVariants as reply
use Rattle.mp_types.specs.declared.requests.Request.TheVariants as request
use Rattle.mp_request.specs.declared.entries.Progress.TheVariants.{Finished, OnPost}
use Rattle.mp_request.specs.declared.entries.Transfer.TheVariants.{SendToNull, ReceiveFromNull, Send, Receive}
use Rattle.mp_request.specs.Table.{Table, no_requests}
use Rattle.part_phase.specs.declared.phases.Phase.TheVariants.{Apart, Sending, Receiving}
use Rattle.part_phase.specs.Receiving.{unshaped_receiving}
use Rattle.part_phase.specs.Sending.{unshaped_sending}
use Rattle.cl_calls.specs.Calls.{any, no_rank, no_message}
use Rattle.cl_state.specs.declared.asking.Answer.{Answer}
use Rattle.cl_state.specs.declared.asking.Ask.{Ask}
use Rattle.cl_state.specs.Asked.{asked}
use Rattle.cl_state.specs.Rank.{Rank, loaded}
use Rattle.cl_state.specs.Rows.{calling, guest, one_page, small_memory}
use Rattle.cl_state.specs.Several.{Given, with_statuses}
use Rattle.cl_state.specs.Told.{told, with_status}
use Rattle.cl_state_laws.specs.CallRows.{behind, message, status_bytes}
use Rattle.cl_state_laws.specs.RequestRows.{complete_empty, completing, ended_with, null_status, one, ordinary, probing}
use Rattle.cl_state_laws.specs.RequestRows.{replied}
use Rattle.cl_state_laws.specs.SeveralRows.{arrayed, completing_two, ended_two, handle}
use Rattle.test_calls.specs.Places.{of_two}

-- the small rank where nobody answered anything
abbrev pub alone : Rank → Rank
alone rank = told rank 0 Answer.Alone 9

-- ---- calls that need only the rank

-- EXIT with code 5
abbrev pub ExitRow : Type 0
ExitRow =
    (asked (guest (5 ∷ []) 0) 0 ≡ Ask.Local)
    ×
    (alone (guest (5 ∷ []) 0)
    ≡ record (guest (5 ∷ []) 0) { harts = record (calling (5 ∷ []) 0) { mode = Ended 5 } ∷ []; clock = 9 })

-- the small rank in the communicators of `of_two`
abbrev pub placed : List ℕ → ℕ → Rank
placed arguments number = record (guest arguments number) { site = of_two }

abbrev pub placed_told : List ℕ → ℕ → Rank
placed_told registers number = record (placed [] number) { harts = behind registers number ∷ []; clock = 9 }

-- RANK and SIZE of communicator 1
abbrev pub RankSizeRow : Type 0
RankSizeRow =
    (alone (placed (1 ∷ []) 2) ≡ placed_told (0 ∷ 1 ∷ []) 2)
    × (alone (placed (1 ∷ []) 3) ≡ placed_told (0 ∷ 2 ∷ []) 3)

-- two harts: the first at EXIT, the second at PUT of 3 bytes or at HART
abbrev pub two_harts : State → Rank
two_harts second = record (guest [] 0) { harts = calling (5 ∷ []) 0 ∷ second ∷ [] }

abbrev pub SecondHartRow : Type 0
SecondHartRow =
    (told (two_harts (calling (8 ∷ 3 ∷ []) 1)) 1 Answer.Alone 9
    ≡ record (two_harts (behind (0 ∷ 0 ∷ []) 1)) { out = 104 ∷ 105 ∷ 10 ∷ []; clock = 9 })
    × (told (two_harts (calling [] 4)) 1 Answer.Alone 9 ≡ record (two_harts (behind (0 ∷ 1 ∷ []) 4)) { clock = 9 })
    × (asked (two_harts (calling (9 ∷ 2 ∷ 1 ∷ 7 ∷ 0 ∷ []) 16)) 0 ≡ Ask.Local)
    × (asked (two_harts (calling (9 ∷ 2 ∷ 1 ∷ 7 ∷ 0 ∷ []) 16)) 1 ≡ Ask.Hub (request.Send false 0 1 7 (105 ∷ 10 ∷ [])))

-- ---- turns that make no call

abbrev pub in_mode : Mode → Rank
in_mode mode = record (guest (5 ∷ []) 0) { harts = record (calling (5 ∷ []) 0) { mode = mode } ∷ [] }

-- a stopped hart asks nothing, and only the clock changes
abbrev pub IsIdle : Mode → Type 0
IsIdle mode = (asked (in_mode mode) 0 ≡ Ask.Idle) × (alone (in_mode mode) ≡ record (in_mode mode) { clock = 9 })

abbrev pub StoppedRows : Type 0
StoppedRows = ((code : ℕ) → IsIdle (Ended code)) × ((cause : Cause) (pc : ℕ) → IsIdle (Trapped cause pc))

-- EBREAK is no call
abbrev pub BreakRow : Type 0
BreakRow =
    asked (record (guest [] 0) { memory = record { bytes = replicate 4 0 ++ 0x73 ∷ 0 ∷ 0x10 ∷ 0 ∷ []; text = 8; pages = one_page } }) 0
    ≡ Ask.Plain

-- ---- the null process

-- a send to it asks nobody and ends at once; ISEND opens a request that moves nothing
abbrev pub SendToNullRow : Type 0
SendToNullRow =
    (asked (guest (9 ∷ 2 ∷ no_rank ∷ 7 ∷ 0 ∷ []) 16) 0 ≡ Ask.Local)
    × (alone (guest (9 ∷ 2 ∷ no_rank ∷ 7 ∷ 0 ∷ []) 16) ≡ ended_with 0 0 no_requests (no_rank ∷ 7 ∷ 0 ∷ []) 16)
    × (asked (guest (9 ∷ 2 ∷ no_rank ∷ 7 ∷ 0 ∷ []) 19) 0 ≡ Ask.Local)
    ×
    (alone (guest (9 ∷ 2 ∷ no_rank ∷ 7 ∷ 0 ∷ []) 19)
    ≡ ended_with 0 1 (one (ordinary SendToNull Finished)) (no_rank ∷ 7 ∷ 0 ∷ []) 19)

-- the status of a receive from it is (-2, -1, 0): of TEST and of MRECV
abbrev pub ReceiveFromNullRow : Type 0
ReceiveFromNullRow =
    (asked (completing (one (ordinary ReceiveFromNull Finished)) 1 22) 0 ≡ Ask.Local)
    × (alone (completing (one (ordinary ReceiveFromNull Finished)) 1 22) ≡ record (ended_with 0 1 no_requests [] 22) {
      memory = record { bytes = take 32 small_memory.bytes ++ null_status ++ replicate 8 9; text = 8; pages = one_page };
    })
    ×
    (alone (guest (16 ∷ 4 ∷ no_message ∷ 32 ∷ []) 29) ≡ record (ended_with 0 0 no_requests (no_message ∷ 32 ∷ []) 29) {
      memory = record { bytes = take 32 small_memory.bytes ++ null_status ++ replicate 8 9; text = 8; pages = one_page };
    })

-- ---- positions

-- the message and the envelope of rank 1 in communicator 1, where it has position 0
abbrev pub placed_envelope : Envelope
placed_envelope = record { comm = 1; source = 1; tag = 7; count = 10 }

abbrev pub placed_message : List ℕ → Message
placed_message bytes = record { envelope = placed_envelope; bytes = bytes }

-- SEND to position 0 of communicator 1, and RECV and PROBE from there
abbrev pub AskedPlaces : Type 0
AskedPlaces =
    (asked (placed (9 ∷ 2 ∷ 0 ∷ 7 ∷ 1 ∷ []) 16) 0 ≡ Ask.Hub (request.Send false 1 1 7 (105 ∷ 10 ∷ [])))
    × (asked (placed (16 ∷ 4 ∷ 0 ∷ 7 ∷ 1 ∷ 32 ∷ []) 18) 0 ≡ Ask.Hub (request.Recv true 1 (Some 1) (Some 7)))
    × (asked (placed (0 ∷ any ∷ 1 ∷ 32 ∷ []) 25) 0 ≡ Ask.Hub (request.Probe 1 (Some 1) None))
    × (asked (placed (any ∷ 7 ∷ 1 ∷ 32 ∷ []) 27) 0 ≡ Ask.Hub (request.Claim 1 None (Some 7)))

-- a status tells the position, of RECV, PROBE, MPROBE and TESTALL
abbrev pub status_at_32 : Rank → Rank
status_at_32 rank =
    record rank {
      memory = record {
        bytes = take 32 small_memory.bytes ++ status_bytes 0 7 10 ++ replicate 8 9;
        text = 8;
        pages = one_page;
      };
    }

abbrev pub ToldPlaces : Type 0
ToldPlaces =
    (replied (placed (16 ∷ 0 ∷ any ∷ any ∷ 1 ∷ 32 ∷ []) 18) (reply.Got (placed_message []))
    ≡ record (placed_told (0 ∷ 0 ∷ any ∷ any ∷ 1 ∷ 32 ∷ []) 18) {
      memory = record { bytes = take 32 small_memory.bytes ++ status_bytes 0 7 0 ++ replicate 8 9; text = 8; pages = one_page };
    })
    ×
    (replied (placed (any ∷ any ∷ 1 ∷ 32 ∷ []) 25) (reply.Seen placed_envelope)
    ≡ status_at_32 (placed_told (0 ∷ 0 ∷ 1 ∷ 32 ∷ []) 25))
    ×
    (replied (placed (any ∷ any ∷ 1 ∷ 32 ∷ []) 27) (reply.Held 5 placed_envelope)
    ≡ status_at_32 (placed_told (0 ∷ 5 ∷ 1 ∷ 32 ∷ []) 27))

abbrev pub waits_on_3 : Table
waits_on_3 = one (ordinary (Receive 32 0 None None 1) (OnPost 3))

abbrev pub SeveralPlaces : Type 0
SeveralPlaces =
    replied (record (completing_two waits_on_3 1 0 16 34) { site = of_two })
    (reply.AllGot (Some (placed_message []) ∷ []))
    ≡ record
    (ended_two 0 1 no_requests
    (record {
      bytes = take 16 small_memory.bytes ++ status_bytes 0 7 0 ++ replicate 16 255 ++ replicate 8 0;
      text = 8;
      pages = one_page;
    }) 16 34) {
      site = of_two;
    }

-- ---- synchronous sends that are requests

abbrev pub issend : Table
issend = one (ordinary (Send true 9 2 1 7 0) (OnPost 5))

-- TEST asks whether it is complete: flag 0 where it isn't, the
-- empty status where it is; another reply completes nothing
abbrev pub IssendRow : Type 0
IssendRow =
    (asked (completing issend 1 22) 0 ≡ Ask.Hub (request.Finished 5))
    × (replied (completing issend 1 22) reply.Done ≡ complete_empty no_requests)
    × (replied (completing issend 1 22) reply.NotYet ≡ ended_with 0 0 issend [] 22)
    × (replied (completing issend 1 22) (reply.Seen (message []).envelope) ≡ ended_with 6 0 issend [] 22)

-- among several it gets no message
abbrev pub IssendAmongSeveral : Type 0
IssendAmongSeveral =
    (asked (completing_two issend 1 0 0 34) 0 ≡ Ask.Hub (request.All (5 ∷ [])))
    ×
    (replied (completing_two issend 1 0 0 34) (reply.AllGot (None ∷ []))
    ≡ ended_two 0 1 no_requests (arrayed (handle 1 ++ handle 0)) 0 34)
    × (replied (completing_two issend 1 0 0 34) (reply.AllGot (Some (message []) ∷ []))
    ≡ ended_two 6 0 issend (arrayed (handle 1 ++ handle 0)) 0 34)

-- ---- blocking probes

abbrev pub probe_waits : ℕ → Rank
probe_waits number =
    record
    (probing any number) {
      harts = record (calling (any ∷ any ∷ 0 ∷ 32 ∷ []) number) { mode = Waiting Again } ∷ [];
      clock = 9;
    }

-- PROBE and MPROBE ask what IPROBE and IMPROBE do, and wait where nothing is there
abbrev pub ProbeWaits : Type 0
ProbeWaits =
    (asked (probing any 25) 0 ≡ Ask.Hub (request.Probe 0 None None))
    × (replied (probing any 25) reply.NotYet ≡ probe_waits 25)
    × (asked (probing any 27) 0 ≡ Ask.Hub (request.Claim 0 None None))
    × (replied (probing any 27) reply.NotYet ≡ probe_waits 27)

-- ---- statuses

-- the status of a receive lies over its buffer, and is written last
abbrev pub StatusOverBuffer : Type 0
StatusOverBuffer =
    replied (guest (16 ∷ 4 ∷ any ∷ any ∷ 0 ∷ 16 ∷ []) 18) (reply.Got (message (1 ∷ 2 ∷ 3 ∷ 4 ∷ [])))
    ≡ record (ended_with 0 0 no_requests (any ∷ any ∷ 0 ∷ 16 ∷ []) 18) {
      memory = record { bytes = take 16 small_memory.bytes ++ status_bytes 1 7 4 ++ replicate 24 9; text = 8; pages = one_page };
    }

-- at address 0 none is written, whatever the memory
abbrev pub NoStatus : Type 0
NoStatus =
    ((memory : Memory) (source tag count : ℕ) → with_status memory 0 source tag count ≡ memory)
    × ((memory : Memory) (gs : List Given) → with_statuses memory 0 gs ≡ memory)

-- ---- a rank as it is loaded

-- 3 ranks of 2 harts, that begin at the second instruction; communicator 1 has ranks 2 and 0
abbrev pub small_image : ImageParts
small_image = record {
  version = Two;
  ranks = 3;
  harts = 2;
  memory = 8192;
  entry = 4;
  text = 0x13 ∷ 0 ∷ 0 ∷ 0 ∷ 0x73 ∷ 0 ∷ 0 ∷ 0 ∷ [];
  init = 7 ∷ [];
  comms = (2 ∷ 0 ∷ []) ∷ [];
  links = record { from = 0; to = 2 } ∷ [];
  symbols = [];
}

-- x2 is the end of the hart's stack, x10 its number and x11 the rank's
abbrev pub hart_as_loaded : ℕ → ℕ → ℕ → State
hart_as_loaded stack number rank =
    record { regs = 0 ∷ 0 ∷ stack ∷ replicate 7 0 ++ number ∷ rank ∷ replicate 20 0; pc = 4; mode = Running }

abbrev pub LoadedRow : Type 0
LoadedRow =
    ((loaded small_image 1).harts ≡ hart_as_loaded 8192 0 1 ∷ hart_as_loaded 4096 1 1 ∷ [])
    × ((loaded small_image 1).site.number ≡ 1)
    × ((loaded small_image 1).site.ranks ≡ 3)
    × ((loaded small_image 1).site.comms ≡ (0 ∷ 1 ∷ 2 ∷ []) ∷ (2 ∷ 0 ∷ []) ∷ [])
    × ((loaded small_image 1).site.links ≡ small_image.links)
    × (take 17 (loaded small_image 1).memory.bytes ≡ small_image.text ++ replicate 8 0 ++ 7 ∷ [])
    × ((loaded small_image 1).memory.text ≡ 8)
    × ((loaded small_image 1).site.version ≡ Two)
    × ((loaded small_image 1).requests ≡ no_requests)
    × ((loaded small_image 0).phases ≡ Sending unshaped_sending ∷ [])
    × ((loaded small_image 1).phases ≡ Apart ∷ [])
    × ((loaded small_image 2).phases ≡ Receiving unshaped_receiving ∷ [])
    × ((loaded small_image 1).out ≡ [])
    × ((loaded small_image 1).clock ≡ 0)
