-- Ranks of images that load, as they go alone from there: what the laws of phases ask for can be met.
use Rattle.std.specs.Prelude.{ℕ, ◌≡◌, zero, suc, ◌+◌, List, [], ◌∷◌, ◌++◌, replicate, flat_map, true, false}
use Rattle.rv_image_types.specs.declared.images.ImageParts.{ImageParts}
use Rattle.rv_image_types.specs.declared.images.ImageVersion.TheVariants.{One}
use Rattle.rv_image_types.specs.Image.{IsImage}
use Rattle.rv_memory.specs.Memory.{bytes_of}
use Rattle.mp_types.specs.declared.replies.Reply.TheVariants as reply
use Rattle.mp_types.specs.declared.requests.Request.TheVariants as request
use Rattle.cl_state.specs.Rank.{Rank, loaded}
use Rattle.cl_deeds.specs.Deeds.{Act, Deed, RankMoves}
use Rattle.cl_deeds.specs.Alone.{IsAlone}
use Rattle.cl_arrival_laws.specs.Arrival.{CompletesReceive, SeesArrived, is_receiving, phases_begun}

-- an image of two ranks with a link from rank 0 to rank 1, whose text is these words
abbrev pub linked : List ℕ → ImageParts
linked words = record {
  version = One;
  ranks = 2;
  harts = 1;
  memory = 4096;
  entry = 0;
  text = flat_map (λ word. bytes_of word 4) words;
  init = [];
  comms = [];
  links = record { from = 0; to = 1 } ∷ [];
  symbols = [];
}

abbrev pub deed : ℕ → ℕ → Act → Deed
deed rank stamp act = record { rank = rank; hart = 0; stamp = stamp; act = act }

-- so many instructions, from this stamp on
abbrev pub instructions : ℕ → ℕ → ℕ → List Deed
instructions rank stamp zero = []
instructions rank stamp (suc n) = deed rank stamp Act.Plain ∷ instructions rank (stamp + 1) n

-- ---- rank 0 makes partition 0 ready

-- PSEND_INIT of one partition of 8 bytes at 64 to rank 1, START and PREADY, each with its arguments in registers
abbrev pub sending_words : List ℕ
sending_words =
    0x04000513 ∷ 0x00100593 ∷ 0x00800613 ∷ 0x00100693 ∷ 0x02800893 ∷ 0x73
    ∷ 0x00100513 ∷ 0x02000893 ∷ 0x73
    ∷ 0x00100513 ∷ 0x00000593 ∷ 0x02a00893 ∷ 0x73
    ∷ []

-- up to the PREADY; the hub told link 0 of the initialisation
abbrev pub sending_deeds : List Deed
sending_deeds =
    instructions 0 1 5
    ++ deed 0 6 (Act.Hub 5 (request.Init true 0 1 0 1 8) (reply.Link 0))
    ∷ instructions 0 7 2 ++ deed 0 9 Act.Local ∷ instructions 0 10 3

abbrev pub ReadyRow : Type 0
ReadyRow =
    IsImage (linked sending_words)
    × ((old : Rank) × (new : Rank) × IsAlone (loaded (linked sending_words) 0) sending_deeds old
    × RankMoves old (deed 0 13 (Act.Ready 0 0 (replicate 64 0))) new)

-- ---- rank 1 takes it, and is told that it has arrived

-- PRECV_INIT of the same from rank 0, START, and PARRIVED of partition 0, twice
abbrev pub receiving_words : List ℕ
receiving_words =
    0x04000513 ∷ 0x00100593 ∷ 0x00800613 ∷ 0x02900893 ∷ 0x73
    ∷ 0x00100513 ∷ 0x02000893 ∷ 0x73
    ∷ 0x00100513 ∷ 0x00000593 ∷ 0x02b00893 ∷ 0x73
    ∷ 0x00100513 ∷ 0x00000593 ∷ 0x73
    ∷ []

-- the hub told link 0; the first PARRIVED asked for the sender's cut and was told it, and the second looks into the box
abbrev pub receiving_deeds : List Deed
receiving_deeds =
    instructions 1 1 4
    ++ deed 1 5 (Act.Hub 4 (request.Init false 0 0 0 1 8) (reply.Link 0))
    ∷ instructions 1 6 2 ++ deed 1 8 Act.Local
    ∷ instructions 1 9 3 ++ deed 1 12 (Act.Hub 11 (request.Cut 0) (reply.Cut 1 8))
    ∷ instructions 1 13 2

-- what was made ready at 13 is taken
abbrev pub taking : Deed
taking = deed 1 15 (Act.Take 0 0 13 (replicate 64 0))

abbrev pub TakeRow : Type 0
TakeRow =
    IsImage (linked receiving_words)
    × ((old : Rank) × (new : Rank) × IsAlone (loaded (linked receiving_words) 1) receiving_deeds old
    × RankMoves old taking new
    × SeesArrived old taking 0 0
    × (phases_begun (is_receiving 0) (loaded (linked receiving_words) 1) (receiving_deeds ++ taking ∷ []) ≡ 1))

-- ---- or waits for it

-- PRECV_INIT and START as above, and WAIT of the request, with no status
abbrev pub waiting_words : List ℕ
waiting_words =
    0x04000513 ∷ 0x00100593 ∷ 0x00800613 ∷ 0x02900893 ∷ 0x73
    ∷ 0x00100513 ∷ 0x02000893 ∷ 0x73
    ∷ 0x00100513 ∷ 0x00000593 ∷ 0x01700893 ∷ 0x73
    ∷ []

-- the WAIT asked for the sender's cut and was told it, and its hart waits
abbrev pub waiting_deeds : List Deed
waiting_deeds =
    instructions 1 1 4
    ++ deed 1 5 (Act.Hub 4 (request.Init false 0 0 0 1 8) (reply.Link 0))
    ∷ instructions 1 6 2 ++ deed 1 8 Act.Local
    ∷ instructions 1 9 3 ++ deed 1 12 (Act.Hub 11 (request.Cut 0) (reply.Cut 1 8))
    ∷ []

-- in its next turn it takes what was made ready at 13, and completes
abbrev pub completing : Deed
completing = deed 1 14 (Act.Take 0 0 13 (replicate 64 0))

abbrev pub WaitRow : Type 0
WaitRow =
    IsImage (linked waiting_words)
    × ((old : Rank) × (new : Rank) × IsAlone (loaded (linked waiting_words) 1) waiting_deeds old
    × RankMoves old completing new
    × CompletesReceive old completing 0
    × (phases_begun (is_receiving 0) (loaded (linked waiting_words) 1) (waiting_deeds ++ completing ∷ []) ≡ 1))
