-- A transfer that its two sides cut differently, as in a worked row: the sender 3 of 64 bytes, the receiver 2 of 96.
use Rattle.std.specs.Prelude.{◌≡◌, ℕ, List, [], ◌∷◌, ◌++◌, replicate, Bool, true, false}
use Rattle.rv_image_types.specs.declared.images.ImageVersion.TheVariants.{Two}
use Rattle.rv_memory.specs.Memory.{Memory}
use Rattle.mp_types.specs.declared.replies.Reply.TheVariants as reply
use Rattle.mp_types.specs.declared.requests.Request.TheVariants as request
use Rattle.mp_request.specs.declared.entries.Partitions.{Partitions}
use Rattle.mp_request.specs.declared.entries.Progress.TheVariants.{InPhase}
use Rattle.mp_request.specs.declared.entries.Transfer.TheVariants.{ReceivePartitions}
use Rattle.part_phase.specs.declared.phases.Phase.{Phase}
use Rattle.part_phase.specs.declared.phases.Phase.TheVariants.{Receiving}
use Rattle.part_phase.specs.Receiving.{unshaped_receiving}
use Rattle.cl_state.specs.Rows.{one_page}
use Rattle.cl_state.specs.declared.asking.Answer.{Answer}
use Rattle.cl_state.specs.declared.asking.Ask.{Ask}
use Rattle.cl_state.specs.Rank.{Rank}
use Rattle.cl_state.specs.Asked.{asked}
use Rattle.cl_state.specs.Told.{told}
use Rattle.cl_state_laws.specs.CallRows.{status_bytes}
use Rattle.cl_state_laws.specs.PartitionRows.{caller, ended_in, held_in, linked}
use Rattle.cl_state_laws.specs.RequestRows.{active, inactive, table_of}

-- 192 bytes from 16 on, in thirds of 64, and 24 bytes for a status at 208
abbrev pub thirds : ℕ → ℕ → ℕ → List ℕ → Memory
thirds first second third status = record {
  bytes = (0 ∷ 0 ∷ 0 ∷ 0 ∷ 0x73 ∷ 0 ∷ 0 ∷ 0 ∷ replicate 8 0) ++ replicate 64 first ++ replicate 64 second
      ++ replicate 64 third ++ status;
  text = 8;
  pages = one_page;
}

abbrev pub no_status : List ℕ
no_status = replicate 24 0

-- from rank 0 with tag 7, on link 0
abbrev pub side : Partitions
side = record { link = 0; buffer = 16; parts = 2; size = 96; peer = 0; tag = 7; comm = 0 }

abbrev pub taking : Bool → ℕ → ℕ → List Bool → List Phase
taking on boxes bytes taken =
    Receiving (record {
      parts = 2;
      size = 96;
      boxes = boxes;
      bytes = bytes;
      active = on;
      taken = taken ++ replicate 13 false;
    }) ∷ Receiving unshaped_receiving ∷ []

abbrev pub none_taken : List Bool
none_taken = false ∷ false ∷ false ∷ []

abbrev pub receiver : Memory → List Phase → List ℕ → ℕ → Rank
receiver memory phases arguments number =
    caller (linked Two 1) memory (table_of (active (ReceivePartitions side) InPhase ∷ [])) phases arguments number

-- what the box of a partition of the sender's holds
abbrev pub box : ℕ → Answer
box byte = Answer.Taken (replicate 64 byte ++ replicate 64 0)

-- ---- PARRIVED (43) of the receiver's own partitions

abbrev pub fresh : Memory
fresh = thirds 0 0 0 no_status

-- before the cut is known
abbrev pub uncut : ℕ → Rank
uncut part = receiver fresh (taking true 0 0 none_taken) (1 ∷ part ∷ []) 43

-- with this memory, and these boxes taken
abbrev pub parrived : Memory → List Bool → ℕ → Rank
parrived memory taken part = receiver memory (taking true 3 64 taken) (1 ∷ part ∷ []) 43

abbrev pub arrived : Memory → List Bool → ℕ → Rank
arrived memory taken value = ended_in (receiver memory (taking true 3 64 taken) [] 43) 0 value [] 43

-- the request is still active once all boxes are taken
abbrev pub whole : Memory
whole = thirds 5 6 7 no_status

abbrev pub all_taken : List ℕ → ℕ → Rank
all_taken arguments number = receiver whole (taking false 3 64 none_taken) arguments number

-- the cut gives flag 0; then partition 0 overlaps boxes 0 and 1, and partition 1 overlaps boxes 1 and 2
abbrev pub CutRow : Type 0
CutRow =
    (asked (uncut 1) 0 ≡ Ask.Hub (request.Cut 0))
    × (told (uncut 1) 0 (Answer.Reply (reply.Cut 3 64)) 9 ≡ arrived fresh none_taken 0)
    × (asked (parrived fresh none_taken 1) 0 ≡ Ask.Look 0 1)
    × (told (parrived fresh none_taken 1) 0 Answer.Missed 9 ≡ arrived fresh none_taken 0)
    × (asked (parrived fresh none_taken 0) 0 ≡ Ask.Look 0 0)
    × (told (parrived fresh none_taken 0) 0 (box 5) 9
    ≡ arrived (thirds 5 0 0 no_status) (true ∷ false ∷ false ∷ []) 0)
    × (asked (parrived (thirds 5 0 0 no_status) (true ∷ false ∷ false ∷ []) 0) 0 ≡ Ask.Look 0 1)
    × (told (parrived (thirds 5 0 0 no_status) (true ∷ false ∷ false ∷ []) 0) 0 (box 6) 9
    ≡ arrived (thirds 5 6 0 no_status) (true ∷ true ∷ false ∷ []) 1)
    × (asked (parrived (thirds 5 6 0 no_status) (true ∷ true ∷ false ∷ []) 0) 0 ≡ Ask.Local)
    × (told (parrived (thirds 5 6 0 no_status) (true ∷ true ∷ false ∷ []) 0) 0 Answer.Alone 9
    ≡ arrived (thirds 5 6 0 no_status) (true ∷ true ∷ false ∷ []) 1)
    × (asked (parrived (thirds 5 6 0 no_status) (true ∷ true ∷ false ∷ []) 1) 0 ≡ Ask.Look 0 2)
    × (told (parrived (thirds 5 6 0 no_status) (true ∷ true ∷ false ∷ []) 1) 0 (box 7) 9
    ≡ ended_in (all_taken [] 43) 0 1 [] 43)

-- wholly taken, or of an inactive request: 1 as a local call
abbrev pub inactive_receiver : List ℕ → ℕ → Rank
inactive_receiver arguments number =
    record (all_taken arguments number) { requests = table_of (inactive (ReceivePartitions side) ∷ []) }

abbrev pub TakenRow : Type 0
TakenRow =
    (asked (all_taken (1 ∷ 0 ∷ []) 43) 0 ≡ Ask.Local)
    × (told (all_taken (1 ∷ 0 ∷ []) 43) 0 Answer.Alone 9 ≡ ended_in (all_taken [] 43) 0 1 [] 43)
    × (asked (inactive_receiver (1 ∷ 1 ∷ []) 43) 0 ≡ Ask.Local)
    × (told (inactive_receiver (1 ∷ 1 ∷ []) 43) 0 Answer.Alone 9 ≡ ended_in (inactive_receiver [] 43) 0 1 [] 43)

-- a cut of another total ends the call with code 6, and isn't kept; one that isn't known yet gives flag 0
abbrev pub UnfitCutRow : Type 0
UnfitCutRow =
    (told (uncut 1) 0 (Answer.Reply (reply.Cut 3 72)) 9
    ≡ ended_in (receiver fresh (taking true 0 0 none_taken) [] 43) 6 0 [] 43)
    × (told (uncut 1) 0 (Answer.Reply (reply.Cut 17 64)) 9
    ≡ ended_in (receiver fresh (taking true 0 0 none_taken) [] 43) 6 0 [] 43)
    × (told (uncut 1) 0 (Answer.Reply reply.NotYet) 9
    ≡ ended_in (receiver fresh (taking true 0 0 none_taken) [] 43) 0 0 [] 43)

-- ---- TEST (22) and WAIT (23), status at 208

abbrev pub completing : Memory → List Bool → ℕ → Rank
completing memory taken number = receiver memory (taking true 3 64 taken) (1 ∷ 208 ∷ []) number

-- the source's place, the tag and all 192 bytes; the request is inactive
abbrev pub received : ℕ → ℕ → Rank
received value number = record (ended_in (all_taken [] number) 0 value [] number) {
  memory = thirds 5 6 7 (status_bytes 0 7 192);
  requests = table_of (inactive (ReceivePartitions side) ∷ []);
}

-- one box a turn, the lowest that isn't taken; with the last one the receive completes
abbrev pub ReceivedRow : Type 0
ReceivedRow =
    (asked (completing (thirds 5 0 0 no_status) (true ∷ false ∷ false ∷ []) 22) 0 ≡ Ask.Look 0 1)
    × (told (completing (thirds 5 0 0 no_status) (true ∷ false ∷ false ∷ []) 22) 0 (box 6) 9
    ≡ ended_in (completing (thirds 5 6 0 no_status) (true ∷ true ∷ false ∷ []) 22) 0 0 [] 22)
    × (told (completing (thirds 5 0 0 no_status) (true ∷ false ∷ false ∷ []) 23) 0 (box 6) 9
    ≡ held_in (completing (thirds 5 6 0 no_status) (true ∷ true ∷ false ∷ []) 23) (1 ∷ 208 ∷ []) 23)
    × (told (completing (thirds 5 6 0 no_status) (true ∷ true ∷ false ∷ []) 22) 0 (box 7) 9 ≡ received 1 22)
    × (told (completing (thirds 5 6 0 no_status) (true ∷ true ∷ false ∷ []) 23) 0 (box 7) 9 ≡ received 0 23)
    × (asked (all_taken (1 ∷ 208 ∷ []) 22) 0 ≡ Ask.Local)
    × (told (all_taken (1 ∷ 208 ∷ []) 22) 0 Answer.Alone 9 ≡ received 1 22)
