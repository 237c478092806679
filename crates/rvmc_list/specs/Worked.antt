-- Worked lines: what stands in each is the very text.
use Rattle.std.specs.Prelude.{ℕ, ◌≡◌, List, [], ◌∷◌, ◌++◌, codes, map, refl, Bool, true, false, Option, Some, None}
use Rattle.std.specs.Fmt.{digits}
use Rattle.rv_decode.specs.Decoded.{decoded}
use Rattle.rv_hart.specs.Results.{is_taken}
use Rattle.rv_hart.specs.State.{State, fresh, in_mode, write}
use Rattle.rv_hart.specs.declared.state.Mode.TheVariants.{Trapped, Waiting}
use Rattle.rv_hart.specs.declared.state.Wait.TheVariants.{Again}
use Rattle.rv_image_types.specs.declared.images.Symbol.{Symbol}
use Rattle.rv_memory.specs.declared.fault.Cause.TheVariants.{LoadMisaligned, StoreAccess}
use Rattle.mp_types.specs.declared.messages.Message.{Message}
use Rattle.mp_types.specs.declared.replies.Reply.TheVariants as reply
use Rattle.cl_calls.specs.Names.{call_name}
use Rattle.cl_machine.specs.Boxes.{Box, Thing, empty_box}
use Rattle.cl_state.specs.declared.asking.Ask.{Ask}
use Rattle.cl_state.specs.declared.asking.Ask.TheVariants as ask
use Rattle.cl_trace.specs.declared.events.Kind.{Kind}
use Rattle.rvmc_places.specs.Names.{line_named}
use Rattle.rvmc_places.specs.Places.{line_at, named_address_text, nearest_of, place_name}
use Rattle.rvmc_sights.specs.Lines.{sight_text}
use Rattle.rvmc_list.specs.Folding.{scenes_text}
use Rattle.rvmc_list.specs.Phases.{Scene, phase_in}
use Rattle.rvmc_list.specs.declared.folding.Wanted.{Wanted}

-- ---- what is told

abbrev pub all_steps : Wanted
all_steps = record { from = 0; to = None; rank = None; calls = false }

abbrev pub calls_alone : Wanted
calls_alone = record { from = 0; to = None; rank = None; calls = true }

-- `go` at 0, and `take` at 0x18
abbrev pub two_symbols : List Symbol
two_symbols = record { address = 0; name = codes "go" } ∷ record { address = 0x18; name = codes "take" } ∷ []

-- step 7, of hart 1 of rank 2 at stamp 9
abbrev pub scene_with : Bool → Kind → State → Option ℕ → Option (ℕ × ℕ) → State → Option ℕ → Scene
scene_with overflow kind before word box after phase = record {
  sight = record {
    place = 7;
    step = record { rank = 2; hart = 1; stamp = 9; kind = kind };
    before = before;
    word = word;
    box = box;
    after = after;
    overflow = overflow;
  };
  phase = phase;
}

abbrev pub scene_of : Kind → State → Option ℕ → Option (ℕ × ℕ) → State → Option ℕ → Scene
scene_of = scene_with false

abbrev pub plain_scene : State → ℕ → State → Scene
plain_scene before word after = scene_of Kind.Plain before (Some word) None after None

-- a hart at a pc, with values in some registers
abbrev pub hart_with : ℕ → List (ℕ × ℕ) → State
hart_with pc [] = fresh pc
hart_with pc (value ∷ values) = write (hart_with pc values) value.0 value.1

-- ---- instructions

-- the new value of a register
pub an_addi : scenes_text [] all_steps
    (plain_scene (hart_with 4 ((5, 0xa7000) ∷ [])) 0x96828293 (hart_with 8 ((5, 0xa6968) ∷ [])) ∷ [])
    ≡ codes "7 rank 2 hart 1 stamp 9 at 0x4: addi x5, x5, -1688 = 0xa6968\n"
unfolding sight_text named_address_text place_name line_at nearest_of line_named decoded digits
an_addi = refl

-- x0 has none
pub a_nop : scenes_text two_symbols all_steps (plain_scene (fresh 4) 0x13 (fresh 8) ∷ [])
    ≡ codes "7 rank 2 hart 1 stamp 9 at go+0x4 [0x4]: addi x0, x0, 0\n"
unfolding sight_text named_address_text place_name line_at nearest_of line_named decoded digits
a_nop = refl

-- where a store writes, and what: the address is this side of 2^64, and a byte is the lowest of the register
pub a_store : scenes_text [] all_steps
    (plain_scene (hart_with 8 ((2, 0x10000) ∷ (5, 0xa6968) ∷ [])) 0xfe513c23 (fresh 12) ∷ [])
    ≡ codes "7 rank 2 hart 1 stamp 9 at 0x8: sd x5, -8(x2) [0xfff8] = 0xa6968\n"
unfolding sight_text named_address_text place_name line_at nearest_of line_named decoded digits
a_store = refl

pub a_stored_byte : scenes_text [] all_steps (plain_scene (hart_with 8 ((5, 0xa6968) ∷ [])) 0xfe500fa3 (fresh 12) ∷ [])
    ≡ codes "7 rank 2 hart 1 stamp 9 at 0x8: sb x5, -1(x0) [0xffffffffffffffff] = 0x68\n"
unfolding sight_text named_address_text place_name line_at nearest_of line_named decoded digits
a_stored_byte = refl

pub a_branch_taken : scenes_text [] all_steps (plain_scene (fresh 8) 0x00628463 (fresh 16) ∷ [])
    ≡ codes "7 rank 2 hart 1 stamp 9 at 0x8: beq x5, x6, 8 taken\n"
unfolding sight_text named_address_text place_name line_at nearest_of line_named decoded digits is_taken
a_branch_taken = refl

pub a_branch_not_taken : scenes_text [] all_steps
    (plain_scene (hart_with 8 ((6, 1) ∷ [])) 0x00628463 (hart_with 12 ((6, 1) ∷ [])) ∷ [])
    ≡ codes "7 rank 2 hart 1 stamp 9 at 0x8: beq x5, x6, 8 not taken\n"
unfolding sight_text named_address_text place_name line_at nearest_of line_named decoded digits is_taken
a_branch_not_taken = refl

-- a trap by its number and its name, and no value; the same of a store that fails because the stack is full; and a word
-- that is no instruction
pub a_trap : scenes_text [] all_steps
    (plain_scene (fresh 8) 0x00103283 (in_mode (fresh 8) (Trapped LoadMisaligned 8)) ∷ [])
    ≡ codes "7 rank 2 hart 1 stamp 9 at 0x8: ld x5, 1(x0) trapped 4 (misaligned load)\n"
unfolding sight_text named_address_text place_name line_at nearest_of line_named decoded digits
a_trap = refl

pub a_store_outside_memory : scenes_text [] all_steps
    (plain_scene (fresh 8) 0xfe513c23 (in_mode (fresh 8) (Trapped StoreAccess 8)) ∷ [])
    ≡ codes "7 rank 2 hart 1 stamp 9 at 0x8: sd x5, -8(x2) trapped 7 (store outside memory or into the text)\n"
unfolding sight_text named_address_text place_name line_at nearest_of line_named decoded digits
a_store_outside_memory = refl

pub a_full_stack : scenes_text [] all_steps
    (scene_with true Kind.Plain (fresh 8) (Some 0xfe513c23) None (in_mode (fresh 8) (Trapped StoreAccess 8)) None ∷ [])
    ≡ codes "7 rank 2 hart 1 stamp 9 at 0x8: sd x5, -8(x2) trapped 7 (stack overflow)\n"
unfolding sight_text named_address_text place_name line_at nearest_of line_named decoded digits
a_full_stack = refl

pub an_illegal_word : scenes_text [] all_steps (plain_scene (fresh 8) 0xb (fresh 8) ∷ [])
    ≡ codes "7 rank 2 hart 1 stamp 9 at 0x8: .word 0xb trapped 2 (illegal instruction)\n"
unfolding sight_text named_address_text place_name line_at nearest_of line_named decoded digits
an_illegal_word = refl

-- ---- calls

-- SEND of 5,000 bytes at 0x80 to rank 1 with tag 7 is refused: its code stands before its arguments
abbrev pub send_at : State
send_at = hart_with 0x38 ((10, 0x80) ∷ (11, 5000) ∷ (12, 1) ∷ (13, 7) ∷ (17, 16) ∷ [])

pub a_refused_send : scenes_text two_symbols all_steps
    (scene_of Kind.Local send_at None None (hart_with 0x3c ((10, 2) ∷ (17, 16) ∷ [])) None ∷ [])
    ≡ codes "7 rank 2 hart 1 stamp 9 at take+0x20 [0x38]: SEND refused: BAD_COUNT buf=0x80 count=5000 dest=1 tag=7 c=0\n"
unfolding sight_text call_name named_address_text place_name line_at nearest_of line_named digits
a_refused_send = refl

-- RECV of any rank and any tag
abbrev pub recv_at : State
recv_at = hart_with 0x38 ((10, 0x80) ∷ (11, 4) ∷ (12, 0xffffffffffffffff) ∷ (13, 0xffffffffffffffff) ∷ (17, 18) ∷ [])

abbrev pub message_of : List ℕ → Message
message_of bytes = record { envelope = record { comm = 0; source = 3; tag = 7; count = 18 }; bytes = bytes }

-- it got a message of 18 bytes, of which 16 are told and its buffer took 4
pub a_message : scenes_text [] all_steps
    (scene_of (Kind.Hub (reply.Got (message_of (12 ∷ 0 ∷ 255 ∷ 1 ∷ 2 ∷ 3 ∷ 4 ∷ 5 ∷ 6 ∷ 7 ∷ 8 ∷ 9 ∷ 10 ∷ 11 ∷ 12 ∷ 13
    ∷ 14 ∷ 15 ∷ [])))) recv_at None None (hart_with 0x3c ((10, 7) ∷ (17, 18) ∷ [])) None ∷ [])
    ≡ codes "7 rank 2 hart 1 stamp 9 at 0x38: RECV buf=0x80 cap=4 source=any tag=any c=0 st=0x0"
    ++ codes " -> message from rank 3 tag 7, 18 bytes: 0c 00 ff 01 02 03 04 05 06 07 08 09 0a 0b 0c 0d -> TRUNCATED\n"
unfolding sight_text call_name named_address_text place_name line_at nearest_of line_named digits
a_message = refl

-- it looks in vain three times, which is one line where calls alone are told, and no other line stands between
abbrev pub in_vain : Scene
in_vain = scene_of (Kind.Hub reply.NotYet) recv_at None None (in_mode recv_at (Waiting Again)) None

pub looks_in_vain : scenes_text [] calls_alone (in_vain ∷ plain_scene (fresh 4) 0x13 (fresh 8) ∷ in_vain ∷ in_vain ∷ [])
    ≡ codes "7 rank 2 hart 1 stamp 9 at 0x38: RECV buf=0x80 cap=4 source=any tag=any c=0 st=0x0 -> waits"
    ++ codes " and 2 more looks in vain\n"
unfolding sight_text call_name named_address_text place_name line_at nearest_of line_named digits
looks_in_vain = refl

-- ---- partitions

-- PREADY of partition 1, in the second phase of its link
pub a_ready : scenes_text [] all_steps
    (scene_of Kind.Ready (hart_with 8 ((10, 3) ∷ (11, 1) ∷ (17, 42) ∷ [])) None (Some (0, 1)) (hart_with 12 []) (Some 2)
    ∷ [])
    ≡ codes "7 rank 2 hart 1 stamp 9 at 0x8: PREADY h=3 partition=1 -> link 0 partition 1 -> phase 2\n"
unfolding sight_text call_name named_address_text place_name line_at nearest_of line_named digits
a_ready = refl

-- a box in which so many things were made, and so many taken
abbrev pub box_with : List Thing → ℕ → Box
box_with made taken = record { made = made; taken = taken; stamp = 0 }

abbrev pub a_thing : Thing
a_thing = record { stamp = 1; bytes = [] }

-- box 1 of link 0 is in its second phase: what was made there twice was taken once
abbrev pub second_phase : List Box
second_phase = empty_box ∷ box_with (a_thing ∷ a_thing ∷ []) 1 ∷ []

-- the first phase of one box is about to begin, while the other's third would be made ready, its second is taken, and
-- its sender waits for that; who asks no box has no phase
pub phases_of : map (λ (asked : Kind × Ask). phase_in asked.0 second_phase asked.1)
    ((Kind.Ready, ask.Ready 0 0 []) ∷ (Kind.Ready, ask.Ready 0 1 []) ∷ (Kind.Take, ask.Look 0 1)
    ∷ (Kind.Miss, ask.Look 0 0) ∷ (Kind.Miss, ask.Freed 0 1) ∷ (Kind.Freed, ask.Freed 0 1) ∷ (Kind.Plain, ask.Plain) ∷ [])
    ≡ Some 1 ∷ Some 3 ∷ Some 2 ∷ Some 1 ∷ Some 2 ∷ Some 2 ∷ None ∷ []
phases_of = refl
