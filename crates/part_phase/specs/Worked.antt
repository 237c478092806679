-- Worked values of phases.
use Rattle.std.specs.Prelude.{◌≡◌, ℕ, Bool, List, [], ◌∷◌, ◌++◌, map, slice_get, replicate, Option, Some, None, true, false}
use Rattle.rv_image_types.specs.declared.images.ImageVersion.{ImageVersion}
use Rattle.rv_image_types.specs.declared.images.ImageVersion.TheVariants.{One, Two}
use Rattle.part_phase.specs.declared.phases.Phase.{Phase}
use Rattle.part_phase.specs.declared.phases.Phase.TheVariants.{Apart, Sending, Receiving}
use Rattle.part_phase.specs.declared.receiving.RecvPhase.{RecvPhase}
use Rattle.part_phase.specs.declared.sending.SendPhase.{SendPhase}
use Rattle.part_phase.specs.Limits.{are_parts, is_size, padded}
use Rattle.part_phase.specs.Phases.{begun, changed_at, first_phases, is_unshaped_receiving, is_unshaped_sending}
use Rattle.part_phase.specs.Phases.{on_receiving, on_sending, sending_at}
use Rattle.part_phase.specs.Receiving.{shaped_receiving, unshaped_receiving, is_cut, cut_into, begun_receiving}
use Rattle.part_phase.specs.Receiving.{IsRecvPhase, next_box, next_box_of, one_taken}
use Rattle.part_phase.specs.Sending.{shaped_sending, unshaped_sending, begun_sending, readied, is_part_ready, next_to_free}
use Rattle.part_phase.specs.Sending.{IsSendPhase, one_freed}

-- 1 to 16 partitions of 8 to 64 bytes in version 1 and to 128 in version 2, in whole 8s
abbrev pub LimitRows : Type 0
LimitRows =
    (map are_parts (0 ∷ 1 ∷ 16 ∷ 17 ∷ []) ≡ false ∷ true ∷ true ∷ false ∷ [])
    × (map (is_size One) (0 ∷ 8 ∷ 12 ∷ 64 ∷ 72 ∷ []) ≡ false ∷ true ∷ false ∷ true ∷ false ∷ [])
    × (map (is_size Two) (0 ∷ 8 ∷ 12 ∷ 72 ∷ 128 ∷ 136 ∷ []) ≡ false ∷ true ∷ false ∷ true ∷ true ∷ false ∷ [])

-- 0 stands behind the bytes, up to the width
abbrev pub PaddedRows : Type 0
PaddedRows =
    (padded One (7 ∷ 8 ∷ []) ≡ (7 ∷ 8 ∷ []) ++ replicate 62 0) × (padded Two (7 ∷ []) ≡ 7 ∷ replicate 127 0)

-- the sender's side of 2 partitions: both are ready, 1 first, and then freed from the lowest on
abbrev pub two_begun : SendPhase
two_begun = begun_sending (shaped_sending 2 8 unshaped_sending)

abbrev pub both_ready : SendPhase
both_ready = readied 0 (readied 1 two_begun)

abbrev pub SendingRows : Type 0
SendingRows =
    (next_to_free (shaped_sending 2 8 unshaped_sending) ≡ None)
    × (map next_to_free (two_begun ∷ both_ready ∷ one_freed both_ready ∷ one_freed (one_freed both_ready) ∷ [])
    ≡ Some 0 ∷ Some 0 ∷ Some 1 ∷ None ∷ [])
    × (map (is_part_ready (readied 1 two_begun)) (0 ∷ 1 ∷ 2 ∷ []) ≡ false ∷ true ∷ false ∷ [])
    × (one_freed (one_freed both_ready) ≡ shaped_sending 2 8 unshaped_sending)
    -- a phase that is going on goes on
    × (begun_sending both_ready ≡ both_ready)

-- the receiver's side of 2 partitions of 96 bytes, which the sender cut into 3 of 64
abbrev pub two_of_96 : RecvPhase
two_of_96 = begun_receiving (shaped_receiving 2 96 unshaped_receiving)

abbrev pub cut_apart : RecvPhase
cut_apart = cut_into 3 64 two_of_96

-- which boxes both partitions wait for, and one that isn't there
abbrev pub awaited : RecvPhase → List (Option ℕ)
awaited p = map (next_box_of p) (0 ∷ 1 ∷ 2 ∷ [])

abbrev pub CutRows : Type 0
CutRows =
    (is_cut Two two_of_96 3 64 ≡ true)
    × (is_cut Two two_of_96 2 64 ≡ false)
    × (is_cut Two cut_apart 3 64 ≡ false)
    × (next_box two_of_96 ≡ None)
    × (awaited two_of_96 ≡ None ∷ None ∷ None ∷ [])
    × (awaited cut_apart ≡ Some 0 ∷ Some 1 ∷ None ∷ [])
    × (awaited (one_taken 0 cut_apart) ≡ Some 1 ∷ Some 1 ∷ None ∷ [])
    × (awaited (one_taken 1 (one_taken 0 cut_apart)) ≡ None ∷ Some 2 ∷ None ∷ [])
    -- the last box ends the phase, whichever it is
    × (one_taken 2 (one_taken 1 (one_taken 0 cut_apart)) ≡ record cut_apart { active = false })
    × (one_taken 0 (one_taken 1 (one_taken 2 cut_apart)) ≡ record cut_apart { active = false })
    × (next_box (begun_receiving (record cut_apart { active = false })) ≡ Some 0)

-- which cuts of 192 bytes a sender may have: 16 partitions at most, whole words, and none wider than a box, which has 64
-- bytes in version 1 and 128 in version 2
abbrev pub cuts_of_192 : ImageVersion → List Bool
cuts_of_192 version =
    map (λ (c : ℕ × ℕ). is_cut version two_of_96 c.0 c.1)
    ((1, 192) ∷ (2, 96) ∷ (3, 64) ∷ (8, 24) ∷ (12, 16) ∷ (16, 12) ∷ (24, 8) ∷ [])

-- the widest sides that there are
abbrev pub widest_sending : SendPhase
widest_sending = shaped_sending 16 128 unshaped_sending

abbrev pub widest_receiving : RecvPhase
widest_receiving = cut_into 16 128 (shaped_receiving 16 128 unshaped_receiving)

pub record WidthRows : Type 0 where
  pub one : cuts_of_192 One ≡ false ∷ false ∷ true ∷ true ∷ true ∷ false ∷ false ∷ []
  pub two : cuts_of_192 Two ≡ false ∷ true ∷ true ∷ true ∷ true ∷ false ∷ false ∷ []
  pub sending : IsSendPhase widest_sending
  pub receiving : IsRecvPhase widest_receiving
  -- its last partition is made ready and its last box taken, as any other
  pub last_ready : is_part_ready (readied 15 (begun_sending widest_sending)) 15 ≡ true
  pub last_next : next_box_of (begun_receiving widest_receiving) 15 ≡ Some 15

-- links from 0 to 1, from 1 to 0 and from 1 to 2, of which rank 0 has the sender's side of the first and the receiver's
-- of the second
abbrev pub sides_of_0 : List Phase
sides_of_0 = first_phases (record { from = 0; to = 1 } ∷ record { from = 1; to = 0 } ∷ record { from = 1; to = 2 } ∷ []) 0

-- a transfer of 2 partitions of 8 bytes has the first, and its phase began
abbrev pub shaped_of_0 : List Phase
shaped_of_0 = changed_at 0 (on_sending (shaped_sending 2 8)) sides_of_0

abbrev pub begun_of_0 : List Phase
begun_of_0 = changed_at 0 begun shaped_of_0

pub record SideRows : Type 0 where
  pub first : sides_of_0 ≡ Sending unshaped_sending ∷ Receiving unshaped_receiving ∷ Apart ∷ []
  -- which sides a transfer may have, at first and then
  pub to_send : map (λ link. is_unshaped_sending (slice_get sides_of_0 link)) (0 ∷ 1 ∷ 2 ∷ 3 ∷ [])
      ≡ true ∷ false ∷ false ∷ false ∷ []
  pub to_receive : map (λ link. is_unshaped_receiving (slice_get sides_of_0 link)) (0 ∷ 1 ∷ 2 ∷ 3 ∷ [])
      ≡ false ∷ true ∷ false ∷ false ∷ []
  pub had : is_unshaped_sending (slice_get shaped_of_0 0) ≡ false
  -- the phase is the first link's
  pub next : map (λ link. next_to_free (sending_at begun_of_0 link)) (0 ∷ 1 ∷ 2 ∷ 3 ∷ [])
      ≡ Some 0 ∷ None ∷ None ∷ None ∷ []
  pub shape : (sending_at begun_of_0 0).size ≡ 8
  -- who hasn't the side changes nothing, and so does a link that isn't there
  pub not_sending : changed_at 1 (on_sending (shaped_sending 2 8)) sides_of_0 ≡ sides_of_0
  pub not_receiving : changed_at 0 (on_receiving (shaped_receiving 2 8)) sides_of_0 ≡ sides_of_0
  pub not_there : changed_at 3 begun begun_of_0 ≡ begun_of_0
