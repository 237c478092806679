-- All of a rank's phases: one a link of the image, in the image's order.
use Rattle.std.specs.Prelude.{ℕ, zero, suc, ◌==◌, List, [], ◌∷◌, map, slice_get, Bool, false, Option, Some}
use Rattle.std.specs.Prelude.{if◌then◌else◌}
use Rattle.rv_image_types.specs.declared.images.Link.{Link}
use Rattle.part_phase.specs.declared.phases.Phase.{Phase}
use Rattle.part_phase.specs.declared.phases.Phase.TheVariants.{Apart, Sending, Receiving}
use Rattle.part_phase.specs.declared.receiving.RecvPhase.{RecvPhase}
use Rattle.part_phase.specs.declared.sending.SendPhase.{SendPhase}
use Rattle.part_phase.specs.Sending.{IsSendPhase, unshaped_sending, begun_sending}
use Rattle.part_phase.specs.Receiving.{IsRecvPhase, unshaped_receiving, begun_receiving}

-- what each of a rank's sides keeps
abbrev pub IsPhase : Phase → Type 0
IsPhase Apart = Unit
IsPhase (Sending p) = IsSendPhase p
IsPhase (Receiving p) = IsRecvPhase p

-- the side that a rank has of a link, before any transfer has it
abbrev pub first_phase : ℕ → Link → Phase
first_phase rank link =
    if (link.from == rank) then Sending unshaped_sending else
    if (link.to == rank) then Receiving unshaped_receiving else
    Apart

abbrev pub first_phases : List Link → ℕ → List Phase
first_phases links rank = map (first_phase rank) links

-- the sender's side of a link; where the rank hasn't it, one without a shape
abbrev pub sending_in : Option Phase → SendPhase
sending_in (Some (Sending p)) = p
sending_in _ = unshaped_sending

abbrev pub sending_at : List Phase → ℕ → SendPhase
sending_at phases link = sending_in (slice_get phases link)

-- and the receiver's
abbrev pub receiving_in : Option Phase → RecvPhase
receiving_in (Some (Receiving p)) = p
receiving_in _ = unshaped_receiving

abbrev pub receiving_at : List Phase → ℕ → RecvPhase
receiving_at phases link = receiving_in (slice_get phases link)

-- one phase is changed; a link that isn't there has none
abbrev pub changed_at : ℕ → (Phase → Phase) → List Phase → List Phase
changed_at link change [] = []
changed_at zero change (p ∷ ps) = change p ∷ ps
changed_at (suc link) change (p ∷ ps) = p ∷ changed_at link change ps

-- a change of the sender's side alone, and of the receiver's
abbrev pub on_sending : (SendPhase → SendPhase) → Phase → Phase
on_sending change (Sending p) = Sending (change p)
on_sending change phase = phase

abbrev pub on_receiving : (RecvPhase → RecvPhase) → Phase → Phase
on_receiving change (Receiving p) = Receiving (change p)
on_receiving change phase = phase

-- a phase begins
abbrev pub begun : Phase → Phase
begun Apart = Apart
begun (Sending p) = Sending (begun_sending p)
begun (Receiving p) = Receiving (begun_receiving p)

-- the rank has this side of the link, and no transfer has it
abbrev pub is_unshaped_sending : Option Phase → Bool
is_unshaped_sending (Some (Sending p)) = p.parts == 0
is_unshaped_sending _ = false

abbrev pub is_unshaped_receiving : Option Phase → Bool
is_unshaped_receiving (Some (Receiving p)) = p.parts == 0
is_unshaped_receiving _ = false
