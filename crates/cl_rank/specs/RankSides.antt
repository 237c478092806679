-- What a deed makes of the keys of its rank's sides. The sides themselves are those of cl_sides.
use Rattle.std.specs.Prelude.{ℕ, ◌≡◌, ◌⊎◌, ⊤, Bool, true, false, Option, Some, None}
use Rattle.rv_image_types.specs.declared.images.ImageVersion.{ImageVersion}
use Rattle.part_box.specs.declared.view.Sending.{Sending}
use Rattle.part_box.specs.declared.view.Receiving.{Receiving}
pub use Rattle.cl_sides.specs.Sides.{AreChannelsOf, AreNewSides, AreSides, HasReceiver, HasSender, PhaseFits, Sides}
pub use Rattle.cl_sides.specs.Sides.{phase_of_receiver, phase_of_sender, side_of, sides_in}
pub use Rattle.cl_sides.specs.Sides.{receiver_key, receiver_of, receiver_view, sender_key, sender_of, sender_view}
use Rattle.cl_deeds.specs.Deeds.{Act}
use Rattle.cl_rank.specs.Sides.{box_id_of, is_place, SenderActs, ReceiverActs}

-- where the act is on this box its key goes by the act, and else it stays
abbrev pub KeyMoves : {K : Type 0} → Bool → (K → K → Type 0) → Option K → Option K → Type 0
KeyMoves here Acts None None = ⊤
KeyMoves true Acts (Some old) (Some new) = Acts old new
KeyMoves false Acts (Some old) (Some new) = new ≡ old
KeyMoves here Acts _ _ = ⊥

-- the rank has the key by which its act asks a box: the sender's for Ready and Freed, the receiver's for Take, one of
-- them for a Miss
abbrev pub HasKey : Sides → Act → Type 0
HasKey sides (Act.Ready link part bytes) = (s : Sending) × (sender_of sides link part ≡ Some s)
HasKey sides (Act.Freed link part gate) = (s : Sending) × (sender_of sides link part ≡ Some s)
HasKey sides (Act.Take link part gate bytes) = (r : Receiving) × (receiver_of sides link part ≡ Some r)
HasKey sides (Act.Miss link part) =
    ((s : Sending) × (sender_of sides link part ≡ Some s)) ⊎ ((r : Receiving) × (receiver_of sides link part ≡ Some r))
HasKey sides _ = ⊤

-- one act moves the keys of one box at most: so what the keys loaded, made and got is, box by box and in order, what
-- the rank's Ready, Take, Freed and Miss events met
pub record KeysMove (version : ImageVersion) (stamp : ℕ) (act : Act) (old new : Sides) : Type 0 where
  pub there : HasKey old act
  pub sends : (link part : ℕ)
      → KeyMoves (is_place link part (box_id_of act)) (SenderActs version stamp act)
      (sender_of old link part) (sender_of new link part)
  pub recvs : (link part : ℕ)
      → KeyMoves (is_place link part (box_id_of act)) (ReceiverActs version stamp act)
      (receiver_of old link part) (receiver_of new link part)
