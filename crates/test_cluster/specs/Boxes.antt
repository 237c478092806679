-- What turns make of the keys of boxes.
use Rattle.std.specs.Prelude.{ℕ, ◌≡◌, ◌+◌, ◌⊎◌, List, [], ◌∷◌, ◌++◌, length, Some, None, true, false}
use Rattle.part_box.specs.declared.view.Receiving.{Receiving}
use Rattle.part_box.specs.declared.view.Sending.{Sending}
use Rattle.part_box.specs.Gate.{ready_stamp, taken_stamp}
use Rattle.part_phase.specs.Limits.{box_words}
use Rattle.cl_rank.specs.Sides.{is_place}
use Rattle.cl_rank.specs.RankSides.{Sides, receiver_of, sender_of}
use Rattle.cl_rank.specs.Turning.{RankView}

-- each key knows what it knew
pub record KeepsKeys (old new : Sides) : Type 0 where
  pub sends : (link part : ℕ) → sender_of new link part ≡ sender_of old link part
  pub recvs : (link part : ℕ) → receiver_of new link part ≡ receiver_of old link part

-- and so does each but those of the box that was asked
pub record KeepsOthers (old new : RankView) : Type 0 where
  pub sends : (link part : ℕ) → is_place link part new.asked_box ≡ false
      → sender_of new.sides link part ≡ sender_of old.sides link part
  pub recvs : (link part : ℕ) → is_place link part new.asked_box ≡ false
      → receiver_of new.sides link part ≡ receiver_of old.sides link part

-- the sender's key of a box loaded one gate word more, which shows no take, and made nothing
pub record SenderMisses (link part : ℕ) (old new : Sides) : Type 0 where
  pub before : Sending
  pub after : Sending
  pub word : ℕ
  pub before_is : sender_of old link part ≡ Some before
  pub after_is : sender_of new link part ≡ Some after
  pub shows_none : taken_stamp word ≡ None
  pub loaded : after.loads ≡ before.loads ++ record { word = word; count = length before.made } ∷ []
  pub made_stays : after.made ≡ before.made

-- and the receiver's, which shows no thing, and got nothing
pub record ReceiverMisses (link part : ℕ) (old new : Sides) : Type 0 where
  pub before : Receiving
  pub after : Receiving
  pub word : ℕ
  pub before_is : receiver_of old link part ≡ Some before
  pub after_is : receiver_of new link part ≡ Some after
  pub shows_none : ready_stamp word ≡ None
  pub loaded : after.loads ≡ before.loads ++ record { word = word; count = length before.got } ∷ []
  pub got_stays : after.got ≡ before.got

-- a key of the box that was asked looked in vain
pub record LooksInVain (old new : RankView) : Type 0 where
  pub link : ℕ
  pub part : ℕ
  pub asked : new.asked_box ≡ Some (link, part)
  pub looks : SenderMisses link part old.sides new.sides ⊎ ReceiverMisses link part old.sides new.sides

-- the sender's key of the box that was asked was open, and made one thing more, whose words fill the box
pub record MakesOne (old new : RankView) : Type 0 where
  pub link : ℕ
  pub part : ℕ
  pub asked : new.asked_box ≡ Some (link, part)
  pub before : Sending
  pub after : Sending
  pub words : List ℕ
  pub before_is : sender_of old.sides link part ≡ Some before
  pub after_is : sender_of new.sides link part ≡ Some after
  pub was_open : before.is_open ≡ true
  pub full : length words ≡ box_words old.rank.site.version
  pub made : after.made ≡ before.made ++ record { stamp = old.rank.clock + 1; words = words } ∷ []
  pub loads_stay : after.loads ≡ before.loads
