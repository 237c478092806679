-- A key of a box steps on the words of that box.
use Rattle.std.proofs.Common.{◌≡◌, ℕ, sym, ap, ◌∙◌}
use Rattle.part_box.specs.declared.view.Sending.{Sending}
use Rattle.part_box.specs.declared.view.Receiving.{Receiving}
use Rattle.part_box.specs.Keys.{BoxId, Place, Sender, Receiver}

-- of the words and the seat of a box and a sender's key, as these show them
pub sender_owned : {words seat : BoxId} {width : ℕ} {view : Sending} {place : Place} {key : Sender}
    → record { at = words; width = width } ≡ place → record { at = seat; view = view } ≡ key → key.at ≡ place.at
    → seat ≡ words
sender_owned shown key_shown own = ap (λ (k : Sender). k.at) key_shown ∙ (own ∙ sym (ap (λ (p : Place). p.at) shown))

-- the same of a receiver's key
pub receiver_owned : {words seat : BoxId} {width : ℕ} {view : Receiving} {place : Place} {key : Receiver}
    → record { at = words; width = width } ≡ place → record { at = seat; view = view } ≡ key → key.at ≡ place.at
    → seat ≡ words
receiver_owned shown key_shown own =
    ap (λ (k : Receiver). k.at) key_shown ∙ (own ∙ sym (ap (λ (p : Place). p.at) shown))
