-- What is kept of a stream is no longer than a text may be.
use Rattle.std.specs.Prelude.{nat_lt, ◌==◌, if◌then◌else◌}
use Rattle.std.proofs.Common.{◌≡◌, ◌≤◌, ℕ, Bool, true, false, refl, arith, List, [], ◌∷◌, ◌++◌, length, length-append, ltb-true}
use Rattle.rvmc_protocol.specs.declared.packets.reader.Stage.{Stage}
use Rattle.rvmc_protocol.specs.declared.packets.reader.Stage.TheVariants.{Outside, Text, Beyond, Sum, Digit}
use Rattle.rvmc_protocol.specs.Packets.Reading.{Place, begun, longer, outside_of, place_after}

abbrev Fits : Place → Type 0
Fits place = length place.text ≤ place.most

kept_longer : (most : ℕ) (text : List ℕ) (byte : ℕ) → Fits (longer most text byte)
kept_longer most text byte = go (nat_lt (length text) most) refl
  where
    go : (room : Bool) → nat_lt (length text) most ≡ room
        → Fits (if room then record { most = most; stage = Text; text = text ++ byte ∷ [] } else record { most = most; stage = Beyond; text = [] })
    go true e = omega (arith, ltb-true (length text) most e, length-append text (byte ∷ []))
    go false e = omega arith

choice : (test : Bool) (a b : Place) → Fits a → Fits b → Fits (if test then a else b)
choice true a b p q = p
choice false a b p q = q

pub kept : (most : ℕ) (stage : Stage) (text : List ℕ) (byte : ℕ) → length text ≤ most → Fits (place_after most stage text byte)
kept most Outside text byte h = choice (byte == 36) (begun most) (outside_of most) (omega arith) (omega arith)
kept most Text text byte h =
    choice (byte == 36) (begun most) _ (omega arith)
    (choice (byte == 35) (record { most = most; stage = Sum; text = text }) (longer most text byte) h (kept_longer most text byte))
kept most Beyond text byte h =
    choice (byte == 36) (begun most) _ (omega arith)
    (choice (byte == 35) (outside_of most) (record { most = most; stage = Beyond; text = [] }) (omega arith) (omega arith))
kept most Sum text byte h = h
kept most (Digit high) text byte h = omega arith
