-- Boxes in which the same stands.
use Rattle.std.specs.Prelude.{ℕ, ◌≡◌, List, length, slice_get, Some}
use Rattle.part_box.specs.declared.settled.Settled.{Settled}

-- the same stands in both, whatever their stamps
pub record IsAlikeSettled (a b : Settled) : Type 0 where
  pub full : b.full ≡ a.full
  pub words : b.words ≡ a.words

pub record AreAlikeParts (parts others : List Settled) : Type 0 where
  pub many : length others ≡ length parts
  pub each : (i : ℕ) (s t : Settled) → slice_get parts i ≡ Some s → slice_get others i ≡ Some t → IsAlikeSettled s t

-- of each link
abbrev pub AreAlikeLinks : List (List Settled) → List (List Settled) → Type 0
AreAlikeLinks boxes others =
    (link : ℕ) (parts more : List Settled) → slice_get boxes link ≡ Some parts → slice_get others link ≡ Some more
    → AreAlikeParts parts more
