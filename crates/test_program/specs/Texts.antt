-- Texts that stand in others.
use Rattle.std.specs.Prelude.{ℕ, ◌≡◌, List, ◌++◌}

-- somewhere in the whole text this one stands
pub record StandsIn (piece whole : List ℕ) : Type 0 where
  pub front : List ℕ
  pub behind : List ℕ
  pub is : whole ≡ front ++ (piece ++ behind)

-- and in what was put behind a text
abbrev pub StandsBehind : List ℕ → List ℕ → List ℕ → Type 0
StandsBehind piece old new = (added : List ℕ) × (new ≡ old ++ added) × StandsIn piece added
