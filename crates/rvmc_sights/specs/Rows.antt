-- Texts that are written into a row of bytes from its end on.
use Rattle.std.specs.Prelude.{ℕ, ◌≡◌, ◌+◌, List, ◌++◌, drop, length}

-- a text was written before what stands from the end on, and begins at this place
pub record StandsBefore (text : List ℕ) (end : ℕ) (old new : List ℕ) (start : ℕ) : Type 0 where
  pub begins : start + length text ≡ end
  pub written : drop start new ≡ text ++ drop end old
