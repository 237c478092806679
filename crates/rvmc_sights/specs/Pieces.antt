-- A text that is written piece by piece.
use Rattle.std.specs.Prelude.{ℕ, ◌≡◌, ◌++◌, List, Option}
use Rattle.std.specs.Io.KnownBytes.{Appends}

-- the front of what is held was moved to the writer
pub record IsMoved (old new : List ℕ) (before after : Option (List ℕ)) : Type 0 where
  pub front : List ℕ
  pub all : old ≡ front ++ new
  pub there : Appends before after front
