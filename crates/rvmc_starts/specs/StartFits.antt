-- Which starts there are.
use Rattle.std.specs.Prelude.{◌<◌, ◌≤◌, ◌^◌, List, [], ◌∷◌, length}
use Rattle.cl_turns.specs.declared.Turn.{Turn}
use Rattle.rvmc_starts.specs.Starts.{AreBytes}
use Rattle.rvmc_starts.specs.declared.starts.Start.{Start}

-- each is of a rank below 256
abbrev pub AreTurns : List Turn → Type 0
AreTurns [] = Unit {0}
AreTurns (turn ∷ turns) = (turn.rank < 256) × AreTurns turns

-- a start of its split, for some harts, whose numbers fit their types
pub record IsStart (start : Start) : Type 0 where
  pub first : 1 ≤ start.number
  pub last : start.number ≤ start.count
  pub count : start.count < 2 ^ 64
  pub size : start.image.size < 2 ^ 64
  pub digest : start.image.digest < 2 ^ 64
  pub split : start.split < 2 ^ 64
  pub some : 0 < length start.harts
  pub harts : AreBytes start.harts
  pub turns : AreTurns start.turns
