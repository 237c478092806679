-- How far apart the states are that a debugger keeps.
use Rattle.std.specs.Prelude.{ℕ, ◌≡◌, ◌<◌, ◌≤◌, ◌+◌, ◌*◌, ◌/◌, ◌^◌}

-- how many multiples of a spacing there are up to a length, 0 among them
abbrev pub multiples : ℕ → ℕ → ℕ
multiples spacing len = len / spacing + 1

-- 1,024 times the least power of two that leaves at most 64 multiples up to the length
pub record IsSpacing (len spacing : ℕ) : Type 0 where
  pub power : ℕ
  pub is : spacing ≡ 1024 * 2 ^ power
  pub few : multiples spacing len ≤ 64
  pub least : (other : ℕ) → other < power → 64 < multiples (1024 * 2 ^ other) len

-- worked: of no steps, of the most that 1,024 serves, and of one more
pub record SpacingRows : Type 0 where
  pub none : IsSpacing 0 1024
  pub most : IsSpacing 65535 1024
  pub more : IsSpacing 65536 2048
