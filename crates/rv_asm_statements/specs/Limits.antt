-- Numbers that keep limits.
use Rattle.std.specs.Prelude.{◌≡◌, ℕ, ℤ, pos, negsuc, ◌≤◌, ◌%◌, ◌&&◌, ◌==◌, Option, Some, None, nat_le, if◌then◌else◌}
use Rattle.rv_asm_tokens.specs.Fault.{if_some}

-- from the least to the most, and a multiple of the step
pub record IsWithinLimits (least most step n : ℕ) : Type 0 where
  pub not_below : least ≤ n
  pub not_above : n ≤ most
  pub whole_steps : n % step ≡ 0

-- the natural number that an integer is
abbrev pub natural_of : ℤ → Option ℕ
natural_of (pos n) = Some n
natural_of (negsuc n) = None

-- the number that an integer is, if it keeps the limits
unfoldable pub limited : ℕ → ℕ → ℕ → ℤ → Option ℕ
limited least most step z =
    if_some (natural_of z) None (λ n. if nat_le least n && (nat_le n most && (n % step == 0)) then Some n else None)
