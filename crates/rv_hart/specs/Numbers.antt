-- Whole numbers and registers: reduction, quotients rounded down, and the readings of a register
-- (RISC-V Unprivileged ISA 20191213, 5.1 and 5.2).
use Rattle.std.specs.Prelude.{ℕ, ◌-◌, ◌/◌, ◌%◌, ◌^◌, ℤ, pos, negsuc}
use Rattle.rv_decode.specs.Fields.{signed}

-- the number from 0 to m - 1 that differs from z by a multiple of m
abbrev pub modulo : ℤ → ℕ → ℕ
modulo (pos n) m = n % m
modulo (negsuc n) m = m - 1 - n % m

-- z / m, rounded down
abbrev pub floor : ℤ → ℕ → ℤ
floor (pos n) m = pos (n / m)
floor (negsuc n) m = negsuc (n / m)

-- a register as a signed number
abbrev pub signed_64 : ℕ → ℤ
signed_64 n = signed 64 n

-- the low 32 bits of a register, as an unsigned and as a signed number
abbrev pub low_32 : ℕ → ℕ
low_32 n = n % 2 ^ 32

abbrev pub signed_32 : ℕ → ℤ
signed_32 n = signed 32 (low_32 n)

-- what a register holds of a whole number: its low 64 bits
abbrev pub in_64 : ℤ → ℕ
in_64 z = modulo z (2 ^ 64)

-- what a W instruction leaves of a whole number: its low 32 bits, sign-extended
abbrev pub in_32 : ℤ → ℕ
in_32 z = in_64 (signed 32 (modulo z (2 ^ 32)))
