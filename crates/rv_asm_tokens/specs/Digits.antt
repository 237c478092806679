-- Numbers by their digits.
use Rattle.std.specs.Prelude.{ℕ, ◌+◌, ◌-◌, ◌*◌, ◌^◌, List, [], ◌∷◌, Bool, ◌&&◌, Option, Some, None, nat_lt, nat_le}
use Rattle.std.specs.Prelude.{◌==◌, if◌then◌else◌}
use Rattle.rv_asm_tokens.specs.Fault.{if_some}

abbrev pub between : ℕ → ℕ → ℕ → Bool
between low high b = nat_le low b && nat_le b high

abbrev pub is_digit : ℕ → Bool
is_digit b = between 48 57 b

-- the value of a digit below the base: `0` to `9`, then `a` or `A` for ten
abbrev pub digit_value : ℕ → ℕ → Option ℕ
digit_value base b =
    let d = (if is_digit b then b - 48
    else (if between 97 102 b then b - 87
    else (if between 65 70 b then b - 55 else base))) in if nat_lt d base then Some d else None

-- one more digit behind a number, if both are below 2 ^ 64
unfoldable pub with_digit : ℕ → ℕ → ℕ → Option ℕ
with_digit base value b =
    if_some (digit_value base b) None
    (λ d. if nat_lt (value * base + d) (2 ^ 64) then Some (value * base + d) else None)

-- the number below 2 ^ 64 that digits spell behind a number
unfoldable pub digits_from : ℕ → ℕ → List ℕ → Option ℕ
digits_from base value [] = Some value
digits_from base value (b ∷ bs) = if_some (with_digit base value b) None (λ next. digits_from base next bs)

-- decimal digits, or `0x` and hexadecimal digits; at least one
unfoldable pub magnitude : List ℕ → Option ℕ
magnitude [] = None
magnitude (b ∷ []) = digits_from 10 0 (b ∷ [])
magnitude (b ∷ c ∷ []) = digits_from 10 0 (b ∷ c ∷ [])
magnitude (b ∷ c ∷ d ∷ ds) =
    if (b == 48) && (c == 120) then digits_from 16 0 (d ∷ ds) else digits_from 10 0 (b ∷ c ∷ d ∷ ds)
