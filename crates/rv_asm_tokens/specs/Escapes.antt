-- Strings: how long one is in the source, and the bytes that it stands for.
use Rattle.std.specs.Prelude.{ℕ, ◌+◌, List, [], ◌∷◌, Bool, true, false, ◌||◌, Option, Some, None, nat_lt, ◌==◌}
use Rattle.std.specs.Prelude.{if◌then◌else◌}
use Rattle.rv_asm_tokens.specs.declared.escapes.QuoteStep.{QuoteStep}
use Rattle.rv_asm_tokens.specs.declared.escapes.QuoteStep.TheVariants.{End, Bad, Go}

-- `n`, `t`, `0`, a backslash or a quote
unfoldable pub is_escape : ℕ → Bool
is_escape b = (b == 110) || ((b == 116) || ((b == 48) || ((b == 92) || (b == 34))))

-- what a byte of a string does, behind a backslash or not: it ends the string, is wrong there, or the string goes on
unfoldable pub quote_step : Bool → ℕ → QuoteStep
quote_step true b = if is_escape b then Go false else Bad
quote_step false b = if b == 34 then End else (if nat_lt b 128 then Go (b == 92) else Bad)

abbrev pub on_step : {A : Type 0} → QuoteStep → A → A → (Bool → A) → A
on_step End ends bad goes = ends
on_step Bad ends bad goes = bad
on_step (Go escaped) ends bad goes = goes escaped

-- how many bytes, n before these, stand before the quote that ends a string
unfoldable pub quoted_length : Bool → ℕ → List ℕ → Option ℕ
quoted_length escaped n [] = None
quoted_length escaped n (b ∷ bs) = on_step (quote_step escaped b) (Some n) None (λ e. quoted_length e (n + 1) bs)

-- what stands behind a backslash: newline, tab, zero, or the byte itself
abbrev pub escape_value : ℕ → ℕ
escape_value b = if b == 110 then 10 else (if b == 116 then 9 else (if b == 48 then 0 else b))

-- the bytes that a string stands for, behind a backslash or not
unfoldable pub text_from : Bool → List ℕ → List ℕ
text_from escaped [] = []
text_from true (b ∷ bs) = escape_value b ∷ text_from false bs
text_from false (b ∷ bs) = if b == 92 then text_from true bs else b ∷ text_from false bs

abbrev pub text_of : List ℕ → List ℕ
text_of raw = text_from false raw
