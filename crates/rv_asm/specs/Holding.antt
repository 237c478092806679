-- What the bytes of data hold.
use Rattle.std.specs.Prelude.{◌≡◌, ℕ, ℤ, List, [], ◌∷◌, ◌++◌, All, length, Ok}
use Rattle.std.specs.Int.{Width as Bits, w8, w16, w32, w64, byte_len, cast_unsigned, from_le_bytes}
use Rattle.rv_asm_statements.specs.declared.directives.Directive.{Directive}
use Rattle.rv_asm_statements.specs.declared.directives.Directive.TheVariants as directive
use Rattle.rv_asm_statements.specs.declared.directives.Width.{Width}
use Rattle.rv_asm_statements.specs.declared.directives.Width.TheVariants.{Byte, Half, Word, Double}
use Rattle.rv_asm_statements.specs.declared.filled.Target.{Target as Goal}
use Rattle.rv_asm_lines.specs.Data.{directive_bytes}
use Rattle.rv_asm.specs.Reached.{IsNamedAt}

abbrev pub bits_of : Width → Bits
bits_of Byte = w8
bits_of Half = w16
bits_of Word = w32
bits_of Double = w64

-- the bytes are those of the number in two's complement, the lowest first
pub record HoldsNumber (w : Bits) (z : ℤ) (bytes : List ℕ) : Type 0 where
  pub many : length bytes ≡ byte_len w
  pub value : from_le_bytes w bytes ≡ cast_unsigned w z

-- items, one behind the other: each its number, or the address of its label
abbrev pub HoldItems : List (List ℕ × ℕ) → Width → List Goal → List ℕ → Type 0
HoldItems labels width [] bytes = bytes ≡ []
HoldItems labels width (item ∷ items) bytes =
    (here : List ℕ) × (more : List ℕ) × (z : ℤ) × (bytes ≡ here ++ more) × IsNamedAt labels 0 item.label item.number z
    × HoldsNumber (bits_of width) z here × HoldItems labels width items more

-- strings are as they stand, and all else is zeros
abbrev pub Holds : List (List ℕ × ℕ) → Directive → List ℕ → Type 0
Holds labels (directive.Items width items) bytes = HoldItems labels width items bytes
Holds labels (directive.Bytes text) bytes = bytes ≡ text
Holds labels (directive.Zero n) bytes = All (λ b. b ≡ 0) bytes
Holds labels (directive.Align n) bytes = All (λ b. b ≡ 0) bytes
Holds labels _ bytes = bytes ≡ []

-- so does each directive whose numbers fit
abbrev pub DataHoldNumbers : Type 0
DataHoldNumbers =
    (labels : List (List ℕ × ℕ)) (at : ℕ) (d : Directive) (bytes : List ℕ) → directive_bytes labels at d ≡ Ok bytes
    → Holds labels d bytes
