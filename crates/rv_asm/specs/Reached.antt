-- Where jumps and branches go, and what `li` and `la` leave in their register.
use Rattle.std.specs.Prelude.{◌≡◌, ◌<◌, ℕ, ℤ, pos, ◌+ℤ◌, List, [], ◌∷◌, Option, Some, None, Ok}
use Rattle.std.specs.Int.{w32, int_wrap}
use Rattle.rv_decode.specs.declared.instruction.Instr.{Instr}
use Rattle.rv_decode.specs.declared.instruction.Instr.TheVariants as instr
use Rattle.rv_decode.specs.declared.instruction.ImmOp.TheVariants.{Addi, Addiw}
use Rattle.rv_decode.specs.declared.instruction.UpperOp.TheVariants.{Lui}
use Rattle.rv_asm_statements.specs.declared.filled.Filled.{Filled}
use Rattle.rv_asm_statements.specs.declared.filled.Target.{Target as Goal}
use Rattle.rv_asm_statements.specs.declared.rows.Template.{Template}
use Rattle.rv_asm_statements.specs.declared.rows.Template.TheVariants as template
use Rattle.rv_asm_lines.specs.Resolved.{address_in, instrs_of, register_at}

-- ---- jumps and branches

-- a place that is named at an address: a number from there on, or a number behind a label
abbrev pub IsNamedAt : List (List ℕ × ℕ) → ℕ → Option (List ℕ) → ℤ → ℤ → Type 0
IsNamedAt labels at None n place = place ≡ pos at +ℤ n
IsNamedAt labels at (Some w) n place = (a : ℕ) × (address_in w labels ≡ Some a) × (place ≡ pos a +ℤ n)

-- one instruction at an address, whose offset leads from there to the place that is named
abbrev pub GoesThere : List (List ℕ × ℕ) → ℕ → Goal → (ℤ → Instr) → List Instr → Type 0
GoesThere labels at goal jump is =
    (offset : ℤ) × (is ≡ jump offset ∷ []) × IsNamedAt labels at goal.label goal.number (pos at +ℤ offset)

-- ---- `li` and `la`

-- instructions leave z in one register, where that is not x0: addi adds to x0, and addiw keeps the low 32 bits of a sum,
-- with their sign
abbrev pub IsLoaded : ℕ → ℤ → List Instr → Type 0
IsLoaded d z (instr.Imm Addi e s n ∷ []) = (e ≡ d) × (s ≡ 0) × (n ≡ z)
IsLoaded d z (instr.Upper Lui e high ∷ []) = (e ≡ d) × (high ≡ z)
IsLoaded d z (instr.Upper Lui e high ∷ instr.Imm Addiw f s low ∷ []) =
    (e ≡ d) × (f ≡ d) × (s ≡ d) × (int_wrap w32 (high +ℤ low) ≡ z)
IsLoaded d z (instr.Upper Lui e high ∷ instr.Imm Addi f s low ∷ []) =
    (e ≡ d) × (f ≡ d) × (s ≡ d) × (high +ℤ low ≡ z)
IsLoaded d z _ = ⊥

-- an address that fits 32 bits with a sign, and so does its high part
abbrev pub IsAddressLoaded : List (List ℕ × ℕ) → ℕ → Goal → List Instr → Type 0
IsAddressLoaded labels d goal is =
    (z : ℕ) → IsNamedAt labels 0 goal.label goal.number (pos z) → z < 2147481600 → IsLoaded d (pos z) is

-- ---- templates

abbrev pub Reaches : List (List ℕ × ℕ) → ℕ → Template → Filled → List Instr → Type 0
Reaches labels at (template.Jal d) o is = GoesThere labels at o.target (λ offset. instr.Jal (register_at d o) offset) is
Reaches labels at (template.Branch op s t) o is =
    GoesThere labels at o.target (λ offset. instr.Branch op (register_at s o) (register_at t o) offset) is
Reaches labels at (template.LoadImmediate d) o is = IsLoaded (register_at d o) o.target.number is
Reaches labels at (template.LoadAddress d) o is = IsAddressLoaded labels (register_at d o) o.target is
Reaches labels at _ o is = Unit {0}

-- so does each statement whose operands fit
abbrev pub TargetsAreReached : Type 0
TargetsAreReached =
    (labels : List (List ℕ × ℕ)) (at : ℕ) (t : Template) (o : Filled) (is : List Instr) → instrs_of labels at t o ≡ Ok is
    → Reaches labels at t o is
