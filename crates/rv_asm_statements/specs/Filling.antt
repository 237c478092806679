-- What the operands of a mnemonic are for: each is read by its instruction, and a slot is read from the operand that
-- stands at its place.
use Rattle.std.specs.Prelude.{◌≡◌, ◌<◌, ◌-◌, ℕ, suc, pos, List, [], ◌∷◌, length, Bool, true, false, ◌||◌, ◌&&◌}
use Rattle.std.specs.Prelude.{Option, Some, None, All, slice_get, ◌==◌}
use Rattle.std.specs.List.{list_any}
use Rattle.rv_asm_tokens.specs.Fault.{if_some}
use Rattle.rv_asm_statements.specs.declared.filled.Filled.{Filled}
use Rattle.rv_asm_statements.specs.declared.filled.Target.{Target as Goal}
use Rattle.rv_asm_statements.specs.declared.rows.Amount.{Amount}
use Rattle.rv_asm_statements.specs.declared.rows.Amount.TheVariants.{Written, Given}
use Rattle.rv_asm_statements.specs.declared.rows.Slot.{Slot}
use Rattle.rv_asm_statements.specs.declared.rows.Slot.TheVariants.{First, Second, Third}
use Rattle.rv_asm_statements.specs.declared.rows.Template.{Template}
use Rattle.rv_asm_statements.specs.declared.rows.Template.TheVariants as template
use Rattle.rv_asm_statements.specs.Arguments.{Argument, word, value, quoted, sum, place}
use Rattle.rv_asm_statements.specs.Registers.{register_named}
use Rattle.rv_asm_statements.specs.Rows.{rows}
use Rattle.rv_asm_statements.specs.Shapes.{at_label, at_number, filled_by}

-- ---- what an instruction reads

-- the registers that an instruction has
abbrev pub slots_of : Template → List Slot
slots_of (template.Upper op d) = d ∷ []
slots_of (template.Jal d) = d ∷ []
slots_of (template.Jalr d s n) = d ∷ s ∷ []
slots_of (template.Branch op s t) = s ∷ t ∷ []
slots_of (template.Load op d s) = d ∷ s ∷ []
slots_of (template.Store op s t) = s ∷ t ∷ []
slots_of (template.Imm op d s n) = d ∷ s ∷ []
slots_of (template.Shift op d s) = d ∷ s ∷ []
slots_of (template.Arith op d s t) = d ∷ s ∷ t ∷ []
slots_of (template.LoadImmediate d) = d ∷ []
slots_of (template.LoadAddress d) = d ∷ []
slots_of _ = []

abbrev pub is_written : Amount → Bool
is_written Written = true
is_written (Given z) = false

-- whether it has a number or a label of the source
abbrev pub has_number : Template → Bool
has_number (template.Arith op d s t) = false
has_number template.Fence = false
has_number template.Ecall = false
has_number template.Ebreak = false
has_number (template.Jalr d s n) = is_written n
has_number (template.Imm op d s n) = is_written n
has_number _ = true

-- the sets of `fence iorw, iorw` are read, and say nothing
abbrev pub is_fence : Template → Bool
is_fence template.Fence = true
is_fence _ = false

-- ---- what operands are

-- a register, alone or behind a number
abbrev pub register_in : Argument → Option ℕ
register_in (word w) = register_named w
register_in (place z w) = register_named w
register_in _ = None

-- a number, alone or before a register; or a label, with or without a number
abbrev pub number_in : Argument → Option Goal
number_in (word w) = Some (at_label w (pos 0))
number_in (sum w z) = Some (at_label w z)
number_in (value z) = Some (at_number z)
number_in (place z w) = Some (at_number z)
number_in (quoted bytes) = None

abbrev pub register_at : ℕ → List Argument → Option ℕ
register_at k xs = if_some (slice_get xs k) None register_in

-- ---- slots and operands

abbrev pub is_at : ℕ → Slot → Bool
is_at k First = k == 0
is_at k Second = k == 1
is_at k Third = k == 2
is_at k _ = false

-- a slot has the register of the operand at its place; x0 and x1 are no operands
abbrev pub IsFilledAt : List Argument → Filled → Slot → Type 0
IsFilledAt xs f First = register_at 0 xs ≡ Some f.first
IsFilledAt xs f Second = register_at 1 xs ≡ Some f.second
IsFilledAt xs f Third = register_at 2 xs ≡ Some f.third
IsFilledAt xs f _ = Unit {0}

-- whether the operand at k, of so many, is read: as a register, or the last one as the number
abbrev pub is_read : Template → ℕ → ℕ → Bool
is_read t many k = list_any (is_at k) (slots_of t) || (((suc k == many) && has_number t) || is_fence t)

pub record IsFilled (t : Template) (xs : List Argument) (f : Filled) : Type 0 where
  pub registers : All (IsFilledAt xs f) (slots_of t)
  pub number : has_number t ≡ true → if_some (slice_get xs (length xs - 1)) None number_in ≡ Some f.target
  pub none_left : (k : ℕ) → k < length xs → is_read t (length xs) k ≡ true

-- so is each row with any operands that it takes
abbrev pub RowsAreFilled : Type 0
RowsAreFilled =
    All (λ row. (xs : List Argument) (f : Filled) → filled_by row.shape xs ≡ Some f → IsFilled row.template xs f) rows
