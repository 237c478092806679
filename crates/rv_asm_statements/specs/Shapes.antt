-- The operands of an instruction, by the shape that its mnemonic asks for.
use Rattle.std.specs.Prelude.{ℕ, ℤ, pos, List, [], ◌∷◌, codes, Bool, false, ◌&&◌, Option, Some, None, if◌then◌else◌}
use Rattle.std.specs.Option.{option_map}
use Rattle.std.specs.Str.{bytes_eq}
use Rattle.rv_asm_tokens.specs.Fault.{if_some}
use Rattle.rv_asm_statements.specs.declared.filled.Target.{Target as Goal}
use Rattle.rv_asm_statements.specs.declared.filled.Filled.{Filled}
use Rattle.rv_asm_statements.specs.declared.rows.Shape.{Shape}
use Rattle.rv_asm_statements.specs.declared.rows.Shape.TheVariants.{Nothing, Orders, Reg, RegReg, RegRegReg, RegNumber}
use Rattle.rv_asm_statements.specs.declared.rows.Shape.TheVariants.{RegRegNumber, RegPlace, Target, RegTarget}
use Rattle.rv_asm_statements.specs.declared.rows.Shape.TheVariants.{RegRegTarget, RegLabel}
use Rattle.rv_asm_statements.specs.Arguments.{Argument, word, value, sum, place}
use Rattle.rv_asm_statements.specs.Registers.{register_named}

-- a number alone
abbrev pub at_number : ℤ → Goal
at_number z = record { label = None; number = z }

-- a label and a number behind it
abbrev pub at_label : List ℕ → ℤ → Goal
at_label w z = record { label = Some w; number = z }

-- `label`, `label+number`, or a number
abbrev pub target_of : Argument → Option Goal
target_of (word w) = Some (at_label w (pos 0))
target_of (sum w z) = Some (at_label w z)
target_of (value z) = Some (at_number z)
target_of _ = None

abbrev pub filled : ℕ → ℕ → ℕ → Goal → Filled
filled a b c t = record { first = a; second = b; third = c; target = t }

-- the register, the number, the register of an address, or the label that an operand is, if it is one
abbrev pub register_of : Argument → Option ℕ
register_of (word w) = register_named w
register_of _ = None

abbrev pub number_of : Argument → Option ℤ
number_of (value z) = Some z
number_of _ = None

-- a number alone, and the one before the register of an address
abbrev pub value_of : Argument → Option Goal
value_of (value z) = Some (at_number z)
value_of _ = None

abbrev pub offset_of : Argument → Option Goal
offset_of (place z w) = Some (at_number z)
offset_of _ = None

abbrev pub base_of : Argument → Option ℕ
base_of (place z w) = register_named w
base_of _ = None

abbrev pub label_of : Argument → Option Goal
label_of (word w) = Some (at_label w (pos 0))
label_of _ = None

-- registers and a target, if each is there: what a shape lacks is x0, or 0
abbrev pub filled_if : Option ℕ → Option ℕ → Option ℕ → Option Goal → Option Filled
filled_if first second third goal =
    if_some first None (λ a. if_some second None (λ b. if_some third None (λ c. option_map (filled a b c) goal)))

abbrev pub no_register : Option ℕ
no_register = Some 0

abbrev pub no_target : Option Goal
no_target = Some (at_number (pos 0))

abbrev pub is_all_orders : Argument → Bool
is_all_orders (word w) = bytes_eq w (codes "iorw")
is_all_orders _ = false

abbrev pub nothing_at : List Argument → Option Filled
nothing_at [] = filled_if no_register no_register no_register no_target
nothing_at _ = None

abbrev pub orders_at : List Argument → Option Filled
orders_at (a ∷ b ∷ []) =
    if is_all_orders a && is_all_orders b then filled_if no_register no_register no_register no_target else None
orders_at _ = None

abbrev pub reg_at : List Argument → Option Filled
reg_at (a ∷ []) = filled_if (register_of a) no_register no_register no_target
reg_at _ = None

abbrev pub reg_reg_at : List Argument → Option Filled
reg_reg_at (a ∷ b ∷ []) = filled_if (register_of a) (register_of b) no_register no_target
reg_reg_at _ = None

abbrev pub reg_reg_reg_at : List Argument → Option Filled
reg_reg_reg_at (a ∷ b ∷ c ∷ []) = filled_if (register_of a) (register_of b) (register_of c) no_target
reg_reg_reg_at _ = None

abbrev pub reg_number_at : List Argument → Option Filled
reg_number_at (a ∷ n ∷ []) = filled_if (register_of a) no_register no_register (value_of n)
reg_number_at _ = None

abbrev pub reg_reg_number_at : List Argument → Option Filled
reg_reg_number_at (a ∷ b ∷ n ∷ []) = filled_if (register_of a) (register_of b) no_register (value_of n)
reg_reg_number_at _ = None

abbrev pub reg_place_at : List Argument → Option Filled
reg_place_at (a ∷ p ∷ []) = filled_if (register_of a) (base_of p) no_register (offset_of p)
reg_place_at _ = None

abbrev pub only_target_at : List Argument → Option Filled
only_target_at (t ∷ []) = filled_if no_register no_register no_register (target_of t)
only_target_at _ = None

abbrev pub reg_target_at : List Argument → Option Filled
reg_target_at (a ∷ t ∷ []) = filled_if (register_of a) no_register no_register (target_of t)
reg_target_at _ = None

abbrev pub reg_reg_target_at : List Argument → Option Filled
reg_reg_target_at (a ∷ b ∷ t ∷ []) = filled_if (register_of a) (register_of b) no_register (target_of t)
reg_reg_target_at _ = None

abbrev pub reg_label_at : List Argument → Option Filled
reg_label_at (a ∷ w ∷ []) = filled_if (register_of a) no_register no_register (label_of w)
reg_label_at _ = None

-- the operands that a shape finds in those that are there
unfoldable pub filled_by : Shape → List Argument → Option Filled
filled_by Nothing xs = nothing_at xs
filled_by Orders xs = orders_at xs
filled_by Reg xs = reg_at xs
filled_by RegReg xs = reg_reg_at xs
filled_by RegRegReg xs = reg_reg_reg_at xs
filled_by RegNumber xs = reg_number_at xs
filled_by RegRegNumber xs = reg_reg_number_at xs
filled_by RegPlace xs = reg_place_at xs
filled_by Target xs = only_target_at xs
filled_by RegTarget xs = reg_target_at xs
filled_by RegRegTarget xs = reg_reg_target_at xs
filled_by RegLabel xs = reg_label_at xs
