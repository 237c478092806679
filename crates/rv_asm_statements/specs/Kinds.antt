-- Which operands each mnemonic takes: so many, each of its kind.
use Rattle.std.specs.Prelude.{◌≡◌, List, [], ◌∷◌, codes, Bool, true, false, ◌&&◌, is_some}
use Rattle.std.specs.Str.{bytes_eq}
use Rattle.rv_asm_statements.specs.declared.rows.Shape.{Shape}
use Rattle.rv_asm_statements.specs.declared.rows.Shape.TheVariants.{Nothing, Orders, Reg, RegReg, RegRegReg, RegNumber}
use Rattle.rv_asm_statements.specs.declared.rows.Shape.TheVariants.{RegRegNumber, RegPlace, Target, RegTarget}
use Rattle.rv_asm_statements.specs.declared.rows.Shape.TheVariants.{RegRegTarget, RegLabel}
use Rattle.rv_asm_statements.specs.Arguments.{Argument, word, value, sum, place}
use Rattle.rv_asm_statements.specs.Registers.{register_named}
use Rattle.rv_asm_statements.specs.Shapes.{filled_by}

-- a register, a number, a number and a register in parentheses, where a jump goes, a label, or `iorw`
pub data Kind : Type 0 where
  register : Kind
  number : Kind
  address : Kind
  target : Kind
  label : Kind
  orders : Kind

-- the operands of a shape, in order
abbrev pub kinds_of : Shape → List Kind
kinds_of Nothing = []
kinds_of Orders = orders ∷ orders ∷ []
kinds_of Reg = register ∷ []
kinds_of RegReg = register ∷ register ∷ []
kinds_of RegRegReg = register ∷ register ∷ register ∷ []
kinds_of RegNumber = register ∷ number ∷ []
kinds_of RegRegNumber = register ∷ register ∷ number ∷ []
kinds_of RegPlace = register ∷ address ∷ []
kinds_of Target = target ∷ []
kinds_of RegTarget = register ∷ target ∷ []
kinds_of RegRegTarget = register ∷ register ∷ target ∷ []
kinds_of RegLabel = register ∷ label ∷ []

-- whether an operand is of a kind: a jump goes to a label, a label and a number, or a number
abbrev pub is_of : Kind → Argument → Bool
is_of register (word w) = is_some (register_named w)
is_of number (value z) = true
is_of address (place z w) = is_some (register_named w)
is_of target (word w) = true
is_of target (sum w z) = true
is_of target (value z) = true
is_of label (word w) = true
is_of orders (word w) = bytes_eq w (codes "iorw")
is_of _ _ = false

abbrev pub are_of : List Kind → List Argument → Bool
are_of [] [] = true
are_of (k ∷ ks) (x ∷ xs) = is_of k x && are_of ks xs
are_of _ _ = false

-- a shape takes operands exactly where there are so many, each of its kind
abbrev pub ShapesTakeKinds : Type 0
ShapesTakeKinds = (shape : Shape) (xs : List Argument) → is_some (filled_by shape xs) ≡ are_of (kinds_of shape) xs
