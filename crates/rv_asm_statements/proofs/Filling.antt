-- Each row's instruction reads what its shape gives: by tables of both, row by row.
use Rattle.std.proofs.Common.{◌≡◌, ◌-◌, ℕ, List, [], ◌∷◌, length, Bool, true, false, ◌&&◌, Option, Some, None, slice_get, nat_lt, refl, sym, subst, arith}
use Rattle.std.specs.Prelude.{All}
use Rattle.std.specs.List.{list_all}
use Rattle.std.proofs.lemmas.List.Elements.{All-cons, All-nil}
use Rattle.rv_asm_tokens.specs.Fault.{if_some}
use Rattle.rv_asm_tokens.proofs.Characters.{all_below, both, each_below, implies, implies-then}
use Rattle.rv_asm_statements.specs.declared.filled.Filled.{Filled}
use Rattle.rv_asm_statements.specs.declared.filled.Target.{Target as Goal}
use Rattle.rv_asm_statements.specs.declared.rows.Shape.{Shape}
use Rattle.rv_asm_statements.specs.declared.rows.Shape.TheVariants.{Nothing, Orders, Reg, RegReg, RegRegReg, RegNumber, RegRegNumber, RegPlace, Target, RegTarget, RegRegTarget, RegLabel}
use Rattle.rv_asm_statements.specs.declared.rows.Slot.{Slot}
use Rattle.rv_asm_statements.specs.declared.rows.Slot.TheVariants.{First, Second, Third, Zero, Link}
use Rattle.rv_asm_statements.specs.Arguments.{Argument, word, value, quoted, sum, place}
use Rattle.rv_asm_statements.specs.Filling.{IsFilled, IsFilledAt, RowsAreFilled, has_number, is_read, number_in, register_at, register_in, slots_of}
use Rattle.rv_asm_statements.specs.Rows.{Row, rows}
use Rattle.rv_asm_statements.specs.Shapes.{base_of, filled, filled_by, filled_if, label_of, no_register, no_target, offset_of, register_of, target_of, value_of}

-- ---- what shapes give

abbrev registers_by : Shape → ℕ
registers_by Reg = 1
registers_by RegReg = 2
registers_by RegRegReg = 3
registers_by RegNumber = 1
registers_by RegRegNumber = 2
registers_by RegPlace = 2
registers_by RegTarget = 1
registers_by RegRegTarget = 2
registers_by RegLabel = 1
registers_by _ = 0

abbrev gives_number : Shape → Bool
gives_number Nothing = false
gives_number Orders = false
gives_number Reg = false
gives_number RegReg = false
gives_number RegRegReg = false
gives_number _ = true

abbrev operands_by : Shape → ℕ
operands_by Nothing = 0
operands_by Orders = 2
operands_by Reg = 1
operands_by RegReg = 2
operands_by RegRegReg = 3
operands_by RegNumber = 2
operands_by RegRegNumber = 3
operands_by RegPlace = 2
operands_by Target = 1
operands_by RegTarget = 2
operands_by RegRegTarget = 3
operands_by RegLabel = 2

record Gives (shape : Shape) (xs : List Argument) (f : Filled) : Type 0 where
  many : length xs ≡ operands_by shape
  first : nat_lt 0 (registers_by shape) ≡ true → register_at 0 xs ≡ Some f.first
  second : nat_lt 1 (registers_by shape) ≡ true → register_at 1 xs ≡ Some f.second
  third : nat_lt 2 (registers_by shape) ≡ true → register_at 2 xs ≡ Some f.third
  number : gives_number shape ≡ true → if_some (slice_get xs (length xs - 1)) None number_in ≡ Some f.target

record Parts (a b c : Option ℕ) (g : Option Goal) (f : Filled) : Type 0 where
  first : a ≡ Some f.first
  second : b ≡ Some f.second
  third : c ≡ Some f.third
  target : g ≡ Some f.target

parts_of : (a b c : Option ℕ) (g : Option Goal) (f : Filled) → filled_if a b c g ≡ Some f → Parts a b c g f
parts_of None b c g f h = absurd cc
parts_of (Some a) None c g f h = absurd cc
parts_of (Some a) (Some b) None g f h = absurd cc
parts_of (Some a) (Some b) (Some c) None f h = absurd cc
parts_of (Some a) (Some b) (Some c) (Some g) f h =
    let same : filled a b c g ≡ f = some_is (filled a b c g) f h in
    subst (λ (k : Filled). Parts (Some a) (Some b) (Some c) (Some g) k) same (record { first = refl; second = refl; third = refl; target = refl })
  where
    some_is : (x y : Filled) → (let l : Option Filled = Some x in let r : Option Filled = Some y in l ≡ r) → x ≡ y
    some_is x y h = cc

register_is : (x : Argument) (r : ℕ) → register_of x ≡ Some r → register_in x ≡ Some r
register_is (word w) r h = h
register_is (value z) r h = absurd cc
register_is (quoted bs) r h = absurd cc
register_is (sum w z) r h = absurd cc
register_is (place z w) r h = absurd cc

base_is : (x : Argument) (r : ℕ) → base_of x ≡ Some r → register_in x ≡ Some r
base_is (word w) r h = absurd cc
base_is (value z) r h = absurd cc
base_is (quoted bs) r h = absurd cc
base_is (sum w z) r h = absurd cc
base_is (place z w) r h = h

value_is : (x : Argument) (g : Goal) → value_of x ≡ Some g → number_in x ≡ Some g
value_is (word w) g h = absurd cc
value_is (value z) g h = h
value_is (quoted bs) g h = absurd cc
value_is (sum w z) g h = absurd cc
value_is (place z w) g h = absurd cc

offset_is : (x : Argument) (g : Goal) → offset_of x ≡ Some g → number_in x ≡ Some g
offset_is (word w) g h = absurd cc
offset_is (value z) g h = absurd cc
offset_is (quoted bs) g h = absurd cc
offset_is (sum w z) g h = absurd cc
offset_is (place z w) g h = h

target_is : (x : Argument) (g : Goal) → target_of x ≡ Some g → number_in x ≡ Some g
target_is (word w) g h = h
target_is (value z) g h = h
target_is (quoted bs) g h = absurd cc
target_is (sum w z) g h = h
target_is (place z w) g h = absurd cc

label_is : (x : Argument) (g : Goal) → label_of x ≡ Some g → number_in x ≡ Some g
label_is (word w) g h = h
label_is (value z) g h = absurd cc
label_is (quoted bs) g h = absurd cc
label_is (sum w z) g h = absurd cc
label_is (place z w) g h = absurd cc

-- ---- each shape

nothing_gives : (xs : List Argument) (f : Filled) → filled_by Nothing xs ≡ Some f → Gives Nothing xs f
unfolding filled_by
nothing_gives [] f h = record { many = refl; first = λ e. absurd cc; second = λ e. absurd cc; third = λ e. absurd cc; number = λ e. absurd cc }
nothing_gives (x ∷ xs) f h = absurd cc

orders_gives : (xs : List Argument) (f : Filled) → filled_by Orders xs ≡ Some f → Gives Orders xs f
unfolding filled_by
orders_gives (a ∷ b ∷ []) f h = record { many = refl; first = λ e. absurd cc; second = λ e. absurd cc; third = λ e. absurd cc; number = λ e. absurd cc }
orders_gives [] f h = absurd cc
orders_gives (a ∷ []) f h = absurd cc
orders_gives (a ∷ b ∷ c ∷ xs) f h = absurd cc

reg_gives : (xs : List Argument) (f : Filled) → filled_by Reg xs ≡ Some f → Gives Reg xs f
unfolding filled_by
reg_gives (a ∷ []) f h =
    let p = parts_of (register_of a) no_register no_register no_target f h in
    record { many = refl; first = λ e. register_is a f.first p.first; second = λ e. absurd cc; third = λ e. absurd cc; number = λ e. absurd cc }
reg_gives [] f h = absurd cc
reg_gives (a ∷ b ∷ xs) f h = absurd cc

reg_reg_gives : (xs : List Argument) (f : Filled) → filled_by RegReg xs ≡ Some f → Gives RegReg xs f
unfolding filled_by
reg_reg_gives (a ∷ b ∷ []) f h =
    let p = parts_of (register_of a) (register_of b) no_register no_target f h in
    record { many = refl; first = λ e. register_is a f.first p.first; second = λ e. register_is b f.second p.second; third = λ e. absurd cc; number = λ e. absurd cc }
reg_reg_gives [] f h = absurd cc
reg_reg_gives (a ∷ []) f h = absurd cc
reg_reg_gives (a ∷ b ∷ c ∷ xs) f h = absurd cc

reg_reg_reg_gives : (xs : List Argument) (f : Filled) → filled_by RegRegReg xs ≡ Some f → Gives RegRegReg xs f
unfolding filled_by
reg_reg_reg_gives (a ∷ b ∷ c ∷ []) f h =
    let p = parts_of (register_of a) (register_of b) (register_of c) no_target f h in
    record { many = refl; first = λ e. register_is a f.first p.first; second = λ e. register_is b f.second p.second; third = λ e. register_is c f.third p.third; number = λ e. absurd cc }
reg_reg_reg_gives [] f h = absurd cc
reg_reg_reg_gives (a ∷ []) f h = absurd cc
reg_reg_reg_gives (a ∷ b ∷ []) f h = absurd cc
reg_reg_reg_gives (a ∷ b ∷ c ∷ d ∷ xs) f h = absurd cc

-- a register, and a number of some kind
reg_then : (shape : Shape) (number_of : Argument → Option Goal) (a x : Argument) (f : Filled) → registers_by shape ≡ 1 → operands_by shape ≡ 2 → ((y : Argument) (g : Goal) → number_of y ≡ Some g → number_in y ≡ Some g)
    → filled_if (register_of a) no_register no_register (number_of x) ≡ Some f → Gives shape (a ∷ x ∷ []) f
reg_then shape number_of a x f one two is h =
    let p = parts_of (register_of a) no_register no_register (number_of x) f h in
    record { many = sym two; first = λ e. register_is a f.first p.first; second = rw one (λ e. absurd cc); third = rw one (λ e. absurd cc); number = λ e. is x f.target p.target }

reg_reg_then : (shape : Shape) (number_of : Argument → Option Goal) (a b x : Argument) (f : Filled) → registers_by shape ≡ 2 → operands_by shape ≡ 3 → ((y : Argument) (g : Goal) → number_of y ≡ Some g → number_in y ≡ Some g)
    → filled_if (register_of a) (register_of b) no_register (number_of x) ≡ Some f → Gives shape (a ∷ b ∷ x ∷ []) f
reg_reg_then shape number_of a b x f two three is h =
    let p = parts_of (register_of a) (register_of b) no_register (number_of x) f h in
    record { many = sym three; first = λ e. register_is a f.first p.first; second = λ e. register_is b f.second p.second; third = rw two (λ e. absurd cc); number = λ e. is x f.target p.target }

reg_number_gives : (xs : List Argument) (f : Filled) → filled_by RegNumber xs ≡ Some f → Gives RegNumber xs f
unfolding filled_by
reg_number_gives (a ∷ n ∷ []) f h = reg_then RegNumber value_of a n f refl refl value_is h
reg_number_gives [] f h = absurd cc
reg_number_gives (a ∷ []) f h = absurd cc
reg_number_gives (a ∷ b ∷ c ∷ xs) f h = absurd cc

reg_reg_number_gives : (xs : List Argument) (f : Filled) → filled_by RegRegNumber xs ≡ Some f → Gives RegRegNumber xs f
unfolding filled_by
reg_reg_number_gives (a ∷ b ∷ n ∷ []) f h = reg_reg_then RegRegNumber value_of a b n f refl refl value_is h
reg_reg_number_gives [] f h = absurd cc
reg_reg_number_gives (a ∷ []) f h = absurd cc
reg_reg_number_gives (a ∷ b ∷ []) f h = absurd cc
reg_reg_number_gives (a ∷ b ∷ c ∷ d ∷ xs) f h = absurd cc

reg_place_gives : (xs : List Argument) (f : Filled) → filled_by RegPlace xs ≡ Some f → Gives RegPlace xs f
unfolding filled_by
reg_place_gives (a ∷ p ∷ []) f h =
    let q = parts_of (register_of a) (base_of p) no_register (offset_of p) f h in
    record { many = refl; first = λ e. register_is a f.first q.first; second = λ e. base_is p f.second q.second; third = λ e. absurd cc; number = λ e. offset_is p f.target q.target }
reg_place_gives [] f h = absurd cc
reg_place_gives (a ∷ []) f h = absurd cc
reg_place_gives (a ∷ b ∷ c ∷ xs) f h = absurd cc

target_gives : (xs : List Argument) (f : Filled) → filled_by Target xs ≡ Some f → Gives Target xs f
unfolding filled_by
target_gives (t ∷ []) f h =
    let q = parts_of no_register no_register no_register (target_of t) f h in
    record { many = refl; first = λ e. absurd cc; second = λ e. absurd cc; third = λ e. absurd cc; number = λ e. target_is t f.target q.target }
target_gives [] f h = absurd cc
target_gives (a ∷ b ∷ xs) f h = absurd cc

reg_target_gives : (xs : List Argument) (f : Filled) → filled_by RegTarget xs ≡ Some f → Gives RegTarget xs f
unfolding filled_by
reg_target_gives (a ∷ t ∷ []) f h = reg_then RegTarget target_of a t f refl refl target_is h
reg_target_gives [] f h = absurd cc
reg_target_gives (a ∷ []) f h = absurd cc
reg_target_gives (a ∷ b ∷ c ∷ xs) f h = absurd cc

reg_reg_target_gives : (xs : List Argument) (f : Filled) → filled_by RegRegTarget xs ≡ Some f → Gives RegRegTarget xs f
unfolding filled_by
reg_reg_target_gives (a ∷ b ∷ t ∷ []) f h = reg_reg_then RegRegTarget target_of a b t f refl refl target_is h
reg_reg_target_gives [] f h = absurd cc
reg_reg_target_gives (a ∷ []) f h = absurd cc
reg_reg_target_gives (a ∷ b ∷ []) f h = absurd cc
reg_reg_target_gives (a ∷ b ∷ c ∷ d ∷ xs) f h = absurd cc

reg_label_gives : (xs : List Argument) (f : Filled) → filled_by RegLabel xs ≡ Some f → Gives RegLabel xs f
unfolding filled_by
reg_label_gives (a ∷ w ∷ []) f h = reg_then RegLabel label_of a w f refl refl label_is h
reg_label_gives [] f h = absurd cc
reg_label_gives (a ∷ []) f h = absurd cc
reg_label_gives (a ∷ b ∷ c ∷ xs) f h = absurd cc

gives : (shape : Shape) (xs : List Argument) (f : Filled) → filled_by shape xs ≡ Some f → Gives shape xs f
gives Nothing xs f h = nothing_gives xs f h
gives Orders xs f h = orders_gives xs f h
gives Reg xs f h = reg_gives xs f h
gives RegReg xs f h = reg_reg_gives xs f h
gives RegRegReg xs f h = reg_reg_reg_gives xs f h
gives RegNumber xs f h = reg_number_gives xs f h
gives RegRegNumber xs f h = reg_reg_number_gives xs f h
gives RegPlace xs f h = reg_place_gives xs f h
gives Target xs f h = target_gives xs f h
gives RegTarget xs f h = reg_target_gives xs f h
gives RegRegTarget xs f h = reg_reg_target_gives xs f h
gives RegLabel xs f h = reg_label_gives xs f h

-- ---- each row

abbrev given_by : Shape → Slot → Bool
given_by shape First = nat_lt 0 (registers_by shape)
given_by shape Second = nat_lt 1 (registers_by shape)
given_by shape Third = nat_lt 2 (registers_by shape)
given_by shape _ = true

-- a template reads what the shape gives, and all of it
abbrev is_right : Row → Bool
is_right row =
    list_all (given_by row.shape) (slots_of row.template) && (implies (has_number row.template) (gives_number row.shape) && all_below (operands_by row.shape) (is_read row.template (operands_by row.shape)))

slot_filled : (shape : Shape) (xs : List Argument) (f : Filled) → Gives shape xs f → (slot : Slot) → given_by shape slot ≡ true → IsFilledAt xs f slot
slot_filled shape xs f g First h = g.first h
slot_filled shape xs f g Second h = g.second h
slot_filled shape xs f g Third h = g.third h
slot_filled shape xs f g Zero h = tt
slot_filled shape xs f g Link h = tt

slots_filled : (shape : Shape) (xs : List Argument) (f : Filled) → Gives shape xs f → (slots : List Slot) → list_all (given_by shape) slots ≡ true → All (IsFilledAt xs f) slots
slots_filled shape xs f g [] h = All-nil (IsFilledAt xs f)
slots_filled shape xs f g (slot ∷ slots) h =
    let two = both (given_by shape slot) (list_all (given_by shape) slots) h in
    All-cons (IsFilledAt xs f) slot slots (slot_filled shape xs f g slot two.0) (slots_filled shape xs f g slots two.1)

abbrev IsRowFilled : Row → Type 0
IsRowFilled row = (xs : List Argument) (f : Filled) → filled_by row.shape xs ≡ Some f → IsFilled row.template xs f

row_filled : (row : Row) → is_right row ≡ true → IsRowFilled row
row_filled row right xs f h =
    let g = gives row.shape xs f h in
    let one = both (list_all (given_by row.shape) (slots_of row.template)) (implies (has_number row.template) (gives_number row.shape) && all_below (operands_by row.shape) (is_read row.template (operands_by row.shape))) right in
    let two = both (implies (has_number row.template) (gives_number row.shape)) (all_below (operands_by row.shape) (is_read row.template (operands_by row.shape))) one.1 in
    record {
      registers = slots_filled row.shape xs f g (slots_of row.template) one.0;
      number = λ e. g.number (implies-then (has_number row.template) (gives_number row.shape) two.0 e);
      none_left = λ k lt. rw g.many (each_below (operands_by row.shape) (is_read row.template (operands_by row.shape)) two.1 k (omega (arith, lt, g.many)));
    }

all_filled : (table : List Row) → list_all is_right table ≡ true → All IsRowFilled table
all_filled [] h = All-nil IsRowFilled
all_filled (row ∷ others) h =
    let two = both (is_right row) (list_all is_right others) h in
    All-cons IsRowFilled row others (row_filled row two.0) (all_filled others two.1)

pub rows_are_filled : RowsAreFilled
rows_are_filled = all_filled rows refl
