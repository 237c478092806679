-- A shape takes the operands of its kinds, and no others.
use Rattle.std.proofs.Common.{◌≡◌, ℕ, List, [], ◌∷◌, Bool, true, false, ◌&&◌, Option, Some, None, is_some, cond, refl, sym, ap, ◌∙◌}
use Rattle.rv_asm_statements.specs.declared.filled.Target.{Target as Goal}
use Rattle.rv_asm_statements.specs.declared.rows.Shape.TheVariants.{Nothing, Orders, Reg, RegReg, RegRegReg, RegNumber, RegRegNumber, RegPlace, Target, RegTarget, RegRegTarget, RegLabel}
use Rattle.rv_asm_statements.specs.Arguments.{Argument, word, value, quoted, sum, place}
use Rattle.rv_asm_statements.specs.Kinds.{register, number, address, target, label, orders, is_of, are_of, kinds_of, ShapesTakeKinds}
use Rattle.rv_asm_statements.specs.Shapes.{filled_by, filled_if, register_of, base_of, value_of, offset_of, target_of, label_of, is_all_orders, no_register, no_target}

and_true : (b : Bool) → b && true ≡ b
and_true true = refl
and_true false = refl

all_there : (a b c : Option ℕ) (g : Option Goal) → is_some (filled_if a b c g) ≡ (is_some a && (is_some b && (is_some c && is_some g)))
all_there None b c g = refl
all_there (Some a) None c g = refl
all_there (Some a) (Some b) None g = refl
all_there (Some a) (Some b) (Some c) None = refl
all_there (Some a) (Some b) (Some c) (Some g) = refl

-- ---- single operands

register_is : (x : Argument) → is_some (register_of x) ≡ is_of register x
register_is (word w) = refl
register_is (value z) = refl
register_is (quoted raw) = refl
register_is (sum w z) = refl
register_is (place z w) = refl

number_is : (x : Argument) → is_some (value_of x) ≡ is_of number x
number_is (word w) = refl
number_is (value z) = refl
number_is (quoted raw) = refl
number_is (sum w z) = refl
number_is (place z w) = refl

target_is : (x : Argument) → is_some (target_of x) ≡ is_of target x
target_is (word w) = refl
target_is (value z) = refl
target_is (quoted raw) = refl
target_is (sum w z) = refl
target_is (place z w) = refl

label_is : (x : Argument) → is_some (label_of x) ≡ is_of label x
label_is (word w) = refl
label_is (value z) = refl
label_is (quoted raw) = refl
label_is (sum w z) = refl
label_is (place z w) = refl

orders_is : (x : Argument) → is_all_orders x ≡ is_of orders x
orders_is (word w) = refl
orders_is (value z) = refl
orders_is (quoted raw) = refl
orders_is (sum w z) = refl
orders_is (place z w) = refl

address_is : (x : Argument) → (is_some (base_of x) && is_some (offset_of x)) ≡ is_of address x
address_is (word w) = refl
address_is (value z) = refl
address_is (quoted raw) = refl
address_is (sum w z) = refl
address_is (place z w) = and_true _

-- ---- shapes

-- one operand, two or three, each read by itself
one_taken : (a : Option ℕ) (p : Bool) → is_some a ≡ p → is_some (filled_if a no_register no_register no_target) ≡ (p && true)
one_taken a p h = all_there a no_register no_register no_target ∙ ap (λ (k : Bool). k && true) h

two_taken : (a b : Option ℕ) (g : Option Goal) (p q : Bool) → is_some a ≡ p → (is_some b && is_some g) ≡ q → is_some (filled_if a b no_register g) ≡ (p && (q && true))
two_taken a b g p q h k = all_there a b no_register g ∙ ap (λ (r : Bool). r && (is_some b && is_some g)) h ∙ ap (λ (r : Bool). p && r) (k ∙ sym (and_true q))

three_taken : (a b c : Option ℕ) (g : Option Goal) (p q r : Bool) → is_some a ≡ p → is_some b ≡ q → (is_some c && is_some g) ≡ r → is_some (filled_if a b c g) ≡ (p && (q && (r && true)))
three_taken a b c g p q r h k l =
    all_there a b c g ∙ ap (λ (s : Bool). s && (is_some b && (is_some c && is_some g))) h
    ∙ ap (λ (s : Bool). p && (s && (is_some c && is_some g))) k ∙ ap (λ (s : Bool). p && (q && s)) (l ∙ sym (and_true r))

nothing_takes : (xs : List Argument) → is_some (filled_by Nothing xs) ≡ are_of (kinds_of Nothing) xs
unfolding filled_by
nothing_takes [] = refl
nothing_takes (x ∷ xs) = refl

orders_take : (xs : List Argument) → is_some (filled_by Orders xs) ≡ are_of (kinds_of Orders) xs
unfolding filled_by
orders_take [] = refl
orders_take (a ∷ []) = sym (and_false (is_of orders a))
  where
    and_false : (b : Bool) → b && false ≡ false
    and_false true = refl
    and_false false = refl
orders_take (a ∷ b ∷ []) = rw (← orders_is a, ← orders_is b) (both (is_all_orders a) (is_all_orders b))
  where
    both : (p q : Bool) → is_some (cond (p && q) (filled_if no_register no_register no_register no_target) None) ≡ (p && (q && true))
    both true true = refl
    both true false = refl
    both false q = refl
orders_take (a ∷ b ∷ c ∷ xs) = sym (two_false (is_of orders a) (is_of orders b))
  where
    two_false : (p q : Bool) → (p && (q && false)) ≡ false
    two_false true true = refl
    two_false true false = refl
    two_false false q = refl

none_left_1 : (p : Bool) → (p && false) ≡ false
none_left_1 true = refl
none_left_1 false = refl

none_left_2 : (p q : Bool) → (p && (q && false)) ≡ false
none_left_2 true q = none_left_1 q
none_left_2 false q = refl

none_left_3 : (p q r : Bool) → (p && (q && (r && false))) ≡ false
none_left_3 true q r = none_left_2 q r
none_left_3 false q r = refl

reg_takes : (xs : List Argument) → is_some (filled_by Reg xs) ≡ are_of (kinds_of Reg) xs
unfolding filled_by
reg_takes [] = refl
reg_takes (a ∷ []) = one_taken (register_of a) (is_of register a) (register_is a)
reg_takes (a ∷ b ∷ xs) = sym (none_left_1 (is_of register a))

reg_reg_takes : (xs : List Argument) → is_some (filled_by RegReg xs) ≡ are_of (kinds_of RegReg) xs
unfolding filled_by
reg_reg_takes [] = refl
reg_reg_takes (a ∷ []) = sym (none_left_1 (is_of register a))
reg_reg_takes (a ∷ b ∷ []) = two_taken (register_of a) (register_of b) no_target (is_of register a) (is_of register b) (register_is a) (and_true _ ∙ register_is b)
reg_reg_takes (a ∷ b ∷ c ∷ xs) = sym (none_left_2 (is_of register a) (is_of register b))

reg_reg_reg_takes : (xs : List Argument) → is_some (filled_by RegRegReg xs) ≡ are_of (kinds_of RegRegReg) xs
unfolding filled_by
reg_reg_reg_takes [] = refl
reg_reg_reg_takes (a ∷ []) = sym (none_left_1 (is_of register a))
reg_reg_reg_takes (a ∷ b ∷ []) = sym (none_left_2 (is_of register a) (is_of register b))
reg_reg_reg_takes (a ∷ b ∷ c ∷ []) = three_taken (register_of a) (register_of b) (register_of c) no_target (is_of register a) (is_of register b) (is_of register c) (register_is a) (register_is b) (and_true _ ∙ register_is c)
reg_reg_reg_takes (a ∷ b ∷ c ∷ d ∷ xs) = sym (none_left_3 (is_of register a) (is_of register b) (is_of register c))

reg_number_takes : (xs : List Argument) → is_some (filled_by RegNumber xs) ≡ are_of (kinds_of RegNumber) xs
unfolding filled_by
reg_number_takes [] = refl
reg_number_takes (a ∷ []) = sym (none_left_1 (is_of register a))
reg_number_takes (a ∷ b ∷ []) = two_taken (register_of a) no_register (value_of b) (is_of register a) (is_of number b) (register_is a) (number_is b)
reg_number_takes (a ∷ b ∷ c ∷ xs) = sym (none_left_2 (is_of register a) (is_of number b))

reg_reg_number_takes : (xs : List Argument) → is_some (filled_by RegRegNumber xs) ≡ are_of (kinds_of RegRegNumber) xs
unfolding filled_by
reg_reg_number_takes [] = refl
reg_reg_number_takes (a ∷ []) = sym (none_left_1 (is_of register a))
reg_reg_number_takes (a ∷ b ∷ []) = sym (none_left_2 (is_of register a) (is_of register b))
reg_reg_number_takes (a ∷ b ∷ c ∷ []) = three_taken (register_of a) (register_of b) no_register (value_of c) (is_of register a) (is_of register b) (is_of number c) (register_is a) (register_is b) (number_is c)
reg_reg_number_takes (a ∷ b ∷ c ∷ d ∷ xs) = sym (none_left_3 (is_of register a) (is_of register b) (is_of number c))

reg_place_takes : (xs : List Argument) → is_some (filled_by RegPlace xs) ≡ are_of (kinds_of RegPlace) xs
unfolding filled_by
reg_place_takes [] = refl
reg_place_takes (a ∷ []) = sym (none_left_1 (is_of register a))
reg_place_takes (a ∷ b ∷ []) = two_taken (register_of a) (base_of b) (offset_of b) (is_of register a) (is_of address b) (register_is a) (address_is b)
reg_place_takes (a ∷ b ∷ c ∷ xs) = sym (none_left_2 (is_of register a) (is_of address b))

target_takes : (xs : List Argument) → is_some (filled_by Target xs) ≡ are_of (kinds_of Target) xs
unfolding filled_by
target_takes [] = refl
target_takes (a ∷ []) = all_there no_register no_register no_register (target_of a) ∙ target_is a ∙ sym (and_true (is_of target a))
target_takes (a ∷ b ∷ xs) = sym (none_left_1 (is_of target a))

reg_target_takes : (xs : List Argument) → is_some (filled_by RegTarget xs) ≡ are_of (kinds_of RegTarget) xs
unfolding filled_by
reg_target_takes [] = refl
reg_target_takes (a ∷ []) = sym (none_left_1 (is_of register a))
reg_target_takes (a ∷ b ∷ []) = two_taken (register_of a) no_register (target_of b) (is_of register a) (is_of target b) (register_is a) (target_is b)
reg_target_takes (a ∷ b ∷ c ∷ xs) = sym (none_left_2 (is_of register a) (is_of target b))

reg_reg_target_takes : (xs : List Argument) → is_some (filled_by RegRegTarget xs) ≡ are_of (kinds_of RegRegTarget) xs
unfolding filled_by
reg_reg_target_takes [] = refl
reg_reg_target_takes (a ∷ []) = sym (none_left_1 (is_of register a))
reg_reg_target_takes (a ∷ b ∷ []) = sym (none_left_2 (is_of register a) (is_of register b))
reg_reg_target_takes (a ∷ b ∷ c ∷ []) = three_taken (register_of a) (register_of b) no_register (target_of c) (is_of register a) (is_of register b) (is_of target c) (register_is a) (register_is b) (target_is c)
reg_reg_target_takes (a ∷ b ∷ c ∷ d ∷ xs) = sym (none_left_3 (is_of register a) (is_of register b) (is_of target c))

reg_label_takes : (xs : List Argument) → is_some (filled_by RegLabel xs) ≡ are_of (kinds_of RegLabel) xs
unfolding filled_by
reg_label_takes [] = refl
reg_label_takes (a ∷ []) = sym (none_left_1 (is_of register a))
reg_label_takes (a ∷ b ∷ []) = two_taken (register_of a) no_register (label_of b) (is_of register a) (is_of label b) (register_is a) (label_is b)
reg_label_takes (a ∷ b ∷ c ∷ xs) = sym (none_left_2 (is_of register a) (is_of label b))

pub shapes_take_kinds : ShapesTakeKinds
shapes_take_kinds Nothing xs = nothing_takes xs
shapes_take_kinds Orders xs = orders_take xs
shapes_take_kinds Reg xs = reg_takes xs
shapes_take_kinds RegReg xs = reg_reg_takes xs
shapes_take_kinds RegRegReg xs = reg_reg_reg_takes xs
shapes_take_kinds RegNumber xs = reg_number_takes xs
shapes_take_kinds RegRegNumber xs = reg_reg_number_takes xs
shapes_take_kinds RegPlace xs = reg_place_takes xs
shapes_take_kinds Target xs = target_takes xs
shapes_take_kinds RegTarget xs = reg_target_takes xs
shapes_take_kinds RegRegTarget xs = reg_reg_target_takes xs
shapes_take_kinds RegLabel xs = reg_label_takes xs
