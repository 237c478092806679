-- A name's register is one of 32, and that of x and a number is the one of that number.
use Rattle.std.proofs.Common.{◌≡◌, ℕ, zero, suc, ◌+◌, ◌-◌, ◌*◌, ◌<◌, ◌≤◌, List, [], ◌∷◌, Bool, true, false, ◌&&◌, Option, Some, None, if◌then◌else◌, inl, inr, refl, subst, arith}
use Rattle.std.proofs.Math.Dec.{ltb}
use Rattle.std.proofs.Math.Nat.{eq-or-lt_of_le}
use Rattle.std.proofs.lemmas.Bool.{ltb-true}
use Rattle.std.specs.List.{list_all}
use Rattle.std.specs.Str.{bytes_eq}
use Rattle.rv_asm_tokens.specs.Fault.{if_some}
use Rattle.rv_asm_statements.specs.Walk.{beside, first_given}
use Rattle.rv_asm_statements.specs.Registers.{registers, register_named}

one_row : (r n : ℕ) (named small others : Bool) (rest : Option ℕ) → (small && others) ≡ true → (small ≡ true → r < 32) → (others ≡ true → rest ≡ Some n → n < 32) → if_some (if named then Some r else None) rest Some ≡ Some n → n < 32
one_row r n true true others rest all here more is =
    let e : r ≡ n = cc in
    subst (λ (k : ℕ). k < 32) e (here refl)
one_row r n false true others rest all here more is = more all is
one_row r n named false others rest all here more is = absurd cc

beside_small : (w : List ℕ) (rows : List (List ℕ × ℕ)) (n : ℕ) → list_all (λ row. ltb row.1 32) rows ≡ true → first_given (beside w) rows ≡ Some n → n < 32
beside_small w [] n all is = absurd cc
beside_small w (row ∷ rows) n all is = one_row row.1 n (bytes_eq row.0 w) (ltb row.1 32) (list_all (λ row. ltb row.1 32) rows) (first_given (beside w) rows) all (ltb-true row.1 32) (beside_small w rows n) is

pub register_small : (w : List ℕ) (n : ℕ) → register_named w ≡ Some n → n < 32
register_small w n is = beside_small w registers n refl is

-- ---- names that are x and a number

abbrev digit : ℕ → ℕ
digit d = 48 + d

below_ten : (d : ℕ) → d < 10 → register_named (120 ∷ digit d ∷ []) ≡ Some d
below_ten zero h = refl
below_ten (suc zero) h = refl
below_ten (suc (suc zero)) h = refl
below_ten (suc (suc (suc zero))) h = refl
below_ten (suc (suc (suc (suc zero)))) h = refl
below_ten (suc (suc (suc (suc (suc zero))))) h = refl
below_ten (suc (suc (suc (suc (suc (suc zero)))))) h = refl
below_ten (suc (suc (suc (suc (suc (suc (suc zero))))))) h = refl
below_ten (suc (suc (suc (suc (suc (suc (suc (suc zero)))))))) h = refl
below_ten (suc (suc (suc (suc (suc (suc (suc (suc (suc zero))))))))) h = refl
below_ten (suc (suc (suc (suc (suc (suc (suc (suc (suc (suc d)))))))))) h = absurd (omega arith)

from_ten : (d : ℕ) → d < 10 → register_named (120 ∷ 49 ∷ digit d ∷ []) ≡ Some (10 + d)
from_ten zero h = refl
from_ten (suc zero) h = refl
from_ten (suc (suc zero)) h = refl
from_ten (suc (suc (suc zero))) h = refl
from_ten (suc (suc (suc (suc zero)))) h = refl
from_ten (suc (suc (suc (suc (suc zero))))) h = refl
from_ten (suc (suc (suc (suc (suc (suc zero)))))) h = refl
from_ten (suc (suc (suc (suc (suc (suc (suc zero))))))) h = refl
from_ten (suc (suc (suc (suc (suc (suc (suc (suc zero)))))))) h = refl
from_ten (suc (suc (suc (suc (suc (suc (suc (suc (suc zero))))))))) h = refl
from_ten (suc (suc (suc (suc (suc (suc (suc (suc (suc (suc d)))))))))) h = absurd (omega arith)

from_twenty : (d : ℕ) → d < 10 → register_named (120 ∷ 50 ∷ digit d ∷ []) ≡ Some (20 + d)
from_twenty zero h = refl
from_twenty (suc zero) h = refl
from_twenty (suc (suc zero)) h = refl
from_twenty (suc (suc (suc zero))) h = refl
from_twenty (suc (suc (suc (suc zero)))) h = refl
from_twenty (suc (suc (suc (suc (suc zero))))) h = refl
from_twenty (suc (suc (suc (suc (suc (suc zero)))))) h = refl
from_twenty (suc (suc (suc (suc (suc (suc (suc zero))))))) h = refl
from_twenty (suc (suc (suc (suc (suc (suc (suc (suc zero)))))))) h = refl
from_twenty (suc (suc (suc (suc (suc (suc (suc (suc (suc zero))))))))) h = refl
from_twenty (suc (suc (suc (suc (suc (suc (suc (suc (suc (suc d)))))))))) h = absurd (omega arith)

pub one_digit : (b : ℕ) → 48 ≤ b → b ≤ 57 → register_named (120 ∷ b ∷ []) ≡ Some (b - 48)
one_digit b low high =
    let same : digit (b - 48) ≡ b = omega arith in
    subst (λ k. register_named (120 ∷ k ∷ []) ≡ Some (b - 48)) same (below_ten (b - 48) (omega arith))

pub two_digits : (a b : ℕ) → 49 ≤ a → a ≤ 50 → 48 ≤ b → b ≤ 57 → register_named (120 ∷ a ∷ b ∷ []) ≡ Some ((a - 48) * 10 + (b - 48))
two_digits a b least most low high =
    let same : digit (b - 48) ≡ b = omega arith in
    elim (eq-or-lt_of_le least) [
      | inl is ↦
          let a_is : a ≡ 49 = omega arith in
          rw a_is (subst (λ k. register_named (120 ∷ 49 ∷ k ∷ []) ≡ Some (10 + (b - 48))) same (from_ten (b - 48) (omega arith)))
      | inr more ↦
          let a_is : a ≡ 50 = omega arith in
          rw a_is (subst (λ k. register_named (120 ∷ 50 ∷ k ∷ []) ≡ Some (20 + (b - 48))) same (from_twenty (b - 48) (omega arith)))
    ]

pub from_thirty : (b : ℕ) → 48 ≤ b → b ≤ 49 → register_named (120 ∷ 51 ∷ b ∷ []) ≡ Some (30 + (b - 48))
from_thirty b low high =
    elim (eq-or-lt_of_le low) [
      | inl is ↦
          let b_is : b ≡ 48 = omega arith in
          rw b_is refl
      | inr more ↦
          let b_is : b ≡ 49 = omega arith in
          rw b_is refl
    ]
