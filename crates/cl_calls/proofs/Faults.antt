-- The first check that fails of some and then others.
use Rattle.std.proofs.Common.{◌≡◌, List, [], ◌∷◌, ◌++◌, Bool, true, false, Option, Some, None, IsNone, IsTrue, refl}
use Rattle.std.specs.Prelude.{if◌then◌else◌}
use Rattle.mp_types.specs.declared.codes.Code.{Code}
use Rattle.cl_calls.specs.Checks.{first_fault}

-- one check and then others
abbrev checked : Bool → Code → Option Code → Option Code
checked passed code rest = if passed then rest else Some code

found_then : (b : Bool) (x code : Code) (rest more : Option Code) → (Some code ≡ rest → Some code ≡ more) →
    Some code ≡ checked b x rest → Some code ≡ checked b x more
found_then true x code rest more more_is is = more_is is
found_then false x code rest more more_is is = is

none_then : (b : Bool) (x : Code) (o rest more : Option Code) → (None ≡ rest → o ≡ more) → None ≡ checked b x rest →
    o ≡ checked b x more
none_then true x o rest more more_is is = more_is is
none_then false x o rest more more_is is = absurd (cc)

-- where one of the first fails, it is that
pub first_found : (xs ys : List (Bool × Code)) (code : Code) → Some code ≡ first_fault xs →
    Some code ≡ first_fault (xs ++ ys)
first_found [] ys code is = absurd (cc)
first_found (x ∷ xs) ys code is =
    found_then x.0 x.1 code (first_fault xs) (first_fault (xs ++ ys)) (first_found xs ys code) is

-- where none does, it is the first of the others
pub none_found : (xs ys : List (Bool × Code)) (o : Option Code) → None ≡ first_fault xs → o ≡ first_fault ys →
    o ≡ first_fault (xs ++ ys)
none_found [] ys o none is = is
none_found (x ∷ xs) ys o none is =
    none_then x.0 x.1 o (first_fault xs) (first_fault (xs ++ ys)) (λ rest. none_found xs ys o rest is) none

-- where none fails, all hold
abbrev pub all_hold : List (Bool × Code) → Type 0
all_hold [] = IsTrue true
all_hold (check ∷ checks) = IsTrue check.0 × all_hold checks

holds_then : (b : Bool) (x : Code) (o rest : Option Code) (more : Type 0) → (o ≡ rest → more) → IsNone o →
    o ≡ checked b x rest → IsTrue b × more
holds_then true x o rest more go none is = (refl, go is)
holds_then false x o rest more go none is = absurd (cc)

pub none_fails : (checks : List (Bool × Code)) (o : Option Code) → IsNone o → o ≡ first_fault checks → all_hold checks
none_fails [] o none is = refl
none_fails (check ∷ checks) o none is =
    holds_then check.0 check.1 o (first_fault checks) (all_hold checks) (none_fails checks o none) none is
