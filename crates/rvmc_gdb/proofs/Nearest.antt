-- The earliest of several, and the least of several distances, in whichever order they are looked at.
use Rattle.std.specs.Prelude.{ℕ, zero, suc, ◌≡◌, ◌-◌, ◌<◌, ◌≤◌, nat_le, min, slice_get, if◌then◌else◌, Bool, true, false, List, [], ◌∷◌, Option, Some, None}
use Rattle.std.proofs.Common.{refl, sym, ap, subst, ◌∙◌, arith}
use Rattle.cl_machine.specs.declared.steps.Step.{Step}
use Rattle.rvmc_gdb.specs.declared.ends.Found.{Found}
use Rattle.rvmc_gdb.specs.declared.session.Who.{Who}
use Rattle.rvmc_gdb.specs.Ends.{earlier}
use Rattle.rvmc_gdb.specs.Finding.{is_turn_of, turns_back}

-- ---- the earliest

chosen_alone : (b : Bool) (x y : Found) → earlier (if b then Some x else Some y) None ≡ (if b then Some x else Some y)
chosen_alone true x y = refl
chosen_alone false x y = refl

of_three : (x y z : Found) (xy yz : Bool) → nat_le x.place y.place ≡ xy → nat_le y.place z.place ≡ yz
    → earlier (if xy then Some x else Some y) (Some z) ≡ earlier (Some x) (if yz then Some y else Some z)
of_three x y z true true a b = grind arith
of_three x y z true false a b = grind arith
of_three x y z false true a b = grind arith
of_three x y z false false a b = grind arith

pub earlier_assoc : (x y z : Option Found) → earlier (earlier x y) z ≡ earlier x (earlier y z)
earlier_assoc None y z = refl
earlier_assoc (Some x) None z = refl
earlier_assoc (Some x) (Some y) None = chosen_alone (nat_le x.place y.place) x y
earlier_assoc (Some x) (Some y) (Some z) =
    of_three x y z (nat_le x.place y.place) (nat_le y.place z.place) refl refl

pub earlier_none : (x : Option Found) → earlier x None ≡ x
earlier_none None = refl
earlier_none (Some x) = refl

-- ---- the least

pub min_assoc : (a b c : ℕ) → min (min a b) c ≡ min a (min b c)
min_assoc a b c = omega arith

pub min_most : (a : ℕ) → a ≤ 8 → min a 8 ≡ a
min_most a small = omega (arith, small)

-- ---- turns back

minus_one : (n : ℕ) → suc n - 1 ≡ n
minus_one n = omega arith

pick : (b : Bool) (x y : ℕ) → b ≡ true → (if b then x else y) ≡ x
pick true x y is = refl
pick false x y is = absurd (cc)

skip : (b : Bool) (x y : ℕ) → b ≡ false → (if b then x else y) ≡ y
skip true x y is = absurd (cc)
skip false x y is = refl

pub turns_own : (left : ℕ) (steps : List Step) (who : Who) (place : ℕ) → 0 < left → 0 < place
    → is_turn_of who (slice_get steps (place - 1)) ≡ true
    → turns_back left steps who place ≡ turns_back (left - 1) steps who (place - 1)
turns_own zero steps who place some more is = absurd (omega (arith, some))
turns_own (suc left) steps who zero some more is = absurd (omega (arith, more))
turns_own (suc left) steps who (suc place) some more is =
    pick (is_turn_of who (slice_get steps place)) (turns_back left steps who place) (turns_back (suc left) steps who place)
    (subst (λ p. is_turn_of who (slice_get steps p) ≡ true) (minus_one place) is)
    ∙ sym (ap (λ l. turns_back l steps who (suc place - 1)) (minus_one left)
    ∙ ap (λ p. turns_back left steps who p) (minus_one place))

pub turns_other : (left : ℕ) (steps : List Step) (who : Who) (place : ℕ) → 0 < left → 0 < place
    → is_turn_of who (slice_get steps (place - 1)) ≡ false
    → turns_back left steps who place ≡ turns_back left steps who (place - 1)
turns_other zero steps who place some more is = absurd (omega (arith, some))
turns_other (suc left) steps who zero some more is = absurd (omega (arith, more))
turns_other (suc left) steps who (suc place) some more is =
    skip (is_turn_of who (slice_get steps place)) (turns_back left steps who place) (turns_back (suc left) steps who place)
    (subst (λ p. is_turn_of who (slice_get steps p) ≡ false) (minus_one place) is)
    ∙ sym (ap (λ p. turns_back (suc left) steps who p) (minus_one place))

pub turns_none : (steps : List Step) (who : Who) (place : ℕ) → turns_back 0 steps who place ≡ place
turns_none steps who place = refl

pub turns_first : (left : ℕ) (steps : List Step) (who : Who) → turns_back left steps who 0 ≡ 0
turns_first zero steps who = refl
turns_first (suc left) steps who = refl
