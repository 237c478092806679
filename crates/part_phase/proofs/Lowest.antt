-- The lowest number that passes.
use Rattle.std.proofs.Common.{◌≡◌, ◌≢◌, ℕ, zero, suc, ◌+◌, ◌-◌, ◌<◌, ◌≤◌, Bool, true, false, Option, Some, None, refl}
use Rattle.std.proofs.Common.{sym, ap, ◌∙◌, ⊎_elim, arith}
use Rattle.std.specs.Prelude.{is_some, if◌then◌else◌}
use Rattle.std.proofs.lemmas.Bool.{cases_eq}
use Rattle.part_phase.specs.Receiving.{lowest_from}

-- a number is tried, and then the rest
abbrev tried : ℕ → Option ℕ → Bool → Option ℕ
tried first rest passes = if passes then Some first else rest

-- a number that doesn't pass is passed over
pub skips : (passes : ℕ → Bool) (i n : ℕ) → i < n → passes i ≡ false →
    lowest_from passes i (n - i) ≡ lowest_from passes (i + 1) (n - (i + 1))
skips passes i n low fails =
    let e : n - i ≡ suc (n - (i + 1)) = omega arith in
    ap (lowest_from passes i) e ∙ ap (tried i (lowest_from passes (i + 1) (n - (i + 1)))) fails

-- a number that passes is the lowest from itself on
pub stops : (passes : ℕ → Bool) (i n : ℕ) → i < n → passes i ≡ true → lowest_from passes i (n - i) ≡ Some i
stops passes i n low holds =
    let e : n - i ≡ suc (n - (i + 1)) = omega arith in
    ap (lowest_from passes i) e ∙ ap (tried i (lowest_from passes (i + 1) (n - (i + 1)))) holds

-- past the end there is none
pub none_left : (passes : ℕ → Bool) (i n : ℕ) → n ≤ i → lowest_from passes i (n - i) ≡ None
none_left passes i n high = let over : n - i ≡ 0 = omega arith in ap (lowest_from passes i) over

-- where none passes, each fails
pub none_pass : (passes : ℕ → Bool) (first n : ℕ) → lowest_from passes first n ≡ None →
    (j : ℕ) → first ≤ j → j < first + n → passes j ≡ false
none_pass passes first zero e j low high = absurd (omega (arith, low, high))
none_pass passes first (suc n) e j low high =
    let rec = λ (rest : lowest_from passes (first + 1) n ≡ None) (apart : j ≢ first).
    none_pass passes (first + 1) n rest j (omega (arith, low, apart)) (omega (arith, high)) in
    go rec (passes first) refl
  where
    some_none : (x : ℕ) → Some x ≡ None → ⊥
    some_none x e = cc

    go : (lowest_from passes (first + 1) n ≡ None → j ≢ first → passes j ≡ false) → (b : Bool) →
        passes first ≡ b → passes j ≡ false
    go rec false is = ⊎_elim
        (λ (same : j ≡ first). ap passes same ∙ is)
        (λ (ne : j ≡ first → ⊥). rec (sym (ap (tried first (lowest_from passes (first + 1) n)) is) ∙ e) ne)
        (cases_eq j first)
    go rec true is = absurd (some_none first (sym (ap (tried first (lowest_from passes (first + 1) n)) is) ∙ e))

-- the lowest is one of them, and passes
pub found : (passes : ℕ → Bool) (first n x : ℕ) → lowest_from passes first n ≡ Some x →
    (passes x ≡ true) × (x < first + n)
found passes first zero x e = absurd (cc)
found passes first (suc n) x e =
    go (λ (rest : lowest_from passes (first + 1) n ≡ Some x). found passes (first + 1) n x rest) (passes first) refl
  where
    go : (lowest_from passes (first + 1) n ≡ Some x → (passes x ≡ true) × (x < first + 1 + n)) →
        (b : Bool) → passes first ≡ b →
        (passes x ≡ true) × (x < first + suc n)
    go rec true is =
        let here : Some first ≡ Some x = sym (ap (tried first (lowest_from passes (first + 1) n)) is) ∙ e in
        let same : first ≡ x = cc in
        (ap passes (sym same) ∙ is, omega (arith, same))
    go rec false is =
        let rest = rec (sym (ap (tried first (lowest_from passes (first + 1) n)) is) ∙ e) in
        (rest.0, omega (arith, rest.1))

-- and all below it fail
pub found_lowest : (passes : ℕ → Bool) (first n x : ℕ) → lowest_from passes first n ≡ Some x →
    (j : ℕ) → first ≤ j → j < x → passes j ≡ false
found_lowest passes first zero x e j low high = absurd (cc)
found_lowest passes first (suc n) x e j low high =
    let rec = λ (rest : lowest_from passes (first + 1) n ≡ Some x) (apart : j ≢ first).
    found_lowest passes (first + 1) n x rest j (omega (arith, low, apart)) high in
    go rec (passes first) refl
  where
    go : (lowest_from passes (first + 1) n ≡ Some x → j ≢ first → passes j ≡ false) → (b : Bool) →
        passes first ≡ b → passes j ≡ false
    go rec false is = ⊎_elim
        (λ (same : j ≡ first). ap passes same ∙ is)
        (λ (ne : j ≡ first → ⊥). rec (sym (ap (tried first (lowest_from passes (first + 1) n)) is) ∙ e) ne)
        (cases_eq j first)
    go rec true is =
        let here : Some first ≡ Some x = sym (ap (tried first (lowest_from passes (first + 1) n)) is) ∙ e in
        let same : first ≡ x = cc in absurd (omega (arith, low, high, same))

-- where each fails, none passes
pub none_of : (passes : ℕ → Bool) (first n : ℕ) → ((j : ℕ) → first ≤ j → j < first + n → passes j ≡ false) →
    lowest_from passes first n ≡ None
none_of passes first zero fails = refl
none_of passes first (suc n) fails =
    ap (tried first (lowest_from passes (first + 1) n)) (fails first (omega arith) (omega arith)) ∙
    none_of passes (first + 1) n (λ j low high. fails j (omega (arith, low)) (omega (arith, high)))

-- where one passes, there is a lowest
pub some_of : (passes : ℕ → Bool) (n j : ℕ) → j < n → passes j ≡ true → is_some (lowest_from passes 0 n) ≡ true
some_of passes n j low holds = go (lowest_from passes 0 n) refl
  where
    off : true ≡ false → ⊥
    off e = cc

    go : (o : Option ℕ) → lowest_from passes 0 n ≡ o → is_some o ≡ true
    go None is = absurd (off (sym holds ∙ none_pass passes 0 n is j (omega arith) (omega (arith, low))))
    go (Some x) is = refl

-- where the first passes, it is the lowest
pub first_passes : (passes : ℕ → Bool) (n : ℕ) → 0 < n → passes 0 ≡ true → lowest_from passes 0 n ≡ Some 0
first_passes passes zero some holds = absurd (omega (arith, some))
first_passes passes (suc n) some holds = ap (tried 0 (lowest_from passes (0 + 1) n)) holds

-- where each below a number fails, the lowest is sought from there on
pub from : (passes : ℕ → Bool) (first n : ℕ) → first ≤ n → ((j : ℕ) → j < first → passes j ≡ false) →
    lowest_from passes 0 n ≡ lowest_from passes first (n - first)
from passes zero n few fails = let all : n ≡ n - 0 = omega arith in ap (lowest_from passes 0) all
from passes (suc first) n few fails =
    let next : first + 1 ≡ suc first = omega arith in
    from passes first n (omega (arith, few)) (λ j low. fails j (omega (arith, low))) ∙
    (skips passes first n (omega (arith, few)) (fails first (omega arith)) ∙
    ap (λ (i : ℕ). lowest_from passes i (n - i)) next)
