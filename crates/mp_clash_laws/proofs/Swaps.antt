-- The renaming that exchanges two places next to one another.
use Rattle.std.proofs.Common.{◌≡◌, ℕ, suc, ◌+◌, ◌<◌, ◌≤◌, inl, inr, refl, sym, ap, ◌∙◌, arith}
use Rattle.std.specs.Prelude.{◌==◌, cond}
use Rattle.std.proofs.lemmas.Bool.{cases_eq, eq-eqb, ne_eqb}
use Rattle.mp_alike_laws.specs.Renaming.{Renaming}

abbrev pub to_other : ℕ → ℕ → ℕ
to_other n place = cond (place == n) (suc n) (cond (place == suc n) n place)

pub at_first : (n : ℕ) → to_other n n ≡ suc n
at_first n = ap (λ b. cond b (suc n) (cond (n == suc n) n n)) (eq-eqb n n refl)

pub at_second : (n : ℕ) → to_other n (suc n) ≡ n
at_second n =
    ap (λ b. cond b (suc n) (cond (suc n == suc n) n (suc n))) (ne_eqb (suc n) n (λ e. absurd (omega (arith, e))))
    ∙ ap (λ b. cond b n (suc n)) (eq-eqb (suc n) (suc n) refl)

pub elsewhere : (n place : ℕ) → (place ≡ n → ⊥) → (place ≡ suc n → ⊥) → to_other n place ≡ place
elsewhere n place first second =
    ap (λ b. cond b (suc n) (cond (place == suc n) n place)) (ne_eqb place n first)
    ∙ ap (λ b. cond b n place) (ne_eqb place (suc n) second)

pub below : (n place : ℕ) → place < n → to_other n place ≡ place
below n place h = elsewhere n place (λ e. absurd (omega (arith, h, e))) (λ e. absurd (omega (arith, h, e)))

pub beyond : (n place : ℕ) → n + 2 ≤ place → to_other n place ≡ place
beyond n place h = elsewhere n place (λ e. absurd (omega (arith, h, e))) (λ e. absurd (omega (arith, h, e)))

pub twice : (n place : ℕ) → to_other n (to_other n place) ≡ place
twice n place = elim (cases_eq place n) [
  | inl first ↦ ap (λ k. to_other n (to_other n k)) first ∙ ap (to_other n) (at_first n) ∙ at_second n ∙ sym first
  | inr other ↦ elim (cases_eq place (suc n)) [
    | inl second ↦ ap (λ k. to_other n (to_other n k)) second ∙ ap (to_other n) (at_second n) ∙ at_first n ∙ sym second
    | inr neither ↦ ap (to_other n) (elsewhere n place other neither) ∙ elsewhere n place other neither
  ]
]

abbrev pub swap : ℕ → Renaming
swap n = record { to = to_other n; back = to_other n; there = twice n; again = twice n }

-- order is kept, but for those two
pub keeps : (n i j : ℕ) → i < j → (i ≡ n → j ≡ suc n → ⊥) → to_other n i < to_other n j
keeps n i j before apart = elim (cases_eq i n) [
  | inl first ↦ elim (cases_eq j (suc n)) [
    | inl second ↦ absurd (apart first second)
    | inr other ↦
        let e : to_other n i ≡ suc n = ap (to_other n) first ∙ at_first n in
        let f = elsewhere n j (λ e. absurd (omega (arith, before, first, e))) other in
        omega (arith, e, f, before, first, other)
  ]
  | inr not_first ↦ elim (cases_eq i (suc n)) [
    | inl second ↦
        let e : to_other n i ≡ n = ap (to_other n) second ∙ at_second n in
        let f = beyond n j (omega (arith, second, before)) in
        omega (arith, e, f, before, second)
    | inr not_second ↦
        let e = elsewhere n i not_first not_second in
        elim (cases_eq j n) [
          | inl at ↦ (let f : to_other n j ≡ suc n = ap (to_other n) at ∙ at_first n in omega (arith, e, f, before, at))
          | inr not_at ↦ elim (cases_eq j (suc n)) [
            | inl at ↦
                let f : to_other n j ≡ n = ap (to_other n) at ∙ at_second n in
                omega (arith, e, f, before, at, not_first)
            | inr past ↦ (let f = elsewhere n j not_at past in omega (arith, e, f, before))
          ]
        ]
  ]
]
