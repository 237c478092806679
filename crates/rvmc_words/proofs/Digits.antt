-- What `from_str_radix` reads in a base, by the tests of `number_in_base`.
use Rattle.std.proofs.Common.{◌≡◌, ◌<◌, ◌≤◌, ◌∙◌, ◌^◌, ◌&&◌, ℕ, Bool, cond, true, false, suc, refl, sym, ap, subst, arith, List, [], ◌∷◌, length, drop, Option, Some, None, nat_lt, nat_le, lt-ltb, le-ltb, ltb-true, true≢false, slice_index, ◌==◌}
use Rattle.std.proofs.lemmas.Bool.{le-leb, leb-true, lt-leb}
use Rattle.std.specs.List.{list_all}
use Rattle.std.specs.Char.{digit_value, is_digit}
use Rattle.std.specs.Str.Parse.{AllDigits, IsNumeral, digits_value, without_leading_plus}
use Rattle.rvmc_words.specs.Number.{is_numeral, number_in_base}

digits_pass : (base : ℕ) (ds : List ℕ) → AllDigits base ds → list_all (λ d. is_digit d base) ds ≡ true
digits_pass base [] h = refl
digits_pass base (d ∷ ds) h = rw (lt-ltb (digit_value d) base h.0) (digits_pass base ds h.1)

both : (a b : Bool) → (a && b) ≡ true → (a ≡ true) × (b ≡ true)
both true b e = (refl, e)
both false b e = absurd (true≢false (sym e))

digits_from : (base : ℕ) (ds : List ℕ) → list_all (λ d. is_digit d base) ds ≡ true → AllDigits base ds
digits_from base [] e = tt
digits_from base (d ∷ ds) e =
    let parts = both _ _ e in
    (ltb-true _ _ parts.0, digits_from base ds parts.1)

no_plus : (t : List ℕ) → (slice_index t 0 == 43) ≡ false → without_leading_plus t ≡ t
no_plus t e = ap (λ b. drop (cond b 1 0) t) e

-- no text is no number
pub not_empty : (base least most : ℕ) (t : List ℕ) → length t ≡ 0 → None ≡ number_in_base base least most t
not_empty base least most [] e = refl
not_empty base least most (c ∷ cs) e = absurd (omega (arith, e))

-- a plus is no digit
pub not_plus : (base least most : ℕ) (t : List ℕ) → base ≤ 36 → slice_index t 0 ≡ 43 → None ≡ number_in_base base least most t
not_plus base least most [] small e = refl
not_plus base least most (c ∷ cs) small e =
    let other : is_digit c base ≡ false = ap (λ d. is_digit d base) e ∙ le-ltb 36 base small in
    rw (lt-ltb 0 (suc (length cs)) (omega arith), other) refl

abbrev pub Reading : ℕ → ℕ → List ℕ → Type 0
Reading base n s = (IsNumeral base s × (digits_value base s < 2 ^ 64)) × (n ≡ digits_value base s)

abbrev pub within : ℕ → ℕ → ℕ → Option ℕ
within least most n = cond (nat_le least n && nat_le n most) (Some n) None

-- a number that was read is the text's, if it is within the bounds
pub read_number : (base least most n : ℕ) (t : List ℕ) → (slice_index t 0 == 43) ≡ false → Reading base n (without_leading_plus t)
    → within least most n ≡ number_in_base base least most t
read_number base least most n t plus h =
    let k = subst (Reading base n) (no_plus t plus) h in
    rw (lt-ltb 0 (length t) k.0.0.0, digits_pass base t k.0.0.1) (ap (within least most) k.1)

abbrev pub IsRead : ℕ → List ℕ → Type 0
IsRead base s = IsNumeral base s × (digits_value base s < 2 ^ 64)

-- a text that wasn't read is no number below 2^64
pub read_none : (base least most : ℕ) (t : List ℕ) → most < 2 ^ 64 → (slice_index t 0 == 43) ≡ false → ¬ (IsRead base (without_leading_plus t))
    → None ≡ number_in_base base least most t
read_none base least most t fits plus h = go _ refl
  where
    go : (b : Bool) → (is_numeral base t && (nat_le least (digits_value base t) && nat_le (digits_value base t) most)) ≡ b
        → None ≡ cond b (Some (digits_value base t)) None
    go false e = refl
    go true e =
        let outer = both (is_numeral base t) (nat_le least (digits_value base t) && nat_le (digits_value base t) most) e in
        let numeral = both (nat_lt 0 (length t)) (list_all (λ d. is_digit d base) t) outer.0 in
        let bounds = both (nat_le least (digits_value base t)) (nat_le (digits_value base t) most) outer.1 in
        let below = leb-true (digits_value base t) most bounds.1 in
        let fits_word : digits_value base t < 2 ^ 64 = omega (arith, below, fits) in
        let many : 0 < length t = ltb-true 0 (length t) numeral.0 in
        let is : IsRead base t = ((many, digits_from base t numeral.1), fits_word) in
        absurd (h (subst (IsRead base) {x = t} {y = without_leading_plus t} (sym (no_plus t plus)) is))

pub small : (least most n : ℕ) → n < least → None ≡ within least most n
small least most n lt = rw (lt-leb least n lt) refl

pub large : (least most n : ℕ) → most < n → None ≡ within least most n
large least most n lt = rw (lt-leb n most lt) (go (nat_le least n))
  where
    go : (b : Bool) → None ≡ cond (b && false) (Some n) None
    go true = refl
    go false = refl

pub inside : (least most n : ℕ) → least ≤ n → n ≤ most → Some n ≡ within least most n
inside least most n lo hi = rw (le-leb least n lo, le-leb n most hi) refl
