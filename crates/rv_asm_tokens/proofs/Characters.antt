-- Characters: the tests of the definitions against the characters themselves, one by one below 128.
use Rattle.std.proofs.Common.{◌≡◌, ℕ, zero, suc, ◌<◌, ◌≤◌, Bool, true, false, cond, not, ◌&&◌, List, [], ◌∷◌, refl, sym, ◌∙◌, arith, nat_eq, nat_lt, nat_le, ltb-true, ltb-false, ne_eqb, leb-true}
use Rattle.std.specs.Prelude.{◌==◌}
use Rattle.std.specs.List.{list_all}
use Rattle.rv_asm_tokens.specs.Digits.{between, is_digit}
use Rattle.rv_asm_tokens.specs.Grammar.{blanks, digits, is_one_of, name_characters}
use Rattle.rv_asm_tokens.specs.Scan.{is_blank, is_name_byte}

-- ---- tests one by one

abbrev pub all_below : ℕ → (ℕ → Bool) → Bool
all_below zero p = true
all_below (suc n) p = p 0 && all_below n (λ k. p (suc k))

pub both : (a b : Bool) → (a && b) ≡ true → (a ≡ true) × (b ≡ true)
both true b h = (refl, h)
both false b h = absurd cc

pub each_below : (n : ℕ) (p : ℕ → Bool) → all_below n p ≡ true → (k : ℕ) → k < n → p k ≡ true
each_below zero p h k lt = absurd (omega arith)
each_below (suc n) p h zero lt = (both (p 0) (all_below n (λ k. p (suc k))) h).0
each_below (suc n) p h (suc k) lt = each_below n (λ k. p (suc k)) (both (p 0) (all_below n (λ k. p (suc k))) h).1 k (omega arith)

abbrev agrees : Bool → Bool → Bool
agrees a b = cond a b (not b)

agrees-same : (a b : Bool) → agrees a b ≡ true → a ≡ b
agrees-same true b h = sym h
agrees-same false true h = h
agrees-same false false h = refl

abbrev pub implies : Bool → Bool → Bool
implies a b = cond a b true

pub implies-then : (a b : Bool) → implies a b ≡ true → a ≡ true → b ≡ true
implies-then true b h t = h
implies-then false b h t = absurd cc

-- ---- no character stands from 128 on

le_false : (a b : ℕ) → b < a → nat_le a b ≡ false
le_false a b lt = go (nat_le a b) refl
  where
    go : (c : Bool) → nat_le a b ≡ c → c ≡ false
    go true h = absurd (omega (arith, leb-true a b h))
    go false h = refl

pub not_between : (low high b : ℕ) → high < b → between low high b ≡ false
not_between low high b lt = ends (nat_le low b) (nat_le b high) (le_false b high lt)
  where
    ends : (a c : Bool) → c ≡ false → (a && c) ≡ false
    ends true c h = h
    ends false c h = refl

pub far_from : (cs : List ℕ) (b : ℕ) → list_all (λ c. nat_lt c 128) cs ≡ true → 128 ≤ b → is_one_of cs b ≡ false
far_from [] b h far = refl
far_from (c ∷ cs) b h far =
    let here = both (nat_lt c 128) (list_all (λ c. nat_lt c 128) cs) h in
    let apart : nat_eq b c ≡ false = ne_eqb b c (λ (e : b ≡ c). omega (arith, ltb-true c 128 here.0)) in
    rw (apart, far_from cs b here.1 far) refl

abbrev pub IsLow : (ℕ → Bool) → Type 0
IsLow p = (b : ℕ) → 128 ≤ b → p b ≡ false

same_class : (cs : List ℕ) (p : ℕ → Bool) → list_all (λ c. nat_lt c 128) cs ≡ true → IsLow p → all_below 128 (λ b. agrees (is_one_of cs b) (p b)) ≡ true → (b : ℕ) → is_one_of cs b ≡ p b
same_class cs p low far near b = go (nat_lt b 128) refl
  where
    go : (c : Bool) → nat_lt b 128 ≡ c → is_one_of cs b ≡ p b
    go true h = agrees-same (is_one_of cs b) (p b) (each_below 128 (λ b. agrees (is_one_of cs b) (p b)) near b (ltb-true b 128 h))
    go false h = far_from cs b low (ltb-false b 128 h) ∙ sym (far b (ltb-false b 128 h))

pub is_digit-low : IsLow is_digit
is_digit-low b far = not_between 48 57 b (omega arith)

is_not : (b c : ℕ) → c < b → (b == c) ≡ false
is_not b c lt = ne_eqb b c (λ (e : b ≡ c). omega arith)

pub is_name_byte-low : IsLow is_name_byte
is_name_byte-low b far = rw (not_between 97 122 b (omega arith), not_between 65 90 b (omega arith), is_digit-low b far, is_not b 95 (omega arith), is_not b 46 (omega arith), is_not b 36 (omega arith)) refl

is_blank-low : IsLow is_blank
is_blank-low b far = rw (is_not b 32 (omega arith), is_not b 9 (omega arith)) refl

pub name_class : (b : ℕ) → is_one_of name_characters b ≡ is_name_byte b
name_class = same_class name_characters is_name_byte refl is_name_byte-low refl

pub digit_class : (b : ℕ) → is_one_of digits b ≡ is_digit b
digit_class = same_class digits is_digit refl is_digit-low refl

pub blank_class : (b : ℕ) → is_one_of blanks b ≡ is_blank b
blank_class = same_class blanks is_blank refl is_blank-low refl

-- ---- characters of names are no other signs

pub follows : (p q : ℕ → Bool) → IsLow p → all_below 128 (λ b. implies (p b) (q b)) ≡ true → (b : ℕ) → p b ≡ true → q b ≡ true
follows p q far near b h = go (nat_lt b 128) refl
  where
    go : (c : Bool) → nat_lt b 128 ≡ c → q b ≡ true
    go true lt = implies-then (p b) (q b) (each_below 128 (λ b. implies (p b) (q b)) near b (ltb-true b 128 lt)) h
    go false lt = absurd (cc (sym h ∙ far b (ltb-false b 128 lt)))

-- no character of names is a blank, a comment's, a quote or a minus
abbrev pub is_apart : ℕ → Bool
is_apart b = not (is_blank b) && (not (b == 35) && (not (b == 34) && not (b == 45)))

pub name_byte_apart : (b : ℕ) → is_name_byte b ≡ true → is_apart b ≡ true
name_byte_apart = follows is_name_byte is_apart is_name_byte-low refl
