-- Strings: the bytes up to the quote against characters and escapes.
use Rattle.std.proofs.Common.{◌≡◌, ℕ, suc, ◌+◌, ◌<◌, Bool, true, false, ◌||◌, List, [], ◌∷◌, ◌++◌, length, take, codes, Option, Some, None, refl, sym, ap, ◌∙◌, arith, nat_lt, ltb-true, eqb-true, lt-ltb}
use Rattle.std.specs.Prelude.{◌==◌, if◌then◌else◌}
use Rattle.rv_asm_tokens.specs.declared.escapes.QuoteStep.TheVariants.{End, Bad, Go}
use Rattle.rv_asm_tokens.specs.Escapes.{escape_value, is_escape, on_step, quote_step, quoted_length, text_from}
use Rattle.rv_asm_tokens.specs.Grammar.{IsCharacter, IsText, is_one_of, itself, newline, tab, nul, backslash, quote}

-- ---- characters

-- a backslash and what may stand behind it spell its value
escape_spells : (e : ℕ) → is_escape e ≡ true → IsCharacter (92 ∷ e ∷ []) (escape_value e)
unfolding is_escape
escape_spells e h = go (e == 110) refl (e == 116) refl (e == 48) refl (e == 92) refl (e == 34) refl h
  where
    go : (n : Bool) → (e == 110) ≡ n → (t : Bool) → (e == 116) ≡ t → (z : Bool) → (e == 48) ≡ z → (b : Bool) → (e == 92) ≡ b → (q : Bool) → (e == 34) ≡ q
        → (n || (t || (z || (b || q)))) ≡ true → IsCharacter (92 ∷ e ∷ []) (if n then 10 else (if t then 9 else (if z then 0 else e)))
    go true n t ti z zi b bi q qi h = newline (ap (λ k. 92 ∷ k ∷ []) (eqb-true e 110 n)) refl
    go false n true t z zi b bi q qi h = tab (ap (λ k. 92 ∷ k ∷ []) (eqb-true e 116 t)) refl
    go false n false t true z b bi q qi h = nul (ap (λ k. 92 ∷ k ∷ []) (eqb-true e 48 z)) refl
    go false n false t false z true b q qi h = backslash (ap (λ k. 92 ∷ k ∷ []) (eqb-true e 92 b)) (eqb-true e 92 b)
    go false n false t false z false b true q h = quote (ap (λ k. 92 ∷ k ∷ []) (eqb-true e 34 q)) (eqb-true e 34 q)
    go false n false t false z false b false q h = absurd cc

-- ---- up to the quote

-- what stands behind a backslash, with it
abbrev led : Bool → List ℕ → List ℕ
led true raw = 92 ∷ raw
led false raw = raw

-- so many bytes before a quote are characters
pub record Quoted (escaped : Bool) (n m : ℕ) (bs : List ℕ) : Type 0 where
  pub many : ℕ
  pub sum : m ≡ n + many
  pub closed : take (suc many) bs ≡ take many bs ++ 34 ∷ []
  pub bytes : List ℕ
  pub text : IsText (led escaped (take many bs)) bytes

more_by_one : (escaped more : Bool) (n m b : ℕ) (bs : List ℕ) → Quoted more (n + 1) m bs → ((raw bytes : List ℕ) → IsText (led more raw) bytes → (all : List ℕ) × IsText (led escaped (b ∷ raw)) all) → Quoted escaped n m (b ∷ bs)
more_by_one escaped more n m b bs q f =
    let all = f (take q.many bs) q.bytes q.text in
    record {
      many = suc q.many;
      sum = omega (arith, q.sum);
      closed = ap (λ (xs : List ℕ). b ∷ xs) q.closed;
      bytes = all.0;
      text = all.1;
    }

plain_more : (b : ℕ) → (b == 34) ≡ false → nat_lt b 128 ≡ true → (b == 92) ≡ false → (raw bytes : List ℕ) → IsText raw bytes → (all : List ℕ) × IsText (b ∷ raw) all
plain_more b quoted low slash raw bytes text =
    let apart : is_one_of (codes "\"\\") b ≡ false = rw (quoted, slash) refl in
    (b ∷ bytes, (b ∷ [], raw, refl, itself (ltb-true b 128 low) apart refl, text))

pub quoted_is : (escaped : Bool) (bs : List ℕ) (n m : ℕ) → quoted_length escaped n bs ≡ Some m → Quoted escaped n m bs
unfolding quoted_length quote_step
quoted_is escaped [] n m h = absurd cc
quoted_is escaped (b ∷ bs) n m h = step escaped h (λ more. quoted_is more bs (n + 1) m)
  where
    escape_goes : (t : Bool) → is_escape b ≡ t → on_step (if t then Go false else Bad) (Some n) None (λ e. quoted_length e (n + 1) bs) ≡ Some m → ((more : Bool) → quoted_length more (n + 1) bs ≡ Some m → Quoted more (n + 1) m bs) → Quoted true n m (b ∷ bs)
    escape_goes true is h again = more_by_one true false n m b bs (again false h) (λ raw bytes text. (escape_value b ∷ bytes, (92 ∷ b ∷ [], raw, refl, escape_spells b is, text)))
    escape_goes false is h again = absurd cc

    plain_goes : (q : Bool) → (b == 34) ≡ q → (l : Bool) → nat_lt b 128 ≡ l → (s : Bool) → (b == 92) ≡ s → on_step (if q then End else (if l then Go s else Bad)) (Some n) None (λ e. quoted_length e (n + 1) bs) ≡ Some m
        → ((more : Bool) → quoted_length more (n + 1) bs ≡ Some m → Quoted more (n + 1) m bs) → Quoted false n m (b ∷ bs)
    plain_goes true q l low s is h again =
        let same : n ≡ m = cc in
        record { many = 0; sum = omega (arith, same); closed = ap (λ k. k ∷ []) (eqb-true b 34 q); bytes = []; text = refl }
    plain_goes false q true low true is h again = more_by_one false true n m b bs (again true h) (λ raw bytes text. (bytes, rw (eqb-true b 92 is) text))
    plain_goes false q true low false is h again = more_by_one false false n m b bs (again false h) (plain_more b q low is)
    plain_goes false q false low s is h again = absurd cc

    step : (e : Bool) → on_step (quote_step e b) (Some n) None (λ e. quoted_length e (n + 1) bs) ≡ Some m → ((more : Bool) → quoted_length more (n + 1) bs ≡ Some m → Quoted more (n + 1) m bs) → Quoted e n m (b ∷ bs)
    step true h again = escape_goes (is_escape b) refl h again
    step false h again = plain_goes (b == 34) refl (nat_lt b 128) refl (b == 92) refl h again

-- ---- and the other way

quoted_more : (escaped more : Bool) (b n : ℕ) (bs : List ℕ) (whole : Option ℕ) → quote_step escaped b ≡ Go more → quoted_length more (n + 1) bs ≡ whole → quoted_length escaped n (b ∷ bs) ≡ whole
unfolding quoted_length
quoted_more escaped more b n bs whole step h = rw step h

pub plain_tests : (b : ℕ) → is_one_of (codes "\"\\") b ≡ false → ((b == 34) ≡ false) × ((b == 92) ≡ false)
plain_tests b apart = go (b == 34) (b == 92) apart
  where
    go : (q s : Bool) → (q || (s || false)) ≡ false → (q ≡ false) × (s ≡ false)
    go true s h = absurd cc
    go false true h = absurd cc
    go false false h = (refl, refl)

plain_step : (b : ℕ) → b < 128 → is_one_of (codes "\"\\") b ≡ false → quote_step false b ≡ Go false
unfolding quote_step
plain_step b low apart =
    let tests = plain_tests b apart in
    rw (tests.0, tests.1, lt-ltb b 128 low) refl

escape_step : (e n : ℕ) (bs : List ℕ) (whole : Option ℕ) → is_escape e ≡ true → quoted_length false (n + 1 + 1) bs ≡ whole → quoted_length false n (92 ∷ e ∷ bs) ≡ whole
unfolding quote_step
escape_step e n bs whole is h = quoted_more false true 92 n (e ∷ bs) whole refl (quoted_more true false e (n + 1) bs whole (rw is refl) h)

pub quoted_back : (bytes raw rest : List ℕ) (n : ℕ) → IsText raw bytes → quoted_length false n (raw ++ 34 ∷ rest) ≡ Some (n + length raw)
unfolding quoted_length quote_step is_escape
quoted_back [] raw rest n text = rw text (ap Some (omega arith))
quoted_back (x ∷ xs) raw rest n (spelled, more, is, character, text) = rw is (go character (λ k. quoted_back xs more rest k text))
  where
    many : (k l m : ℕ) → n + l ≡ k → k + m ≡ n + (l + m)
    many k l m h = omega (arith, h)

    escaped : (e : ℕ) → is_escape e ≡ true → spelled ≡ 92 ∷ e ∷ [] → quoted_length false (n + 1 + 1) (more ++ 34 ∷ rest) ≡ Some (n + 1 + 1 + length more) → quoted_length false n ((spelled ++ more) ++ 34 ∷ rest) ≡ Some (n + length (spelled ++ more))
    escaped e is same h = rw same (escape_step e n (more ++ 34 ∷ rest) (Some (n + suc (suc (length more)))) is (h ∙ ap Some (omega arith)))

    go : IsCharacter spelled x → ((k : ℕ) → quoted_length false k (more ++ 34 ∷ rest) ≡ Some (k + length more)) → quoted_length false n ((spelled ++ more) ++ 34 ∷ rest) ≡ Some (n + length (spelled ++ more))
    go (itself low apart same) again = rw same (quoted_more false false x n (more ++ 34 ∷ rest) (Some (n + suc (length more))) (plain_step x low apart) (again (n + 1) ∙ ap Some (omega arith)))
    go (newline same value) again = escaped 110 refl same (again (n + 1 + 1))
    go (tab same value) again = escaped 116 refl same (again (n + 1 + 1))
    go (nul same value) again = escaped 48 refl same (again (n + 1 + 1))
    go (backslash same value) again = escaped 92 refl same (again (n + 1 + 1))
    go (quote same value) again = escaped 34 refl same (again (n + 1 + 1))

-- ---- what they stand for

pub text_means : (bytes raw : List ℕ) → IsText raw bytes → text_from false raw ≡ bytes
unfolding text_from
text_means [] raw text = rw text refl
text_means (x ∷ xs) raw (spelled, more, is, character, text) = rw is (go character (text_means xs more text))
  where
    escaped : (e : ℕ) → escape_value e ≡ x → spelled ≡ 92 ∷ e ∷ [] → text_from false more ≡ xs → text_from false (spelled ++ more) ≡ x ∷ xs
    escaped e value same again = rw same (rw (value, again) refl)

    go : IsCharacter spelled x → text_from false more ≡ xs → text_from false (spelled ++ more) ≡ x ∷ xs
    go (itself low apart same) again = rw same (rw ((plain_tests x apart).1, again) refl)
    go (newline same value) again = escaped 110 (sym value) same again
    go (tab same value) again = escaped 116 (sym value) same again
    go (nul same value) again = escaped 48 (sym value) same again
    go (backslash same value) again = escaped 92 (sym value) same again
    go (quote same value) again = escaped 34 (sym value) same again
