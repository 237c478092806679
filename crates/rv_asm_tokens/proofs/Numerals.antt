-- Numbers: digits one behind another against digits by their places.
use Rattle.std.proofs.Common.{◌≡◌, ◌≢◌, ℕ, ◌+◌, ◌*◌, ◌^◌, ◌<◌, ◌≤◌, ◌⊎◌, inl, inr, Bool, true, false, cond, ◌&&◌, ◌||◌, List, [], ◌∷◌, ◌++◌, length, codes, Option, Some, None, slice_get, refl, sym, ap, subst, ◌∙◌, arith, nat_eq, nat_lt, ltb-true, ltb-false, eqb-true, le-ltb, lt-ltb, pow-suc, le-mul_of_pos_right}
use Rattle.std.proofs.Math.Nat.{one-le-pow, pow-zero}
use Rattle.std.specs.Prelude.{◌==◌, if◌then◌else◌}
use Rattle.rv_asm_tokens.specs.Digits.{digit_value, digits_from, is_digit, magnitude, with_digit}
use Rattle.rv_asm_tokens.specs.Fault.{if_some}
use Rattle.rv_asm_tokens.specs.Grammar.{IsDigit, IsMagnitude, IsNumeral, decimal, hexadecimal}
use Rattle.rv_asm_tokens.specs.Scan.{is_name_byte}
use Rattle.rv_asm_tokens.proofs.Characters.{all_below, both, each_below, follows, is_digit-low, not_between}

-- ---- words

abbrev pub AllNamed : List ℕ → Type 0
AllNamed [] = Unit {0}
AllNamed (b ∷ bs) = (is_name_byte b ≡ true) × AllNamed bs

abbrev pub BeginsWithDigit : List ℕ → Type 0
BeginsWithDigit [] = ⊥
BeginsWithDigit (b ∷ bs) = is_digit b ≡ true

-- ---- digits

abbrev stands_at : List ℕ → ℕ → ℕ → Bool
stands_at cs d b = if_some (slice_get cs d) false (λ c. nat_eq c b)

stands-there : (cs : List ℕ) (d b : ℕ) → stands_at cs d b ≡ true → slice_get cs d ≡ Some b
stands-there cs d b h = go (slice_get cs d) h
  where
    go : (o : Option ℕ) → if_some o false (λ c. nat_eq c b) ≡ true → o ≡ Some b
    go None h = absurd cc
    go (Some c) h = ap Some (eqb-true c b h)

abbrev small : List ℕ
small = codes "0123456789abcdef"

abbrev capital : List ℕ
capital = codes "0123456789ABCDEF"

-- what has a value is the digit of that value
abbrev right_digit : ℕ → ℕ → Bool
right_digit base b = if_some (digit_value base b) true (λ d. nat_lt d base && (stands_at small d b || stands_at capital d b))

-- the digit of a value has it
abbrev has_value : ℕ → List ℕ → ℕ → Bool
has_value base cs d = if_some (slice_get cs d) false (λ c. if_some (digit_value base c) false (λ e. nat_eq e d))

abbrev has_digit : ℕ → ℕ → Bool
has_digit base b = if_some (digit_value base b) false (λ d. true)

-- a base whose digits are those of the table
pub record IsBase (base : ℕ) : Type 0 where
  pub positive : 0 < base
  pub is : (b d : ℕ) → digit_value base b ≡ Some d → IsDigit base b d
  pub has : (b d : ℕ) → IsDigit base b d → digit_value base b ≡ Some d
  pub named : (b d : ℕ) → IsDigit base b d → is_name_byte b ≡ true

or_true : (a b : Bool) → (a || b) ≡ true → (a ≡ true) ⊎ (b ≡ true)
or_true true b h = inl refl
or_true false b h = inr h

digit_is : (base b d : ℕ) → right_digit base b ≡ true → digit_value base b ≡ Some d → IsDigit base b d
digit_is base b d h is = go (digit_value base b) h is
  where
    go : (o : Option ℕ) → if_some o true (λ d. nat_lt d base && (stands_at small d b || stands_at capital d b)) ≡ true → o ≡ Some d → IsDigit base b d
    go None h is = absurd cc
    go (Some e) h is =
        let same : e ≡ d = cc in
        let there : (nat_lt d base && (stands_at small d b || stands_at capital d b)) ≡ true = subst (λ k. (nat_lt k base && (stands_at small k b || stands_at capital k b)) ≡ true) same h in
        let two = both (nat_lt d base) (stands_at small d b || stands_at capital d b) there in
        (ltb-true d base two.0, stood (or_true (stands_at small d b) (stands_at capital d b) two.1))
      where
        stood : (stands_at small d b ≡ true) ⊎ (stands_at capital d b ≡ true) → (slice_get small d ≡ Some b) ⊎ (slice_get capital d ≡ Some b)
        stood (inl x) = inl (stands-there small d b x)
        stood (inr x) = inr (stands-there capital d b x)

-- from 128 on nothing is a digit
no_digit : (base b : ℕ) → 128 ≤ b → digit_value base b ≡ None
no_digit base b far = rw (is_digit-low b far, not_between 97 102 b (omega arith), not_between 65 70 b (omega arith), le-ltb base base (omega arith)) refl

is_right : (base : ℕ) → all_below 128 (right_digit base) ≡ true → (b : ℕ) → right_digit base b ≡ true
is_right base table b = go (nat_lt b 128) refl
  where
    go : (c : Bool) → nat_lt b 128 ≡ c → right_digit base b ≡ true
    go true lt = each_below 128 (right_digit base) table b (ltb-true b 128 lt)
    go false le = rw (no_digit base b (ltb-false b 128 le)) refl

has_at : (base b d : ℕ) (cs : List ℕ) → all_below base (has_value base cs) ≡ true → d < base → slice_get cs d ≡ Some b → digit_value base b ≡ Some d
has_at base b d cs table lt there = go (digit_value base b) (subst (λ (o : Option ℕ). if_some o false (λ c. if_some (digit_value base c) false (λ e. nat_eq e d)) ≡ true) there (each_below base (has_value base cs) table d lt))
  where
    go : (o : Option ℕ) → if_some o false (λ e. nat_eq e d) ≡ true → o ≡ Some d
    go None h = absurd cc
    go (Some e) h = ap Some (eqb-true e d h)

base_of : (base : ℕ) → 0 < base → all_below 128 (right_digit base) ≡ true → all_below base (has_value base small) ≡ true → all_below base (has_value base capital) ≡ true
    → all_below 128 (λ b. cond (has_digit base b) (is_name_byte b) true) ≡ true → IsBase base
base_of base positive right smalls capitals named = record {
  positive = positive;
  is = λ b d h. digit_is base b d (is_right base right b) h;
  has = λ b d h. valued b d h.0 h.1;
  named = λ b d h. follows (has_digit base) is_name_byte (λ b far. rw (no_digit base b far) refl) named b (rw (valued b d h.0 h.1) refl);
}
  where
    valued : (b d : ℕ) → d < base → (slice_get small d ≡ Some b) ⊎ (slice_get capital d ≡ Some b) → digit_value base b ≡ Some d
    valued b d lt (inl e) = has_at base b d small smalls lt e
    valued b d lt (inr e) = has_at base b d capital capitals lt e

pub ten : IsBase 10
ten = base_of 10 (omega arith) refl refl refl refl

pub ten_digit : (b d : ℕ) → IsDigit 10 b d → is_digit b ≡ true
ten_digit b d digit = follows (has_digit 10) is_digit (λ b far. rw (no_digit 10 b far) refl) refl b (rw (ten.has b d digit) refl)

pub sixteen : IsBase 16
sixteen = base_of 16 (omega arith) refl refl refl refl

-- ---- digits one behind another

-- one more digit, if both are small enough
pub record OneMore (base value b next : ℕ) : Type 0 where
  pub digit : ℕ
  pub is : digit_value base b ≡ Some digit
  pub sum : next ≡ value * base + digit
  pub fits : next < 2 ^ 64

one_more : (base value b next : ℕ) → with_digit base value b ≡ Some next → OneMore base value b next
unfolding with_digit
one_more base value b next h = go (digit_value base b) refl h
  where
    fit : (d : ℕ) → digit_value base b ≡ Some d → (c : Bool) → nat_lt (value * base + d) (2 ^ 64) ≡ c → (if c then Some (value * base + d) else None) ≡ Some next → OneMore base value b next
    fit d is true lt h =
        let same : value * base + d ≡ next = cc in
        record { digit = d; is = is; sum = sym same; fits = subst (λ k. k < 2 ^ 64) same (ltb-true (value * base + d) (2 ^ 64) lt) }
    fit d is false lt h = absurd cc

    go : (o : Option ℕ) → digit_value base b ≡ o → if_some o None (λ d. if nat_lt (value * base + d) (2 ^ 64) then Some (value * base + d) else None) ≡ Some next → OneMore base value b next
    go None is h = absurd cc
    go (Some d) is h = fit d is (nat_lt (value * base + d) (2 ^ 64)) refl h

-- what digits come to behind a value
pub record Behind (base value n : ℕ) (bs : List ℕ) : Type 0 where
  pub low : ℕ
  pub numeral : IsNumeral base bs low
  pub sum : n ≡ value * base ^ length bs + low
  pub fits : n < 2 ^ 64

nothing : (base value : ℕ) → value ≡ value * base ^ 0 + 0
nothing base value = let one : base ^ 0 ≡ 1 = pow-zero base in rw one (omega arith)

pub digits_behind : (base : ℕ) (bs : List ℕ) (value n : ℕ) → IsBase base → value < 2 ^ 64 → digits_from base value bs ≡ Some n → Behind base value n bs
unfolding digits_from
digits_behind base [] value n right lt h =
    let same : value ≡ n = cc in
    record { low = 0; numeral = refl; sum = sym same ∙ nothing base value; fits = subst (λ k. k < 2 ^ 64) same lt }
digits_behind base (b ∷ bs) value n right lt h = go (with_digit base value b) (λ next. digits_behind base bs next n right) refl h
  where
    go : (o : Option ℕ) → ((next : ℕ) → next < 2 ^ 64 → digits_from base next bs ≡ Some n → Behind base next n bs) → with_digit base value b ≡ o → if_some o None (λ next. digits_from base next bs) ≡ Some n → Behind base value n (b ∷ bs)
    go None again is h = absurd cc
    go (Some next) again is h =
        let one = one_more base value b next is in
        let rest = again next one.fits h in
        record {
          low = one.digit * base ^ length bs + rest.low;
          numeral = (one.digit, rest.low, right.is b one.digit one.is, rest.numeral, refl);
          sum = rest.sum ∙ placed (base ^ length bs) (base ^ length (b ∷ bs)) next one.digit rest.low (pow-suc base (length bs)) one.sum;
          fits = rest.fits;
        }
      where
        placed : (p q next d low : ℕ) → q ≡ p * base → next ≡ value * base + d → next * p + low ≡ value * q + (d * p + low)
        placed p q next d low pq sum = rw (pq, sum) (omega arith)

with_digit-is : (base value b d : ℕ) → digit_value base b ≡ Some d → value * base + d < 2 ^ 64 → with_digit base value b ≡ Some (value * base + d)
unfolding with_digit
with_digit-is base value b d is lt = rw (is, lt-ltb (value * base + d) (2 ^ 64) lt) refl

-- and the other way
pub digits_back : (base : ℕ) (bs : List ℕ) (value low n : ℕ) → IsBase base → IsNumeral base bs low → n ≡ value * base ^ length bs + low → n < 2 ^ 64 → digits_from base value bs ≡ Some n
unfolding digits_from
digits_back base [] value low n right is sum lt =
    let one : base ^ 0 ≡ 1 = pow-zero base in
    ap Some (sym (sum ∙ rw (is, one) (omega arith)))
digits_back base (b ∷ bs) value low n right (d, rest, digit, numeral, is) sum lt =
    let next : n ≡ (value * base + d) * base ^ length bs + rest = placed (base ^ length bs) (base ^ length (b ∷ bs)) low (pow-suc base (length bs)) sum is in
    let fits : value * base + d < 2 ^ 64 = smaller (base ^ length bs) (value * base + d) (one-le-pow (length bs) base right.positive) next in
    rw (with_digit-is base value b d (right.has b d digit) fits) (digits_back base bs (value * base + d) rest n right numeral next lt)
  where
    placed : (p q low : ℕ) → q ≡ p * base → n ≡ value * q + low → low ≡ d * p + rest → n ≡ (value * base + d) * p + rest
    placed p q low pq sum is = sum ∙ rw (pq, is) (omega arith)

    smaller : (p next : ℕ) → 1 ≤ p → n ≡ next * p + rest → next < 2 ^ 64
    smaller p next pos is = omega (arith, le-mul_of_pos_right next pos, is, lt)

-- ---- words

whole : (base : ℕ) (bs : List ℕ) (n low : ℕ) → n ≡ 0 * base ^ length bs + low → IsNumeral base bs low → IsNumeral base bs n
whole base bs n low sum numeral = subst (IsNumeral base bs) (sym (sum ∙ omega arith)) numeral

decimal_is : (word : List ℕ) (n : ℕ) → word ≢ [] → digits_from 10 0 word ≡ Some n → IsMagnitude word n × (n < 2 ^ 64)
decimal_is word n some h =
    let from = digits_behind 10 word 0 n ten (omega arith) h in
    (decimal some (whole 10 word n from.low from.sum from.numeral), from.fits)

pub magnitude_is : (word : List ℕ) (n : ℕ) → magnitude word ≡ Some n → IsMagnitude word n × (n < 2 ^ 64)
unfolding magnitude
magnitude_is [] n h = absurd cc
magnitude_is (b ∷ []) n h = decimal_is (b ∷ []) n (λ e. cc) h
magnitude_is (b ∷ c ∷ []) n h = decimal_is (b ∷ c ∷ []) n (λ e. cc) h
magnitude_is (b ∷ c ∷ d ∷ ds) n h = go ((b == 48) && (c == 120)) refl h
  where
    go : (t : Bool) → ((b == 48) && (c == 120)) ≡ t → (if t then digits_from 16 0 (d ∷ ds) else digits_from 10 0 (b ∷ c ∷ d ∷ ds)) ≡ Some n → IsMagnitude (b ∷ c ∷ d ∷ ds) n × (n < 2 ^ 64)
    go true t h =
        let two = both (b == 48) (c == 120) t in
        let from = digits_behind 16 (d ∷ ds) 0 n sixteen (omega arith) h in
        (hexadecimal (d ∷ ds) (λ e. cc) (rw (eqb-true b 48 two.0, eqb-true c 120 two.1) refl) (whole 16 (d ∷ ds) n from.low from.sum from.numeral), from.fits)
    go false t h = decimal_is (b ∷ c ∷ d ∷ ds) n (λ e. cc) h

no_hexadecimal : (c d : ℕ) → IsDigit 10 c d → (b : ℕ) → ((b == 48) && (c == 120)) ≡ false
no_hexadecimal c d digit b = go (c == 120) refl (b == 48)
  where
    no_letter : c ≡ 120 → ⊥
    no_letter same =
        let value : digit_value 10 120 ≡ Some d = subst (λ k. digit_value 10 k ≡ Some d) same (ten.has c d digit) in
        absurd cc

    go : (t : Bool) → (c == 120) ≡ t → (u : Bool) → (u && t) ≡ false
    go true is u = absurd (no_letter (eqb-true c 120 is))
    go false is true = refl
    go false is false = refl

decimal_back : (word : List ℕ) (n : ℕ) → word ≢ [] → IsNumeral 10 word n → n < 2 ^ 64 → magnitude word ≡ Some n
unfolding magnitude
decimal_back [] n some numeral lt = absurd (some refl)
decimal_back (b ∷ []) n some numeral lt = digits_back 10 (b ∷ []) 0 n n ten numeral (omega arith) lt
decimal_back (b ∷ c ∷ []) n some numeral lt = digits_back 10 (b ∷ c ∷ []) 0 n n ten numeral (omega arith) lt
decimal_back (b ∷ c ∷ d ∷ ds) n some numeral lt =
    let second = numeral.3 in
    rw (no_hexadecimal c second.0 second.2 b) (digits_back 10 (b ∷ c ∷ d ∷ ds) 0 n n ten numeral (omega arith) lt)

hexadecimal_back : (behind : List ℕ) (n : ℕ) → behind ≢ [] → IsNumeral 16 behind n → n < 2 ^ 64 → magnitude (codes "0x" ++ behind) ≡ Some n
unfolding magnitude
hexadecimal_back [] n some numeral lt = absurd (some refl)
hexadecimal_back (d ∷ ds) n some numeral lt = digits_back 16 (d ∷ ds) 0 n n sixteen numeral (omega arith) lt

pub magnitude_back : (word : List ℕ) (n : ℕ) → IsMagnitude word n → n < 2 ^ 64 → magnitude word ≡ Some n
magnitude_back word n (decimal some numeral) lt = decimal_back word n some numeral lt
magnitude_back word n (hexadecimal behind some is numeral) lt = rw is (hexadecimal_back behind n some numeral lt)

-- ---- the characters of words

numeral_named : (base : ℕ) (bs : List ℕ) (n : ℕ) → IsBase base → IsNumeral base bs n → AllNamed bs
numeral_named base [] n right numeral = tt
numeral_named base (b ∷ bs) n right (d, low, digit, numeral, is) = (right.named b d digit, numeral_named base bs low right numeral)

first_decimal : (word : List ℕ) (n : ℕ) → word ≢ [] → IsNumeral 10 word n → BeginsWithDigit word
first_decimal [] n some numeral = absurd (some refl)
first_decimal (b ∷ bs) n some (d, low, digit, numeral, is) = ten_digit b d digit

-- a word of a number begins with a digit, and has characters of names only
pub magnitude_named : (word : List ℕ) (n : ℕ) → IsMagnitude word n → AllNamed word × BeginsWithDigit word
magnitude_named word n (decimal some numeral) = (numeral_named 10 word n ten numeral, first_decimal word n some numeral)
magnitude_named word n (hexadecimal behind some is numeral) = subst (λ (w : List ℕ). AllNamed w × BeginsWithDigit w) (sym is) ((refl, (refl, numeral_named 16 behind n sixteen numeral)), refl)
