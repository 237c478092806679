-- What is written as a text carries the payload again.
use Rattle.std.specs.Prelude.{bit_xor, nat_lt, option_map, ◌==◌, ◌||◌, if◌then◌else◌}
use Rattle.std.proofs.Common.{◌≡◌, ◌∙◌, ◌<◌, ◌/◌, ◌%◌, ◌*◌, ◌+◌, ℕ, Bool, true, false, not, refl, sym, ap, subst, arith, List, [], ◌∷◌, ◌++◌, Option, Some, None, eq-eqb, lt-ltb}
use Rattle.std.specs.List.{list_all}
use Rattle.std.proofs.lemmas.Bool.{and_parts, eqb-true}
use Rattle.std.proofs.lemmas.List.Folds.{list_all-append}
use Rattle.std.proofs.lemmas.Str.{digit_value-digit_char}
use Rattle.rvmc_protocol.specs.declared.packets.texts.Behind.TheVariants.{Start, Byte}
use Rattle.rvmc_protocol.specs.Packets.Texts.{digit, escaped, expanded, is_sum, payload_in, sum_of, text_of, unescaped}
use Rattle.rvmc_protocol.specs.Packets.Frames.{is_text}

-- what holds of each of the four and of every other byte holds of all
module _ (P : ℕ → List ℕ → Type 0) (hash : P 35 (125 ∷ 3 ∷ [])) (dollar : P 36 (125 ∷ 4 ∷ [])) (star : P 42 (125 ∷ 10 ∷ []))
    (brace : P 125 (125 ∷ 93 ∷ []))
    (plain : (byte : ℕ) → (byte == 35) ≡ false → (byte == 36) ≡ false → (byte == 42) ≡ false → (byte == 125) ≡ false → P byte (byte ∷ []))
  where
    each : (byte : ℕ) → P byte (escaped byte)
    unfolding escaped
    each byte = go (byte == 35) (byte == 36) (byte == 42) (byte == 125) refl refl refl refl
      where
        this : (n : ℕ) → byte ≡ n → P n (125 ∷ bit_xor n 32 ∷ []) → P byte (125 ∷ bit_xor byte 32 ∷ [])
        this n e h = subst (λ (m : ℕ). P m (125 ∷ bit_xor m 32 ∷ [])) (sym e) h

        go : (a b c d : Bool) → (byte == 35) ≡ a → (byte == 36) ≡ b → (byte == 42) ≡ c → (byte == 125) ≡ d
            → P byte (if a || b || c || d then 125 ∷ bit_xor byte 32 ∷ [] else byte ∷ [])
        go true b c d ea eb ec ed = this 35 (eqb-true byte 35 ea) hash
        go false true c d ea eb ec ed = this 36 (eqb-true byte 36 eb) dollar
        go false false true d ea eb ec ed = this 42 (eqb-true byte 42 ec) star
        go false false false true ea eb ec ed = this 125 (eqb-true byte 125 ed) brace
        go false false false false ea eb ec ed = plain byte ea eb ec ed

-- ---- the marks

byte_is_text : (byte : ℕ) → is_text (escaped byte) ≡ true
byte_is_text = each (λ byte text. is_text text ≡ true) refl refl refl refl
    (λ byte ea eb ec ed. simp (ea, eb) refl)

pub text_is_text : (payload : List ℕ) → is_text (text_of payload) ≡ true
text_is_text [] = refl
text_is_text (byte ∷ payload) =
    list_all-append (λ b. not (b == 36 || b == 35)) (escaped byte) (text_of payload)
    ∙ simp (byte_is_text byte, text_is_text payload) refl

-- ---- short runs: a text that is written has none

abbrev no_star : List ℕ → Bool
no_star text = list_all (λ byte. not (byte == 42)) text

byte_no_star : (byte : ℕ) → no_star (escaped byte) ≡ true
byte_no_star = each (λ byte text. no_star text ≡ true) refl refl refl refl
    (λ byte ea eb ec ed. simp ec refl)

text_no_star : (payload : List ℕ) → no_star (text_of payload) ≡ true
text_no_star [] = refl
text_no_star (byte ∷ payload) =
    list_all-append (λ b. not (b == 42)) (escaped byte) (text_of payload)
    ∙ simp (byte_no_star byte, text_no_star payload) refl

not_true : (b : Bool) → not b ≡ true → b ≡ false
not_true true e = sym e
not_true false e = refl

stays_behind : (last : ℕ) (text : List ℕ) → no_star text ≡ true → expanded (Byte last) text ≡ Some text
stays_behind last [] h = refl
stays_behind last (byte ∷ text) h =
    let parts = and_parts (not (byte == 42)) (no_star text) h in
    let other = not_true (byte == 42) parts.0 in
    rw other (ap (option_map (λ (more : List ℕ). byte ∷ more)) (stays_behind byte text parts.1))

stays : (text : List ℕ) → no_star text ≡ true → expanded Start text ≡ Some text
stays [] h = refl
stays (byte ∷ text) h =
    let parts = and_parts (not (byte == 42)) (no_star text) h in
    let other = not_true (byte == 42) parts.0 in
    rw other (ap (option_map (λ (more : List ℕ). byte ∷ more)) (stays_behind byte text parts.1))

-- ---- escapes

abbrev Undoes : ℕ → List ℕ → Type 0
Undoes byte text = (rest : List ℕ) → unescaped false (text ++ rest) ≡ option_map (λ more. byte ∷ more) (unescaped false rest)

twice : (byte : ℕ) (o : Option (List ℕ))
    → option_map (λ (more : List ℕ). more) (option_map (λ (more : List ℕ). byte ∷ more) o) ≡ option_map (λ (more : List ℕ). byte ∷ more) o
twice byte None = refl
twice byte (Some more) = refl

undoes : (byte : ℕ) → Undoes byte (escaped byte)
undoes = each Undoes (λ rest. twice 35 (unescaped false rest)) (λ rest. twice 36 (unescaped false rest))
    (λ rest. twice 42 (unescaped false rest)) (λ rest. twice 125 (unescaped false rest))
    (λ byte ea eb ec ed rest. simp ed refl)

undone : (payload : List ℕ) → unescaped false (text_of payload) ≡ Some payload
undone [] = refl
undone (byte ∷ payload) =
    undoes byte (text_of payload) ∙ ap (option_map (λ (more : List ℕ). byte ∷ more)) (undone payload)

pub carried : (payload : List ℕ) → payload_in (text_of payload) ≡ Some payload
unfolding payload_in
carried payload = rw (stays (text_of payload) (text_no_star payload)) (undone payload)

-- ---- the sum

a_digit : (n : ℕ) → n < 16 → nat_lt n 16 ≡ true
a_digit n h = lt-ltb n 16 h

pub summed : (text : List ℕ) → is_sum text (digit (sum_of text / 16)) (digit (sum_of text % 16)) ≡ true
summed text =
    let n = sum_of text in
    let small : n / 16 < 16 = omega arith in
    let low : n % 16 < 16 = omega arith in
    let high_value = digit_value-digit_char (n / 16) (omega arith) in
    let low_value = digit_value-digit_char (n % 16) (omega arith) in
    let whole : n / 16 * 16 + n % 16 ≡ n = omega arith in
    rw (high_value, a_digit (n / 16) small, low_value, a_digit (n % 16) low, whole) (eq-eqb n n refl)
