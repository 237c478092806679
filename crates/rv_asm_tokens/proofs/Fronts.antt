-- What stands at a byte: what the scanner finds there against what is spelled there.
use Rattle.std.proofs.Common.{◌≡◌, ℕ, ℤ, pos, neg_ℤ, ◌+◌, ◌^◌, ◌<◌, ◌≤◌, Bool, true, false, cond, not, ◌&&◌, List, [], ◌∷◌, ◌++◌, length, take, drop, codes, Option, Some, None, Result, Ok, Err, refl, sym, ap, subst, ◌∙◌, arith, add-one, nat_le, eqb-true, leb-true, le-leb, take_at, append_assoc, length-append, zero-add}
use Rattle.std.specs.Prelude.{◌==◌, if◌then◌else◌}
use Rattle.std.proofs.lemmas.List.Elements.{All-cons, All-head, All-nil, All-tail}
use Rattle.std.proofs.Math.Numerals.{one-add}
use Rattle.rv_asm_tokens.specs.declared.fault.AsmFaultKind.{AsmFaultKind}
use Rattle.rv_asm_tokens.specs.declared.fault.AsmFaultKind.TheVariants as kinds
use Rattle.rv_asm_tokens.specs.Digits.{is_digit, magnitude}
use Rattle.rv_asm_tokens.specs.Escapes.{quoted_length}
use Rattle.rv_asm_tokens.specs.Fault.{if_some}
use Rattle.rv_asm_tokens.specs.Lexeme.{Lexeme, name, number, text, comma, colon, opens, closes, plus}
use Rattle.rv_asm_tokens.specs.Grammar.{AreOneOf, BeginsApart, EndsBefore, IsMagnitude, IsName, IsText, Spells, is_one_of, name_characters, plain, negative}
use Rattle.rv_asm_tokens.specs.Scan.{Front, front_at, is_blank, is_name_byte, name_front, negative_front, number_front, piece, sign, sign_front, text_front, word_length}
use Rattle.rv_asm_tokens.proofs.Characters.{digit_class, name_byte_apart, name_class}
use Rattle.rv_asm_tokens.proofs.Numerals.{AllNamed, BeginsWithDigit, magnitude_back, magnitude_is, magnitude_named}
use Rattle.rv_asm_tokens.proofs.Quoting.{Quoted, quoted_back, quoted_is}

-- ---- words

named_all : (bs : List ℕ) → AllNamed bs → AreOneOf name_characters bs
named_all [] h = All-nil (λ b. is_one_of name_characters b ≡ true)
named_all (b ∷ bs) h = All-cons (λ b. is_one_of name_characters b ≡ true) b bs (name_class b ∙ h.0) (named_all bs h.1)

all_named : (bs : List ℕ) → AreOneOf name_characters bs → AllNamed bs
all_named [] h = tt
all_named (b ∷ bs) h = (sym (name_class b) ∙ All-head (λ b. is_one_of name_characters b ≡ true) b bs h, all_named bs (All-tail (λ b. is_one_of name_characters b ≡ true) b bs h))

-- a word is as long as can be
word_ends : (bs : List ℕ) → AllNamed (take (word_length bs) bs) × BeginsApart (drop (word_length bs) bs)
word_ends [] = (tt, tt)
word_ends (b ∷ bs) = go (is_name_byte b) refl (word_ends bs)
  where
    go : (t : Bool) → is_name_byte b ≡ t → AllNamed (take (word_length bs) bs) × BeginsApart (drop (word_length bs) bs)
        → AllNamed (take (cond t (1 + word_length bs) 0) (b ∷ bs)) × BeginsApart (drop (cond t (1 + word_length bs) 0) (b ∷ bs))
    go true is h = rw (one-add) ((is, h.0), h.1)
    go false is h = (tt, name_class b ∙ is)

word_back : (w rest : List ℕ) → AllNamed w → BeginsApart rest → word_length (w ++ rest) ≡ length w
word_back [] [] h apart = refl
word_back [] (b ∷ bs) h apart = rw (sym (name_class b) ∙ apart) refl
word_back (b ∷ bs) rest h apart = rw (h.0, word_back bs rest h.1 apart) (one-add (length bs))

-- ---- what is found is spelled

abbrev pub FrontsOf : ℕ → List ℕ → Option Lexeme → ℕ → Type 0
FrontsOf b after None k = (is_blank b ≡ true) × (k ≡ 0)
FrontsOf b after (Some t) k = Spells t (b ∷ take k after) × EndsBefore t (drop k after)

abbrev pub FrontsAs : ℕ → List ℕ → Front → Type 0
FrontsAs b after None = b ≡ 35
FrontsAs b after (Some f) = FrontsOf b after f.0 f.1

abbrev pub found : Front → Result Front AsmFaultKind
found f = Ok f

found_is : (e f : Front) → found e ≡ found f → e ≡ f
found_is e f h = cc

fronts : (b : ℕ) (after : List ℕ) (e f : Front) → FrontsAs b after e → found e ≡ found f → FrontsAs b after f
fronts b after e f h same = subst (FrontsAs b after) (found_is e f same) h

text_right : (b : ℕ) (after : List ℕ) (f : Front) → b ≡ 34 → text_front after ≡ Ok f → FrontsAs b after f
text_right b after f is h = go (quoted_length false 0 after) refl h
  where
    go : (o : Option ℕ) → quoted_length false 0 after ≡ o → if_some o (Err kinds.Token) (λ n. found (piece (text (take n after)) (n + 1))) ≡ Ok f → FrontsAs b after f
    go None q h = absurd cc
    go (Some n) q h =
        let there : Quoted false 0 n after = quoted_is false after 0 n q in
        let same : n ≡ there.many = omega (arith, there.sum) in
        let closed : take (n + 1) after ≡ take n after ++ 34 ∷ [] = rw (same, add-one) there.closed in
        let spelled : b ∷ take (n + 1) after ≡ codes "\"" ++ take n after ++ codes "\"" = rw (is, closed) refl in
        fronts b after (piece (text (take n after)) (n + 1)) f ((spelled, (there.bytes, subst (λ k. IsText (take k after) there.bytes) (sym same) there.text)), tt) h

negative_right : (b : ℕ) (after : List ℕ) (f : Front) → b ≡ 45 → negative_front after ≡ Ok f → FrontsAs b after f
negative_right b after f is h = go (magnitude (take (word_length after) after)) refl h
  where
    fit : (n : ℕ) → magnitude (take (word_length after) after) ≡ Some n → (t : Bool) → nat_le n (2 ^ 63) ≡ t → (if t then found (piece (number (neg_ℤ (pos n))) (word_length after)) else Err kinds.Token) ≡ Ok f → FrontsAs b after f
    fit n m true le h = fronts b after (piece (number (neg_ℤ (pos n))) (word_length after)) f (negative (take (word_length after) after) n (ap (λ k. k ∷ take (word_length after) after) is) (magnitude_is (take (word_length after) after) n m).0 (leb-true n (2 ^ 63) le) refl, (word_ends after).1) h
    fit n m false le h = absurd cc

    go : (o : Option ℕ) → magnitude (take (word_length after) after) ≡ o → if_some o (Err kinds.Token) (λ n. if nat_le n (2 ^ 63) then found (piece (number (neg_ℤ (pos n))) (word_length after)) else Err kinds.Token) ≡ Ok f → FrontsAs b after f
    go None m h = absurd cc
    go (Some n) m h = fit n m (nat_le n (2 ^ 63)) refl h

number_right : (b : ℕ) (after : List ℕ) (f : Front) → number_front (b ∷ after) after ≡ Ok f → FrontsAs b after f
number_right b after f h = go (magnitude (take (word_length after + 1) (b ∷ after))) refl h
  where
    go : (o : Option ℕ) → magnitude (take (word_length after + 1) (b ∷ after)) ≡ o → if_some o (Err kinds.Token) (λ n. found (piece (number (pos n)) (word_length after))) ≡ Ok f → FrontsAs b after f
    go None m h = absurd cc
    go (Some n) m h =
        let one : take (word_length after + 1) (b ∷ after) ≡ b ∷ take (word_length after) after = rw add-one refl in
        let there : magnitude (b ∷ take (word_length after) after) ≡ Some n = ap magnitude (sym one) ∙ m in
        let is = magnitude_is (b ∷ take (word_length after) after) n there in
        fronts b after (piece (number (pos n)) (word_length after)) f (plain n is.0 is.1 refl, (word_ends after).1) h

name_right : (b : ℕ) (after : List ℕ) (f : Front) → is_digit b ≡ false → is_name_byte b ≡ true → found (name_front (b ∷ after) after) ≡ Ok f → FrontsAs b after f
name_right b after f digit named h =
    let ends = word_ends after in
    let all : AllNamed (b ∷ take (word_length after) after) = (named, ends.0) in
    let is : take (word_length after + 1) (b ∷ after) ≡ b ∷ take (word_length after) after = rw add-one refl in
    fronts b after (piece (name (take (word_length after + 1) (b ∷ after))) (word_length after)) f ((sym is, rw is (digit_class b ∙ digit, named_all (b ∷ take (word_length after) after) all)), ends.1) h

sign_spells : (b : ℕ) (t : Lexeme) → sign b ≡ Some t → Spells t (b ∷ []) × ((rest : List ℕ) → EndsBefore t rest)
sign_spells b t h = go (b == 44) refl (b == 58) refl (b == 40) refl (b == 41) refl (b == 43) refl h
  where
    is_spelled : (s : Lexeme) → Spells s (b ∷ []) × ((rest : List ℕ) → EndsBefore s rest) → (let o : Option Lexeme = Some s in o ≡ Some t) → Spells t (b ∷ []) × ((rest : List ℕ) → EndsBefore t rest)
    is_spelled s there same =
        let is : s ≡ t = cc in
        subst (λ (l : Lexeme). Spells l (b ∷ []) × ((rest : List ℕ) → EndsBefore l rest)) is there

    alone : (c : ℕ) → (b == c) ≡ true → b ∷ [] ≡ c ∷ []
    alone c is = ap (λ k. k ∷ []) (eqb-true b c is)

    go : (x1 : Bool) → (b == 44) ≡ x1 → (x2 : Bool) → (b == 58) ≡ x2 → (x3 : Bool) → (b == 40) ≡ x3 → (x4 : Bool) → (b == 41) ≡ x4 → (x5 : Bool) → (b == 43) ≡ x5
        → (if x1 then Some comma else (if x2 then Some colon else (if x3 then Some opens else (if x4 then Some closes else (if x5 then Some plus else None))))) ≡ Some t → Spells t (b ∷ []) × ((rest : List ℕ) → EndsBefore t rest)
    go true e x2 e2 x3 e3 x4 e4 x5 e5 h = is_spelled comma (alone 44 e, λ rest. tt) h
    go false e true e2 x3 e3 x4 e4 x5 e5 h = is_spelled colon (alone 58 e2, λ rest. tt) h
    go false e false e2 true e3 x4 e4 x5 e5 h = is_spelled opens (alone 40 e3, λ rest. tt) h
    go false e false e2 false e3 true e4 x5 e5 h = is_spelled closes (alone 41 e4, λ rest. tt) h
    go false e false e2 false e3 false e4 true e5 h = is_spelled plus (alone 43 e5, λ rest. tt) h
    go false e false e2 false e3 false e4 false e5 h = absurd cc

sign_right : (b : ℕ) (after : List ℕ) (f : Front) → sign_front b ≡ Ok f → FrontsAs b after f
sign_right b after f h = go (sign b) refl h
  where
    go : (o : Option Lexeme) → sign b ≡ o → if_some o (Err kinds.Token) (λ t. found (piece t 0)) ≡ Ok f → FrontsAs b after f
    go None is h = absurd cc
    go (Some t) is h =
        let there = sign_spells b t is in
        fronts b after (piece t 0) f (there.0, there.1 after) h

pub front_right : (b : ℕ) (after : List ℕ) (f : Front) → front_at b (b ∷ after) after ≡ Ok f → FrontsAs b after f
unfolding front_at
front_right b after f h = go (is_blank b) refl (b == 35) refl (b == 34) refl (b == 45) refl (is_digit b) refl (is_name_byte b) refl h
  where
    go : (blank : Bool) → is_blank b ≡ blank → (comment : Bool) → (b == 35) ≡ comment → (quoted : Bool) → (b == 34) ≡ quoted → (minus : Bool) → (b == 45) ≡ minus
        → (digit : Bool) → is_digit b ≡ digit → (named : Bool) → is_name_byte b ≡ named
        → (if blank then found (Some (None, 0)) else (if comment then found None else (if quoted then text_front after else (if minus then negative_front after
        else (if digit then number_front (b ∷ after) after else (if named then found (name_front (b ∷ after) after) else sign_front b)))))) ≡ Ok f → FrontsAs b after f
    go true e c ce q qe m me d de n ne h = fronts b after (Some (None, 0)) f (e, refl) h
    go false e true c q qe m me d de n ne h = fronts b after None f (eqb-true b 35 c) h
    go false e false c true q m me d de n ne h = text_right b after f (eqb-true b 34 q) h
    go false e false c false q true m d de n ne h = negative_right b after f (eqb-true b 45 m) h
    go false e false c false q false m true d n ne h = number_right b after f h
    go false e false c false q false m false d true n h = name_right b after f d n h
    go false e false c false q false m false d false n h = sign_right b after f h

-- ---- what is spelled is found

-- a spelling begins with a byte at which its token is found, whatever stands behind
pub record Found (t : Lexeme) (spelled rest : List ℕ) : Type 0 where
  pub first : ℕ
  pub more : List ℕ
  pub is : spelled ≡ first ∷ more
  pub front : front_at first (first ∷ more ++ rest) (more ++ rest) ≡ Ok (piece t (length more))

both_apart : (b : ℕ) → is_name_byte b ≡ true → (is_blank b ≡ false) × ((b == 35) ≡ false) × ((b == 34) ≡ false) × ((b == 45) ≡ false)
both_apart b named = go (is_blank b) (b == 35) (b == 34) (b == 45) (name_byte_apart b named)
  where
    go : (x y z u : Bool) → (not x && (not y && (not z && not u))) ≡ true → (x ≡ false) × (y ≡ false) × (z ≡ false) × (u ≡ false)
    go false false false false h = (refl, refl, refl, refl)
    go true y z u h = absurd cc
    go false true z u h = absurd cc
    go false false true u h = absurd cc
    go false false false true h = absurd cc

word_here : (b : ℕ) (bs rest : List ℕ) → AllNamed bs → BeginsApart rest → take (word_length (bs ++ rest) + 1) (b ∷ bs ++ rest) ≡ b ∷ bs
word_here b bs rest named apart = rw (word_back bs rest named apart, add-one) (ap (λ (xs : List ℕ). b ∷ xs) (take_at bs rest (length bs) refl))

name_found : (w spelled rest : List ℕ) → spelled ≡ w → IsName w → BeginsApart rest → Found (name w) spelled rest
unfolding front_at
name_found [] spelled rest is named apart = absurd named
name_found (b ∷ bs) spelled rest is named apart =
    let all = all_named (b ∷ bs) named.1 in
    let tests = both_apart b all.0 in
    let digit : is_digit b ≡ false = sym (digit_class b) ∙ named.0 in
    record {
      first = b;
      more = bs;
      is = is;
      front = rw (tests.0, tests.1, tests.2, tests.3, all.0, digit, word_here b bs rest all.1 apart, word_back bs rest all.1 apart) refl;
    }

number_found : (word rest : List ℕ) (n : ℕ) → IsMagnitude word n → n < 2 ^ 64 → BeginsApart rest → AllNamed word → BeginsWithDigit word → Found (number (pos n)) word rest
unfolding front_at
number_found [] rest n m lt apart named digit = absurd digit
number_found (b ∷ bs) rest n m lt apart named digit =
    let tests = both_apart b named.0 in
    record {
      first = b;
      more = bs;
      is = refl;
      front = rw (tests.0, tests.1, tests.2, tests.3, digit, word_here b bs rest named.1 apart, magnitude_back (b ∷ bs) n m lt, word_back bs rest named.1 apart) refl;
    }

negative_found : (word rest : List ℕ) (n : ℕ) → IsMagnitude word n → n ≤ 2 ^ 63 → BeginsApart rest → Found (number (neg_ℤ (pos n))) (45 ∷ word) rest
unfolding front_at
negative_found word rest n m le apart =
    let named = magnitude_named word n m in
    let here : take (word_length (word ++ rest)) (word ++ rest) ≡ word = rw (word_back word rest named.0 apart) (take_at word rest (length word) refl) in
    record {
      first = 45;
      more = word;
      is = refl;
      front = rw (here, magnitude_back word n m (omega (arith, le)), le-leb n (2 ^ 63) le, word_back word rest named.0 apart) refl;
    }

text_found : (raw bytes rest : List ℕ) → IsText raw bytes → Found (text raw) (codes "\"" ++ raw ++ codes "\"") rest
unfolding front_at
text_found raw bytes rest is =
    let after : (raw ++ 34 ∷ []) ++ rest ≡ raw ++ 34 ∷ rest = append_assoc raw (34 ∷ []) rest in
    let quoted : quoted_length false 0 (raw ++ 34 ∷ rest) ≡ Some (length raw) = quoted_back bytes raw rest 0 is ∙ ap Some (zero-add (length raw)) in
    record {
      first = 34;
      more = raw ++ 34 ∷ [];
      is = refl;
      front = rw (after, quoted, take_at raw (34 ∷ rest) (length raw) refl, length-append raw (34 ∷ [])) refl;
    }

pub piece_found : (t : Lexeme) (spelled rest : List ℕ) → Spells t spelled → EndsBefore t rest → Found t spelled rest
unfolding front_at
piece_found (name w) spelled rest h apart = name_found w spelled rest h.0 h.1 apart
piece_found (number z) spelled rest (plain n m lt is) apart =
    let named = magnitude_named spelled n m in
    subst (λ (l : ℤ). Found (number l) spelled rest) (sym is) (number_found spelled rest n m lt apart named.0 named.1)
piece_found (number z) spelled rest (negative word n same m le is) apart =
    subst (λ (l : ℤ). Found (number l) spelled rest) (sym is) (subst (λ (w : List ℕ). Found (number (neg_ℤ (pos n))) w rest) (sym same) (negative_found word rest n m le apart))
piece_found (text raw) spelled rest h apart = subst (λ (w : List ℕ). Found (text raw) w rest) (sym h.0) (text_found raw h.1.0 rest h.1.1)
piece_found comma spelled rest h apart = record { first = 44; more = []; is = h; front = refl }
piece_found colon spelled rest h apart = record { first = 58; more = []; is = h; front = refl }
piece_found opens spelled rest h apart = record { first = 40; more = []; is = h; front = refl }
piece_found closes spelled rest h apart = record { first = 41; more = []; is = h; front = refl }
piece_found plus spelled rest h apart = record { first = 43; more = []; is = h; front = refl }
