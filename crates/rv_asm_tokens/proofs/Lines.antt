-- Lines: the tokens that the scanner gives against those that spell them.
use Rattle.std.proofs.Common.{◌≡◌, ℕ, zero, suc, pos, neg_ℤ, ◌+◌, ◌^◌, Bool, true, false, nat_le, List, [], ◌∷◌, ◌++◌, length, take, drop, Option, Some, None, Result, Ok, Err, refl, sym, ap, subst, ◌∙◌, append_assoc, append-nil, take-append-drop, drop_at}
use Rattle.std.specs.Prelude.{◌==◌, if◌then◌else◌}
use Rattle.std.proofs.lemmas.List.Elements.{All-cons, All-head, All-nil, All-tail}
use Rattle.rv_asm_tokens.specs.declared.fault.AsmFaultKind.{AsmFaultKind}
use Rattle.rv_asm_tokens.specs.declared.fault.AsmFaultKind.TheVariants as kinds
use Rattle.rv_asm_tokens.specs.Digits.{is_digit, magnitude}
use Rattle.rv_asm_tokens.specs.Escapes.{quoted_length}
use Rattle.rv_asm_tokens.specs.Fault.{◌>>=◌, if_some}
use Rattle.rv_asm_tokens.specs.Lexeme.{Lexeme, number, text}
use Rattle.rv_asm_tokens.specs.Grammar.{AreOneOf, IsComment, IsLine, TokensAreSpelled, blanks, is_one_of}
use Rattle.rv_asm_tokens.specs.Scan.{Front, front_at, is_blank, is_name_byte, name_front, negative_front, number_front, piece, sign, sign_front, text_front, tokens_from, tokens_of, with_token, word_length}
use Rattle.rv_asm_tokens.proofs.Characters.{blank_class}
use Rattle.rv_asm_tokens.proofs.Fronts.{found, Found, FrontsOf, front_right, piece_found}
use Rattle.rv_asm_tokens.proofs.Steps.{tokens_from-inside, token_first}

abbrev Tokens : Type 0
Tokens = Result (List Lexeme) AsmFaultKind

abbrev all : List Lexeme → Tokens
all ts = Ok ts

all_is : (ts us : List Lexeme) → all ts ≡ all us → ts ≡ us
all_is ts us h = cc

-- ---- what is read is spelled

abbrev IsBlank : ℕ → Type 0
IsBlank b = is_one_of blanks b ≡ true

blank_before : (b : ℕ) (line : List ℕ) (ts : List Lexeme) → is_blank b ≡ true → IsLine line ts → IsLine (b ∷ line) ts
blank_before b line [] blank (before, rest, is, all_blank, comment) = (b ∷ before, rest, ap (λ (xs : List ℕ). b ∷ xs) is, All-cons IsBlank b before (blank_class b ∙ blank) all_blank, comment)
blank_before b line (t ∷ ts) blank (before, spelled, rest, is, all_blank, spells, ends, more) = (b ∷ before, spelled, rest, ap (λ (xs : List ℕ). b ∷ xs) is, All-cons IsBlank b before (blank_class b ∙ blank) all_blank, spells, ends, more)

no_blank : AreOneOf blanks []
no_blank = All-nil IsBlank

nothing_left : (k : ℕ) → IsLine (drop k []) []
nothing_left zero = ([], [], refl, no_blank, tt)
nothing_left (suc k) = ([], [], refl, no_blank, tt)

-- the tokens behind those that are done are spelled
pub record Spelled (k : ℕ) (done all : List Lexeme) (bs : List ℕ) : Type 0 where
  pub others : List Lexeme
  pub sum : all ≡ done ++ others
  pub line : IsLine (drop k bs) others

line_right : (k : ℕ) (done whole : List Lexeme) (bs : List ℕ) → tokens_from k done bs ≡ Ok whole → Spelled k done whole bs
unfolding tokens_from
line_right k done whole [] h =
    record { others = []; sum = sym (all_is done whole h) ∙ sym (append-nil done); line = nothing_left k }
line_right (suc k) done whole (b ∷ bs) h =
    let s = line_right k done whole bs h in
    record { others = s.others; sum = s.sum; line = s.line }
line_right zero done whole (b ∷ bs) h = go (front_at b (b ∷ bs) bs) refl (λ k with. line_right k with whole bs) h
  where
    go : (r : Result Front AsmFaultKind) → front_at b (b ∷ bs) bs ≡ r → ((k : ℕ) (with : List Lexeme) → tokens_from k with bs ≡ Ok whole → Spelled k with whole bs)
        → (r >>= λ o. if_some o (Ok done) (λ f. tokens_from f.1 (with_token done f.0) bs)) ≡ Ok whole → Spelled zero done whole (b ∷ bs)
    go (Err e) is again h = absurd cc
    go (Ok None) is again h = record { others = []; sum = sym (all_is done whole h) ∙ sym (append-nil done); line = ([], b ∷ bs, refl, no_blank, front_right b bs None is) }
    go (Ok (Some f)) is again h = found f.0 f.1 (front_right b bs (Some f) is) (again f.1 (with_token done f.0) h)
      where
        found : (o : Option Lexeme) (k : ℕ) → FrontsOf b bs o k → Spelled k (with_token done o) whole bs → Spelled zero done whole (b ∷ bs)
        found None k fronts s = record { others = s.others; sum = s.sum; line = blank_before b bs s.others fronts.0 (subst (λ j. IsLine (drop j bs) s.others) fronts.1 s.line) }
        found (Some t) k fronts s = record {
          others = t ∷ s.others;
          sum = s.sum ∙ append_assoc done (t ∷ []) s.others;
          line = ([], b ∷ take k bs, drop k bs, ap (λ (xs : List ℕ). b ∷ xs) (sym (take-append-drop k bs)), no_blank, fronts.0, fronts.1, s.line);
        }

-- ---- what is spelled is read

blanks_pass : (before rest : List ℕ) → AreOneOf blanks before → tokens_of (before ++ rest) ≡ tokens_of rest
unfolding tokens_from front_at
blanks_pass [] rest h = refl
blanks_pass (b ∷ bs) rest h =
    let blank : is_blank b ≡ true = sym (blank_class b) ∙ All-head IsBlank b bs h in
    rw blank (blanks_pass bs rest (All-tail IsBlank b bs h))

comment_ends : (rest : List ℕ) → IsComment rest → tokens_of rest ≡ Ok []
unfolding tokens_from front_at
comment_ends [] h = refl
comment_ends (b ∷ bs) h = rw h refl

piece_read : (t : Lexeme) (spelled rest : List ℕ) (ts : List Lexeme) → Found t spelled rest → tokens_of rest ≡ Ok ts → tokens_of (spelled ++ rest) ≡ Ok (t ∷ ts)
unfolding tokens_from
piece_read t spelled rest ts f h =
    let one : tokens_of (f.first ∷ f.more ++ rest) ≡ tokens_from (length f.more) (t ∷ []) (f.more ++ rest) = rw f.front refl in
    let two : tokens_from (length f.more) (t ∷ []) (f.more ++ rest) ≡ tokens_from 0 (t ∷ []) rest = tokens_from-inside (length f.more) (t ∷ []) (f.more ++ rest) ∙ ap (tokens_from 0 (t ∷ [])) (drop_at f.more rest (length f.more) refl) in
    ap (λ (w : List ℕ). tokens_of (w ++ rest)) f.is ∙ one ∙ two ∙ token_first t rest ∙ ap (λ (r : Tokens). r >>= λ us. all (t ∷ us)) h

line_back : (ts : List Lexeme) (line : List ℕ) → IsLine line ts → tokens_of line ≡ Ok ts
line_back [] line (before, rest, is, blank, comment) = ap tokens_of is ∙ blanks_pass before rest blank ∙ comment_ends rest comment
line_back (t ∷ ts) line (before, spelled, rest, is, blank, spells, ends, more) =
    ap tokens_of (is ∙ append_assoc before spelled rest) ∙ blanks_pass before (spelled ++ rest) blank ∙ piece_read t spelled rest ts (piece_found t spelled rest spells ends) (line_back ts rest more)

-- ---- faults

abbrev FaultIsToken : {A : Type 0} → Result A AsmFaultKind → Type 0
FaultIsToken (Ok x) = Unit {0}
FaultIsToken (Err e) = e ≡ kinds.Token

wanted : {A : Type 0} (o : Option A) (f : A → Result Front AsmFaultKind) → ((x : A) → FaultIsToken (f x)) → FaultIsToken (if_some o (Err kinds.Token) f)
wanted None f h = refl
wanted (Some x) f h = h x

minus_fault : (t : Bool) (f : Front) → FaultIsToken (if t then found f else Err kinds.Token)
minus_fault true f = tt
minus_fault false f = refl

front_fault : (b : ℕ) (after : List ℕ) → FaultIsToken (front_at b (b ∷ after) after)
unfolding front_at
front_fault b after = go (is_blank b) (b == 35) (b == 34) (b == 45) (is_digit b) (is_name_byte b)
  where
    go : (blank comment quoted minus digit named : Bool)
        → FaultIsToken (if blank then found (Some (None, 0)) else (if comment then found None else (if quoted then text_front after else (if minus then negative_front after
        else (if digit then number_front (b ∷ after) after else (if named then found (name_front (b ∷ after) after) else sign_front b))))))
    go true c q m d n = tt
    go false true q m d n = tt
    go false false true m d n = wanted (quoted_length false 0 after) (λ k. found (piece (text (take k after)) (k + 1))) (λ k. tt)
    go false false false true d n = wanted (magnitude (take (word_length after) after)) (λ k. if nat_le k (2 ^ 63) then found (piece (number (neg_ℤ (pos k))) (word_length after)) else Err kinds.Token)
        (λ k. minus_fault (nat_le k (2 ^ 63)) (piece (number (neg_ℤ (pos k))) (word_length after)))
    go false false false false true n = wanted (magnitude (take (word_length after + 1) (b ∷ after))) (λ k. found (piece (number (pos k)) (word_length after))) (λ k. tt)
    go false false false false false true = tt
    go false false false false false false = wanted (sign b) (λ t. found (piece t 0)) (λ t. tt)

tokens_fault : (k : ℕ) (done : List Lexeme) (bs : List ℕ) → FaultIsToken (tokens_from k done bs)
unfolding tokens_from
tokens_fault k done [] = tt
tokens_fault (suc k) done (b ∷ bs) = tokens_fault k done bs
tokens_fault zero done (b ∷ bs) = go (front_at b (b ∷ bs) bs) (front_fault b bs) (λ k with. tokens_fault k with bs)
  where
    go : (r : Result Front AsmFaultKind) → FaultIsToken r → ((k : ℕ) (with : List Lexeme) → FaultIsToken (tokens_from k with bs)) → FaultIsToken (r >>= λ o. if_some o (Ok done) (λ f. tokens_from f.1 (with_token done f.0) bs))
    go (Err e) h again = h
    go (Ok None) h again = tt
    go (Ok (Some f)) h again = again f.1 (with_token done f.0)

pub tokens_are_spelled : TokensAreSpelled
tokens_are_spelled = record {
  spelled = λ line ts. (read line ts, line_back ts line);
  one_reading = λ line ts us h k. all_is ts us (sym (line_back ts line h) ∙ line_back us line k);
  fault = λ line e h. subst FaultIsToken h (tokens_fault 0 [] line);
}
  where
    read : (line : List ℕ) (ts : List Lexeme) → tokens_of line ≡ Ok ts → IsLine line ts
    read line ts h =
        let s = line_right 0 [] ts line h in
        subst (IsLine line) (sym s.sum) s.line
