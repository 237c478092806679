-- The names of a source are those that symbols may have, but for their length.
use Rattle.std.proofs.Common.{◌≡◌, ℕ, zero, suc, ◌+◌, List, [], ◌∷◌, length, take, Option, Some, None, Result, Ok, Err, Bool, true, false, refl, subst, arith, le-leb}
use Rattle.std.proofs.lemmas.List.Elements.{All-append, All-cons, All-nil}
use Rattle.std.specs.Prelude.{All, ◌&&◌, ◌^◌, ◌==◌, nat_le, neg_ℤ, pos, if◌then◌else◌}
use Rattle.std.specs.List.{list_all, prefix_len}
use Rattle.rv_image_types.specs.Names.{is_symbol_name}
use Rattle.rv_asm_tokens.specs.declared.fault.AsmFaultKind.{AsmFaultKind}
use Rattle.rv_asm_tokens.specs.declared.fault.AsmFaultKind.TheVariants as kinds
use Rattle.rv_asm_tokens.specs.Digits.{is_digit, magnitude}
use Rattle.rv_asm_tokens.specs.Escapes.{quoted_length}
use Rattle.rv_asm_tokens.specs.Fault.{if_some}
use Rattle.rv_asm_tokens.specs.Lexeme.{Lexeme, number, text, comma, colon, opens, closes, plus}
use Rattle.rv_asm_tokens.specs.Scan.{Front, front_at, is_blank, is_name_byte, name_front, negative_front, number_front, piece, sign_front, text_front, tokens_from, with_token, word_length}
use Rattle.rv_asm.specs.Made.{IsShortEnough, NamesFit}
use Rattle.rv_asm.proofs.Right.{bind_ok, ok, ok_is}

-- ---- one name

word_named : (bs : List ℕ) → list_all is_name_byte (take (prefix_len is_name_byte bs) bs) ≡ true
word_named [] = refl
word_named (b ∷ bs) = go (is_name_byte b) refl (word_named bs)
  where
    go : (c : Bool) → is_name_byte b ≡ c → list_all is_name_byte (take (prefix_len is_name_byte bs) bs) ≡ true → list_all is_name_byte (take (if c then 1 + prefix_len is_name_byte bs else 0) (b ∷ bs)) ≡ true
    go true e h = let next : 1 + prefix_len is_name_byte bs ≡ suc (prefix_len is_name_byte bs) = omega arith in rw (next, e, h) refl
    go false e h = refl

and_true : (c : Bool) → (c && true) ≡ c
and_true true = refl
and_true false = refl

-- a byte of names that is no digit, with bytes of names behind it
name_fits : (b : ℕ) (bs : List ℕ) → is_name_byte b ≡ true → is_digit b ≡ false → list_all is_name_byte bs ≡ true → is_symbol_name (b ∷ bs) ≡ nat_le (length (b ∷ bs)) 31
name_fits b bs named digit all =
    let some : nat_le 1 (length (b ∷ bs)) ≡ true = le-leb 1 (length (b ∷ bs)) (omega arith) in
    rw (some, named, digit, all) (and_true (nat_le (length (b ∷ bs)) 31))

-- ---- what stands at a byte

abbrev FrontFits : Front → Type 0
FrontFits None = Unit {0}
FrontFits (Some (None, more)) = Unit {0}
FrontFits (Some (Some t, more)) = IsShortEnough t

abbrev IfFits : Result Front AsmFaultKind → Type 0
IfFits (Ok f) = FrontFits f
IfFits (Err e) = Unit {0}

number_fits : (here after : List ℕ) → IfFits (number_front here after)
number_fits here after = go (magnitude (take (word_length after + 1) here))
  where
    go : (m : Option ℕ) → IfFits (if_some m (Err kinds.Token) (λ n. Ok (piece (number (pos n)) (word_length after))))
    go None = tt
    go (Some n) = tt

negative_fits : (after : List ℕ) → IfFits (negative_front after)
negative_fits after = go (magnitude (take (word_length after) after))
  where
    small : (b : Bool) (n : ℕ) → IfFits (if b then Ok (piece (number (neg_ℤ (pos n))) (word_length after)) else Err kinds.Token)
    small true n = tt
    small false n = tt

    go : (m : Option ℕ) → IfFits (if_some m (Err kinds.Token) (λ n. if nat_le n (2 ^ 63) then Ok (piece (number (neg_ℤ (pos n))) (word_length after)) else Err kinds.Token))
    go None = tt
    go (Some n) = small (nat_le n (2 ^ 63)) n

text_fits : (after : List ℕ) → IfFits (text_front after)
text_fits after = go (quoted_length false 0 after)
  where
    go : (m : Option ℕ) → IfFits (if_some m (Err kinds.Token) (λ n. Ok (piece (text (take n after)) (n + 1))))
    go None = tt
    go (Some n) = tt

sign_fits : (b : ℕ) → IfFits (sign_front b)
sign_fits b = go (b == 44) (b == 58) (b == 40) (b == 41) (b == 43)
  where
    go : (c d e f g : Bool) → IfFits (if_some (if c then Some comma else (if d then Some colon else (if e then Some opens else (if f then Some closes else (if g then Some plus else None))))) (Err kinds.Token) (λ t. Ok (piece t 0)))
    go true d e f g = tt
    go false true e f g = tt
    go false false true f g = tt
    go false false false true g = tt
    go false false false false true = tt
    go false false false false false = tt

front_fits : (b : ℕ) (after : List ℕ) → IfFits (front_at b (b ∷ after) after)
unfolding front_at
front_fits b after = go (is_blank b) (b == 35) (b == 34) (b == 45) (is_digit b) (is_name_byte b) refl refl
  where
    here : List ℕ
    here = b ∷ after

    go : (blank hash quote minus digit named : Bool) → is_digit b ≡ digit → is_name_byte b ≡ named
        → IfFits (if blank then Ok (Some (None, 0)) else (if hash then Ok None else (if quote then text_front after else (if minus then negative_front after else (if digit then number_front here after else (if named then Ok (name_front here after) else sign_front b))))))
    go true hash quote minus digit named d n = tt
    go false true quote minus digit named d n = tt
    go false false true minus digit named d n = text_fits after
    go false false false true digit named d n = negative_fits after
    go false false false false true named d n = number_fits here after
    go false false false false false true d n =
        let next : word_length after + 1 ≡ suc (word_length after) = omega arith in
        rw next (name_fits b (take (word_length after) after) n d (word_named after))
    go false false false false false false d n = sign_fits b

-- ---- a line

pushed_fits : (done : List Lexeme) (t : Option Lexeme) (more : ℕ) → FrontFits (Some (t, more)) → All IsShortEnough done → All IsShortEnough (with_token done t)
pushed_fits done None more h all = all
pushed_fits done (Some t) more h all = All-append IsShortEnough done (t ∷ []) all (All-cons IsShortEnough t [] h (All-nil IsShortEnough))

line_fits : (inside : ℕ) (done : List Lexeme) (bs : List ℕ) (ts : List Lexeme) → All IsShortEnough done → tokens_from inside done bs ≡ Ok ts → All IsShortEnough ts
unfolding tokens_from
line_fits inside done [] ts all h = subst (All IsShortEnough) (ok_is done ts h) all
line_fits (suc k) done (b ∷ bs) ts all h = line_fits k done bs ts all h
line_fits zero done (b ∷ bs) ts all h =
    let a = bind_ok (front_at b (b ∷ bs) bs) (λ o. if_some o (ok done) (λ f. tokens_from f.1 (with_token done f.0) bs)) ts h in
    go a.value (subst IfFits a.first (front_fits b bs)) (λ more t fits. line_fits more t bs ts fits) a.second
  where
    go : (o : Front) → FrontFits o → ((more : ℕ) (t : List Lexeme) → All IsShortEnough t → tokens_from more t bs ≡ Ok ts → All IsShortEnough ts)
        → if_some o (ok done) (λ f. tokens_from f.1 (with_token done f.0) bs) ≡ Ok ts → All IsShortEnough ts
    go None fits again h = subst (All IsShortEnough) (ok_is done ts h) all
    go (Some (t, more)) fits again h = again more (with_token done t) (pushed_fits done t more fits all) h

pub names_fit : NamesFit
names_fit line ts h = line_fits 0 [] line ts (All-nil IsShortEnough) h
