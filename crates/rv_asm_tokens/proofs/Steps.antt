-- One step of the loops that read a line's bytes.
use Rattle.std.proofs.Common.{◌≡◌, ℕ, zero, suc, ◌+◌, ◌≤◌, ◌<◌, Bool, true, List, [], ◌∷◌, ◌++◌, length, get_or, drop, Option, Some, None, Result, Ok, Err, refl, sym, ap, ◌∙◌, add-one, arith}
use Rattle.std.proofs.Math.Seq.{drop-cons}
use Rattle.std.proofs.lemmas.List.{append_assoc, append-nil, drop_all, drop-drop}
use Rattle.rv_asm_tokens.specs.declared.fault.AsmFaultKind.{AsmFaultKind}
use Rattle.rv_asm_tokens.specs.declared.escapes.QuoteStep.TheVariants.{End, Bad, Go}
use Rattle.rv_asm_tokens.specs.Fault.{◌>>=◌, if_some}
use Rattle.rv_asm_tokens.specs.Lexeme.{Lexeme}
use Rattle.rv_asm_tokens.specs.Escapes.{quote_step, quoted_length}
use Rattle.rv_asm_tokens.specs.Scan.{Front, front_at, is_blank, with_token, tokens_from, tokens_of}

-- from i on there is the byte at i, and the rest
pub cons_at : (xs : List ℕ) (i : ℕ) → i < length xs → drop i xs ≡ get_or xs i 0 ∷ drop (i + 1) xs
cons_at xs i lt = rw (add-one, drop-cons xs i 0) refl

-- ---- strings

pub quote_ends : (escaped : Bool) (i : ℕ) (xs : List ℕ) (whole : Option ℕ) → length xs ≤ i → quoted_length escaped i (drop i xs) ≡ whole → whole ≡ None
unfolding quoted_length
quote_ends escaped i xs whole le so_far =
    let one : quoted_length escaped i (drop i xs) ≡ None = rw (drop_all i xs le) refl in
    sym so_far ∙ one

pub quote_stops : (escaped : Bool) (i : ℕ) (xs : List ℕ) (whole : Option ℕ) → i < length xs → quote_step escaped (get_or xs i 0) ≡ End → quoted_length escaped i (drop i xs) ≡ whole → whole ≡ Some i
unfolding quoted_length
quote_stops escaped i xs whole lt h so_far =
    let one : quoted_length escaped i (drop i xs) ≡ Some i = rw (cons_at xs i lt, h) refl in
    sym so_far ∙ one

pub quote_bad : (escaped : Bool) (i : ℕ) (xs : List ℕ) (whole : Option ℕ) → i < length xs → quote_step escaped (get_or xs i 0) ≡ Bad → quoted_length escaped i (drop i xs) ≡ whole → whole ≡ None
unfolding quoted_length
quote_bad escaped i xs whole lt h so_far =
    let one : quoted_length escaped i (drop i xs) ≡ None = rw (cons_at xs i lt, h) refl in
    sym so_far ∙ one

pub quote_goes : (escaped : Bool) (i : ℕ) (xs : List ℕ) (e : Bool) (whole : Option ℕ) → i < length xs → quote_step escaped (get_or xs i 0) ≡ Go e → quoted_length escaped i (drop i xs) ≡ whole → quoted_length e (i + 1) (drop (i + 1) xs) ≡ whole
unfolding quoted_length
quote_goes escaped i xs e whole lt h so_far =
    let one : quoted_length escaped i (drop i xs) ≡ quoted_length e (i + 1) (drop (i + 1) xs) = rw (cons_at xs i lt, h) refl in
    sym one ∙ so_far

-- ---- tokens

-- the bytes of a token are passed over
pub tokens_from-inside : (k : ℕ) (done : List Lexeme) (bs : List ℕ) → tokens_from k done bs ≡ tokens_from 0 done (drop k bs)
unfolding tokens_from
tokens_from-inside zero done bs = refl
tokens_from-inside (suc k) done [] = refl
tokens_from-inside (suc k) done (b ∷ bs) = tokens_from-inside k done bs

abbrev Whole : Type 0
Whole = Result (List Lexeme) AsmFaultKind

-- what stands at i is wrong
pub token_fails : (e : AsmFaultKind) (i : ℕ) (done : List Lexeme) (xs : List ℕ) (whole : Whole) → i < length xs → front_at (get_or xs i 0) (drop i xs) (drop (i + 1) xs) ≡ Err e → tokens_from 0 done (drop i xs) ≡ whole → whole ≡ Err e
unfolding tokens_from
token_fails e i done xs whole lt h so_far =
    let here = cons_at xs i lt in
    let is : front_at (get_or xs i 0) (get_or xs i 0 ∷ drop (i + 1) xs) (drop (i + 1) xs) ≡ Err e = rw (← here) h in
    let one : tokens_from 0 done (drop i xs) ≡ Err e = rw (here, is) refl in
    sym so_far ∙ one

-- a comment stands at i
pub token_none : (i : ℕ) (done : List Lexeme) (xs : List ℕ) (whole : Whole) → i < length xs → front_at (get_or xs i 0) (drop i xs) (drop (i + 1) xs) ≡ Ok None → tokens_from 0 done (drop i xs) ≡ whole → whole ≡ Ok done
unfolding tokens_from
token_none i done xs whole lt h so_far =
    let here = cons_at xs i lt in
    let is : front_at (get_or xs i 0) (get_or xs i 0 ∷ drop (i + 1) xs) (drop (i + 1) xs) ≡ Ok None = rw (← here) h in
    let one : tokens_from 0 done (get_or xs i 0 ∷ drop (i + 1) xs) ≡ Ok done = rw is refl in
    sym so_far ∙ ap (tokens_from 0 done) here ∙ one

-- a token or a blank stands at i
pub token_goes : (i : ℕ) (done : List Lexeme) (xs : List ℕ) (t : Option Lexeme) (more next : ℕ) (whole : Whole) → next ≡ i + 1 + more → i < length xs → front_at (get_or xs i 0) (drop i xs) (drop (i + 1) xs) ≡ Ok (Some (t, more)) → tokens_from 0 done (drop i xs) ≡ whole → tokens_from 0 (with_token done t) (drop next xs) ≡ whole
unfolding tokens_from
token_goes i done xs t more next whole sum lt h so_far =
    let here = cons_at xs i lt in
    let is : front_at (get_or xs i 0) (get_or xs i 0 ∷ drop (i + 1) xs) (drop (i + 1) xs) ≡ Ok (Some (t, more)) = rw (← here) h in
    let one : tokens_from 0 done (get_or xs i 0 ∷ drop (i + 1) xs) ≡ tokens_from more (with_token done t) (drop (i + 1) xs) = rw is refl in
    let two : tokens_from more (with_token done t) (drop (i + 1) xs) ≡ tokens_from 0 (with_token done t) (drop next xs) = rw sum (tokens_from-inside more (with_token done t) (drop (i + 1) xs) ∙ ap (tokens_from 0 (with_token done t)) (drop-drop more (i + 1) xs)) in
    sym two ∙ sym one ∙ ap (tokens_from 0 done) (sym here) ∙ so_far

-- a blank stands at i
pub blank_goes : (i : ℕ) (done : List Lexeme) (xs : List ℕ) → i < length xs → is_blank (get_or xs i 0) ≡ true → tokens_from 0 done (drop (i + 1) xs) ≡ tokens_from 0 done (drop i xs)
unfolding front_at
blank_goes i done xs lt h =
    let found : front_at (get_or xs i 0) (drop i xs) (drop (i + 1) xs) ≡ Ok (Some (None, 0)) = rw h refl in
    token_goes i done xs None 0 (i + 1) (tokens_from 0 done (drop i xs)) (omega arith) lt found refl

pub tokens_end : (i : ℕ) (done : List Lexeme) (xs : List ℕ) (whole : Whole) → length xs ≤ i → tokens_from 0 done (drop i xs) ≡ whole → whole ≡ Ok done
unfolding tokens_from
tokens_end i done xs whole le so_far =
    let one : tokens_from 0 done (drop i xs) ≡ Ok done = rw (drop_all i xs le) refl in
    sym so_far ∙ one

-- ---- tokens behind others

behind_more : (done : List Lexeme) (o : Option Lexeme) (r : Whole) → (r >>= λ ts. Ok (with_token done o ++ ts)) ≡ ((r >>= λ ts. Ok (with_token [] o ++ ts)) >>= λ ts. Ok (done ++ ts))
behind_more done o (Err e) = refl
behind_more done None (Ok ts) = refl
behind_more done (Some t) (Ok ts) = ap Ok (append_assoc done (t ∷ []) ts)

-- what is done stands before what the bytes come to by themselves
pub tokens_from-done : (k : ℕ) (done : List Lexeme) (bs : List ℕ) → tokens_from k done bs ≡ (tokens_from k [] bs >>= λ ts. Ok (done ++ ts))
unfolding tokens_from
tokens_from-done k done [] = ap Ok (sym (append-nil done))
tokens_from-done (suc k) done (b ∷ bs) = tokens_from-done k done bs
tokens_from-done zero done (b ∷ bs) = go (front_at b (b ∷ bs) bs) (λ k front. tokens_from-done k front bs)
  where
    go : (r : Result Front AsmFaultKind) → ((k : ℕ) (front : List Lexeme) → tokens_from k front bs ≡ (tokens_from k [] bs >>= λ ts. Ok (front ++ ts))) → (r >>= λ o. if_some o (Ok done) (λ f. tokens_from f.1 (with_token done f.0) bs)) ≡ ((r >>= λ o. if_some o (Ok []) (λ f. tokens_from f.1 (with_token [] f.0) bs)) >>= λ ts. Ok (done ++ ts))
    go (Err e) others = refl
    go (Ok None) others = ap Ok (sym (append-nil done))
    go (Ok (Some f)) others = others f.1 (with_token done f.0) ∙ behind_more done f.0 (tokens_from f.1 [] bs) ∙ ap (λ (r : Whole). r >>= λ ts. Ok (done ++ ts)) (sym (others f.1 (with_token [] f.0)))

-- a token behind nothing, and what the bytes behind it come to
pub token_first : (t : Lexeme) (bs : List ℕ) → tokens_from 0 (t ∷ []) bs ≡ (tokens_of bs >>= λ ts. Ok (t ∷ ts))
token_first t bs = tokens_from-done 0 (t ∷ []) bs
