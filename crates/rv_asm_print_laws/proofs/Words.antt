-- Words and numbers, read as tokens.
use Rattle.std.proofs.Common.{◌≡◌, ℕ, suc, ◌+◌, ◌<◌, ◌≤◌, List, [], ◌∷◌, ◌++◌, length, take, Bool, true, false, ◌&&◌, cond, Some, Ok, refl, ap, ◌∙◌, arith, tests, add-one}
use Rattle.std.proofs.Math.Seq.{take-append_seam, drop-append_seam}
use Rattle.std.specs.List.{list_all}
use Rattle.std.specs.Char.{digit_value as value_of_char}
use Rattle.rv_asm_tokens.specs.Lexeme.{Lexeme, name}
use Rattle.rv_asm_tokens.specs.Digits.{between, is_digit, digit_value}
use Rattle.rv_asm_tokens.specs.Scan.{is_name_byte, word_length, name_front, number_front, front_at, tokens_from}
use Rattle.rv_asm_tokens.proofs.Steps.{tokens_from-inside}
use Rattle.rv_asm_print_laws.proofs.Branches.{both}

-- bytes that stand in names, as far as they go
reach_step : (b : Bool) (n k : ℕ) → b ≡ true → n ≡ k → cond b (1 + n) 0 ≡ suc k
reach_step true n k h same = omega arith
reach_step false n k h same = absurd cc

pub reach : (cs rest : List ℕ) → list_all is_name_byte cs ≡ true → word_length rest ≡ 0 → word_length (cs ++ rest) ≡ length cs
reach [] rest all stop = stop
reach (c ∷ cs) rest all stop =
    let h = both (is_name_byte c) (list_all is_name_byte cs) all in
    reach_step (is_name_byte c) (word_length (cs ++ rest)) (length cs) h.0 (reach cs rest h.1 stop)

-- a lower case letter begins a name
front_of_letter : (c : ℕ) (here after : List ℕ) → between 97 122 c ≡ true → front_at c here after ≡ Ok (name_front here after)
unfolding front_at
front_of_letter c here after h = grind (arith, tests)

pub front_of_digit : (c : ℕ) (here after : List ℕ) → is_digit c ≡ true → front_at c here after ≡ number_front here after
unfolding front_at
front_of_digit c here after h = grind (arith, tests)

-- digits in a base of at most 16 are digits of numbers
pub digit_read : (base c : ℕ) → base ≤ 16 → value_of_char c < base → digit_value base c ≡ Some (value_of_char c)
digit_read base c small h = grind (arith, tests)

pub digit_name : (c : ℕ) → value_of_char c < 16 → is_name_byte c ≡ true
digit_name c h = grind (arith, tests)

-- ---- what text reads to, whatever is done before it, and whatever follows that no name goes on with
pub record Reads (text : List ℕ) (made : List Lexeme) : Type 0 where
  pub tokens : (done : List Lexeme) (rest : List ℕ) → word_length rest ≡ 0 → tokens_from 0 done (text ++ rest) ≡ tokens_from 0 (done ++ made) rest

-- a lower case letter, and bytes of names
abbrev pub is_word : List ℕ → Bool
is_word [] = false
is_word (c ∷ cs) = between 97 122 c && list_all is_name_byte cs

-- what a front of bytes leaves
pub front_leaves : (c : ℕ) (cs rest : List ℕ) (done : List Lexeme) (t : Lexeme) → front_at c (c ∷ (cs ++ rest)) (cs ++ rest) ≡ Ok (Some (Some t, length cs)) → tokens_from 0 done ((c ∷ cs) ++ rest) ≡ tokens_from 0 (done ++ t ∷ []) rest
unfolding tokens_from
front_leaves c cs rest done t h = rw h (tokens_from-inside (length cs) (done ++ t ∷ []) (cs ++ rest) ∙ ap (tokens_from 0 (done ++ t ∷ [])) (drop-append_seam cs rest))

-- the word at the front
pub front_word : (c : ℕ) (cs rest : List ℕ) → list_all is_name_byte cs ≡ true → word_length rest ≡ 0 → take (word_length (cs ++ rest) + 1) (c ∷ (cs ++ rest)) ≡ c ∷ cs
front_word c cs rest all stop = rw (reach cs rest all stop, add-one) (ap (λ (xs : List ℕ). c ∷ xs) (take-append_seam cs rest))

word_tokens : (c : ℕ) (cs : List ℕ) → between 97 122 c ≡ true → list_all is_name_byte cs ≡ true → (done : List Lexeme) (rest : List ℕ) → word_length rest ≡ 0 → tokens_from 0 done ((c ∷ cs) ++ rest) ≡ tokens_from 0 (done ++ name (c ∷ cs) ∷ []) rest
word_tokens c cs first all done rest stop =
    front_leaves c cs rest done (name (c ∷ cs)) (front_of_letter c (c ∷ (cs ++ rest)) (cs ++ rest) first ∙ rw (front_word c cs rest all stop, reach cs rest all stop) refl)

pub word_reads : (w : List ℕ) → is_word w ≡ true → Reads w (name w ∷ [])
word_reads [] h = absurd cc
word_reads (c ∷ cs) h = let k = both (between 97 122 c) (list_all is_name_byte cs) h in record { tokens = word_tokens c cs k.0 k.1 }
