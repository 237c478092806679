-- Operands with commas between them, read as arguments.
use Rattle.std.proofs.Common.{◌≡◌, ℕ, zero, suc, ◌^◌, ◌<◌, ◌≤◌, ◌==◌, List, [], ◌∷◌, ◌++◌, Bool, true, false, not, ◌&&◌, cond, Option, Some, None, Ok, ℤ, pos, negsuc, codes, nat_le, refl, sym, ap, ◌∙◌, arith, tests, append_assoc, append-nil, eqb-true, eq-or-lt_of_le, ◌⊎◌, inl, inr}
use Rattle.std.specs.Fmt.{digits, decimal, signed_decimal}
use Rattle.std.specs.List.{list_all, onto_first, slice_split}
use Rattle.std.proofs.lemmas.List.Folds.{list_all-append}
use Rattle.rv_decode.specs.Text.{register_text, address_text, operands_text, statement_text}
use Rattle.rv_asm_tokens.specs.Lexeme.{Lexeme, name, number, comma, opens, closes}
use Rattle.rv_asm_tokens.specs.Digits.{between}
use Rattle.rv_asm_tokens.specs.Scan.{is_name_byte, word_length, front_at, tokens_from, tokens_of}
use Rattle.rv_asm_statements.specs.Arguments.{Argument, word, value, place, argument_of, is_comma, arguments_of}
use Rattle.rv_asm_statements.specs.Registers.{register_named}
use Rattle.rv_asm_statements.specs.Walk.{all_given}
use Rattle.rv_asm_print_laws.proofs.Branches.{both, both_hold}
use Rattle.rv_asm_print_laws.proofs.Words.{Reads, is_word, word_reads}
use Rattle.rv_asm_print_laws.proofs.Numbers.{IsSmall, decimal_reads, signed_reads, hex_reads, decimal_names, hex_names}

-- ---- texts one behind another

module _ (t u : List ℕ) (ls ms : List Lexeme) where
  then_tokens : Reads t ls → Reads u ms → ((rest : List ℕ) → word_length (u ++ rest) ≡ 0) → (done : List Lexeme) (rest : List ℕ) → word_length rest ≡ 0 → tokens_from 0 done ((t ++ u) ++ rest) ≡ tokens_from 0 (done ++ (ls ++ ms)) rest
  then_tokens a b stops done rest stop =
      ap (tokens_from 0 done) (append_assoc t u rest) ∙ a.tokens done (u ++ rest) (stops rest) ∙ b.tokens (done ++ ls) rest stop
      ∙ ap (λ (xs : List Lexeme). tokens_from 0 xs rest) (append_assoc done ls ms)

  pub then_reads : Reads t ls → Reads u ms → ((rest : List ℕ) → word_length (u ++ rest) ≡ 0) → Reads (t ++ u) (ls ++ ms)
  then_reads a b stops = record { tokens = then_tokens a b stops }

behind_comma : (t : List ℕ) (ls done : List Lexeme) (rest : List ℕ) → Reads t ls → word_length rest ≡ 0 → tokens_from 0 done ((codes ", " ++ t) ++ rest) ≡ tokens_from 0 (done ++ comma ∷ ls) rest
unfolding tokens_from front_at
behind_comma t ls done rest a stop = a.tokens (done ++ comma ∷ []) rest stop ∙ ap (λ (xs : List Lexeme). tokens_from 0 xs rest) (append_assoc done (comma ∷ []) ls)

behind_open : (t : List ℕ) (ls done : List Lexeme) (rest : List ℕ) → Reads t ls → word_length rest ≡ 0 → tokens_from 0 done ((codes "(" ++ t) ++ rest) ≡ tokens_from 0 (done ++ opens ∷ ls) rest
unfolding tokens_from front_at
behind_open t ls done rest a stop = a.tokens (done ++ opens ∷ []) rest stop ∙ ap (λ (xs : List Lexeme). tokens_from 0 xs rest) (append_assoc done (opens ∷ []) ls)

behind_blank : (t : List ℕ) (ls done : List Lexeme) (rest : List ℕ) → Reads t ls → word_length rest ≡ 0 → tokens_from 0 done ((codes " " ++ t) ++ rest) ≡ tokens_from 0 (done ++ ls) rest
unfolding tokens_from front_at
behind_blank t ls done rest a stop = a.tokens done rest stop

close_token : (done : List Lexeme) (rest : List ℕ) → tokens_from 0 done (codes ")" ++ rest) ≡ tokens_from 0 (done ++ closes ∷ []) rest
unfolding tokens_from front_at
close_token done rest = refl

-- ---- operands

-- no byte that ends a line
abbrev pub is_plain : ℕ → Bool
is_plain b = nat_le 32 b

plain_byte : (b : ℕ) → is_name_byte b ≡ true → is_plain b ≡ true
plain_byte b h = grind (arith, tests)

pub plain_names : (w : List ℕ) → list_all is_name_byte w ≡ true → list_all is_plain w ≡ true
plain_names [] h = refl
plain_names (c ∷ cs) h =
    let k = both (is_name_byte c) (list_all is_name_byte cs) h in
    both_hold (is_plain c) (list_all is_plain cs) (plain_byte c k.0) (plain_names cs k.1)

letter_name : (c : ℕ) → between 97 122 c ≡ true → is_name_byte c ≡ true
letter_name c h = grind (arith, tests)

pub plain_word : (w : List ℕ) → is_word w ≡ true → list_all is_plain w ≡ true
plain_word [] h = absurd cc
plain_word (c ∷ cs) h =
    let k = both (between 97 122 c) (list_all is_name_byte cs) h in
    plain_names (c ∷ cs) (both_hold (is_name_byte c) (list_all is_name_byte cs) (letter_name c k.0) k.1)

pub plain_both : (t u : List ℕ) → list_all is_plain t ≡ true → list_all is_plain u ≡ true → list_all is_plain (t ++ u) ≡ true
plain_both t u p q = list_all-append is_plain t u ∙ both_hold (list_all is_plain t) (list_all is_plain u) p q

-- a text that reads to tokens, with no comma among them, which are an argument
pub record IsOperand (text : List ℕ) (made : List Lexeme) (a : Argument) : Type 0 where
  pub reads : Reads text made
  pub plain : list_all is_plain text ≡ true
  pub apart : list_all (λ t. not (is_comma t)) made ≡ true
  pub means : argument_of made ≡ Some a

register_word : (n : ℕ) → n < 32 → is_word (register_text n) ≡ true
register_word n small = decimal_names n (omega arith)

pub register_operand : (n : ℕ) → n < 32 → IsOperand (register_text n) (name (register_text n) ∷ []) (word (register_text n))
register_operand n small = record { reads = word_reads (register_text n) (register_word n small); plain = plain_word (register_text n) (register_word n small); apart = refl; means = refl }

pub decimal_operand : (n : ℕ) → n < 2 ^ 64 → IsOperand (decimal n) (number (pos n) ∷ []) (value (pos n))
decimal_operand n small = record { reads = decimal_reads n small; plain = plain_names (decimal n) (decimal_names n small); apart = refl; means = refl }

plain_signed : (z : ℤ) → IsSmall z → list_all is_plain (signed_decimal z) ≡ true
plain_signed (pos n) small = plain_names (decimal n) (decimal_names n (omega arith))
plain_signed (negsuc n) small = plain_names (decimal (suc n)) (decimal_names (suc n) (omega arith))

pub signed_operand : (z : ℤ) → IsSmall z → IsOperand (signed_decimal z) (number z ∷ []) (value z)
signed_operand z small = record { reads = signed_reads z small; plain = plain_signed z small; apart = refl; means = refl }

pub hex_operand : (n : ℕ) → n < 2 ^ 64 → IsOperand (codes "0x" ++ digits 16 false n) (number (pos n) ∷ []) (value (pos n))
hex_operand n small = record { reads = hex_reads n small; plain = plain_names (codes "0x" ++ digits 16 false n) (hex_names n small); apart = refl; means = refl }

pub address_operand : (z : ℤ) (n : ℕ) → IsSmall z → n < 32 → IsOperand (address_text z n) (number z ∷ opens ∷ name (register_text n) ∷ closes ∷ []) (place z (register_text n))
address_operand z n small low =
    let reg : Reads (register_text n) (name (register_text n) ∷ []) = word_reads (register_text n) (register_word n low) in
    let end : Reads (codes ")") (closes ∷ []) = record { tokens = λ done rest stop. close_token done rest } in
    let inner : Reads (register_text n ++ codes ")") (name (register_text n) ∷ closes ∷ []) = then_reads (register_text n) (codes ")") (name (register_text n) ∷ []) (closes ∷ []) reg end (λ rest. refl) in
    let whole : Reads (codes "(" ++ (register_text n ++ codes ")")) (opens ∷ name (register_text n) ∷ closes ∷ []) = record { tokens = λ done rest stop. behind_open (register_text n ++ codes ")") (name (register_text n) ∷ closes ∷ []) done rest inner stop } in
    record { reads = then_reads (signed_decimal z) (codes "(" ++ (register_text n ++ codes ")")) (number z ∷ []) (opens ∷ name (register_text n) ∷ closes ∷ []) (signed_reads z small) whole (λ rest. refl); plain = plain_both (signed_decimal z) (codes "(" ++ (register_text n ++ codes ")")) (plain_signed z small) (plain_both (register_text n) (codes ")") (plain_word (register_text n) (register_word n low)) refl); apart = refl; means = refl }

-- ---- operands with commas between them

-- the tokens of operands, with commas between them
abbrev pub joined : List (List Lexeme) → List Lexeme
joined [] = []
joined (p ∷ []) = p
joined (p ∷ q ∷ ps) = p ++ (comma ∷ joined (q ∷ ps))

abbrev pub AreOperands : List (List ℕ) → List (List Lexeme) → List Argument → Type 0
AreOperands [] [] [] = Unit {0}
AreOperands (x ∷ xs) (p ∷ ps) (a ∷ args) = IsOperand x p a × AreOperands xs ps args
AreOperands _ _ _ = ⊥

pub operands_read : (x : List ℕ) (p : List Lexeme) (a : Argument) (xs : List (List ℕ)) (ps : List (List Lexeme)) (args : List Argument) → AreOperands (x ∷ xs) (p ∷ ps) (a ∷ args) → Reads (operands_text (x ∷ xs)) (joined (p ∷ ps))
operands_read x p a [] [] [] all = all.0.reads
operands_read x p a (y ∷ ys) (q ∷ qs) (b ∷ bs) all =
    let others = operands_read y q b ys qs bs all.1 in
    let behind : Reads (codes ", " ++ operands_text (y ∷ ys)) (comma ∷ joined (q ∷ qs)) = record { tokens = λ done rest stop. behind_comma (operands_text (y ∷ ys)) (joined (q ∷ qs)) done rest others stop } in
    then_reads x (codes ", " ++ operands_text (y ∷ ys)) p (comma ∷ joined (q ∷ qs)) all.0.reads behind (λ rest. refl)
operands_read x p a [] [] (b ∷ bs) all = absurd all.1
operands_read x p a [] (q ∷ qs) args all = absurd all.1
operands_read x p a (y ∷ ys) [] args all = absurd all.1
operands_read x p a (y ∷ ys) (q ∷ qs) [] all = absurd all.1

-- tokens with no comma among them are one piece
no_comma : (t : Lexeme) (ps : List (List Lexeme)) → not (is_comma t) ≡ true → cond (is_comma t) ([] ∷ ps) (onto_first t ps) ≡ onto_first t ps
no_comma t ps h = go (is_comma t) h
  where
    go : (b : Bool) → not b ≡ true → cond b ([] ∷ ps) (onto_first t ps) ≡ onto_first t ps
    go true h = absurd cc
    go false h = refl

last_piece : (p : List Lexeme) → list_all (λ t. not (is_comma t)) p ≡ true → slice_split is_comma p ≡ p ∷ []
last_piece [] h = refl
last_piece (t ∷ p) h =
    let k = both (not (is_comma t)) (list_all (λ t. not (is_comma t)) p) h in
    no_comma t (slice_split is_comma p) k.0 ∙ ap (onto_first t) (last_piece p k.1)

first_piece : (p ts : List Lexeme) → list_all (λ t. not (is_comma t)) p ≡ true → slice_split is_comma (p ++ comma ∷ ts) ≡ p ∷ slice_split is_comma ts
first_piece [] ts h = refl
first_piece (t ∷ p) ts h =
    let k = both (not (is_comma t)) (list_all (λ t. not (is_comma t)) p) h in
    no_comma t (slice_split is_comma (p ++ comma ∷ ts)) k.0 ∙ ap (onto_first t) (first_piece p ts k.1)

pieces_joined : (x : List ℕ) (p : List Lexeme) (a : Argument) (xs : List (List ℕ)) (ps : List (List Lexeme)) (args : List Argument) → AreOperands (x ∷ xs) (p ∷ ps) (a ∷ args) → slice_split is_comma (joined (p ∷ ps)) ≡ p ∷ ps
pieces_joined x p a [] [] [] all = last_piece p all.0.apart
pieces_joined x p a (y ∷ ys) (q ∷ qs) (b ∷ bs) all = first_piece p (joined (q ∷ qs)) all.0.apart ∙ ap (λ (r : List (List Lexeme)). p ∷ r) (pieces_joined y q b ys qs bs all.1)
pieces_joined x p a [] [] (b ∷ bs) all = absurd all.1
pieces_joined x p a [] (q ∷ qs) args all = absurd all.1
pieces_joined x p a (y ∷ ys) [] args all = absurd all.1
pieces_joined x p a (y ∷ ys) (q ∷ qs) [] all = absurd all.1

-- each piece means its argument
all_mean : (xs : List (List ℕ)) (ps : List (List Lexeme)) (args : List Argument) → AreOperands xs ps args → all_given argument_of ps ≡ Some args
all_mean [] [] [] all = refl
all_mean (x ∷ xs) (p ∷ ps) (a ∷ args) all = rw (all.0.means, all_mean xs ps args all.1) refl
all_mean [] [] (a ∷ args) all = absurd all
all_mean [] (p ∷ ps) args all = absurd all
all_mean (x ∷ xs) [] args all = absurd all
all_mean (x ∷ xs) (p ∷ ps) [] all = absurd all

joined_arguments : (x : List ℕ) (p : List Lexeme) (a : Argument) (xs : List (List ℕ)) (ps : List (List Lexeme)) (args : List Argument) → AreOperands (x ∷ xs) (p ∷ ps) (a ∷ args) → all_given argument_of (slice_split is_comma (joined (p ∷ ps))) ≡ Some (a ∷ args)
joined_arguments x p a xs ps args all = ap (all_given argument_of) (pieces_joined x p a xs ps args all) ∙ all_mean (x ∷ xs) (p ∷ ps) (a ∷ args) all

pub arguments_read : (x : List ℕ) (p : List Lexeme) (a : Argument) (xs : List (List ℕ)) (ps : List (List Lexeme)) (args : List Argument) → AreOperands (x ∷ xs) (p ∷ ps) (a ∷ args) → arguments_of (joined (p ∷ ps)) ≡ Some (a ∷ args)
arguments_read x [] a xs ps args all = absurd (let h = all.0.means in cc)
arguments_read x (t ∷ ts) a xs [] args all = joined_arguments x (t ∷ ts) a xs [] args all
arguments_read x (t ∷ ts) a xs (q ∷ qs) args all = joined_arguments x (t ∷ ts) a xs (q ∷ qs) args all

pub operands_plain : (x : List ℕ) (p : List Lexeme) (a : Argument) (xs : List (List ℕ)) (ps : List (List Lexeme)) (args : List Argument) → AreOperands (x ∷ xs) (p ∷ ps) (a ∷ args) → list_all is_plain (operands_text (x ∷ xs)) ≡ true
operands_plain x p a [] [] [] all = all.0.plain
operands_plain x p a (y ∷ ys) (q ∷ qs) (b ∷ bs) all = plain_both x (codes ", " ++ operands_text (y ∷ ys)) all.0.plain (operands_plain y q b ys qs bs all.1)
operands_plain x p a [] [] (b ∷ bs) all = absurd all.1
operands_plain x p a [] (q ∷ qs) args all = absurd all.1
operands_plain x p a (y ∷ ys) [] args all = absurd all.1
operands_plain x p a (y ∷ ys) (q ∷ qs) [] all = absurd all.1

-- ---- a mnemonic and operands

pub statement_reads : (w x : List ℕ) (p : List Lexeme) (a : Argument) (xs : List (List ℕ)) (ps : List (List Lexeme)) (args : List Argument) → is_word w ≡ true → AreOperands (x ∷ xs) (p ∷ ps) (a ∷ args) → Reads (statement_text w (x ∷ xs)) (name w ∷ joined (p ∷ ps))
statement_reads w x p a xs ps args first all =
    let others = operands_read x p a xs ps args all in
    let behind : Reads (codes " " ++ operands_text (x ∷ xs)) (joined (p ∷ ps)) = record { tokens = λ done rest stop. behind_blank (operands_text (x ∷ xs)) (joined (p ∷ ps)) done rest others stop } in
    then_reads w (codes " " ++ operands_text (x ∷ xs)) (name w ∷ []) (joined (p ∷ ps)) (word_reads w first) behind (λ rest. refl)

-- what reads to tokens has these tokens, if it is a line
pub line_tokens : (t : List ℕ) (ls : List Lexeme) → Reads t ls → tokens_of t ≡ Ok ls
unfolding tokens_from
line_tokens t ls a = ap (tokens_from 0 []) (sym (append-nil t)) ∙ a.tokens [] [] refl

-- ---- names of registers

abbrev is_just : Option ℕ → ℕ → Bool
is_just None n = false
is_just (Some m) n = m == n

just : (o : Option ℕ) (n : ℕ) → is_just o n ≡ true → o ≡ Some n
just None n h = absurd cc
just (Some m) n h = ap Some (eqb-true m n h)

abbrev all_below : (ℕ → Bool) → ℕ → Bool
all_below f zero = true
all_below f (suc k) = f k && all_below f k

below_step : (f : ℕ → Bool) (k n : ℕ) → f k ≡ true → (n < k → f n ≡ true) → (n ≡ k) ⊎ (n < k) → f n ≡ true
below_step f k n last others (inl e) = rw e last
below_step f k n last others (inr l) = others l

below : (f : ℕ → Bool) (k n : ℕ) → all_below f k ≡ true → n < k → f n ≡ true
below f zero n all h = absurd (omega arith)
below f (suc k) n all h =
    let a = both (f k) (all_below f k) all in
    let le : n ≤ k = omega arith in
    below_step f k n a.0 (below f k n a.1) (eq-or-lt_of_le le)

all_named : all_below (λ n. is_just (register_named (register_text n)) n) 32 ≡ true
unfolding digits
all_named = refl

pub named : (n : ℕ) → n < 32 → register_named (register_text n) ≡ Some n
named n small = just (register_named (register_text n)) n (below (λ n. is_just (register_named (register_text n)) n) 32 n all_named small)
