-- Where a text is cut at a separator.
use Rattle.std.proofs.Common.{◌≡◌, ◌≤◌, ◌∙◌, ◌==◌, ℕ, Bool, true, false, refl, sym, ap, arith, List, [], ◌∷◌, ◌++◌, map, not, ne_eqb, eq-eqb, true≢false, append-nil}
use Rattle.std.specs.List.{flat_map, join_by, join_with_byte, list_all, onto_first, slice_split}
use Rattle.std.specs.Char.{digit_value}
use Rattle.std.specs.Str.Parse.{AllDigits}
use Rattle.std.proofs.lemmas.List.Folds.{list_all-append}
use Rattle.std.proofs.lemmas.List.Splits.{slice_split-cons_no, slice_split-cons_yes}
use Rattle.rvmc_starts.proofs.Hexes.{both}

-- the separator isn't in the text
abbrev pub lacks : ℕ → List ℕ → Bool
lacks c text = list_all (λ byte. not (byte == c)) text

abbrev pub cut : ℕ → List ℕ → List (List ℕ)
cut c text = slice_split (λ byte. byte == c) text

other : (b : Bool) → not b ≡ true → b ≡ false
other false e = refl
other true e = absurd (true≢false (sym e))

-- text without the separator is one part
pub cut_none : (c : ℕ) (text : List ℕ) → lacks c text ≡ true → cut c text ≡ text ∷ []
cut_none c [] e = refl
cut_none c (byte ∷ text) e =
    let parts = both (not (byte == c)) (lacks c text) e in
    slice_split-cons_no (λ b. b == c) byte text (other (byte == c) parts.0) ∙ ap (onto_first byte) (cut_none c text parts.1)

-- the first part ends at the first separator
pub cut_at : (c : ℕ) (text rest : List ℕ) → lacks c text ≡ true → cut c (text ++ c ∷ rest) ≡ text ∷ cut c rest
cut_at c [] rest e = slice_split-cons_yes (λ b. b == c) c rest (eq-eqb c c refl)
cut_at c (byte ∷ text) rest e =
    let parts = both (not (byte == c)) (lacks c text) e in
    slice_split-cons_no (λ b. b == c) byte (text ++ c ∷ rest) (other (byte == c) parts.0) ∙ ap (onto_first byte) (cut_at c text rest parts.1)

pub lacks_both : (c : ℕ) (one two : List ℕ) → lacks c one ≡ true → lacks c two ≡ true → lacks c (one ++ two) ≡ true
lacks_both c one two e f = list_all-append (λ byte. not (byte == c)) one two ∙ rw (e, f) refl

-- no separator is a digit
pub lacks_digits : (base c : ℕ) (digits : List ℕ) → AllDigits base digits → base ≤ digit_value c → lacks c digits ≡ true
lacks_digits base c [] all high = refl
lacks_digits base c (digit ∷ digits) all high =
    let differs : (digit == c) ≡ false = ne_eqb digit c (λ same. omega (arith, all.0, high, ap digit_value same)) in
    rw (differs, lacks_digits base c digits all.1 high) refl

-- each piece of a list lacks the separator
abbrev pub EachLacks : {X : Type 0} → ℕ → (X → List ℕ) → List X → Type 0
EachLacks c f [] = Unit {0}
EachLacks c f (x ∷ xs) = (lacks c (f x) ≡ true) × EachLacks c f xs

-- a list is cut into its pieces
pub cut_list : {X : Type 0} (c : ℕ) (f : X → List ℕ) (x : X) (xs : List X) → EachLacks c f (x ∷ xs)
    → cut c (join_by f (c ∷ []) (x ∷ xs)) ≡ map f (x ∷ xs)
cut_list c f x [] each = ap (cut c) (append-nil (f x)) ∙ cut_none c (f x) each.0
cut_list c f x (y ∷ ys) each =
    cut_at c (f x) (join_by f (c ∷ []) (y ∷ ys)) each.0 ∙ ap (λ parts. f x ∷ parts) (cut_list c f y ys each.1)

lacks_more : {X : Type 0} (c sep : ℕ) (f : X → List ℕ) (xs : List X) → (sep == c) ≡ false → EachLacks c f xs
    → lacks c (flat_map (λ y. (sep ∷ []) ++ f y) xs) ≡ true
lacks_more c sep f [] differs each = refl
lacks_more c sep f (x ∷ xs) differs each =
    rw differs (lacks_both c (f x) (flat_map (λ y. (sep ∷ []) ++ f y) xs) each.0 (lacks_more c sep f xs differs each.1))

-- a list lacks what its pieces lack and its commas aren't
pub lacks_list : {X : Type 0} (c sep : ℕ) (f : X → List ℕ) (xs : List X) → (sep == c) ≡ false → EachLacks c f xs
    → lacks c (join_by f (sep ∷ []) xs) ≡ true
lacks_list c sep f [] differs each = refl
lacks_list c sep f (x ∷ xs) differs each =
    lacks_both c (f x) (flat_map (λ y. (sep ∷ []) ++ f y) xs) each.0 (lacks_more c sep f xs differs each.1)

-- each word lacks the separator
abbrev pub EachWordLacks : ℕ → List (List ℕ) → Type 0
EachWordLacks c [] = Unit {0}
EachWordLacks c (word ∷ words) = (lacks c word ≡ true) × EachWordLacks c words

-- words with a separator between each two are cut into words
pub cut_words : (c : ℕ) (word : List ℕ) (words : List (List ℕ)) → EachWordLacks c (word ∷ words)
    → cut c (join_with_byte c (word ∷ words)) ≡ word ∷ words
cut_words c word [] each = cut_none c word each.0
cut_words c word (next ∷ words) each =
    cut_at c word (join_with_byte c (next ∷ words)) each.0 ∙ ap (λ parts. word ∷ parts) (cut_words c next words each.1)
