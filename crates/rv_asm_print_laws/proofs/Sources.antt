-- Sources whose lines are printed instructions.
use Rattle.std.proofs.Common.{◌≡◌, ℕ, ◌-◌, ◌<◌, List, [], ◌∷◌, ◌++◌, length, take, get_or, true, false, ◌==◌, slice_index, refl, ap, ◌∙◌, arith, tests, append_assoc, All}
use Rattle.std.specs.List.{list_all, flat_map, slice_split}
use Rattle.std.specs.Str.Lines.{lines, lines_of_parts, strip_carriage_return}
use Rattle.std.proofs.lemmas.List.Sums.{AllPass-from_list_all}
use Rattle.std.proofs.lemmas.List.Splits.{slice_split_none, slice_split_at, length-slice_split}
use Rattle.rv_asm_print_laws.proofs.Branches.{else_branch}
use Rattle.rv_asm_print_laws.proofs.Operands.{is_plain}

-- ---- lines

not_newline : (b : ℕ) → is_plain b ≡ true → (b == 10) ≡ false
not_newline b h = grind (arith, tests)

not_return : (b : ℕ) → is_plain b ≡ true → (b == 13) ≡ false
not_return b h = grind (arith, tests)

no_newline : (x : List ℕ) → list_all is_plain x ≡ true → All (λ b. (b == 10) ≡ false) x
no_newline x h = λ k d l. not_newline (get_or x k d) (AllPass-from_list_all is_plain x h k d l)

no_return : (x : List ℕ) → list_all is_plain x ≡ true → (slice_index x (length x - 1) == 13) ≡ false
no_return [] h = refl
no_return (c ∷ cs) h =
    let inside : length (c ∷ cs) - 1 < length (c ∷ cs) = omega arith in
    not_return (get_or (c ∷ cs) (length (c ∷ cs) - 1) 0) (AllPass-from_list_all is_plain (c ∷ cs) h (length (c ∷ cs) - 1) 0 inside)

nothing_stripped : (x : List ℕ) → list_all is_plain x ≡ true → strip_carriage_return x ≡ x
nothing_stripped x h = else_branch (slice_index x (length x - 1) == 13) (take (length x - 1) x) x (no_return x h)

first_part : (x : List ℕ) (parts : List (List ℕ)) → 0 < length parts → lines_of_parts (x ∷ parts) ≡ strip_carriage_return x ∷ lines_of_parts parts
first_part x [] some = absurd (omega arith)
first_part x (y ∷ ys) some = refl

-- a line with its newline, and what follows
first_line : (x rest : List ℕ) → list_all is_plain x ≡ true → lines (x ++ 10 ∷ rest) ≡ x ∷ lines rest
first_line x rest plain =
    let parts = slice_split (λ b. b == 10) rest in
    let some : 0 < length parts = omega (arith, length-slice_split (λ b. b == 10) rest) in
    ap lines_of_parts (slice_split_at (λ b. b == 10) x 10 rest (no_newline x plain) refl) ∙ first_part x parts some
    ∙ ap (λ (y : List ℕ). y ∷ lines rest) (nothing_stripped x plain)

-- one line without a newline
pub only_line : (x : List ℕ) → 0 < length x → list_all is_plain x ≡ true → lines x ≡ x ∷ []
only_line x some plain =
    ap lines_of_parts (slice_split_none (λ b. b == 10) x (no_newline x plain)) ∙ else_branch (length x == 0) [] (x ∷ []) (not_zero (length x) some)
  where
    not_zero : (n : ℕ) → 0 < n → (n == 0) ≡ false
    not_zero n h = grind (arith, tests)

abbrev pub AllPlain : List (List ℕ) → Type 0
AllPlain [] = Unit {0}
AllPlain (x ∷ xs) = (list_all is_plain x ≡ true) × AllPlain xs

pub lines_of_lines : (xs : List (List ℕ)) → AllPlain xs → lines (flat_map (λ x. x ++ 10 ∷ []) xs) ≡ xs
lines_of_lines [] all = refl
lines_of_lines (x ∷ xs) all =
    ap lines (append_assoc x (10 ∷ []) (flat_map (λ x. x ++ 10 ∷ []) xs)) ∙ first_line x (flat_map (λ x. x ++ 10 ∷ []) xs) all.0
    ∙ ap (λ (ys : List (List ℕ)). x ∷ ys) (lines_of_lines xs all.1)
