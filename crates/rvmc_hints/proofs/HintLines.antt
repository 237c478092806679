-- Lines of hints, and their beginnings.
use Rattle.std.proofs.Common.{◌≡◌, ◌∙◌, ◌<◌, ◌^◌, ◌∷◌, min, ℕ, List, [], ◌++◌, Option, Some, None, ap, append-nil, arith, length, refl, subst, sym, take}
use Rattle.std.specs.Prelude.{◌==◌}
use Rattle.std.specs.Fmt.{decimal}
use Rattle.std.specs.Io.{StartsWith}
use Rattle.std.specs.Io.KnownBytes.{Appends}
use Rattle.std.specs.Str.Parse.{AllDigits}
use Rattle.std.proofs.lemmas.Bool.{ne_eqb}
use Rattle.std.proofs.lemmas.Fmt.{decimal_is_IsNumeral}
use Rattle.std.proofs.lemmas.List.{length-take, take_min}
use Rattle.std.proofs.lemmas.List.Folds.{list_any-append}
use Rattle.std.proofs.lemmas.Str.Parse.{digit_from_value}
use Rattle.rvmc_hints.specs.HintLines.{AppendsHint, IsOneLine, hint_line}
use Rattle.rvmc_hints.specs.Runs.{AppendsLine}
use Rattle.cl_lines.specs.Beginnings.{AppendsBeginning}

digits_are_one_line : (ds : List ℕ) → AllDigits 10 ds → IsOneLine ds
digits_are_one_line [] d = refl
digits_are_one_line (c ∷ cs) d =
    let range = digit_from_value c d.0 in
    rw (ne_eqb c 10 (λ e. omega (arith, range, e)), digits_are_one_line cs d.1) refl

-- a number has no line break
decimal_is_one_line : (n : ℕ) → n < 2 ^ 64 → IsOneLine (decimal n)
decimal_is_one_line n small = digits_are_one_line (decimal n) (decimal_is_IsNumeral n small).0.1

pub number_is_one_line : (head tail : List ℕ) (n : ℕ) → IsOneLine head → IsOneLine tail → n < 2 ^ 64
    → IsOneLine (head ++ (decimal n ++ tail))
number_is_one_line head tail n first last small =
    rw (list_any-append (λ (byte : ℕ). byte == 10) head (decimal n ++ tail), list_any-append (λ (byte : ℕ). byte == 10) (decimal n) tail, first, decimal_is_one_line n small, last) refl

-- the beginning of a line
pub hint_from_beginning : (text line : List ℕ) (old new : Option (List ℕ)) → IsOneLine text → line ≡ hint_line text
    → AppendsBeginning line old new → AppendsHint old new
hint_from_beginning text line old new one_line is (count, appends) =
    (take count line, record { text = text; one_line = one_line; begins = begins }, appends)
  where
    begins : StartsWith (hint_line text) (take count line)
    begins = ap (λ n. take n (hint_line text)) (length-take count line) ∙ (ap (λ l. take (min count (length l)) (hint_line text)) is ∙ (take_min count (hint_line text) ∙ ap (take count) (sym is)))

nothing_appended : (old : Option (List ℕ)) → Appends old old []
nothing_appended None = tt
nothing_appended (Some xs) = sym (append-nil xs)

-- bytes that are the line
pub line_from_beginning : (text line : List ℕ) (old new : Option (List ℕ)) → line ≡ hint_line text
    → AppendsBeginning line old new → AppendsLine text old new
line_from_beginning text line old new is begins = subst (λ (l : List ℕ). AppendsBeginning l old new) is begins

-- nothing of a line
pub nothing_told : (text : List ℕ) (old : Option (List ℕ)) → AppendsLine text old old
nothing_told text old = (0, nothing_appended old)

-- nothing at all
pub no_hint : (old : Option (List ℕ)) → AppendsHint old old
no_hint old = ([], record { text = []; one_line = refl; begins = refl }, nothing_appended old)
