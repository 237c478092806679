-- More operands than a statement takes.
use Rattle.std.proofs.Common.{◌≡◌, ◌<◌, ℕ, Bool, true, false, List, [], ◌∷◌, length, Option, None, refl, sym, ap, ◌∙◌, arith}
use Rattle.std.specs.Str.{bytes_eq}
use Rattle.rv_asm_statements.specs.declared.rows.Shape.{Shape}
use Rattle.rv_asm_statements.specs.declared.rows.Shape.TheVariants as shape
use Rattle.rv_asm_statements.specs.declared.directive_rows.Form.{Form}
use Rattle.rv_asm_statements.specs.declared.directive_rows.Form.TheVariants as form
use Rattle.rv_asm_statements.specs.Arguments.{Argument, word, value, quoted, sum, place}
use Rattle.rv_asm_statements.specs.Directives.{directive_by, only_name, only_number, only_text}
use Rattle.rv_asm_statements.specs.Kept.{takes_two}
use Rattle.rv_asm_statements.specs.declared.mnemonics.Use.{Use}
use Rattle.rv_asm_statements.specs.Mnemonics.{row_use, use_of}
use Rattle.rv_asm_statements.specs.Rows.{Row, rows}
use Rattle.rv_asm_statements.specs.Shapes.{filled_by}
use Rattle.rv_asm_statements.specs.Walk.{first_given}

-- no shape takes four
unfilled : (s : Shape) (a b c d : Argument) (xs : List Argument) → filled_by s (a ∷ b ∷ c ∷ d ∷ xs) ≡ None
unfolding filled_by
unfilled shape.Nothing a b c d xs = refl
unfilled shape.Orders a b c d xs = refl
unfilled shape.Reg a b c d xs = refl
unfilled shape.RegReg a b c d xs = refl
unfilled shape.RegRegReg a b c d xs = refl
unfilled shape.RegNumber a b c d xs = refl
unfilled shape.RegRegNumber a b c d xs = refl
unfilled shape.RegPlace a b c d xs = refl
unfilled shape.Target a b c d xs = refl
unfilled shape.RegTarget a b c d xs = refl
unfilled shape.RegRegTarget a b c d xs = refl
unfilled shape.RegLabel a b c d xs = refl

unused : (w : List ℕ) (a b c d : Argument) (xs : List Argument) (row : Row) → row_use w (a ∷ b ∷ c ∷ d ∷ xs) row ≡ None
unfolding row_use
unused w a b c d xs row = go (bytes_eq row.name w) refl
  where
    go : (same : Bool) → bytes_eq row.name w ≡ same → row_use w (a ∷ b ∷ c ∷ d ∷ xs) row ≡ None
    go true h = rw (h, unfilled row.shape a b c d xs) refl
    go false h = rw h refl

none_given : {A B : Type 0} (f : A → Option B) (xs : List A) → ((x : A) → f x ≡ None) → first_given f xs ≡ None
none_given f [] h = refl
none_given f (x ∷ xs) h = rw (h x) (none_given f xs h)

-- no row takes four
no_use_of_four : (w : List ℕ) (a b c d : Argument) (xs : List Argument) → use_of w (a ∷ b ∷ c ∷ d ∷ xs) ≡ None
no_use_of_four w a b c d xs = none_given (row_use w (a ∷ b ∷ c ∷ d ∷ xs)) rows (unused w a b c d xs)

pub no_use_past_three : (w : List ℕ) (xs : List Argument) → 3 < length xs → use_of w xs ≡ None
no_use_past_three w [] h = absurd (omega arith)
no_use_past_three w (a ∷ []) h = absurd (omega arith)
no_use_past_three w (a ∷ b ∷ []) h = absurd (omega arith)
no_use_past_three w (a ∷ b ∷ c ∷ []) h = absurd (omega arith)
no_use_past_three w (a ∷ b ∷ c ∷ d ∷ xs) h = no_use_of_four w a b c d xs

no_number : (a b : Argument) (xs : List Argument) → only_number (a ∷ b ∷ xs) ≡ None
no_number (word w) b xs = refl
no_number (value z) b xs = refl
no_number (quoted r) b xs = refl
no_number (sum w z) b xs = refl
no_number (place z w) b xs = refl

no_name : (a b : Argument) (xs : List Argument) → only_name (a ∷ b ∷ xs) ≡ None
no_name (word w) b xs = refl
no_name (value z) b xs = refl
no_name (quoted r) b xs = refl
no_name (sum w z) b xs = refl
no_name (place z w) b xs = refl

no_text : (a b : Argument) (xs : List Argument) → only_text (a ∷ b ∷ xs) ≡ None
no_text (word w) b xs = refl
no_text (value z) b xs = refl
no_text (quoted r) b xs = refl
no_text (sum w z) b xs = refl
no_text (place z w) b xs = refl

no_link : (a b c : Argument) (xs : List Argument) → directive_by form.Link (a ∷ b ∷ c ∷ xs) ≡ None
unfolding directive_by
no_link (word w) b c xs = refl
no_link (quoted r) b c xs = refl
no_link (sum w z) b c xs = refl
no_link (place z w) b c xs = refl
no_link (value z) (word w) c xs = refl
no_link (value z) (value y) c xs = refl
no_link (value z) (quoted r) c xs = refl
no_link (value z) (sum w y) c xs = refl
no_link (value z) (place y w) c xs = refl

-- no directive but a communicator and data takes three
no_directive_of_three : (f : Form) (a b c : Argument) (xs : List Argument) → takes_two f ≡ true → directive_by f (a ∷ b ∷ c ∷ xs) ≡ None
unfolding directive_by
no_directive_of_three form.Ranks a b c xs h = rw (no_number a b (c ∷ xs)) refl
no_directive_of_three form.Harts a b c xs h = rw (no_number a b (c ∷ xs)) refl
no_directive_of_three form.Memory a b c xs h = rw (no_number a b (c ∷ xs)) refl
no_directive_of_three form.Zero a b c xs h = rw (no_number a b (c ∷ xs)) refl
no_directive_of_three form.Align a b c xs h = rw (no_number a b (c ∷ xs)) refl
no_directive_of_three form.Entry a b c xs h = rw (no_name a b (c ∷ xs)) refl
no_directive_of_three form.Global a b c xs h = rw (no_name a b (c ∷ xs)) refl
no_directive_of_three form.String a b c xs h = rw (no_text a b (c ∷ xs)) refl
no_directive_of_three form.StringAndZero a b c xs h = rw (no_text a b (c ∷ xs)) refl
no_directive_of_three form.Text a b c xs h = refl
no_directive_of_three form.Data a b c xs h = refl
no_directive_of_three form.Link a b c xs h = no_link a b c xs
no_directive_of_three form.Comm a b c xs h = absurd cc
no_directive_of_three (form.Items w) a b c xs h = absurd cc

pub no_directive_past_three : (f : Form) (xs : List Argument) → takes_two f ≡ true → 3 < length xs → directive_by f xs ≡ None
no_directive_past_three f [] two h = absurd (omega arith)
no_directive_past_three f (a ∷ []) two h = absurd (omega arith)
no_directive_past_three f (a ∷ b ∷ []) two h = absurd (omega arith)
no_directive_past_three f (a ∷ b ∷ c ∷ xs) two h = no_directive_of_three f a b c xs two

-- what a name's rows make of all operands
pub uses_all : (table : List Row) (found : Option Use) (w : List ℕ) → ((xs : List Argument) → first_given (row_use w xs) table ≡ use_of w xs) → (xs ys : List Argument) → found ≡ first_given (row_use w xs) table → ys ≡ xs → found ≡ use_of w ys
uses_all table found w uses xs ys is all = is ∙ uses xs ∙ ap (use_of w) (sym all)
