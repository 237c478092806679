-- Data with many items.
use Rattle.std.proofs.Common.{◌≡◌, ℕ, suc, true, false, List, [], ◌∷◌, ◌++◌, length, Option, Some, None, Result, Ok, Err, is_some, refl, ap}
use Rattle.std.specs.List.{filter_map}
use Rattle.std.specs.Option.{option_map}
use Rattle.rv_asm_tokens.specs.declared.fault.AsmFaultKind.{AsmFaultKind}
use Rattle.rv_asm_tokens.specs.Fault.{◌>>=◌, if_some, wanted}
use Rattle.rv_asm_statements.specs.declared.directives.Directive.{Directive}
use Rattle.rv_asm_statements.specs.declared.directives.Directive.TheVariants as directive
use Rattle.rv_asm_statements.specs.declared.directives.Width.{Width}
use Rattle.rv_asm_statements.specs.declared.directive_rows.Form.{Form}
use Rattle.rv_asm_statements.specs.declared.directive_rows.Form.TheVariants as form
use Rattle.rv_asm_statements.specs.declared.mnemonics.Use.{Use}
use Rattle.rv_asm_statements.specs.declared.statements.Statement.TheVariants as statement
use Rattle.rv_asm_statements.specs.Arguments.{Argument, word, value, quoted, sum, place}
use Rattle.rv_asm_statements.specs.Directives.{directive_alone, directive_by, item_of, link_of, only_text, some_given}
use Rattle.rv_asm_statements.specs.Kept.{long_items, takes_two}
use Rattle.rv_asm_statements.specs.LongData.{long_data}
use Rattle.rv_asm_statements.specs.Walk.{all_given}
use Rattle.rv_asm_statements.proofs.Walks.{some_among}

-- ---- an instruction is no data, and no directive but data is

pub no_long_use : (most : ℕ) (r : Result Use AsmFaultKind) → long_data most (r >>= λ u. Ok (Some (statement.Instruction u))) ≡ None
no_long_use most (Ok u) = refl
no_long_use most (Err e) = refl

pub long_directive : (most : ℕ) (o : Option Directive) (e : AsmFaultKind) → long_data most (wanted o e >>= λ d. Ok (Some (statement.Directive d))) ≡ long_items most o
long_directive most None e = refl
long_directive most (Some d) e = refl

short_map : {A : Type 0} (most : ℕ) (make : A → Directive) (o : Option A) → ((x : A) → long_items most (Some (make x)) ≡ None) → long_items most (option_map make o) ≡ None
short_map most make None h = refl
short_map most make (Some x) h = h x

short_alone : (most : ℕ) (d : Directive) (xs : List Argument) → long_items most (Some d) ≡ None → long_items most (directive_alone d xs) ≡ None
short_alone most d [] h = h
short_alone most d (x ∷ xs) h = refl

short_link : (most : ℕ) (xs : List Argument) → long_items most (link_of xs) ≡ None
short_link most [] = refl
short_link most ((word w) ∷ xs) = refl
short_link most ((quoted r) ∷ xs) = refl
short_link most ((sum w z) ∷ xs) = refl
short_link most ((place z w) ∷ xs) = refl
short_link most ((value z) ∷ []) = refl
short_link most ((value z) ∷ (word w) ∷ xs) = refl
short_link most ((value z) ∷ (quoted r) ∷ xs) = refl
short_link most ((value z) ∷ (sum w y) ∷ xs) = refl
short_link most ((value z) ∷ (place y w) ∷ xs) = refl
short_link most ((value z) ∷ (value y) ∷ []) = refl
short_link most ((value z) ∷ (value y) ∷ x ∷ xs) = refl

pub short_form : (most : ℕ) (f : Form) (xs : List Argument) → takes_two f ≡ true → long_items most (directive_by f xs) ≡ None
unfolding directive_by
short_form most form.Ranks xs h = short_map most directive.Ranks _ (λ x. refl)
short_form most form.Harts xs h = short_map most directive.Harts _ (λ x. refl)
short_form most form.Memory xs h = short_map most directive.Memory _ (λ x. refl)
short_form most form.Zero xs h = short_map most directive.Zero _ (λ x. refl)
short_form most form.Align xs h = short_map most directive.Align _ (λ x. refl)
short_form most form.Entry xs h = short_map most directive.Entry _ (λ x. refl)
short_form most form.Global xs h = short_map most directive.Global _ (λ x. refl)
short_form most form.String xs h = short_map most directive.Bytes _ (λ x. refl)
short_form most form.StringAndZero xs h = short_map {A = List ℕ} most (λ bytes. directive.Bytes (bytes ++ 0 ∷ [])) (only_text xs) (λ x. refl)
short_form most form.Text xs h = short_alone most directive.Text xs refl
short_form most form.Data xs h = short_alone most directive.Data xs refl
short_form most form.Link xs h = short_link most xs
short_form most form.Comm xs h = absurd cc
short_form most (form.Items w) xs h = absurd cc

pub short_comm : (most : ℕ) (xs : List Argument) → long_items most (directive_by form.Comm xs) ≡ None
unfolding directive_by
short_comm most xs = short_map most directive.Comm _ (λ x. refl)

-- ---- as many items as operands

count_all : {A B : Type 0} (f : A → Option B) (xs : List A) → is_some (all_given f xs) ≡ true → length (filter_map f xs) ≡ length xs
count_all f [] h = refl
count_all {B = B} f (x ∷ xs) h = go (f x) refl (count_all f xs)
  where
    left : (o : Option B) (rest : Option (List B)) → is_some (if_some o None (λ y. if_some rest None (λ ys. Some (y ∷ ys)))) ≡ true → is_some rest ≡ true
    left None rest g = absurd cc
    left (Some y) None g = absurd cc
    left (Some y) (Some ys) g = refl

    go : (o : Option B) → f x ≡ o → (is_some (all_given f xs) ≡ true → length (filter_map f xs) ≡ length xs) → length (filter_map f (x ∷ xs)) ≡ length (x ∷ xs)
    go None e others =
        let no : false ≡ true = rw e at h in
        absurd cc
    go (Some y) e others = rw e (ap suc (others (left (f x) (all_given f xs) h)))

count_some : {A B : Type 0} (f : A → Option B) (xs : List A) → is_some (some_given f xs) ≡ true → length (filter_map f xs) ≡ length xs
count_some f [] h = absurd cc
count_some f (x ∷ xs) h = count_all f (x ∷ xs) h

-- data with these operands
pub items_are : (width : Width) (xs : List Argument) → is_some (some_given (item_of width) xs) ≡ true → (directive_by (form.Items width) xs ≡ Some (directive.Items width (filter_map (item_of width) xs))) × (length (filter_map (item_of width) xs) ≡ length xs)
unfolding directive_by
items_are width xs h = (rw (some_among (item_of width) xs h) refl, count_some (item_of width) xs h)

pub no_items : (width : Width) (xs : List Argument) → is_some (some_given (item_of width) xs) ≡ false → directive_by (form.Items width) xs ≡ None
unfolding directive_by
no_items width xs h = go (some_given (item_of width) xs) refl
  where
    go : (o : Option (List _)) → some_given (item_of width) xs ≡ o → option_map (directive.Items width) (some_given (item_of width) xs) ≡ None
    go None e = rw e refl
    go (Some ys) e =
        let no : true ≡ false = rw e at h in
        absurd cc
