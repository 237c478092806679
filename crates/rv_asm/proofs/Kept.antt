-- What each line of the first pass keeps.
use Rattle.std.proofs.Common.{◌≡◌, ℕ, ◌+◌, List, [], ◌∷◌, ◌++◌, Option, Some, None, Ok, Bool, true, false, is_some, nat_lt, refl, ap, subst}
use Rattle.std.specs.Option.{option_map}
use Rattle.std.specs.Prelude.{if◌then◌else◌}
use Rattle.rv_image_types.specs.Names.{is_symbol_name}
use Rattle.rv_asm_tokens.specs.declared.fault.AsmFaultKind.TheVariants as kinds
use Rattle.rv_asm_tokens.specs.Fault.{◌>>=◌, if_some, wanted}
use Rattle.rv_asm_tokens.specs.Lexeme.{Lexeme, name, colon}
use Rattle.rv_asm_tokens.specs.Scan.{tokens_of}
use Rattle.rv_asm_statements.specs.declared.directive_rows.Form.{Form}
use Rattle.rv_asm_statements.specs.declared.directive_rows.Form.TheVariants as forms
use Rattle.rv_asm_statements.specs.declared.directives.Directive.{Directive}
use Rattle.rv_asm_statements.specs.declared.directives.Directive.TheVariants as directive
use Rattle.rv_asm_statements.specs.declared.statements.Statement.{Statement}
use Rattle.rv_asm_statements.specs.declared.statements.Statement.TheVariants.{Label, Instruction, Directive as Directed}
use Rattle.rv_asm_statements.specs.Arguments.{Argument, arguments_of, value}
use Rattle.rv_asm_statements.specs.Directives.{directive_alone, directive_by, directive_of, directives, link_of, only_name}
use Rattle.rv_asm_statements.specs.Mnemonics.{instruction_of}
use Rattle.rv_asm_statements.specs.Walk.{beside, first_given}
use Rattle.rv_asm_statements.specs.Statements.{begins_with_dot, directive_at, instruction_at, statement_of}
use Rattle.rv_asm_lines.specs.declared.fields.Fields.{Fields}
use Rattle.rv_asm_lines.specs.Fields.{fields_behind}
use Rattle.rv_asm_lines.specs.Globals.{globals_behind}
use Rattle.rv_asm_lines.specs.Layout.{Layout, at_end, fitted, labels_at, line_step, lines_from, most_bytes, place_in, placed, with_item, with_label}
use Rattle.rv_asm_lines.specs.Parts.{length_of, may_stand}
use Rattle.rv_asm.proofs.Right.{at_line_ok, bind_ok, else_ok, if_ok, line_ok, ok, ok_is, then_ok}

pair_first : {A B : Type 0} (x y : A × B) → ok x ≡ ok y → x.0 ≡ y.0
pair_first x y h = ap (λ p. p.0) (ok_is x y h)

-- a `.globl` has a name that a symbol may have
abbrev pub IsNamed : Directive → Type 0
IsNamed (directive.Global w) = is_symbol_name w ≡ true
IsNamed _ = Unit {0}

-- what a line states is no label
abbrev pub IsStated : Statement → Type 0
IsStated (Label w) = ⊥
IsStated (Instruction u) = Unit {0}
IsStated (Directed d) = IsNamed d

-- a fact that each new label and each new statement keeps
pub record IsKept (P : Layout → Type 0) : Type 0 where
  pub label : (n : ℕ) (s : Layout) (w : List ℕ) → P s → P (with_label n s w)
  pub statement : (n : ℕ) (s : Layout) (stated : Statement) (f : Fields) (names : List (List ℕ)) → nat_lt most_bytes (at_end s + length_of (at_end s) stated) ≡ false → IsStated stated → may_stand s.part stated ≡ true
      → fields_behind stated s.fields ≡ Ok f → globals_behind stated s.globals ≡ Ok names → P s → P (with_item n s stated f names)

labels_at-keeps : (P : Layout → Type 0) → IsKept P → (n : ℕ) (s : Layout) (ts : List Lexeme) (f : Layout × List Lexeme) → labels_at n s ts ≡ Ok f → P s → P f.0
unfolding labels_at
labels_at-keeps P k n s (name w ∷ colon ∷ rest) f h p = labels_at-keeps P k n (with_label n s w) rest f (if_ok (is_some (place_in w s.labels)) _ (labels_at n (with_label n s w) rest) f h) (k.label n s w p)
labels_at-keeps P k n s ts f h p = subst P (pair_first (s, ts) f h) p

abbrev AreStated : Option Statement → Type 0
AreStated None = Unit {0}
AreStated (Some stated) = IsStated stated

instruction_at-is : (w : List ℕ) (ts : List Lexeme) (o : Option Statement) → instruction_at w ts ≡ Ok o → AreStated o
instruction_at-is w ts o h =
    let a = bind_ok (instruction_of w (arguments_of ts)) (λ u. ok (Some (Instruction u))) o h in
    subst AreStated (ok_is (Some (Instruction a.value)) o a.second) tt

abbrev IfNamed : Option Directive → Type 0
IfNamed None = Unit {0}
IfNamed (Some d) = IsNamed d

mapped_named : {A : Type 0} (make : A → Directive) → ((x : A) → IsNamed (make x)) → (o : Option A) → IfNamed (option_map make o)
mapped_named make f None = tt
mapped_named make f (Some x) = f x

alone_named : (d : Directive) → IsNamed d → (xs : List Argument) → IfNamed (directive_alone d xs)
alone_named d is [] = is
alone_named d is (x ∷ xs) = tt

link_named : (xs : List Argument) → IfNamed (link_of xs)
link_named (value z ∷ value y ∷ []) = tt
link_named xs = tt

symbol_named : (o : Option (List ℕ)) → IfNamed (option_map directive.Global (if_some o None (λ w. if is_symbol_name w then Some w else None)))
symbol_named None = tt
symbol_named (Some w) = go (is_symbol_name w) refl
  where
    go : (b : Bool) → is_symbol_name w ≡ b → IfNamed (option_map directive.Global (if b then Some w else None))
    go true e = e
    go false e = tt

directive_by-named : (form : Form) (xs : List Argument) → IfNamed (directive_by form xs)
unfolding directive_by
directive_by-named forms.Ranks xs = mapped_named directive.Ranks (λ x. tt) _
directive_by-named forms.Harts xs = mapped_named directive.Harts (λ x. tt) _
directive_by-named forms.Memory xs = mapped_named directive.Memory (λ x. tt) _
directive_by-named forms.Zero xs = mapped_named directive.Zero (λ x. tt) _
directive_by-named forms.Align xs = mapped_named directive.Align (λ x. tt) _
directive_by-named forms.Entry xs = mapped_named directive.Entry (λ x. tt) _
directive_by-named forms.Global xs = symbol_named (only_name xs)
directive_by-named forms.Comm xs = mapped_named directive.Comm (λ x. tt) _
directive_by-named forms.Link xs = link_named xs
directive_by-named forms.Text xs = alone_named directive.Text tt xs
directive_by-named forms.Data xs = alone_named directive.Data tt xs
directive_by-named (forms.Items width) xs = mapped_named (directive.Items width) (λ x. tt) _
directive_by-named forms.String xs = mapped_named directive.Bytes (λ x. tt) _
directive_by-named forms.StringAndZero xs = mapped_named (λ bytes. directive.Bytes (bytes ++ 0 ∷ [])) (λ x. tt) _

found_named : (form : Option Form) (operands : Option (List Argument)) → IfNamed (if_some form None (λ f. if_some operands None (directive_by f)))
found_named None operands = tt
found_named (Some form) None = tt
found_named (Some form) (Some xs) = directive_by-named form xs

wanted_named : (o : Option Directive) (d : Directive) → IfNamed o → wanted o kinds.Directive ≡ Ok d → IsNamed d
wanted_named None d is h = absurd cc
wanted_named (Some x) d is h = subst IsNamed (ok_is x d h) is

directive_of-named : (w : List ℕ) (operands : Option (List Argument)) (d : Directive) → directive_of w operands ≡ Ok d → IsNamed d
unfolding directive_of
directive_of-named w operands d h = wanted_named _ d (found_named (first_given (beside w) directives) operands) h

directive_at-is : (w : List ℕ) (ts : List Lexeme) (o : Option Statement) → directive_at w ts ≡ Ok o → AreStated o
directive_at-is w ts o h =
    let a = bind_ok (directive_of w (arguments_of ts)) (λ d. ok (Some (Directed d))) o h in
    subst AreStated (ok_is (Some (Directed a.value)) o a.second) (directive_of-named w (arguments_of ts) a.value a.first)

either_at-is : (b : Bool) (w : List ℕ) (ts : List Lexeme) (o : Option Statement) → (if b then directive_at w ts else instruction_at w ts) ≡ Ok o → AreStated o
either_at-is true w ts o h = directive_at-is w ts o h
either_at-is false w ts o h = instruction_at-is w ts o h

statement_of-is : (ts : List Lexeme) (o : Option Statement) → statement_of ts ≡ Ok o → AreStated o
unfolding statement_of
statement_of-is [] o h = subst AreStated (ok_is None o h) tt
statement_of-is (name w ∷ ts) o h = either_at-is (begins_with_dot w) w ts o h
statement_of-is ts o h = absurd cc

placed-keeps : (P : Layout → Type 0) → IsKept P → (n : ℕ) (s t : Layout) (stated : Option Statement) → AreStated stated → placed n s stated ≡ Ok t → P s → P t
unfolding placed
placed-keeps P k n s t None is h p = subst P (ok_is s t h) p
placed-keeps P k n s t (Some stated) is h p =
    let a = then_ok (may_stand s.part stated) kinds.Directive (fields_behind stated s.fields >>= λ f. fitted n s stated f) t h in
    let b = bind_ok (fields_behind stated s.fields) (λ f. fitted n s stated f) t a.1 in
    let c = else_ok (nat_lt most_bytes (at_end s + length_of (at_end s) stated)) kinds.Limit (globals_behind stated s.globals >>= λ names. ok (with_item n s stated b.value names)) t b.second in
    let d = bind_ok (globals_behind stated s.globals) (λ names. ok (with_item n s stated b.value names)) t c.1 in
    subst P (ok_is (with_item n s stated b.value d.value) t d.second) (k.statement n s stated b.value d.value c.0 is a.0 b.first d.first p)

line_step-keeps : (P : Layout → Type 0) → IsKept P → (n : ℕ) (s t : Layout) (line : List ℕ) → line_step n s line ≡ Ok t → P s → P t
unfolding line_step
line_step-keeps P k n s t line h p =
    let a = bind_ok (tokens_of line) _ t h in
    let b = bind_ok (labels_at n s a.value) _ t a.second in
    let c = bind_ok (statement_of b.value.1) _ t b.second in
    placed-keeps P k n b.value.0 t c.value (statement_of-is b.value.1 c.value c.first) c.second (labels_at-keeps P k n s a.value b.value b.first p)

pub lines_from-keeps : (P : Layout → Type 0) → IsKept P → (n : ℕ) (s t : Layout) (ls : List (List ℕ)) → lines_from n s ls ≡ Ok t → P s → P t
unfolding lines_from
lines_from-keeps P k n s t [] h p = subst P (line_ok s t h) p
lines_from-keeps P k n s t (line ∷ others) h p =
    let a = at_line_ok n (line_step n s line) (λ u. lines_from (n + 1) u others) t h in
    lines_from-keeps P k (n + 1) a.value t others a.second (line_step-keeps P k n s a.value line a.first p)
