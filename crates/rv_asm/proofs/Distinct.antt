-- No two labels of a source have one name: each is found where it stands.
use Rattle.std.proofs.Common.{◌≡◌, ℕ, ◌+◌, List, [], ◌∷◌, ◌++◌, Option, Some, None, Ok, Bool, true, false, cond, is_some, refl, ap, subst}
use Rattle.std.proofs.lemmas.List.Elements.{All-append, All-cons, All-nil}
use Rattle.std.specs.Prelude.{All, get_or}
use Rattle.std.specs.Cmp.Lexicographic.{bytes_decides}
use Rattle.std.specs.Str.{bytes_eq}
use Rattle.std.specs.Str.Lines.{lines}
use Rattle.rv_asm_tokens.specs.declared.fault.AsmFaultKind.TheVariants as kinds
use Rattle.rv_asm_tokens.specs.Fault.{◌>>=◌}
use Rattle.rv_asm_tokens.specs.Lexeme.{Lexeme, name, colon}
use Rattle.rv_asm_tokens.specs.Scan.{tokens_of}
use Rattle.rv_asm_statements.specs.declared.statements.Statement.{Statement}
use Rattle.rv_asm_statements.specs.Statements.{statement_of}
use Rattle.rv_asm_lines.specs.declared.parts.Place.{Place}
use Rattle.rv_asm_lines.specs.Fields.{fields_behind}
use Rattle.rv_asm_lines.specs.Globals.{globals_behind}
use Rattle.rv_asm_lines.specs.Layout.{Labels, Layout, empty_layout, fitted, labels_at, layout_of, line_step, lines_from, next_place, place_in, placed, with_item, with_label}
use Rattle.rv_asm_lines.specs.Parts.{may_stand}
use Rattle.rv_asm.proofs.Right.{at_line_ok, bind_ok, else_ok, if_ok, line_ok, ok, ok_is, then_ok}
use Rattle.rv_asm.proofs.Staying.{found_before}

abbrev pub AreDistinct : Labels → Type 0
AreDistinct labels = All (λ l. place_in l.0 labels ≡ Some l.1) labels

-- a new label is found behind the others
found_last : (w : List ℕ) (place : Place) (ls : Labels) → is_some (place_in w ls) ≡ false → place_in w (ls ++ (w, place) ∷ []) ≡ Some place
found_last w place [] h = rw ((bytes_decides w w).1 refl) refl
found_last w place (l ∷ ls) h = go (bytes_eq w l.0) (found_last w place ls) h
  where
    go : (b : Bool) → (is_some (place_in w ls) ≡ false → place_in w (ls ++ (w, place) ∷ []) ≡ Some place) → is_some (cond b (Some l.1) (place_in w ls)) ≡ false → cond b (Some l.1) (place_in w (ls ++ (w, place) ∷ [])) ≡ Some place
    go true again h = absurd cc
    go false again h = again h

distinct-push : (w : List ℕ) (place : Place) (ls : Labels) → is_some (place_in w ls) ≡ false → AreDistinct ls → AreDistinct (ls ++ (w, place) ∷ [])
distinct-push w place ls new h =
    let all : Labels = ls ++ (w, place) ∷ [] in
    let P : List ℕ × Place → Type 0 = λ l. place_in l.0 all ≡ Some l.1 in
    let old : All P ls = λ k d lt. found_before (get_or ls k d).0 ls ((w, place) ∷ []) (get_or ls k d).1 (h k d lt) in
    All-append P ls ((w, place) ∷ []) old (All-cons P (w, place) [] (found_last w place ls new) (All-nil P))

first_is : (s : Layout) (ts : List Lexeme) (f : Layout × List Lexeme) → ok (s, ts) ≡ Ok f → s ≡ f.0
first_is s ts f h = ap (λ (p : Layout × List Lexeme). p.0) (ok_is (s, ts) f h)

labels_at-distinct : (n : ℕ) (s : Layout) (ts : List Lexeme) (f : Layout × List Lexeme) → labels_at n s ts ≡ Ok f → AreDistinct s.labels → AreDistinct f.0.labels
unfolding labels_at
labels_at-distinct n s (name w ∷ colon ∷ rest) f h p =
    let a = else_ok (is_some (place_in w s.labels)) kinds.LabelTwice (labels_at n (with_label n s w) rest) f h in
    labels_at-distinct n (with_label n s w) rest f a.1 (distinct-push w (next_place s) s.labels a.0 p)
labels_at-distinct n s ts f h p = subst (λ (l : Layout). AreDistinct l.labels) (first_is s ts f h) p

-- a statement leaves the labels
placed_labels : (n : ℕ) (s t : Layout) (stated : Option Statement) → placed n s stated ≡ Ok t → s.labels ≡ t.labels
unfolding placed
placed_labels n s t None h = ap (λ (l : Layout). l.labels) (ok_is s t h)
placed_labels n s t (Some stated) h =
    let a = then_ok (may_stand s.part stated) kinds.Directive (fields_behind stated s.fields >>= λ f. fitted n s stated f) t h in
    let b = bind_ok (fields_behind stated s.fields) (λ f. fitted n s stated f) t a.1 in
    let c = if_ok _ kinds.Limit (globals_behind stated s.globals >>= λ names. ok (with_item n s stated b.value names)) t b.second in
    let d = bind_ok (globals_behind stated s.globals) (λ names. ok (with_item n s stated b.value names)) t c in
    ap (λ (l : Layout). l.labels) (ok_is (with_item n s stated b.value d.value) t d.second)

line_step-distinct : (n : ℕ) (s t : Layout) (line : List ℕ) → line_step n s line ≡ Ok t → AreDistinct s.labels → AreDistinct t.labels
unfolding line_step
line_step-distinct n s t line h p =
    let a = bind_ok (tokens_of line) _ t h in
    let b = bind_ok (labels_at n s a.value) _ t a.second in
    let c = bind_ok (statement_of b.value.1) _ t b.second in
    subst AreDistinct (placed_labels n b.value.0 t c.value c.second) (labels_at-distinct n s a.value b.value b.first p)

lines_from-distinct : (n : ℕ) (s t : Layout) (ls : List (List ℕ)) → lines_from n s ls ≡ Ok t → AreDistinct s.labels → AreDistinct t.labels
unfolding lines_from
lines_from-distinct n s t [] h p = subst (λ (l : Layout). AreDistinct l.labels) (line_ok s t h) p
lines_from-distinct n s t (line ∷ others) h p =
    let a = at_line_ok n (line_step n s line) (λ u. lines_from (n + 1) u others) t h in
    lines_from-distinct (n + 1) a.value t others a.second (line_step-distinct n s a.value line a.first p)

pub layout_distinct : (source : List ℕ) (s : Layout) → layout_of source ≡ Ok s → AreDistinct s.labels
layout_distinct source s laid = lines_from-distinct 1 empty_layout s (lines source) laid (All-nil (λ (l : List ℕ × Place). place_in l.0 [] ≡ Some l.1))
