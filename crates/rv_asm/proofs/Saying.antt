-- The items of the first pass are what the lines say.
use Rattle.std.proofs.Common.{◌≡◌, ℕ, ◌+◌, List, [], ◌∷◌, ◌++◌, Option, Some, None, Result, Ok, is_some, nat_lt, refl, sym, ap, ◌∙◌, append-nil, append_assoc}
use Rattle.std.proofs.lemmas.List.{map_push}
use Rattle.std.specs.Str.Lines.{lines}
use Rattle.rv_asm_tokens.specs.declared.fault.AsmFaultKind.TheVariants as kinds
use Rattle.rv_asm_tokens.specs.Cursor.{those, tokens_in}
use Rattle.rv_asm_tokens.specs.Fault.{◌>>=◌}
use Rattle.rv_asm_tokens.specs.Lexeme.{Lexeme, name, colon}
use Rattle.rv_asm_tokens.specs.Scan.{tokens_of}
use Rattle.rv_asm_statements.specs.declared.statements.Statement.{Statement}
use Rattle.rv_asm_statements.specs.declared.statements.Statement.TheVariants.{Label}
use Rattle.rv_asm_statements.specs.Statements.{statement_of}
use Rattle.rv_asm_lines.specs.Item.{Item}
use Rattle.rv_asm_lines.specs.Fields.{fields_behind}
use Rattle.rv_asm_lines.specs.Globals.{globals_behind}
use Rattle.rv_asm_lines.specs.Layout.{Layout, at_end, empty_layout, fitted, item_at, labels_at, layout_of, line_step, lines_from, most_bytes, next_place, place_in, placed, with_item, with_label}
use Rattle.rv_asm_lines.specs.Parts.{length_of, may_stand}
use Rattle.rv_asm.specs.Said.{behind_labels, labels_of, numbered, said, said_from, said_in, stated}
use Rattle.rv_asm.proofs.Right.{at_line_ok, bind_ok, else_ok, if_ok, line_ok, ok, ok_is, then_ok}

abbrev Said : Type 0
Said = List (ℕ × Statement)

abbrev view : Item → ℕ × Statement
view item = (item.line, item.statement)

labels_said : (n : ℕ) (s : Layout) (ts : List Lexeme) (f : Layout × List Lexeme) → labels_at n s ts ≡ Ok f → (said_in f.0.items ≡ said_in s.items ++ numbered n (labels_of ts)) × (f.1 ≡ behind_labels ts)
unfolding labels_at
labels_said n s (name w ∷ colon ∷ rest) f h =
    let others = labels_said n (with_label n s w) rest f (if_ok (is_some (place_in w s.labels)) _ (labels_at n (with_label n s w) rest) f h) in
    let pushed = map_push view s.items (item_at n (next_place s) (Label w)) in
    (others.0 ∙ ap (λ (xs : Said). xs ++ numbered n (labels_of rest)) pushed ∙ append_assoc (said_in s.items) ((n, Label w) ∷ []) (numbered n (labels_of rest)), others.1)
labels_said n s ts f h =
    let same : (s, ts) ≡ f = ok_is (s, ts) f h in
    (ap (λ (p : Layout × List Lexeme). said_in p.0.items) (sym same) ∙ sym (append-nil (said_in s.items)), ap (λ (p : Layout × List Lexeme). p.1) (sym same))

placed_said : (n : ℕ) (s t : Layout) (r : Result (Option Statement) _) (o : Option Statement) → r ≡ Ok o → placed n s o ≡ Ok t → said_in t.items ≡ said_in s.items ++ numbered n (stated r)
unfolding placed
placed_said n s t r None is h = rw is (ap (λ (l : Layout). said_in l.items) (sym (ok_is s t h)) ∙ sym (append-nil (said_in s.items)))
placed_said n s t r (Some statement) is h =
    let a = then_ok (may_stand s.part statement) kinds.Directive (fields_behind statement s.fields >>= λ f. fitted n s statement f) t h in
    let b = bind_ok (fields_behind statement s.fields) (λ f. fitted n s statement f) t a.1 in
    let c = else_ok (nat_lt most_bytes (at_end s + length_of (at_end s) statement)) kinds.Limit (globals_behind statement s.globals >>= λ names. ok (with_item n s statement b.value names)) t b.second in
    let d = bind_ok (globals_behind statement s.globals) (λ names. ok (with_item n s statement b.value names)) t c.1 in
    let same : with_item n s statement b.value d.value ≡ t = ok_is (with_item n s statement b.value d.value) t d.second in
    rw is (ap (λ (l : Layout). said_in l.items) (sym same) ∙ map_push view s.items (item_at n (next_place s) statement))

numbered-append : (n : ℕ) (xs ys : List Statement) → numbered n (xs ++ ys) ≡ numbered n xs ++ numbered n ys
numbered-append n [] ys = refl
numbered-append n (x ∷ xs) ys = ap (λ (rest : Said). (n, x) ∷ rest) (numbered-append n xs ys)

line_said : (n : ℕ) (s t : Layout) (line : List ℕ) → line_step n s line ≡ Ok t → said_in t.items ≡ said_in s.items ++ numbered n (said line)
unfolding line_step
line_said n s t line h =
    let a = bind_ok (tokens_of line) _ t h in
    let b = bind_ok (labels_at n s a.value) _ t a.second in
    let c = bind_ok (statement_of b.value.1) _ t b.second in
    let ts : tokens_in line ≡ a.value = ap those a.first in
    let front = labels_said n s a.value b.value b.first in
    let back = placed_said n b.value.0 t (statement_of b.value.1) c.value c.first c.second in
    let xs = labels_of a.value in
    let ys = stated (statement_of b.value.1) in
    let all : said_in t.items ≡ said_in s.items ++ numbered n (xs ++ ys) = back ∙ ap (λ (zs : Said). zs ++ numbered n ys) front.0 ∙ append_assoc (said_in s.items) (numbered n xs) (numbered n ys) ∙ ap (λ (zs : Said). said_in s.items ++ zs) (sym (numbered-append n xs ys)) in
    let is : xs ++ ys ≡ said line = ap (λ (rest : List Lexeme). xs ++ stated (statement_of rest)) front.1 ∙ ap (λ (all : List Lexeme). labels_of all ++ stated (statement_of (behind_labels all))) (sym ts) in
    all ∙ ap (λ (k : List Statement). said_in s.items ++ numbered n k) is

lines_said : (n : ℕ) (s t : Layout) (ls : List (List ℕ)) → lines_from n s ls ≡ Ok t → said_in t.items ≡ said_in s.items ++ said_from n ls
unfolding lines_from
lines_said n s t [] h = ap (λ (l : Layout). said_in l.items) (sym (line_ok s t h)) ∙ sym (append-nil (said_in s.items))
lines_said n s t (line ∷ others) h =
    let a = at_line_ok n (line_step n s line) (λ u. lines_from (n + 1) u others) t h in
    lines_said (n + 1) a.value t others a.second ∙ ap (λ (zs : Said). zs ++ said_from (n + 1) others) (line_said n s a.value line a.first) ∙ append_assoc (said_in s.items) (numbered n (said line)) (said_from (n + 1) others)

-- the items are what the lines say
pub layout_said : (source : List ℕ) (s : Layout) → layout_of source ≡ Ok s → said_in s.items ≡ said_from 1 (lines source)
layout_said source s h = lines_said 1 empty_layout s (lines source) h
