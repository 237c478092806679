-- How many bytes the second pass makes of a statement: as many as the first pass counted.
use Rattle.std.proofs.Common.{◌≡◌, ℕ, ◌+◌, ◌*◌, List, [], ◌∷◌, ◌++◌, length, map, replicate, Result, Ok, Err, Bool, true, false, refl, sym, ap, ◌∙◌, arith, length-append, pos, negsuc, ℤ}
use Rattle.std.proofs.lemmas.List.{length-map, length-replicate}
use Rattle.std.specs.Int.{w32, to_le_bytes}
use Rattle.std.specs.Ordering.{int_eq}
use Rattle.std.specs.Prelude.{if◌then◌else◌}
use Rattle.rv_decode.specs.declared.instruction.Instr.{Instr}
use Rattle.rv_decode.specs.Table.{written_word}
use Rattle.rv_asm_tokens.specs.declared.fault.AsmFaultKind.{AsmFaultKind}
use Rattle.rv_asm_tokens.specs.declared.fault.AsmFaultKind.TheVariants as kinds
use Rattle.rv_asm_tokens.specs.Fault.{◌>>=◌}
use Rattle.rv_asm_statements.specs.declared.directives.Directive.{Directive}
use Rattle.rv_asm_statements.specs.declared.directives.Directive.TheVariants as directive
use Rattle.rv_asm_statements.specs.declared.directives.Width.{Width}
use Rattle.rv_asm_statements.specs.declared.directives.Width.TheVariants.{Byte, Half, Word, Double}
use Rattle.rv_asm_statements.specs.declared.filled.Filled.{Filled}
use Rattle.rv_asm_statements.specs.declared.filled.Target.{Target}
use Rattle.rv_asm_statements.specs.declared.mnemonics.Use.{Use}
use Rattle.rv_asm_statements.specs.declared.rows.Template.{Template}
use Rattle.rv_asm_statements.specs.declared.rows.Template.TheVariants as template
use Rattle.rv_asm_lines.specs.Data.{low_bytes, item_ranged, item_bytes, items_bytes, directive_bytes}
use Rattle.rv_asm_lines.specs.Output.{word_bytes, with_use}
use Rattle.rv_asm_lines.specs.Parts.{alignment_bytes, directive_length, padding, width_bytes}
use Rattle.rv_asm_lines.specs.Resolved.{ranged, imm_32, goal_offset, is_between, low_part, load_immediate, load_address, register_at, one, single, jal_of, branch_of, instrs_of, words_of, count_of, use_length}
use Rattle.rv_asm.proofs.Right.{bind_ok, ok, ok_is}

-- ---- instructions

load_immediate-length : (d : ℕ) (z : ℤ) → length (load_immediate d z) ≡ length (load_immediate 0 z)
load_immediate-length d z = counted (is_between (negsuc 2047) (pos 2047) z) (int_eq (low_part z) (pos 0)) _ _ _ _ _ _ _ _
  where
    counted : (b c : Bool) (i j k l m n o p : Instr) → length (if b then i ∷ [] else (if c then j ∷ [] else k ∷ l ∷ [])) ≡ length (if b then m ∷ [] else (if c then n ∷ [] else o ∷ p ∷ []))
    counted true c i j k l m n o p = refl
    counted false true i j k l m n o p = refl
    counted false false i j k l m n o p = refl

pub ranged-between : (low high z y : ℤ) → ranged low high z ≡ Ok y → (is_between low high z ≡ true) × (y ≡ z)
unfolding ranged
ranged-between low high z y h = go (is_between low high z) h
  where
    go : (b : Bool) → (if b then ok z else Err (kinds.Range z)) ≡ ok y → (b ≡ true) × (y ≡ z)
    go true h = (refl, sym (ok_is z y h))
    go false h = absurd cc

one_counted : (r : Result Instr AsmFaultKind) (is : List Instr) → single r ≡ Ok is → length is ≡ 1
one_counted r is h =
    let a = bind_ok r (λ i. ok (one i)) is h in
    ap length (sym (ok_is (one a.value) is a.second))

two_steps : {A : Type 0} (r : Result A AsmFaultKind) (f : A → Result Instr AsmFaultKind) (is : List Instr) → (r >>= λ x. single (f x)) ≡ Ok is → length is ≡ 1
two_steps r f is h =
    let a = bind_ok r (λ x. single (f x)) is h in
    one_counted (f a.value) is a.second

pub instrs_of-length : (labels : List (List ℕ × ℕ)) (at : ℕ) (t : Template) (o : Filled) (is : List Instr) → instrs_of labels at t o ≡ Ok is → length is ≡ count_of t o
unfolding instrs_of
instrs_of-length labels at (template.Upper op d) o is h = one_counted _ is h
instrs_of-length labels at (template.Jal d) o is h = two_steps _ (jal_of (register_at d o)) is h
instrs_of-length labels at (template.Jalr d s n) o is h = one_counted _ is h
instrs_of-length labels at (template.Branch op s t) o is h = two_steps _ (branch_of op (register_at s o) (register_at t o)) is h
instrs_of-length labels at (template.Load op d s) o is h = one_counted _ is h
instrs_of-length labels at (template.Store op s t) o is h = one_counted _ is h
instrs_of-length labels at (template.Imm op d s n) o is h = one_counted _ is h
instrs_of-length labels at (template.Shift op d s) o is h = one_counted _ is h
instrs_of-length labels at (template.Arith op d s t) o is h = ap length (sym (ok_is _ is h))
instrs_of-length labels at template.Fence o is h = ap length (sym (ok_is _ is h))
instrs_of-length labels at template.Ecall o is h = ap length (sym (ok_is _ is h))
instrs_of-length labels at template.Ebreak o is h = ap length (sym (ok_is _ is h))
instrs_of-length labels at (template.LoadImmediate d) o is h =
    let a = bind_ok (imm_32 o.target.number) (λ z. ok (load_immediate (register_at d o) z)) is h in
    let b = ranged-between _ _ o.target.number a.value a.first in
    let made : length is ≡ length (load_immediate 0 o.target.number) = ap length (sym (ok_is _ is a.second)) ∙ load_immediate-length (register_at d o) a.value ∙ ap (λ z. length (load_immediate 0 z)) b.1 in
    made ∙ rw (b.0) refl
instrs_of-length labels at (template.LoadAddress d) o is h =
    let a = bind_ok (goal_offset labels 0 o.target) (λ z. ok (load_address (register_at d o) z)) is h in
    ap length (sym (ok_is _ is a.second))

word_bytes-length : (words : List ℕ) → length (word_bytes words) ≡ 4 * length words
word_bytes-length [] = refl
word_bytes-length (w ∷ ws) = omega (arith, length-append (to_le_bytes w32 w) (word_bytes ws), word_bytes-length ws)

pub with_use-length : (labels : List (List ℕ × ℕ)) (at : ℕ) (u : Use) (old made : List ℕ) → with_use labels at u old ≡ Ok made → length made ≡ length old + use_length u
unfolding with_use use_length
with_use-length labels at u old made h =
    let a = bind_ok (words_of labels at u.template u.filled) (λ words. ok (old ++ word_bytes words)) made h in
    let b = bind_ok (instrs_of labels at u.template u.filled) (λ is. ok (map written_word is)) a.value a.first in
    let words : length a.value ≡ count_of u.template u.filled = ap length (sym (ok_is _ a.value b.second)) ∙ length-map b.value written_word ∙ instrs_of-length labels at u.template u.filled b.value b.first in
    let all : length made ≡ length (old ++ word_bytes a.value) = ap length (sym (ok_is _ made a.second)) in
    all ∙ length-append old (word_bytes a.value) ∙ ap (λ k. length old + k) (word_bytes-length a.value ∙ ap (λ k. 4 * k) words)

-- ---- data

low_bytes-length : (w : Width) (z : ℤ) → length (low_bytes (width_bytes w) z) ≡ width_bytes w
unfolding low_bytes
low_bytes-length Byte z = refl
low_bytes-length Half z = refl
low_bytes-length Word z = refl
low_bytes-length Double z = refl

item_bytes-length : (labels : List (List ℕ × ℕ)) (w : Width) (item : Target) (made : List ℕ) → item_bytes labels w item ≡ Ok made → length made ≡ width_bytes w
unfolding item_bytes
item_bytes-length labels w item made h =
    let a = bind_ok (goal_offset labels 0 item) (λ z. item_ranged (width_bytes w) z >>= λ y. ok (low_bytes (width_bytes w) y)) made h in
    let b = bind_ok (item_ranged (width_bytes w) a.value) (λ y. ok (low_bytes (width_bytes w) y)) made a.second in
    ap length (sym (ok_is (low_bytes (width_bytes w) b.value) made b.second)) ∙ low_bytes-length w b.value

items_bytes-length : (labels : List (List ℕ × ℕ)) (w : Width) (items : List Target) (made : List ℕ) → items_bytes labels w items ≡ Ok made → length made ≡ width_bytes w * length items
unfolding items_bytes
items_bytes-length labels w [] made h =
    let nothing : length made ≡ 0 = ap length (sym (ok_is [] made h)) in
    nothing ∙ omega arith
items_bytes-length labels w (item ∷ items) made h =
    let a = bind_ok (item_bytes labels w item) (λ bytes. items_bytes labels w items >>= λ more. ok (bytes ++ more)) made h in
    let b = bind_ok (items_bytes labels w items) (λ more. ok (a.value ++ more)) made a.second in
    let both : length made ≡ length a.value + length b.value = ap length (sym (ok_is (a.value ++ b.value) made b.second)) ∙ length-append a.value b.value in
    let all : length made ≡ width_bytes w + width_bytes w * length items = both ∙ rw (item_bytes-length labels w item a.value a.first, items_bytes-length labels w items b.value b.first) refl in
    all ∙ omega arith

pub directive_bytes-length : (labels : List (List ℕ × ℕ)) (at : ℕ) (d : Directive) (made : List ℕ) → directive_bytes labels at d ≡ Ok made → length made ≡ directive_length at d
unfolding directive_bytes
directive_bytes-length labels at (directive.Items w items) made h = items_bytes-length labels w items made h
directive_bytes-length labels at (directive.Bytes bytes) made h = ap length (sym (ok_is bytes made h))
directive_bytes-length labels at (directive.Zero n) made h = ap length (sym (ok_is (replicate n 0) made h)) ∙ length-replicate n 0
directive_bytes-length labels at (directive.Align n) made h = ap length (sym (ok_is (replicate (padding (alignment_bytes n) at) 0) made h)) ∙ length-replicate (padding (alignment_bytes n) at) 0
directive_bytes-length labels at (directive.Ranks n) made h = ap length (sym (ok_is [] made h))
directive_bytes-length labels at (directive.Harts n) made h = ap length (sym (ok_is [] made h))
directive_bytes-length labels at (directive.Memory n) made h = ap length (sym (ok_is [] made h))
directive_bytes-length labels at (directive.Entry w) made h = ap length (sym (ok_is [] made h))
directive_bytes-length labels at (directive.Comm zs) made h = ap length (sym (ok_is [] made h))
directive_bytes-length labels at (directive.Link a b) made h = ap length (sym (ok_is [] made h))
directive_bytes-length labels at directive.Text made h = ap length (sym (ok_is [] made h))
directive_bytes-length labels at directive.Data made h = ap length (sym (ok_is [] made h))
directive_bytes-length labels at (directive.Global w) made h = ap length (sym (ok_is [] made h))
