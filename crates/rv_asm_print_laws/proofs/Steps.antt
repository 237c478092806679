-- A printed line in the two passes.
use Rattle.std.proofs.Common.{◌≡◌, ℕ, ◌+◌, ◌≤◌, List, [], ◌∷◌, ◌++◌, true, false, Some, Ok, Err, nat_lt, if◌then◌else◌, refl, ap, ◌∙◌, arith, tests}
use Rattle.rv_decode.specs.declared.instruction.Instr.{Instr}
use Rattle.rv_decode.specs.Table.{written_word}
use Rattle.rv_asm_tokens.specs.declared.fault.AsmFaultKind.TheVariants as kinds
use Rattle.rv_asm_tokens.specs.Lexeme.{Lexeme, name}
use Rattle.rv_asm_tokens.specs.Scan.{tokens_of}
use Rattle.rv_asm_statements.specs.declared.mnemonics.Use.{Use}
use Rattle.rv_asm_statements.specs.declared.statements.Statement.TheVariants.{Instruction}
use Rattle.rv_asm_statements.specs.Statements.{statement_of}
use Rattle.rv_asm_lines.specs.declared.parts.Part.{Part}
use Rattle.rv_asm_lines.specs.declared.parts.Part.TheVariants.{Text}
use Rattle.rv_asm_lines.specs.declared.parts.Place.{Place}
use Rattle.rv_asm_lines.specs.Resolved.{instrs_of, use_length}
use Rattle.rv_asm_lines.specs.Parts.{is_text}
use Rattle.rv_asm_lines.specs.Layout.{Layout, most_bytes, end_of, at_end, addresses, with_item, labels_at, fitted, placed, line_step}
use Rattle.rv_asm_lines.specs.Output.{Output, word_bytes, with_use, stated_step}
use Rattle.rv_asm_print_laws.proofs.Branches.{else_branch}
use Rattle.rv_asm_print_laws.proofs.Instructions.{begin_statement, IsLine}

-- a line that begins with no label
unlabeled : (n : ℕ) (s : Layout) (ts : List Lexeme) → begin_statement ts ≡ true → labels_at n s ts ≡ Ok (s, ts)
unfolding labels_at
unlabeled n s [] h = absurd cc
unlabeled n s (name w ∷ []) h = refl
unlabeled n s (name w ∷ name v ∷ ts) h = refl
unlabeled n s ts h = absurd cc

-- ---- the first pass

no_limit : (k : ℕ) → k ≤ most_bytes → nat_lt most_bytes k ≡ false
no_limit k h = grind (arith, tests)

if_text : {A : Type 0} (part : Part) (x y : A) → part ≡ Text → (if is_text part then x else y) ≡ x
if_text part x y h = ap (λ (q : Part). if is_text q then x else y) h

end_in_text : (s : Layout) → s.part ≡ Text → at_end s ≡ s.text
end_in_text s h = ap (λ (q : Part). end_of q s.text s.init) h

fits_here : (s : Layout) (k : ℕ) → s.part ≡ Text → k ≡ 4 → s.text + 4 ≤ most_bytes → at_end s + k ≤ most_bytes
fits_here s k in_text four room = rw (end_in_text s in_text, four) room

-- an instruction of four bytes is placed where there is room for it
instruction_placed : (n : ℕ) (s : Layout) (u : Use) → use_length u ≡ 4 → s.part ≡ Text → s.text + 4 ≤ most_bytes → placed n s (Some (Instruction u)) ≡ Ok (with_item n s (Instruction u) s.fields s.globals)
unfolding placed
instruction_placed n s u four in_text room =
    if_text s.part (fitted n s (Instruction u) s.fields) (Err kinds.Directive) in_text
    ∙ else_branch (nat_lt most_bytes (at_end s + use_length u)) (Err kinds.Limit) (Ok (with_item n s (Instruction u) s.fields s.globals)) (no_limit (at_end s + use_length u) (fits_here s (use_length u) in_text four room))

-- the steps of a line, one behind another
line_read : (n : ℕ) (s t : Layout) (x : List ℕ) (ts : List Lexeme) (u : Use) → tokens_of x ≡ Ok ts → labels_at n s ts ≡ Ok (s, ts) → statement_of ts ≡ Ok (Some (Instruction u)) → placed n s (Some (Instruction u)) ≡ Ok t → line_step n s x ≡ Ok t
unfolding line_step
line_read n s t x ts u scanned labels stated here = rw (scanned, labels, stated, here) refl

pub line_placed : (x : List ℕ) (i : Instr) (l : IsLine x i) (n : ℕ) (s : Layout) → s.part ≡ Text → s.text + 4 ≤ most_bytes → line_step n s x ≡ Ok (with_item n s (Instruction l.read.used) s.fields s.globals)
line_placed x i l n s in_text room =
    line_read n s (with_item n s (Instruction l.read.used) s.fields s.globals) x l.read.tokens l.read.used l.read.scanned (unlabeled n s l.read.tokens l.unlabeled) l.read.stated
    (instruction_placed n s l.read.used l.four in_text room)

-- ---- the second pass

word_written : (labels : List (List ℕ × ℕ)) (at : ℕ) (u : Use) (i : Instr) (text : List ℕ) → instrs_of labels at u.template u.filled ≡ Ok (i ∷ []) → with_use labels at u text ≡ Ok (text ++ word_bytes (written_word i ∷ []))
unfolding with_use
word_written labels at u i text made = rw made refl

pub line_written : (x : List ℕ) (i : Instr) (l : IsLine x i) (s : Layout) (p : Place) (o : Output) → stated_step s p (Instruction l.read.used) o ≡ Ok (record o { text = o.text ++ word_bytes (written_word i ∷ []) })
unfolding stated_step
line_written x i l s p o = rw (word_written (addresses s.text s.labels) p.at l.read.used i o.text (l.read.instrs (addresses s.text s.labels) p.at)) refl
