-- One line, or one item, after the other.
use Rattle.std.proofs.Common.{◌≡◌, ℕ, ◌+◌, ◌<◌, List, [], ◌∷◌, length, drop, get_or, Result, Ok, refl, sym, ap, ◌∙◌, add-one}
use Rattle.std.proofs.Math.Seq.{drop-cons}
use Rattle.rv_asm_tokens.specs.declared.fault.AsmFaultKind.{AsmFaultKind}
use Rattle.rv_asm_tokens.specs.declared.fault.AsmFaultKind.TheVariants as kinds
use Rattle.rv_asm_tokens.specs.declared.fault.AsmFault.{AsmFault}
use Rattle.rv_asm_tokens.specs.Returned.{Fails}
use Rattle.rv_asm_lines.specs.Item.{Item}
use Rattle.rv_asm_lines.specs.Layout.{Layout, line_step, lines_from, at_line}
use Rattle.rv_asm_lines.specs.Output.{Output, item_step, items_from}
use Rattle.rv_asm.specs.Made.{FailsAt}

abbrev fault_at : ℕ → AsmFaultKind → AsmFault
fault_at n kind = record { line = n; kind = kind }

pub fails_at : {A B : Type 0} (n : ℕ) (kind : AsmFaultKind) (r : Result A AsmFaultKind) (f : A → Result B AsmFault) (whole : Result B AsmFault) → at_line n r f ≡ whole → Fails kind r → FailsAt (fault_at n kind) whole
fails_at n kinds.Memory r f whole same h = tt
fails_at n kinds.Token r f whole same h = rw (← same, h) refl
fails_at n kinds.Mnemonic r f whole same h = rw (← same, h) refl
fails_at n kinds.Operand r f whole same h = rw (← same, h) refl
fails_at n (kinds.Range v) r f whole same h = rw (← same, h) refl
fails_at n kinds.LabelTwice r f whole same h = rw (← same, h) refl
fails_at n kinds.LabelMissing r f whole same h = rw (← same, h) refl
fails_at n kinds.Directive r f whole same h = rw (← same, h) refl
fails_at n kinds.Limit r f whole same h = rw (← same, h) refl

-- from i on there is the line at i, and the rest
pub line_at : (all : List (List ℕ)) (n i : ℕ) (line bytes : List ℕ) → n ≡ i → i < length all → line ≡ get_or all i line → bytes ≡ line → drop n all ≡ bytes ∷ drop (n + 1) all
line_at all n i line bytes same lt is seen = rw (same, seen) (cons_here all i line lt ∙ ap (λ (l : List ℕ). l ∷ drop (i + 1) all) (sym is))
  where
    cons_here : (xs : List (List ℕ)) (i : ℕ) (d : List ℕ) → i < length xs → drop i xs ≡ get_or xs i d ∷ drop (i + 1) xs
    cons_here xs i d lt = rw (add-one, drop-cons xs i d) refl

pub line_stops : (n : ℕ) (s : Layout) (ls : List (List ℕ)) (l : List ℕ) (others : List (List ℕ)) (kind : AsmFaultKind) (whole : Result Layout AsmFault) → ls ≡ l ∷ others → Fails kind (line_step n s l)
    → lines_from n s ls ≡ whole → FailsAt (fault_at n kind) whole
unfolding lines_from
line_stops n s ls l others kind whole is h so_far =
    let next : lines_from n s (l ∷ others) ≡ whole = ap (lines_from n s) (sym is) ∙ so_far in
    fails_at n kind (line_step n s l) (λ t. lines_from (n + 1) t others) whole next h

pub line_goes : (n : ℕ) (s t : Layout) (ls : List (List ℕ)) (l : List ℕ) (others : List (List ℕ)) (whole : Result Layout AsmFault) → ls ≡ l ∷ others → line_step n s l ≡ Ok t
    → lines_from n s ls ≡ whole → lines_from (n + 1) t others ≡ whole
unfolding lines_from
line_goes n s t ls l others whole is h so_far =
    let one : lines_from n s (l ∷ others) ≡ lines_from (n + 1) t others = rw h refl in
    sym one ∙ ap (lines_from n s) (sym is) ∙ so_far

pub lines_end : (n : ℕ) (s : Layout) (ls : List (List ℕ)) (whole : Result Layout AsmFault) → ls ≡ [] → lines_from n s ls ≡ whole → whole ≡ Ok s
unfolding lines_from
lines_end n s ls whole is so_far = sym so_far ∙ ap (lines_from n s) is

-- ---- items

pub item_stops : (s : Layout) (o : Output) (xs : List Item) (x : Item) (others : List Item) (kind : AsmFaultKind) (whole : Result Output AsmFault) → xs ≡ x ∷ others → Fails kind (item_step s x o)
    → items_from s o xs ≡ whole → FailsAt (fault_at x.line kind) whole
unfolding items_from
item_stops s o xs x others kind whole is h so_far =
    let next : items_from s o (x ∷ others) ≡ whole = ap (items_from s o) (sym is) ∙ so_far in
    fails_at x.line kind (item_step s x o) (λ p. items_from s p others) whole next h

pub item_goes : (s : Layout) (o p : Output) (xs : List Item) (x : Item) (others : List Item) (whole : Result Output AsmFault) → xs ≡ x ∷ others → item_step s x o ≡ Ok p
    → items_from s o xs ≡ whole → items_from s p others ≡ whole
unfolding items_from
item_goes s o p xs x others whole is h so_far =
    let one : items_from s o (x ∷ others) ≡ items_from s p others = rw h refl in
    sym one ∙ ap (items_from s o) (sym is) ∙ so_far

pub items_end : (s : Layout) (o : Output) (xs : List Item) (whole : Result Output AsmFault) → xs ≡ [] → items_from s o xs ≡ whole → whole ≡ Ok o
unfolding items_from
items_end s o xs whole is so_far = sym so_far ∙ ap (items_from s o) is

-- from i on there is what stands at i, and the rest
pub cons_at : {A : Type 0} (xs : List A) (i : ℕ) (d : A) → i < length xs → drop i xs ≡ get_or xs i d ∷ drop (i + 1) xs
cons_at xs i d lt = rw (add-one, drop-cons xs i d) refl
