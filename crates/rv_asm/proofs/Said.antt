-- The fields that the first pass keeps are what the directives so far say.
use Rattle.std.proofs.Common.{◌≡◌, ℕ, List, [], ◌∷◌, ◌++◌, Option, Some, None, Ok, Bool, true, false, option_to_list, refl, sym, ap, subst, ◌∙◌, append-nil, true≢false}
use Rattle.std.proofs.lemmas.List.Elements.{filter_map-append}
use Rattle.std.specs.List.{cons_option}
use Rattle.std.specs.Str.Lines.{lines}
use Rattle.rv_asm_tokens.specs.declared.fault.AsmFaultKind.TheVariants as kinds
use Rattle.rv_asm_statements.specs.declared.directives.Directive.{Directive}
use Rattle.rv_asm_statements.specs.declared.directives.Directive.TheVariants as directive
use Rattle.rv_asm_statements.specs.declared.statements.Statement.{Statement}
use Rattle.rv_asm_statements.specs.declared.statements.Statement.TheVariants.{Label, Instruction, Directive as Directed}
use Rattle.rv_asm_lines.specs.declared.fields.Fields.{Fields}
use Rattle.rv_asm_lines.specs.Item.{Item}
use Rattle.rv_asm_lines.specs.Fields.{fields_after, fields_behind, once, counted_on}
use Rattle.rv_asm_lines.specs.Layout.{Layout, empty_layout, item_at, layout_of, next_place}
use Rattle.rv_asm.specs.Directed.{entry_said, harts_said, if_directed, memory_said, ranks_said, said_by}
use Rattle.rv_asm.proofs.Kept.{IsKept, lines_from-keeps}
use Rattle.rv_asm.proofs.Right.{bind_ok, else_ok, ok, ok_is}

-- ---- one more item

as_list : {A : Type 0} (o : Option A) → cons_option o [] ≡ option_to_list o
as_list None = refl
as_list (Some x) = refl

pub said-push : {A : Type 0} (f : Directive → Option A) (xs : List Item) (x : Item) → said_by f (xs ++ x ∷ []) ≡ said_by f xs ++ option_to_list (if_directed f x.statement)
said-push f xs x = filter_map-append (λ (i : Item). if_directed f i.statement) xs (x ∷ []) ∙ ap (λ l. said_by f xs ++ l) (as_list (if_directed f x.statement))

-- ---- what one directive adds

-- whether an entry is given, and the entries that are said
pub data Entries (has_entry : Bool) (entries : List (List ℕ)) : Type 0 where
  none_yet : has_entry ≡ false → entries ≡ [] → Entries has_entry entries
  one : (w : List ℕ) → has_entry ≡ true → entries ≡ w ∷ [] → Entries has_entry entries

record Adds (d : Directive) (f g : Fields) : Type 0 where
  ranks : option_to_list g.ranks ≡ option_to_list f.ranks ++ option_to_list (ranks_said d)
  harts : option_to_list g.harts ≡ option_to_list f.harts ++ option_to_list (harts_said d)
  memory : option_to_list g.memory ≡ option_to_list f.memory ++ option_to_list (memory_said d)
  entries : (entries : List (List ℕ)) → Entries f.has_entry entries → Entries g.has_entry (entries ++ option_to_list (entry_said d))

pub with_none : {A : Type 0} (xs : List A) → xs ≡ xs ++ []
with_none xs = sym (append-nil xs)

same_entries : (b : Bool) (entries : List (List ℕ)) → Entries b entries → Entries b (entries ++ [])
same_entries b entries e = subst (Entries b) (with_none entries) e

nothing_added : (d : Directive) (f g : Fields) → ranks_said d ≡ None → harts_said d ≡ None → memory_said d ≡ None → entry_said d ≡ None → f.ranks ≡ g.ranks → f.harts ≡ g.harts → f.memory ≡ g.memory → f.has_entry ≡ g.has_entry → Adds d f g
nothing_added d f g r h m e sr sh sm se = record {
  ranks = rw (r, ← sr) (with_none (option_to_list f.ranks));
  harts = rw (h, ← sh) (with_none (option_to_list f.harts));
  memory = rw (m, ← sm) (with_none (option_to_list f.memory));
  entries = λ entries is. rw (e, ← se) (same_entries f.has_entry entries is);
}

once_adds : {A : Type 0} (old : Option A) (x : A) (new : Option A) → once old x ≡ Ok new → option_to_list new ≡ option_to_list old ++ x ∷ []
once_adds None x new h = ap option_to_list (sym (ok_is (Some x) new h))
once_adds (Some y) x new h = absurd cc

entry_added : (w : List ℕ) (b : Bool) (entries : List (List ℕ)) → b ≡ false → Entries b entries → Entries true (entries ++ w ∷ [])
entry_added w b entries h (none_yet unset is) = one w refl (rw is refl)
entry_added w b entries h (one v set is) = absurd (true≢false (sym set ∙ h))

directive_adds : (d : Directive) (f g : Fields) → fields_after d f ≡ Ok g → Adds d f g
unfolding fields_after
directive_adds (directive.Ranks n) f g h =
    let a = bind_ok (once f.ranks n) (λ x. ok (record f { ranks = x })) g h in
    subst (Adds (directive.Ranks n) f) (ok_is (record f { ranks = a.value }) g a.second) (record { ranks = once_adds f.ranks n a.value a.first; harts = with_none _; memory = with_none _; entries = same_entries f.has_entry })
directive_adds (directive.Harts n) f g h =
    let a = bind_ok (once f.harts n) (λ x. ok (record f { harts = x })) g h in
    subst (Adds (directive.Harts n) f) (ok_is (record f { harts = a.value }) g a.second) (record { harts = once_adds f.harts n a.value a.first; ranks = with_none _; memory = with_none _; entries = same_entries f.has_entry })
directive_adds (directive.Memory n) f g h =
    let a = bind_ok (once f.memory n) (λ x. ok (record f { memory = x })) g h in
    subst (Adds (directive.Memory n) f) (ok_is (record f { memory = a.value }) g a.second) (record { memory = once_adds f.memory n a.value a.first; harts = with_none _; ranks = with_none _; entries = same_entries f.has_entry })
directive_adds (directive.Entry w) f g h =
    let a = else_ok f.has_entry kinds.Directive (ok (record f { has_entry = true })) g h in
    subst (Adds (directive.Entry w) f) (ok_is (record f { has_entry = true }) g a.1) (record { ranks = with_none _; harts = with_none _; memory = with_none _; entries = λ entries is. entry_added w f.has_entry entries a.0 is })
directive_adds (directive.Comm zs) f g h =
    let a = bind_ok (counted_on 7 f.comms) (λ n. ok (record f { comms = n })) g h in
    subst (Adds (directive.Comm zs) f) (ok_is (record f { comms = a.value }) g a.second) (nothing_added (directive.Comm zs) f (record f { comms = a.value }) refl refl refl refl refl refl refl refl)
directive_adds (directive.Link from to) f g h =
    let a = bind_ok (counted_on 32 f.links) (λ n. ok (record f { links = n })) g h in
    subst (Adds (directive.Link from to) f) (ok_is (record f { links = a.value }) g a.second) (nothing_added (directive.Link from to) f (record f { links = a.value }) refl refl refl refl refl refl refl refl)
directive_adds directive.Text f g h = subst (Adds directive.Text f) (ok_is f g h) (nothing_added directive.Text f f refl refl refl refl refl refl refl refl)
directive_adds directive.Data f g h = subst (Adds directive.Data f) (ok_is f g h) (nothing_added directive.Data f f refl refl refl refl refl refl refl refl)
directive_adds (directive.Items w xs) f g h = subst (Adds (directive.Items w xs) f) (ok_is f g h) (nothing_added (directive.Items w xs) f f refl refl refl refl refl refl refl refl)
directive_adds (directive.Bytes bs) f g h = subst (Adds (directive.Bytes bs) f) (ok_is f g h) (nothing_added (directive.Bytes bs) f f refl refl refl refl refl refl refl refl)
directive_adds (directive.Zero n) f g h = subst (Adds (directive.Zero n) f) (ok_is f g h) (nothing_added (directive.Zero n) f f refl refl refl refl refl refl refl refl)
directive_adds (directive.Align n) f g h = subst (Adds (directive.Align n) f) (ok_is f g h) (nothing_added (directive.Align n) f f refl refl refl refl refl refl refl refl)
directive_adds (directive.Global w) f g h = subst (Adds (directive.Global w) f) (ok_is f g h) (nothing_added (directive.Global w) f f refl refl refl refl refl refl refl refl)

-- ---- all lines

pub record HasSaid (f : Fields) (items : List Item) : Type 0 where
  pub ranks : option_to_list f.ranks ≡ said_by ranks_said items
  pub harts : option_to_list f.harts ≡ said_by harts_said items
  pub memory : option_to_list f.memory ≡ said_by memory_said items
  pub entries : Entries f.has_entry (said_by entry_said items)

-- a statement that is no directive says nothing
abbrev IsSilent : Statement → Type 0
IsSilent (Directed d) = ⊥
IsSilent _ = Unit {0}

says_nothing : {A : Type 0} (said : Directive → Option A) (stated : Statement) → IsSilent stated → if_directed said stated ≡ None
says_nothing said (Label w) is = refl
says_nothing said (Instruction u) is = refl
says_nothing said (Directed d) is = absurd is

silent : (f : Fields) (items : List Item) (x : Item) → IsSilent x.statement → HasSaid f items → HasSaid f (items ++ x ∷ [])
silent f items x is h = record {
  ranks = h.ranks ∙ same ranks_said;
  harts = h.harts ∙ same harts_said;
  memory = h.memory ∙ same memory_said;
  entries = subst (Entries f.has_entry) (same entry_said) h.entries;
}
  where
    same : {A : Type 0} (said : Directive → Option A) → said_by said items ≡ said_by said (items ++ x ∷ [])
    same said = sym (said-push said items x ∙ ap (λ o. said_by said items ++ option_to_list o) (says_nothing said x.statement is) ∙ append-nil (said_by said items))

spoken : (n : ℕ) (s : Layout) (stated : Statement) (f : Fields) → fields_behind stated s.fields ≡ Ok f → HasSaid s.fields s.items → HasSaid f (s.items ++ item_at n (next_place s) stated ∷ [])
spoken n s (Label w) f behind h = subst (λ (g : Fields). HasSaid g (s.items ++ item_at n (next_place s) (Label w) ∷ [])) (ok_is s.fields f behind) (silent s.fields s.items (item_at n (next_place s) (Label w)) tt h)
spoken n s (Instruction u) f behind h = subst (λ (g : Fields). HasSaid g (s.items ++ item_at n (next_place s) (Instruction u) ∷ [])) (ok_is s.fields f behind) (silent s.fields s.items (item_at n (next_place s) (Instruction u)) tt h)
spoken n s (Directed d) f behind h =
    let a = directive_adds d s.fields f behind in
    let x = item_at n (next_place s) (Directed d) in
    record {
      ranks = a.ranks ∙ ap (λ l. l ++ option_to_list (ranks_said d)) h.ranks ∙ sym (said-push ranks_said s.items x);
      harts = a.harts ∙ ap (λ l. l ++ option_to_list (harts_said d)) h.harts ∙ sym (said-push harts_said s.items x);
      memory = a.memory ∙ ap (λ l. l ++ option_to_list (memory_said d)) h.memory ∙ sym (said-push memory_said s.items x);
      entries = subst (Entries f.has_entry) (sym (said-push entry_said s.items x)) (a.entries (said_by entry_said s.items) h.entries);
    }

abbrev AllSaid : Layout → Type 0
AllSaid s = HasSaid s.fields s.items

said_kept : IsKept AllSaid
said_kept = record {
  label = λ n s w p. silent s.fields s.items (item_at n (next_place s) (Label w)) tt p;
  statement = λ n s stated f names room is may behind named p. spoken n s stated f behind p;
}

pub layout_has_said : (source : List ℕ) (s : Layout) → layout_of source ≡ Ok s → HasSaid s.fields s.items
layout_has_said source s laid = lines_from-keeps AllSaid said_kept 1 empty_layout s (lines source) laid (record { ranks = refl; harts = refl; memory = refl; entries = none_yet refl refl })
