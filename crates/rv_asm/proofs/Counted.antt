-- How many communicators and links the lines so far have, and that the text is whole words.
use Rattle.std.proofs.Common.{◌≡◌, ℕ, ◌+◌, ◌*◌, ◌≤◌, ◌%◌, List, [], ◌∷◌, ◌++◌, Result, Ok, true, nat_lt, length, refl, sym, ap, subst, ◌∙◌, arith, add-zero, zero-add}
use Rattle.std.proofs.lemmas.List.Sums.{sum_by-append}
use Rattle.std.proofs.lemmas.Bool.{ltb-true}
use Rattle.std.specs.Prelude.{sum_by}
use Rattle.rv_asm_tokens.specs.declared.fault.AsmFaultKind.{AsmFaultKind}
use Rattle.rv_asm_tokens.specs.declared.fault.AsmFaultKind.TheVariants as kinds
use Rattle.rv_asm_tokens.specs.Fault.{◌>>=◌}
use Rattle.rv_asm_statements.specs.declared.directives.Directive.{Directive}
use Rattle.rv_asm_statements.specs.declared.directives.Directive.TheVariants as directive
use Rattle.rv_asm_statements.specs.declared.directives.Width.TheVariants.{Byte, Half, Word, Double}
use Rattle.rv_asm_statements.specs.declared.statements.Statement.{Statement}
use Rattle.rv_asm_statements.specs.declared.statements.Statement.TheVariants.{Label, Instruction, Directive as Directed}
use Rattle.rv_asm_lines.specs.declared.fields.Fields.{Fields}
use Rattle.rv_asm_lines.specs.Item.{Item}
use Rattle.rv_asm_lines.specs.declared.parts.Part.{Part}
use Rattle.rv_asm_lines.specs.declared.parts.Part.TheVariants.{Text, Data}
use Rattle.rv_asm_lines.specs.Fields.{fields_after, fields_behind, once, counted_on}
use Rattle.rv_asm_lines.specs.Layout.{Layout, added, at_end, item_at, next_place}
use Rattle.rv_asm_lines.specs.Parts.{length_of, may_stand}
use Rattle.rv_asm_lines.specs.Resolved.{use_length}
use Rattle.rv_asm.proofs.Kept.{IsKept}
use Rattle.rv_asm.proofs.Right.{bind_ok, if_ok, ok, ok_is, then_ok}

-- ---- sums over items

pub sum-push : (f : Item → ℕ) (xs : List Item) (x : Item) → sum_by f (xs ++ x ∷ []) ≡ sum_by f xs + f x
sum-push f xs x = sum_by-append f xs (x ∷ []) ∙ ap (λ k. sum_by f xs + k) (zero-add (f x))

pub sum-cons : (f : Item → ℕ) (x : Item) (xs : List Item) → sum_by f (x ∷ xs) ≡ f x + sum_by f xs
sum-cons f x xs = sum_by-append f (x ∷ []) xs ∙ ap (λ k. k + sum_by f xs) (zero-add (f x))

-- ---- communicators and links

abbrev directive_comms : Directive → ℕ
directive_comms (directive.Comm zs) = 1
directive_comms _ = 0

abbrev directive_links : Directive → ℕ
directive_links (directive.Link a b) = 1
directive_links _ = 0

abbrev pub comms_of : Statement → ℕ
comms_of (Directed d) = directive_comms d
comms_of _ = 0

abbrev pub links_of : Statement → ℕ
links_of (Directed d) = directive_links d
links_of _ = 0

abbrev pub comms_in : List Item → ℕ
comms_in items = sum_by (λ i. comms_of i.statement) items

abbrev pub links_in : List Item → ℕ
links_in items = sum_by (λ i. links_of i.statement) items

-- how the numbers of communicators and links go on
record Counts (more_comms more_links : ℕ) (f g : Fields) : Type 0 where
  comms : g.comms ≡ f.comms + more_comms
  few_comms : f.comms ≤ 7 → g.comms ≤ 7
  links : g.links ≡ f.links + more_links
  few_links : f.links ≤ 32 → g.links ≤ 32

same_counts : (f g : Fields) → f.comms ≡ g.comms → f.links ≡ g.links → Counts 0 0 f g
same_counts f g c l = record { comms = sym c ∙ sym (add-zero f.comms); few_comms = λ h. subst (λ (n : ℕ). n ≤ 7) c h; links = sym l ∙ sym (add-zero f.links); few_links = λ h. subst (λ (n : ℕ). n ≤ 32) l h }

kept_counts : (f g : Fields) → ok f ≡ Ok g → Counts 0 0 f g
kept_counts f g h = let e = ok_is f g h in same_counts f g (ap (λ (x : Fields). x.comms) e) (ap (λ (x : Fields). x.links) e)

field_counts : {A : Type 0} (r : Result A AsmFaultKind) (f g : Fields) (set : A → Fields) → ((x : A) → Counts 0 0 f (set x)) → (r >>= λ x. ok (set x)) ≡ Ok g → Counts 0 0 f g
field_counts r f g set same h =
    let a = bind_ok r (λ x. ok (set x)) g h in
    subst (Counts 0 0 f) (ok_is (set a.value) g a.second) (same a.value)

counted_on-is : (most n m : ℕ) → counted_on most n ≡ Ok m → (m ≡ n + 1) × (m ≤ most)
counted_on-is most n m h =
    let a = then_ok (nat_lt n most) kinds.Limit (Ok (n + 1)) m h in
    let e : n + 1 ≡ m = ok_is (n + 1) m a.1 in
    (sym e, omega (arith, ltb-true n most a.0, e))

directive_counts : (d : Directive) (f g : Fields) → fields_after d f ≡ Ok g → Counts (directive_comms d) (directive_links d) f g
unfolding fields_after
directive_counts (directive.Ranks n) f g h = field_counts (once f.ranks n) f g (λ x. record f { ranks = x }) (λ x. same_counts f (record f { ranks = x }) refl refl) h
directive_counts (directive.Harts n) f g h = field_counts (once f.harts n) f g (λ x. record f { harts = x }) (λ x. same_counts f (record f { harts = x }) refl refl) h
directive_counts (directive.Memory n) f g h = field_counts (once f.memory n) f g (λ x. record f { memory = x }) (λ x. same_counts f (record f { memory = x }) refl refl) h
directive_counts (directive.Entry w) f g h =
    let e = ok_is (record f { has_entry = true }) g (if_ok f.has_entry kinds.Directive (ok (record f { has_entry = true })) g h) in
    subst (Counts 0 0 f) e (same_counts f (record f { has_entry = true }) refl refl)
directive_counts (directive.Comm zs) f g h =
    let a = bind_ok (counted_on 7 f.comms) (λ n. ok (record f { comms = n })) g h in
    let b = counted_on-is 7 f.comms a.value a.first in
    subst (Counts 1 0 f) (ok_is (record f { comms = a.value }) g a.second) (record { comms = b.0; few_comms = λ _. b.1; links = sym (add-zero f.links); few_links = λ x. x })
directive_counts (directive.Link from to) f g h =
    let a = bind_ok (counted_on 32 f.links) (λ n. ok (record f { links = n })) g h in
    let b = counted_on-is 32 f.links a.value a.first in
    subst (Counts 0 1 f) (ok_is (record f { links = a.value }) g a.second) (record { comms = sym (add-zero f.comms); few_comms = λ x. x; links = b.0; few_links = λ _. b.1 })
directive_counts directive.Text f g h = kept_counts f g h
directive_counts directive.Data f g h = kept_counts f g h
directive_counts (directive.Items w xs) f g h = kept_counts f g h
directive_counts (directive.Bytes bs) f g h = kept_counts f g h
directive_counts (directive.Zero n) f g h = kept_counts f g h
directive_counts (directive.Align n) f g h = kept_counts f g h
directive_counts (directive.Global w) f g h = kept_counts f g h

stated_counts : (stated : Statement) (f g : Fields) → fields_behind stated f ≡ Ok g → Counts (comms_of stated) (links_of stated) f g
stated_counts (Label w) f g h = kept_counts f g h
stated_counts (Instruction u) f g h = kept_counts f g h
stated_counts (Directed d) f g h = directive_counts d f g h

-- ---- the text is whole words

directive_words : (d : Directive) (at : ℕ) → may_stand Text (Directed d) ≡ true → length_of at (Directed d) % 4 ≡ 0
directive_words (directive.Items Byte xs) at h = absurd cc
directive_words (directive.Items Half xs) at h = absurd cc
directive_words (directive.Items Word xs) at h = let n : ℕ = length xs in let e : (4 * n) % 4 ≡ 0 = omega arith in e
directive_words (directive.Items Double xs) at h = absurd cc
directive_words (directive.Bytes bs) at h = absurd cc
directive_words (directive.Zero n) at h = absurd cc
directive_words (directive.Align n) at h = absurd cc
directive_words (directive.Ranks n) at h = refl
directive_words (directive.Harts n) at h = refl
directive_words (directive.Memory n) at h = refl
directive_words (directive.Entry w) at h = refl
directive_words (directive.Comm zs) at h = refl
directive_words (directive.Link from to) at h = refl
directive_words directive.Text at h = refl
directive_words directive.Data at h = refl
directive_words (directive.Global w) at h = refl

stated_words : (part : Part) (stated : Statement) (at : ℕ) → may_stand part stated ≡ true → added Text part (length_of at stated) % 4 ≡ 0
unfolding use_length
stated_words Data stated at h = refl
stated_words Text (Label w) at h = refl
stated_words Text (Instruction u) at h = omega arith
stated_words Text (Directed d) at h = directive_words d at h

-- ---- what the first pass keeps of it

pub record IsCounted (s : Layout) : Type 0 where
  pub whole_words : s.text % 4 ≡ 0
  pub comms : s.fields.comms ≡ comms_in s.items
  pub few_comms : s.fields.comms ≤ 7
  pub links : s.fields.links ≡ links_in s.items
  pub few_links : s.fields.links ≤ 32

pub counted_kept : IsKept IsCounted
counted_kept = record {
  label = λ n s w p. record {
    whole_words = p.whole_words;
    comms = p.comms ∙ sym (sum-push (λ i. comms_of i.statement) s.items (item_at n (next_place s) (Label w)) ∙ add-zero (comms_in s.items));
    few_comms = p.few_comms;
    links = p.links ∙ sym (sum-push (λ i. links_of i.statement) s.items (item_at n (next_place s) (Label w)) ∙ add-zero (links_in s.items));
    few_links = p.few_links;
  };
  statement = λ n s stated f names room is may behind named p. let c = stated_counts stated s.fields f behind in record {
    whole_words = omega (arith, p.whole_words, stated_words s.part stated (at_end s) may);
    comms = c.comms ∙ ap (λ k. k + comms_of stated) p.comms ∙ sym (sum-push (λ i. comms_of i.statement) s.items (item_at n (next_place s) stated));
    few_comms = c.few_comms p.few_comms;
    links = c.links ∙ ap (λ k. k + links_of stated) p.links ∙ sym (sum-push (λ i. links_of i.statement) s.items (item_at n (next_place s) stated));
    few_links = c.few_links p.few_links;
  };
}
