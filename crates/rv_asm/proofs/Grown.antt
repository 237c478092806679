-- What each step of the second pass adds.
use Rattle.std.proofs.Common.{◌≡◌, ℕ, ◌+◌, ◌<◌, ◌%◌, List, [], ◌∷◌, ◌++◌, length, All, Option, Some, None, Ok, Bool, true, false, refl, sym, ap, subst, ◌∙◌, arith, rules, tests, add-zero, append-nil, append_assoc, length-append}
use Rattle.std.proofs.lemmas.List.Elements.{All-append, All-from_recursion}
use Rattle.std.specs.Prelude.{codes, not, ◌&&◌, if◌then◌else◌}
use Rattle.std.specs.Str.{bytes_eq}
use Rattle.rv_image_types.specs.declared.images.Link.{Link}
use Rattle.rv_image_types.specs.Image.{IsCommunicator, IsLink}
use Rattle.rv_asm_tokens.specs.declared.fault.AsmFaultKind.TheVariants as kinds
use Rattle.rv_asm_tokens.specs.Fault.{◌>>=◌, wanted}
use Rattle.rv_asm_statements.specs.declared.directives.Directive.{Directive}
use Rattle.rv_asm_statements.specs.declared.directives.Directive.TheVariants as directive
use Rattle.rv_asm_statements.specs.declared.mnemonics.Use.{Use}
use Rattle.rv_asm_statements.specs.declared.statements.Statement.{Statement}
use Rattle.rv_asm_statements.specs.declared.statements.Statement.TheVariants.{Label, Instruction, Directive as Directed}
use Rattle.rv_asm_lines.specs.Item.{Item}
use Rattle.rv_asm_lines.specs.declared.parts.Part.{Part}
use Rattle.rv_asm_lines.specs.declared.parts.Part.TheVariants.{Text, Data}
use Rattle.rv_asm_lines.specs.declared.parts.Place.{Place}
use Rattle.rv_asm_lines.specs.Data.{link_between, members_of, directive_bytes}
use Rattle.rv_asm_lines.specs.Fields.{ranks_of}
use Rattle.rv_asm_lines.specs.Layout.{Layout, added, addresses}
use Rattle.rv_asm_lines.specs.Output.{Output, is_text_address, items_from, label_step, directive_step, stated_step, with_part_bytes, with_entry_point, with_use, word_bytes}
use Rattle.rv_asm_lines.specs.Parts.{address, length_of, may_stand, directive_length}
use Rattle.rv_asm_lines.specs.Places.{Follow, length_in, total}
use Rattle.rv_asm_lines.specs.Resolved.{address_in, use_length, words_of}
use Rattle.rv_asm.proofs.Counted.{comms_in, comms_of, links_in, links_of, sum-cons}
use Rattle.rv_asm.proofs.Lengths.{directive_bytes-length, with_use-length}
use Rattle.rv_asm.proofs.Members.{link_of-is, members_of-are}
use Rattle.rv_asm.proofs.Right.{at_line_ok, bind_ok, line_ok, ok, ok_is, then_ok}

-- bytes behind others
pub record Longer (old new : List ℕ) (by : ℕ) : Type 0 where
  pub more : List ℕ
  pub grown : new ≡ old ++ more
  pub many : length more ≡ by

pub unchanged : (old new : List ℕ) → old ≡ new → Longer old new 0
unchanged old new same = record { more = []; grown = sym same ∙ sym (append-nil old); many = refl }

pub longer_by : (old more new : List ℕ) (by : ℕ) → old ++ more ≡ new → length more ≡ by → Longer old new by
longer_by old more new by same many = record { more = more; grown = sym same; many = many }

then_longer : (old mid new : List ℕ) (a b c : ℕ) → a + b ≡ c → Longer old mid a → Longer mid new b → Longer old new c
then_longer old mid new a b c sum first second = record {
  more = first.more ++ second.more;
  grown = second.grown ∙ ap (λ (xs : List ℕ). xs ++ second.more) first.grown ∙ append_assoc old first.more second.more;
  many = length-append first.more second.more ∙ omega (arith, first.many, second.many, sum);
}

pub longer_length : (old new : List ℕ) (by : ℕ) → Longer old new by → length new ≡ length old + by
longer_length old new by l = ap length l.grown ∙ length-append old l.more ∙ ap (λ k. length old + k) l.many

-- the entry is a word of a text of this length
abbrev pub EntryAt : ℕ → Option ℕ → Type 0
EntryAt end None = Unit {0}
EntryAt end (Some at) = (at < end) × (at % 4 ≡ 0)

-- what one output is before another: so much longer, with entry, communicators and links that an image may have
pub record Grown (s : Layout) (o q : Output) (text_by init_by comms_by links_by : ℕ) : Type 0 where
  pub text : Longer o.text q.text text_by
  pub init : Longer o.init q.init init_by
  pub entry : EntryAt s.text o.entry → EntryAt s.text q.entry
  pub more_comms : length q.comms ≡ length o.comms + comms_by
  pub comms : All (IsCommunicator (ranks_of s.fields)) o.comms → All (IsCommunicator (ranks_of s.fields)) q.comms
  pub more_links : length q.links ≡ length o.links + links_by
  pub links : All (IsLink (ranks_of s.fields)) o.links → All (IsLink (ranks_of s.fields)) q.links

-- with the same communicators and links
grown_by : (s : Layout) (o q : Output) (a b : ℕ) → Longer o.text q.text a → Longer o.init q.init b → (EntryAt s.text o.entry → EntryAt s.text q.entry) → o.comms ≡ q.comms → o.links ≡ q.links → Grown s o q a b 0 0
grown_by s o q a b text init entry comms links = record {
  text = text;
  init = init;
  entry = entry;
  more_comms = ap length (sym comms) ∙ sym (add-zero (length o.comms));
  comms = λ h. subst (λ (xs : List (List ℕ)). All (IsCommunicator (ranks_of s.fields)) xs) comms h;
  more_links = ap length (sym links) ∙ sym (add-zero (length o.links));
  links = λ h. subst (λ (xs : List Link). All (IsLink (ranks_of s.fields)) xs) links h;
}

same_grown : (s : Layout) (o : Output) → Grown s o o 0 0 0 0
same_grown s o = grown_by s o o 0 0 (unchanged o.text o.text refl) (unchanged o.init o.init refl) (λ e. e) refl refl

-- ---- the entry

text_address : (end at : ℕ) → is_text_address end at ≡ true → EntryAt end (Some at)
text_address end at h = search (rules, tests)

with_entry-grows : (s : Layout) (at : ℕ) (o q : Output) → with_entry_point s.text at o ≡ Ok q → Grown s o q 0 0 0 0
unfolding with_entry_point
with_entry-grows s at o q h =
    let a = then_ok (is_text_address s.text at) kinds.Directive (ok (record o { entry = Some at })) q h in
    subst (λ (p : Output). Grown s o p 0 0 0 0) (ok_is (record o { entry = Some at }) q a.1) (grown_by s o (record o { entry = Some at }) 0 0 (unchanged o.text o.text refl) (unchanged o.init o.init refl) (λ e. text_address s.text at a.0) refl refl)

label_cases : (s : Layout) (b : Bool) (at : ℕ) (o q : Output) → (if b then with_entry_point s.text at o else ok o) ≡ Ok q → Grown s o q 0 0 0 0
label_cases s true at o q h = with_entry-grows s at o q h
label_cases s false at o q h = subst (λ (p : Output). Grown s o p 0 0 0 0) (ok_is o q h) (same_grown s o)

label_step-grows : (s : Layout) (w : List ℕ) (p : Place) (o q : Output) → label_step s w p o ≡ Ok q → Grown s o q 0 0 0 0
unfolding label_step
label_step-grows s w p o q h = label_cases s (bytes_eq w (codes "_start") && not s.fields.has_entry) (address s.text p.part p.at) o q h

-- ---- instructions

use_adds : (labels : List (List ℕ × ℕ)) (at : ℕ) (u : Use) (old made : List ℕ) → with_use labels at u old ≡ Ok made → (more : List ℕ) × (old ++ more ≡ made)
unfolding with_use
use_adds labels at u old made h =
    let a = bind_ok (words_of labels at u.template u.filled) (λ words. ok (old ++ word_bytes words)) made h in
    (word_bytes a.value, ok_is (old ++ word_bytes a.value) made a.second)

use_longer : (labels : List (List ℕ × ℕ)) (at : ℕ) (u : Use) (old made : List ℕ) → with_use labels at u old ≡ Ok made → Longer old made (use_length u)
use_longer labels at u old made h =
    let a = use_adds labels at u old made h in
    let all : length made ≡ length old + use_length u = with_use-length labels at u old made h in
    let split : length made ≡ length old + length a.0 = ap length (sym a.1) ∙ length-append old a.0 in
    longer_by old a.0 made (use_length u) a.1 (omega (arith, all, split))

instruction-grows : (s : Layout) (p : Place) (u : Use) (o q : Output) → p.part ≡ Text → (with_use (addresses s.text s.labels) p.at u o.text >>= λ text. ok (record o { text = text })) ≡ Ok q
    → Grown s o q (added Text p.part (use_length u)) (added Data p.part (use_length u)) 0 0
instruction-grows s p u o q in_text h =
    let a = bind_ok (with_use (addresses s.text s.labels) p.at u o.text) (λ text. ok (record o { text = text })) q h in
    rw in_text (subst (λ (r : Output). Grown s o r (use_length u) 0 0 0) (ok_is (record o { text = a.value }) q a.second) (grown_by s o (record o { text = a.value }) (use_length u) 0 (use_longer (addresses s.text s.labels) p.at u o.text a.value a.first) (unchanged o.init o.init refl) (λ e. e) refl refl))

-- ---- directives

bytes-grow : (s : Layout) (part : Part) (bytes : List ℕ) (o : Output) (by : ℕ) → length bytes ≡ by → Grown s o (with_part_bytes part bytes o) (added Text part by) (added Data part by) 0 0
bytes-grow s Text bytes o by many = grown_by s o (with_part_bytes Text bytes o) by 0 (longer_by o.text bytes (o.text ++ bytes) by refl many) (unchanged o.init o.init refl) (λ e. e) refl refl
bytes-grow s Data bytes o by many = grown_by s o (with_part_bytes Data bytes o) 0 by (unchanged o.text o.text refl) (longer_by o.init bytes (o.init ++ bytes) by refl many) (λ e. e) refl refl

data-grows : (s : Layout) (p : Place) (d : Directive) (o q : Output) → (directive_bytes (addresses s.text s.labels) p.at d >>= λ bytes. ok (with_part_bytes p.part bytes o)) ≡ Ok q
    → Grown s o q (added Text p.part (directive_length p.at d)) (added Data p.part (directive_length p.at d)) 0 0
data-grows s p d o q h =
    let a = bind_ok (directive_bytes (addresses s.text s.labels) p.at d) (λ bytes. ok (with_part_bytes p.part bytes o)) q h in
    subst (λ (r : Output). Grown s o r (added Text p.part (directive_length p.at d)) (added Data p.part (directive_length p.at d)) 0 0) (ok_is (with_part_bytes p.part a.value o) q a.second) (bytes-grow s p.part a.value o (directive_length p.at d) (directive_bytes-length (addresses s.text s.labels) p.at d a.value a.first))

-- nothing is added to either part
nothing_added : (s : Layout) (part : Part) (o q : Output) (comms links : ℕ) → Grown s o q 0 0 comms links → Grown s o q (added Text part 0) (added Data part 0) comms links
nothing_added s Text o q comms links g = g
nothing_added s Data o q comms links g = g

one-more : {A : Type 0} (P : A → Type 0) (xs : List A) (x : A) → P x → All P xs → All P (xs ++ x ∷ [])
one-more P xs x here all = All-append P xs (x ∷ []) all (All-from_recursion P (x ∷ []) (here, tt))

directive-grows : (s : Layout) (p : Place) (d : Directive) (o q : Output) → directive_step s p d o ≡ Ok q
    → Grown s o q (added Text p.part (directive_length p.at d)) (added Data p.part (directive_length p.at d)) (comms_of (Directed d)) (links_of (Directed d))
unfolding directive_step
directive-grows s p (directive.Entry w) o q h =
    let a = bind_ok (wanted (address_in w (addresses s.text s.labels)) kinds.LabelMissing) (λ at. with_entry_point s.text at o) q h in
    nothing_added s p.part o q 0 0 (with_entry-grows s a.value o q a.second)
directive-grows s p (directive.Global w) o q h =
    let a = bind_ok (wanted (address_in w (addresses s.text s.labels)) kinds.LabelMissing) (λ at. ok o) q h in
    nothing_added s p.part o q 0 0 (subst (λ (r : Output). Grown s o r 0 0 0 0) (ok_is o q a.second) (same_grown s o))
directive-grows s p (directive.Comm zs) o q h =
    let a = bind_ok (members_of (ranks_of s.fields) zs) (λ m. ok (record o { comms = o.comms ++ m ∷ [] })) q h in
    nothing_added s p.part o q 1 0 (subst (λ (r : Output). Grown s o r 0 0 1 0) (ok_is (record o { comms = o.comms ++ a.value ∷ [] }) q a.second) (record {
      text = unchanged o.text o.text refl;
      init = unchanged o.init o.init refl;
      entry = λ e. e;
      more_links = sym (add-zero (length o.links));
      links = λ x. x;
      more_comms = length-append o.comms (a.value ∷ []);
      comms = one-more (IsCommunicator (ranks_of s.fields)) o.comms a.value (members_of-are (ranks_of s.fields) zs a.value a.first);
    }))
directive-grows s p (directive.Link from to) o q h =
    let a = bind_ok (link_between (ranks_of s.fields) from to) (λ l. ok (record o { links = o.links ++ l ∷ [] })) q h in
    nothing_added s p.part o q 0 1 (subst (λ (r : Output). Grown s o r 0 0 0 1) (ok_is (record o { links = o.links ++ a.value ∷ [] }) q a.second) (record {
      text = unchanged o.text o.text refl;
      init = unchanged o.init o.init refl;
      entry = λ e. e;
      more_comms = sym (add-zero (length o.comms));
      comms = λ x. x;
      more_links = length-append o.links (a.value ∷ []);
      links = one-more (IsLink (ranks_of s.fields)) o.links a.value (link_of-is (ranks_of s.fields) from to a.value a.first);
    }))
directive-grows s p (directive.Ranks n) o q h = data-grows s p (directive.Ranks n) o q h
directive-grows s p (directive.Harts n) o q h = data-grows s p (directive.Harts n) o q h
directive-grows s p (directive.Memory n) o q h = data-grows s p (directive.Memory n) o q h
directive-grows s p directive.Text o q h = data-grows s p directive.Text o q h
directive-grows s p directive.Data o q h = data-grows s p directive.Data o q h
directive-grows s p (directive.Items w xs) o q h = data-grows s p (directive.Items w xs) o q h
directive-grows s p (directive.Bytes bs) o q h = data-grows s p (directive.Bytes bs) o q h
directive-grows s p (directive.Zero n) o q h = data-grows s p (directive.Zero n) o q h
directive-grows s p (directive.Align n) o q h = data-grows s p (directive.Align n) o q h

-- ---- statements and items

pub in_text : (part : Part) (u : Use) → may_stand part (Instruction u) ≡ true → part ≡ Text
in_text Text u h = refl
in_text Data u h = absurd cc

pub stated_step-grows : (s : Layout) (p : Place) (stated : Statement) (o q : Output) → may_stand p.part stated ≡ true → stated_step s p stated o ≡ Ok q
    → Grown s o q (added Text p.part (length_of p.at stated)) (added Data p.part (length_of p.at stated)) (comms_of stated) (links_of stated)
unfolding stated_step
stated_step-grows s p (Label w) o q may h = nothing_added s p.part o q 0 0 (label_step-grows s w p o q h)
stated_step-grows s p (Instruction u) o q may h = instruction-grows s p u o q (in_text p.part u may) h
stated_step-grows s p (Directed d) o q may h = directive-grows s p d o q h

both_grown : (s : Layout) (o p q : Output) (a b c d e f g h : ℕ) → Grown s o p a b c d → Grown s p q e f g h → Grown s o q (a + e) (b + f) (c + g) (d + h)
both_grown s o p q a b c d e f g h x y = record {
  text = then_longer o.text p.text q.text a e (a + e) refl x.text y.text;
  init = then_longer o.init p.init q.init b f (b + f) refl x.init y.init;
  entry = λ z. y.entry (x.entry z);
  more_comms = omega (arith, x.more_comms, y.more_comms);
  comms = λ z. y.comms (x.comms z);
  more_links = omega (arith, x.more_links, y.more_links);
  links = λ z. y.links (x.links z);
}

pub items_from-grows : (s : Layout) (o q : Output) (xs : List Item) (text init : ℕ) → Follow text init xs → items_from s o xs ≡ Ok q → Grown s o q (total Text xs) (total Data xs) (comms_in xs) (links_in xs)
unfolding items_from
items_from-grows s o q [] text init follow h = subst (λ (r : Output). Grown s o r 0 0 0 0) (line_ok o q h) (same_grown s o)
items_from-grows s o q (x ∷ others) text init follow h =
    let a = at_line_ok x.line (stated_step s x.place x.statement o) (λ p. items_from s p others) q h in
    let first = stated_step-grows s x.place x.statement o a.value follow.1 a.first in
    let rest = items_from-grows s a.value q others (text + length_in Text x) (init + length_in Data x) follow.2 a.second in
    let all = both_grown s o a.value q (length_in Text x) (length_in Data x) (comms_of x.statement) (links_of x.statement) (total Text others) (total Data others) (comms_in others) (links_in others) first rest in
    rw (sum-cons (length_in Text) x others, sum-cons (length_in Data) x others, sum-cons (λ i. comms_of i.statement) x others, sum-cons (λ i. links_of i.statement) x others) all
