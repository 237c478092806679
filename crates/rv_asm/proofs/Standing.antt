-- Each statement stands in the part that was named last.
use Rattle.std.proofs.Common.{◌≡◌, ℕ, zero, suc, ◌+◌, List, [], ◌∷◌, ◌++◌, take, Option, Some, None, Ok, true, refl, sym, ap, ◌∙◌}
use Rattle.std.specs.Prelude.{All, IfSome, slice_get}
use Rattle.std.proofs.lemmas.List.Elements.{All-cons, All-nil}
use Rattle.std.specs.List.{cons_option}
use Rattle.std.specs.Str.Lines.{lines}
use Rattle.rv_asm_statements.specs.declared.directives.Directive.{Directive}
use Rattle.rv_asm_statements.specs.declared.directives.Directive.TheVariants as directive
use Rattle.rv_asm_statements.specs.declared.directives.Width.TheVariants.{Byte, Half, Word, Double}
use Rattle.rv_asm_statements.specs.declared.statements.Statement.{Statement}
use Rattle.rv_asm_statements.specs.declared.statements.Statement.TheVariants.{Label, Instruction, Directive as Directed}
use Rattle.rv_asm_lines.specs.Item.{Item}
use Rattle.rv_asm_lines.specs.declared.parts.Part.{Part}
use Rattle.rv_asm_lines.specs.declared.parts.Part.TheVariants.{Text, Data}
use Rattle.rv_asm_lines.specs.Layout.{Layout, empty_layout, item_at, layout_of, next_place}
use Rattle.rv_asm_lines.specs.Parts.{directive_part, may_stand, part_after}
use Rattle.rv_asm_lines.specs.Places.{Follow, length_in}
use Rattle.rv_asm.specs.Directed.{if_directed, said_by}
use Rattle.rv_asm.specs.InParts.{IsAtHome, StandInParts, last_or, part_said}
use Rattle.rv_asm.proofs.Kept.{IsKept, lines_from-keeps}
use Rattle.rv_asm.proofs.Placed.{layout_in_order}

-- ---- parts, statement by statement

abbrev last_part : Part → List Item → Part
last_part p [] = p
last_part p (i ∷ is) = last_part (part_after p i.statement) is

abbrev FollowIn : Part → List Item → Type 0
FollowIn p [] = Unit {0}
FollowIn p (i ∷ is) = (i.place.part ≡ p) × FollowIn (part_after p i.statement) is

FollowIn-push : (p : Part) (xs : List Item) (x : Item) → FollowIn p xs → x.place.part ≡ last_part p xs → FollowIn p (xs ++ x ∷ [])
FollowIn-push p [] x f h = (h, tt)
FollowIn-push p (y ∷ ys) x f h = (f.0, FollowIn-push (part_after p y.statement) ys x f.1 h)

last_part-push : (p : Part) (xs : List Item) (x : Item) → last_part p (xs ++ x ∷ []) ≡ part_after (last_part p xs) x.statement
last_part-push p [] x = refl
last_part-push p (y ∷ ys) x = last_part-push (part_after p y.statement) ys x

FollowIn-at : (p : Part) (xs : List Item) (k : ℕ) → FollowIn p xs → IfSome (slice_get xs k) (λ i. i.place.part ≡ last_part p (take k xs))
FollowIn-at p [] k f = tt
FollowIn-at p (x ∷ xs) zero f = f.0
FollowIn-at p (x ∷ xs) (suc k) f = FollowIn-at (part_after p x.statement) xs k f.1

-- ---- parts that are said

directive_names : (p : Part) (d : Directive) (others : List Part) → last_or p (cons_option (part_said d) others) ≡ last_or (directive_part p d) others
directive_names p (directive.Ranks n) others = refl
directive_names p (directive.Harts n) others = refl
directive_names p (directive.Memory n) others = refl
directive_names p (directive.Entry w) others = refl
directive_names p (directive.Comm zs) others = refl
directive_names p (directive.Link from to) others = refl
directive_names p directive.Text others = refl
directive_names p directive.Data others = refl
directive_names p (directive.Items width xs) others = refl
directive_names p (directive.Bytes bs) others = refl
directive_names p (directive.Zero n) others = refl
directive_names p (directive.Align n) others = refl
directive_names p (directive.Global w) others = refl

names : (p : Part) (stated : Statement) (others : List Part) → last_or p (cons_option (if_directed part_said stated) others) ≡ last_or (part_after p stated) others
names p (Label w) others = refl
names p (Instruction u) others = refl
names p (Directed d) others = directive_names p d others

last_said : (p : Part) (xs : List Item) → last_part p xs ≡ last_or p (said_by part_said xs)
last_said p [] = refl
last_said p (x ∷ xs) = last_said (part_after p x.statement) xs ∙ sym (names p x.statement (said_by part_said xs))

-- ---- the first pass

record InParts (s : Layout) : Type 0 where
  follow : FollowIn Text s.items
  part : s.part ≡ last_part Text s.items

in_parts_kept : IsKept InParts
in_parts_kept = record {
  label = λ n s w p. record {
    follow = FollowIn-push Text s.items (item_at n (next_place s) (Label w)) p.follow p.part;
    part = p.part ∙ sym (last_part-push Text s.items (item_at n (next_place s) (Label w)));
  };
  statement = λ n s stated f names room is may behind named p. record {
    follow = FollowIn-push Text s.items (item_at n (next_place s) stated) p.follow p.part;
    part = ap (λ (k : Part). part_after k stated) p.part ∙ sym (last_part-push Text s.items (item_at n (next_place s) stated));
  };
}

-- ---- at home

at_home : (part : Part) (stated : Statement) → may_stand part stated ≡ true → IsAtHome part stated
at_home Text (Label w) h = tt
at_home Data (Label w) h = tt
at_home Text (Instruction u) h = refl
at_home Data (Instruction u) h = absurd cc
at_home Text (Directed (directive.Items Byte items)) h = absurd cc
at_home Data (Directed (directive.Items Byte items)) h = refl
at_home Text (Directed (directive.Items Half items)) h = absurd cc
at_home Data (Directed (directive.Items Half items)) h = refl
at_home part (Directed (directive.Items Word items)) h = tt
at_home Text (Directed (directive.Items Double items)) h = absurd cc
at_home Data (Directed (directive.Items Double items)) h = refl
at_home Text (Directed (directive.Bytes bytes)) h = absurd cc
at_home Data (Directed (directive.Bytes bytes)) h = refl
at_home Text (Directed (directive.Zero n)) h = absurd cc
at_home Data (Directed (directive.Zero n)) h = refl
at_home Text (Directed (directive.Align n)) h = absurd cc
at_home Data (Directed (directive.Align n)) h = refl
at_home part (Directed d) h = tt

all_at_home : (text init : ℕ) (xs : List Item) → Follow text init xs → All (λ (i : Item). IsAtHome i.place.part i.statement) xs
all_at_home text init [] f = All-nil (λ (i : Item). IsAtHome i.place.part i.statement)
all_at_home text init (x ∷ xs) f =
    All-cons (λ (i : Item). IsAtHome i.place.part i.statement) x xs (at_home x.place.part x.statement f.1) (all_at_home (text + length_in Text x) (init + length_in Data x) xs f.2)

if_some_is : {A : Type 0} (P Q : A → Type 0) (o : Option A) → ((x : A) → P x → Q x) → IfSome o P → IfSome o Q
if_some_is P Q None f h = tt
if_some_is P Q (Some x) f h = f x h

pub layout_stands : (source : List ℕ) (s : Layout) → layout_of source ≡ Ok s → StandInParts s.items
layout_stands source s laid =
    let p = lines_from-keeps InParts in_parts_kept 1 empty_layout s (lines source) laid (record { follow = tt; part = refl }) in
    record {
      named = λ k. if_some_is (λ i. i.place.part ≡ last_part Text (take k s.items)) (λ i. i.place.part ≡ last_or Text (said_by part_said (take k s.items))) (slice_get s.items k)
          (λ i h. h ∙ last_said Text (take k s.items)) (FollowIn-at Text s.items k p.follow);
      at_home = all_at_home 0 0 s.items (layout_in_order source s laid).follow;
    }
