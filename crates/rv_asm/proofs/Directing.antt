-- Entry, communicators and links that the second pass makes are what the directives say.
use Rattle.std.proofs.Common.{◌≡◌, ℕ, ℤ, pos, negsuc, List, [], ◌∷◌, ◌++◌, map, codes, Option, Some, None, Ok, Bool, true, false, not, ◌&&◌, cond, option_to_list, refl, sym, ap, subst, ◌∙◌, append_assoc, append-nil, length}
use Rattle.std.specs.Prelude.{All, if◌then◌else◌}
use Rattle.std.proofs.lemmas.List.Elements.{All-head, All-tail}
use Rattle.std.specs.List.{cons_option, filter_map}
use Rattle.std.specs.Cmp.Lexicographic.{bytes_decides}
use Rattle.std.specs.Str.{bytes_eq}
use Rattle.rv_image_types.specs.declared.images.Link.{Link}
use Rattle.rv_image.specs.Reading.{is_new_rank, is_within}
use Rattle.rv_asm_tokens.specs.declared.fault.AsmFaultKind.TheVariants as kinds
use Rattle.rv_asm_tokens.specs.Fault.{◌>>=◌, wanted}
use Rattle.rv_asm_statements.specs.declared.directives.Directive.{Directive}
use Rattle.rv_asm_statements.specs.declared.directives.Directive.TheVariants as directive
use Rattle.rv_asm_statements.specs.declared.statements.Statement.{Statement}
use Rattle.rv_asm_statements.specs.declared.statements.Statement.TheVariants.{Label, Instruction, Directive as Directed}
use Rattle.rv_asm_lines.specs.Item.{Item}
use Rattle.rv_asm_lines.specs.declared.parts.Part.{Part}
use Rattle.rv_asm_lines.specs.declared.parts.Part.TheVariants.{Text, Data}
use Rattle.rv_asm_lines.specs.declared.parts.Place.{Place}
use Rattle.rv_asm_lines.specs.Data.{directive_bytes, link_between, members_from, members_of, new_rank}
use Rattle.rv_asm_lines.specs.Fields.{ranks_of}
use Rattle.rv_asm_lines.specs.Layout.{Labels, Layout, addresses, place_in}
use Rattle.rv_asm_lines.specs.Places.{label_place, stated_label}
use Rattle.rv_asm_lines.specs.Output.{Output, directive_step, empty_output, is_text_address, items_from, label_step, stated_step, with_part_bytes, with_entry_point, with_use}
use Rattle.rv_asm_lines.specs.Parts.{address}
use Rattle.rv_asm_lines.specs.Resolved.{address_in}
use Rattle.rv_asm.specs.Directed.{comm_said, ends_of, entry_said, if_directed, link_said, said_by}
use Rattle.rv_asm.proofs.Globals.{same_name}
use Rattle.rv_asm.proofs.Said.{with_none}
use Rattle.rv_asm.proofs.Right.{at_line_ok, bind_ok, line_ok, ok, ok_is, then_ok}

-- ---- ranks are the numbers that are written

rank_is : (ranks : ℕ) (named : List ℕ) (z : ℤ) (rank : ℕ) → new_rank ranks named z ≡ Ok rank → pos rank ≡ z
rank_is ranks named (pos n) rank h =
    let a = then_ok (is_new_rank ranks named n) kinds.Directive (ok n) rank h in
    ap pos (sym (ok_is n rank a.1))
rank_is ranks named (negsuc n) rank h = absurd cc

map_push : {A B : Type 0} (f : A → B) (xs : List A) (x : A) → map f (xs ++ x ∷ []) ≡ map f xs ++ f x ∷ []
map_push f [] x = refl
map_push {A} {B} f (y ∷ ys) x = ap (λ (zs : List B). f y ∷ zs) (map_push f ys x)

members_from-are : (ranks : ℕ) (named : List ℕ) (zs : List ℤ) (made : List ℕ) → members_from ranks named zs ≡ Ok made → map pos made ≡ map pos named ++ zs
unfolding members_from
members_from-are ranks named [] made h = ap (map pos) (sym (ok_is named made h)) ∙ sym (append-nil (map pos named))
members_from-are ranks named (z ∷ zs) made h =
    let a = bind_ok (new_rank ranks named z) (λ rank. members_from ranks (named ++ rank ∷ []) zs) made h in
    let first : map pos (named ++ a.value ∷ []) ≡ map pos named ++ z ∷ [] = map_push pos named a.value ∙ ap (λ y. map pos named ++ y ∷ []) (rank_is ranks named z a.value a.first) in
    members_from-are ranks (named ++ a.value ∷ []) zs made a.second ∙ ap (λ (ys : List ℤ). ys ++ zs) first ∙ append_assoc (map pos named) (z ∷ []) zs

members_are : (ranks : ℕ) (zs : List ℤ) (made : List ℕ) → members_of ranks zs ≡ Ok made → map pos made ≡ zs
unfolding members_of
members_are ranks zs made h =
    let a = then_ok (is_within 1 8 (length zs)) kinds.Directive (members_from ranks [] zs) made h in
    members_from-are ranks [] zs made a.1

link_is : (ranks : ℕ) (from to : ℤ) (made : Link) → link_between ranks from to ≡ Ok made → ends_of made ≡ (from, to)
unfolding link_between
link_is ranks from to made h =
    let a = bind_ok (new_rank ranks [] from) (λ f. new_rank ranks (f ∷ []) to >>= λ t. ok (linked f t)) made h in
    let b = bind_ok (new_rank ranks (a.value ∷ []) to) (λ t. ok (linked a.value t)) made a.second in
    ap ends_of (sym (ok_is (linked a.value b.value) made b.second)) ∙ rw (rank_is ranks [] from a.value a.first, rank_is ranks (a.value ∷ []) to b.value b.first) refl
  where
    linked : ℕ → ℕ → Link
    linked f t = record { from = f; to = t }

-- ---- what one statement does

abbrev DirectiveEnters : List (List ℕ × ℕ) → Directive → Option ℕ → Option ℕ → Type 0
DirectiveEnters labels (directive.Entry w) old new = (at : ℕ) × (address_in w labels ≡ Some at) × (new ≡ Some at)
DirectiveEnters labels d old new = new ≡ old

abbrev is_start : List ℕ → Bool
is_start w = bytes_eq w (codes "_start")

-- the entry behind a statement
abbrev Enters : Layout → Place → Statement → Option ℕ → Option ℕ → Type 0
Enters s p (Label w) old new = new ≡ (if is_start w && not s.fields.has_entry then Some (address s.text p.part p.at) else old)
Enters s p (Instruction u) old new = new ≡ old
Enters s p (Directed d) old new = DirectiveEnters (addresses s.text s.labels) d old new

record Stepped (s : Layout) (p : Place) (stated : Statement) (o q : Output) : Type 0 where
  comms : map (map pos) q.comms ≡ map (map pos) o.comms ++ option_to_list (if_directed comm_said stated)
  links : map ends_of q.links ≡ map ends_of o.links ++ option_to_list (if_directed link_said stated)
  entry : Enters s p stated o.entry q.entry

entered : (end at : ℕ) (o q : Output) → with_entry_point end at o ≡ Ok q → (let next : Output = record o { entry = Some at } in next ≡ q)
unfolding with_entry_point
entered end at o q h =
    let a = then_ok (is_text_address end at) kinds.Directive (ok (record o { entry = Some at })) q h in
    ok_is (record o { entry = Some at }) q a.1

label_stepped : (s : Layout) (w : List ℕ) (p : Place) (o q : Output) → label_step s w p o ≡ Ok q → Stepped s p (Label w) o q
unfolding label_step
label_stepped s w p o q h = go (is_start w && not s.fields.has_entry) refl h
  where
    go : (b : Bool) → (is_start w && not s.fields.has_entry) ≡ b → (if b then with_entry_point s.text (address s.text p.part p.at) o else ok o) ≡ Ok q → Stepped s p (Label w) o q
    go true is h =
        subst (λ (r : Output). Stepped s p (Label w) o r) (entered s.text (address s.text p.part p.at) o q h)
        (record { comms = with_none (map (map pos) o.comms); links = with_none (map ends_of o.links); entry = rw is refl })
    go false is h =
        subst (λ (r : Output). Stepped s p (Label w) o r) (ok_is o q h)
        (record { comms = with_none (map (map pos) o.comms); links = with_none (map ends_of o.links); entry = rw is refl })

data_stepped : (s : Layout) (p : Place) (d : Directive) (o q : Output) → comm_said d ≡ None → link_said d ≡ None → ((e : Option ℕ) → DirectiveEnters (addresses s.text s.labels) d e e)
    → (directive_bytes (addresses s.text s.labels) p.at d >>= λ bytes. ok (with_part_bytes p.part bytes o)) ≡ Ok q → Stepped s p (Directed d) o q
data_stepped s p d o q c l e h =
    let a = bind_ok (directive_bytes (addresses s.text s.labels) p.at d) (λ bytes. ok (with_part_bytes p.part bytes o)) q h in
    subst (λ (r : Output). Stepped s p (Directed d) o r) (ok_is (with_part_bytes p.part a.value o) q a.second) (in_part p.part a.value)
  where
    in_part : (part : Part) (bytes : List ℕ) → Stepped s p (Directed d) o (with_part_bytes part bytes o)
    in_part Text bytes = record { comms = rw c (with_none (map (map pos) o.comms)); links = rw l (with_none (map ends_of o.links)); entry = e o.entry }
    in_part Data bytes = record { comms = rw c (with_none (map (map pos) o.comms)); links = rw l (with_none (map ends_of o.links)); entry = e o.entry }

wanted_is : (a : Option ℕ) (at : ℕ) → wanted a kinds.LabelMissing ≡ Ok at → a ≡ Some at
wanted_is None at h = absurd cc
wanted_is (Some b) at h = ap Some (ok_is b at h)

directive_stepped : (s : Layout) (p : Place) (d : Directive) (o q : Output) → directive_step s p d o ≡ Ok q → Stepped s p (Directed d) o q
unfolding directive_step
directive_stepped s p (directive.Entry w) o q h =
    let a = bind_ok (wanted (address_in w (addresses s.text s.labels)) kinds.LabelMissing) (λ at. with_entry_point s.text at o) q h in
    subst (λ (r : Output). Stepped s p (Directed (directive.Entry w)) o r) (entered s.text a.value o q a.second)
    (record { comms = with_none (map (map pos) o.comms); links = with_none (map ends_of o.links); entry = (a.value, wanted_is (address_in w (addresses s.text s.labels)) a.value a.first, refl) })
directive_stepped s p (directive.Global w) o q h =
    let a = bind_ok (wanted (address_in w (addresses s.text s.labels)) kinds.LabelMissing) (λ at. ok o) q h in
    subst (λ (r : Output). Stepped s p (Directed (directive.Global w)) o r) (ok_is o q a.second)
    (record { comms = with_none (map (map pos) o.comms); links = with_none (map ends_of o.links); entry = refl })
directive_stepped s p (directive.Comm zs) o q h =
    let a = bind_ok (members_of (ranks_of s.fields) zs) (λ m. ok (record o { comms = o.comms ++ m ∷ [] })) q h in
    subst (λ (r : Output). Stepped s p (Directed (directive.Comm zs)) o r) (ok_is (record o { comms = o.comms ++ a.value ∷ [] }) q a.second)
    (record { comms = map_push (map pos) o.comms a.value ∙ ap (λ y. map (map pos) o.comms ++ y ∷ []) (members_are (ranks_of s.fields) zs a.value a.first); links = with_none (map ends_of o.links); entry = refl })
directive_stepped s p (directive.Link from to) o q h =
    let a = bind_ok (link_between (ranks_of s.fields) from to) (λ l. ok (record o { links = o.links ++ l ∷ [] })) q h in
    subst (λ (r : Output). Stepped s p (Directed (directive.Link from to)) o r) (ok_is (record o { links = o.links ++ a.value ∷ [] }) q a.second)
    (record { links = map_push ends_of o.links a.value ∙ ap (λ y. map ends_of o.links ++ y ∷ []) (link_is (ranks_of s.fields) from to a.value a.first); comms = with_none (map (map pos) o.comms); entry = refl })
directive_stepped s p (directive.Ranks n) o q h = data_stepped s p (directive.Ranks n) o q refl refl (λ e. refl) h
directive_stepped s p (directive.Harts n) o q h = data_stepped s p (directive.Harts n) o q refl refl (λ e. refl) h
directive_stepped s p (directive.Memory n) o q h = data_stepped s p (directive.Memory n) o q refl refl (λ e. refl) h
directive_stepped s p directive.Text o q h = data_stepped s p directive.Text o q refl refl (λ e. refl) h
directive_stepped s p directive.Data o q h = data_stepped s p directive.Data o q refl refl (λ e. refl) h
directive_stepped s p (directive.Items w xs) o q h = data_stepped s p (directive.Items w xs) o q refl refl (λ e. refl) h
directive_stepped s p (directive.Bytes bs) o q h = data_stepped s p (directive.Bytes bs) o q refl refl (λ e. refl) h
directive_stepped s p (directive.Zero n) o q h = data_stepped s p (directive.Zero n) o q refl refl (λ e. refl) h
directive_stepped s p (directive.Align n) o q h = data_stepped s p (directive.Align n) o q refl refl (λ e. refl) h

stepped : (s : Layout) (p : Place) (stated : Statement) (o q : Output) → stated_step s p stated o ≡ Ok q → Stepped s p stated o q
unfolding stated_step
stepped s p (Label w) o q h = label_stepped s w p o q h
stepped s p (Instruction u) o q h =
    let a = bind_ok (with_use (addresses s.text s.labels) p.at u o.text) (λ text. ok (record o { text = text })) q h in
    subst (λ (r : Output). Stepped s p (Instruction u) o r) (ok_is (record o { text = a.value }) q a.second)
    (record { comms = with_none (map (map pos) o.comms); links = with_none (map ends_of o.links); entry = refl })
stepped s p (Directed d) o q h = directive_stepped s p d o q h

-- ---- all statements

cons_is : {A : Type 0} (o : Option A) (xs : List A) → option_to_list o ++ xs ≡ cons_option o xs
cons_is None xs = refl
cons_is (Some x) xs = refl

-- communicators and links behind others
pub record AllMade (o q : Output) (xs : List Item) : Type 0 where
  pub comms : map (map pos) q.comms ≡ map (map pos) o.comms ++ said_by comm_said xs
  pub links : map ends_of q.links ≡ map ends_of o.links ++ said_by link_said xs

pub all_made : (s : Layout) (o q : Output) (xs : List Item) → items_from s o xs ≡ Ok q → AllMade o q xs
unfolding items_from
all_made s o q [] h = subst (λ (r : Output). AllMade o r []) (line_ok o q h) (record { comms = with_none (map (map pos) o.comms); links = with_none (map ends_of o.links) })
all_made s o q (x ∷ xs) h =
    let a = at_line_ok x.line (stated_step s x.place x.statement o) (λ p. items_from s p xs) q h in
    let first = stepped s x.place x.statement o a.value a.first in
    let rest = all_made s a.value q xs a.second in
    record {
      comms = rest.comms ∙ ap (λ l. l ++ said_by comm_said xs) first.comms ∙ append_assoc (map (map pos) o.comms) (option_to_list (if_directed comm_said x.statement)) (said_by comm_said xs)
          ∙ ap (λ l. map (map pos) o.comms ++ l) (cons_is (if_directed comm_said x.statement) (said_by comm_said xs));
      links = rest.links ∙ ap (λ l. l ++ said_by link_said xs) first.links ∙ append_assoc (map ends_of o.links) (option_to_list (if_directed link_said x.statement)) (said_by link_said xs)
          ∙ ap (λ l. map ends_of o.links ++ l) (cons_is (if_directed link_said x.statement) (said_by link_said xs));
    }

-- ---- the entry, where it is said

-- each name that is said has an address, of which the last is kept
abbrev pub Ends : List (List ℕ × ℕ) → List (List ℕ) → Option ℕ → Option ℕ → Type 0
Ends labels [] old new = new ≡ old
Ends labels (w ∷ ws) old new = (at : ℕ) × (address_in w labels ≡ Some at) × Ends labels ws (Some at) new

-- a directive is an `.entry`, or leaves the entry
data EntryOr (labels : List (List ℕ × ℕ)) (d : Directive) : Type 0 where
  is_entry : (w : List ℕ) → d ≡ directive.Entry w → EntryOr labels d
  is_other : entry_said d ≡ None → ((old mid : Option ℕ) → DirectiveEnters labels d old mid → mid ≡ old) → EntryOr labels d

entry_or : (labels : List (List ℕ × ℕ)) (d : Directive) → EntryOr labels d
entry_or labels (directive.Entry w) = is_entry w refl
entry_or labels (directive.Global w) = is_other refl (λ old mid is. is)
entry_or labels (directive.Comm zs) = is_other refl (λ old mid is. is)
entry_or labels (directive.Link from to) = is_other refl (λ old mid is. is)
entry_or labels (directive.Ranks n) = is_other refl (λ old mid is. is)
entry_or labels (directive.Harts n) = is_other refl (λ old mid is. is)
entry_or labels (directive.Memory n) = is_other refl (λ old mid is. is)
entry_or labels directive.Text = is_other refl (λ old mid is. is)
entry_or labels directive.Data = is_other refl (λ old mid is. is)
entry_or labels (directive.Items w xs) = is_other refl (λ old mid is. is)
entry_or labels (directive.Bytes bs) = is_other refl (λ old mid is. is)
entry_or labels (directive.Zero n) = is_other refl (λ old mid is. is)
entry_or labels (directive.Align n) = is_other refl (λ old mid is. is)

directive_ends : (labels : List (List ℕ × ℕ)) (d : Directive) (old mid new : Option ℕ) (ws : List (List ℕ)) → DirectiveEnters labels d old mid → Ends labels ws mid new → Ends labels (cons_option (entry_said d) ws) old new
directive_ends labels d old mid new ws is rest = go (entry_or labels d)
  where
    go : EntryOr labels d → Ends labels (cons_option (entry_said d) ws) old new
    go (is_entry w same) =
        let there : DirectiveEnters labels (directive.Entry w) old mid = subst (λ (e : Directive). DirectiveEnters labels e old mid) same is in
        subst (λ (e : Directive). Ends labels (cons_option (entry_said e) ws) old new) (sym same) (there.0, there.1, subst (λ e. Ends labels ws e new) there.2 rest)
    go (is_other none kept) = rw none (subst (λ e. Ends labels ws e new) (kept old mid is) rest)

directive_kept : (labels : List (List ℕ × ℕ)) (d : Directive) (old mid : Option ℕ) (ws : List (List ℕ)) → DirectiveEnters labels d old mid → cons_option (entry_said d) ws ≡ [] → (ws ≡ []) × (mid ≡ old)
directive_kept labels d old mid ws is none = go (entry_or labels d)
  where
    go : EntryOr labels d → (ws ≡ []) × (mid ≡ old)
    go (is_entry w same) =
        let there : w ∷ ws ≡ [] = subst (λ (e : Directive). cons_option (entry_said e) ws ≡ []) same none in
        absurd (cc)
    go (is_other said kept) = (subst (λ (o : Option (List ℕ)). cons_option o ws ≡ []) said none, kept old mid is)

step_ends : (s : Layout) (p : Place) (stated : Statement) (old mid new : Option ℕ) (ws : List (List ℕ)) → s.fields.has_entry ≡ true → Enters s p stated old mid → Ends (addresses s.text s.labels) ws mid new
    → Ends (addresses s.text s.labels) (cons_option (if_directed entry_said stated) ws) old new
step_ends s p (Label w) old mid new ws has is rest =
    let kept : mid ≡ old = is ∙ kept_old (is_start w) s.fields.has_entry has in
    subst (λ e. Ends (addresses s.text s.labels) ws e new) kept rest
  where
    kept_old : (b c : Bool) → c ≡ true → (if b && not c then Some (address s.text p.part p.at) else old) ≡ old
    kept_old true true h = refl
    kept_old true false h = absurd cc
    kept_old false c h = refl
step_ends s p (Instruction u) old mid new ws has is rest = subst (λ e. Ends (addresses s.text s.labels) ws e new) is rest
step_ends s p (Directed d) old mid new ws has is rest = directive_ends (addresses s.text s.labels) d old mid new ws is rest

pub entry_ends : (s : Layout) (o q : Output) (xs : List Item) → s.fields.has_entry ≡ true → items_from s o xs ≡ Ok q → Ends (addresses s.text s.labels) (said_by entry_said xs) o.entry q.entry
unfolding items_from
entry_ends s o q [] has h = ap (λ (r : Output). r.entry) (sym (line_ok o q h))
entry_ends s o q (x ∷ xs) has h =
    let a = at_line_ok x.line (stated_step s x.place x.statement o) (λ p. items_from s p xs) q h in
    let first = stepped s x.place x.statement o a.value a.first in
    step_ends s x.place x.statement o.entry a.value.entry q.entry (said_by entry_said xs) has first.entry (entry_ends s a.value q xs has a.second)

-- ---- the entry, where it isn't

-- the address of `_start` behind these labels, which is found
abbrev start_in : Labels → Option ℕ → Option ℕ → Option ℕ
start_in [] found old = old
start_in (l ∷ ls) found old = start_in ls found (if is_start l.0 then found else old)

found_address : (text : ℕ) (w : List ℕ) (place : Place) (ls : Labels) → place_in w ls ≡ Some place → address_in w (addresses text ls) ≡ Some (address text place.part place.at)
found_address text w place [] h = absurd cc
found_address text w place (l ∷ ls) h = go (bytes_eq w l.0) (found_address text w place ls) h
  where
    go : (b : Bool) → (place_in w ls ≡ Some place → address_in w (addresses text ls) ≡ Some (address text place.part place.at)) → cond b (Some l.1) (place_in w ls) ≡ Some place
        → cond b (Some (address text l.1.part l.1.at)) (address_in w (addresses text ls)) ≡ Some (address text place.part place.at)
    go true again h =
        let same : l.1 ≡ place = some_place l.1 place h in
        ap (λ (p : Place). Some (address text p.part p.at)) same
      where
        some_place : (p q : Place) → (let a : Option Place = Some p in let b : Option Place = Some q in a ≡ b) → p ≡ q
        some_place p q h = cc
    go false again h = again h

-- the labels of items stand among all labels
abbrev AreFound : Labels → Labels → Type 0
AreFound all [] = Unit {0}
AreFound all (l ∷ ls) = (place_in l.0 all ≡ Some l.1) × AreFound all ls

all_found : (all ls : Labels) → All (λ l. place_in l.0 all ≡ Some l.1) ls → AreFound all ls
all_found all [] h = tt
all_found all (l ∷ ls) h = (All-head (λ (k : List ℕ × Place). place_in k.0 all ≡ Some k.1) l ls h, all_found all ls (All-tail (λ (k : List ℕ × Place). place_in k.0 all ≡ Some k.1) l ls h))

abbrev pub start_address : Layout → Option ℕ
start_address s = address_in (codes "_start") (addresses s.text s.labels)

step_starts : (s : Layout) (p : Place) (stated : Statement) (old mid new : Option ℕ) (ls : Labels) (ws : List (List ℕ)) → s.fields.has_entry ≡ false → cons_option (if_directed entry_said stated) ws ≡ [] → AreFound s.labels (cons_option (stated_label p stated) ls)
    → Enters s p stated old mid → (ws ≡ [] → AreFound s.labels ls → new ≡ start_in ls (start_address s) mid) → new ≡ start_in (cons_option (stated_label p stated) ls) (start_address s) old
step_starts s p (Label w) old mid new ls ws unset none found is again =
    again none found.1 ∙ ap (start_in ls (start_address s)) (is ∙ start_there (is_start w) refl s.fields.has_entry unset)
  where
    start_there : (b : Bool) → is_start w ≡ b → (c : Bool) → c ≡ false → (if b && not c then Some (address s.text p.part p.at) else old) ≡ (if b then start_address s else old)
    start_there true named c no_entry = rw no_entry (sym (ap (λ v. address_in v (addresses s.text s.labels)) (sym (same_name w (codes "_start") named)) ∙ found_address s.text w p s.labels found.0))
    start_there false named c no_entry = refl
step_starts s p (Instruction u) old mid new ls ws unset none found is again = again none found ∙ ap (start_in ls (start_address s)) is
step_starts s p (Directed d) old mid new ls ws unset none found is again =
    let kept = directive_kept (addresses s.text s.labels) d old mid ws is none in
    again kept.0 found ∙ ap (start_in ls (start_address s)) kept.1

entry_starts : (s : Layout) (o q : Output) (xs : List Item) → s.fields.has_entry ≡ false → said_by entry_said xs ≡ [] → AreFound s.labels (filter_map label_place xs) → items_from s o xs ≡ Ok q
    → q.entry ≡ start_in (filter_map label_place xs) (start_address s) o.entry
unfolding items_from
entry_starts s o q [] unset none found h = ap (λ (r : Output). r.entry) (sym (line_ok o q h))
entry_starts s o q (x ∷ xs) unset none found h =
    let a = at_line_ok x.line (stated_step s x.place x.statement o) (λ p. items_from s p xs) q h in
    let first = stepped s x.place x.statement o a.value a.first in
    step_starts s x.place x.statement o.entry a.value.entry q.entry (filter_map label_place xs) (said_by entry_said xs) unset none found first.entry (λ rest there. entry_starts s a.value q xs unset rest there a.second)

same_either : (found : Option ℕ) (b : Bool) → (if b then found else found) ≡ found
same_either found true = refl
same_either found false = refl

start_same : (ls : Labels) (found : Option ℕ) → start_in ls found found ≡ found
start_same [] found = refl
start_same (l ∷ ls) found = ap (start_in ls found) (same_either found (is_start l.0)) ∙ start_same ls found

turned : (w v : List ℕ) → bytes_eq w v ≡ false → bytes_eq v w ≡ false
turned w v h = go (bytes_eq v w) refl
  where
    go : (b : Bool) → bytes_eq v w ≡ b → b ≡ false
    go true e = sym ((bytes_decides w v).1 (sym (same_name v w e))) ∙ h
    go false e = refl

start_found : (text : ℕ) (ls : Labels) (found : Option ℕ) → found ≡ address_in (codes "_start") (addresses text ls) → start_in ls found None ≡ found
start_found text [] found h = sym h
start_found text (l ∷ ls) found h = go (is_start l.0) refl (start_found text ls found)
  where
    go : (b : Bool) → is_start l.0 ≡ b → (found ≡ address_in (codes "_start") (addresses text ls) → start_in ls found None ≡ found) → start_in ls found (if b then found else None) ≡ found
    go true e again = start_same ls found
    go false e again = again (h ∙ rw (turned l.0 (codes "_start") e) refl)

pub start_entry : (s : Layout) (q : Output) → s.fields.has_entry ≡ false → said_by entry_said s.items ≡ [] → s.labels ≡ filter_map label_place s.items → All (λ l. place_in l.0 s.labels ≡ Some l.1) s.labels → items_from s empty_output s.items ≡ Ok q
    → q.entry ≡ start_address s
start_entry s q unset none labels distinct h =
    let found : AreFound s.labels (filter_map label_place s.items) = subst (AreFound s.labels) labels (all_found s.labels s.labels distinct) in
    entry_starts s empty_output q s.items unset none found h ∙ ap (λ (ls : Labels). start_in ls (start_address s) None) (sym labels) ∙ start_found s.text s.labels (start_address s) refl
