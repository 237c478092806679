-- The labels that the code keeps are the definition's, in order.
use Rattle.std.proofs.Common.{◌≡◌, ℕ, Bool, true, false, cond, List, [], ◌∷◌, ◌++◌, Option, Some, None, Result, Ok, Err, is_some, refl, ap, ◌∙◌, Bor}
use Rattle.std.specs.Prelude.{nat_eq}
use Rattle.std.specs.Str.{bytes_eq}
use Rattle.std.specs.Cmp.Lexicographic.{pointwise}
use Rattle.std.specs.Map.{lookup}
use Rattle.std.specs.Option.{option_map}
use Rattle.indexmap.specs.IndexMap.{insert_entry}
use Rattle.rv_asm_tokens.specs.declared.fault.AsmFaultKind.{AsmFaultKind}
use Rattle.rv_asm_tokens.specs.declared.fault.AsmFaultKind.TheVariants as kinds
use Rattle.rv_asm_tokens.specs.Lexeme.{Lexeme, name, colon}
use Rattle.rv_asm_lines.specs.Resolved.{address_in}
use Rattle.rv_asm_lines.specs.Parts.{address}
use Rattle.rv_asm_lines.specs.declared.parts.Place.{Place}
use Rattle.rv_asm_lines.specs.Layout.{Labels, Layout, addresses, place_in, with_label, labels_at}
use Rattle.rv_asm_lines.specs.LayoutView.{labels_view, front_label}

pub lookup_view : (w : List ℕ) (es : List (Bor (List ℕ) × Place)) → lookup (λ k. pointwise nat_eq w k.now) es ≡ place_in w (labels_view es)
lookup_view w [] = refl
lookup_view w (e ∷ es) = ap (cond (bytes_eq w e.0.now) (Some e.1)) (lookup_view w es)

chosen : {A B : Type 0} (f : A → B) (b : Bool) (x : A) (o : Option A) → cond b (Some (f x)) (option_map f o) ≡ option_map f (cond b (Some x) o)
chosen f true x o = refl
chosen f false x o = refl

-- a label's address is that of its place
pub address_of_place : (text : ℕ) (w : List ℕ) (ls : Labels) → address_in w (addresses text ls) ≡ option_map (λ p. address text p.part p.at) (place_in w ls)
address_of_place text w [] = refl
address_of_place text w (l ∷ ls) = ap (cond (bytes_eq w l.0) (Some (address text l.1.part l.1.at))) (address_of_place text w ls) ∙ chosen (λ p. address text p.part p.at) (bytes_eq w l.0) l.1 (place_in w ls)

absent_step : {A : Type 0} (b : Bool) (x : A) (o : Option A) → cond b (Some x) o ≡ None → (b ≡ false) × (o ≡ None)
absent_step true x o h = absurd cc
absent_step false x o h = (refl, h)

pub insert_view : (k : Bor (List ℕ)) (at : Place) (es : List (Bor (List ℕ) × Place)) → place_in k.now (labels_view es) ≡ None → labels_view (insert_entry (λ x y. pointwise nat_eq x.now y.now) es k at) ≡ labels_view es ++ (k.now, at) ∷ []
insert_view k at [] h = refl
insert_view k at (e ∷ es) h =
    let a = absent_step (bytes_eq k.now e.0.now) e.1 (place_in k.now (labels_view es)) h in
    rw (a.0) (ap (λ (ls : Labels). (e.0.now, e.1) ∷ ls) (insert_view k at es a.1))

-- ---- the front of a line

abbrev some : {A : Type 0} → A → Option A
some x = Some x

some_is : {A : Type 0} (x y : A) → some x ≡ some y → x ≡ y
some_is x y e = cc

pub labels_none : (n : ℕ) (s : Layout) (ts : List Lexeme) → front_label ts ≡ None → labels_at n s ts ≡ Ok (s, ts)
unfolding labels_at
labels_none n s (name w ∷ colon ∷ rest) h = absurd cc
labels_none n s ts h = refl

pub labels_twice : (n : ℕ) (s : Layout) (ts : List Lexeme) (w : List ℕ) (rest : List Lexeme) → front_label ts ≡ Some (w, rest) → is_some (place_in w s.labels) ≡ true → labels_at n s ts ≡ Err kinds.LabelTwice
unfolding labels_at
labels_twice n s (name v ∷ colon ∷ others) w rest h there =
    let both = some_is (v, others) (w, rest) h in
    let same : v ≡ w = ap (λ (p : List ℕ × List Lexeme). p.0) both in
    rw (same, there) refl
labels_twice n s ts w rest h there = absurd cc

pub labels_go : (n : ℕ) (s : Layout) (ts : List Lexeme) (w : List ℕ) (rest : List Lexeme) (whole : Result (Layout × List Lexeme) AsmFaultKind) → front_label ts ≡ Some (w, rest) → is_some (place_in w s.labels) ≡ false
    → labels_at n s ts ≡ whole → labels_at n (with_label n s w) rest ≡ whole
unfolding labels_at
labels_go n s (name v ∷ colon ∷ others) w rest whole h there so_far =
    let both = some_is (v, others) (w, rest) h in
    let same : v ≡ w = ap (λ (p : List ℕ × List Lexeme). p.0) both in
    let rests : others ≡ rest = ap (λ (p : List ℕ × List Lexeme). p.1) both in
    rw (same, rests, there) at so_far
labels_go n s ts w rest whole h there so_far = absurd cc

pub none_from : {A : Type 0} (o : Option A) → is_some o ≡ false → o ≡ None
none_from None h = refl
none_from (Some x) h = absurd cc
