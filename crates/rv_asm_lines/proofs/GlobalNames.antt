-- The names that the code keeps are the definition's, in order.
use Rattle.std.proofs.Common.{◌≡◌, ℕ, true, false, List, [], ◌∷◌, length, map, Ok, Err, nat_lt, refl, sym, ap, ◌∙◌}
use Rattle.std.specs.Global.{Vec}
use Rattle.std.specs.Prelude.{◌||◌}
use Rattle.std.specs.BTreeSet.{insert_key}
use Rattle.std.specs.Cmp.Lexicographic.{slice_cmp, texts_ties}
use Rattle.std.specs.List.{list_any}
use Rattle.std.specs.Ordering.{is_eq, match_ordering, nat_cmp}
use Rattle.std.specs.declared.cmp.Ordering.{Ordering}
use Rattle.std.specs.declared.cmp.Ordering.TheVariants.{Less, Equal, Greater}
use Rattle.std.specs.Str.{bytes_eq}
use Rattle.rv_asm_tokens.specs.declared.fault.AsmFaultKind.TheVariants as kinds
use Rattle.rv_asm_lines.specs.Globals.{is_global, most_globals, with_global}

abbrev bytes_of : Vec ℕ → List ℕ
bytes_of w = w.items

pub found_view : (w : List ℕ) (ks : List (Vec ℕ)) → list_any (λ k. is_eq (slice_cmp nat_cmp w k.items)) ks ≡ is_global w (map bytes_of ks)
found_view w [] = refl
found_view w (k ∷ ks) = ap (λ b. b || list_any (λ (v : Vec ℕ). is_eq (slice_cmp nat_cmp w v.items)) ks) (sym (texts_ties w k.items)) ∙ ap (λ b. bytes_eq w k.items || b) (found_view w ks)

pub inserted_view : (w : Vec ℕ) (ks : List (Vec ℕ)) → map bytes_of (insert_key (λ x y. slice_cmp nat_cmp x.items y.items) ks w) ≡ insert_key (slice_cmp nat_cmp) (map bytes_of ks) w.items
inserted_view w [] = refl
inserted_view w (k ∷ ks) = go (slice_cmp nat_cmp w.items k.items) (inserted_view w ks)
  where
    compare : Vec ℕ → Vec ℕ → Ordering
    compare x y = slice_cmp nat_cmp x.items y.items

    go : (r : Ordering) → map bytes_of (insert_key compare ks w) ≡ insert_key (slice_cmp nat_cmp) (map bytes_of ks) w.items
        → map bytes_of (match_ordering r (w ∷ k ∷ ks) (k ∷ ks) (k ∷ insert_key compare ks w)) ≡ match_ordering r (w.items ∷ k.items ∷ map bytes_of ks) (k.items ∷ map bytes_of ks) (k.items ∷ insert_key (slice_cmp nat_cmp) (map bytes_of ks) w.items)
    go Less h = refl
    go Equal h = refl
    go Greater h = ap (λ (vs : List (List ℕ)). k.items ∷ vs) h

-- what a name comes to, by whether it is there and how many there are
pub known_name : (w : List ℕ) (names : List (List ℕ)) → is_global w names ≡ true → with_global w names ≡ Ok names
known_name w names h = rw h refl

pub too_many : (w : List ℕ) (names : List (List ℕ)) → is_global w names ≡ false → nat_lt (length names) most_globals ≡ false → with_global w names ≡ Err kinds.Limit
too_many w names h few = rw (h, few) refl

pub new_name : (w : List ℕ) (names : List (List ℕ)) → is_global w names ≡ false → nat_lt (length names) most_globals ≡ true → with_global w names ≡ Ok (insert_key (slice_cmp nat_cmp) names w)
new_name w names h few = rw (h, few) refl
