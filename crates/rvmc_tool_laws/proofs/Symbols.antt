-- The nearest symbol.
use Rattle.std.proofs.Common.{ℕ, ◌≡◌, ◌∙◌, ◌<◌, ◌≤◌, ◌&&◌, ◌⊎◌, inl, inr, Bool, true, false, cond, List, [], ◌∷◌, ap, refl, subst, sym, arith}
use Rattle.std.specs.Prelude.{MatchOption, Option, Some, None, nat_le, nat_lt}
use Rattle.std.specs.List.{AllByRecursion}
use Rattle.rv_image_types.specs.declared.images.Symbol.{Symbol}
use Rattle.rvmc_tool_laws.specs.Waits.{IsNearest, NearestLaw}
use Rattle.rvmc_places.specs.Places.{is_nearer, nearest_from}

-- ---- what the tests tell

at_most : (a b : ℕ) → nat_le a b ≡ true → a ≤ b
at_most a b is = grind (arith, is)

above : (a b : ℕ) → nat_le a b ≡ false → b < a
above a b is = grind (arith, is)

both_one : (a b : Bool) → (a && b) ≡ true → a ≡ true
both_one true b is = refl
both_one false b is = is

both_two : (a b : Bool) → (a && b) ≡ true → b ≡ true
both_two true b is = is
both_two false b is = absurd (cc)

below : (a b : ℕ) → nat_lt a b ≡ true → a < b
below a b is = grind (arith, is)

not_below : (a b : ℕ) → nat_lt a b ≡ false → b ≤ a
not_below a b is = grind (arith, is)

not_both : (at f x : ℕ) → (nat_le x at && nat_lt f x) ≡ false → x ≤ at → x ≤ f
not_both at f x is le = go (nat_le x at) (nat_lt f x) refl refl is
  where
    go : (a b : Bool) → nat_le x at ≡ a → nat_lt f x ≡ b → (a && b) ≡ false → x ≤ f
    go true b one two none = not_below f x (two ∙ none)
    go false b one two none = let far = above x at one in omega (arith, far, le)

-- ---- behind a symbol that was found

Stays : ℕ → Symbol → List Symbol → Type 0
Stays at f rest = (nearest_from at (Some f) rest ≡ Some f) × AllByRecursion (λ other. other.address ≤ at → other.address ≤ f.address) rest

Moves : ℕ → Symbol → List Symbol → Type 0
Moves at f rest = (s : Symbol) × (nearest_from at (Some f) rest ≡ Some s) × (f.address < s.address) × IsNearest at rest s

behind : (at : ℕ) (f : Symbol) (rest : List Symbol) → Stays at f rest ⊎ Moves at f rest
unfolding Stays Moves
behind at f [] = inl (refl, tt)
behind at f (x ∷ xs) = go (is_nearer at (Some f) x) refl (behind at x xs) (behind at f xs)
  where
    step : (b : Bool) → is_nearer at (Some f) x ≡ b
        → nearest_from at (Some f) (x ∷ xs) ≡ nearest_from at (cond b (Some x) (Some f)) xs
    step b is = ap (λ b. nearest_from at (cond b (Some x) (Some f)) xs) is

    nearer : is_nearer at (Some f) x ≡ true → Stays at x xs ⊎ Moves at x xs → Stays at f (x ∷ xs) ⊎ Moves at f (x ∷ xs)
    nearer is (inl (same, all)) = inr (
      x,
      step true is ∙ same,
      below f.address x.address (both_two (nat_le x.address at) (nat_lt f.address x.address) is),
      record {
        front = [];
        back = xs;
        stands = refl;
        before = at_most x.address at (both_one (nat_le x.address at) (nat_lt f.address x.address) is);
        first = tt;
        none_nearer = all;
      },
    )
    nearer is (inr (s, same, more, n)) =
        let first = below f.address x.address (both_two (nat_le x.address at) (nat_lt f.address x.address) is) in
        inr (
          s,
          step true is ∙ same,
          omega (arith, first, more),
          record {
            front = x ∷ n.front;
            back = n.back;
            stands = ap (λ rest. x ∷ rest) n.stands;
            before = n.before;
            first = ((λ le. more), n.first);
            none_nearer = n.none_nearer;
          },
        )

    other : is_nearer at (Some f) x ≡ false → Stays at f xs ⊎ Moves at f xs → Stays at f (x ∷ xs) ⊎ Moves at f (x ∷ xs)
    other is (inl (same, all)) = inl (step false is ∙ same, (not_both at f.address x.address is, all))
    other is (inr (s, same, more, n)) =
        inr (
          s,
          step false is ∙ same,
          more,
          record {
            front = x ∷ n.front;
            back = n.back;
            stands = ap (λ rest. x ∷ rest) n.stands;
            before = n.before;
            first = ((λ le. let far = not_both at f.address x.address is le in omega (arith, far, more)), n.first);
            none_nearer = n.none_nearer;
          },
        )

    go : (b : Bool) → is_nearer at (Some f) x ≡ b → Stays at x xs ⊎ Moves at x xs → Stays at f xs ⊎ Moves at f xs
        → Stays at f (x ∷ xs) ⊎ Moves at f (x ∷ xs)
    go true is of_x of_f = nearer is of_x
    go false is of_x of_f = other is of_f

-- ---- all of them

Told : ℕ → List Symbol → Option Symbol → Type 0
Told at symbols found = MatchOption found (AllByRecursion (λ symbol. at < symbol.address) symbols) (IsNearest at symbols)

passed : (at : ℕ) (x : Symbol) (xs : List Symbol) (found : Option Symbol) → at < x.address → Told at xs found → Told at (x ∷ xs) found
unfolding Told
passed at x xs None far all = (far, all)
passed at x xs (Some s) far n = record {
  front = x ∷ n.front;
  back = n.back;
  stands = ap (λ rest. x ∷ rest) n.stands;
  before = n.before;
  first = ((λ le. absurd (omega (arith, far, le))), n.first);
  none_nearer = n.none_nearer;
}

from_first : (at : ℕ) (symbols : List Symbol) → Told at symbols (nearest_from at None symbols)
unfolding Told Stays Moves
from_first at [] = tt
from_first at (x ∷ xs) = go (nat_le x.address at) refl (from_first at xs)
  where
    step : (b : Bool) → nat_le x.address at ≡ b
        → nearest_from at None (x ∷ xs) ≡ nearest_from at (cond b (Some x) None) xs
    step b is = ap (λ b. nearest_from at (cond b (Some x) None) xs) is

    found : nat_le x.address at ≡ true → Stays at x xs ⊎ Moves at x xs → Told at (x ∷ xs) (nearest_from at None (x ∷ xs))
    found is (inl (same, all)) = subst (Told at (x ∷ xs)) (sym (step true is ∙ same)) (record {
      front = [];
      back = xs;
      stands = refl;
      before = at_most x.address at is;
      first = tt;
      none_nearer = all;
    })
    found is (inr (s, same, more, n)) = subst (Told at (x ∷ xs)) (sym (step true is ∙ same)) (record {
      front = x ∷ n.front;
      back = n.back;
      stands = ap (λ rest. x ∷ rest) n.stands;
      before = n.before;
      first = ((λ le. more), n.first);
      none_nearer = n.none_nearer;
    })

    go : (b : Bool) → nat_le x.address at ≡ b → Told at xs (nearest_from at None xs) → Told at (x ∷ xs) (nearest_from at None (x ∷ xs))
    go true is rest = found is (behind at x xs)
    go false is rest =
        subst (Told at (x ∷ xs)) (sym (step false is)) (passed at x xs (nearest_from at None xs) (above x.address at is) rest)

pub nearest_law : NearestLaw
unfolding Told
nearest_law at symbols = from_first at symbols
