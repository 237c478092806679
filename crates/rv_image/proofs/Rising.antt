-- Symbols that are read one after the other, each name behind the last one, have names that rise, and the other way.
use Rattle.std.proofs.Common.{◌≡◌, ℕ, true, List, [], ◌∷◌, ◌++◌, refl, sym, ap, subst, All}
use Rattle.std.specs.Prelude.{⊤}
use Rattle.std.specs.List.{AllByRecursion}
use Rattle.std.specs.List.Sorted.{IsStrictlySortedBy}
use Rattle.std.specs.Ordering.{is_lt, nat_cmp}
use Rattle.std.specs.Cmp.Lexicographic.{slice_cmp, nat_list_cmp_total}
use Rattle.std.specs.declared.cmp.Ordering.{Ordering}
use Rattle.std.specs.declared.cmp.Ordering.TheVariants.{Less, Equal, Greater}
use Rattle.std.proofs.lemmas.List.Elements.{All-from_recursion, recursion_from_All}
use Rattle.rv_image_types.specs.declared.images.Symbol.{Symbol}
use Rattle.rv_image_types.specs.Image.{IsSymbol, symbol_names}
use Rattle.rv_image_types.specs.Names.{is_symbol_name, name_before, RisingNames}
use Rattle.rv_image.specs.Reading.{last_name}
use Rattle.rv_image.proofs.Distinct.{AllAfter}

-- a symbol that may be read behind others
abbrev pub IsNextSymbol : ℕ → List Symbol → Symbol → Type 0
IsNextSymbol memory done symbol = IsSymbol memory symbol × (name_before (last_name done) symbol.name ≡ true)

pub last_name-push : (done : List Symbol) (symbol : Symbol) → last_name (done ++ symbol ∷ []) ≡ symbol.name
last_name-push [] symbol = refl
last_name-push (x ∷ []) symbol = refl
last_name-push (x ∷ y ∷ xs) symbol = last_name-push (y ∷ xs) symbol

less_before : (o : Ordering) → is_lt o ≡ true → o ≡ Less
less_before Less e = refl
less_before Equal e = absurd cc
less_before Greater e = absurd cc

before_less : (o : Ordering) → o ≡ Less → is_lt o ≡ true
before_less o e = ap is_lt e

-- what stands before one name stands before all behind that
all_behind : (x y : List ℕ) (zs : List (List ℕ)) → slice_cmp nat_cmp x y ≡ Less → AllByRecursion (λ z. slice_cmp nat_cmp y z ≡ Less) zs → AllByRecursion (λ z. slice_cmp nat_cmp x z ≡ Less) zs
all_behind x y [] less all = tt
all_behind x y (z ∷ zs) less all = (nat_list_cmp_total.trans x y z less all.0, all_behind x y zs less all.1)

in_front : (x y : List ℕ) (ys : List (List ℕ)) → name_before x y ≡ true → RisingNames (y ∷ ys) → RisingNames (x ∷ y ∷ ys)
unfolding IsStrictlySortedBy
in_front x y ys before rising =
    let less : slice_cmp nat_cmp x y ≡ Less = less_before (slice_cmp nat_cmp x y) before in
    ((less, all_behind x y ys less rising.0), rising)

-- what is read is right, and rises
pub AllAfter-rising : (memory : ℕ) (before symbols : List Symbol) → AllAfter (IsNextSymbol memory) before symbols → RisingNames (symbol_names symbols)
unfolding IsStrictlySortedBy
AllAfter-rising memory before [] all = tt
AllAfter-rising memory before (x ∷ []) all = (tt, tt)
AllAfter-rising memory before (x ∷ y ∷ symbols) all =
    let behind : name_before x.name y.name ≡ true = subst (λ (n : List ℕ). name_before n y.name ≡ true) (last_name-push before x) all.1.0.1 in
    in_front x.name y.name (symbol_names symbols) behind (AllAfter-rising memory (before ++ x ∷ []) (y ∷ symbols) all.1)

pub AllAfter-symbols : (memory : ℕ) (before symbols : List Symbol) → AllAfter (IsNextSymbol memory) before symbols → All (IsSymbol memory) symbols
AllAfter-symbols memory before symbols all = All-from_recursion (IsSymbol memory) symbols (each before symbols all)
  where
    each : (before symbols : List Symbol) → AllAfter (IsNextSymbol memory) before symbols → AllByRecursion (IsSymbol memory) symbols
    each before [] all = tt
    each before (x ∷ symbols) all = (all.0.0, each (before ++ x ∷ []) symbols all.1)

-- no bytes stand before every name
pub first_before : (name : List ℕ) → is_symbol_name name ≡ true → name_before [] name ≡ true
first_before [] named = absurd cc
first_before (byte ∷ name) named = refl

-- the first of them stands behind the name
abbrev IsBehind : List ℕ → List Symbol → Type 0
IsBehind last [] = ⊤
IsBehind last (symbol ∷ symbols) = name_before last symbol.name ≡ true

next_behind : (x : Symbol) (symbols : List Symbol) → RisingNames (symbol_names (x ∷ symbols)) → IsBehind x.name symbols
unfolding IsStrictlySortedBy
next_behind x [] rising = tt
next_behind x (y ∷ symbols) rising = before_less (slice_cmp nat_cmp x.name y.name) rising.0.0

rising_rest : (x : Symbol) (symbols : List Symbol) → RisingNames (symbol_names (x ∷ symbols)) → RisingNames (symbol_names symbols)
unfolding IsStrictlySortedBy
rising_rest x symbols rising = rising.1

first_behind : (memory : ℕ) (symbols : List Symbol) → AllByRecursion (IsSymbol memory) symbols → IsBehind [] symbols
first_behind memory [] all = tt
first_behind memory (x ∷ symbols) all = first_before x.name all.0.named

-- an image's symbols are read one after the other
pub rising-AllAfter : (memory : ℕ) (symbols : List Symbol) → All (IsSymbol memory) symbols → RisingNames (symbol_names symbols) → AllAfter (IsNextSymbol memory) [] symbols
rising-AllAfter memory symbols all rising =
    let right = recursion_from_All (IsSymbol memory) symbols all in
    each [] symbols right rising (first_behind memory symbols right)
  where
    each : (before symbols : List Symbol) → AllByRecursion (IsSymbol memory) symbols → RisingNames (symbol_names symbols) → IsBehind (last_name before) symbols → AllAfter (IsNextSymbol memory) before symbols
    each before [] all rising behind = tt
    each before (x ∷ symbols) all rising behind = (
      (all.0, behind),
      each (before ++ x ∷ []) symbols all.1 (rising_rest x symbols rising) (subst (λ (n : List ℕ). IsBehind n symbols) (sym (last_name-push before x)) (next_behind x symbols rising)),
    )
