-- A step more of what a picture shows.
use Rattle.std.specs.Prelude.{ℕ, zero, suc, ◌≡◌, ◌≤◌, ◌<◌, ◌+◌, ◌*◌, ◌-◌, ◌^◌, ◌==◌, nat_lt, min, if◌then◌else◌, Bool, true, false}
use Rattle.std.specs.Prelude.{List, [], ◌∷◌, ◌++◌, filter, length, map, replicate, Option, Some, None}
use Rattle.std.specs.List.{flat_map, last_or, slice_get, slice_set}
use Rattle.std.specs.Option.{option_map}
use Rattle.std.proofs.Common.{refl, sym, ap, ◌∙◌, subst, append-nil, append_assoc, arith}
use Rattle.std.proofs.lemmas.Bool.{eq-eqb, eqb-true, ltb-false, ltb-true}
use Rattle.std.proofs.lemmas.List.{flat_map_more, length-append}
use Rattle.std.proofs.lemmas.List.Elements.{filter-append}
use Rattle.std.proofs.lemmas.Option.{same_Some}
use Rattle.rvmc_draw.specs.Looks.{begun_at, begun_by, lane_of}
use Rattle.rvmc_draw.specs.Held.{begun_in}
use Rattle.rvmc_draw.specs.Marks.{shape_behind}
use Rattle.rvmc_draw.specs.Held.{shapes_set, shapes_with}
use Rattle.rvmc_draw.specs.Parts.{box_place, cell_of, readies, spot_at}
use Rattle.rvmc_draw.specs.Held.{cell_set, cells_if, cells_with, made_ready}
use Rattle.rvmc_draw.specs.Walks.{IsTable, begun_after, begun_of, each_after, of_lane, shape_after, last_shape_of, within}
use Rattle.rvmc_draw.specs.declared.deeds.Deed.{Deed}
use Rattle.rvmc_draw.specs.declared.drawing.Bar.{Bar}
use Rattle.rvmc_draw.specs.declared.drawing.Shape.{Shape}
use Rattle.rvmc_draw.specs.declared.drawing.Spot.{Spot}
use Rattle.rvmc_draw.specs.declared.parts.Cell.{Cell}
use Rattle.rvmc_draw.specs.declared.views.View.{View}

-- ---- what each step adds

pub each_from : {A : Type 0} (adds : List Deed → Deed → List A) (before deeds : List Deed) (d : Deed)
    → each_after adds before (deeds ++ d ∷ []) ≡ each_after adds before deeds ++ adds (before ++ deeds) d
each_from adds before [] d = append-nil (adds before d) ∙ ap (λ b. adds b d) (sym (append-nil before))
each_from adds before (e ∷ deeds) d =
    ap (λ rest. adds before e ++ rest) (each_from adds (before ++ e ∷ []) deeds d)
    ∙ sym (append_assoc (adds before e) (each_after adds (before ++ e ∷ []) deeds) (adds ((before ++ e ∷ []) ++ deeds) d))
    ∙ ap (λ b. (adds before e ++ each_after adds (before ++ e ∷ []) deeds) ++ adds b d)
    (append_assoc before (e ∷ []) deeds)

pub each_more : {A : Type 0} (adds : List Deed → Deed → List A) (deeds : List Deed) (d : Deed) (old new : List A)
    → old ≡ each_after adds [] deeds → new ≡ old ++ adds deeds d → new ≡ each_after adds [] (deeds ++ d ∷ [])
each_more adds deeds d old new was is = is ∙ ap (λ l. l ++ adds deeds d) was ∙ sym (each_from adds [] deeds d)

-- ---- tables

same_place : (k i : ℕ) → k == i ≡ true → k ≡ i
same_place k i e = eqb-true k i e

other_place : (k i : ℕ) → k == i ≡ false → k ≡ i → ⊥
other_place k i e same = let equal = eq-eqb k i same in absurd (cc)

set_same : {A : Type 0} (xs : List A) (k : ℕ) (x v : A) → slice_get xs k ≡ Some x
    → slice_get (slice_set xs k v) k ≡ Some v
set_same [] k x v there = absurd (cc)
set_same (y ∷ xs) zero x v there = refl
set_same (y ∷ xs) (suc k) x v there = set_same xs k x v there

set_other : {A : Type 0} (xs : List A) (k i : ℕ) (v : A) → (k ≡ i → ⊥) → slice_get (slice_set xs k v) i ≡ slice_get xs i
set_other [] k i v differ = refl
set_other (y ∷ xs) zero zero v differ = absurd (differ refl)
set_other (y ∷ xs) zero (suc i) v differ = refl
set_other (y ∷ xs) (suc k) zero v differ = refl
set_other (y ∷ xs) (suc k) (suc i) v differ = set_other xs k i v (λ h. differ (ap suc h))

set_nowhere : {A : Type 0} (xs : List A) (k : ℕ) (v : A) → slice_get xs k ≡ None → slice_set xs k v ≡ xs
set_nowhere [] k v none = refl
set_nowhere (y ∷ xs) zero v none = absurd (cc)
set_nowhere (y ∷ xs) (suc k) v none = ap (λ l. y ∷ l) (set_nowhere xs k v none)

-- what stands in a table's place
pub within_some : {A : Type 0} (count : ℕ) (at : ℕ → A) (k : ℕ) (x : A) → within count at k ≡ Some x
    → (nat_lt k count ≡ true) × (x ≡ at k)
within_some count at k x is = go (nat_lt k count) refl is
  where
    go : (b : Bool) → nat_lt k count ≡ b → (if b then Some (at k) else None) ≡ Some x
        → (nat_lt k count ≡ true) × (x ≡ at k)
    go true own same = (own, sym (same_Some (at k) x same))
    go false own same = absurd (cc)

within_none : {A : Type 0} (count : ℕ) (at : ℕ → A) (k : ℕ) → within count at k ≡ None → nat_lt k count ≡ false
within_none count at k is = go (nat_lt k count) refl is
  where
    go : (b : Bool) → nat_lt k count ≡ b → (if b then Some (at k) else None) ≡ None → nat_lt k count ≡ false
    go true own same = absurd (cc)
    go false own same = own

-- one place of a table changes
module _ {A : Type 0} (count k : ℕ) (at next : ℕ → A) (f : A → A) (xs ys : List A) (table : IsTable count at xs)
    (is_there : (x : A) → slice_get xs k ≡ Some x → ys ≡ slice_set xs k (f x))
    (is_none : slice_get xs k ≡ None → ys ≡ xs)
    (nexts : (place : ℕ) → next place ≡ (if (k == place) then f (at place) else at place)) where
  elsewhere : (place : ℕ) → k == place ≡ false → within count at place ≡ within count next place
  elsewhere place other =
      ap (λ x. if nat_lt place count then Some x else None)
      (sym (nexts place ∙ ap (λ b. if b then f (at place) else at place) other))

  changed : (x : A) → slice_get xs k ≡ Some x → (place : ℕ) (b : Bool) → k == place ≡ b
      → slice_get (slice_set xs k (f x)) place ≡ within count next place
  changed x there place true same =
      let own = within_some count at k x (sym (table k) ∙ there) in
      let here : k ≡ place = same_place k place same in
      let below : nat_lt place count ≡ true = subst (λ p. nat_lt p count ≡ true) here own.0 in
      let value : next place ≡ f x =
      nexts place ∙ ap (λ b. if b then f (at place) else at place) same
      ∙ ap f (ap at (sym here) ∙ sym own.1) in
      subst (λ p. slice_get (slice_set xs k (f x)) p ≡ Some (f x)) here (set_same xs k x (f x) there)
      ∙ ap Some (sym value) ∙ ap (λ b. if b then Some (next place) else None) (sym below)
  changed x there place false other =
      set_other xs k place (f x) (other_place k place other) ∙ table place ∙ elsewhere place other

  unchanged : slice_get xs k ≡ None → (place : ℕ) (b : Bool) → k == place ≡ b
      → within count at place ≡ within count next place
  unchanged none place true same =
      let here : k ≡ place = same_place k place same in
      let past : nat_lt place count ≡ false =
      subst (λ p. nat_lt p count ≡ false) here (within_none count at k (sym (table k) ∙ none)) in
      ap (λ b. if b then Some (at place) else None) past
      ∙ ap (λ b. if b then Some (next place) else None) (sym past)
  unchanged none place false other = elsewhere place other

  pub table_next : IsTable count next ys
  table_next place = go (slice_get xs k) refl
    where
      go : (o : Option A) → slice_get xs k ≡ o → slice_get ys place ≡ within count next place
      go (Some x) there =
          ap (λ l. slice_get l place) (is_there x there) ∙ changed x there place (k == place) refl
      go None none =
          ap (λ l. slice_get l place) (is_none none) ∙ table place ∙ unchanged none place (k == place) refl

-- nothing changes
pub table_same : {A : Type 0} (count : ℕ) (at next : ℕ → A) (xs : List A) → IsTable count at xs
    → ((place : ℕ) → next place ≡ at place) → IsTable count next xs
table_same count at next xs table nexts place =
    table place ∙ ap (λ x. if nat_lt place count then Some x else None) (sym (nexts place))

-- alike in all places
replicate_there : {A : Type 0} (count : ℕ) (x : A) (place : ℕ) → place < count → slice_get (replicate count x) place ≡ Some x
replicate_there zero x place below = absurd (omega (arith, below))
replicate_there (suc count) x zero below = refl
replicate_there (suc count) x (suc place) below = replicate_there count x place (omega (arith, below))

replicate_past : {A : Type 0} (count : ℕ) (x : A) (place : ℕ) → count ≤ place → slice_get (replicate count x) place ≡ None
replicate_past zero x place past = refl
replicate_past (suc count) x zero past = absurd (omega (arith, past))
replicate_past (suc count) x (suc place) past = replicate_past count x place (omega (arith, past))

pub table_none : {A : Type 0} (count : ℕ) (x : A) (at : ℕ → A) → ((place : ℕ) → at place ≡ x)
    → IsTable count at (replicate count x)
table_none count x at ats place = go (nat_lt place count) refl
  where
    go : (b : Bool) → nat_lt place count ≡ b → slice_get (replicate count x) place ≡ (if b then Some (at place) else None)
    go true below = replicate_there count x place (ltb-true place count below) ∙ ap Some (sym (ats place))
    go false past = replicate_past count x place (ltb-false place count past)

-- ---- boxes

pub last_append : {A : Type 0} (o : Option A) (xs ys : List A) → last_or o (xs ++ ys) ≡ last_or (last_or o xs) ys
last_append o [] ys = refl
last_append o (x ∷ xs) ys = last_append (Some x) xs ys

abbrev cell_next : Cell → List Spot → Cell
cell_next cell [] = cell
cell_next cell (spot ∷ spots) = made_ready cell spot

abbrev cell_counts : List Spot → Cell
cell_counts spots = record { phase = min (length spots) (2 ^ 64 - 1); last = last_or None spots }

min_more : (a b : ℕ) → min (a + 1) b ≡ min (min a b + 1) b
min_more a b = omega arith

counts_more : (spots : List Spot) (spot : Spot) → cell_counts (spots ++ spot ∷ []) ≡ made_ready (cell_counts spots) spot
counts_more spots spot =
    let phase : min (length (spots ++ spot ∷ [])) (2 ^ 64 - 1)
    ≡ min (min (length spots) (2 ^ 64 - 1) + 1) (2 ^ 64 - 1) =
    ap (λ n. min n (2 ^ 64 - 1)) (length-append spots (spot ∷ [])) ∙ min_more (length spots) (2 ^ 64 - 1) in
    let last : last_or None (spots ++ spot ∷ []) ≡ Some spot = last_append None spots (spot ∷ []) in
    ap (λ n. record { phase = n; last = last_or None (spots ++ spot ∷ []) }) phase
    ∙ ap (λ o. record { phase = min (min (length spots) (2 ^ 64 - 1) + 1) (2 ^ 64 - 1); last = o }) last

readies_more : (deeds : List Deed) (d : Deed) (place : ℕ)
    → readies place (deeds ++ d ∷ []) ≡ readies place deeds ++ spot_at place d.ready d.spot
readies_more deeds d place = sym (flat_map_more (λ (e : Deed). spot_at place e.ready e.spot) [] deeds d)

cell_same : (deeds : List Deed) (d : Deed) → d.ready ≡ None → (place : ℕ)
    → cell_of (deeds ++ d ∷ []) place ≡ cell_of deeds place
cell_same deeds d none place =
    ap cell_counts (readies_more deeds d place
    ∙ ap (λ o. readies place deeds ++ spot_at place o d.spot) none ∙ append-nil (readies place deeds))

cell_more : (deeds : List Deed) (d : Deed) (box : ℕ × ℕ) → d.ready ≡ Some box → (place : ℕ)
    → cell_of (deeds ++ d ∷ []) place
    ≡ (if (box_place box == place) then made_ready (cell_of deeds place) d.spot else cell_of deeds place)
cell_more deeds d box own place =
    ap cell_counts (readies_more deeds d place ∙ ap (λ o. readies place deeds ++ spot_at place o d.spot) own)
    ∙ go (box_place box == place)
  where
    go : (b : Bool) → cell_counts (readies place deeds ++ (if b then d.spot ∷ [] else []))
        ≡ (if b then made_ready (cell_counts (readies place deeds)) d.spot else cell_counts (readies place deeds))
    go true = counts_more (readies place deeds) d.spot
    go false = ap cell_counts (append-nil (readies place deeds))

pub cells_more : (count : ℕ) (deeds : List Deed) (d : Deed) (cells : List Cell) → IsTable count (cell_of deeds) cells
    → IsTable count (cell_of (deeds ++ d ∷ [])) (cells_with cells d)
cells_more count deeds d cells table = go d.ready refl
  where
    go : (o : Option (ℕ × ℕ)) → d.ready ≡ o → IsTable count (cell_of (deeds ++ d ∷ [])) (cells_with cells d)
    go None none =
        subst (λ (o : Option (ℕ × ℕ)). IsTable count (cell_of (deeds ++ d ∷ [])) (cells_if cells o d.spot)) (sym none)
        (table_same count (cell_of deeds) (cell_of (deeds ++ d ∷ [])) cells table (cell_same deeds d none))
    go (Some box) own =
        subst (λ (o : Option (ℕ × ℕ)). IsTable count (cell_of (deeds ++ d ∷ [])) (cells_if cells o d.spot)) (sym own)
        (table_next count (box_place box) (cell_of deeds) (cell_of (deeds ++ d ∷ [])) (λ c. made_ready c d.spot) cells
        (cell_set cells (box_place box) (slice_get cells (box_place box)) d.spot) table
        (λ x e. ap (λ o. cell_set cells (box_place box) o d.spot) e)
        (λ e. ap (λ o. cell_set cells (box_place box) o d.spot) e)
        (cell_more deeds d box own))

-- ---- harts

lane_more : (harts lane : ℕ) (deeds : List Deed) (d : Deed) → of_lane harts lane (deeds ++ d ∷ [])
    ≡ (if (lane_of harts d.spot == lane) then of_lane harts lane deeds ++ d ∷ [] else of_lane harts lane deeds)
lane_more harts lane deeds d =
    filter-append (λ (e : Deed). lane_of harts e.spot == lane) deeds (d ∷ []) ∙ go (lane_of harts d.spot == lane)
  where
    go : (b : Bool) → of_lane harts lane deeds ++ (if b then d ∷ [] else [])
        ≡ (if b then of_lane harts lane deeds ++ d ∷ [] else of_lane harts lane deeds)
    go true = refl
    go false = append-nil (of_lane harts lane deeds)

begun_append : (begun : Option Bar) (deeds : List Deed) (d : Deed)
    → begun_after begun (deeds ++ d ∷ []) ≡ begun_by (begun_after begun deeds) d
begun_append begun [] d = refl
begun_append begun (e ∷ deeds) d = begun_append (begun_by begun e) deeds d

begun_next : (harts : ℕ) (deeds : List Deed) (d : Deed) (lane : ℕ)
    → begun_of harts (deeds ++ d ∷ []) lane
    ≡ (if (lane_of harts d.spot == lane) then begun_by (begun_of harts deeds lane) d else begun_of harts deeds lane)
begun_next harts deeds d lane =
    ap (begun_after None) (lane_more harts lane deeds d) ∙ go (lane_of harts d.spot == lane)
  where
    go : (b : Bool)
        → begun_after None (if b then of_lane harts lane deeds ++ d ∷ [] else of_lane harts lane deeds)
        ≡ (if b then begun_by (begun_of harts deeds lane) d else begun_of harts deeds lane)
    go true = begun_append None (of_lane harts lane deeds) d
    go false = refl

pub begun_more : (count harts : ℕ) (deeds : List Deed) (d : Deed) (begun : List (Option Bar))
    → IsTable count (begun_of harts deeds) begun
    → IsTable count (begun_of harts (deeds ++ d ∷ []))
    (slice_set begun (lane_of harts d.spot) (begun_by (begun_in begun (lane_of harts d.spot)) d))
begun_more count harts deeds d begun table =
    table_next count (lane_of harts d.spot) (begun_of harts deeds) (begun_of harts (deeds ++ d ∷ []))
    (λ b. begun_by b d) begun
    (slice_set begun (lane_of harts d.spot) (begun_by (begun_in begun (lane_of harts d.spot)) d)) table
    (λ x e. ap (λ o. slice_set begun (lane_of harts d.spot) (begun_by (begun_at o) d)) e)
    (λ e. set_nowhere begun (lane_of harts d.spot) (begun_by (begun_in begun (lane_of harts d.spot)) d) e)
    (begun_next harts deeds d)

shape_append : (view : View) (last : Option Shape) (deeds : List Deed) (d : Deed)
    → shape_after view last (deeds ++ d ∷ []) ≡ shape_behind view (shape_after view last deeds) d
shape_append view last [] d = refl
shape_append view last (e ∷ deeds) d = shape_append view (shape_behind view last e) deeds d

shape_next : (view : View) (harts : ℕ) (deeds : List Deed) (d : Deed) (lane : ℕ)
    → last_shape_of view harts (deeds ++ d ∷ []) lane
    ≡ (if (lane_of harts d.spot == lane) then shape_behind view (last_shape_of view harts deeds lane) d
    else last_shape_of view harts deeds lane)
shape_next view harts deeds d lane =
    ap (shape_after view None) (lane_more harts lane deeds d) ∙ go (lane_of harts d.spot == lane)
  where
    go : (b : Bool)
        → shape_after view None (if b then of_lane harts lane deeds ++ d ∷ [] else of_lane harts lane deeds)
        ≡ (if b then shape_behind view (last_shape_of view harts deeds lane) d else last_shape_of view harts deeds lane)
    go true = shape_append view None (of_lane harts lane deeds) d
    go false = refl

pub shapes_more : (count : ℕ) (view : View) (harts : ℕ) (deeds : List Deed) (d : Deed) (shapes : List (Option Shape))
    → IsTable count (last_shape_of view harts deeds) shapes
    → IsTable count (last_shape_of view harts (deeds ++ d ∷ [])) (shapes_with view harts shapes d)
shapes_more count view harts deeds d shapes table =
    table_next count (lane_of harts d.spot) (last_shape_of view harts deeds) (last_shape_of view harts (deeds ++ d ∷ []))
    (λ last. shape_behind view last d) shapes (shapes_with view harts shapes d) table
    (λ x e. ap (λ o. shapes_set view shapes (lane_of harts d.spot) o d) e)
    (λ e. ap (λ o. shapes_set view shapes (lane_of harts d.spot) o d) e)
    (shape_next view harts deeds d)
