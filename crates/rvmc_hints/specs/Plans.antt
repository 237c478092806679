-- A plan or an order that names what isn't there, or that misses a rank.
use Rattle.std.specs.Prelude.{ℕ, zero, suc, ◌==◌, ◌||◌, ◌&&◌, nat_le, not, if◌then◌else◌, Bool, true, false}
use Rattle.std.specs.Prelude.{List, [], ◌∷◌, Option, None, Some}
use Rattle.rvmc_hints.specs.declared.hint.Hint.{Hint}
use Rattle.rvmc_hints.specs.declared.hint.Hint.TheVariants as hint

-- a number of the list isn't below the count
abbrev pub names_beyond : ℕ → List ℕ → Bool
names_beyond count [] = false
names_beyond count (number ∷ numbers) = nat_le count number || names_beyond count numbers

-- the number stands in the list
abbrev pub names : ℕ → List ℕ → Bool
names number [] = false
names number (other ∷ numbers) = (other == number) || names number numbers

-- so does each number below the count
abbrev pub names_each : ℕ → List ℕ → Bool
names_each zero numbers = true
names_each (suc count) numbers = names count numbers && names_each count numbers

-- the plan names a hart that isn't there
abbrev pub is_plan_wrong : ℕ → Option (List ℕ) → Bool
is_plan_wrong harts None = false
is_plan_wrong harts (Some plan) = names_beyond harts plan

-- the order names a rank that isn't there, or misses one
abbrev pub is_order_wrong : ℕ → Option (List ℕ) → Bool
is_order_wrong ranks None = false
is_order_wrong ranks (Some order) = names_beyond ranks order || not (names_each ranks order)

abbrev pub plans_in : ℕ → ℕ → Option (List ℕ) → Option (List ℕ) → Option Hint
plans_in ranks harts plan order =
    if is_plan_wrong harts plan then Some (hint.Harts harts)
    else (if is_order_wrong ranks order then Some (hint.Ranks ranks) else None)
