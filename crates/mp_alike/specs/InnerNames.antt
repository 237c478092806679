-- How names are found: each post of a rank goes to the first post of that rank in the other hub that none went to.
use Rattle.std.specs.Prelude.{ℕ, ◌<◌, ◌≡◌, List, length, Option, Some, None}
use Rattle.std.specs.List.{slice_get}
use Rattle.std.specs.Option.{option_map}
use Rattle.mp_match.specs.declared.posts.Line.{Line}
use Rattle.mp_alike_laws.specs.Renaming.{Renaming, line_by}
use Rattle.mp_alike_laws.specs.Alike.{maker}

-- a post of the rank stands at the place, and none went to it
pub record IsFree (rank : ℕ) (lines : List Line) (back : List (Option ℕ)) (place : ℕ) : Type 0 where
  pub line : Line
  pub there : slice_get lines place ≡ Some line
  pub made : maker line.post ≡ rank
  pub free : slice_get back place ≡ Some None

-- the first of them
pub record IsFirstFree (rank : ℕ) (lines : List Line) (back : List (Option ℕ)) (place : ℕ) : Type 0 where
  pub free : IsFree rank lines back place
  pub first : (other : ℕ) → other < place → ¬ IsFree rank lines back other

-- what alike boards have of their posts alone
pub record Corresponds (names : Renaming) (mine theirs : List Line) : Type 0 where
  pub lines : (place : ℕ) → slice_get theirs (names.to place) ≡ option_map (line_by names) (slice_get mine place)
  pub ranks : (i j : ℕ) (m n : Line) → i < j → slice_get mine i ≡ Some m → slice_get mine j ≡ Some n
      → maker m.post ≡ maker n.post → names.to i < names.to j

-- where the first posts go, and from where
pub record IsNaming (mine theirs : List Line) (to : List ℕ) (back : List (Option ℕ)) : Type 0 where
  pub even : length back ≡ length theirs
  pub there : (k p : ℕ) → slice_get to k ≡ Some p → slice_get back p ≡ Some (Some k)
  pub again : (p k : ℕ) → slice_get back p ≡ Some (Some k) → slice_get to k ≡ Some p
  -- the posts of each rank in their order, and none is passed over
  pub ranks : (i j p q : ℕ) (m n : Line) → i < j → slice_get mine i ≡ Some m → slice_get mine j ≡ Some n
      → maker m.post ≡ maker n.post → slice_get to i ≡ Some p → slice_get to j ≡ Some q → p < q
  pub least : (k p q : ℕ) (m : Line) → slice_get mine k ≡ Some m → slice_get to k ≡ Some p
      → IsFree (maker m.post) theirs back q → p < q
  -- so every renaming by which the posts correspond has them go there
  pub forced : (names : Renaming) → Corresponds names mine theirs → (k p : ℕ) → slice_get to k ≡ Some p
      → names.to k ≡ p
