-- Gate words, and the two lists of a box: what was made ready, and what was got.
use Rattle.std.specs.Prelude.{◌≡◌, ℕ, ◌+◌, ◌-◌, ◌*◌, ◌/◌, ◌%◌, ◌^◌, ◌<◌, ◌==◌, ◌&&◌, nat_lt, if◌then◌else◌, List, []}
use Rattle.std.specs.Prelude.{◌∷◌, All, map, slice_get, Option, Some, None}
use Rattle.part_box.specs.declared.view.Made.{Made}
use Rattle.part_box.specs.declared.view.Got.{Got}
use Rattle.part_box.specs.declared.view.Loaded.{Loaded}

-- a gate is twice its stamp while the box is empty, and one more while it is full
abbrev pub stamp_of : ℕ → ℕ
stamp_of gate = gate / 2

abbrev pub IsEmptyGate : ℕ → Type 0
IsEmptyGate gate = gate % 2 ≡ 0

abbrev pub IsFullGate : ℕ → Type 0
IsFullGate gate = gate % 2 ≡ 1

-- no stamp stands above it
abbrev pub greatest_stamp : ℕ
greatest_stamp = 2 ^ 62 - 1

-- what a gate shows the receiver: the stamp of the thing in the box. A gate with the greatest stamp shows nothing
abbrev pub ready_stamp : ℕ → Option ℕ
ready_stamp gate = if (gate % 2 == 1) && nat_lt (stamp_of gate) greatest_stamp then Some (stamp_of gate) else None

-- what a gate shows the sender: the stamp of the last take. A gate with the greatest stamp shows nothing
abbrev pub taken_stamp : ℕ → Option ℕ
taken_stamp gate = if (gate % 2 == 0) && nat_lt (stamp_of gate) greatest_stamp then Some (stamp_of gate) else None

-- the thing that was got, as it was made
abbrev pub thing_of : Got → Made
thing_of g = record { stamp = g.stamp; words = g.words }

abbrev pub things_of : List Got → List Made
things_of got = map thing_of got

-- the stamp of the last take, 0 at first
abbrev pub last_take : List Got → ℕ
last_take [] = 0
last_take (g ∷ []) = g.taken
last_take (g ∷ h ∷ got) = last_take (h ∷ got)

-- made stamp k < take stamp k < made stamp k + 1
pub record IsInTurn (made : List Made) (got : List Got) : Type 0 where
  pub taken_later : (k : ℕ) (g : Got) → slice_get got k ≡ Some g → g.stamp < g.taken
  pub made_later : (k : ℕ) (g : Got) (m : Made) → slice_get got k ≡ Some g → slice_get made (k + 1) ≡ Some m
      → g.taken < m.stamp

-- each stamp is below 2^62
pub record IsLimited (made : List Made) (got : List Got) : Type 0 where
  pub made_low : All (λ m. m.stamp < 2 ^ 62) made
  pub taken_low : All (λ g. g.taken < 2 ^ 62) got

-- an even gate word that the sender loaded with k + 1 things made is twice take stamp k
abbrev pub ShowsTake : List Got → Loaded → Type 0
ShowsTake got l = (k : ℕ) → l.count ≡ k + 1 → IsEmptyGate l.word
    → (g : Got) × (slice_get got k ≡ Some g) × (l.word ≡ 2 * g.taken)

-- an odd gate word that the receiver loaded with k things got is twice made stamp k, and one more
abbrev pub ShowsMade : List Made → Loaded → Type 0
ShowsMade made l = IsFullGate l.word → (m : Made) × (slice_get made l.count ≡ Some m) × (l.word ≡ 2 * m.stamp + 1)
