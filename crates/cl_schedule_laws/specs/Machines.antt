-- Machines of ranks that take turns, and turns that may go first.
use Rattle.std.specs.Prelude.{ℕ, ◌+◌, ◌≡◌, ◌≢◌, ◌<◌, ◌⊎◌, ◌↔◌, Bool, true, false, List, [], ◌∷◌}

-- some ranks
abbrev pub Ranks : Type 0
Ranks = ℕ → Bool

pub record Machine : Type 1 where
  pub State : Type 0
  -- a turn of this rank leads from the one to the other
  pub Goes : ℕ → State → State → Type 0
  -- such a turn, which found what it asks for, if that may be missed
  pub Finds : ℕ → State → State → Type 0
  -- the same, but for what no rank can ever be told
  pub Alike : State → State → Type 0
  -- what the rank asks for in its next turn is one of the patterns
  pub IsWithin : State → ℕ → Type 0
  -- so few messages that no send is refused in the next three turns, and in the next one
  pub HasRoom : State → Type 0
  pub HasSpace : State → Type 0
  -- 0 for the poll of a rank that waits on its own receive, else more
  pub weight : State → ℕ → ℕ
  -- the next turns of these ranks may go before those of all others, while the others stay within the patterns
  pub AreSure : State → Ranks → Type 0
  -- the rank polls its own receive, whose message is there
  pub IsReady : State → ℕ → Type 0

-- turns of these ranks, one behind the other
abbrev pub GoesOn : (m : Machine) → List ℕ → m.State → m.State → Type 0
GoesOn m [] old new = new ≡ old
GoesOn m (r ∷ rs) old new = (mid : m.State) × m.Goes r old mid × GoesOn m rs mid new

abbrev pub weighs : (m : Machine) (rs : List ℕ) (old new : m.State) → GoesOn m rs old new → ℕ
weighs m [] old new walk = 0
weighs m (r ∷ rs) old new walk = m.weight old r + weighs m rs walk.0 new walk.2

-- each of these turns is one of the patterns
abbrev pub AllWithin : (m : Machine) (rs : List ℕ) (old new : m.State) → GoesOn m rs old new → Type 0
AllWithin m [] old new walk = Unit {0}
AllWithin m (r ∷ rs) old new walk = m.IsWithin old r × AllWithin m rs walk.0 new walk.2

-- turns of r and then of s lead to what is alike
pub data IsReordered (m : Machine) (r s : ℕ) (old new : m.State) (first second : m.State) : Type 0 where
  at_once : m.Alike new second → IsReordered m r s old new first second
  -- or those and a poll of r do, which posted its receive before the message came
  r_polls : (last : m.State) → 0 < m.weight old r → m.weight second r ≡ 0 → m.IsWithin second r
      → m.Goes r second last → m.Alike new last
      → IsReordered m r s old new first second
  -- or they lead to where a poll of s leads, which is given its message at once now
  s_polls : m.IsReady new s → ((last : m.State) → m.Goes s new last → m.Alike last second)
      → IsReordered m r s old new first second

-- a turn, or one that found what it asks for
abbrev pub Takes : (m : Machine) → Bool → ℕ → m.State → m.State → Type 0
Takes m true r a b = m.Finds r a b
Takes m false r a b = m.Goes r a b

-- turns of r and then of s, in place of turns of s and then of r
pub record IsExchanged (m : Machine) (found : Bool) (r s : ℕ) (old new : m.State) : Type 0 where
  pub first : m.State
  pub goes : Takes m found r old first
  pub second : m.State
  pub then : m.Goes s first second
  pub reordered : IsReordered m r s old new first second

pub record IsMachine (m : Machine) : Type 0 where
  pub itself : (a : m.State) → m.Alike a a
  pub back : (a b : m.State) → m.Alike a b → m.Alike b a
  pub on : (a b c : m.State) → m.Alike a b → m.Alike b c → m.Alike a c
  -- alike states go alike by a turn within the patterns
  pub follows : (r : ℕ) (a b c : m.State) → m.Alike a b → m.IsWithin a r → m.Goes r a c
      → (d : m.State) × m.Goes r b d × m.Alike c d
  pub within : (r : ℕ) (a b : m.State) → m.Alike a b → m.IsWithin a r → m.IsWithin b r
  pub weight : (r : ℕ) (a b : m.State) → m.Alike a b → m.weight b r ≡ m.weight a r
  pub room : (a b : m.State) → m.Alike a b → m.HasRoom a → m.HasRoom b
  -- messages don't get fewer
  pub grows : (r : ℕ) (a b : m.State) → m.Goes r a b → m.HasRoom b → m.HasRoom a
  pub space : (a b : m.State) → m.Alike a b → m.HasSpace a → m.HasSpace b
  pub now : (a : m.State) → m.HasRoom a → m.HasSpace a
  pub soon : (r s : ℕ) (a b c : m.State) → m.HasRoom a → m.Goes r a b → m.Goes s b c → m.HasSpace b × m.HasSpace c
  -- what a rank asks for is its own
  pub own : (r s : ℕ) (a b : m.State) → s ≢ r → m.Goes r a b → m.IsWithin a s ↔ m.IsWithin b s
  pub owns : (r s : ℕ) (a b : m.State) → s ≢ r → m.Goes r a b → m.weight b s ≡ m.weight a s
  -- a poll of what is there can be taken, stays so and could have gone first, whatever turn of another rank is taken
  pub polls : (r : ℕ) (a : m.State) → m.IsReady a r → (b : m.State) × m.Goes r a b
  pub asks_for : (r : ℕ) (a : m.State) → m.IsReady a r → m.IsWithin a r
  pub gets : (r : ℕ) (a b : m.State) → m.IsReady a r → m.HasSpace a → m.Goes r a b → m.HasSpace b
  pub ready : (r s : ℕ) (a b : m.State) → s ≢ r → m.IsReady a r → m.IsWithin a s → m.HasSpace a → m.Goes s a b
      → m.IsReady b r
      × ((c : m.State) → m.Goes r b c
      → (first : m.State) × (second : m.State) × m.Goes r a first × m.Goes s first second × m.Alike c second)
  pub finds_goes : (r : ℕ) (a b : m.State) → m.Finds r a b → m.Goes r a b
  -- each of the sure ranks can take a turn that finds what it asks for, and is within the patterns
  pub goes : (rs : Ranks) (r : ℕ) (a : m.State) → m.AreSure a rs → rs r ≡ true → (b : m.State) × m.Finds r a b
  pub asks : (rs : Ranks) (r : ℕ) (a : m.State) → m.AreSure a rs → rs r ≡ true → m.IsWithin a r
  -- a turn of another rank is in vain, or the sure ones stay sure behind it and could have gone first
  pub first : (rs : Ranks) (s : ℕ) (a b : m.State) → rs s ≡ false → m.AreSure a rs → m.IsWithin a s → m.HasRoom a
      → m.Goes s a b
      → m.Alike a b
      ⊎ (m.AreSure b rs × ((r : ℕ) (c : m.State) (found : Bool) → rs r ≡ true → Takes m found r b c → IsExchanged m found r s a c))
