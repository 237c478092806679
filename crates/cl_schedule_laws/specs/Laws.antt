-- The law of schedules.
use Rattle.std.specs.Prelude.{ℕ, ◌<◌, ◌≡◌, ◌⊎◌, Bool, true, List}
use Rattle.cl_schedule_laws.specs.Machines.{AllWithin, GoesOn, IsMachine, Machine, Ranks}

-- states at which all ranks are let go, and those that lead to them, with a bound on how many turns
pub record Kept (m : Machine) : Type 1 where
  pub IsNode : m.State → Type 0
  pub Settles : ℕ → m.State → Type 0

-- it settles in fewer turns
abbrev pub IsNearer : (m : Machine) → Kept m → ℕ → m.State → Type 0
IsNearer m kept n b = (fewer : ℕ) × (fewer < n) × kept.Settles fewer b

-- wherever a turn of the rank leads that finds what it asks for is nearer
abbrev pub Leads : (m : Machine) → Kept m → ℕ → m.State → ℕ → Type 0
Leads m kept n a r = (b : m.State) → m.Finds r a b → IsNearer m kept n b

-- the state is alike a node; or some ranks are sure, a turn of one of them leads on if it finds what it asks for, and each
-- turn of theirs leads on or is in vain
abbrev pub IsOnItsWay : (m : Machine) → Kept m → ℕ → m.State → Type 0
IsOnItsWay m kept n a =
    ((node : m.State) × kept.IsNode node × m.Alike a node)
    ⊎ ((rs : Ranks) × (one : ℕ) × m.AreSure a rs × (rs one ≡ true) × Leads m kept n a one
    × ((r : ℕ) (b : m.State) → rs r ≡ true → m.Goes r a b → IsNearer m kept n b ⊎ m.Alike a b))

pub record IsClosed (m : Machine) (kept : Kept m) : Type 0 where
  -- wherever a turn of any rank leads from a node settles
  pub next : (r : ℕ) (a b : m.State) → kept.IsNode a → m.Goes r a b → (n : ℕ) × kept.Settles n b
  -- there each rank asks within the patterns, there is room, and no rank's receive has come that it polls
  pub within : (r : ℕ) (a : m.State) → kept.IsNode a → m.IsWithin a r
  pub room : (a : m.State) → kept.IsNode a → m.HasRoom a
  pub idle : (r : ℕ) (a b : m.State) → kept.IsNode a → m.weight a r ≡ 0 → m.Goes r a b → m.Alike a b
  -- what settles does so, and each rank asks within the patterns on the way too
  pub settles : (n : ℕ) (a : m.State) → kept.Settles n a → IsOnItsWay m kept n a
  pub asks : (n r : ℕ) (a : m.State) → kept.Settles n a → m.IsWithin a r

-- what holds of a state holds of what is alike, and of where a turn leads of a rank that is sure, or polls what is there
pub record IsLasting (m : Machine) (P : m.State → Type 0) : Type 0 where
  pub alike : (a b : m.State) → m.Alike a b → P a → P b
  pub sure : (rs : Ranks) (r : ℕ) (a b : m.State) → m.AreSure a rs → rs r ≡ true → m.Goes r a b → P a → P b
  pub ready : (r : ℕ) (a b : m.State) → m.IsReady a r → m.Goes r a b → P a → P b

-- each rank asks within the patterns, there is room, and some turns within the patterns lead to what is alike a node, of which
-- it holds if it holds here
pub record IsFound (m : Machine) (kept : Kept m) (P : m.State → Type 0) (here : m.State) : Type 0 where
  pub within : (r : ℕ) → m.IsWithin here r
  pub room : m.HasRoom here
  pub more : List ℕ
  pub there : m.State
  pub walk : GoesOn m more here there
  pub inside : AllWithin m more here there walk
  pub node : m.State
  pub is : kept.IsNode node
  pub alike : m.Alike there node
  pub keeps : P here → P node

-- wherever turns lead from a state that settles, whoever takes them
abbrev pub HasFound : (m : Machine) → Kept m → (m.State → Type 0) → Type 0
HasFound m kept P =
    (n : ℕ) (start end : m.State) (rs : List ℕ) → kept.Settles n start → GoesOn m rs start end → IsFound m kept P end

-- ---- machines whose states have numbers, so that the law is one of numbers

pub record Numbered : Type 0 where
  pub goes : ℕ → ℕ → ℕ → Bool
  pub finds : ℕ → ℕ → ℕ → Bool
  pub alike : ℕ → ℕ → Bool
  pub within : ℕ → ℕ → Bool
  pub room : ℕ → Bool
  pub space : ℕ → Bool
  pub weight : ℕ → ℕ → ℕ
  pub sure : ℕ → Ranks → Bool
  pub ready : ℕ → ℕ → Bool
  pub node : ℕ → Bool
  pub settles : ℕ → ℕ → Bool
  pub lasting : ℕ → Bool

abbrev pub machine_of : Numbered → Machine
machine_of m = record {
  State = ℕ;
  Goes = λ r a b. m.goes r a b ≡ true;
  Finds = λ r a b. m.finds r a b ≡ true;
  Alike = λ a b. m.alike a b ≡ true;
  IsWithin = λ a r. m.within a r ≡ true;
  HasRoom = λ a. m.room a ≡ true;
  HasSpace = λ a. m.space a ≡ true;
  weight = m.weight;
  AreSure = λ a rs. m.sure a rs ≡ true;
  IsReady = λ a r. m.ready a r ≡ true;
}

abbrev pub kept_of : (m : Numbered) → Kept (machine_of m)
kept_of m = record { IsNode = λ a. m.node a ≡ true; Settles = λ n a. m.settles n a ≡ true }

abbrev pub holds_of : (m : Numbered) → ℕ → Type 0
holds_of m a = m.lasting a ≡ true

abbrev pub ScheduleLaw : Type 0
ScheduleLaw =
    (m : Numbered) → IsMachine (machine_of m) → IsClosed (machine_of m) (kept_of m)
    → IsLasting (machine_of m) (holds_of m)
    → HasFound (machine_of m) (kept_of m) (holds_of m)
