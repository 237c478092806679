-- The law of messages that take their time.
use Rattle.std.specs.Prelude.{ℕ, ◌≡◌, Bool, true, List, [], ◌∷◌}
use Rattle.cl_schedule_laws.specs.Machines.{GoesOn, IsMachine, Machine}
use Rattle.cl_schedule_laws.specs.Laws.{Numbered, holds_of, machine_of}
use Rattle.cl_delay_laws.specs.Networks.{ArePollsSure, Event, HappenOn, IsNetwork, Network}

-- these ranks, one behind the other, poll what is there
abbrev pub PollsOn : (m : Machine) → List ℕ → m.State → m.State → Type 0
PollsOn m [] old new = new ≡ old
PollsOn m (r ∷ rs) old new = m.IsReady old r × (mid : m.State) × m.Goes r old mid × PollsOn m rs mid new

-- what holds of a state holds of what is alike, and of where a poll leads of what is there
pub record Lasts (m : Machine) (P : m.State → Type 0) : Type 0 where
  pub alike : (a b : m.State) → m.Alike a b → P a → P b
  pub ready : (r : ℕ) (a b : m.State) → m.IsReady a r → m.Goes r a b → P a → P b

-- turns of the machine lead to where it is once all has arrived, and ranks that waited for that have polled it
pub record IsMatched (m : Machine) (n : Network m) (P : m.State → Type 0) (start : m.State) (here : n.State) : Type 0 where
  pub ranks : List ℕ
  pub end : m.State
  pub walk : GoesOn m ranks start end
  pub polls : List ℕ
  pub there : m.State
  pub polled : PollsOn m polls (n.arrived here) there
  pub alike : m.Alike there end
  -- what lasts and holds once all has arrived holds there
  pub keeps : P (n.arrived here) → P end
  -- if nobody has anything to poll, it is there that the turns lead
  pub idle : ((r : ℕ) → ¬ m.IsReady (n.arrived here) r) → m.Alike (n.arrived here) end

-- wherever turns of the machine lead, each rank asks within the patterns, and there is room
abbrev pub StaysWithin : (m : Machine) → m.State → Type 0
StaysWithin m start =
    (rs : List ℕ) (end : m.State) → GoesOn m rs start end → ((r : ℕ) → m.IsWithin end r) × m.HasRoom end

-- wherever events lead on the network
abbrev pub AreMatched : (m : Machine) (n : Network m) → (m.State → Type 0) → Type 0
AreMatched m n P =
    (start end : n.State) (es : List Event) → StaysWithin m (n.arrived start) → HappenOn m n es start end
    → IsMatched m n P (n.arrived start) end

-- ---- networks whose states have numbers, so that the law is one of numbers

pub record NumberedNetwork : Type 0 where
  pub goes : ℕ → ℕ → ℕ → Bool
  pub arrives : ℕ → ℕ → Bool
  pub arrived : ℕ → ℕ

abbrev pub network_of : (m : Numbered) → NumberedNetwork → Network (machine_of m)
network_of m n = record {
  State = ℕ;
  Goes = λ r a b. n.goes r a b ≡ true;
  Arrives = λ a b. n.arrives a b ≡ true;
  arrived = n.arrived;
}

abbrev pub DelayLaw : Type 0
DelayLaw =
    (m : Numbered) (n : NumberedNetwork) → IsMachine (machine_of m) → ArePollsSure (machine_of m)
    → IsNetwork (machine_of m) (network_of m n) → Lasts (machine_of m) (holds_of m)
    → AreMatched (machine_of m) (network_of m n) (holds_of m)
