-- Networks: machines on which a message is on its way until it arrives.
use Rattle.std.specs.Prelude.{ℕ, ◌≡◌, List, [], ◌∷◌}
use Rattle.cl_schedule_laws.specs.Machines.{Machine}

-- a network over a machine on which a message arrives as soon as it is sent
pub record Network (m : Machine) : Type 1 where
  pub State : Type 0
  -- a turn of this rank leads from the one to the other
  pub Goes : ℕ → State → State → Type 0
  -- the arrival of one message does
  pub Arrives : State → State → Type 0
  -- where all is that was on its way, as the machine has it
  pub arrived : State → m.State

-- what happens: a turn of a rank, or an arrival, which is a turn of nobody's
pub data Event : Type 0 where
  turn : ℕ → Event
  arrival : Event

abbrev pub Happens : (m : Machine) (n : Network m) → Event → n.State → n.State → Type 0
Happens m n (turn r) old new = n.Goes r old new
Happens m n arrival old new = n.Arrives old new

-- one event behind the other
abbrev pub HappenOn : (m : Machine) (n : Network m) → List Event → n.State → n.State → Type 0
HappenOn m n [] old new = new ≡ old
HappenOn m n (e ∷ es) old new = (mid : n.State) × Happens m n e old mid × HappenOn m n es mid new

-- what a turn of the rank on the network is on the machine, from where all has arrived to where all has
pub data IsTurn (m : Machine) (r : ℕ) (old new : m.State) : Type 0 where
  -- an unsuccessful poll of what is on its way: nothing has changed
  in_vain : m.Alike old new → IsTurn m r old new
  -- the same turn
  same : (next : m.State) → m.Goes r old next → m.Alike next new → IsTurn m r old new
  -- the rank posts a receive of what is on its way, or a send that is received on its way, and waits. Its poll leads to where
  -- its turn leads on the machine
  waits : (next : m.State) → m.Goes r old next → m.IsReady new r → ((last : m.State) → m.Goes r new last → m.Alike last next)
      → IsTurn m r old new

pub record IsNetwork (m : Machine) (n : Network m) : Type 0 where
  -- it doesn't matter which message arrives first
  pub arrives : (a b : n.State) → n.Arrives a b → m.Alike (n.arrived a) (n.arrived b)
  -- a turn within the patterns is told what it would be told on the machine, or waits
  pub goes : (r : ℕ) (a b : n.State) → m.IsWithin (n.arrived a) r → m.HasRoom (n.arrived a) → n.Goes r a b
      → IsTurn m r (n.arrived a) (n.arrived b)

-- what polls find that is there
pub record ArePollsSure (m : Machine) : Type 0 where
  -- alike states have the same
  pub alike : (r : ℕ) (a b : m.State) → m.Alike a b → m.IsReady a r → m.IsReady b r
  -- each leads to one state
  pub one : (r : ℕ) (a b c : m.State) → m.IsReady a r → m.Goes r a b → m.Goes r a c → m.Alike b c
