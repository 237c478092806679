-- Ranks that need buffers: together they are stuck if each send of theirs for which a rank of them rests waits for its receive.
use Rattle.std.specs.Prelude.{ℕ, ◌<◌, ◌≡◌, ◌⊎◌, true, IsTrue, List, length, Some}
use Rattle.std.specs.List.{slice_get}
use Rattle.cl_state.specs.Rank.{Rank}
use Rattle.cl_state_laws.specs.Vain.{IsStopped, mode_of}
use Rattle.cl_machine.specs.Cluster.{Cluster}
use Rattle.cl_deadlock_laws.specs.Stuck.{IsStuckHart, is_among}
use Rattle.cl_rest_laws.specs.Rests.{IsElseReady, rests_for}

-- the hart rests until one of these ranks receives
pub record RestsAmong (ranks : List ℕ) (c : Cluster) (r hart : ℕ) : Type 0 where
  pub receiver : ℕ
  pub among : IsTrue (is_among ranks receiver)
  pub rests_there : rests_for c r hart receiver ≡ true

-- each hart of each of these ranks is stopped, waits in vain for what they alone could bring, or rests until one of them
-- receives
abbrev pub AreHeldUp : List ℕ → Cluster → Type 0
AreHeldUp ranks c =
    (r : ℕ) (rank : Rank) (hart : ℕ) → IsTrue (is_among ranks r) → slice_get c.ranks r ≡ Some rank
    → hart < length rank.harts
    → IsStopped (mode_of rank hart) ⊎ (IsStuckHart ranks c r rank hart ⊎ RestsAmong ranks c r hart)

-- a hart of these ranks rests until one of them receives, and is held up by nothing else. If all were, they would be stuck with
-- buffers too
pub record SomeRests (ranks : List ℕ) (c : Cluster) : Type 0 where
  pub r : ℕ
  pub rank : Rank
  pub hart : ℕ
  pub among : IsTrue (is_among ranks r)
  pub there : slice_get c.ranks r ≡ Some rank
  pub inside : hart < length rank.harts
  pub rests_there : RestsAmong ranks c r hart
  pub else_ready : IsElseReady c r rank hart

-- and one of them rests, and waits for nothing else. Other ranks may still run
pub record NeedBuffers (ranks : List ℕ) (c : Cluster) : Type 0 where
  pub held : AreHeldUp ranks c
  pub some : SomeRests ranks c
