-- A run that goes on by whole rounds.
use Rattle.std.specs.Prelude.{ℕ, ◌≡◌, ◌<◌, ◌≤◌, ◌*◌, List, length, slice_index, vec_len}
use Rattle.rv_image_types.specs.declared.images.ImageParts.{ImageParts}
use Rattle.cl_record.specs.declared.plans.Plan.{Plan}
use Rattle.cl_run.specs.declared.driver.Driver.{Driver}
use Rattle.cl_run.specs.Driver.{AreJoined, AreSeated, IsStoppedAt, left, stations}
use Rattle.cl_run.specs.UnderWay.{IsUnderWay}

-- whole rounds by the order: the run goes on by some number of them
pub record GoesRounds (order : List ℕ) (old new : Driver) : Type 0 where
  pub joined : AreJoined new
  pub count : vec_len new.seats ≡ vec_len old.seats
  pub seated : (plans : List Plan) → AreSeated plans old → AreSeated plans new
  pub goes : (image : ImageParts) (plans : List Plan) (k : ℕ) → AreSeated plans old
      → IsUnderWay image plans order (stations old) old.hub (k * length order)
      → (n : ℕ) × IsUnderWay image plans order (stations new) new.hub (n * length order)
  pub no_more : left new ≤ left old

-- a whole run by the order: from the first slot on it came to one at which each rank that the order names is stopped
pub record RunsToEnd (order : List ℕ) (old new : Driver) : Type 0 where
  pub goes : (image : ImageParts) (plans : List Plan) → AreSeated plans old
      → IsUnderWay image plans order (stations old) old.hub 0
      → (slot : ℕ) × IsUnderWay image plans order (stations new) new.hub slot
  pub done : (place : ℕ) → place < length order → IsStoppedAt (stations new) (slice_index order place)
  pub seated : (plans : List Plan) → AreSeated plans old → AreSeated plans new
