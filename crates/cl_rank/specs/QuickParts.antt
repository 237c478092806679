-- PREADYs, and PARRIVEDs that look at a box, which are worked out straight from the registers and the open requests: when
-- a partition may be made ready, and which box it awaits.
use Rattle.std.specs.Prelude.{◌≡◌, ◌≢◌, ◌∷◌, [], ℕ, false, true, nat_lt, Some}
use Rattle.mp_request.specs.declared.entries.Partitions.{Partitions}
use Rattle.mp_request.specs.Table.{request_at}
use Rattle.part_phase.specs.Phases.{receiving_at, sending_at}
use Rattle.part_phase.specs.Receiving.{next_box_of}
use Rattle.part_phase.specs.Sending.{all_freed, is_part_ready}
use Rattle.cl_calls.specs.Checks.{receiving_side, sending_side}
use Rattle.cl_state.specs.declared.state.RankState.{RankState}
use Rattle.cl_state.specs.Writes.{box_into, missing_for}

-- the request has this side, and a partition of it isn't ready yet in the phase that is going on (MPI 4.1, 4.2.2)
pub record MayBeReady (s : RankState) (handle part : ℕ) (side : Partitions) : Type 0 where
  pub of : sending_side (request_at s.requests handle) ≡ Some side
  pub within : nat_lt part (sending_at s.phases side.link).parts ≡ true
  pub going : all_freed (sending_at s.phases side.link) ≡ false
  pub unready : is_part_ready (sending_at s.phases side.link) part ≡ false

-- the request has this side, and a partition of it awaits this box in the phase that is going on (4.2.3); the pages are
-- there that its bytes go to
pub record AwaitsBox (s : RankState) (handle part : ℕ) (side : Partitions) (box : ℕ) : Type 0 where
  pub of : receiving_side (request_at s.requests handle) ≡ Some side
  pub within : nat_lt part (receiving_at s.phases side.link).parts ≡ true
  pub active : (receiving_at s.phases side.link).active ≡ true
  pub cut : (receiving_at s.phases side.link).boxes ≢ 0
  pub next : next_box_of (receiving_at s.phases side.link) part ≡ Some box
  pub pages : missing_for s.memory.pages (box_into s.phases side box ∷ []) ≡ 0
