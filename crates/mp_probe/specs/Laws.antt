-- What becomes of claimed messages, for all lists of them (MPI 4.1, chapters 3.8.2 and 3.8.3).
use Rattle.std.specs.Prelude.{◌≡◌, ◌≢◌, ◌⊎◌, ◌↔◌, ℕ, List, slice_get, true, false, Some, None}
use Rattle.mp_types.specs.declared.messages.Envelope.{Envelope}
use Rattle.mp_probe.specs.declared.handles.Waiting.{Waiting}
use Rattle.mp_probe.specs.Claims.{handle_if, is_waiting, may_receive, waiting_if, without_claim}

-- the message is another, or the rank is
abbrev pub IsOther : ℕ → ℕ → ℕ → ℕ → Type 0
IsOther rank message other n = (other ≢ rank) ⊎ (n ≢ message)

pub record ClaimsLaw : Type 0 where
  -- a claimed message may be received by the rank that claimed it, under the handle that it was told; whatever else was
  -- claimed may be received as before
  pub claimed : (ws : List Waiting) (rank number : ℕ) (e : Envelope)
      → may_receive (waiting_if ws rank number (Some e)) rank number ≡ true
  pub claims_one : (ws : List Waiting) (rank number other n : ℕ) (e : Envelope) → IsOther rank number other n
      → may_receive (waiting_if ws rank number (Some e)) other n ≡ may_receive ws other n
  pub told : (number : ℕ) (e : Envelope) → handle_if number (Some e) ≡ Some (number, e)
  -- a claim that finds nothing claims nothing
  pub nothing : (ws : List Waiting) (rank number : ℕ) → waiting_if ws rank number None ≡ ws
  pub nothing_told : (number : ℕ) → handle_if number None ≡ None
  -- who may receive a message claimed it, and there is one at most that is received
  pub whose : (ws : List Waiting) (rank message : ℕ) → may_receive ws rank message ≡ true
      → (i : ℕ) × (w : Waiting) × (slice_get ws i ≡ Some w) × (w.rank ≡ rank) × (w.message ≡ message)
  pub once : (ws : List Waiting) (rank message : ℕ) → may_receive (without_claim ws rank message) rank message ≡ false
  pub receives_one : (ws : List Waiting) (rank message other n : ℕ) → IsOther rank message other n
      → may_receive (without_claim ws rank message) other n ≡ may_receive ws other n
  -- a message waits for its receive exactly where some rank may receive it
  pub waits : (ws : List Waiting) (message : ℕ)
      → (is_waiting ws message ≡ true) ↔ ((rank : ℕ) × (may_receive ws rank message ≡ true))
