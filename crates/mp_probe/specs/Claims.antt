-- Claimed messages that wait for their receive (MPI 4.1, chapters 3.8.2 and 3.8.3).
use Rattle.std.specs.Prelude.{ℕ, ◌+◌, ◌==◌, ◌&&◌, not, Bool, List, [], ◌∷◌, ◌++◌, length, filter, Option, Some, None}
use Rattle.std.specs.List.{list_any}
use Rattle.mp_types.specs.declared.messages.Envelope.{Envelope}
use Rattle.mp_match.specs.Board.{Board}
use Rattle.mp_probe.specs.declared.handles.Waiting.{Waiting}

-- the number of the next post
abbrev pub next_number : Board → ℕ
next_number b = length b.lines + 1

abbrev pub is_claim : ℕ → ℕ → Waiting → Bool
is_claim rank message w = (w.rank == rank) && (w.message == message)

-- whether the rank claimed the message and hasn't received it
abbrev pub may_receive : List Waiting → ℕ → ℕ → Bool
may_receive ws rank message = list_any (is_claim rank message) ws

-- whether the message waits for its receive, whichever rank claimed it
abbrev pub is_waiting : List Waiting → ℕ → Bool
is_waiting ws message = list_any (λ (w : Waiting). w.message == message) ws

-- a message that was received waits no longer
abbrev pub without_claim : List Waiting → ℕ → ℕ → List Waiting
without_claim ws rank message = filter (λ (w : Waiting). not (is_claim rank message w)) ws

-- a claim that found a message waits under the number of its post
abbrev pub waiting_if : List Waiting → ℕ → ℕ → Option Envelope → List Waiting
waiting_if ws rank number None = ws
waiting_if ws rank number (Some envelope) = ws ++ record { message = number; rank = rank } ∷ []

-- what a claim answers: the message's handle and its envelope
abbrev pub handle_if : ℕ → Option Envelope → Option (ℕ × Envelope)
handle_if number None = None
handle_if number (Some envelope) = Some (number, envelope)
