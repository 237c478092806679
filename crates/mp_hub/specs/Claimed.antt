-- Messages that a matched probe has, and that nobody received yet (MPI 4.1, 3.8.2).
use Rattle.std.specs.Prelude.{ℕ, Bool, false, Option, Some, None}
use Rattle.mp_match.specs.Board.{claim_of}
use Rattle.mp_probe.specs.Claims.{is_waiting}
use Rattle.mp_hub.specs.Hub.{HubView}

-- the claim's message waits for its receive
abbrev pub waits_for_receive : HubView → Option ℕ → Bool
waits_for_receive h None = false
waits_for_receive h (Some claim) = is_waiting h.claims claim

-- a matched probe has the message of this send, which waits for its receive
abbrev pub is_only_claimed : HubView → ℕ → Bool
is_only_claimed h number = waits_for_receive h (claim_of h.board number)
