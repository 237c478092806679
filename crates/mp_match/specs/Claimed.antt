-- A claimed send, while its message is held and afterwards.
use Rattle.std.specs.Prelude.{ℕ, zero, suc, ◌&&◌, not, Bool, false, cond, Option, None}
use Rattle.std.specs.List.{slice_get}
use Rattle.std.specs.Option.{is_some}
use Rattle.mp_match.specs.Board.{Board, claim_of, is_held}

-- whether the message of the send of this number is held
abbrev pub holds : Board → ℕ → Bool
holds b zero = false
holds b (suc place) = is_held (slice_get b.bodies place)

-- the number of the claim that has the message of this send, while it is held
abbrev pub open_claim : Board → ℕ → Option ℕ
open_claim b number = cond (holds b number) (claim_of b number) None

-- the message of this send was claimed, and isn't held any more
abbrev pub is_claim_collected : Board → ℕ → Bool
is_claim_collected b number = not (holds b number) && is_some (claim_of b number)
