-- Turns by an order that is used round and round.
use Rattle.std.specs.Prelude.{ℕ, ◌≡◌, ◌≢◌, ◌<◌, ◌≤◌, ◌+◌, List, [], ◌∷◌, All, ⊤}
use Rattle.cl_deeds.specs.Orders.{in_slot}

-- the turns from slot `from` on, each by the number of who took it: the first stands in a slot that names it, those
-- that the slots before name take no later turn, and the others follow behind that slot
abbrev pub GoesRound : List ℕ → ℕ → List ℕ → Type 0
GoesRound order from [] = ⊤
GoesRound order from (taker ∷ takers) =
    (slot : ℕ)
    × (from ≤ slot)
    × (in_slot order slot ≡ taker)
    × ((passed : ℕ) → from ≤ passed → passed < slot → All (λ later. later ≢ in_slot order passed) (taker ∷ takers))
    × GoesRound order (slot + 1) takers
