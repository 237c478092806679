use Rattle.std.proofs.Common.{◌≡◌, ◌++◌, drop, take}
use Rattle.std.specs.Prelude.{option_map}
use Rattle.rvmc_protocol.specs.Requests.Pieces.{cut}
use Rattle.rvmc_protocol.proofs.requests.pieces.cut.Given as goal

-- none so far
abbrev pub invariant-loop-at : goal.invariant-loop-at
invariant-loop-at l =
    cut l.mark l.text ≡ option_map (λ sides. (take l.at l.text ++ sides.0, sides.1)) (cut l.mark (drop l.at l.text))
