-- The clock of a told rank.
use Rattle.std.proofs.Common.{ℕ, ◌≡◌, ap, ◌∙◌}
use Rattle.cl_state.specs.declared.asking.Answer.{Answer}
use Rattle.cl_state.specs.Rank.{Rank}
use Rattle.cl_state.specs.Told.{told}
use Rattle.cl_state.proofs.Moves.{told_at}

-- a told rank's clock is the stamp
pub clock_told : (old new : Rank) (hart : ℕ) (a : Answer) (stamp : ℕ) → new ≡ told old hart a stamp → new.clock ≡ stamp
clock_told old new hart a stamp is = ap (λ (r : Rank). r.clock) is ∙ (told_at old hart a stamp).clock
