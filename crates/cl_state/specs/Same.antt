-- What two ranks have in common.
use Rattle.std.specs.Prelude.{◌≡◌}
use Rattle.cl_state.specs.Rank.{Rank}

-- they hold the same beside their sites, their harts, their requests and their clocks
pub record IsSameBeside (a b : Rank) : Type 0 where
  pub memory : a.memory ≡ b.memory
  pub phases : a.phases ≡ b.phases
  pub out : a.out ≡ b.out
