-- Harts that take turns, and those that are stopped.
use Rattle.std.specs.Prelude.{◌≡◌, ℕ, ◌<◌, ◌+◌, ◌^◌, Bool, true, false}
use Rattle.std.specs.List.{list_all}
use Rattle.rv_hart.specs.State.{is_stopped}
use Rattle.cl_state.specs.Rank.{Rank}

abbrev pub all_stopped : Rank → Bool
all_stopped rank = list_all (λ hart. is_stopped hart.mode) rank.harts

abbrev pub AllStopped : Rank → Type 0
AllStopped rank = all_stopped rank ≡ true

-- some hart isn't stopped, the rank has a turn left, and its clock isn't full
pub record IsActive (rank : Rank) (turns budget : ℕ) : Type 0 where
  pub runs : ¬ (AllStopped rank)
  pub left : turns < budget
  pub low : rank.clock + 1 < 2 ^ 62
