-- What the report of a record tells: that of the state to which its steps lead.
use Rattle.std.specs.Prelude.{ℕ, ◌≡◌, Bool, List, [], ◌∷◌, length, map, if◌then◌else◌, Option, None, Some}
use Rattle.std.specs.List.{enumerate_from, list_all}
use Rattle.rv_hart.specs.State.{State, is_stopped}
use Rattle.rv_image_types.specs.declared.images.ImageParts.{ImageParts}
use Rattle.cl_machine.specs.Order.{of_rank}
use Rattle.cl_machine.specs.declared.steps.Step.{Step}
use Rattle.cl_rank.specs.declared.stops.Stop.{Stop}
use Rattle.cl_rank.specs.declared.stops.Stop.TheVariants.{AllEnded}
use Rattle.cl_replay.specs.Replaying.{IsReached}
use Rattle.cl_replay.specs.declared.states.ClusterState.{ClusterState}
use Rattle.cl_state.specs.declared.state.RankState.{RankState}
use Rattle.rvmc_report.specs.Report.{RankEnd, rank_end, report, status_of}

abbrev pub are_stopped : List State → Bool
are_stopped harts = list_all (λ hart. is_stopped hart.mode) harts

-- why a rank stopped, as far as its harts tell: all of them are stopped, or it isn't known
abbrev pub stop_by_harts : List State → Option Stop
stop_by_harts harts = if are_stopped harts then Some AllEnded else None

-- how many turns the steps give a rank
abbrev pub turns_in : List Step → ℕ → ℕ
turns_in steps rank = length (of_rank (λ (step : Step). step.rank) rank steps)

-- the end of a rank in the state to which the steps lead
abbrev pub reached_end : List Step → ℕ → RankState → RankEnd
reached_end steps rank state = rank_end state (turns_in steps rank) (stop_by_harts state.harts.items)

-- of these ranks, the first of which has this number
abbrev pub reached_from : List Step → ℕ → List RankState → List RankEnd
reached_from steps number states =
    map (λ rank. reached_end steps rank.0 rank.1) (enumerate_from number states)

-- of all ranks
abbrev pub reached_ends : List Step → ClusterState → List RankEnd
reached_ends steps state = reached_from steps 0 state.ranks.items

-- the report of a record and its status: that of a state to which all its steps lead
pub record IsReportOf (image : ImageParts) (steps : List Step) (text : List ℕ) (status : ℕ) : Type 0 where
  pub state : ClusterState
  pub reached : IsReached image steps (length steps) state
  pub told : text ≡ report (reached_ends steps state)
  pub status_is : status ≡ status_of (reached_ends steps state)
