-- What is told of an end.
use Rattle.std.specs.Prelude.{ℕ, ◌≡◌, ◌++◌, List, [], Bool, true, false, Option, Some, None, codes, if◌then◌else◌, slice_get}
use Rattle.std.specs.Fmt.{decimal}
use Rattle.std.specs.List.{enumerate_from, flat_map, list_any}
use Rattle.rv_hart.specs.State.{State}
use Rattle.rv_hart.specs.declared.state.Mode.{Mode}
use Rattle.rv_hart.specs.declared.state.Mode.TheVariants.{Waiting}
use Rattle.rv_image_types.specs.declared.images.ImageParts.{ImageParts}
use Rattle.cl_state.specs.Rank.{Rank}
use Rattle.cl_state.specs.Room.{rank_of}
use Rattle.cl_state.specs.declared.state.RankState.{RankState}
use Rattle.cl_replay.specs.declared.states.ClusterState.{ClusterState}
use Rattle.rvmc_picture.specs.Below.{IsWhy}
use Rattle.rvmc_report.specs.Report.{harts_text, newline, output_text}

-- ---- who waits

abbrev pub is_waiting_mode : Mode → Bool
is_waiting_mode (Waiting wait) = true
is_waiting_mode other = false

abbrev pub is_waiting_hart : Option State → Bool
is_waiting_hart None = false
is_waiting_hart (Some hart) = is_waiting_mode hart.mode

-- the hart of this number waits
abbrev pub is_waiting_at : List State → ℕ → Bool
is_waiting_at harts number = is_waiting_hart (slice_get harts number)

-- one of the harts that take turns does
abbrev pub one_waits : List ℕ → List State → Bool
one_waits order harts = list_any (is_waiting_at harts) order

abbrev pub any_waits : List ℕ → List RankState → Bool
any_waits order ranks = list_any (λ rank. one_waits order rank.harts.items) ranks

-- ---- the text

-- a rank one of whose harts waits at an end waits for ever
abbrev pub stop_word : List ℕ → List State → List ℕ
stop_word order harts = if one_waits order harts then codes "stuck" else codes "all-ended"

-- `rank R stop WORD`: without a count of turns, since other orders lead to the same end by other turns
abbrev pub end_stop : ℕ → List ℕ → List ℕ
end_stop rank word = codes "rank " ++ (decimal rank ++ (codes " stop " ++ (word ++ newline)))

-- a rank's output, its harts in order, and its stop
abbrev pub end_rank_text : List ℕ → ℕ → Rank → List ℕ
end_rank_text order rank state =
    output_text rank state.out ++ (harts_text rank 0 state.harts ++ end_stop rank (stop_word order state.harts))

-- these ranks in order, the first of which has this number
abbrev pub end_ranks_from : List ℕ → ℕ → List RankState → List ℕ
end_ranks_from order number ranks =
    flat_map (λ rank. end_rank_text order rank.0 (rank_of rank.1)) (enumerate_from number ranks)

-- all ranks in order
abbrev pub end_ranks_text : List ℕ → List RankState → List ℕ
end_ranks_text order ranks = end_ranks_from order 0 ranks

-- behind them, where a hart waits, what each waits for
abbrev pub IsWaitText : Bool → ImageParts → ClusterState → List ℕ → Type 0
IsWaitText true image state text = IsWhy false image state text
IsWaitText false image state text = text ≡ []

-- a text, with that of an end behind it
pub record IsEndText (order : List ℕ) (image : ImageParts) (state : ClusterState) (old new : List ℕ) : Type 0 where
  pub waiting : List ℕ
  pub told : IsWaitText (any_waits order state.ranks.items) image state waiting
  pub spelled : new ≡ old ++ (end_ranks_text order state.ranks.items ++ waiting)
