-- What is told of a state: how its harts stand, the messages that weren't received, and the verdict.
use Rattle.std.specs.Prelude.{ℕ, ◌≡◌, ◌==◌, Bool, false, not, if◌then◌else◌, List, [], ◌++◌, codes, length, Option, Some, None, slice_get}
use Rattle.std.specs.Fmt.{decimal}
use Rattle.std.specs.List.{enumerate_from, filter, flat_map, list_any}
use Rattle.rv_hart.specs.State.{is_stopped}
use Rattle.rv_image_types.specs.declared.images.ImageParts.{ImageParts}
use Rattle.rv_image_types.specs.declared.images.Symbol.{Symbol}
use Rattle.mp_hub.specs.Hub.{HubView}
use Rattle.part_box.specs.declared.settled.Settled.{Settled}
use Rattle.cl_state.specs.Rank.{Rank}
use Rattle.cl_state.specs.declared.state.RankState.{RankState}
use Rattle.cl_state.specs.Room.{rank_of}
use Rattle.rvmc_report.specs.Below.{ClusterState}
use Rattle.cl_deadlock.specs.Why.{IsDeadlockVerdict}
use Rattle.rvmc_report.specs.Report.{newline}
use Rattle.rvmc_inspect.specs.Texts.{hart_waits_text}
use Rattle.rvmc_inspect.specs.Unreceived.{unreceived_text}

-- ---- the harts

-- the lines of the harts of these ranks in order, the first of which has this number
abbrev pub ranks_from : Bool → List Symbol → HubView → List (List Settled) → ℕ → List RankState → List ℕ
ranks_from framed symbols hub boxes number ranks =
    flat_map (λ rank. hart_waits_text framed symbols hub boxes rank.0 (rank_of rank.1)) (enumerate_from number ranks)

-- of all ranks
abbrev pub all_harts_text : Bool → ImageParts → ClusterState → List ℕ
all_harts_text framed image state = ranks_from framed image.symbols state.hub state.boxes.items 0 state.ranks.items

-- ---- the verdict

-- a hart of the rank has not stopped: it runs, or it waits
abbrev pub is_live : Rank → Bool
is_live rank = list_any (λ hart. not (is_stopped hart.mode)) rank.harts

abbrev pub is_live_at : Option RankState → Bool
is_live_at None = false
is_live_at (Some own) = is_live (rank_of own)

-- the ranks that a text names: of these, those that have a hart that has not stopped. A rank that has stopped is stuck
-- beside any others, but waits for nothing. Of ranks in a deadlock one at least is named, since a hart of theirs waits
abbrev pub live_ranks : ClusterState → List ℕ → List ℕ
live_ranks state ranks = filter (λ rank. is_live_at (slice_get state.ranks.items rank)) ranks

abbrev pub rank_word : ℕ → List ℕ
rank_word rank = codes " " ++ decimal rank

abbrev pub more_ranks : List ℕ → List ℕ
more_ranks ranks = flat_map rank_word ranks

-- `rank 0`, `ranks 0 1`
abbrev pub rank_names : List ℕ → List ℕ
rank_names ranks = (if length ranks == 1 then codes "rank" else codes "ranks") ++ more_ranks ranks

-- these ranks are stuck together: the text names those that wait
abbrev pub deadlock_text : ClusterState → List ℕ → List ℕ
deadlock_text state ranks = codes "deadlock: " ++ (rank_names (live_ranks state ranks) ++ newline)

-- `deadlock: ranks 0 1`, or `no deadlock shown`
abbrev pub deadlock_verdict_text : ClusterState → Option (List ℕ) → List ℕ
deadlock_verdict_text state None = codes "no deadlock shown" ++ newline
deadlock_verdict_text state (Some ranks) = deadlock_text state ranks

-- ---- all of it

abbrev pub why_text : Bool → ImageParts → ClusterState → Option (List ℕ) → List ℕ
why_text framed image state found =
    all_harts_text framed image state
    ++ (unreceived_text (length state.ranks.items) state.hub.board.lines ++ deadlock_verdict_text state found)

-- the text of the state with the verdict on it, with `framed` also of the calls that led to where each hart is
pub record IsWhy (framed : Bool) (image : ImageParts) (state : ClusterState) (text : List ℕ) : Type 0 where
  pub found : Option (List ℕ)
  pub verdict : IsDeadlockVerdict state found
  pub is : text ≡ why_text framed image state found

-- ---- ranks that are stuck while others run on

abbrev pub rank_text_at : ImageParts → ClusterState → ℕ → Option RankState → List ℕ
rank_text_at image state rank None = []
rank_text_at image state rank (Some own) =
    hart_waits_text false image.symbols state.hub state.boxes.items rank (rank_of own)

-- the lines of the harts of this rank, if it is there
abbrev pub rank_waits_text : ImageParts → ClusterState → ℕ → List ℕ
rank_waits_text image state rank = rank_text_at image state rank (slice_get state.ranks.items rank)

-- of these ranks, in order
abbrev pub company_waits_text : ImageParts → ClusterState → List ℕ → List ℕ
company_waits_text image state ranks = flat_map (rank_waits_text image state) ranks

-- `deadlock: ranks 1 2 while others run on`
abbrev pub stuck_text : ClusterState → List ℕ → List ℕ
stuck_text state ranks =
    codes "deadlock: " ++ (rank_names (live_ranks state ranks) ++ (codes " while others run on" ++ newline))

-- and that they are stuck
abbrev pub company_text : ImageParts → ClusterState → List ℕ → List ℕ
company_text image state ranks = company_waits_text image state ranks ++ stuck_text state ranks
