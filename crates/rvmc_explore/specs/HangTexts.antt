-- The text that `explore` prints of a state from which no run ends if standard sends wait for their receives, and that of harts that
-- go on where none ends anyway.
use Rattle.std.specs.Prelude.{ℕ, ◌-◌, ◌&&◌, false, if◌then◌else◌, is_some, List, [], ◌∷◌, ◌++◌, codes, length, take, Option, Some, None, slice_get}
use Rattle.std.specs.List.{enumerate_from, flat_map}
use Rattle.rv_hart.specs.State.{State}
use Rattle.rv_hart.specs.declared.state.Mode.{Mode}
use Rattle.rv_hart.specs.declared.state.Mode.TheVariants.{Running}
use Rattle.rv_image_types.specs.declared.images.ImageParts.{ImageParts}
use Rattle.rv_image_types.specs.declared.images.Symbol.{Symbol}
use Rattle.cl_deadlock_laws.specs.Stuck.{is_among}
use Rattle.cl_state.specs.Rank.{Rank}
use Rattle.cl_state.specs.Room.{rank_of}
use Rattle.cl_state.specs.declared.state.RankState.{RankState}
use Rattle.cl_replay.specs.declared.states.ClusterState.{ClusterState}
use Rattle.cl_rests.specs.Sets.{in_set}
use Rattle.rvmc_report.specs.Report.{newline}
use Rattle.rvmc_places.specs.OwnCalls.{has_line, is_in_library, own_place_text}
use Rattle.rvmc_places.specs.Places.{named_address_text, place_name}
use Rattle.rvmc_inspect.specs.Texts.{hart_head, hart_waits_text}
use Rattle.rvmc_inspect.specs.Why.{is_live, live_ranks, rank_names}
use Rattle.rvmc_explore.specs.Needs.{held_text}

-- ---- a rank that goes on

abbrev pub all_but_last : List ℕ → List ℕ
all_but_last text = take (length text - 1) text

-- the program's own call that led into the library, and the function that it called, as `poll.c:9 in main, in MPI_Iprobe`: without the
-- comma that stands behind it where a hart waits
abbrev pub calling_text : List Symbol → Rank → State → List ℕ
calling_text symbols rank hart = all_but_last (own_place_text symbols rank.memory hart [])

-- where a hart is: at a line of the program's own, in the library, or at an address, as `loop+0x4 [0x24]`
abbrev pub going_place : List Symbol → Rank → State → List ℕ
going_place symbols rank hart =
    if has_line symbols hart.pc then place_name symbols hart.pc
    else (if is_in_library symbols rank.memory hart then calling_text symbols rank hart
    else named_address_text symbols hart.pc)

-- `rank 1 hart 0 goes on at poll.c:9 in main`, of rank r and its hart of this number
abbrev pub going_line : List Symbol → ℕ → Rank → ℕ → State → List ℕ
going_line symbols r rank number hart =
    hart_head r number ++ (codes "goes on at " ++ (going_place symbols rank hart ++ newline))

-- the hart, if it runs
abbrev pub if_runs : State → Mode → Option State
if_runs hart Running = Some hart
if_runs hart mode = None

-- the first of these harts, if it runs
abbrev pub running : Option State → Option State
running None = None
running (Some hart) = if_runs hart hart.mode

-- a rank that doesn't rest: where its first hart goes on, if that runs, and else what `why` tells of its harts
abbrev pub awake_text : ImageParts → ClusterState → ℕ → RankState → Option State → List ℕ
awake_text image state number own (Some hart) = going_line image.symbols number (rank_of own) 0 hart
awake_text image state number own None =
    hart_waits_text false image.symbols state.hub state.boxes.items number (rank_of own)

-- ---- each rank

-- of a rank that hasn't stopped: where it rests, if it does, or where it goes on or waits
abbrev pub hang_text_at : ImageParts → ClusterState → ℕ → ℕ → Option RankState → List ℕ
hang_text_at image state resting number None = []
hang_text_at image state resting number (Some own) =
    if is_live (rank_of own)
    then (if in_set resting number then held_text image state number
    else awake_text image state number own (running (slice_get (rank_of own).harts 0)))
    else []

abbrev pub hang_rank_text : ImageParts → ClusterState → ℕ → ℕ → List ℕ
hang_rank_text image state resting number =
    hang_text_at image state resting number (slice_get state.ranks.items number)

-- the ranks that an image may have
abbrev pub each_rank : List ℕ
each_rank = 0 ∷ 1 ∷ 2 ∷ 3 ∷ 4 ∷ 5 ∷ 6 ∷ 7 ∷ []

-- ---- all of it

-- `some runs go on for ever if sends wait: ranks 0 1`: those that haven't stopped
abbrev pub hang_line : ClusterState → List ℕ → List ℕ
hang_line state ranks =
    codes "some runs go on for ever if sends wait: " ++ (rank_names (live_ranks state ranks) ++ newline)

-- how each rank stands that hasn't stopped, in order, where those of the set rest, and that some runs go on for ever
abbrev pub hang_text : ImageParts → ClusterState → ℕ → List ℕ
hang_text image state resting = flat_map (hang_rank_text image state resting) each_rank ++ hang_line state each_rank

-- ---- where no run ends, whether sends wait or not

-- the line of rank r's hart of this number, if it is one of those that take turns, and runs
abbrev pub hart_going : List Symbol → List ℕ → ℕ → Rank → ℕ → State → List ℕ
hart_going symbols order r rank number hart =
    if is_among order number && is_some (if_runs hart hart.mode) then going_line symbols r rank number hart else []

-- those of these harts of a rank, the first of which has this number
abbrev pub harts_going : List Symbol → List ℕ → ℕ → Rank → ℕ → List State → List ℕ
harts_going symbols order r rank number harts =
    flat_map (λ hart. hart_going symbols order r rank hart.0 hart.1) (enumerate_from number harts)

-- those of all harts of these ranks, the first of which has this number
abbrev pub ranks_going : List Symbol → List ℕ → ℕ → List RankState → List ℕ
ranks_going symbols order r ranks =
    flat_map (λ rank. harts_going symbols order rank.0 (rank_of rank.1) 0 (rank_of rank.1).harts) (enumerate_from r ranks)

-- of a state: the ranks in order, and of each rank its harts in order
abbrev pub going_text : ImageParts → List ℕ → ClusterState → List ℕ
going_text image order state = ranks_going image.symbols order 0 state.ranks.items
