-- How the harts of a rank stand, as text.
use Rattle.std.specs.Prelude.{ℕ, Bool, true, false, not, ◌&&◌, ◌==◌, if◌then◌else◌, List, [], ◌∷◌, ◌++◌, codes, Option, Some, None}
use Rattle.std.specs.Fmt.{decimal}
use Rattle.std.specs.List.{enumerate_from, flat_map}
use Rattle.rv_hart.specs.State.{State}
use Rattle.rv_hart.specs.declared.state.Mode.{Mode}
use Rattle.rv_hart.specs.declared.state.Mode.TheVariants.{Running, Waiting, Ended, Trapped}
use Rattle.rv_image_types.specs.declared.images.Symbol.{Symbol}
use Rattle.rv_memory.specs.Memory.{Memory}
use Rattle.mp_hub.specs.Hub.{HubView}
use Rattle.part_box.specs.declared.settled.Settled.{Settled}
use Rattle.cl_calls.specs.Calls.{argument}
use Rattle.cl_calls.specs.Names.{call_name}
use Rattle.cl_state.specs.Rank.{Rank}
use Rattle.rvmc_report.specs.Report.{newline}
use Rattle.rvmc_inspect.specs.declared.awaited.Wait.{Wait}
use Rattle.rvmc_inspect.specs.declared.awaited.Wait.TheVariants as wait
use Rattle.rvmc_places.specs.Callers.{callers_text}
use Rattle.rvmc_places.specs.Causes.{trap_text}
use Rattle.rvmc_places.specs.OwnCalls.{is_in_library, made_text, own_place_text}
use Rattle.rvmc_inspect.specs.Waits.{waits}
use Rattle.rvmc_places.specs.Places.{named_address_text}

-- ---- what is waited for

abbrev pub source_text : Option ℕ → List ℕ
source_text None = codes "any rank"
source_text (Some rank) = codes "rank " ++ decimal rank

abbrev pub tag_text : Option ℕ → List ℕ
tag_text None = codes "any tag"
tag_text (Some tag) = codes "tag " ++ decimal tag

-- a message's tag and communicator. The library of rvmc-cc has communicator 1 for itself, and tags of its own in it: where
-- a hart is told inside the library they are left out
abbrev pub asked_envelope_text : Bool → Option ℕ → ℕ → List ℕ
asked_envelope_text inside tag comm =
    if inside && (comm == 1) then [] else (codes " " ++ (tag_text tag ++ (codes " comm " ++ decimal comm)))

abbrev pub wait_text : Bool → Wait → List ℕ
wait_text inside (wait.Message source tag comm) =
    codes "a message from " ++ (source_text source ++ asked_envelope_text inside tag comm)
wait_text inside (wait.Receiver rank) = codes "rank " ++ (decimal rank ++ codes " to receive")
wait_text inside (wait.Partition part link rank) =
    codes "partition " ++ (decimal part ++ (codes " of link " ++ (decimal link ++ (codes " from rank " ++ decimal rank))))
wait_text inside (wait.Taken part link to) =
    codes "rank " ++ (decimal to ++ (codes " to take partition " ++ (decimal part ++ (codes " of link " ++ decimal link))))
wait_text inside (wait.Shape link rank) =
    codes "the shape of link " ++ (decimal link ++ (codes " from rank " ++ decimal rank))
wait_text inside (wait.OwnPartition part link) =
    codes "its own partition " ++ (decimal part ++ (codes " of link " ++ decimal link))

-- behind other things
abbrev pub more_text : Bool → List Wait → List ℕ
more_text inside found = flat_map (λ w. codes "; " ++ wait_text inside w) found

-- all of them. Where there is none the hart goes on in its next turn
abbrev pub waits_text : Bool → List Wait → List ℕ
waits_text inside [] = codes "nothing more"
waits_text inside (w ∷ found) = wait_text inside w ++ more_text inside found

-- ---- a hart, and the harts of a rank

-- where a hart makes the call in which it waits: at the program's own call, or where all calls are told where it is itself
abbrev pub waiting_place : Bool → List Symbol → Memory → State → List ℕ
waiting_place true symbols memory hart = made_text symbols hart.pc (call_name (argument hart 7))
waiting_place false symbols memory hart = own_place_text symbols memory hart (call_name (argument hart 7))

-- that place, and what the hart waits for
unfoldable pub waiting_text : Bool → List Symbol → Memory → State → List Wait → List ℕ
waiting_text framed symbols memory hart found =
    codes "waits at "
    ++ (waiting_place framed symbols memory hart
    ++ (codes " for " ++ waits_text (not framed && is_in_library symbols memory hart) found))

abbrev pub ended_text : ℕ → List ℕ
ended_text code = codes "ended " ++ decimal code

-- `runs at PLACE`, `waits at LINE, for WHAT` or `waits at PLACE in CALL for WHAT`, `ended CODE`, or
-- `trapped NUMBER (CAUSE) at PLACE`
abbrev pub doing_text : Bool → List Symbol → Memory → State → List Wait → Mode → List ℕ
doing_text framed symbols memory hart found Running = codes "runs at " ++ named_address_text symbols hart.pc
doing_text framed symbols memory hart found (Waiting w) = waiting_text framed symbols memory hart found
doing_text framed symbols memory hart found (Ended code) = ended_text code
doing_text framed symbols memory hart found (Trapped cause at) =
    trap_text memory hart cause ++ named_address_text symbols at

abbrev pub has_ended : Mode → Bool
has_ended (Ended code) = true
has_ended mode = false

-- `rank R hart H `, and how the hart stands
abbrev pub hart_head : ℕ → ℕ → List ℕ
hart_head r number = codes "rank " ++ (decimal r ++ (codes " hart " ++ (decimal number ++ codes " ")))

-- below it, with `framed`, the calls that led to where it is, unless it has ended
unfoldable pub hart_line : Bool → List Symbol → Memory → ℕ → ℕ → State → List Wait → List ℕ
hart_line framed symbols memory r number hart found =
    hart_head r number
    ++ (doing_text framed symbols memory hart found hart.mode
    ++ (newline ++ callers_text (framed && not (has_ended hart.mode)) symbols memory hart))

-- the lines of these harts of a rank in order, the first of which has this number
abbrev pub harts_from : Bool → List Symbol → HubView → List (List Settled) → ℕ → Rank → ℕ → List State → List ℕ
harts_from framed symbols hub boxes r rank number harts =
    flat_map (λ hart. hart_line framed symbols rank.memory r hart.0 hart.1 (waits hub boxes rank hart.0))
    (enumerate_from number harts)

-- the lines of the rank's harts
abbrev pub hart_waits_text : Bool → List Symbol → HubView → List (List Settled) → ℕ → Rank → List ℕ
hart_waits_text framed symbols hub boxes r rank = harts_from framed symbols hub boxes r rank 0 rank.harts
