-- What is answered to questions: registers, bytes and threads are those of the machine at the place.
use Rattle.std.specs.Prelude.{ℕ, ◌≡◌, ◌≤◌, ◌⊎◌, ◌+◌, ◌==◌, Bool, true, false, List, [], ◌∷◌, ◌++◌, slice_get, if◌then◌else◌}
use Rattle.std.specs.Prelude.{codes, drop, length}
use Rattle.std.specs.Prelude.{nat_lt, Option, Some, None, option_and_then, option_map}
use Rattle.std.specs.List.{flat_map, range_with_len, slice_split}
use Rattle.std.specs.Option.{unwrap_or}
use Rattle.hex.specs.Hex.{encode_lower}
use Rattle.rv_hart.specs.State.{State, read}
use Rattle.rv_image_types.specs.declared.images.Symbol.{Symbol}
use Rattle.cl_state.specs.declared.state.RankState.{RankState}
use Rattle.cl_state.specs.Room.{rank_of}
use Rattle.cl_replay.specs.Replaying.{IsReached}
use Rattle.cl_replay.specs.declared.states.ClusterState.{ClusterState}
use Rattle.cl_debug.specs.Debugging.{Debugging}
use Rattle.cl_debug.specs.Shown.{IsOutside, ShowsBytes, ShowsHart}
use Rattle.rvmc_picture.specs.Below.{hart_waits_text}
use Rattle.rvmc_protocol.specs.Replies.Digits.{register_text}
use Rattle.rvmc_protocol.specs.Replies.Parts.{part_of}
use Rattle.rvmc_protocol.specs.Replies.Threads.{name_text, named_text}
use Rattle.rvmc_gdb.specs.declared.session.Who.{Who}
use Rattle.rvmc_gdb.specs.Serving.{Serving, done, refused, thread_count, who_at, who_of}

-- ---- registers

-- the hart that is meant, as it is at the place, if the image has one of these numbers
abbrev pub IsOwn : Serving → Option State → Type 0
IsOwn serving None = (serving.debugging.image.ranks ≤ serving.rank) ⊎ (serving.debugging.image.harts ≤ serving.hart)
IsOwn serving (Some state) = ShowsHart serving.debugging serving.rank serving.hart state

-- what is told of it, or a refusal where there is nothing to tell
abbrev pub TellsOwn : (State → Option (List ℕ)) → Serving → List ℕ → Type 0
TellsOwn tells serving text =
    (own : Option State) × IsOwn serving own × (text ≡ unwrap_or (option_and_then tells own) refused)

-- the registers of these numbers
abbrev pub registers_of : State → List ℕ → List ℕ
registers_of hart numbers = flat_map (λ number. register_text (read hart number)) numbers

-- x0 to x31, and the pc behind them
abbrev pub registers_text : State → List ℕ
registers_text hart = registers_of hart (range_with_len 0 32) ++ register_text hart.pc

-- the register of a number, of which 32 is the pc
abbrev pub register_value : ℕ → State → Option ℕ
register_value number hart =
    if nat_lt number 32 then Some (read hart number) else if number == 32 then Some hart.pc else None

abbrev pub TellsRegisters : Serving → List ℕ → Type 0
TellsRegisters serving text = TellsOwn (λ hart. Some (registers_text hart)) serving text

abbrev pub TellsRegister : Serving → ℕ → List ℕ → Type 0
TellsRegister serving number text =
    TellsOwn (λ hart. option_map register_text (register_value number hart)) serving text

-- ---- bytes

-- these bytes of the rank as they are at the place, or none where the rank isn't there or some of them are outside
abbrev pub IsRead : Serving → ℕ → ℕ → Option (List ℕ) → Type 0
IsRead serving address count None =
    (serving.debugging.image.ranks ≤ serving.rank) ⊎ IsOutside serving.debugging serving.rank address count
IsRead serving address count (Some bytes) = ShowsBytes serving.debugging serving.rank address count bytes

abbrev pub TellsBytes : (List ℕ → List ℕ) → Serving → ℕ → ℕ → List ℕ → Type 0
TellsBytes tells serving address count text =
    (found : Option (List ℕ)) × IsRead serving address count found × (text ≡ unwrap_or (option_map tells found) refused)

-- behind a letter, as they are
abbrev pub raw_text : List ℕ → List ℕ
raw_text bytes = 98 ∷ bytes

-- ---- threads

abbrev pub alive_text : Option Who → List ℕ
alive_text None = refused
alive_text (Some who) = done

-- the lines that `why` has of the harts of a rank, cut at their ends
abbrev pub wait_lines : List Symbol → ClusterState → ℕ → RankState → List (List ℕ)
wait_lines symbols state rank owner =
    slice_split (λ byte. byte == 10) (hart_waits_text false symbols state.hub state.boxes.items rank (rank_of owner))

-- the line of a hart among them
abbrev pub line_at : List Symbol → ClusterState → ℕ → ℕ → Option (List ℕ)
line_at symbols state rank hart =
    option_and_then (λ owner. slice_get (wait_lines symbols state rank owner) hart) (slice_get state.ranks.items rank)

-- at the place
abbrev pub IsLine : Debugging → Who → Option (List ℕ) → Type 0
IsLine debugging who line =
    (state : ClusterState) × IsReached debugging.image debugging.steps debugging.place state
    × (line ≡ line_at debugging.image.symbols state who.rank who.hart)

-- and in digits
abbrev pub TellsHart : Serving → Option Who → List ℕ → Type 0
TellsHart serving None text = text ≡ refused
TellsHart serving (Some who) text =
    (line : Option (List ℕ)) × IsLine serving.debugging who line
    × (text ≡ unwrap_or (option_map encode_lower line) refused)

abbrev pub TellsThread : Serving → ℕ → List ℕ → Type 0
TellsThread serving thread text = TellsHart serving (who_of serving thread) text

-- ---- threads by their names, where all ranks are served

-- what stands behind a hart's name and a blank
abbrev pub behind_name : Who → List ℕ → List ℕ
behind_name who line = drop (length (name_text who.rank who.hart) + 1) line

-- the thread of a number, from 0 on
abbrev pub named_hart : List Symbol → ClusterState → ℕ → Who → List ℕ
named_hart symbols state number who =
    named_text (number + 1) who.rank who.hart
    (behind_name who (unwrap_or (line_at symbols state who.rank who.hart) []))

unfoldable pub named_thread : List Symbol → ClusterState → Serving → ℕ → List ℕ
named_thread symbols state serving number = named_hart symbols state number (who_at serving number)

-- so many of them
abbrev pub named_threads : List Symbol → ClusterState → Serving → ℕ → List ℕ
named_threads symbols state serving count = flat_map (named_thread symbols state serving) (range_with_len 0 count)

-- the whole list
abbrev pub names_in : List Symbol → ClusterState → Serving → List ℕ
names_in symbols state serving =
    codes "<?xml version=\"1.0\"?><threads>" ++ named_threads symbols state serving (thread_count serving)
    ++ codes "</threads>"

-- at the place
abbrev pub Names : Serving → List ℕ → Type 0
Names serving text =
    (state : ClusterState)
    × IsReached serving.debugging.image serving.debugging.steps serving.debugging.place state
    × (text ≡ names_in serving.debugging.image.symbols state serving)

-- a part of it
abbrev pub ListsIf : Bool → Serving → ℕ → ℕ → List ℕ → Type 0
ListsIf false serving from count text = text ≡ []
ListsIf true serving from count text = (whole : List ℕ) × Names serving whole × (text ≡ part_of whole from count)

abbrev pub Lists : Serving → ℕ → ℕ → List ℕ → Type 0
Lists serving from count text = ListsIf serving.all serving from count text
