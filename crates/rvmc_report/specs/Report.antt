-- What the report of a run tells.
use Rattle.std.specs.Prelude.{ℕ, Bool, true, false, if◌then◌else◌, List, [], ◌∷◌, ◌++◌, length, codes}
use Rattle.std.specs.Prelude.{Option, Some, None}
use Rattle.std.specs.Fmt.{decimal, digits}
use Rattle.std.specs.List.{enumerate_from, flat_map, list_any}
use Rattle.cl_rank.specs.declared.stops.Stop.{Stop}
use Rattle.cl_rank.specs.declared.stops.Stop.TheVariants.{AllEnded, Budget, Calls, ClockFull, Memory}
use Rattle.cl_record.specs.declared.records.Record.{Record}
use Rattle.cl_state.specs.declared.state.RankState.{RankState}
use Rattle.cl_trace.specs.Traces.{TraceView}
use Rattle.rv_hart.specs.State.{State}
use Rattle.rv_hart.specs.declared.state.Mode.{Mode}
use Rattle.rv_hart.specs.declared.state.Mode.TheVariants.{Running, Waiting, Ended, Trapped}
use Rattle.rv_memory.specs.Fault.{cause_number}

-- ---- the ranks

-- a rank whose run has ended, and why it stopped, where that is known
pub record RankEnd : Type 0 where
  pub output : List ℕ
  pub harts : List State
  pub stop : Option Stop
  pub turns : ℕ

-- the end of a rank in this state
abbrev pub rank_end : RankState → ℕ → Option Stop → RankEnd
rank_end state turns stop = record { output = state.out.items; harts = state.harts.items; stop = stop; turns = turns }

-- the end of each rank, of the ranks' states, their events and their stops
abbrev pub ends_of : List RankState → List TraceView → List Stop → List RankEnd
ends_of (state ∷ states) (trace ∷ traces) (stop ∷ stops) =
    rank_end state (length trace.events) (Some stop) ∷ ends_of states traces stops
ends_of states traces stops = []

-- the end of each rank of a record
abbrev pub rank_ends : Record → List RankEnd
rank_ends left = ends_of left.ranks.items left.traces.items left.stops.items

-- ---- their text

abbrev pub newline : List ℕ
newline = 10 ∷ []

-- an address, as `0x1c`
abbrev pub hex_text : ℕ → List ℕ
hex_text pc = codes "0x" ++ digits 16 false pc

-- how a hart stands
abbrev pub mode_text : Mode → ℕ → List ℕ
mode_text Running pc = codes "running at " ++ hex_text pc
mode_text (Waiting wait) pc = codes "waiting at " ++ hex_text pc
mode_text (Ended code) pc = codes "ended " ++ decimal code
mode_text (Trapped cause at) pc =
    codes "trapped " ++ (decimal (cause_number cause) ++ (codes " at " ++ hex_text at))

abbrev pub stop_text : Option Stop → List ℕ
stop_text (Some AllEnded) = codes "all-ended"
stop_text (Some Budget) = codes "budget"
stop_text (Some Memory) = codes "memory"
stop_text (Some (ClockFull clock)) = codes "clock"
stop_text (Some (Calls count)) = codes "calls"
stop_text None = codes "unknown"

-- `rank R output N`
abbrev pub output_head : ℕ → ℕ → List ℕ
output_head rank count = codes "rank " ++ (decimal rank ++ (codes " output " ++ (decimal count ++ newline)))

-- and the N bytes, with a newline behind them
abbrev pub output_text : ℕ → List ℕ → List ℕ
output_text rank output = output_head rank (length output) ++ (output ++ newline)

-- `rank R hart H` and how it stands
abbrev pub hart_text : ℕ → ℕ → State → List ℕ
hart_text rank number hart =
    codes "rank "
    ++ (decimal rank
    ++ (codes " hart " ++ (decimal number ++ (codes " " ++ (mode_text hart.mode hart.pc ++ newline)))))

-- `rank R stop WHY turns T`
abbrev pub stop_line : ℕ → Option Stop → ℕ → List ℕ
stop_line rank stop turns =
    codes "rank "
    ++ (decimal rank ++ (codes " stop " ++ (stop_text stop ++ (codes " turns " ++ (decimal turns ++ newline)))))

-- these harts of a rank in order, the first of which has this number
abbrev pub harts_text : ℕ → ℕ → List State → List ℕ
harts_text rank number harts = flat_map (λ hart. hart_text rank hart.0 hart.1) (enumerate_from number harts)

-- a rank's output, its harts in order, and its stop
abbrev pub rank_text : ℕ → RankEnd → List ℕ
rank_text rank end = output_text rank end.output ++ (harts_text rank 0 end.harts ++ stop_line rank end.stop end.turns)

-- these ranks in order, the first of which has this number
abbrev pub ranks_text : ℕ → List RankEnd → List ℕ
ranks_text number ranks = flat_map (λ rank. rank_text rank.0 rank.1) (enumerate_from number ranks)

-- all ranks in order
abbrev pub report : List RankEnd → List ℕ
report ranks = ranks_text 0 ranks

-- ---- their status

-- the rank stopped for want of memory
abbrev pub wants_memory : Option Stop → Bool
wants_memory (Some Memory) = true
wants_memory other = false

-- the rank stopped before all its harts did
abbrev pub is_cut_short : Option Stop → Bool
is_cut_short (Some Budget) = true
is_cut_short (Some (ClockFull clock)) = true
is_cut_short (Some (Calls count)) = true
is_cut_short None = true
is_cut_short other = false

abbrev pub is_trapped : Mode → Bool
is_trapped (Trapped cause pc) = true
is_trapped other = false

abbrev pub has_trapped : List State → Bool
has_trapped harts = list_any (λ hart. is_trapped hart.mode) harts

-- 5 where memory was wanting for a rank, else 3 where a hart trapped, else 4 where a rank stopped by its budget, a full
-- clock or too many calls, or for what isn't known, else 0
abbrev pub status_of : List RankEnd → ℕ
status_of ranks =
    if list_any (λ rank. wants_memory rank.stop) ranks then 5
    else (if list_any (λ rank. has_trapped rank.harts) ranks then 3
    else (if list_any (λ rank. is_cut_short rank.stop) ranks then 4
    else 0))
