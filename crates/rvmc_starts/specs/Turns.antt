-- How the turns of a start are written: runs of equal ones are joined.
use Rattle.std.specs.Prelude.{ℕ, ◌+◌, Bool, true, false, ◌&&◌, ◌==◌, List, [], ◌∷◌, ◌++◌, length, Option, Some, None, if◌then◌else◌, nat_lt, not, option_and_then, option_map, replicate}
use Rattle.std.specs.Fmt.{decimal}
use Rattle.std.specs.List.{join_by, slice_split}
use Rattle.cl_turns.specs.declared.Turn.{Turn}
use Rattle.rvmc_words.specs.Number.{number_in}
use Rattle.rvmc_starts.specs.declared.turns.Run.{Run}

-- ---- how they are written

-- one turn
abbrev pub one : Turn → Run
one turn = record { turn = turn; count = 1 }

-- `3`, `0x18` or `2-`
abbrev pub run_text : Run → List ℕ
run_text run =
    decimal run.turn.rank
    ++ (if run.turn.misses then 45 ∷ [] else (if (run.count == 1) then [] else (120 ∷ decimal run.count)))

-- a turn that doesn't miss is written with the equal ones before it, up to 16777216
abbrev pub joins : Run → Turn → Bool
joins run turn =
    ((run.turn.rank == turn.rank) && (not run.turn.misses && not turn.misses)) && nat_lt run.count 16777216

-- the runs of turns, behind a run that they may go on with
abbrev pub runs_from : Run → List Turn → List Run
runs_from run [] = run ∷ []
runs_from run (turn ∷ turns) =
    if joins run turn then runs_from (record { turn = run.turn; count = run.count + 1 }) turns
    else run ∷ runs_from (one turn) turns

abbrev pub runs_of : List Turn → List Run
runs_of [] = []
runs_of (turn ∷ turns) = runs_from (one turn) turns

-- with one comma between each two
unfoldable pub turns_text : List Turn → List ℕ
turns_text turns = join_by run_text (44 ∷ []) (runs_of turns)

-- ---- how they are read

abbrev pub rank_in : List ℕ → Option ℕ
rank_in text = number_in 0 255 text

-- so many turns that don't miss
abbrev pub turns_of : ℕ → ℕ → Run
turns_of count rank = record { turn = record { rank = rank; misses = false }; count = count }

-- a turn that misses, where nothing stands behind its sign
abbrev pub missed_in : List ℕ → List ℕ → Option Run
missed_in rank [] = option_map (λ rank. one (record { rank = rank; misses = true })) (rank_in rank)
missed_in rank end = None

-- `R` or `RxN`
abbrev pub run_in : List (List ℕ) → Option Run
run_in (rank ∷ []) = option_map (λ rank. turns_of 1 rank) (rank_in rank)
run_in (rank ∷ count ∷ []) =
    option_and_then (λ rank. option_map (λ count. turns_of count rank) (number_in 2 16777216 count)) (rank_in rank)
run_in others = None

abbrev pub item_of : List (List ℕ) → Option Run
item_of (plain ∷ []) = run_in (slice_split (λ byte. byte == 120) plain)
item_of (rank ∷ end ∷ []) = missed_in rank end
item_of others = None

-- the run that an item writes
unfoldable pub item_in : List ℕ → Option Run
item_in text = item_of (slice_split (λ byte. byte == 45) text)

-- the turns of all items, where each is one
abbrev pub each_item : List (List ℕ) → Option (List Turn)
each_item [] = Some []
each_item (text ∷ texts) =
    option_and_then (λ run. option_map (λ turns. replicate run.count run.turn ++ turns) (each_item texts)) (item_in text)

-- the turns that a text writes
unfoldable pub turns_in : List ℕ → Option (List Turn)
turns_in text = if nat_lt 0 (length text) then each_item (slice_split (λ byte. byte == 44) text) else Some []
