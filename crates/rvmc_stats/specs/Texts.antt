-- The text of tables: a head, and a line for each number that isn't 0.
use Rattle.std.specs.Prelude.{ℕ, ◌==◌, if◌then◌else◌, List, [], ◌∷◌, ◌++◌, codes, length}
use Rattle.std.specs.Fmt.{decimal}
use Rattle.std.specs.List.{flat_map, range_with_len}
use Rattle.rvmc_stats.specs.Tallies.{cell_at, count_at}
use Rattle.cl_calls.specs.Names.{call_name}
use Rattle.rvmc_stats.specs.Counted.{rows_of_calls}
use Rattle.rvmc_stats.specs.Names.{outcome_name}
use Rattle.rvmc_stats.specs.declared.mail.Mail.{Mail}
use Rattle.rvmc_stats.specs.declared.tables.Tables.{Tables}

-- the numbers below a number
abbrev pub numbers_below : ℕ → List ℕ
numbers_below n = range_with_len 0 n

-- ---- turns

unfoldable pub turns_head : List ℕ
turns_head = codes "rank turns waited plain local hub ready take miss freed held idle\n"

-- the turns of a kind, behind a blank
abbrev pub column_text : Tables → ℕ → ℕ → List ℕ
column_text tables rank column = codes " " ++ decimal (cell_at tables.turns rank column)

abbrev pub columns_text : Tables → ℕ → List ℕ
columns_text tables rank = flat_map (column_text tables rank) (numbers_below 9)

-- the rank, all its turns, those of them that waited, and those of each kind
unfoldable pub turn_line : Tables → ℕ → List ℕ
turn_line tables rank =
    if (count_at tables.taken rank == 0) then []
    else decimal rank
    ++ (codes " "
    ++ (decimal (count_at tables.taken rank)
    ++ (codes " " ++ (decimal (count_at tables.waits rank) ++ (columns_text tables rank ++ codes "\n")))))

-- by rank
abbrev pub turn_lines : Tables → List ℕ
turn_lines tables = flat_map (turn_line tables) (numbers_below (length tables.taken))

abbrev pub turns_table : Tables → List ℕ
turns_table tables = turns_head ++ turn_lines tables

-- ---- calls

unfoldable pub calls_head : List ℕ
calls_head = codes "\nturns call and how it ended\n"

unfoldable pub call_line : Tables → ℕ → ℕ → List ℕ
call_line tables number outcome =
    if (cell_at tables.calls number outcome == 0) then []
    else decimal (cell_at tables.calls number outcome)
    ++ (codes " " ++ (call_name number ++ (codes " " ++ (outcome_name outcome ++ codes "\n"))))

-- by the call's number and its code
unfoldable pub call_lines : Tables → ℕ → List ℕ
call_lines tables number = flat_map (call_line tables number) (numbers_below 21)

abbrev pub all_call_lines : Tables → List ℕ
all_call_lines tables = flat_map (call_lines tables) (numbers_below rows_of_calls)

abbrev pub calls_table : Tables → List ℕ
calls_table tables = calls_head ++ all_call_lines tables

-- ---- messages

unfoldable pub messages_head : List ℕ
messages_head = codes "\nmessages bytes from to\n"

unfoldable pub pair_line : Mail → ℕ → ℕ → List ℕ
pair_line mail from to =
    if (cell_at mail.messages from to == 0) then []
    else decimal (cell_at mail.messages from to)
    ++ (codes " "
    ++ (decimal (cell_at mail.bytes from to)
    ++ (codes " " ++ (decimal from ++ (codes " " ++ (decimal to ++ codes "\n"))))))

-- by sender and receiver
unfoldable pub pair_lines : Mail → ℕ → List ℕ
pair_lines mail from = flat_map (pair_line mail from) (numbers_below (length mail.messages))

abbrev pub all_pair_lines : Mail → List ℕ
all_pair_lines mail = flat_map (pair_lines mail) (numbers_below (length mail.messages))

abbrev pub messages_table : Mail → List ℕ
messages_table mail = messages_head ++ all_pair_lines mail
