-- The commands, one row each: its name, what clap reads for it, and what it asks for.
use Rattle.std.specs.Prelude.{ℕ, ⊤, Bool, false, true, List, [], ◌∷◌, ◌++◌, ◌||◌, Option, Some, None, if◌then◌else◌, codes, map, not, option_map}
use Rattle.std.specs.Prelude.{option_and_then}
use Rattle.std.specs.Option.{option_map_or, unwrap_or}
use Rattle.std.specs.Str.{bytes_eq}
use Rattle.clap.specs.Words.{App, Row, Rule, Text, all_of, first_of, new_app}
use Rattle.rvmc_cli.specs.App.{flag, option, options, texts, top_app, with_commands, with_rules}
use Rattle.rvmc_cli.specs.declared.places.Places.{Places}
use Rattle.rvmc_cli.specs.Options.{apart, flag_in, list_option, number_option, optional_number}
use Rattle.rvmc_cli.specs.Sources.{sizes_in}
use Rattle.rvmc_words.specs.Debug.{debug_words_in}
use Rattle.rvmc_starts.specs.Starts.{start_in}
use Rattle.rvmc_starts.specs.declared.starts.Start.{Start}
use Rattle.rvmc_line.specs.declared.line.CommandLine.{CommandLine}
use Rattle.rvmc_line.specs.declared.line.CommandLine.TheVariants.{Join, OfImage, OfRecord, Session, WordSession}
use Rattle.rvmc_line.specs.declared.line.ImageCommand.{ImageCommand}
use Rattle.rvmc_line.specs.declared.line.ImageCommand.TheVariants.{Asm, Dis, Explore, ExploreFrom, One, OneUntilStuck}
use Rattle.rvmc_line.specs.declared.line.ImageCommand.TheVariants.{Run, RunUntilStuck, Split}
use Rattle.rvmc_line.specs.declared.line.RecordCommand.TheVariants.{Check, Debug, Draw, List as ListSteps, Page, Report}
use Rattle.rvmc_line.specs.declared.line.RecordCommand.TheVariants.{Stats, Why}
use Rattle.rvmc_line.specs.declared.line.RecordCommand.{RecordCommand}
use Rattle.rvmc_line.specs.declared.line.Written.{Written}
use Rattle.rvmc_line.specs.declared.line.Written.TheVariants as written

-- a command's name, its flags, options and texts, and what it asks for, of what clap found for it
pub record CommandRow : Type 0 where
  pub name : Text
  pub rules : List Rule
  pub meaning : List Row → Option CommandLine

-- ---- commands of an image

-- `asm [--from]`
abbrev pub asm_row : CommandRow
asm_row =
    record {
      name = codes "asm";
      rules = flag (codes "from") ∷ [];
      meaning = λ rows. let from = flag_in (codes "from") rows in Some (OfImage (not from) (Asm from));
    }

-- `dis`
abbrev pub dis_row : CommandRow
dis_row =
    record {
      name = codes "dis";
      rules = [];
      meaning = λ rows. Some (OfImage false Dis);
    }

-- what `run` and `one` share: `[--source] [--budget N] [--plan HARTS] [--record] [--why] [--frames]`
abbrev pub runner_rules : List Rule
runner_rules =
    flag (codes "source") ∷ option (codes "budget") ∷ option (codes "plan") ∷ flag (codes "record")
    ∷ flag (codes "why") ∷ flag (codes "frames") ∷ []

-- `--budget N`, from 1 to 2^24; without it 1,000,000
abbrev pub budget_in : List Row → Option ℕ
budget_in rows = number_option (codes "budget") 1 16777216 1000000 rows

-- `--frames` asks for what `--why` does, and for more
abbrev pub asks_why : List Row → Bool
asks_why rows = flag_in (codes "frames") rows || flag_in (codes "why") rows

-- `--record`, or `--why` or `--frames`, without all three the report alone; `--record` goes with neither of the others
abbrev pub written_in : List Row → Option Written
written_in rows =
    if flag_in (codes "record") rows
    then (if asks_why rows then None else Some written.Record)
    else (if asks_why rows then Some (written.Why (flag_in (codes "frames") rows)) else Some written.Report)

-- `--lead N`, from 1 to 2^16; without it 64
abbrev pub lead_in : List Row → Option ℕ
lead_in rows = number_option (codes "lead") 1 65536 64 rows

-- a run with threads, to the end of its plans or `until_stuck`
abbrev pub run_by : Bool → ℕ → Option (List ℕ) → ℕ → Written → ImageCommand
run_by false budget plan lead written = Run budget plan lead written
run_by true budget plan lead written = RunUntilStuck budget plan lead written

-- the same by what is to be written, and by `--plan HARTS`
abbrev pub run_with : ℕ → ℕ → List Row → Option ImageCommand
run_with budget lead rows =
    option_and_then (λ written. option_map (λ plan. run_by (flag_in (codes "until-stuck") rows) budget plan lead written)
    (list_option (codes "plan") rows)) (written_in rows)

-- `run [--source] [--budget N] [--plan HARTS] [--record] [--why] [--frames] [--lead N] [--until-stuck]`
abbrev pub run_row : CommandRow
run_row =
    record {
      name = codes "run";
      rules = runner_rules ++ option (codes "lead") ∷ flag (codes "until-stuck") ∷ [];
      meaning = λ rows.
          option_and_then (λ budget. option_and_then (λ lead. option_map (λ command.
          OfImage (flag_in (codes "source") rows) command) (run_with budget lead rows)) (lead_in rows))
          (budget_in rows);
    }

-- a run on one thread, to the end of its plans or `until_stuck`
abbrev pub one_by : Bool → ℕ → Option (List ℕ) → Option (List ℕ) → Written → ImageCommand
one_by false budget plan order written = One budget plan order written
one_by true budget plan order written = OneUntilStuck budget plan order written

-- the same by `--plan HARTS` and `--order RANKS`
abbrev pub one_with : ℕ → Written → List Row → Option ImageCommand
one_with budget written rows =
    option_and_then (λ plan. option_map (λ order. one_by (flag_in (codes "until-stuck") rows) budget plan order written)
    (list_option (codes "order") rows)) (list_option (codes "plan") rows)

-- `one [--source] [--budget N] [--plan HARTS] [--record] [--why] [--frames] [--order RANKS] [--until-stuck]`
abbrev pub one_row : CommandRow
one_row =
    record {
      name = codes "one";
      rules = runner_rules ++ option (codes "order") ∷ flag (codes "until-stuck") ∷ [];
      meaning = λ rows.
          option_and_then (λ budget. option_and_then (λ written. option_map (λ command.
          OfImage (flag_in (codes "source") rows) command) (one_with budget written rows)) (written_in rows))
          (budget_in rows);
    }

-- `--states N`, from 1 to 2^24; without it 1,000,000
abbrev pub states_in : List Row → Option ℕ
states_in rows = number_option (codes "states") 1 16777216 1000000 rows

-- `--turns N`, from 1 to 2^24; without it 1,000,000
abbrev pub turns_alone_in : List Row → Option ℕ
turns_alone_in rows = number_option (codes "turns") 1 16777216 1000000 rows

-- `--record K`, which has a number here: that of an end, from 1 and below 2^64
abbrev pub end_in : List Row → Option (Option ℕ)
end_in rows = optional_number (codes "record") 1 18446744073709551615 rows

-- `--split N`, which has a number here: of starts, from 1 to 2^24
abbrev pub count_in : List Row → Option (Option ℕ)
count_in rows = optional_number (codes "split") 1 16777216 rows

-- `--from START`, which has a start here
abbrev pub beginning_in : List Row → Option (Option Start)
beginning_in rows =
    option_map_or (λ text. option_map (λ start. Some start) (start_in text)) (first_of (codes "from") rows) (Some None)

-- `--join` stands alone; a split looks for no ends; and a start has its plan in it. `--buffered` leaves out what a split
-- doesn't look for, so it changes nothing there
abbrev pub explore_fits : List Row → Option ⊤
explore_fits rows =
    option_and_then (λ _. option_and_then (λ _. apart (codes "from") (codes "plan" ∷ []) rows)
    (apart (codes "split") (codes "from" ∷ codes "states" ∷ codes "record" ∷ []) rows))
    (apart (codes "join") (codes "source" ∷ codes "plan" ∷ codes "states" ∷ codes "turns" ∷ codes "record" ∷ codes "split"
    ∷ codes "from" ∷ codes "buffered" ∷ codes "progress" ∷ []) rows)

-- all ends behind a start, or else from the image on
abbrev pub ends_by : ℕ → ℕ → Option ℕ → Option Start → List Row → Option ImageCommand
ends_by states turns end (Some start) rows =
    Some (ExploreFrom start states turns end (flag_in (codes "buffered") rows) (flag_in (codes "progress") rows))
ends_by states turns end None rows =
    option_map (λ plan. Explore plan states turns end (flag_in (codes "buffered") rows) (flag_in (codes "progress") rows))
    (list_option (codes "plan") rows)

abbrev pub ends_in : ℕ → List Row → Option ImageCommand
ends_in turns rows =
    option_and_then (λ states. option_and_then (λ end. option_and_then (λ start. ends_by states turns end start rows)
    (beginning_in rows)) (end_in rows)) (states_in rows)

-- so many starts, or else all ends
abbrev pub search_by : ℕ → Option ℕ → List Row → Option ImageCommand
search_by turns (Some count) rows =
    option_map (λ plan. Split plan count turns (flag_in (codes "progress") rows)) (list_option (codes "plan") rows)
search_by turns None rows = ends_in turns rows

abbrev pub search_in : List Row → Option ImageCommand
search_in rows =
    option_and_then (λ turns. option_and_then (λ count. search_by turns count rows) (count_in rows)) (turns_alone_in rows)

-- the texts of a split, or else an image
abbrev pub explored_in : List Row → Option CommandLine
explored_in rows =
    if flag_in (codes "join") rows then Some Join
    else option_map (λ search. OfImage (flag_in (codes "source") rows) search) (search_in rows)

-- `explore [--source] [--plan HARTS] [--states N] [--turns N] [--record K] [--split N] [--from START] [--join]
-- [--buffered] [--progress]`
abbrev pub explore_row : CommandRow
explore_row =
    record {
      name = codes "explore";
      rules = flag (codes "source") ∷ option (codes "plan") ∷ option (codes "states") ∷ option (codes "turns")
          ∷ option (codes "record") ∷ option (codes "split") ∷ option (codes "from") ∷ flag (codes "join")
          ∷ flag (codes "buffered") ∷ flag (codes "progress") ∷ [];
      meaning = λ rows. option_and_then (λ _. explored_in rows) (explore_fits rows);
    }

-- ---- commands of a record

-- `check`
abbrev pub check_row : CommandRow
check_row =
    record {
      name = codes "check";
      rules = [];
      meaning = λ rows. Some (OfRecord Check);
    }

-- `report`
abbrev pub report_row : CommandRow
report_row =
    record {
      name = codes "report";
      rules = [];
      meaning = λ rows. Some (OfRecord Report);
    }

-- what `list`, `draw` and `page` share: `[--from N] [--to N]`
abbrev pub place_rules : List Rule
place_rules = option (codes "from") ∷ option (codes "to") ∷ []

-- two places below 2^64, of which the second isn't before the first; without them the start and the end
abbrev pub places_given : List Row → Option Places
places_given rows =
    option_and_then (λ from. option_map (λ to. record { from = from; to = to })
    (optional_number (codes "to") from 18446744073709551615 rows))
    (number_option (codes "from") 0 18446744073709551615 0 rows)

-- lines, or with `--stats` tables in place of them; `--calls` is about lines, and doesn't go with it
abbrev pub listing_in : Places → Option ℕ → List Row → Option RecordCommand
listing_in places rank rows =
    if flag_in (codes "stats") rows
    then (if flag_in (codes "calls") rows then None else Some (Stats places.from places.to rank))
    else Some (ListSteps places.from places.to rank (flag_in (codes "calls") rows))

-- `list [--from N] [--to N] [--rank R] [--calls] [--stats]`, R from 0 to 255
abbrev pub list_row : CommandRow
list_row =
    record {
      name = codes "list";
      rules = place_rules ++ option (codes "rank") ∷ flag (codes "calls") ∷ flag (codes "stats") ∷ [];
      meaning = λ rows.
          option_and_then (λ places. option_and_then (λ rank.
          option_map (λ command. OfRecord command) (listing_in places rank rows))
          (optional_number (codes "rank") 0 255 rows)) (places_given rows);
    }

-- `draw [--from N] [--to N]`
abbrev pub draw_row : CommandRow
draw_row =
    record {
      name = codes "draw";
      rules = place_rules;
      meaning = λ rows.
          option_map (λ (places : Places). OfRecord (Draw places.from places.to)) (places_given rows);
    }

-- `page [--from N] [--to N] [--text NAME=LEN ..]`
abbrev pub page_row : CommandRow
page_row =
    record {
      name = codes "page";
      rules = place_rules ++ options (codes "text") ∷ [];
      meaning = λ rows.
          option_and_then (λ (places : Places). option_map (λ texts. OfRecord (Page places.from places.to texts))
          (sizes_in rows)) (places_given rows);
    }

-- `-` alone: the words come behind the record, a line each
abbrev pub is_dash : List Text → Bool
is_dash (word ∷ []) = bytes_eq word (codes "-")
is_dash other = false

abbrev pub debugging_in : List Text → Option CommandLine
debugging_in words =
    if is_dash words then Some WordSession else option_map (λ words. OfRecord (Debug words)) (debug_words_in words)

-- `debug CMD..` and `debug -`
abbrev pub debug_row : CommandRow
debug_row =
    record {
      name = codes "debug";
      rules = texts (codes "words") ∷ [];
      meaning = λ rows. option_and_then debugging_in (all_of (codes "words") rows);
    }

-- one rank, or the first where none is named; with `--all` all of them, and then none is named
abbrev pub session_of : Bool → Option ℕ → Option CommandLine
session_of true None = Some (Session None)
session_of true (Some rank) = None
session_of false rank = Some (Session (Some (unwrap_or rank 0)))

-- `gdb [--rank R | --all]`, R from 0 to 255
abbrev pub gdb_row : CommandRow
gdb_row =
    record {
      name = codes "gdb";
      rules = option (codes "rank") ∷ flag (codes "all") ∷ [];
      meaning = λ rows.
          option_and_then (λ rank. session_of (flag_in (codes "all") rows) rank)
          (optional_number (codes "rank") 0 255 rows);
    }

-- `why [--at N] [--frames]`, N below 2^64
abbrev pub why_row : CommandRow
why_row =
    record {
      name = codes "why";
      rules = option (codes "at") ∷ flag (codes "frames") ∷ [];
      meaning = λ rows.
          option_map (λ at. OfRecord (Why at (flag_in (codes "frames") rows)))
          (optional_number (codes "at") 0 18446744073709551615 rows);
    }

-- ---- all of them

-- in the order in which help lists them, in three parts: the third alone, those from the second on, and all
abbrev pub from_third : List CommandRow
from_third = debug_row ∷ gdb_row ∷ why_row ∷ explore_row ∷ []

abbrev pub from_second : List CommandRow
from_second = check_row ∷ report_row ∷ list_row ∷ draw_row ∷ page_row ∷ from_third

abbrev pub commands : List CommandRow
commands = asm_row ∷ dis_row ∷ run_row ∷ one_row ∷ from_second

-- what clap reads of a command
abbrev pub app_of : CommandRow → App
app_of row = with_rules (new_app row.name) row.rules

-- the whole command line
abbrev pub rvmc_app : App
rvmc_app = with_commands top_app (map app_of commands)

-- what the command of this name asks for, of what was found for it
abbrev pub line_among : List CommandRow → Text → List Row → Option CommandLine
line_among [] name found = None
line_among (row ∷ rows) name found =
    if bytes_eq name row.name then row.meaning found else line_among rows name found

unfoldable pub line_in : Text → List Row → Option CommandLine
line_in name found = line_among commands name found
