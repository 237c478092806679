-- Which words of a command line name files: one to read, and behind `-o` one to write. What is left is a line as `meaning_of`
-- knows it, which has no such words.
use Rattle.std.specs.Prelude.{◌==◌, ◌&&◌, ◌||◌, ◌++◌, ◌∷◌, ℕ, Bool, true, false, List, [], Option, None, Some, codes, find, if◌then◌else◌}
use Rattle.std.specs.Prelude.{is_some, length, map, nat_eq, not, option_and_then, option_map, unwrap_or}
use Rattle.std.specs.List.{ends_with, list_any}
use Rattle.std.specs.Option.{option_map_or}
use Rattle.std.specs.Str.{bytes_eq}
use Rattle.clap.specs.Words.{Rule, Text}
use Rattle.rvmc_cli.specs.Commands.{CommandRow, commands}
use Rattle.rvmc_cli.specs.declared.files.Asks.{Asks}
use Rattle.rvmc_cli.specs.declared.files.Asks.TheVariants as asks
use Rattle.rvmc_cli.specs.declared.files.Named.{Named}
use Rattle.rvmc_cli.specs.declared.files.Taker.{Taker}

-- ---- what a file's name looks like

abbrev pub is_mark : ℕ → Bool
is_mark byte = (byte == 46) || (byte == 47)

abbrev pub is_equals_sign : ℕ → Bool
is_equals_sign byte = byte == 61

abbrev pub begins_with_dash : Text → Bool
begins_with_dash [] = false
begins_with_dash (byte ∷ bytes) = byte == 45

-- a `.` or a `/` stands in it, and no `=`; and it is no option
abbrev pub is_file : Text → Bool
is_file word = list_any is_mark word && (not (list_any is_equals_sign word) && not (begins_with_dash word))

-- its name ends in `.s`
abbrev pub is_source_file : Text → Bool
is_source_file file = ends_with nat_eq file (codes ".s")

-- ---- what a command takes

-- an option, as it stands in a line, that takes the word behind it
abbrev pub option_name : Rule → List Text
option_name rule =
    if rule.value_names == 1 then option_map_or (λ long. (codes "--" ++ long) ∷ []) rule.long [] else []

abbrev pub option_names : List Rule → List Text
option_names [] = []
option_names (rule ∷ rules) = option_name rule ++ option_names rules

-- it has `--source`
abbrev pub has_source : List Rule → Bool
has_source rules = list_any (λ rule. bytes_eq rule.id (codes "source")) rules

-- a command's name, its options that take the word behind them, and whether it has `--source`
pub record Takes : Type 0 where
  pub command : Text
  pub options : List Text
  pub source : Bool

abbrev pub takes_of : CommandRow → Takes
takes_of row =
    record {
      command = row.name;
      options = option_names row.rules;
      source = has_source row.rules;
    }

-- the command of this name, if there is one
abbrev pub takes_by_name : Text → Option Takes
takes_by_name name = find (λ takes. bytes_eq name takes.command) (map takes_of commands)

-- a row of the code's table
abbrev pub taker_view : Taker → Takes
taker_view row =
    record {
      command = row.command.now;
      options = map (λ option. option.now) row.options.now;
      source = row.source;
    }

-- ---- the words one after the other

-- the words that are left so far, and what was named
pub record Names : Type 0 where
  pub words : List Text
  pub file : Option Text
  pub output : Option Text

abbrev pub names_of : Named → Names
names_of named =
    record {
      words = map (λ word. word.now) named.words.items;
      file = option_map (λ file. file.now) named.file;
      output = option_map (λ file. file.now) named.output;
    }

-- these words, and no name
abbrev pub unnamed : List Text → Names
unnamed words = record { words = words; file = None; output = None }

abbrev pub with_word : Names → Text → Names
with_word names word = record names { words = names.words ++ word ∷ [] }

-- a name is given once at most
abbrev pub with_file : Names → Text → Option Names
with_file names file = if is_some names.file then None else Some (record names { file = Some file })

abbrev pub with_output : Names → Text → Option Names
with_output names file = if is_some names.output then None else Some (record names { output = Some file })

abbrev pub is_output_option : Text → Bool
is_output_option word = bytes_eq word (codes "-o")

abbrev pub is_among : List Text → Text → Bool
is_among options word = list_any (λ option. bytes_eq option word) options

-- what a word asks of the next one: behind `-o` to name the output, and behind such an option to be its value
abbrev pub asked_by : List Text → Text → Asks
asked_by options word =
    if is_output_option word then asks.Output else (if is_among options word then asks.Value else asks.Nothing)

-- the same where this is asked of the word itself, which then asks nothing
abbrev pub asked_behind : List Text → Asks → Text → Asks
asked_behind options asks.Nothing word = asked_by options word
asked_behind options other word = asks.Nothing

-- one word more: a value is left, and so is each word but `-o` and a file
abbrev pub with_next : Asks → Names → Text → Option Names
with_next asks.Value names word = Some (with_word names word)
with_next asks.Output names word = with_output names word
with_next asks.Nothing names word =
    if is_output_option word then Some names
    else (if is_file word then with_file names word else Some (with_word names word))

-- an `-o` names something
abbrev pub is_output_asked : Asks → Bool
is_output_asked asks.Output = true
is_output_asked other = false

-- these words behind others, the last of which asks this
abbrev pub walked : List Text → Asks → Names → List Text → Option Names
walked options ask names [] = if is_output_asked ask then None else Some names
walked options ask names (word ∷ words) =
    option_and_then (λ next. walked options (asked_behind options ask word) next words) (with_next ask names word)

-- ---- a whole line

-- the file is a source, and `--source` isn't given
abbrev pub lacks_source : Option Text → List Text → Bool
lacks_source None words = false
lacks_source (Some file) words = is_source_file file && not (is_among words (codes "--source"))

-- then it is given, where the command has this option
abbrev pub finished : Bool → Names → Names
finished source names =
    if source && lacks_source names.file names.words then with_word names (codes "--source") else names

-- a file alone is run as `one` runs it
abbrev pub for_one : Names → Names
for_one names = finished true (record names { words = codes "one" ∷ [] })

-- no word is left: so it is without a command
abbrev pub alone : Names → Option Names
alone names =
    if length names.words == 0 then Some (if is_some names.file then for_one names else names) else None

-- words behind the command that takes this
abbrev pub behind : Takes → Text → List Text → Option Names
behind takes command words =
    option_map (finished takes.source) (walked takes.options asks.Nothing (unnamed (command ∷ [])) words)

abbrev pub without_command : List Text → Option Names
without_command words = option_and_then alone (walked [] asks.Nothing (unnamed []) words)

-- the first word is a command, or there is none
abbrev pub names_in : List Text → Option Names
names_in [] = Some (unnamed [])
names_in (command ∷ words) =
    option_map_or (λ takes. behind takes command words) (takes_by_name command) (without_command (command ∷ words))

-- what a line names, and the line that is left; words that name no files so stay as they are
abbrev pub named_in : List Text → Names
named_in words = unwrap_or (names_in words) (unnamed words)
