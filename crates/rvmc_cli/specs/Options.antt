-- The values of the flags and options of a command, of what clap found for it.
use Rattle.std.specs.Prelude.{ℕ, ⊤, Bool, false, true, List, Option, Some, None, ◌&&◌, codes, find, if◌then◌else◌, option_and_then}
use Rattle.std.specs.Prelude.{option_map}
use Rattle.std.specs.List.{list_any}
use Rattle.std.specs.Option.{option_map_or}
use Rattle.std.specs.Str.{bytes_eq}
use Rattle.clap.specs.Words.{Row, Text, first_of}
use Rattle.clap.specs.declared.parser.matches.ValueSource.{ValueSource}
use Rattle.clap.specs.declared.parser.matches.ValueSource.TheVariants.{CommandLine}
use Rattle.rvmc_words.specs.Number.{number_in, numbers_in}

-- whether a flag was given
abbrev pub flag_in : Text → List Row → Bool
flag_in name rows = option_map_or (λ text. bytes_eq text (codes "true")) (first_of name rows) false

-- the number of an option, from `least` to `most`, or what it is without one
abbrev pub number_option : Text → ℕ → ℕ → ℕ → List Row → Option ℕ
number_option name least most default rows =
    option_map_or (λ text. number_in least most text) (first_of name rows) (Some default)

-- the number of an option, from `least` to `most`, or None without one
abbrev pub optional_number : Text → ℕ → ℕ → List Row → Option (Option ℕ)
optional_number name least most rows =
    option_map_or (λ text. option_map (λ number. Some number) (number_in least most text)) (first_of name rows)
    (Some None)

-- the numbers of an option, or None without one
abbrev pub list_option : Text → List Row → Option (Option (List ℕ))
list_option name rows =
    option_map_or (λ text. option_map (λ numbers. Some numbers) (numbers_in text)) (first_of name rows) (Some None)

-- ---- which of them stand together

-- where what was found for a flag or an option comes from: the words, or clap's default
abbrev pub source_of : Text → List Row → Option ValueSource
source_of name rows = option_and_then (λ row. row.source) (find (λ row. bytes_eq row.id name) rows)

abbrev pub is_from_words : Option ValueSource → Bool
is_from_words (Some CommandLine) = true
is_from_words other = false

-- whether a flag or an option was given
abbrev pub is_given : Text → List Row → Bool
is_given name rows = is_from_words (source_of name rows)

-- whether one of these was given
abbrev pub any_given : List Text → List Row → Bool
any_given names rows = list_any (λ name. is_given name rows) names

-- a flag or an option isn't given beside one of these others
abbrev pub apart : Text → List Text → List Row → Option ⊤
apart name others rows = if is_given name rows && any_given others rows then None else Some tt
