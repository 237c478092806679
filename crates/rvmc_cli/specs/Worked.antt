-- Worked command lines of `debug` and `explore`: what they ask for, and why others ask for nothing.
use Rattle.std.specs.Prelude.{◌≡◌, ℕ, List, [], ◌∷◌, Some, None, codes, false, refl, true}
use Rattle.clap.specs.declared.error.kind.ErrorKind.TheVariants as kind
use Rattle.clap.proofs.OnLiterals.{clap_on_literals}
use Rattle.rvmc_cli.specs.Commands.{line_in}
use Rattle.rvmc_cli.specs.Meaning.{command_in, faults_in, meaning_of, refusals_of}
use Rattle.rvmc_starts.specs.Hex.{hex_in}
use Rattle.rvmc_starts.specs.Starts.{place_in, start_in}
use Rattle.rvmc_starts.specs.Sums.{sum_in}
use Rattle.rvmc_starts.specs.Turns.{item_in, turns_in}
use Rattle.rvmc_starts.specs.declared.starts.Start.{Start}
use Rattle.rvmc_words.specs.Debug.{bare_word, debug_word_in, spot_in, word_with}
use Rattle.rvmc_words.specs.Number.{any_number_in, number_in, numbers_in}
use Rattle.rvmc_words.specs.declared.debug.DebugWord.TheVariants.{Back, Go, Regs}
use Rattle.rvmc_line.specs.declared.line.CommandLine.TheVariants.{Join, OfImage, OfRecord, WordSession}
use Rattle.rvmc_line.specs.declared.line.ImageCommand.TheVariants.{Explore, ExploreFrom, Split}
use Rattle.rvmc_line.specs.declared.line.RecordCommand.TheVariants.{Debug}

-- the words come in their order
pub words_in_order : meaning_of (codes "debug" ∷ codes "go=2" ∷ codes "regs=0,1" ∷ codes "back" ∷ [])
    ≡ Some (OfRecord (Debug (Go 2 ∷ Regs 0 1 ∷ Back ∷ [])))
unfolding faults_in command_in line_in clap_on_literals debug_word_in bare_word word_with spot_in any_number_in
words_in_order = refl

-- one word or more is wanted
pub no_word : meaning_of (codes "debug" ∷ []) ≡ None
unfolding faults_in command_in line_in clap_on_literals
no_word = refl

pub why_no_word : refusals_of (codes "debug" ∷ []) ≡ kind.MissingRequiredArgument ∷ []
unfolding faults_in clap_on_literals
why_no_word = refl

-- `-` alone stands for words that come behind the record
pub words_of_lines : meaning_of (codes "debug" ∷ codes "-" ∷ []) ≡ Some WordSession
unfolding faults_in command_in line_in clap_on_literals
words_of_lines = refl

pub lines_and_words : meaning_of (codes "debug" ∷ codes "-" ∷ codes "back" ∷ []) ≡ None
unfolding faults_in command_in line_in clap_on_literals debug_word_in bare_word word_with
lines_and_words = refl

-- a text that is no word, behind one that is
pub a_wrong_word : meaning_of (codes "debug" ∷ codes "back" ∷ codes "step=1" ∷ []) ≡ None
unfolding faults_in command_in line_in clap_on_literals debug_word_in bare_word word_with
a_wrong_word = refl

pub why_a_wrong_word : refusals_of (codes "debug" ∷ codes "back" ∷ codes "step=1" ∷ []) ≡ kind.ValueValidation ∷ []
unfolding faults_in clap_on_literals
why_a_wrong_word = refl

-- ---- all orders

-- without options an image is searched, by the plan of all harts in order, as far as 1,000,000 states
pub all_ends : meaning_of (codes "explore" ∷ []) ≡ Some (OfImage false (Explore None 1000000 1000000 None false false))
unfolding faults_in command_in line_in clap_on_literals
all_ends = refl

-- `--record` takes the number of an end, where `one` has a flag of this name
pub second_end : meaning_of (codes "explore" ∷ codes "--source" ∷ codes "--record=2" ∷ [])
    ≡ Some (OfImage true (Explore None 1000000 1000000 (Some 2) false false))
unfolding faults_in command_in line_in clap_on_literals number_in
second_end = refl

-- each bound has its own option
pub bounds_and_plan : meaning_of
    (codes "explore" ∷ codes "--turns" ∷ codes "16777216" ∷ codes "--states=5" ∷ codes "--plan=0,1" ∷ [])
    ≡ Some (OfImage false (Explore (Some (0 ∷ 1 ∷ [])) 5 16777216 None false false))
unfolding faults_in command_in line_in clap_on_literals number_in numbers_in
bounds_and_plan = refl

-- ends are counted from 1
pub no_end_0 : meaning_of (codes "explore" ∷ codes "--record" ∷ codes "0" ∷ []) ≡ None
unfolding faults_in command_in line_in clap_on_literals number_in
no_end_0 = refl

pub why_no_end_0 : refusals_of (codes "explore" ∷ codes "--record" ∷ codes "0" ∷ []) ≡ kind.ValueValidation ∷ []
unfolding faults_in clap_on_literals
why_no_end_0 = refl

-- lines that say how far it came come if they are asked for
pub told_on_the_way : meaning_of (codes "explore" ∷ codes "--progress" ∷ [])
    ≡ Some (OfImage false (Explore None 1000000 1000000 None false true))
unfolding faults_in command_in line_in clap_on_literals
told_on_the_way = refl

-- ranks that need buffers are looked for, unless this is said
pub not_looked_for : meaning_of (codes "explore" ∷ codes "--buffered" ∷ [])
    ≡ Some (OfImage false (Explore None 1000000 1000000 None true false))
unfolding faults_in command_in line_in clap_on_literals
not_looked_for = refl

-- and a search has no budget
pub why_no_budget : refusals_of (codes "explore" ∷ codes "--budget" ∷ codes "5" ∷ []) ≡ kind.UnknownArgument ∷ []
unfolding faults_in clap_on_literals
why_no_budget = refl

-- ---- all orders, in parts

-- 64 starts or more, which have the plan in them
pub starts : meaning_of (codes "explore" ∷ codes "--split" ∷ codes "64" ∷ codes "--source" ∷ codes "--plan=0,1" ∷ [])
    ≡ Some (OfImage true (Split (Some (0 ∷ 1 ∷ [])) 64 1000000 false))
unfolding faults_in command_in line_in clap_on_literals number_in numbers_in
starts = refl

-- a search isn't split into nothing
pub no_starts : meaning_of (codes "explore" ∷ codes "--split=0" ∷ []) ≡ None
unfolding faults_in command_in line_in clap_on_literals number_in
no_starts = refl

pub why_no_starts : refusals_of (codes "explore" ∷ codes "--split=0" ∷ []) ≡ kind.ValueValidation ∷ []
unfolding faults_in clap_on_literals
why_no_starts = refl

-- the second of three starts: behind two turns of rank 0, and one of rank 1 that misses
abbrev a_start : List ℕ
a_start = codes "2/3:68-0123456789abcdef:9f31c0de12345678:0,1:0x2,1-"

abbrev the_start : Start
the_start =
    record {
      number = 2;
      count = 3;
      image = record { size = 68; digest = 81985529216486895 };
      split = 11471161785910056568;
      harts = 0 ∷ 1 ∷ [];
      turns = record { rank = 0; misses = false } ∷ record { rank = 0; misses = false }
          ∷ record { rank = 1; misses = true } ∷ [];
    }

-- the record of an end behind it
pub behind_a_start : meaning_of (codes "explore" ∷ codes "--from" ∷ a_start ∷ codes "--record=1" ∷ [])
    ≡ Some (OfImage false (ExploreFrom the_start 1000000 1000000 (Some 1) false false))
unfolding faults_in command_in line_in clap_on_literals number_in numbers_in start_in place_in sum_in hex_in turns_in item_in
behind_a_start = refl

-- ranks that need buffers are not looked for behind it either
pub not_looked_for_behind_a_start : meaning_of (codes "explore" ∷ codes "--buffered" ∷ codes "--from" ∷ a_start ∷ [])
    ≡ Some (OfImage false (ExploreFrom the_start 1000000 1000000 None true false))
unfolding faults_in command_in line_in clap_on_literals number_in numbers_in start_in place_in sum_in hex_in turns_in item_in
not_looked_for_behind_a_start = refl

-- a split is the same with it
pub a_split_looks_for_none : meaning_of (codes "explore" ∷ codes "--split=64" ∷ codes "--buffered" ∷ [])
    ≡ Some (OfImage false (Split None 64 1000000 false))
unfolding faults_in command_in line_in clap_on_literals number_in
a_split_looks_for_none = refl

-- the fourth of three starts
pub no_fourth_start : meaning_of
    (codes "explore" ∷ codes "--from=4/3:68-0123456789abcdef:9f31c0de12345678:0,1:0x2,1-" ∷ []) ≡ None
unfolding faults_in command_in line_in clap_on_literals number_in numbers_in start_in place_in
no_fourth_start = refl

pub why_no_fourth_start : refusals_of
    (codes "explore" ∷ codes "--from=4/3:68-0123456789abcdef:9f31c0de12345678:0,1:0x2,1-" ∷ []) ≡ kind.ValueValidation ∷ []
unfolding faults_in clap_on_literals
why_no_fourth_start = refl

-- what was told of the starts is read, and no image
pub joined_parts : meaning_of (codes "explore" ∷ codes "--join" ∷ []) ≡ Some Join
unfolding faults_in command_in line_in clap_on_literals
joined_parts = refl

-- nor a source
pub no_joined_source : meaning_of (codes "explore" ∷ codes "--source" ∷ codes "--join" ∷ []) ≡ None
unfolding faults_in command_in line_in clap_on_literals
no_joined_source = refl

pub why_no_joined_source : refusals_of (codes "explore" ∷ codes "--source" ∷ codes "--join" ∷ []) ≡ kind.ValueValidation ∷ []
unfolding faults_in clap_on_literals
why_no_joined_source = refl

-- and nothing is searched then
pub no_joined_progress : meaning_of (codes "explore" ∷ codes "--join" ∷ codes "--progress" ∷ []) ≡ None
unfolding faults_in command_in line_in clap_on_literals
no_joined_progress = refl

pub no_joined_buffered : meaning_of (codes "explore" ∷ codes "--join" ∷ codes "--buffered" ∷ []) ≡ None
unfolding faults_in command_in line_in clap_on_literals
no_joined_buffered = refl

-- what doesn't stand together is refused whatever its value
pub no_joined_split : meaning_of (codes "explore" ∷ codes "--join" ∷ codes "--split" ∷ codes "few" ∷ []) ≡ None
unfolding faults_in command_in line_in clap_on_literals
no_joined_split = refl

-- a split looks for no ends, and goes on from no start
pub no_split_of_states : meaning_of (codes "explore" ∷ codes "--split=5" ∷ codes "--states=5" ∷ []) ≡ None
unfolding faults_in command_in line_in clap_on_literals
no_split_of_states = refl

pub why_no_split_of_states : refusals_of (codes "explore" ∷ codes "--split=5" ∷ codes "--states=5" ∷ []) ≡ kind.ValueValidation ∷ []
unfolding faults_in clap_on_literals
why_no_split_of_states = refl

pub no_record_of_a_split : meaning_of (codes "explore" ∷ codes "--record=1" ∷ codes "--split=5" ∷ []) ≡ None
unfolding faults_in command_in line_in clap_on_literals
no_record_of_a_split = refl

pub no_split_behind_a_start : meaning_of (codes "explore" ∷ codes "--split=5" ∷ codes "--from" ∷ a_start ∷ []) ≡ None
unfolding faults_in command_in line_in clap_on_literals
no_split_behind_a_start = refl

-- a start has its plan in it
pub no_plan_behind_a_start : meaning_of (codes "explore" ∷ codes "--plan=0,1" ∷ codes "--from=1/2" ∷ []) ≡ None
unfolding faults_in command_in line_in clap_on_literals
no_plan_behind_a_start = refl

pub why_no_plan_behind_a_start : refusals_of (codes "explore" ∷ codes "--plan=0,1" ∷ codes "--from=1/2" ∷ []) ≡ kind.ValueValidation ∷ []
unfolding faults_in clap_on_literals
why_no_plan_behind_a_start = refl
