-- A record in tables.
use Rattle.std.specs.Prelude.{ℕ, ◌/◌, List, ◌++◌, length, map, Option}
use Rattle.std.specs.List.{filter}
use Rattle.rv_image_types.specs.declared.images.ImageParts.{ImageParts}
use Rattle.rv_image_types.specs.declared.images.Symbol.{Symbol}
use Rattle.cl_machine.specs.declared.steps.Step.{Step}
use Rattle.rvmc_stats.specs.Counted.{Taken, taken_seen}
use Rattle.rvmc_stats.specs.Tables.{AreOf}
use Rattle.rvmc_stats.specs.Texts.{calls_table, messages_table, turns_table}
use Rattle.rvmc_stats.specs.declared.tables.Tables.{Tables}
use Rattle.rvmc_sights.specs.Lines.{Sight}
use Rattle.rvmc_list.specs.Folding.{is_of_rank}
use Rattle.rvmc_list.specs.List.{AreSights, last_place}
use Rattle.rvmc_list.specs.Places.{HasPlaces}
use Rattle.rvmc_list.specs.declared.folding.Wanted.{Wanted}

-- ---- what is counted

abbrev pub taken_in : Sight → Taken
taken_in sight = taken_seen sight.step sight.before sight.after

-- of what was seen, the steps of the wanted rank
abbrev pub counted : Option ℕ → List Sight → List Taken
counted rank sights = map taken_in (filter (λ (sight : Sight). is_of_rank rank sight.step.rank) sights)

-- the words of an image's text
abbrev pub text_words : ImageParts → ℕ
text_words image = length image.text / 4

-- ---- the text

-- the tables, one behind another
abbrev pub IsTablesText : List Symbol → Tables → List ℕ → Type 0
IsTablesText symbols tables text =
    HasPlaces symbols tables.places (turns_table tables ++ (calls_table tables ++ messages_table tables.mail)) text

-- of the steps from one place to another
pub record IsStats (image : ImageParts) (steps : List Step) (wanted : Wanted) (text : List ℕ) : Type 0 where
  pub sights : List Sight
  pub are : AreSights image steps wanted.from (last_place wanted steps) sights
  pub tables : Tables
  pub tables_are : AreOf image.ranks (text_words image) (counted wanted.rank sights) tables
  pub is : IsTablesText image.symbols tables text
