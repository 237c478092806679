-- What is told of words that are refused.
use Rattle.std.specs.Prelude.{◌≡◌, ◌⊎◌, ℕ, if◌then◌else◌, List, [], ◌∷◌}
use Rattle.std.specs.Prelude.{Option, Some, None, codes, option_map}
use Rattle.std.specs.List.{list_any}
use Rattle.rvmc_hints.specs.Texts.{missing_text}
use Rattle.rvmc_hints.specs.Words.{command_near, form_of, is_rank_option}

-- where a command is asked for so many ranks
abbrev pub ranks_text : List ℕ
ranks_text =
    codes "the image fixes the number of ranks: rvmc-mpi run -n 4 FILE.c, rvmc-cc -n 4 FILE.c, or .ranks 4 in a source"

abbrev pub ranks_in : List (List ℕ) → Option (List ℕ)
ranks_in words = if list_any is_rank_option words then Some ranks_text else None

-- where two files are named, or an output in a way that isn't known
abbrev pub files_text : List ℕ
files_text = codes "name one FILE at most, after the command, and one OUTPUT at most, after -o"

-- where the first word is no command, and one has a name that is near to it
abbrev pub command_in : List (List ℕ) → Option (List ℕ)
command_in [] = None
command_in (word ∷ words) =
    option_map (λ near. missing_text (codes "rvmc has no command") word (Some near)) (command_near word)

-- the right form of some word of `debug`
abbrev pub IsForm : List ℕ → Type 0
IsForm text = (head : List ℕ) × (form_of head ≡ Some text)

-- what is told of such words is one of these
abbrev pub IsTold : List (List ℕ) → List ℕ → Type 0
IsTold words text =
    (ranks_in words ≡ Some text) ⊎ ((command_in words ≡ Some text) ⊎ (IsForm text ⊎ (text ≡ files_text)))
