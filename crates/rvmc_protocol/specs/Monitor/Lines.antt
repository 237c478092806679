-- The words of a line.
use Rattle.std.specs.Prelude.{ℕ, ◌==◌, Bool, List, filter, length, nat_lt, Option, None, if◌then◌else◌}
use Rattle.std.specs.List.{slice_split}
use Rattle.std.specs.Str.{is_utf8}
use Rattle.rvmc_words.specs.Debug.{debug_words_in}
use Rattle.rvmc_words.specs.declared.debug.DebugWord.{DebugWord}

-- between two blanks there may be nothing
abbrev pub is_some_text : List ℕ → Bool
is_some_text text = nat_lt 0 (length text)

-- the texts of a line have blanks between them, one or more
abbrev pub texts_in : List ℕ → List (List ℕ)
texts_in line = filter is_some_text (slice_split (λ byte. byte == 32) line)

-- each is a word of `debug`, as on the command line
abbrev pub words_of_text : List ℕ → Option (List DebugWord)
words_of_text line = debug_words_in (texts_in line)

-- what isn't UTF-8 has no words
abbrev pub words_in : List ℕ → Option (List DebugWord)
words_in line = if is_utf8 line then words_of_text line else None
