-- What a line without a file's name comes to.
use Rattle.std.specs.Prelude.{◌≡◌, ⊤, false, List, [], ◌∷◌}
use Rattle.clap.specs.Words.{Text}
use Rattle.rvmc_cli.specs.Files.{is_file, is_output_option, named_in, unnamed}

-- no word is `-o`, and none looks like a file's name
abbrev pub ArePlain : List Text → Type 0
ArePlain [] = ⊤
ArePlain (word ∷ words) = (is_output_option word ≡ false) × (is_file word ≡ false) × ArePlain words

-- such words stay as they are, and name nothing
abbrev pub NamingLaw : Type 0
NamingLaw = (words : List Text) → ArePlain words → named_in words ≡ unnamed words
