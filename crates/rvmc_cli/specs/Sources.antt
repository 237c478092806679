-- The sources that a page is to show: `--text NAME=LEN`, any number of times.
use Rattle.std.specs.Prelude.{◌==◌, List, [], ◌∷◌, Option, Some, None, codes, option_and_then, option_map}
use Rattle.std.specs.List.{slice_split}
use Rattle.std.specs.Option.{option_map_or}
use Rattle.clap.specs.Words.{Row, Text, all_of}
use Rattle.rvmc_line.specs.declared.texts.SourceSize.{SourceSize}
use Rattle.rvmc_words.specs.Number.{number_in}

-- a name, and how many bytes: as many as the input may have
abbrev pub size_of_parts : List Text → Option SourceSize
size_of_parts (name ∷ size ∷ []) =
    option_map (λ size. record { name = name; size = size }) (number_in 0 67108864 size)
size_of_parts others = None

-- with one `=` between them, so that a name has none
unfoldable pub size_in : Text → Option SourceSize
size_in text = size_of_parts (slice_split (λ byte. byte == 61) text)

-- of each text, where each is one
abbrev pub each_size : List Text → Option (List SourceSize)
each_size [] = Some []
each_size (text ∷ texts) =
    option_and_then (λ size. option_map (λ sizes. size ∷ sizes) (each_size texts)) (size_in text)

-- without the option none
abbrev pub sizes_in : List Row → Option (List SourceSize)
sizes_in rows = option_map_or each_size (all_of (codes "text") rows) (Some [])
