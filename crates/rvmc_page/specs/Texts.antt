-- The sources, as text: each behind a line with its name, as `\file farm.c`. No line of a source begins so, since a `\` is
-- spelled there.
use Rattle.std.specs.Prelude.{ℕ, List, [], ◌∷◌, ◌++◌, codes, if◌then◌else◌, nat_eq}
use Rattle.std.specs.List.{ends_with, flat_map}
use Rattle.rvmc_picture.specs.Below.{newline}
use Rattle.rvmc_page.specs.Escaped.{escaped_in_lines, spelled_byte}
use Rattle.rvmc_page.specs.declared.texts.SourceText.{SourceText}

-- what contracts see of a source: its name, and its bytes
pub record Source : Type 0 where
  pub name : List ℕ
  pub bytes : List ℕ

abbrev pub source_of : SourceText → Source
source_of text = record { name = text.name.now; bytes = text.bytes.now }

-- the end of its last line, where the bytes have none
abbrev pub last_end : List ℕ → List ℕ
last_end bytes = if ends_with nat_eq bytes newline then [] else newline

unfoldable pub source_text : SourceText → List ℕ
source_text source =
    (92 ∷ codes "file ")
    ++ (flat_map spelled_byte source.name.now
    ++ (newline ++ (flat_map escaped_in_lines source.bytes.now ++ last_end source.bytes.now)))

abbrev pub texts_text : List SourceText → List ℕ
texts_text sources = flat_map source_text sources
