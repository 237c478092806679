-- An input of another kind than the command takes: one row for what stands there and what is wanted.
use Rattle.std.specs.Prelude.{if◌then◌else◌, Bool, Option, None, Some}
use Rattle.rvmc_hints.specs.declared.hint.Hint.{Hint}
use Rattle.rvmc_hints.specs.declared.hint.Hint.TheVariants as hint
use Rattle.rvmc_hints.specs.declared.hint.Wanted.{Wanted}
use Rattle.rvmc_hints.specs.declared.hint.Wanted.TheVariants as wanted
use Rattle.rvmc_hints.specs.declared.seen.Seen.{Seen}
use Rattle.rvmc_hints.specs.declared.seen.Seen.TheVariants as seen

-- a text may be a source to whom it wasn't one: it is one where the assembler makes an image of it
abbrev pub text_in : Wanted → Bool → Option Hint
text_in wanted.Source source = None
text_in wanted.Told source = None
text_in other source = if source then Some (hint.Source other) else Some (hint.Text other)

-- a line of C is a comment to the assembler
abbrev pub c_in : Wanted → Bool → Option Hint
c_in wanted source = if source then text_in wanted source else Some hint.C

abbrev pub content_in : Wanted → Bool → Seen → Option Hint
content_in wanted source seen.Nothing = Some (hint.Nothing wanted)
content_in wanted.Source source seen.Image = Some hint.Image
content_in wanted.Record source seen.Image = Some hint.Image
content_in wanted.Told source seen.Image = Some hint.Image
content_in wanted.Record source seen.Record = None
content_in wanted source seen.Record = Some hint.Record
content_in wanted source seen.Elf = Some hint.Elf
content_in wanted source seen.C = c_in wanted source
content_in wanted source seen.Text = text_in wanted source
content_in wanted source _ = None
