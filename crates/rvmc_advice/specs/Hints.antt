-- What is told behind a fault's line.
use Rattle.std.specs.Prelude.{◌≡◌, ◌≢◌, ◌⊎◌, true, false, ℕ, Bool, List, Ok, Option, None, Some, IfSome, codes}
use Rattle.std.specs.List.{list_any}
use Rattle.std.specs.Str.{bytes_eq}
use Rattle.cl_text.specs.declared.faults.RecordFault.TheVariants as record_faults
use Rattle.rv_image_types.specs.declared.images.ImageParts.{ImageParts}
use Rattle.rv_image_types.specs.declared.images.Symbol.{Symbol}
use Rattle.rvmc_answers.specs.Below.{Fault}
use Rattle.rvmc_answers.specs.Below.drawn
use Rattle.rvmc_answers.specs.Below.explored
use Rattle.rvmc_answers.specs.Below.faults
use Rattle.rvmc_answers.specs.Images.{image_in}
use Rattle.rvmc_hints.specs.Content.{content_in}
use Rattle.rvmc_hints.specs.Near.{is_near}
use Rattle.rvmc_hints.specs.Plans.{plans_in}
use Rattle.rvmc_hints.specs.Records.{magic_in, short_in}
use Rattle.rvmc_hints.specs.Seen.{seen_in}
use Rattle.rvmc_hints.specs.Sources.{IsSo, whole_text}
use Rattle.rvmc_hints.specs.Texts.{hint_text}
use Rattle.rvmc_hints.specs.declared.hint.Hint.{Hint}
use Rattle.rvmc_hints.specs.declared.hint.Hint.TheVariants as hints
use Rattle.rvmc_hints.specs.declared.hint.Wanted.{Wanted}
use Rattle.rvmc_hints.specs.declared.hint.Wanted.TheVariants as wanted
use Rattle.rvmc_line.specs.declared.line.CommandLine.{CommandLine}
use Rattle.rvmc_line.specs.declared.line.CommandLine.TheVariants.{Join, OfImage, OfRecord, Session, WordSession}
use Rattle.rvmc_line.specs.declared.line.ImageCommand.{ImageCommand}
use Rattle.rvmc_line.specs.declared.line.ImageCommand.TheVariants as commands
use Rattle.rvmc_places.specs.Places.{line_start}
use Rattle.rvmc_words.specs.declared.debug.DebugWord.{DebugWord}
use Rattle.rvmc_words.specs.declared.debug.DebugWord.TheVariants as words
use Rattle.rvmc_words.specs.declared.debug.Spot.{Spot}
use Rattle.rvmc_words.specs.declared.debug.Spot.TheVariants as spots

-- what a command takes from its input
abbrev pub wanted_by : CommandLine → Wanted
wanted_by (OfImage true command) = wanted.Source
wanted_by (OfImage source (commands.Asm from)) = wanted.Rewritten
wanted_by (OfImage source commands.Dis) = wanted.Listed
wanted_by (OfImage source other) = wanted.Image
wanted_by (OfRecord command) = wanted.Record
wanted_by (Session rank) = wanted.Record
wanted_by WordSession = wanted.Record
wanted_by Join = wanted.Told

-- ---- hints of the input

-- what is in the input where the command takes something else: with `source` the assembler makes an image of it
abbrev pub content_hint : CommandLine → List ℕ → Bool → Option Hint
content_hint line bytes source = content_in (wanted_by line) source (seen_in bytes)

abbrev pub IsContentHint : CommandLine → List ℕ → Hint → Type 0
IsContentHint line bytes hint = (source : Bool) × (content_hint line bytes source ≡ Some hint)

-- what is wrong with the plan or the order of a run of this image
abbrev pub plans_of : ImageCommand → ImageParts → Option Hint
plans_of (commands.Run budget plan lead written) image = plans_in image.ranks image.harts plan None
plans_of (commands.RunUntilStuck budget plan lead written) image = plans_in image.ranks image.harts plan None
plans_of (commands.One budget plan order written) image = plans_in image.ranks image.harts plan order
plans_of (commands.OneUntilStuck budget plan order written) image = plans_in image.ranks image.harts plan order
plans_of _ image = None

-- the same of the image that the command takes from the input
abbrev pub IsPlansHint : CommandLine → List ℕ → Hint → Type 0
IsPlansHint (OfImage source command) bytes hint =
    (image : ImageParts) × ((image_in source bytes ≡ Ok image) × (plans_of command image ≡ Some hint))
IsPlansHint _ bytes hint = ⊥

-- what a source's first fault is about, a record that ends too early, or one of another version
abbrev pub IsBytesHint : List ℕ → Fault → Hint → Type 0
IsBytesHint bytes (faults.Source fault) hint =
    (fault.line ≢ 0 → IsSo fault.line fault.kind hint)
    × (fault.line ≡ 0 → whole_text fault.kind ≡ Some (hint_text hint))
IsBytesHint bytes (faults.Record (record_faults.Short length)) hint = short_in bytes ≡ Some hint
IsBytesHint bytes (faults.Record record_faults.Magic) hint = magic_in (seen_in bytes) ≡ Some hint
IsBytesHint bytes _ hint = ⊥

-- how a record with more marks than a picture may have is drawn
abbrev pub fewer_text : List ℕ
fewer_text = codes "a picture has at most 5000 marks: --from and --to draw a part of the record"

-- which hints there are for each fault: where the input isn't what is wanted, that it is something else, or what is
-- wrong with it
abbrev pub IsFaultHint : CommandLine → List ℕ → Fault → Hint → Type 0
IsFaultHint line bytes (faults.Source fault) hint =
    IsContentHint line bytes hint ⊎ IsBytesHint bytes (faults.Source fault) hint
IsFaultHint line bytes (faults.Image fault) hint = IsContentHint line bytes hint
IsFaultHint line bytes (faults.Record fault) hint =
    IsContentHint line bytes hint ⊎ IsBytesHint bytes (faults.Record fault) hint
IsFaultHint line bytes faults.Plans hint = IsPlansHint line bytes hint
IsFaultHint line bytes (faults.Explore (explored.NotAText number)) hint = IsContentHint line bytes hint
IsFaultHint line bytes (faults.Draw (drawn.TooMany marks)) hint = hint_text hint ≡ fewer_text
IsFaultHint line bytes _ hint = ⊥

-- ---- hints of the words of `debug`

-- what a word names in place of an address
abbrev pub spot_in : DebugWord → Option Spot
spot_in (words.Break rank hart at) = Some at
spot_in (words.Bytes rank at count) = Some at
spot_in _ = None

abbrev pub has_symbol : List Symbol → List ℕ → Bool
has_symbol symbols name = list_any (λ symbol. bytes_eq symbol.name name) symbols

-- a name that no symbol has, and perhaps one that is near to it; or a line without code
abbrev pub IsAbsent : List Symbol → Spot → Hint → Type 0
IsAbsent symbols (spots.Name name) (hints.NoSymbol word near) =
    (word.now ≡ name) × ((has_symbol symbols name ≡ false) × IfSome near (λ other. is_near other.now name ≡ true))
IsAbsent symbols (spots.Line file number) (hints.NoLine here at next) =
    (here.now ≡ file) × ((at.now ≡ number) × (line_start file number symbols ≡ None))
IsAbsent symbols _ _ = ⊥
