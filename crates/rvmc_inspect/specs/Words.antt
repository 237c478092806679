-- What the words of `debug` do to a debugger and what they print, up to the first that is refused.
use Rattle.std.specs.Prelude.{ℕ, ◌≡◌, ◌≢◌, ◌<◌, ◌≤◌, ◌++◌, ⊤, Bool, List, [], ◌∷◌, length, slice_get, take}
use Rattle.std.specs.Prelude.{Option, None, Some}
use Rattle.rv_hart.specs.State.{State}
use Rattle.rv_image_types.specs.declared.images.ImageParts.{ImageParts}
use Rattle.rvmc_report.specs.Below.{DebugFault, Debugging, HasNoSymbol, IsOutside, IsSymbolOf, MovedBack, MovedOn}
use Rattle.rvmc_report.specs.Below.{RanOn, ShowsBytes, ShowsHart, ShowsRank, at_place, with_break}
use Rattle.rvmc_report.specs.Below.debug as faults
use Rattle.rvmc_words.specs.declared.debug.DebugWord.{DebugWord}
use Rattle.rvmc_words.specs.declared.debug.DebugWord.TheVariants.{Back, Break, Bytes, Frames, Go, Output, Place, Regs, Run, Step}
use Rattle.rvmc_words.specs.declared.debug.Spot.{Spot}
use Rattle.rvmc_words.specs.declared.debug.Spot.TheVariants as spot
use Rattle.cl_state.specs.Rank.{Rank}
use Rattle.rvmc_places.specs.Places.{line_start, line_starts}
use Rattle.rvmc_report.specs.Report.{output_text}
use Rattle.rvmc_inspect.specs.WordTexts.{bytes_text, frames_text, place_text, regs_text}

-- the address that a word names, as a number, as a symbol of the image, or as a line, which may begin at several: then the
-- first
abbrev pub IsSpot : ImageParts → Spot → ℕ → Type 0
IsSpot image (spot.Address number) address = address ≡ number
IsSpot image (spot.Name name) address = IsSymbolOf image name address
IsSpot image (spot.Line file number) address = line_start file number image.symbols ≡ Some address

-- a word names what is no symbol of the image, or a line that begins at none
abbrev pub IsUnknown : ImageParts → Spot → Type 0
IsUnknown image (spot.Address number) = ⊥
IsUnknown image (spot.Name name) = HasNoSymbol image name
IsUnknown image (spot.Line file number) = line_start file number image.symbols ≡ None

-- the addresses at which a break stops: that which the word names, or each at which the line begins
abbrev pub AreStops : ImageParts → Spot → List ℕ → Type 0
AreStops image (spot.Line file number) pcs = pcs ≡ line_starts file number image.symbols
AreStops image at pcs = (pc : ℕ) × IsSpot image at pc × (pcs ≡ pc ∷ [])

-- ---- one word

-- the text of the place where the debugger is
abbrev pub TellsPlace : Debugging → List ℕ → Type 0
TellsPlace debugging text = text ≡ place_text debugging.place (length debugging.steps)

-- the same with a break more at each of these addresses
abbrev pub with_breaks : Debugging → ℕ → ℕ → List ℕ → Debugging
with_breaks old rank hart [] = old
with_breaks old rank hart (pc ∷ pcs) =
    with_breaks (with_break old (record { rank = rank; hart = hart; pc = pc })) rank hart pcs

-- a break is added, of a line at each address at which it begins, and nothing printed
abbrev pub AddsBreak : Debugging → ℕ → ℕ → Spot → Debugging → List ℕ → Type 0
AddsBreak old rank hart at new text =
    (pc : ℕ) × IsSpot old.image at pc × (rank < old.image.ranks) × (hart < old.image.harts)
    × (pcs : List ℕ) × AreStops old.image at pcs × (new ≡ with_breaks old rank hart pcs) × (text ≡ [])

-- the debugger stays, and a hart is shown as it is at the place
abbrev pub TellsRegs : Debugging → ℕ → ℕ → Debugging → List ℕ → Type 0
TellsRegs old rank hart new text =
    (new ≡ old) × (state : State) × ShowsHart old rank hart state × (text ≡ regs_text rank hart state)

-- the debugger stays, and a hart is shown with the calls that led to where it is, by the memory of its rank at the place
abbrev pub TellsFrames : Debugging → ℕ → ℕ → Debugging → List ℕ → Type 0
TellsFrames old rank hart new text =
    (new ≡ old) × (owner : Rank) × ShowsRank old rank owner × (state : State) × ShowsHart old rank hart state
    × (text ≡ frames_text old.image.symbols rank hart owner.memory state)

-- the debugger stays, and what a rank has put out up to the place is shown, as in a report
abbrev pub TellsOutput : Debugging → ℕ → Debugging → List ℕ → Type 0
TellsOutput old rank new text =
    (new ≡ old) × (owner : Rank) × ShowsRank old rank owner × (text ≡ output_text rank owner.out)

-- the debugger stays, and bytes are shown as they are at the place, all of which are inside the memory
abbrev pub TellsBytes : Debugging → ℕ → Spot → ℕ → Debugging → List ℕ → Type 0
TellsBytes old rank at count new text =
    (new ≡ old) × (address : ℕ) × IsSpot old.image at address × (rank < old.image.ranks)
    × (¬ IsOutside old rank address count)
    × (bytes : List ℕ) × ShowsBytes old rank address count bytes × (text ≡ bytes_text bytes)

-- where the debugger is after a word, and what the word prints
abbrev pub Does : Debugging → DebugWord → Debugging → List ℕ → Type 0
Does old (Go n) new text = (n ≤ length old.steps) × (new ≡ at_place old n) × TellsPlace new text
Does old Step new text = (moved : Bool) × MovedOn old moved new × TellsPlace new text
Does old Back new text = (moved : Bool) × MovedBack old moved new × TellsPlace new text
Does old Run new text = RanOn old new × TellsPlace new text
Does old Place new text = (new ≡ old) × TellsPlace new text
Does old (Break rank hart at) new text = AddsBreak old rank hart at new text
Does old (Regs rank hart) new text = TellsRegs old rank hart new text
Does old (Frames rank hart) new text = TellsFrames old rank hart new text
Does old (Output rank) new text = TellsOutput old rank new text
Does old (Bytes rank at count) new text = TellsBytes old rank at count new text

-- memory is wanted for a word that isn't refused otherwise, and that prints something or keeps a break: so for all but
-- one that shows no bytes
abbrev pub WantsMemory : Debugging → DebugWord → Type 0
WantsMemory old (Go n) = n ≤ length old.steps
WantsMemory old (Break rank hart at) =
    (pc : ℕ) × IsSpot old.image at pc × (rank < old.image.ranks) × (hart < old.image.harts)
WantsMemory old (Regs rank hart) = (rank < old.image.ranks) × (hart < old.image.harts)
WantsMemory old (Frames rank hart) = (rank < old.image.ranks) × (hart < old.image.harts)
WantsMemory old (Output rank) = rank < old.image.ranks
WantsMemory old (Bytes rank at count) =
    (address : ℕ) × IsSpot old.image at address × (rank < old.image.ranks) × (¬ IsOutside old rank address count)
    × (0 < count)
WantsMemory old _ = ⊤

-- why a word isn't done: the place is past the end; the name is unknown; or else the rank isn't there; or else the hart
-- isn't, or a byte is outside; or else memory was refused
abbrev pub Refuses : Debugging → DebugFault → DebugWord → Type 0
Refuses old faults.Memory word = WantsMemory old word
Refuses old (faults.PastEnd len) (Go n) = (len ≡ length old.steps) × (length old.steps < n)
Refuses old faults.NoSymbol (Break rank hart at) = IsUnknown old.image at
Refuses old faults.NoSymbol (Bytes rank at count) = IsUnknown old.image at
Refuses old faults.NoRank (Break rank hart at) = (pc : ℕ) × IsSpot old.image at pc × (old.image.ranks ≤ rank)
Refuses old faults.NoRank (Regs rank hart) = old.image.ranks ≤ rank
Refuses old faults.NoRank (Frames rank hart) = old.image.ranks ≤ rank
Refuses old faults.NoRank (Output rank) = old.image.ranks ≤ rank
Refuses old faults.NoRank (Bytes rank at count) =
    (address : ℕ) × IsSpot old.image at address × (old.image.ranks ≤ rank)
Refuses old faults.NoHart (Break rank hart at) =
    (pc : ℕ) × IsSpot old.image at pc × (rank < old.image.ranks) × (old.image.harts ≤ hart)
Refuses old faults.NoHart (Regs rank hart) = (rank < old.image.ranks) × (old.image.harts ≤ hart)
Refuses old faults.NoHart (Frames rank hart) = (rank < old.image.ranks) × (old.image.harts ≤ hart)
Refuses old faults.Range (Bytes rank at count) =
    (address : ℕ) × IsSpot old.image at address × (rank < old.image.ranks) × IsOutside old rank address count
Refuses old fault word = ⊥

-- ---- all words

-- these words are done one after another: where the debugger is then, and what they print
abbrev pub Walks : Debugging → List DebugWord → Debugging → List ℕ → Type 0
Walks old [] new text = (new ≡ old) × (text ≡ [])
Walks old (word ∷ words) new text =
    (next : Debugging) × (first : List ℕ) × (rest : List ℕ) × Does old word next first × Walks next words new rest
    × (text ≡ first ++ rest)

-- the texts of all words; or those of the words before one that is refused, and why it is
abbrev pub IsTextOfWords : Debugging → List DebugWord → List ℕ → Option DebugFault → Type 0
IsTextOfWords old words text None = (new : Debugging) × Walks old words new text
IsTextOfWords old words text (Some fault) =
    (n : ℕ) × (word : DebugWord) × (new : Debugging) × (slice_get words n ≡ Some word)
    × Walks old (take n words) new text × Refuses new fault word

-- the same, and where the debugger is then: after the last word, or where one was refused. Where memory was refused it may
-- be anywhere
abbrev pub StopsAt : Debugging → List DebugWord → Debugging → List ℕ → Option DebugFault → Type 0
StopsAt old words new text None = Walks old words new text
StopsAt old words new text (Some fault) =
    (n : ℕ) × (word : DebugWord) × (at : Debugging) × (slice_get words n ≡ Some word)
    × Walks old (take n words) at text × Refuses at fault word × (fault ≢ faults.Memory → new ≡ at)
