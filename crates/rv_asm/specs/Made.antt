-- What the code answers of a source, and what an image of one keeps.
use Rattle.std.specs.Prelude.{◌≡◌, ℕ, ◌+◌, ◌%◌, ◌<◌, ◌≤◌, All, List, length, Option, Some, None, Result, Ok, Err}
use Rattle.std.specs.Prelude.{nat_le}
use Rattle.rv_image_types.specs.declared.images.Symbol.{Symbol}
use Rattle.rv_image_types.specs.Image.{IsCommunicator, IsLink, IsSymbol, data_start, symbol_names}
use Rattle.rv_image_types.specs.Names.{RisingNames, is_symbol_name}
use Rattle.rv_image_types.specs.Limits.{most_comms, most_links}
use Rattle.rv_asm_tokens.specs.declared.fault.AsmFault.{AsmFault}
use Rattle.rv_asm_tokens.specs.declared.fault.AsmFaultKind.{AsmFaultKind}
use Rattle.rv_asm_tokens.specs.declared.fault.AsmFaultKind.TheVariants as kinds
use Rattle.rv_asm_tokens.specs.Lexeme.{Lexeme, name}
use Rattle.rv_asm_tokens.specs.Scan.{tokens_of}
use Rattle.rv_asm_lines.specs.GlobalNames.{globals_in}
use Rattle.rv_asm_lines.specs.Globals.{is_global, most_globals}
use Rattle.rv_asm_lines.specs.Layout.{Layout, addresses}
use Rattle.rv_asm_lines.specs.Output.{Output}
use Rattle.rv_asm_lines.specs.Resolved.{address_in}

-- a fault is the one that is meant, unless memory was refused
abbrev pub Unless : AsmFaultKind → Type 0 → Type 0
Unless kinds.Memory P = Unit {0}
Unless e P = P

abbrev pub FailsAt : {Y : Type 0} → AsmFault → Result Y AsmFault → Type 0
FailsAt fault meant = Unless fault.kind (meant ≡ Err fault)

-- the text is whole words, and the entry is one of them
abbrev pub EntryIn : List ℕ → Option ℕ → Type 0
EntryIn text None = Unit {0}
EntryIn text (Some at) = (at < length text) × (at % 4 ≡ 0)

-- what an image asks of what was made, besides its size; its symbols stand at the end of text and data at most
pub record IsWhole (ranks : ℕ) (o : Output) (named : List Symbol) : Type 0 where
  pub whole_words : length o.text % 4 ≡ 0
  pub entry_in : EntryIn o.text o.entry
  pub few_comms : length o.comms ≤ most_comms
  pub comms : All (IsCommunicator ranks) o.comms
  pub few_links : length o.links ≤ most_links
  pub links : All (IsLink ranks) o.links
  pub few_symbols : length named ≤ most_globals
  pub symbols : All (IsSymbol (data_start (length o.text) + length o.init)) named
  pub rising : RisingNames (symbol_names named)

-- the symbols of a source in its own words: their names are those of its `.globl`, each once, in byte order, and their
-- addresses those of the labels
pub record AreGlobals (s : Layout) (symbols : List Symbol) : Type 0 where
  pub rising : RisingNames (symbol_names symbols)
  pub named : (w : List ℕ) → is_global w (symbol_names symbols) ≡ is_global w (globals_in s.items)
  pub addresses : All (λ symbol. address_in symbol.name (addresses s.text s.labels) ≡ Some symbol.address) symbols

-- a name of at most 31 bytes is one that a symbol may have
abbrev pub IsShortEnough : Lexeme → Type 0
IsShortEnough (name w) = is_symbol_name w ≡ nat_le (length w) 31
IsShortEnough _ = Unit {0}

-- so is each name of a line: nothing but its length keeps it from being a symbol's
abbrev pub NamesFit : Type 0
NamesFit = (line : List ℕ) (ts : List Lexeme) → tokens_of line ≡ Ok ts → All IsShortEnough ts
