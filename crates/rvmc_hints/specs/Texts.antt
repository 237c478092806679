-- The text of each hint, which is printed behind `hint: `.
use Rattle.std.specs.Prelude.{ℕ, ◌-◌, ◌&&◌, nat_le, if◌then◌else◌, List, [], ◌∷◌, ◌++◌}
use Rattle.std.specs.Prelude.{Option, None, Some, codes, option_map}
use Rattle.std.specs.Fmt.{decimal}
use Rattle.std.specs.Str.{is_utf8}
use Rattle.rvmc_hints.specs.declared.hint.Awaited.{Awaited}
use Rattle.rvmc_hints.specs.declared.hint.Awaited.TheVariants as awaited
use Rattle.rvmc_hints.specs.declared.hint.Hint.{Hint}
use Rattle.rvmc_hints.specs.declared.hint.Hint.TheVariants as hint
use Rattle.rvmc_hints.specs.declared.hint.Kind.{Kind}
use Rattle.rvmc_hints.specs.declared.hint.Kind.TheVariants as kinds
use Rattle.rvmc_hints.specs.declared.hint.Place.{Place}
use Rattle.rvmc_hints.specs.declared.hint.Place.TheVariants as places
use Rattle.rvmc_hints.specs.declared.hint.Wanted.{Wanted}
use Rattle.rvmc_hints.specs.declared.hint.Wanted.TheVariants as wanted

-- ---- the parts of a text

-- bytes of an input: as they are if they are UTF-8, and else `?`
abbrev pub shown_text : List ℕ → List ℕ
shown_text bytes = if is_utf8 bytes then bytes else codes "?"

-- what a command takes
abbrev pub wanted_text : Wanted → List ℕ
wanted_text wanted.Source = codes "a source"
wanted_text wanted.Image = codes "an image, or with --source a source,"
wanted_text wanted.Listed = codes "an image"
wanted_text wanted.Rewritten = codes "an image"
wanted_text wanted.Record = codes "a record"
wanted_text wanted.Told = codes "what rvmc explore --from writes"

-- of what docs/ASSEMBLER.md has a list
abbrev pub kind_text : Kind → List ℕ
kind_text kinds.Instruction = codes "instructions"
kind_text kinds.Directive = codes "directives"

-- what is wrong with a word, by what its place asks for
abbrev pub misplaced_text : Place → List ℕ
misplaced_text places.Register = codes "is no register"
misplaced_text places.Number = codes "is no number"
misplaced_text places.Target = codes "is no target"
misplaced_text places.Label = codes "is no label"
misplaced_text places.Orders = codes "is no iorw"

-- what is to be done with a source where something else is wanted
abbrev pub remedy_text : Wanted → List ℕ
remedy_text wanted.Source = codes "rvmc reads it"
remedy_text wanted.Image = codes "use --source"
remedy_text wanted.Listed = codes "rvmc asm | rvmc dis"
remedy_text wanted.Rewritten = codes "rvmc asm reads it, without --from"
remedy_text wanted.Record = codes "rvmc one --source --record makes a record of its run"
remedy_text wanted.Told = codes "rvmc explore --source --split begins with it"

-- how a text that may be a source is to be given
abbrev pub advice_text : Wanted → List ℕ
advice_text wanted.Source = codes "rvmc reads sources"
advice_text wanted.Image = codes "a source wants --source"
advice_text wanted.Listed = codes "of a source, rvmc asm | rvmc dis"
advice_text wanted.Rewritten = codes "a source wants no --from"
advice_text wanted.Record = codes "rvmc one --record writes a record"
advice_text wanted.Told = codes "rvmc explore --from writes them"

-- how ranks have to be listed, and harts
abbrev pub ranks_text : ℕ → List ℕ
ranks_text ranks =
    if nat_le ranks 1 then codes "1 rank: --order must name 0 and no other"
    else (decimal ranks ++ (codes " ranks: --order must name each of 0 to " ++ decimal (ranks - 1)))

abbrev pub harts_text : ℕ → List ℕ
harts_text harts =
    if nat_le harts 1 then codes "1 hart: --plan must name 0 and no other"
    else (decimal harts ++ (codes " harts: --plan must name harts from 0 to " ++ decimal (harts - 1)))

-- what is waited for on standard input
abbrev pub awaited_text : Awaited → List ℕ
awaited_text (awaited.Whole wanted) =
    codes "waiting for "
    ++ (wanted_text wanted
    ++ codes " on standard input (Ctrl-D ends it); a file can be named instead, and rvmc --help says more")
awaited_text awaited.Packets = codes "waiting for gdb's packets on standard input (Ctrl-D ends it)"
awaited_text awaited.Words =
    codes "waiting for words on standard input, a line each, as go=2 regs=0,0 (Ctrl-D ends it)"

-- a name that begins no statement, and perhaps the one that was meant
abbrev pub unknown_text : List ℕ → Kind → Option (List ℕ) → List ℕ
unknown_text word kind (Some near) =
    shown_text word
    ++ (codes " isn't known here; is " ++ (near ++ (codes " meant? docs/ASSEMBLER.md lists the " ++ kind_text kind)))
unknown_text word kind None =
    shown_text word ++ (codes " isn't known here; docs/ASSEMBLER.md lists the " ++ kind_text kind)

-- a mnemonic of another assembler, and what does the same here
abbrev pub foreign_text : List ℕ → List ℕ → List ℕ
foreign_text word here = shown_text word ++ (codes " isn't known here: " ++ (here ++ codes " does the same"))

-- the name of a call where a number is wanted, and the call's number
abbrev pub call_text : List ℕ → ℕ → List ℕ
call_text word number = shown_text word ++ (codes " is no number: it is call " ++ decimal number)

-- a label, and the earlier line that defines it
abbrev pub twice_text : List ℕ → ℕ → List ℕ
twice_text word line = codes "line " ++ (decimal line ++ (codes " defines " ++ (shown_text word ++ codes " already")))

-- what a mnemonic or a directive takes
abbrev pub takes_text : List ℕ → List ℕ → List ℕ
takes_text name operands = name ++ (codes " takes " ++ operands)

-- a word, what is wrong with it, and what its statement takes
abbrev pub wrong_text : List ℕ → List ℕ → List ℕ → List ℕ → List ℕ
wrong_text word wrong name operands =
    shown_text word ++ (codes " " ++ (wrong ++ (codes ": " ++ takes_text name operands)))

-- the words at which a directive is wrong, and what it takes
abbrev pub at_text : List ℕ → List ℕ → List ℕ → List ℕ
at_text words name operands = codes "at `" ++ (shown_text words ++ (codes "`: " ++ takes_text name operands))

-- the name that was meant, perhaps
abbrev pub near_text : Option (List ℕ) → List ℕ
near_text (Some near) = codes "; is " ++ (shown_text near ++ codes " meant?")
near_text None = []

-- a name that isn't there
abbrev pub missing_text : List ℕ → List ℕ → Option (List ℕ) → List ℕ
missing_text lacks word near = lacks ++ (codes " " ++ (shown_text word ++ near_text near))

-- a character of the input: itself if it is printable ASCII
abbrev pub character_text : ℕ → List ℕ
character_text byte =
    if nat_le 33 byte && nat_le byte 126 then codes "nothing begins with " ++ byte ∷ []
    else (codes "nothing begins with the byte " ++ decimal byte)

-- the next line with code, if there is one
abbrev pub next_text : List ℕ → Option (List ℕ) → List ℕ
next_text file (Some next) = codes "; the next line with code is " ++ (file ++ (codes ":" ++ shown_text next))
next_text file None = []

abbrev pub no_line_text : List ℕ → List ℕ → Option (List ℕ) → List ℕ
no_line_text file number next =
    codes "the image has no code of " ++ (file ++ (codes ":" ++ (number ++ next_text file next)))

-- ---- the text of a hint

abbrev pub hint_text : Hint → List ℕ
hint_text (hint.Nothing wanted) = codes "the input is empty: " ++ (wanted_text wanted ++ codes " is wanted")
hint_text hint.Image = codes "this is an image: rvmc one reads it"
hint_text hint.Record = codes "this is a record: rvmc report, list and check read it"
hint_text hint.Elf = codes "this is an ELF file: rvmc runs images, which rvmc-cc makes from C"
hint_text hint.C = codes "this is C: rvmc-mpi run -n 4 FILE compiles it and runs it"
hint_text (hint.Source wanted) = codes "this is an assembler source: " ++ remedy_text wanted
hint_text (hint.Text wanted) = codes "this looks like text: " ++ advice_text wanted
hint_text hint.Input = codes "a file or a pipe is read, of at most 67108864 bytes"
hint_text (hint.Ranks ranks) = ranks_text ranks
hint_text (hint.Harts harts) = harts_text harts
hint_text (hint.Command word near) = missing_text (codes "rvmc has no command") word.now (Some near.now)
hint_text (hint.Awaited awaited) = awaited_text awaited
hint_text (hint.Form form) = form.now
hint_text (hint.Unknown word kind near) = unknown_text word.now kind (option_map (λ name. name.now) near)
hint_text (hint.Foreign word here) = foreign_text word.now here.now
hint_text (hint.Takes name operands) = takes_text name.now operands.now
hint_text (hint.Misplaced word kind name operands) = wrong_text word.now (misplaced_text kind) name.now operands.now
hint_text (hint.Call word number) = call_text word.now number
hint_text (hint.Unfit word name operands) = wrong_text word.now (codes "doesn't fit") name.now operands.now
hint_text (hint.At words name operands) = at_text words.now name.now operands.now
hint_text (hint.NoNumber word) = shown_text word.now ++ codes " is no number"
hint_text (hint.Character byte) = character_text byte
hint_text hint.NoString = codes "a string ends on its line, and has the escapes \\n, \\t, \\0, \\\\ and \\\""
hint_text (hint.NoLabel word near) =
    missing_text (codes "no line defines") word.now (option_map (λ name. name.now) near)
hint_text (hint.Twice word line) = twice_text word.now line
hint_text hint.NoText = codes "no line has an instruction"
hint_text (hint.Most most) = most.now
hint_text (hint.NoSymbol word near) =
    missing_text (codes "the image has no symbol") word.now (option_map (λ name. name.now) near)
hint_text (hint.NoLine file number next) = no_line_text file.now number.now (option_map (λ line. line.now) next)
hint_text (hint.Least bytes) = codes "a record that begins so has " ++ (decimal bytes ++ codes " bytes or more")
hint_text hint.Version = codes "a record begins with RVMR and version 2"
