-- What a hint says of a source's first fault: which hints there are for each kind of fault, and what is so of them.
use Rattle.std.specs.Prelude.{◌≡◌, ◌<◌, ◌≤◌, ℕ, ℤ, not, if◌then◌else◌, Bool, true, false, List, ◌∷◌, length, ⊤}
use Rattle.std.specs.Prelude.{Option, None, Some, IfSome, is_some, Result, Ok, OnErr, codes}
use Rattle.std.specs.List.{list_all}
use Rattle.std.specs.Str.{bytes_eq}
use Rattle.cl_calls.specs.Names.{call_number}
use Rattle.rv_asm_statements.specs.Registers.{register_named}
use Rattle.rv_asm_tokens.specs.Lexeme.{Lexeme, number}
use Rattle.rv_asm_tokens.specs.Scan.{tokens_of}
use Rattle.rv_asm_tokens.specs.declared.fault.AsmFaultKind.{AsmFaultKind}
use Rattle.rv_asm_tokens.specs.declared.fault.AsmFaultKind.TheVariants as faults
use Rattle.rvmc_hints.specs.declared.hint.Hint.{Hint}
use Rattle.rvmc_hints.specs.declared.hint.Hint.TheVariants as hint
use Rattle.rvmc_hints.specs.declared.hint.Kind.TheVariants as kinds
use Rattle.rvmc_hints.specs.declared.hint.Place.{Place}
use Rattle.rvmc_hints.specs.declared.hint.Place.TheVariants as places
use Rattle.rvmc_hints.specs.Lines.{begins_nothing, is_number}
use Rattle.rvmc_hints.specs.Near.{is_near}
use Rattle.rvmc_hints.specs.Seen.{is_printable}

-- ---- a source as a whole

-- the text of the hint for a fault of a source as a whole
abbrev pub whole_text : AsmFaultKind → Option (List ℕ)
whole_text faults.Directive = Some (codes "no line has an instruction")
whole_text faults.Limit =
    Some (codes "4096 bytes a hart, the text and the data have to fit into the memory, which .memory sets")
whole_text _ = None

-- ---- words

-- what does the same here as a mnemonic of GNU as
abbrev pub here_for : List ℕ → Option (List ℕ)
here_for name =
    if bytes_eq name (codes "call") then Some (codes "jal")
    else (if bytes_eq name (codes "tail") then Some (codes "j") else None)

-- the number that a line's first token is
abbrev pub first_number : Result (List Lexeme) AsmFaultKind → Option ℤ
first_number (Ok (number value ∷ tokens)) = Some value
first_number _ = None

-- whether a word is of the kind that a place asks for: a target can be a label or a number
abbrev pub is_of : Place → List ℕ → Bool
is_of places.Register word = is_some (register_named word)
is_of places.Number word = is_number word
is_of places.Target word = true
is_of places.Label word = not (is_number word)
is_of places.Orders word = bytes_eq word (codes "iorw")

-- ---- which hints there are for each kind of fault

-- what is no token: a number that isn't one, a string that doesn't end, a byte that begins nothing
abbrev pub IsTokenHint : Hint → Type 0
IsTokenHint hint.NoString = ⊤
IsTokenHint (hint.NoNumber word) = (is_number word.now ≡ true) × OnErr (tokens_of word.now) ⊤
IsTokenHint (hint.Character byte) = begins_nothing byte ≡ true
IsTokenHint _ = ⊥

-- a mnemonic of another assembler, or one that is unknown and perhaps near to a name
abbrev pub IsMnemonicHint : Hint → Type 0
IsMnemonicHint (hint.Foreign word here) = here_for word.now ≡ Some here.now
IsMnemonicHint (hint.Unknown word kinds.Instruction near) = IfSome near (λ name. is_near name.now word.now ≡ true)
IsMnemonicHint _ = ⊥

-- the name of a call in a number's place, another word of the wrong kind, or all operands together
abbrev pub IsOperandHint : Hint → Type 0
IsOperandHint (hint.Call word value) = call_number word.now ≡ Some value
IsOperandHint (hint.Misplaced word kind name operands) = is_of kind word.now ≡ false
IsOperandHint (hint.Takes name operands) = ⊤
IsOperandHint _ = ⊥

-- the word that is the number that doesn't fit, or all operands together
abbrev pub IsRangeHint : ℤ → Hint → Type 0
IsRangeHint value (hint.Unfit word name operands) = first_number (tokens_of word.now) ≡ Some value
IsRangeHint value (hint.Takes name operands) = ⊤
IsRangeHint value _ = ⊥

-- an earlier line than the one of the fault defines the label
abbrev pub IsTwiceHint : ℕ → Hint → Type 0
IsTwiceHint line (hint.Twice word earlier) = earlier < line
IsTwiceHint line _ = ⊥

-- a name that is neither a number nor a register, and perhaps near to a label
abbrev pub IsMissingHint : Hint → Type 0
IsMissingHint (hint.NoLabel word near) =
    (is_number word.now ≡ false)
    × ((register_named word.now ≡ None) × IfSome near (λ name. is_near name.now word.now ≡ true))
IsMissingHint _ = ⊥

-- a directive that is unknown, what one takes, perhaps with what stands at it, or a statement in the wrong part
abbrev pub IsDirectiveHint : Hint → Type 0
IsDirectiveHint (hint.Unknown word kinds.Directive near) = IfSome near (λ name. is_near name.now word.now ≡ true)
IsDirectiveHint (hint.Takes name operands) = ⊤
IsDirectiveHint (hint.At words name operands) = (list_all is_printable words.now ≡ true) × (length words.now ≤ 64)
IsDirectiveHint (hint.Most most) = most.now ≡ codes "instructions stand in the text part, behind .text"
IsDirectiveHint _ = ⊥

-- what grows past its limit, by the statement's name
abbrev pub limit_text : List ℕ → List ℕ
limit_text name =
    if bytes_eq name (codes ".comm") then codes "an image has at most 7 communicators"
    else (if bytes_eq name (codes ".link") then codes "an image has at most 32 links"
    else (if bytes_eq name (codes ".globl") then codes "an image has at most 1024 symbols"
    else codes "the text and the data have at most 1048576 bytes each"))

abbrev pub IsLimitHint : Hint → Type 0
IsLimitHint (hint.Most most) = (name : List ℕ) × (most.now ≡ limit_text name)
IsLimitHint _ = ⊥

-- what a hint says of a fault of a line is so
abbrev pub IsSo : ℕ → AsmFaultKind → Hint → Type 0
IsSo line faults.Token said = IsTokenHint said
IsSo line faults.Mnemonic said = IsMnemonicHint said
IsSo line faults.Operand said = IsOperandHint said
IsSo line (faults.Range value) said = IsRangeHint value said
IsSo line faults.LabelTwice said = IsTwiceHint line said
IsSo line faults.LabelMissing said = IsMissingHint said
IsSo line faults.Directive said = IsDirectiveHint said
IsSo line faults.Limit said = IsLimitHint said
IsSo line faults.Memory said = ⊥
