-- The directives: their names, and what each makes of its operands.
use Rattle.std.specs.Prelude.{ℕ, ℤ, pos, List, [], ◌∷◌, ◌++◌, codes, Bool, true, false, Option, Some, None, Result}
use Rattle.std.specs.Prelude.{if◌then◌else◌}
use Rattle.std.specs.Option.{option_map}
use Rattle.std.specs.Ordering.{int_eq}
use Rattle.rv_image_types.specs.Names.{is_symbol_name}
use Rattle.rv_image_types.specs.Limits.{most_ranks, most_harts, memory_page, most_memory_bytes}
use Rattle.rv_asm_tokens.specs.declared.fault.AsmFaultKind.{AsmFaultKind}
use Rattle.rv_asm_tokens.specs.declared.fault.AsmFaultKind.TheVariants as kinds
use Rattle.rv_asm_tokens.specs.Fault.{if_some, wanted}
use Rattle.rv_asm_tokens.specs.Escapes.{text_of}
use Rattle.rv_asm_statements.specs.declared.filled.Target.{Target as Goal}
use Rattle.rv_asm_statements.specs.declared.directives.Alignment.{Alignment}
use Rattle.rv_asm_statements.specs.declared.directives.Alignment.TheVariants.{One, Two, Four, Eight, Sixteen}
use Rattle.rv_asm_statements.specs.declared.directives.Directive.{Directive}
use Rattle.rv_asm_statements.specs.declared.directives.Directive.TheVariants as directive
use Rattle.rv_asm_statements.specs.declared.directives.Width.{Width}
use Rattle.rv_asm_statements.specs.declared.directives.Width.TheVariants.{Byte, Half, Word, Double}
use Rattle.rv_asm_statements.specs.declared.directive_rows.Form.{Form}
use Rattle.rv_asm_statements.specs.declared.directive_rows.Form.TheVariants.{Ranks, Harts, Memory, Zero, Align, Entry}
use Rattle.rv_asm_statements.specs.declared.directive_rows.Form.TheVariants.{Global, Comm, Link, Text, Data, Items}
use Rattle.rv_asm_statements.specs.declared.directive_rows.Form.TheVariants.{String, StringAndZero}
use Rattle.rv_asm_statements.specs.Arguments.{Argument, word, value, quoted}
use Rattle.rv_asm_statements.specs.Limits.{limited}
use Rattle.rv_asm_statements.specs.Shapes.{at_number, at_label, number_of}
use Rattle.rv_asm_statements.specs.Walk.{all_given, beside, first_given}

-- a directive's name and what it is
abbrev pub directives : List (List ℕ × Form)
directives =
    (codes ".ranks", Ranks)
    ∷ (codes ".harts", Harts)
    ∷ (codes ".memory", Memory)
    ∷ (codes ".entry", Entry)
    ∷ (codes ".comm", Comm)
    ∷ (codes ".link", Link)
    ∷ (codes ".text", Text)
    ∷ (codes ".data", Data)
    ∷ (codes ".byte", Items Byte)
    ∷ (codes ".half", Items Half)
    ∷ (codes ".word", Items Word)
    ∷ (codes ".dword", Items Double)
    ∷ (codes ".ascii", String)
    ∷ (codes ".asciz", StringAndZero)
    ∷ (codes ".zero", Zero)
    ∷ (codes ".balign", Align)
    ∷ (codes ".globl", Global)
    ∷ []

-- ---- operands

-- one number, name or string, and nothing else
abbrev pub only_number : List Argument → Option ℤ
only_number (value z ∷ []) = Some z
only_number _ = None

abbrev pub only_name : List Argument → Option (List ℕ)
only_name (word w ∷ []) = Some w
only_name _ = None

abbrev pub only_text : List Argument → Option (List ℕ)
only_text (quoted raw ∷ []) = Some (text_of raw)
only_text _ = None

-- one or more
abbrev pub some_given : {A B : Type 0} → (A → Option B) → List A → Option (List B)
some_given f [] = None
some_given f (x ∷ xs) = all_given f (x ∷ xs)

-- an address fits an item of 4 bytes or 8
abbrev pub takes_labels : Width → Bool
takes_labels Byte = false
takes_labels Half = false
takes_labels Word = true
takes_labels Double = true

-- an item of data: a number, or a label where the width takes them
abbrev pub item_of : Width → Argument → Option Goal
item_of width (value z) = Some (at_number z)
item_of width (word w) = if takes_labels width then Some (at_label w (pos 0)) else None
item_of width _ = None

-- one name that a symbol of an image may have: of at most 31 bytes
abbrev pub only_symbol : List Argument → Option (List ℕ)
only_symbol xs = if_some (only_name xs) None (λ w. if is_symbol_name w then Some w else None)

abbrev pub alignment_of : ℤ → Option Alignment
alignment_of z =
    if int_eq z (pos 1) then Some One
    else (if int_eq z (pos 2) then Some Two
    else (if int_eq z (pos 4) then Some Four
    else (if int_eq z (pos 8) then Some Eight else (if int_eq z (pos 16) then Some Sixteen else None))))

-- ---- directives

abbrev pub limited_number : ℕ → ℕ → ℕ → List Argument → Option ℕ
limited_number least most step xs = if_some (only_number xs) None (limited least most step)

abbrev pub only_alignment : List Argument → Option Alignment
only_alignment xs = if_some (only_number xs) None alignment_of

abbrev pub directive_alone : Directive → List Argument → Option Directive
directive_alone d [] = Some d
directive_alone d _ = None

abbrev pub link_of : List Argument → Option Directive
link_of (value z ∷ value y ∷ []) = Some (directive.Link z y)
link_of _ = None

-- what a directive is with these operands, if it takes them
unfoldable pub directive_by : Form → List Argument → Option Directive
directive_by Ranks xs = option_map directive.Ranks (limited_number 1 most_ranks 1 xs)
directive_by Harts xs = option_map directive.Harts (limited_number 1 most_harts 1 xs)
directive_by Memory xs = option_map directive.Memory (limited_number memory_page most_memory_bytes memory_page xs)
directive_by Zero xs = option_map directive.Zero (limited_number 0 most_memory_bytes 1 xs)
directive_by Align xs = option_map directive.Align (only_alignment xs)
directive_by Entry xs = option_map directive.Entry (only_name xs)
directive_by Global xs = option_map directive.Global (only_symbol xs)
directive_by Comm xs = option_map directive.Comm (some_given number_of xs)
directive_by Link xs = link_of xs
directive_by Text xs = directive_alone directive.Text xs
directive_by Data xs = directive_alone directive.Data xs
directive_by (Items width) xs = option_map (directive.Items width) (some_given (item_of width) xs)
directive_by String xs = option_map directive.Bytes (only_text xs)
directive_by StringAndZero xs = option_map (λ bytes. directive.Bytes (bytes ++ 0 ∷ [])) (only_text xs)

-- the directive of a name and its operands, which may not be operands at all
unfoldable pub directive_of : List ℕ → Option (List Argument) → Result Directive AsmFaultKind
directive_of w operands =
    wanted (if_some (first_given (beside w) directives) None (λ form. if_some operands None (directive_by form)))
    kinds.Directive
