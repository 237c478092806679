-- The names of `.globl`: each once, in byte order; and the symbols that they make.
use Rattle.std.specs.Prelude.{ℕ, List, Option, Some, None, Bool, Result, Ok, Err, nat_lt, length, if◌then◌else◌}
use Rattle.std.specs.BTreeSet.{insert_key}
use Rattle.std.specs.Cmp.Lexicographic.{slice_cmp}
use Rattle.std.specs.List.{filter_map, list_any}
use Rattle.std.specs.Option.{option_map}
use Rattle.std.specs.Ordering.{nat_cmp}
use Rattle.std.specs.Str.{bytes_eq}
use Rattle.rv_image_types.specs.declared.images.Symbol.{Symbol}
use Rattle.rv_image_types.specs.Limits.{most_symbols_in_two}
use Rattle.rv_asm_tokens.specs.declared.fault.AsmFaultKind.{AsmFaultKind}
use Rattle.rv_asm_tokens.specs.declared.fault.AsmFaultKind.TheVariants as kinds
use Rattle.rv_asm_tokens.specs.Fault.{if_some}
use Rattle.rv_asm_statements.specs.declared.directives.Directive.{Directive}
use Rattle.rv_asm_statements.specs.declared.directives.Directive.TheVariants as directive
use Rattle.rv_asm_statements.specs.declared.statements.Statement.{Statement}
use Rattle.rv_asm_statements.specs.declared.statements.Statement.TheVariants.{Directive as Directed}
use Rattle.rv_asm_lines.specs.Resolved.{address_in}

-- the name that a statement gives, if it is a `.globl`
abbrev pub directive_global : Directive → Option (List ℕ)
directive_global (directive.Global w) = Some w
directive_global _ = None

abbrev pub global_of : Statement → Option (List ℕ)
global_of (Directed d) = directive_global d
global_of _ = None

-- no source gives more names
abbrev pub most_globals : ℕ
most_globals = most_symbols_in_two

abbrev pub is_global : List ℕ → List (List ℕ) → Bool
is_global w names = list_any (bytes_eq w) names

-- a name at its place in the byte order, if it isn't there
abbrev pub with_global : List ℕ → List (List ℕ) → Result (List (List ℕ)) AsmFaultKind
with_global w names =
    if is_global w names then Ok names
    else (if nat_lt (length names) most_globals then Ok (insert_key (slice_cmp nat_cmp) names w)
    else Err kinds.Limit)

-- the names behind a statement
abbrev pub globals_behind : Statement → List (List ℕ) → Result (List (List ℕ)) AsmFaultKind
globals_behind stated names = if_some (global_of stated) (Ok names) (λ w. with_global w names)

-- a name with the address of its label
abbrev pub symbol_of_label : List (List ℕ × ℕ) → List ℕ → Option Symbol
symbol_of_label labels w = option_map (λ at. record { name = w; address = at }) (address_in w labels)

-- the symbols of names, in their order
abbrev pub symbols_of : List (List ℕ × ℕ) → List (List ℕ) → List Symbol
symbols_of labels names = filter_map (symbol_of_label labels) names
