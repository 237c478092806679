-- What a source says of the whole image, each thing once; and how many communicators and links it has.
use Rattle.std.specs.Prelude.{ℕ, ◌+◌, true, false, Option, Some, None, Result, Ok, Err, nat_lt, unwrap_or}
use Rattle.std.specs.Prelude.{if◌then◌else◌}
use Rattle.rv_image_types.specs.Limits.{most_comms, most_links}
use Rattle.rv_asm_tokens.specs.declared.fault.AsmFaultKind.{AsmFaultKind}
use Rattle.rv_asm_tokens.specs.declared.fault.AsmFaultKind.TheVariants as kinds
use Rattle.rv_asm_tokens.specs.Fault.{◌>>=◌}
use Rattle.rv_asm_statements.specs.declared.directives.Directive.{Directive}
use Rattle.rv_asm_statements.specs.declared.directives.Directive.TheVariants as directive
use Rattle.rv_asm_statements.specs.declared.statements.Statement.{Statement}
use Rattle.rv_asm_statements.specs.declared.statements.Statement.TheVariants.{Directive as Directed}
use Rattle.rv_asm_lines.specs.declared.fields.Fields.{Fields}

abbrev pub no_fields : Fields
no_fields = record { ranks = None; harts = None; memory = None; has_entry = false; comms = 0; links = 0 }

-- what is given, or else one rank of one hart with 65,536 bytes
abbrev pub ranks_of : Fields → ℕ
ranks_of f = unwrap_or f.ranks 1

abbrev pub harts_of : Fields → ℕ
harts_of f = unwrap_or f.harts 1

abbrev pub memory_of : Fields → ℕ
memory_of f = unwrap_or f.memory 65536

-- a field that wasn't given before
abbrev pub once : {A : Type 0} → Option A → A → Result (Option A) AsmFaultKind
once None x = Ok (Some x)
once (Some y) x = Err kinds.Directive

-- one more of at most so many
abbrev pub counted_on : ℕ → ℕ → Result ℕ AsmFaultKind
counted_on most n = if nat_lt n most then Ok (n + 1) else Err kinds.Limit

-- the fields behind a directive
unfoldable pub fields_after : Directive → Fields → Result Fields AsmFaultKind
fields_after (directive.Ranks n) f = once f.ranks n >>= λ x. Ok (record f { ranks = x })
fields_after (directive.Harts n) f = once f.harts n >>= λ x. Ok (record f { harts = x })
fields_after (directive.Memory n) f = once f.memory n >>= λ x. Ok (record f { memory = x })
fields_after (directive.Entry w) f = if f.has_entry then Err kinds.Directive else Ok (record f { has_entry = true })
fields_after (directive.Comm ranks) f = counted_on most_comms f.comms >>= λ n. Ok (record f { comms = n })
fields_after (directive.Link from to) f = counted_on most_links f.links >>= λ n. Ok (record f { links = n })
fields_after _ f = Ok f

-- the fields behind a statement
abbrev pub fields_behind : Statement → Fields → Result Fields AsmFaultKind
fields_behind (Directed d) f = fields_after d f
fields_behind _ f = Ok f
