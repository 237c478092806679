-- Data that no part can hold.
use Rattle.std.proofs.Common.{◌≡◌, ℕ, ◌+◌, ◌*◌, ◌<◌, ◌≤◌, Bool, true, false, List, length, nat_lt, Option, Some, None, Result, Ok, Err, refl, arith, cond}
use Rattle.std.proofs.lemmas.Bool.{lt-ltb, ltb-true}
use Rattle.rv_asm_tokens.specs.declared.fault.AsmFaultKind.{AsmFaultKind}
use Rattle.rv_asm_tokens.specs.declared.fault.AsmFaultKind.TheVariants as kinds
use Rattle.rv_asm_tokens.specs.Fault.{◌>>=◌}
use Rattle.rv_asm_tokens.specs.Returned.{Fails}
use Rattle.rv_asm_tokens.specs.Lexeme.{Lexeme}
use Rattle.rv_asm_statements.specs.declared.directives.Directive.TheVariants as directive
use Rattle.rv_asm_statements.specs.declared.directives.Width.{Width}
use Rattle.rv_asm_statements.specs.declared.directives.Width.TheVariants.{Byte, Half, Word, Double}
use Rattle.rv_asm_statements.specs.declared.filled.Target.{Target}
use Rattle.rv_asm_statements.specs.declared.statements.Statement.{Statement}
use Rattle.rv_asm_statements.specs.declared.statements.Statement.TheVariants as statement
use Rattle.rv_asm_statements.specs.Statements.{statement_of}
use Rattle.rv_asm_statements.specs.LongData.{long_data}
use Rattle.rv_asm_lines.specs.Fields.{fields_after}
use Rattle.rv_asm_lines.specs.Layout.{Layout, at_end, placed}
use Rattle.rv_asm_lines.specs.StatementStep.{statement_step}
use Rattle.rv_asm_lines.specs.Parts.{data_may_stand, width_bytes}

abbrev some_width : Width → Option Width
some_width w = Some w

same_width : (v w : Width) → some_width v ≡ some_width w → v ≡ w
same_width v w e = cc

abbrev refusal : Bool → AsmFaultKind
refusal b = cond b kinds.Limit kinds.Directive

times : (w : Width) (k : ℕ) → k ≤ width_bytes w * k
times Byte k = omega arith
times Half k = omega arith
times Word k = omega arith
times Double k = omega arith

abbrev stepped : ℕ → Layout → Result (Option Statement) AsmFaultKind → Result Layout AsmFaultKind
stepped n s r = r >>= λ stated. placed n s stated

outgrown : (n : ℕ) (s : Layout) (w : Width) (items : List Target) → 1048576 < length items → (b : Bool) → data_may_stand s.part w ≡ b → stepped n s (Ok (Some (statement.Directive (directive.Items w items)))) ≡ Err (refusal b)
unfolding placed fields_after
outgrown n s w items long false e = rw e refl
outgrown n s w items long true e =
    let many = times w (length items) in
    let grows : nat_lt 1048576 (at_end s + width_bytes w * length items) ≡ true = lt-ltb 1048576 (at_end s + width_bytes w * length items) (omega (arith, many, long)) in
    rw (e, grows) refl

long_step : (n : ℕ) (s : Layout) (r : Result (Option Statement) AsmFaultKind) (w : Width) → long_data 1048576 r ≡ Some w → stepped n s r ≡ Err (refusal (data_may_stand s.part w))
long_step n s (Err e) w h = absurd cc
long_step n s (Ok None) w h = absurd cc
long_step n s (Ok (Some (statement.Label v))) w h = absurd cc
long_step n s (Ok (Some (statement.Instruction u))) w h = absurd cc
long_step n s (Ok (Some (statement.Directive (directive.Ranks x)))) w h = absurd cc
long_step n s (Ok (Some (statement.Directive (directive.Harts x)))) w h = absurd cc
long_step n s (Ok (Some (statement.Directive (directive.Memory x)))) w h = absurd cc
long_step n s (Ok (Some (statement.Directive (directive.Entry x)))) w h = absurd cc
long_step n s (Ok (Some (statement.Directive (directive.Comm x)))) w h = absurd cc
long_step n s (Ok (Some (statement.Directive (directive.Link x y)))) w h = absurd cc
long_step n s (Ok (Some (statement.Directive (directive.Bytes x)))) w h = absurd cc
long_step n s (Ok (Some (statement.Directive (directive.Zero x)))) w h = absurd cc
long_step n s (Ok (Some (statement.Directive (directive.Align x)))) w h = absurd cc
long_step n s (Ok (Some (statement.Directive (directive.Global x)))) w h = absurd cc
long_step n s (Ok (Some (statement.Directive directive.Text))) w h = absurd cc
long_step n s (Ok (Some (statement.Directive directive.Data))) w h = absurd cc
long_step n s (Ok (Some (statement.Directive (directive.Items v items)))) w h = go (nat_lt 1048576 (length items)) refl h
  where
    go : (b : Bool) → nat_lt 1048576 (length items) ≡ b → cond b (Some v) None ≡ Some w → stepped n s (Ok (Some (statement.Directive (directive.Items v items)))) ≡ Err (refusal (data_may_stand s.part w))
    go false e k = absurd cc
    go true e k =
        let is : v ≡ w = same_width v w k in
        rw (← is) (outgrown n s v items (ltb-true 1048576 (length items) e) (data_may_stand s.part v) refl)

fails_with : (b : Bool) (r : Result Layout AsmFaultKind) → r ≡ Err (refusal b) → Fails (refusal b) r
fails_with true r h = h
fails_with false r h = h

-- data with more items than a part has bytes is refused
pub long_fails : (n : ℕ) (s : Layout) (ts : List Lexeme) (w : Width) → long_data 1048576 (statement_of ts) ≡ Some w → Fails (refusal (data_may_stand s.part w)) (statement_step n s ts)
long_fails n s ts w h = fails_with (data_may_stand s.part w) (statement_step n s ts) (long_step n s (statement_of ts) w h)
