-- What a call that ends changes.
use Rattle.std.proofs.Common.{◌≡◌, ◌∙◌, ℕ, List, get_or, length, refl, ap, set, arith}
use Rattle.std.specs.Prelude.{◌≢◌, ◌==◌, if◌then◌else◌}
use Rattle.std.proofs.Math.ListN.{length-set}
use Rattle.std.proofs.lemmas.List.{get_or-set_same, get_or-set_other}
use Rattle.rv_hart.specs.State.{State}
use Rattle.mp_types.specs.Codes.{code_number}
use Rattle.mp_types.specs.declared.codes.Code.{Code}
use Rattle.cl_state.specs.Asked.{part_of, asked, asked_in}
use Rattle.cl_state.specs.Told.{returned, told, told_in, with_part}
use Rattle.cl_state_laws.specs.Laws.{IsReturned, RefusalLaw, ReturnLaw}
use Rattle.cl_state_laws.proofs.Registers.{registers}

pub refused : RefusalLaw
unfolding told asked returned
refused rank hart code answer stamp is = record {
  asks = ap (asked_in rank.site rank.memory rank.requests rank.phases) is;
  leaves = ap (λ d. with_part rank hart (told_in rank.site hart d answer (part_of rank hart)) stamp) is;
}

-- two registers were set, one after the other
two_set : (regs : List ℕ) (a b register : ℕ) → register ≢ 10 → register ≢ 11
    → get_or (set (set regs 10 a) 11 b) register 0 ≡ get_or regs register 0
two_set regs a b register first second =
    get_or-set_other (set regs 10 a) 11 register b 0 second ∙ get_or-set_other regs 10 register a 0 first

other_read : (regs : List ℕ) (a b register : ℕ) → register ≢ 10 → register ≢ 11
    → (if (register == 0) then 0 else get_or (set (set regs 10 a) 11 b) register 0) ≡
    (if (register == 0) then 0 else get_or regs register 0)
other_read regs a b register first second =
    ap (λ (x : ℕ). if (register == 0) then 0 else x) (two_set regs a b register first second)

returns_so : (c : Code) (v : ℕ) (hart : State) → length hart.regs ≡ 32 → IsReturned c v hart (returned c v hart)
unfolding returned
returns_so c v hart long = record {
  code =
      get_or-set_other (set hart.regs 10 (code_number c)) 11 10 v 0
      (λ same. omega (arith, same)) ∙ get_or-set_same hart.regs 10 (code_number c) 0 (omega (arith, long));
  value =
      get_or-set_same (set hart.regs 10 (code_number c)) 11 v 0
      (omega (arith, long, length-set hart.regs 10 (code_number c)));
  others = other_read hart.regs (code_number c) v;
  pc = refl;
}

pub returns : ReturnLaw
returns c v rank hart is there = returns_so c v (part_of rank hart).hart (registers.reached rank is hart there)
