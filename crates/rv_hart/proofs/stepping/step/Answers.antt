use Rattle.std.proofs.Common.{◌∙◌, sym, subst}
use Rattle.rv_hart.specs.declared.stores.StoreRange.{StoreRange}
use Rattle.rv_hart.specs.Stores.{IsThere}
use Rattle.rv_hart.proofs.Fetched.{by_table, fits, on_ok, only_table, steps, stores}
use Rattle.rv_hart.proofs.stepping.step.Goals as goal

pub execute-requires : goal.execute-requires
execute-requires c = fits c.args.hart.now c.args.memory.now c.in-Some.instr c.pc.ensures c.in-Some.ensures

pub returns-in-Some-clause-takes_no_memory : goal.returns-in-Some-clause-takes_no_memory
returns-in-Some-clause-takes_no_memory c = λ there.
    c.execute.ensures.takes_no_memory
    (subst (λ (r : StoreRange). IsThere c.args.memory.now r)
    (sym (stores c.args.hart.now c.args.memory.now c.in-Some.instr c.pc.ensures c.in-Some.ensures)) there)

pub returns-in-Some-clause-effect : goal.returns-in-Some-clause-effect
returns-in-Some-clause-effect c =
    on_ok c.execute.result
    (λ did is. is ∙ steps c.args.hart.now c.args.memory.now c.in-Some.instr c.pc.ensures c.in-Some.ensures) c.execute.ensures.effect

pub returns-in-Some-clause-table : goal.returns-in-Some-clause-table
returns-in-Some-clause-table c =
    on_ok c.execute.result
    (λ did is. by_table c.args.hart.now c.args.memory.now _
    (is ∙ steps c.args.hart.now c.args.memory.now c.in-Some.instr c.pc.ensures c.in-Some.ensures)) c.execute.ensures.effect

pub returns-in-Some-clause-only : goal.returns-in-Some-clause-only
returns-in-Some-clause-only c =
    on_ok c.execute.result
    (λ did is end allowed. only_table c.args.hart.now c.args.memory.now end allowed
    ∙ sym (is ∙ steps c.args.hart.now c.args.memory.now c.in-Some.instr c.pc.ensures c.in-Some.ensures))
    c.execute.ensures.effect

pub returns-in-None-clause-table : goal.returns-in-None-clause-table
returns-in-None-clause-table c =
    on_ok c.step_word.result (λ did is. by_table c.args.hart.now c.args.memory.now _ is) c.step_word.ensures.effect

pub returns-in-None-clause-only : goal.returns-in-None-clause-only
returns-in-None-clause-only c =
    on_ok c.step_word.result
    (λ did is end allowed. only_table c.args.hart.now c.args.memory.now end allowed ∙ sym is) c.step_word.ensures.effect
