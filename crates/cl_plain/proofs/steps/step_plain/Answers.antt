use Rattle.std.proofs.Common.{◌≡◌, ◌∙◌, sym, ap, subst}
use Rattle.std.specs.Prelude.{true}
use Rattle.rv_hart.specs.State.{State}
use Rattle.rv_hart.specs.Stores.{IsThere, store_range}
use Rattle.rv_memory.specs.Access.{word_at}
use Rattle.cl_state.specs.Asked.{is_ecall}
use Rattle.cl_plain.proofs.Unstepped.{at_index, unstepped}
use Rattle.cl_plain.proofs.steps.step_plain.Goals as goal

pub returns-then-not-step_running-clause-none : goal.returns-then-not-step_running-clause-none
returns-then-not-step_running-clause-none c = λ undone.
    unstepped c.args.state.now c.args.hart c.index_mut.result.now c.step_running.new.hart c.step_running.new.memory
    c.index_mut.ensures.value (c.if-not-step_running.ensures.same_hart undone)
    (c.if-not-step_running.ensures.same_memory undone)

pub returns-then-not-step_running-clause-other : goal.returns-then-not-step_running-clause-other
returns-then-not-step_running-clause-other c = λ undone at there running here.
    let same = at_index c.args.state.now.harts.items c.args.hart at c.index_mut.result.now there c.index_mut.ensures.value in
    subst (λ (h : State). is_ecall (word_at c.args.state.now.memory h.pc) ≡ true) (sym same)
    (c.if-not-step_running.ensures.other undone (ap (λ (h : State). h.mode) (sym same) ∙ running)
    (subst (λ (h : State). IsThere c.args.state.now.memory (store_range h c.args.state.now.memory)) same here))
