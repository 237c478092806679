use Rattle.std.proofs.Common.{◌≡◌, ◌+◌, ◌∙◌, ap, arith, refl, subst}
use Rattle.std.proofs.lemmas.Option.{slice_get_read}
use Rattle.std.specs.Vec.{with_item}
use Rattle.rv_hart.specs.State.{State}
use Rattle.rv_memory.specs.Memory.{Memory}
use Rattle.cl_state.specs.Room.{rank_of}
use Rattle.cl_rank.specs.Plains.{IsHartStep, Repeats}
use Rattle.cl_rank.proofs.HartSteps.{hart_steps}
use Rattle.cl_plain.proofs.Unstepped.{unstepped}
use Rattle.cl_rank.proofs.plains.step_plains.Goals as goal

pub returns-clause-steps : goal.returns-clause-steps
returns-clause-steps c =
    let state = c.args.state.now in
    let hart = c.index_mut.result.now in
    let there = slice_get_read state.harts.items _ c.args.hart hart state.harts.ok.0 c.requires.hart
    c.index_mut.ensures.value in
    hart_steps c.step_hart-done.result (rank_of state) c.args.hart (hart, state.memory)
    (c.step_hart-done.new.hart, c.step_hart-done.new.memory) (record { there = there; memory = refl })
    c.step_hart-done.ensures.steps

pub returns-clause-none : goal.returns-clause-none
returns-clause-none c = λ none.
    let state = c.args.state.now in
    let hart = c.index_mut.result.now in
    let at = c.step_hart-done.new.hart in
    let memory = c.step_hart-done.new.memory in
    let same = subst (λ n. Repeats IsHartStep n (hart, state.memory) (at, memory)) none c.step_hart-done.ensures.steps in
    let clock : state.clock + c.step_hart-done.result ≡ state.clock = omega (arith, none) in
    ap (λ n. record state { memory = memory; harts = with_item state.harts c.args.hart at; clock = n }) clock
    ∙ unstepped state c.args.hart hart at memory c.index_mut.ensures.value (ap (λ (p : State × Memory). p.0) same)
    (ap (λ (p : State × Memory). p.1) same)
