use Rattle.std.proofs.Common.{sym, ap, ◌∙◌}
use Rattle.rv_hart.specs.Effect.{After}
use Rattle.cl_plain.proofs.Called.{left, not_met}
use Rattle.cl_plain.proofs.steps.step_running.Goals as goal

pub returns-in-Call-clause-same_hart : goal.returns-in-Call-clause-same_hart
returns-in-Call-clause-same_hart c = λ _.
    let effect = c.in-Ok.ensures.effect in
    let call = sym (ap (λ (end : After). end.did) effect) ∙ c.in-Call.is in
    ap (λ (end : After). end.state) effect ∙ (left c.args.hart.now c.args.memory.now call).state

pub returns-in-Call-clause-same_memory : goal.returns-in-Call-clause-same_memory
returns-in-Call-clause-same_memory c = λ _.
    let effect = c.in-Ok.ensures.effect in
    let call = sym (ap (λ (end : After). end.did) effect) ∙ c.in-Call.is in
    ap (λ (end : After). end.memory) effect ∙ (left c.args.hart.now c.args.memory.now call).memory

pub returns-in-Call-clause-other : goal.returns-in-Call-clause-other
returns-in-Call-clause-other c = λ _ _ _.
    let call = sym (ap (λ (end : After). end.did) c.in-Ok.ensures.effect) ∙ c.in-Call.is in
    (left c.args.hart.now c.args.memory.now call).ecall

pub returns-in_default-did-clause-no_call : goal.returns-in_default-did-clause-no_call
returns-in_default-did-clause-no_call c = λ _.
    not_met c.args.hart.now c.args.memory.now
    (λ call. c.in_default-did.not-Call (ap (λ (end : After). end.did) c.in-Ok.ensures.effect ∙ call))

pub returns-in_default-did-clause-hart : goal.returns-in_default-did-clause-hart
returns-in_default-did-clause-hart c = λ _. ap (λ (end : After). end.state) c.in-Ok.ensures.effect

pub returns-in_default-did-clause-memory : goal.returns-in_default-did-clause-memory
returns-in_default-did-clause-memory c = λ _. ap (λ (end : After). end.memory) c.in-Ok.ensures.effect
