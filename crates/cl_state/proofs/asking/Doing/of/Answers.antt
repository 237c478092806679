use Rattle.std.proofs.Common.{◌∙◌, ap, sym, false, true}
use Rattle.rv_hart.specs.declared.state.Mode.TheVariants.{Waiting}
use Rattle.rv_hart.specs.declared.state.Wait.TheVariants.{Again, Post}
use Rattle.rv_memory.specs.Access.{word_at}
use Rattle.cl_state.specs.declared.asking.Doing.TheVariants.{Poll}
use Rattle.cl_state.specs.Asked.{is_ecall}
use Rattle.cl_state.proofs.Read.{read_by_mode, read_by_word}
use Rattle.cl_state.proofs.asking.Doing.of.Goals as goal

pub returns-in-Waiting-Post-clause-doing : goal.returns-in-Waiting-Post-clause-doing
returns-in-Waiting-Post-clause-doing c = λ out same.
    let post = c.in-Waiting-Post.post in
    ap (λ call. Poll call post) c.of.ensures
    ∙ read_by_mode (Waiting (Post post)) _ _
    (ap Waiting (sym c.in-Waiting-Post.field-0-is) ∙ sym c.in-Waiting-Post.is ∙ c.mode.ensures)

pub returns-in-Waiting-Again-clause-doing : goal.returns-in-Waiting-Again-clause-doing
returns-in-Waiting-Again-clause-doing c = λ out same.
    c.checked-in-Waiting-Again.ensures.doing out same
    ∙ read_by_mode (Waiting Again) _ _
    (ap Waiting (sym c.in-Waiting-Again.field-0-is) ∙ sym c.in-Waiting-Again.is ∙ c.mode.ensures)

pub returns-in-Ended-clause-doing : goal.returns-in-Ended-clause-doing
returns-in-Ended-clause-doing c = λ out same. read_by_mode _ _ _ (sym c.in-Ended.is ∙ c.mode.ensures)

pub returns-in-Trapped-clause-doing : goal.returns-in-Trapped-clause-doing
returns-in-Trapped-clause-doing c = λ out same. read_by_mode _ _ _ (sym c.in-Trapped.is ∙ c.mode.ensures)

pub returns-then-is_ecall-clause-doing : goal.returns-then-is_ecall-clause-doing
returns-then-is_ecall-clause-doing c = λ out same.
    c.checked.ensures.doing out same
    ∙ read_by_word true _ _
    (sym c.if-is_ecall.true ∙ c.is_ecall.ensures
    ∙ ap is_ecall (c.text_word.ensures ∙ ap (word_at c.args.standing.now.memory.now) c.pc.ensures))
    (sym c.in-Running.is ∙ c.mode.ensures)

pub returns-else-is_ecall-clause-doing : goal.returns-else-is_ecall-clause-doing
returns-else-is_ecall-clause-doing c = λ out same.
    read_by_word false _ _
    (sym c.if-is_ecall.false ∙ c.is_ecall.ensures
    ∙ ap is_ecall (c.text_word.ensures ∙ ap (word_at c.args.standing.now.memory.now) c.pc.ensures))
    (sym c.in-Running.is ∙ c.mode.ensures)
