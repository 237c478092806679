use Rattle.std.proofs.Common.{List, arith, subst, ◌-◌, ◌∙◌}
use Rattle.cl_machine.specs.declared.steps.Step.{Step}
use Rattle.cl_explore.proofs.Lists.{read_of}
use Rattle.rvmc_explore.specs.InnerRecorded.{IsInOrder}
use Rattle.rvmc_explore.proofs.ToEnds.{numbered_none, numbered_some}
use Rattle.rvmc_explore.proofs.recording.record_in.Goals as goal

pub returns-then-before-told : goal.returns-then-before-told
returns-then-before-told c =
    numbered_none c.args.told.now c.args.number (c.args.number - 1) (omega (arith, c.if-number-eq0.false))
    (omega (arith, c.if-before-told.true))

pub returns : goal.returns
returns c =
    let told = c.args.told.now in
    let before = c.args.number - 1 in
    let one = c.index-told-before.result in (
      one,
      numbered_some told c.args.number before one (omega (arith, c.if-number-eq0.false))
          (read_of told before one (omega (arith, c.if-before-told.false)) c.index-told-before.is),
      subst (λ (turns : List Step). IsInOrder turns c.in_ok-in_order.field-0.items) (c.as_slice.ensures.value ∙ c.in_ok-steps.ensures) c.in_ok-in_order.ensures,
    )
