use Rattle.std.proofs.Common.{◌+◌, ◌-◌, ◌∙◌, ap, arith, refl, sym}
use Rattle.rvmc_places.specs.Ways.{leads, way}
use Rattle.rvmc_places.proofs.WayChains.{leads_nowhere, leads_on, leads_out, too_long}
use Rattle.rvmc_places.proofs.ways.way.Goals as goal

pub loop-step-init : goal.loop-step-init
unfolding way
loop-step-init c = refl

pub returns-in-Lost : goal.returns-in-Lost
returns-in-Lost c =
    let l = c.loop-step in
    sym (l.invariant ∙ leads_nowhere c.args.memory.now (512 - l._step) l.next c.in-Lost.is)

pub returns-in-Out : goal.returns-in-Out
returns-in-Out c =
    let l = c.loop-step in
    c.led.ensures
    ∙ sym (l.invariant ∙ leads_out c.args.memory.now (512 - l._step) l.next c.in-Out.hart c.in-Out.is)

pub loop-step-preserved : goal.loop-step-preserved
loop-step-preserved c =
    let l = c.loop-step in
    let memory = c.args.memory.now in
    l.invariant ∙ leads_on memory l._step l.next c.in-On.spot (omega (arith, c.loop-step-test.true)) c.in-On.is
    ∙ ap (leads memory (512 - (l._step + 1))) (sym c.advanced-next.ensures)

pub returns-in-Out-next : goal.returns-in-Out-next
returns-in-Out-next c =
    let l = c.loop-step in
    c.led-in-Out-next.ensures
    ∙ sym (l.invariant ∙ leads_out c.args.memory.now (512 - l._step) l.next c.in-Out-next.hart c.in-Out-next.is)

pub returns-in-On-next : goal.returns-in-On-next
returns-in-On-next c =
    let l = c.loop-step in
    sym (l.invariant
    ∙ too_long c.args.memory.now l._step l.next c.in-On-next.field-0 (omega (arith, c.loop-step-test.false)) c.in-On-next.is)

pub returns-in-Lost-next : goal.returns-in-Lost-next
returns-in-Lost-next c =
    let l = c.loop-step in
    sym (l.invariant ∙ leads_nowhere c.args.memory.now (512 - l._step) l.next c.in-Lost-next.is)
