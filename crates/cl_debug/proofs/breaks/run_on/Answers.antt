use Rattle.std.proofs.Common.{◌≡◌, arith, length, subst}
use Rattle.cl_debug.specs.Stops.{StopsAt}
use Rattle.cl_debug.proofs.Stopping.{ran_end, ran_more, ran_stop}
use Rattle.cl_debug.proofs.breaks.run_on.Goals as goal

pub returns-then-is_break_place-clause-stops : goal.returns-then-is_break_place-clause-stops
returns-then-is_break_place-clause-stops c =
    ran_stop c.args.steps.now c.args.breaks.now c.args.from c.args.state.now c.loop-n.n c.loop-n.state
    c.loop-n.invariant
    c.advance.new.state (omega arith) c.in_ok-advance.ensures.leads
    (c.is_break_place.ensures.stops c.if-is_break_place.true)

pub loop-n-preserved : goal.loop-n-preserved
loop-n-preserved c =
    ran_more c.args.steps.now c.args.breaks.now c.args.from c.args.state.now c.loop-n.n c.loop-n.state
    c.loop-n.invariant
    c.advance.new.state c.in_ok-advance.ensures.leads (c.is_break_place.ensures.goes_on c.if-is_break_place.false)

pub returns-clause-stops : goal.returns-clause-stops
returns-clause-stops c =
    let steps = c.args.steps.now in
    let end : c.loop-n.n ≡ length steps = omega arith in
    let stop = ran_end steps c.args.breaks.now c.args.from c.args.state.now c.loop-n.n c.loop-n.state
    c.loop-n.invariant end in
    subst (λ to. StopsAt steps c.args.breaks.now c.args.from c.args.state.now to c.loop-n.state)
    end stop
