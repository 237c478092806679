use Rattle.std.proofs.Common.{◌≡◌, length, subst}
use Rattle.std.proofs.lemmas.Result.{err_from_is_err_and}
use Rattle.cl_replay.specs.Replays.{IsRunUpTo}
use Rattle.cl_debug.specs.Debugging.{Debugging}
use Rattle.cl_replay.specs.Walking.{LeadsOn}
use Rattle.cl_debug.specs.Leads.{LeadFaultHolds}
use Rattle.cl_debug.proofs.Led.{only_memory}
use Rattle.cl_debug.proofs.debugging.Debugger.led.Goals as goal

pub returns-in_err-advance-clause-fault : goal.returns-in_err-advance-clause-fault
returns-in_err-advance-clause-fault c =
    let now = c.args.self.now in
    let state = c.in_ok-state.state in
    let run = subst (λ (d : Debugging). IsRunUpTo d.image d.steps (length d.steps)) c.self.view_is
    c.self.invariant.run in
    let steps_are : c.as_slice.result.now ≡ now.steps = cc in
    let here = c.requires.starts state c.in_ok-state.ensures in
    let p = err_from_is_err_and c.from_residual-in_err-advance.result c.from_residual-in_err-advance.ensures.1 in
    rw (p.1, p.2)
    (only_memory now.image now.steps c.args.from state c.args.to run here c.requires.within c.in_err-advance.field-0.0
    (subst (λ steps. LeadFaultHolds steps c.args.from state c.args.to c.in_err-advance.field-0.0) steps_are
    c.in_err-advance.ensures.fault))

pub returns-clause-reached : goal.returns-clause-reached
returns-clause-reached c =
    let now = c.args.self.now in
    let state = c.in_ok-state.state in
    let steps_are : c.as_slice.result.now ≡ now.steps = cc in
    let here = c.requires.starts state c.in_ok-state.ensures in
    subst (λ steps. LeadsOn steps c.args.from state c.args.to c.advance.new.state) steps_are
    c.in_ok-advance.ensures.leads now.image here
