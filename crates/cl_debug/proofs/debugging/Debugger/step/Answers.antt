use Rattle.std.proofs.Common.{◌<◌, arith, length, refl, subst}
use Rattle.std.proofs.lemmas.Option.{slice_get_read}
use Rattle.cl_replay.proofs.Runs.{reached_more}
use Rattle.cl_replay.specs.Steps.{StepFaultHolds}
use Rattle.cl_debug.proofs.Led.{never_nowhere}
use Rattle.cl_debug.proofs.debugging.Debugger.step.Goals as goal

-- the steps of a debugger are a run
pub unreachable-requires : goal.unreachable-requires
unreachable-requires c =
    let d = c.self.inside in
    let steps = d.steps.items in
    let e = c.index.result.now in
    let below : d.place < length steps = omega (arith, c.if-self-len.false, c.len.ensures) in
    let there = slice_get_read steps (length steps) d.place e refl below c.index.ensures in
    never_nowhere d.image steps d.place d.state c.self.invariant.run c.self.invariant.here e there
    (subst (StepFaultHolds d.state e) c.in-Err-NotAStep.field-0-is c.in-Err-NotAStep.ensures.fault)

pub invariant_of-self : goal.invariant_of-self
invariant_of-self c =
    let d = c.self.inside in
    let steps = d.steps.items in
    let e = c.index.result.now in
    let below : d.place < length steps = omega (arith, c.if-self-len.false, c.len.ensures) in
    let there = slice_get_read steps (length steps) d.place e refl below c.index.ensures in
    record {
      run = c.self.invariant.run;
      inside = omega (arith, below);
      here = reached_more d.image steps d.place d.state c.self.invariant.here e there c.step.new.self c.in-Ok.ensures.leads;
      spaced = c.self.invariant.spaced;
      kept_there = c.self.invariant.kept_there;
    }
