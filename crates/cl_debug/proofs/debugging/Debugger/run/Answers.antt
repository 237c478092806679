use Rattle.std.proofs.Common.{◌≡◌, arith, length, refl, subst}
use Rattle.std.proofs.lemmas.Result.{err_from_is_err_and}
use Rattle.cl_debug.specs.Debugging.{Debugging, at_place}
use Rattle.cl_debug.specs.Leads.{LeadFaultHolds}
use Rattle.cl_debug.specs.Places.{IsStop}
use Rattle.cl_debug.proofs.Led.{copy_reached, only_memory}
use Rattle.cl_debug.proofs.Stopping.{stop_inside, stops_by}
use Rattle.cl_debug.proofs.debugging.Debugger.run.Goals as goal

pub returns-in_err-place-clause-fault : goal.returns-in_err-place-clause-fault
returns-in_err-place-clause-fault c =
    let d = c.self.inside in
    let steps = d.steps.items in
    let copy = c.in_ok-state.state in
    let steps_are : c.as_slice.result.now ≡ steps = (cc (c.as_slice.ensures.value)) in
    let here = copy_reached steps d.place d.state copy c.in_ok-state.ensures.stands d.image c.self.invariant.here in
    let p = err_from_is_err_and c.from_residual-in_err-place.result c.from_residual-in_err-place.ensures.1 in
    rw (p.1, p.2)
    (only_memory d.image steps d.place copy (length steps) c.self.invariant.run here (omega arith)
    c.in_err-place.field-0.0
    (subst (λ xs. LeadFaultHolds xs d.place copy (length xs) c.in_err-place.field-0.0) steps_are
    c.in_err-place.ensures.fault))

pub invariant_of-self : goal.invariant_of-self
invariant_of-self c =
    let d = c.self.inside in
    let steps = d.steps.items in
    let breaks = d.breaks.items in
    let copy = c.in_ok-state.state in
    let to = c.in_ok-place.place in
    let here = copy_reached steps d.place d.state copy c.in_ok-state.ensures.stands d.image c.self.invariant.here in
    let stops = stops_by steps c.as_slice.result.now breaks c.as_slice-2.result.now d.place copy to c.run_on.new.state
    (cc (c.as_slice.ensures.value)) (cc (c.as_slice-2.ensures.value)) c.in_ok-place.ensures.stops in
    let stop = stops d.image here in
    record {
      run = c.self.invariant.run;
      inside = stop_inside d.image steps breaks d.place to stop.1;
      here = stop.0;
      spaced = c.self.invariant.spaced;
      kept_there = c.self.invariant.kept_there;
    }

pub returns-clause-stopped : goal.returns-clause-stopped
returns-clause-stopped c =
    let d = c.self.inside in
    let steps = d.steps.items in
    let breaks = d.breaks.items in
    let copy = c.in_ok-state.state in
    let to = c.in_ok-place.place in
    let here = copy_reached steps d.place d.state copy c.in_ok-state.ensures.stands d.image c.self.invariant.here in
    let stops = stops_by steps c.as_slice.result.now breaks c.as_slice-2.result.now d.place copy to c.run_on.new.state
    (cc (c.as_slice.ensures.value)) (cc (c.as_slice-2.ensures.value)) c.in_ok-place.ensures.stops in
    let stop = stops d.image here in (
      subst (λ (x : Debugging). IsStop x.image x.steps x.breaks x.place to) c.self.view_is stop.1,
      subst (λ (x : Debugging). record { image = d.image; steps = steps; place = to; breaks = breaks } ≡ at_place x to)
          c.self.view_is refl,
    )
