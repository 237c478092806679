use Rattle.std.proofs.Common.{◌≡◌, arith, subst, length}
use Rattle.cl_replay.specs.Replays.{IsRunUpTo}
use Rattle.cl_replay.specs.Replaying.{IsReached}
use Rattle.cl_debug.specs.Leads.{AreKept}
use Rattle.cl_debug.specs.Spacing.{IsSpacing}
use Rattle.cl_debug.proofs.debugging.Debugger.open.Goals as goal

pub invariant_of-result : goal.invariant_of-result
invariant_of-result c =
    let image = c.args.image in
    let steps = c.args.steps.items in
    let spacing = c.spacing_for-spacing.result in
    let steps_are : c.as_slice.result.now ≡ steps = (cc (c.as_slice.ensures.value)) in
    let len_is : c.len.result ≡ length steps = omega (arith, c.len.ensures) in
    record {
      run = subst (λ xs. IsRunUpTo image xs (length xs)) steps_are c.in_ok-kept.ensures.run;
      inside = omega arith;
      here = subst (λ xs. IsReached image xs 0 c.in_ok-kept.state) steps_are c.in_ok-kept.ensures.first;
      spaced = subst (λ n. IsSpacing n spacing) len_is c.spacing_for-spacing.ensures;
      kept_there = subst (λ xs. AreKept image xs spacing c.in_ok-kept.kept.items) steps_are c.in_ok-kept.ensures.kept;
    }
