use Rattle.std.specs.Option.{option_map}
use Rattle.std.proofs.Common.{ap, subst}
use Rattle.cl_ending.specs.DeadEnds.{HasAll}
use Rattle.cl_ending.proofs.DeadEnds.{none_stuck, some_free, some_stuck}
use Rattle.cl_ending.proofs.judging.is_stuck.Goals as goal

pub returns-in-None-clause-other : goal.returns-in-None-clause-other
returns-in-None-clause-other c =
    λ no. none_stuck c.args.image.now c.args.left.now _ (ap (option_map (λ ranks. ranks.items)) c.in-None.is)
    c.in_ok-dead_end.ensures

pub returns-in-Some-clause-stuck : goal.returns-in-Some-clause-stuck
returns-in-Some-clause-stuck c =
    λ yes. some_stuck c.args.image.now c.args.left.now _ c.in-Some.ranks.items
    (ap (option_map (λ ranks. ranks.items)) c.in-Some.is) c.in_ok-dead_end.ensures
    (subst (λ l. HasAll l c.args.left.now.stops.items) c.as_slice.ensures.value
    (subst (λ s. HasAll c.as_slice.result.now s) c.as_slice-in-Some.ensures.value (c.has_all.ensures.all yes)))

pub returns-in-Some-clause-other : goal.returns-in-Some-clause-other
returns-in-Some-clause-other c =
    λ no. some_free c.args.image.now c.args.left.now _ c.in-Some.ranks.items
    (ap (option_map (λ ranks. ranks.items)) c.in-Some.is) c.in_ok-dead_end.ensures
    (subst (λ l. ¬ HasAll l c.args.left.now.stops.items) c.as_slice.ensures.value
    (subst (λ s. ¬ HasAll c.as_slice.result.now s) c.as_slice-in-Some.ensures.value (c.has_all.ensures.other no)))
