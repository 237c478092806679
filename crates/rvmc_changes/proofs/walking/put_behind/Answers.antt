use Rattle.std.proofs.Common.{◌≢◌, None, Option, subst}
use Rattle.std.specs.Prelude.{IfSome}
use Rattle.cl_state.specs.Room.{rank_of}
use Rattle.rvmc_changes.specs.Changes.{hart_in}
use Rattle.rvmc_changes.specs.Walking.{IsBefore, IsChangeIn}
use Rattle.rvmc_changes.specs.declared.before.Before.{Before}
use Rattle.rvmc_changes.specs.declared.steps.Change.{Change}
use Rattle.rvmc_changes.proofs.Walked.{looked}
use Rattle.rvmc_changes.proofs.walking.put_behind.Goals as goal

pub returns-clause-adds : goal.returns-clause-adds
returns-clause-adds c = λ s t is_before t_there s_hart t_hart.
    let e = c.args.step.now in
    let known = subst (λ (b : Option Before). IsBefore e (rank_of s) b) c.in-Some.is is_before in
    let made = subst (λ (o : Option Change).
    IfSome o (IsChangeIn e c.in-Some.before (rank_of t) (hart_in e (rank_of t))) × (o ≢ None)) c.in-Some-2.is
    (c.in_ok-change.ensures t t_there t_hart) in
    record {
      change = c.in-Some-2.change;
      is = looked e (rank_of s) (rank_of t) c.in-Some.before c.in-Some-2.change known made.0;
      added = c.in_ok-push.ensures.items;
    }
