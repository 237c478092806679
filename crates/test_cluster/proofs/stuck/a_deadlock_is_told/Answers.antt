use Rattle.std.specs.Prelude.{IsSomeAnd}
use Rattle.std.specs.Option.{option_map}
use Rattle.mp_wait_laws.specs.Waits.{OnlyOf}
use Rattle.cl_deadlock_laws.specs.Stuck.{is_among}
use Rattle.cl_deadlock.specs.Why.{IsDeadlockVerdict}
use Rattle.test_cluster.proofs.Stopping.{of_ok, told}
use Rattle.test_cluster.proofs.stuck.a_deadlock_is_told.Goals as goal

pub returns : goal.returns
returns c = λ image cluster ranks is are stuck waits.
    of_ok c.deadlock.result (λ found. IsDeadlockVerdict c.args.state.now (option_map (λ v. v.items) found))
    (λ found. IsSomeAnd found (λ v. OnlyOf (is_among v.items) (is_among ranks)))
    (λ found verdict. told found (λ v. v.items) cluster ranks are stuck waits (verdict image cluster is)) c.deadlock.ensures
