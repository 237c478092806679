use Rattle.std.proofs.Common.{◌≡◌, length, subst, arith}
use Rattle.cl_replay.specs.Replaying.{IsReached}
use Rattle.test_cluster.proofs.premises.a_run_is_replayed.Goals as goal

pub returns-in-Ok : goal.returns-in-Ok
returns-in-Ok c =
    let image = c.args.image.now in
    let left = c.in_ok-left.left in
    let state = c.in-Ok.state in
    let law = c.merged_replays_law.ensures image left c.in_ok-left.steps.items c.in_ok-left.ensures.run
    c.in_ok-left.ensures.merge in
    let all : c.len.result ≡ length c.deref.result.now = omega (arith, c.len.ensures, c.deref.ensures.len) in
    let reached = subst (λ n. IsReached image c.deref.result.now n state) all c.in-Ok.ensures.reached in
    law.shows state (subst (λ steps. IsReached image steps (length steps) state) c.deref.ensures.value reached)
