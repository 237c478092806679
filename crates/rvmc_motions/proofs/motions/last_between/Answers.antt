use Rattle.std.proofs.Common.{◌+◌, subst, sym}
use Rattle.rvmc_motions.specs.Walking.{TellsBackward}
use Rattle.rvmc_motions.proofs.Ways.{InBetween, backward_told, between_more}
use Rattle.rvmc_motions.proofs.motions.last_between.Goals as goal

pub loop-n-preserved : goal.loop-n-preserved
loop-n-preserved c =
    let old = c.args.debugger.now in
    let now = c.loop-n.debugger in
    let marks = c.args.marks.now in
    let all = backward_told now marks c.args.mover c.in_ok-turned.turned c.next_stop-next.result
    c.in_ok-turned.ensures.told c.next_stop-next.ensures in
    let told = subst (TellsBackward now marks c.args.mover) (sym c.or.ensures) all in
    subst (λ found. InBetween old marks c.args.mover c.args.from (c.loop-n.n + 1) found c.turn.new.debugger)
    (sym c.later-found.ensures)
    (between_more old marks c.args.mover c.args.from c.loop-n.n c.loop-n.found now c.turn.new.debugger c.or.result
    c.loop-n.invariant c.in_ok-turned.ensures.there told)
