use Rattle.cl_explore.proofs.Dives.{chosen_is_next}
use Rattle.cl_explore.proofs.diving.next_turn.Goals as goal

pub returns : goal.returns
returns c =
    chosen_is_next c.args.course.now.order.now c.args.live.now c.args.rank c.in-Some.hart c.in_ok-turns.turns.items _
    c.chosen.result c.in-Some.ensures c.in_ok-turns.ensures.own c.chosen.ensures
