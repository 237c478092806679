use Rattle.std.proofs.Common.{refl}
use Rattle.cl_replay.proofs.Asks.{look_out}
use Rattle.cl_state.specs.Room.{rank_of}
use Rattle.cl_replay.proofs.turns.miss.Goals as goal

pub tell-requires-clause-nothing_out : goal.tell-requires-clause-nothing_out
tell-requires-clause-nothing_out c =
    look_out (rank_of c.args.state.now) c.hart-hart.result c.next-doing.result c.next-doing.ensures.spelled c.in-Ok.ask
    c.in-Ok.ensures (c.if-not-is_look.ensures.0 refl)
