use Rattle.std.proofs.Common.{refl, sym, ◌∙◌}
use Rattle.cl_state.specs.declared.asking.Ask.TheVariants as ask
use Rattle.cl_state.specs.Room.{rank_of}
use Rattle.cl_replay.proofs.Asks.{nothing_out}
use Rattle.cl_replay.proofs.turns.freed.Goals as goal

pub tell-requires-clause-nothing_out : goal.tell-requires-clause-nothing_out
tell-requires-clause-nothing_out c =
    nothing_out (rank_of c.args.state.now) c.hart-hart.result c.next-doing.result c.next-doing.ensures.spelled
    (ask.Freed c.in-Freed.link c.in-Freed.part) (sym c.in-Ok.ensures ∙ c.in-Freed.is) refl
