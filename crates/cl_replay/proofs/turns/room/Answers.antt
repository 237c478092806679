use Rattle.std.proofs.Common.{refl, subst}
use Rattle.cl_state.specs.Room.{rank_of}
use Rattle.cl_deeds.specs.Memory.{LacksPages}
use Rattle.cl_replay.proofs.Asks.{positive}
use Rattle.cl_replay.proofs.turns.room.Goals as goal

pub returns-in-Err-clause-fault : goal.returns-in-Err-clause-fault
returns-in-Err-clause-fault c = (
  refl,
  subst (LacksPages (rank_of c.args.state.now)) c.hart.ensures
      (positive _ (λ none. let never = c.in-Err.ensures.sure c.requires.nothing_out none in cc)),
)
