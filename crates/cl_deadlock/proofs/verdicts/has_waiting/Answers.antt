use Rattle.std.proofs.Common.{arith}
use Rattle.cl_state.specs.Room.{rank_of}
use Rattle.cl_deadlock.proofs.Waits.{waits_within}
use Rattle.cl_deadlock.proofs.verdicts.has_waiting.Goals as goal

pub returns : goal.returns
returns c = (
  λ no. absurd (cc),
  λ some.
      let inside = waits_within (rank_of c.args.own.now) some.0 some.1 in
      absurd (c.loop-number.invariant some.0 (omega (arith, inside, c.loop-number-test.false)) some.1),
)
