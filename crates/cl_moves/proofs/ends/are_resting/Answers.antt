use Rattle.std.proofs.Common.{arith, refl}
use Rattle.std.proofs.lemmas.Bool.{iff_false}
use Rattle.cl_state.specs.Room.{rank_of}
use Rattle.cl_moves.specs.Ends.{IsResting}
use Rattle.cl_moves.proofs.Resting.{at_index, below_all, below_on}
use Rattle.cl_moves.proofs.ends.are_resting.Goals as goal

pub returns-then-not-branch : goal.returns-then-not-branch
returns-then-not-branch c = λ image cluster stands.
    let order = c.args.order.now in
    let at = at_index order c.loop-hart.hart-index (omega (arith, c.loop-hart-test.true)) in (
      λ no. absurd (cc),
      λ all. absurd (iff_false (c.in_ok-is_resting.ensures image cluster stands) c.if-not-branch.true
          (all c.loop-hart.hart-index _ at)),
    )

pub loop-hart-preserved : goal.loop-hart-preserved
loop-hart-preserved c = λ image cluster stands.
    let order = c.args.order.now in
    let at = at_index order c.loop-hart.hart-index (omega (arith, c.loop-hart-test.true)) in
    below_on (λ i hart. IsResting cluster c.args.rank (rank_of c.args.own.now) hart) order c.loop-hart.hart-index
    (c.loop-hart.invariant image cluster stands) _ at
    ((c.in_ok-is_resting.ensures image cluster stands).0 c.if-not-branch.false)

pub returns : goal.returns
returns c = λ image cluster stands.
    let order = c.args.order.now in (
      λ its. below_all (λ i hart. IsResting cluster c.args.rank (rank_of c.args.own.now) hart) order
          c.loop-hart.hart-index (c.loop-hart.invariant image cluster stands) (omega (arith, c.loop-hart-test.false)),
      λ all. refl,
    )
