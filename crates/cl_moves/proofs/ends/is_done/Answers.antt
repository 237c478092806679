use Rattle.std.proofs.Common.{arith, refl}
use Rattle.std.proofs.lemmas.Bool.{iff_false}
use Rattle.cl_state.specs.Room.{rank_of}
use Rattle.cl_state_laws.specs.Vain.{IsStopped, mode_of}
use Rattle.cl_moves.proofs.Resting.{at_index, below_all, below_on, by_places, by_slots}
use Rattle.cl_moves.proofs.ends.is_done.Goals as goal

pub returns-then-not-is_stopped_or_missing : goal.returns-then-not-is_stopped_or_missing
returns-then-not-is_stopped_or_missing c =
    let order = c.args.order.now in
    let at = at_index order c.loop-hart.hart-index (omega (arith, c.loop-hart-test.true)) in (
      λ no. absurd (cc),
      λ done. absurd (iff_false c.is_stopped_or_missing.ensures c.if-not-is_stopped_or_missing.true
          (by_slots (λ hart. IsStopped (mode_of (rank_of c.args.own.now) hart)) order c.requires done
          c.loop-hart.hart-index _ at)),
    )

pub loop-hart-preserved : goal.loop-hart-preserved
loop-hart-preserved c =
    let order = c.args.order.now in
    let at = at_index order c.loop-hart.hart-index (omega (arith, c.loop-hart-test.true)) in
    below_on (λ i hart. IsStopped (mode_of (rank_of c.args.own.now) hart)) order c.loop-hart.hart-index
    c.loop-hart.invariant _ at (c.is_stopped_or_missing.ensures.0 c.if-not-is_stopped_or_missing.false)

pub returns : goal.returns
returns c =
    let order = c.args.order.now in (
      λ its. by_places (λ hart. IsStopped (mode_of (rank_of c.args.own.now) hart)) order c.requires
          (below_all (λ i hart. IsStopped (mode_of (rank_of c.args.own.now) hart)) order c.loop-hart.hart-index
          c.loop-hart.invariant (omega (arith, c.loop-hart-test.false))),
      λ done. refl,
    )
