use Rattle.std.proofs.Common.{sym, subst, arith}
use Rattle.std.proofs.lemmas.Bool.{iff_false}
use Rattle.cl_deadlock_laws.specs.Stuck.{SomeWaits}
use Rattle.cl_deadlock.proofs.Told.{count_is}
use Rattle.cl_deadlock.proofs.Waits.{waits_in}
use Rattle.cl_deadlock.proofs.verdicts.deadlock.Goals as goal

pub returns-then-some_waits : goal.returns-then-some_waits
returns-then-some_waits c = λ image cluster is.
    let told = c.in_ok-ranks.ensures in
    let waits = (c.some_waits.ensures image cluster is.stands).0 c.if-some_waits.true in
    record {
      are_ranks = λ r among.
          let low = told.ranks r among in
          let same = count_is image c.args.state.now cluster is.stands in
          omega (arith, low, same);
      rising = told.rising;
      stuck = told.stuck image cluster is.stands;
      most = told.most image cluster is;
      deadlock = told.deadlock image cluster is.stands is.reached
          (subst (λ xs. SomeWaits xs cluster) c.as_slice.ensures.value waits);
    }

pub returns-else-some_waits : goal.returns-else-some_waits
returns-else-some_waits c = λ image cluster is others ranks stuck waits.
    let told = c.in_ok-ranks.ensures in
    iff_false (c.some_waits.ensures image cluster is.stands) c.if-some_waits.false
    (subst (λ xs. SomeWaits xs cluster) (sym c.as_slice.ensures.value)
    (waits_in others c.in_ok-ranks.ranks.items cluster (told.most image cluster is others ranks stuck) waits))
