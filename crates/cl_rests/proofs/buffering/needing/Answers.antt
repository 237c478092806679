use Rattle.std.proofs.Common.{sym, subst, arith}
use Rattle.cl_deadlock.proofs.Told.{count_is}
use Rattle.cl_rest_laws.specs.Buffering.{SomeRests}
use Rattle.cl_rests.specs.Held.{IsNodeOf, TellsRest}
use Rattle.cl_rests.proofs.Held.{rests_in_more}
use Rattle.cl_rests.proofs.buffering.needing.Goals as goal

pub returns-then-branch : goal.returns-then-branch
returns-then-branch c = λ image here right reached stands one.
    let is : IsNodeOf image c.args.standing.now here =
    record { right = right; reached = reached; stands = stands; one = one } in
    let told = c.in_ok-ranks.ensures in
    let rests = subst (TellsRest c.as_slice.result.now c.args.standing.now) c.if-branch.true c.in_ok-some_rests.ensures in
    record {
      are_ranks = λ r among.
          let low = told.ranks r among in
          let same = count_is image c.args.standing.now.cluster here.cluster stands.stands in
          omega (arith, low, same);
      rising = told.rising;
      need = record {
        held = told.held image here is;
        some = subst (λ xs. SomeRests xs here.cluster) c.as_slice.ensures.value (rests image here is);
      };
      most = told.most image here is;
    }

pub returns-else-branch : goal.returns-else-branch
returns-else-branch c = λ image here right reached stands one ranks are need.
    let is : IsNodeOf image c.args.standing.now here =
    record { right = right; reached = reached; stands = stands; one = one } in
    let told = c.in_ok-ranks.ensures in
    let none = subst (TellsRest c.as_slice.result.now c.args.standing.now) c.if-branch.false c.in_ok-some_rests.ensures in
    none image here is
    (subst (λ xs. SomeRests xs here.cluster) (sym c.as_slice.ensures.value)
    (rests_in_more ranks c.in_ok-ranks.ranks.items here.cluster (told.most image here is ranks are need.held) need.some))
