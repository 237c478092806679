use Rattle.std.proofs.Common.{◌≡◌, ◌<◌, sym, subst, ◌∙◌, arith, get_or, length}
use Rattle.std.specs.List.Sorted.{IsStrictlyIncreasing}
use Rattle.cl_state.specs.Rank.{below}
use Rattle.cl_deadlock_laws.proofs.Runs.{deadlock_law}
use Rattle.cl_deadlock.specs.Stuck.{AreStuckIn, HasStuckIn, IsFreeIn}
use Rattle.cl_deadlock.specs.Why.{AreBelow}
use Rattle.cl_deadlock.proofs.Left.{rising_below, rising_left}
use Rattle.cl_deadlock.proofs.Narrowed.{all_have, all_low, left_have, left_low}
use Rattle.cl_deadlock.proofs.Sizes.{few_ranks}
use Rattle.cl_deadlock.proofs.companies.stuck.Goals as goal

pub returns-then-count-gt255-clause-most : goal.returns-then-count-gt255-clause-most
returns-then-count-gt255-clause-most c = λ image cluster is.
    let few = few_ranks image c.args.state.now cluster is in
    absurd (omega (arith, few, c.if-count-gt255.true, c.len-count.ensures, c.args.state.now.ranks.ok.0))

pub returns-in-None-clause-deadlock : goal.returns-in-None-clause-deadlock
returns-in-None-clause-deadlock c = λ image cluster stands reached waits.
    deadlock_law image cluster c.rest.among.items reached
    (subst (λ xs. AreStuckIn xs c.args.state.now) c.as_slice.ensures.value
    (c.in_ok-free_place.ensures.none c.in-None.is) image cluster stands) waits

pub rest-init : goal.rest-init
rest-init c =
    let ranks = c.args.state.now.ranks in
    let count = c.len-count.result in
    let same = c.in_ok-among.ensures in
    let many : count ≡ length ranks.items = c.len-count.ensures ∙ ranks.ok.0 in
    record {
      ranks = subst (λ xs. AreBelow xs (length ranks.items)) (sym same)
          (subst (AreBelow (below count)) many (all_low count));
      rising = subst IsStrictlyIncreasing (sym same) (rising_below count);
      most = subst (λ xs. HasStuckIn xs c.args.state.now) (sym same) (all_have c.args.state.now count many);
    }

pub rest-preserved : goal.rest-preserved
rest-preserved c =
    let among = c.rest.among.items in
    let place = c.in-Some.place in
    let count = length c.args.state.now.ranks.items in
    let its = c.as_slice.ensures.value in
    let free = subst (λ xs. IsFreeIn xs c.args.state.now (get_or xs place 0)) its
    (c.in_ok-free_place.ensures.free place c.in-Some.is) in
    let inside = subst (λ xs. place < length xs) its (c.in_ok-free_place.ensures.within place c.in-Some.is) in
    let left = sym c.remove.ensures.items in
    record {
      ranks = subst (λ xs. AreBelow xs count) left (left_low among place count c.rest.invariant.ranks);
      rising = subst IsStrictlyIncreasing left (rising_left among place inside c.rest.invariant.rising);
      most = subst (λ xs. HasStuckIn xs c.args.state.now) left
          (left_have c.args.state.now among place free c.rest.invariant.most);
    }
