use Rattle.std.proofs.Common.{◌≡◌, ◌<◌, false, sym, subst, ◌∙◌, arith, get_or, length}
use Rattle.std.specs.List.Sorted.{IsStrictlyIncreasing}
use Rattle.cl_state.specs.Rank.{below}
use Rattle.cl_deadlock.specs.Why.{AreBelow}
use Rattle.cl_deadlock.proofs.Left.{rising_below, rising_left}
use Rattle.cl_deadlock.proofs.Narrowed.{all_low, left_low}
use Rattle.cl_deadlock.proofs.Sizes.{few_ranks}
use Rattle.cl_rests.specs.Held.{AreHeldUpIn, HasHeldUpIn, TellsHeldUp}
use Rattle.cl_rests.proofs.Held.{all_have, left_have, state_of}
use Rattle.cl_rests.proofs.buffering.held_up.Goals as goal

pub returns-then-count-gt255-clause-most : goal.returns-then-count-gt255-clause-most
returns-then-count-gt255-clause-most c = λ image here is.
    let standing = c.args.standing.now in
    let few = few_ranks image standing.cluster here.cluster (state_of image standing here is) in
    absurd (omega (arith, few, c.if-count-gt255.true, c.len-count.ensures, standing.cluster.ranks.ok.0))

pub returns-in-None-clause-held : goal.returns-in-None-clause-held
returns-in-None-clause-held c =
    subst (λ xs. AreHeldUpIn xs c.args.standing.now) c.as_slice.ensures.value
    (c.in_ok-free_place.ensures.none c.in-None.is)

pub rest-init : goal.rest-init
rest-init c =
    let standing = c.args.standing.now in
    let ranks = standing.cluster.ranks in
    let count = c.len-count.result in
    let same = c.in_ok-among.ensures in
    let many : count ≡ length ranks.items = c.len-count.ensures ∙ ranks.ok.0 in
    record {
      ranks = subst (λ xs. AreBelow xs (length ranks.items)) (sym same)
          (subst (AreBelow (below count)) many (all_low count));
      rising = subst IsStrictlyIncreasing (sym same) (rising_below count);
      most = subst (λ xs. HasHeldUpIn xs standing) (sym same) (all_have standing count many);
    }

pub rest-preserved : goal.rest-preserved
rest-preserved c =
    let standing = c.args.standing.now in
    let among = c.rest.among.items in
    let place = c.in-Some.place in
    let count = length standing.cluster.ranks.items in
    let its = c.as_slice.ensures.value in
    let free = subst (λ xs. TellsHeldUp xs standing (get_or xs place 0) false) its
    (c.in_ok-free_place.ensures.free place c.in-Some.is) in
    let inside = subst (λ xs. place < length xs) its (c.in_ok-free_place.ensures.within place c.in-Some.is) in
    let left = sym c.remove.ensures.items in
    record {
      ranks = subst (λ xs. AreBelow xs count) left (left_low among place count c.rest.invariant.ranks);
      rising = subst IsStrictlyIncreasing left (rising_left among place inside c.rest.invariant.rising);
      most = subst (λ xs. HasHeldUpIn xs standing) left
          (left_have standing among place free c.rest.invariant.most);
    }
