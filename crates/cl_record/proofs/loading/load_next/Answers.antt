use Rattle.std.proofs.Common.{◌≡◌, ◌<◌, ◌∙◌, refl, sym, ap, subst, arith, length, slice_get}
use Rattle.std.proofs.lemmas.Option.{same_Some, slice_get_read}
use Rattle.cl_record.specs.Seats.{IsFresh}
use Rattle.cl_record.specs.Wiring.{AreNewEnds, sides_in}
use Rattle.cl_record.proofs.Loads.{plan_at}
use Rattle.cl_record.proofs.loading.load_next.Goals as goal

pub load-requires-clause-plan : goal.load-requires-clause-plan
load-requires-clause-plan c =
    let n = c.len-rank.result in
    let below : n < length c.args.plans.now =
    omega (arith, c.len-rank.ensures, c.requires.there, c.requires.plans.one_each) in
    plan_at c.args.image.now c.args.plans.now n c.index-plans-rank.result c.requires.plans
    (slice_get_read c.args.plans.now _ n _ refl below c.index-plans-rank.is)

pub load-requires-clause-ends : goal.load-requires-clause-ends
load-requires-clause-ends c =
    let image = c.args.image.now in (
      c.requires.own.0,
      subst (λ k. AreNewEnds image.version image.links c.requires.own.0 k (sides_in c.args.own))
          (sym c.len-rank.ensures) c.requires.own.1,
    )

pub returns : goal.returns
returns c =
    let image = c.args.image.now in
    let plans = c.args.plans.now in
    let n = c.len-rank.result in
    let seat = c.in_ok-seat.seat in
    let below : n < length plans = omega (arith, c.len-rank.ensures, c.requires.there, c.requires.plans.one_each) in
    let planned = slice_get_read plans _ n _ refl below c.index-plans-rank.is in
    record {
      seat = seat;
      added = c.in_ok-push.ensures.items;
      plan_is = λ plan at.
          c.in_ok-seat.ensures.plan
          ∙ same_Some c.index-plans-rank.result plan (sym planned ∙ ap (slice_get plans) c.len-rank.ensures ∙ at);
      fresh = λ channels new.
          subst (λ k. IsFresh image channels k seat) c.len-rank.ensures
          (c.in_ok-seat.ensures.fresh channels (subst (λ k. AreNewEnds image.version image.links channels k (sides_in c.args.own))
          (sym c.len-rank.ensures) new));
    }
