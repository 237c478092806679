use Rattle.std.proofs.Common.{◌≡◌, ◌<◌, ◌∙◌, ◌+◌, ◌∷◌, ◌++◌, [], sym, ap, subst, arith, length, rules, vec_len}
use Rattle.std.proofs.lemmas.List.{length-append}
use Rattle.cl_record.specs.Loading.{AreLoaded}
use Rattle.cl_record.proofs.Elements.{at_below}
use Rattle.cl_record.proofs.Loads.{none_loaded, one_loaded}
use Rattle.cl_record.proofs.Sides.{fewer, next_at, seam_more}
use Rattle.cl_record.proofs.loading.load_each.Goals as goal

pub loop-own-init : goal.loop-own-init
loop-own-init c = record {
  rest = search rules;
  loaded = none_loaded c.args.image.now c.args.plans.now c.args.ends.items c.args.seats.now.items c.requires.none;
}

pub load_next-requires-clause-there : goal.load_next-requires-clause-there
load_next-requires-clause-there c =
    let l = c.loop-own in
    omega (
      arith,
      fewer l.yielded _ c.args.ends.items c.in-Some.own _ l.invariant.rest c.in-Some.ensures.steps.0,
      l.seats.ok.0,
      l.invariant.loaded.count,
      c.requires.count,
    )

pub load_next-requires-clause-own : goal.load_next-requires-clause-own
load_next-requires-clause-own c =
    let l = c.loop-own in
    let at = next_at l.yielded _ c.args.ends.items (vec_len l.seats) c.in-Some.own _ l.invariant.rest
    c.in-Some.ensures.steps.0 (l.seats.ok.0 ∙ l.invariant.loaded.count) in
    (c.requires.ends.0, c.requires.ends.1 (vec_len l.seats) c.in-Some.own at)

pub loop-own-preserved : goal.loop-own-preserved
loop-own-preserved c =
    let l = c.loop-own in
    let image = c.args.image.now in
    let plans = c.args.plans.now in
    let ends = c.args.ends.items in
    let own = c.in-Some.own in
    let n = vec_len l.seats in
    let new = c.load_next.new.seats.items in
    let same : n ≡ length l.yielded = l.seats.ok.0 ∙ l.invariant.loaded.count in
    let inside = fewer l.yielded _ ends own _ l.invariant.rest c.in-Some.ensures.steps.0 in
    let at = next_at l.yielded _ ends n own _ l.invariant.rest c.in-Some.ensures.steps.0 same in
    let below : n < length plans = omega (arith, inside, same, c.requires.count, c.requires.plans.one_each) in
    let plan = at_below plans n below in
    let more : n + 1 ≡ length (l.yielded ++ own ∷ []) = omega (arith, same, length-append l.yielded (own ∷ [])) in
    record {
      rest = seam_more l.yielded _ ends own _ l.invariant.rest c.in-Some.ensures.steps.0;
      loaded = subst (λ k. AreLoaded image plans ends k new) more
          (one_loaded image plans ends own n plan.0 l.seats.items new at plan.1 c.requires.ends
          (subst (λ k. AreLoaded image plans ends k l.seats.items) (sym same) l.invariant.loaded)
          c.in_ok-load_next.ensures);
    }
