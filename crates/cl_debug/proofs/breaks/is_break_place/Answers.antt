use Rattle.std.proofs.Common.{◌≡◌, arith, length, refl, sym, ap, ◌∙◌}
use Rattle.std.specs.Prelude.{Some, slice_get}
use Rattle.std.proofs.lemmas.Option.{slice_get_read}
use Rattle.cl_debug.proofs.BreakPlaces.{contains_same, no_hart_here, no_rank_here, no_stop_here, stop_here}
use Rattle.cl_debug.proofs.breaks.is_break_place.Goals as goal

pub returns-in_default-get-clause-goes_on : goal.returns-in_default-get-clause-goes_on
returns-in_default-get-clause-goes_on c = λ no image reached.
    let steps = c.args.steps.now in
    let step = c.in-Some.step.now in
    let found = c.in-Some.ensures.lookup in
    let there = slice_get_read steps (length steps) c.args.n step refl found.3.0 found.1 in
    let few = c.in_default-get.ensures.lookup.3 in
    let ranks = ap length c.deref.ensures.value in
    no_rank_here image steps c.args.breaks.now c.args.n c.args.state.now reached step there
    (omega (arith, few, ranks, c.from.ensures, c.rank.ensures))

pub returns-in_default-get-2-clause-goes_on : goal.returns-in_default-get-2-clause-goes_on
returns-in_default-get-2-clause-goes_on c = λ no image reached.
    let steps = c.args.steps.now in
    let state = c.args.state.now in
    let step = c.in-Some.step.now in
    let s = c.in-Some-get.rank.now in
    let found = c.in-Some.ensures.lookup in
    let there = slice_get_read steps (length steps) c.args.n step refl found.3.0 found.1 in
    let owned = c.in-Some-get.ensures.lookup in
    let at = slice_get_read c.deref.result.now (length c.deref.result.now) c.from.result s refl owned.3.0 owned.1 in
    let rank_there : slice_get state.ranks.items step.rank ≡ Some s =
    sym (λ i. slice_get (c.deref.ensures.value i) ((c.from.ensures ∙ c.rank.ensures) i)) ∙ at in
    let few = c.in_default-get-2.ensures.lookup.3 in
    let harts = ap length c.deref-2.ensures.value in
    no_hart_here image steps c.args.breaks.now c.args.n state reached step there s rank_there
    (omega (arith, few, harts, c.from-2.ensures, c.hart.ensures))

pub returns-clause-stops : goal.returns-clause-stops
returns-clause-stops c = λ yes image reached.
    let steps = c.args.steps.now in
    let state = c.args.state.now in
    let step = c.in-Some.step.now in
    let s = c.in-Some-get.rank.now in
    let hart = c.in-Some-get-2.hart.now in
    let found = c.in-Some.ensures.lookup in
    let there = slice_get_read steps (length steps) c.args.n step refl found.3.0 found.1 in
    let owned = c.in-Some-get.ensures.lookup in
    let at = slice_get_read c.deref.result.now (length c.deref.result.now) c.from.result s refl owned.3.0 owned.1 in
    let rank_there : slice_get state.ranks.items step.rank ≡ Some s =
    sym (λ i. slice_get (c.deref.ensures.value i) ((c.from.ensures ∙ c.rank.ensures) i)) ∙ at in
    let held = c.in-Some-get-2.ensures.lookup in
    let at_hart = slice_get_read c.deref-2.result.now (length c.deref-2.result.now) c.from-2.result hart refl
    held.3.0 held.1 in
    let hart_there : slice_get s.harts.items step.hart ≡ Some hart =
    sym (λ i. slice_get (c.deref-2.ensures.value i) ((c.from-2.ensures ∙ c.hart.ensures) i)) ∙ at_hart in
    stop_here image steps c.args.breaks.now c.args.n state reached step there s rank_there hart hart_there
    (contains_same c.args.breaks.now c.rank-2.result step.rank c.hart-2.result step.hart c.pc.result hart.pc
    c.rank-2.ensures c.hart-2.ensures c.pc.ensures (c.has_break.ensures.0 yes))

pub returns-clause-goes_on : goal.returns-clause-goes_on
returns-clause-goes_on c = λ no image reached.
    let steps = c.args.steps.now in
    let state = c.args.state.now in
    let step = c.in-Some.step.now in
    let s = c.in-Some-get.rank.now in
    let hart = c.in-Some-get-2.hart.now in
    let found = c.in-Some.ensures.lookup in
    let there = slice_get_read steps (length steps) c.args.n step refl found.3.0 found.1 in
    let owned = c.in-Some-get.ensures.lookup in
    let at = slice_get_read c.deref.result.now (length c.deref.result.now) c.from.result s refl owned.3.0 owned.1 in
    let rank_there : slice_get state.ranks.items step.rank ≡ Some s =
    sym (λ i. slice_get (c.deref.ensures.value i) ((c.from.ensures ∙ c.rank.ensures) i)) ∙ at in
    let held = c.in-Some-get-2.ensures.lookup in
    let at_hart = slice_get_read c.deref-2.result.now (length c.deref-2.result.now) c.from-2.result hart refl
    held.3.0 held.1 in
    let hart_there : slice_get s.harts.items step.hart ≡ Some hart =
    sym (λ i. slice_get (c.deref-2.ensures.value i) ((c.from-2.ensures ∙ c.hart.ensures) i)) ∙ at_hart in
    no_stop_here image steps c.args.breaks.now c.args.n state reached step there s rank_there hart hart_there
    (λ set. let yes = c.has_break.ensures.1 (contains_same c.args.breaks.now step.rank c.rank-2.result step.hart
    c.hart-2.result hart.pc c.pc.result (sym c.rank-2.ensures) (sym c.hart-2.ensures) (sym c.pc.ensures) set) in
    absurd (cc))
