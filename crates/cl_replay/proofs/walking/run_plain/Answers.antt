use Rattle.std.proofs.Common.{◌≡◌, ◌+◌, ◌-◌, arith, length, refl, sym, ◌∙◌, subst, Some}
use Rattle.std.specs.Prelude.{slice_get, slice_range}
use Rattle.std.proofs.lemmas.Option.{slice_get_read}
use Rattle.cl_replay.specs.Walking.{GoesOn, HasHart, StandsIn, hart_at, with_hart}
use Rattle.cl_replay.proofs.Walks.{goes_nowhere, range_stands}
use Rattle.cl_replay.proofs.walking.run_plain.Goals as goal

pub returns-then-hart-len-clause-goes : goal.returns-then-hart-len-clause-goes
returns-then-hart-len-clause-goes c = goes_nowhere c.args.steps.now c.args.rank c.args.from c.args.state.now

pub returns-then-not-has_stamps-clause-goes : goal.returns-then-not-has_stamps-clause-goes
returns-then-not-has_stamps-clause-goes c = goes_nowhere c.args.steps.now c.args.rank c.args.from c.args.state.now

pub returns-clause-goes : goal.returns-clause-goes
returns-clause-goes c =
    let steps = c.args.steps.now in
    let state = c.args.state.now in
    let last = c.index-steps-from.result in
    let at = hart_at c.index_mut.result.now state.memory state.clock in
    let before = slice_get_read steps (length steps) (c.args.from - 1) last refl
    (omega (arith, c.requires.after, c.requires.forwards, c.requires.within)) c.index-steps-from.is in
    let stands : StandsIn (slice_range steps c.args.from c.args.to) steps c.args.from state.clock =
    subst (StandsIn (slice_range steps c.args.from c.args.to) steps c.args.from)
    (sym c.stamp.ensures ∙ c.if-stamp-clock.false)
    (range_stands steps c.args.from c.args.to last c.requires.after c.requires.forwards c.requires.within before) in
    let there = slice_get_read state.harts.items (length state.harts.items) c.from-hart.result c.index_mut.result.now refl
    (omega (arith, c.if-hart-len.false, c.len.ensures, state.harts.ok.0)) c.index_mut.ensures.value in
    let has : HasHart state c.hart.result at = record {
      there = subst (λ k. slice_get state.harts.items k ≡ Some c.index_mut.result.now) c.from-hart.ensures there;
      memory = refl;
      clock = refl;
    } in
    subst (λ k. GoesOn steps c.args.rank c.args.from state
    (c.args.from + (c.run_hart-reached.result - state.clock))
    (with_hart state k (hart_at c.run_hart-reached.new.hart c.run_hart-reached.new.memory c.run_hart-reached.result)))
    (sym c.from-hart.ensures)
    (c.run_hart-reached.ensures.goes.goes steps c.args.from state stands has)
