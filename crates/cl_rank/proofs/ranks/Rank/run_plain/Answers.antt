use Rattle.std.proofs.Common.{◌++◌, ◌∙◌, ◌≡◌, ◌<◌, None, List, ap, arith, refl, subst, sym}
use Rattle.cl_trace.specs.BareRuns.{bare_events}
use Rattle.cl_trace.specs.declared.events.Bare.TheVariants.{Plain}
use Rattle.cl_trace.specs.declared.events.Event.{Event}
use Rattle.cl_trace.specs.Rising.{last_stamp}
use Rattle.cl_state.specs.declared.state.RankState.{RankState}
use Rattle.cl_state.specs.Room.{rank_of}
use Rattle.cl_rank.specs.Plains.{IsPlainTurn, Repeats}
use Rattle.cl_sides.specs.Sides.{AreChannelsOf, sides_in}
use Rattle.cl_rank.specs.Views.{place_in, view_of}
use Rattle.cl_rank.proofs.PlainTurns.{kept_by, no_turns, plain_keeps, seen, turns_first}
use Rattle.cl_rank.proofs.Same.{as_it_was}
use Rattle.cl_rank.proofs.ranks.Rank.run_plain.Goals as goal

pub invariant_of-self-then-done-gt0 : goal.invariant_of-self-then-done-gt0
invariant_of-self-then-done-gt0 c =
    let r = c.args.self.now in
    let n = c.step_plains-done.result in
    let steps = c.step_plains-done.ensures in
    let noted = c.push_plains.ensures
    ∙ ap (λ (es : List Event). es ++ bare_events c.args.hart Plain r.state.clock n) c.reserve.ensures.events in
    plain_keeps r c.args.hart n c.step_plains-done.new.state _ steps.steps steps.clock
    (omega (arith, steps.within, c.min-most.ensures, c.min.ensures, c.if-clock-ge-CLOCK_MAX.false))
    (omega (arith, steps.within, c.min-most.ensures, c.min.ensures, c.len-taken.ensures, c.if-taken-self.false)) noted

pub returns-then-done-gt0-clause-turns : goal.returns-then-done-gt0-clause-turns
returns-then-done-gt0-clause-turns c =
    let r = c.args.self.now in
    let n = c.step_plains-done.result in
    let new = rank_of c.step_plains-done.new.state in
    let steps = c.step_plains-done.ensures in
    let noted = c.push_plains.ensures
    ∙ ap (λ (es : List Event). es ++ bare_events c.args.hart Plain r.state.clock n) c.reserve.ensures.events in
    subst (λ es. Repeats (IsPlainTurn c.args.hart) n (view_of r) (seen new es r.sends.items r.recvs.items None)) (sym noted)
    (turns_first c.args.hart r.sends.items r.recvs.items n (rank_of r.state) new r.trace.events (place_in r.asked_box)
    (omega (arith, c.if-done-gt0.true)) (subst (λ n. c.args.hart < n) r.state.harts.ok.0 c.requires.hart)
    (omega (arith, steps.within, c.min-most.ensures, c.min.ensures, c.if-clock-ge-CLOCK_MAX.false)) steps.steps)

pub returns-then-done-gt0-clause-own : goal.returns-then-done-gt0-clause-own
returns-then-done-gt0-clause-own c =
    let r = c.args.self.now in
    (kept_by c.args.hart r.sends.items r.recvs.items c.step_plains-done.result (rank_of r.state)
    (rank_of c.step_plains-done.new.state) r.sides r.fit c.step_plains-done.ensures.steps).own

pub invariant_of-self : goal.invariant_of-self
invariant_of-self c = as_it_was c.args.self.now c.args.self.now.state c.args.self.now.trace.events refl refl

pub invariant_of-self-then-clock-ge-CLOCK_MAX : goal.invariant_of-self-then-clock-ge-CLOCK_MAX
invariant_of-self-then-clock-ge-CLOCK_MAX c =
    as_it_was c.args.self.now c.args.self.now.state c.args.self.now.trace.events refl refl

pub invariant_of-self-then-is_err : goal.invariant_of-self-then-is_err
invariant_of-self-then-is_err c =
    as_it_was c.args.self.now c.args.self.now.state c.reserve.new.self.events refl c.reserve.ensures.events

pub step_plains-done-requires-clause-hart : goal.step_plains-done-requires-clause-hart
step_plains-done-requires-clause-hart c = c.requires.hart

pub step_plains-done-requires-clause-low : goal.step_plains-done-requires-clause-low
step_plains-done-requires-clause-low c =
    omega (arith, c.min-most.ensures, c.min.ensures, c.if-clock-ge-CLOCK_MAX.false)

pub push_plains-requires-clause-rises : goal.push_plains-requires-clause-rises
push_plains-requires-clause-rises c =
    let same : last_stamp 0 c.reserve.new.self.events ≡ last_stamp 0 c.args.self.now.trace.events =
    ap (last_stamp 0) c.reserve.ensures.events in
    omega (arith, same, c.args.self.now.stamped)

pub push_plains-requires-clause-low : goal.push_plains-requires-clause-low
push_plains-requires-clause-low c =
    let steps = c.step_plains-done.ensures in
    omega (arith, steps.within, c.min-most.ensures, c.min.ensures, c.if-clock-ge-CLOCK_MAX.false)

pub returns-then-done-gt0-clause-left : goal.returns-then-done-gt0-clause-left
returns-then-done-gt0-clause-left c =
    let steps = c.step_plains-done.ensures in
    omega (arith, steps.within, c.min-most.ensures, c.min.ensures, c.len-taken.ensures, c.if-taken-self.false)

pub returns-then-done-gt0-clause-harts : goal.returns-then-done-gt0-clause-harts
returns-then-done-gt0-clause-harts c = c.step_plains-done.ensures.harts

pub invariant_of-self-else-done-gt0 : goal.invariant_of-self-else-done-gt0
invariant_of-self-else-done-gt0 c =
    as_it_was c.args.self.now c.step_plains-done.new.state c.reserve.new.self.events
    (c.step_plains-done.ensures.none (omega (arith, c.if-done-gt0.false))) c.reserve.ensures.events

pub returns-else-done-gt0-clause-turns : goal.returns-else-done-gt0-clause-turns
returns-else-done-gt0-clause-turns c =
    let none : c.step_plains-done.result ≡ 0 = omega (arith, c.if-done-gt0.false) in
    no_turns c.args.self.now c.args.hart c.step_plains-done.result c.step_plains-done.new.state
    c.reserve.new.self.events none (c.step_plains-done.ensures.none none) c.reserve.ensures.events

pub returns-else-done-gt0-clause-left : goal.returns-else-done-gt0-clause-left
returns-else-done-gt0-clause-left c =
    let steps = c.step_plains-done.ensures in
    omega (arith, steps.within, c.min-most.ensures, c.min.ensures, c.len-taken.ensures, c.if-taken-self.false)

pub returns-else-done-gt0-clause-own : goal.returns-else-done-gt0-clause-own
returns-else-done-gt0-clause-own c = λ channels over.
    let r = c.args.self.now in
    subst (λ (s : RankState). AreChannelsOf s.site.version channels (sides_in r.sends.items r.recvs.items))
    (sym (c.step_plains-done.ensures.none (omega (arith, c.if-done-gt0.false)))) over

pub returns-else-done-gt0-clause-harts : goal.returns-else-done-gt0-clause-harts
returns-else-done-gt0-clause-harts c = c.step_plains-done.ensures.harts
