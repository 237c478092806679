use Rattle.std.proofs.Common.{length, ◌<◌, ◌≡◌, rules, ◌∙◌, ◌+◌, ◌++◌, ◌∷◌, [], List, None, ap, refl, arith, subst, sym}
use mathlib.Core.Logic.{inl}
use Rattle.cl_state.specs.Room.{rank_of}
use Rattle.cl_state.specs.declared.state.RankState.{RankState}
use Rattle.cl_trace.specs.declared.events.Event.{Event}
use Rattle.cl_trace.specs.declared.events.Kind.TheVariants as kind
use Rattle.cl_trace.specs.Rising.{last_stamp}
use Rattle.cl_sides.specs.Sides.{AreChannelsOf, sides_in}
use Rattle.cl_rank.specs.Turning.{IsCause}
use Rattle.cl_rank.specs.Views.{place_in}
use Rattle.cl_rank.proofs.Ends.{turn_ends}
use Rattle.cl_rank.proofs.Plain.{went_plain}
use Rattle.cl_rank.proofs.PlainTurns.{seen}
use Rattle.cl_rank.proofs.Same.{as_it_was}
use Rattle.cl_rank.proofs.SameEnds.{same_ends}
use Rattle.cl_rank.proofs.Went.{event, keeps, leaves}
use Rattle.cl_rank.proofs.ranks.Rank.turn.Goals as goal
use Rattle.cl_rank.proofs.ranks.Rank.turn.Goals.{then-len-self-via-then-len-self, then-len-self-via-else-len-self+then-self-ge-CLOCK_MAX}

pub push_plain-requires-clause-rises : goal.push_plain-requires-clause-rises
push_plain-requires-clause-rises g c =
    let same : last_stamp 0 c.reserve.new.self.events ≡ last_stamp 0 c.args.self.now.trace.events =
    ap (last_stamp 0) c.reserve.ensures.events in
    omega (arith, same, c.args.self.now.stamped)

pub invariant_of-self-then-step_plain : goal.invariant_of-self-then-step_plain
invariant_of-self-then-step_plain g c =
    let stepped = c.step_plain.ensures in
    let noted = c.push_plain.ensures ∙ ap
    (λ (es : List Event). es ++ event c.args.hart (c.args.self.now.state.clock + 1) kind.Plain None ∷ [])
    c.reserve.ensures.events in
    keeps
    (went_plain c.args.self.now c.args.hart c.step_plain.new.state c.requires.hart
    (omega (arith, c.if-self-ge-CLOCK_MAX.false)) (stepped.asked c.if-step_plain.true) (stepped.told c.if-step_plain.true))
    None c.args.self.now.again _ (omega (arith, c.len.ensures, c.if-len-self.false)) refl noted tt

pub returns-then-step_plain : goal.returns-then-step_plain
returns-then-step_plain g c =
    let stepped = c.step_plain.ensures in
    let noted = c.push_plain.ensures ∙ ap
    (λ (es : List Event). es ++ event c.args.hart (c.args.self.now.state.clock + 1) kind.Plain None ∷ [])
    c.reserve.ensures.events in
    turn_ends g.D.Desk.gives c.args.hart c.args.self.now c.args.channels.now _ _ c.args.desk.now c.args.desk.now
    (record {
      runs = stepped.active c.if-step_plain.true;
      left = omega (arith, c.len.ensures, c.if-len-self.false);
      low = omega (arith, c.if-self-ge-CLOCK_MAX.false);
    })
    c.requires.own
    (leaves (went_plain c.args.self.now c.args.hart c.step_plain.new.state c.requires.hart
    (omega (arith, c.if-self-ge-CLOCK_MAX.false)) (stepped.asked c.if-step_plain.true) (stepped.told c.if-step_plain.true))
    noted refl refl stepped.harts)
    refl

pub invariant_of-self-else-step_plain : goal.invariant_of-self-else-step_plain
invariant_of-self-else-step_plain g c =
    as_it_was c.args.self.now c.step_plain.new.state c.reserve.new.self.events
    (c.step_plain.ensures.none c.if-step_plain.false) c.reserve.ensures.events

pub other_turn-requires-2-clause-own : goal.other_turn-requires-2-clause-own
other_turn-requires-2-clause-own g c =
    let r = c.args.self.now in
    subst (λ (s : RankState). AreChannelsOf s.site.version c.args.channels.now (sides_in r.sends.items r.recvs.items))
    (sym (c.step_plain.ensures.none c.if-step_plain.false)) c.requires.own

pub returns : goal.returns
returns g c =
    let r = c.args.self.now in
    same_ends g.D.Desk.gives c.args.hart r c.args.channels.now _
    (ap (λ (s : RankState). seen (rank_of s) c.reserve.new.self.events r.sends.items r.recvs.items (place_in r.asked_box))
    (c.step_plain.ensures.none c.if-step_plain.false)
    ∙ ap (λ es. seen (rank_of r.state) es r.sends.items r.recvs.items (place_in r.asked_box)) c.reserve.ensures.events)
    refl c.step_plain.ensures.harts c.other_turn-2.result c.other_turn-2.new.self c.args.desk.now
    c.other_turn-2.new.desk
    (λ none. let space : 0 < c.reserve.new.self.room = search rules in absurd (omega (arith, none, space)))
    c.other_turn-2.ensures

pub returns-then-self : goal.returns-then-self
returns-then-self g c =
    let r = c.args.self.now in
    same_ends g.D.Desk.gives c.args.hart r c.args.channels.now _
    (ap (λ es. seen (rank_of r.state) es r.sends.items r.recvs.items (place_in r.asked_box)) c.reserve.ensures.events)
    refl refl c.other_turn.result c.other_turn.new.self c.args.desk.now c.other_turn.new.desk
    (λ none. let space : 0 < c.reserve.new.self.room = search rules in absurd (omega (arith, none, space)))
    c.other_turn.ensures

pub returns-then-len-self : goal.returns-then-len-self
returns-then-len-self g c =
    let r = c.args.self.now in
    record {
      turned = tt;
      active = tt;
      stop = inl (
        c.why_stopped.ensures c.args.hart r.trace.room (λ active. elim c.then-len-self.branch [
          | then-len-self-via-then-len-self w ↦ absurd (omega (arith, active.left, c.len.ensures, w.if-len-self.true))
          | then-len-self-via-else-len-self+then-self-ge-CLOCK_MAX w ↦
              absurd (omega (arith, active.low, w.if-self-ge-CLOCK_MAX.true))
        ]),
        refl,
      );
      unchanged = refl;
      own = c.requires.own;
      budget = refl;
      harts = refl;
    }

pub returns-then-is_err : goal.returns-then-is_err
returns-then-is_err g c =
    let r = c.args.self.now in
    let none : ¬ (0 < r.trace.room) =
    (λ some.
    let ok = c.reserve.ensures.there some in
    let full = c.if-is_err.ensures.value in absurd (search (rules, ok, full))) in
    record {
      turned = tt;
      active = tt;
      stop = inl (
        subst (λ (es : List Event).
            IsCause c.args.hart (rank_of r.state) r.trace.room (length es) r.budget c.why_stopped-then-is_err.result)
            c.reserve.ensures.events
            (c.why_stopped-then-is_err.ensures c.args.hart r.trace.room (λ active. omega (arith, none))),
        refl,
      );
      unchanged = ap (λ es. seen (rank_of r.state) es r.sends.items r.recvs.items (place_in r.asked_box))
          c.reserve.ensures.events;
      own = c.requires.own;
      budget = refl;
      harts = refl;
    }
