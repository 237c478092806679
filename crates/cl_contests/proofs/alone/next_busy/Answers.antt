use Rattle.std.proofs.Common.{◌≡◌, Some, true, ap, arith, slice_get, subst, sym, ◌+◌, ◌∙◌}
use Rattle.std.proofs.lemmas.Option.{slice_get_read}
use Rattle.cl_machine.specs.declared.steps.Step.{Step}
use Rattle.cl_state.specs.Asked.{asked}
use Rattle.cl_state.specs.Room.{rank_of}
use Rattle.cl_trace.specs.Traces.{kind_of_bare}
use Rattle.cl_reduction_laws.specs.Complete.{polls_complete_in}
use Rattle.cl_contests.specs.Kept.{polls_of, search_of}
use Rattle.cl_contests.specs.Turns.{IsBusyKind, IsBusyTurn, MayGoFirst}
use Rattle.cl_contests.proofs.alone.next_busy.Goals as goal

pub returns : goal.returns
returns c =
    let own = c.index-own.result.now in
    let ranks = c.args.standing.now.cluster.ranks in
    let here = slice_get_read ranks.items c.len.result c.from-place.result own (c.len.ensures ∙ ranks.ok.0)
    c.if-place-len.false c.index-own.ensures in
    let rank : (c.bare.result).rank ≡ c.args.rank = ap (λ (e : Step). e.rank) c.bare.ensures in
    let hart : (c.bare.result).hart ≡ 0 = ap (λ (e : Step). e.hart) c.bare.ensures in
    let stamp : (c.bare.result).stamp ≡ own.clock + 1 = ap (λ (e : Step). e.stamp) c.bare.ensures in
    let kind : (c.bare.result).kind ≡ kind_of_bare c.in-Some.kind = ap (λ (e : Step). e.kind) c.bare.ensures in
    let patterns = c.args.patterns.now in
    let busy : IsBusyTurn (search_of patterns.may_wait patterns.kept.items) c.args.standing.now c.bare.result = record {
      own = own;
      there = subst (λ r. slice_get ranks.items r ≡ Some own) (c.from-place.ensures ∙ sym rank) here;
      hart_is = hart;
      inside = omega (arith, c.len-2.ensures, own.harts.ok.0, c.if-len-eq0.false);
      stamp_is = stamp;
      low = omega (arith, stamp, c.if-own-ge-CLOCK_MAX.false);
      busy = subst (λ k. IsBusyKind (asked (rank_of own) 0) k) (sym kind)
          (subst (λ a. IsBusyKind a (kind_of_bare c.in-Some.kind)) c.in_ok-ask_next.ensures c.in-Some.ensures);
      polls = λ its.
          subst (λ r. polls_of patterns.kept.items r ≡ true) (sym rank)
          (c.allow_poll_of_complete.ensures c.if-not-allow_poll_of_complete.false
          (c.polls_complete.ensures ∙ (ap (polls_complete_in own.memory own.requests) (c.next-doing.ensures).spelled ∙ its)));
      anyway = subst (MayGoFirst patterns.may_wait c.args.standing.now) (sym rank)
          (c.hold_back.ensures c.if-hold_back.false);
    } in
    record { whose = (rank, hart); busy = busy }
