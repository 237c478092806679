use Rattle.std.proofs.Common.{◌≡◌, Some, ap, arith, slice_get, subst, sym, ◌+◌, ◌∙◌}
use Rattle.std.proofs.lemmas.Option.{slice_get_read}
use Rattle.cl_machine.specs.declared.steps.Step.{Step}
use Rattle.cl_state.specs.Asked.{asked}
use Rattle.cl_state.specs.Room.{rank_of}
use Rattle.cl_trace.specs.Traces.{kind_of_bare}
use Rattle.cl_moves.specs.Ahead.{IsAloneKind}
use Rattle.cl_moves.proofs.standing.Standing.next_alone.Goals as goal

pub returns : goal.returns
returns c =
    let own = c.index-own.result.now in
    let ranks = c.args.self.now.cluster.ranks in
    let here = slice_get_read ranks.items c.len.result c.from-place.result own (c.len.ensures ∙ ranks.ok.0)
    c.if-place-len.false c.index-own.ensures in
    let next = c.in-Some.ensures in
    let hart : (c.bare.result).hart ≡ c.in-Some.hart = ap (λ (e : Step). e.hart) c.bare.ensures in
    let stamp : (c.bare.result).stamp ≡ own.clock + 1 = ap (λ (e : Step). e.stamp) c.bare.ensures in
    let kind : (c.bare.result).kind ≡ kind_of_bare c.in-Some-alone_kind.kind = ap (λ (e : Step). e.kind) c.bare.ensures in
    record {
      own = own;
      had = next.0;
      there = subst (λ r. slice_get ranks.items r ≡ Some own) c.from-place.ensures here;
      turns = next.1;
      rank_is = ap (λ (e : Step). e.rank) c.bare.ensures;
      hart_is = hart ∙ next.2;
      inside = omega (arith, hart, c.from.ensures, c.len-2.ensures, own.harts.ok.0, c.if-from-len.false);
      stamp_is = stamp;
      low = omega (arith, stamp, c.if-own-ge-CLOCK_MAX.false);
      alone = subst (λ h. IsAloneKind (asked (rank_of own) h) (c.bare.result).kind) (sym hart)
          (subst (λ k. IsAloneKind (asked (rank_of own) c.in-Some.hart) k) (sym kind)
          (subst (λ a. IsAloneKind a (kind_of_bare c.in-Some-alone_kind.kind)) c.in_ok-ask.ensures
          c.in-Some-alone_kind.ensures));
    }
