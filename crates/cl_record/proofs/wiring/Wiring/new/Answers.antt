use Rattle.std.proofs.Common.{◌≡◌, ◌∙◌, ◌+◌, ◌∷◌, [], sym, ap, subst, arith, length, inl, inr, slice_get, Some}
use Rattle.std.proofs.lemmas.List.{length-append}
use Rattle.cl_record.specs.declared.wiring.Ends.{Ends}
use Rattle.cl_record.proofs.Links.{no_ends}
use Rattle.cl_record.proofs.Elements.{last_or_before}
use Rattle.cl_record.proofs.wiring.Wiring.new.Goals as goal

pub loop-rank-init : goal.loop-rank-init
loop-rank-init c = record {
  count = ap length c.new-ends.ensures.items;
  none = λ r ends at. let no = ap (λ xs. slice_get xs r) (sym c.new-ends.ensures.items) ∙ at in absurd (cc);
}

pub loop-rank-preserved : goal.loop-rank-preserved
loop-rank-preserved c =
    let l = c.loop-rank in
    let items = c.in_ok-push.ensures.items in
    record {
      count = ap length items ∙ length-append l.ends.items (c.none.result ∷ []) ∙ ap (λ n. n + 1) l.invariant.count;
      none = λ r ends at.
          elim (last_or_before l.ends.items c.none.result ends r (subst (λ xs. slice_get xs r ≡ Some ends) items at)) [
            | inl before ↦ l.invariant.none r ends before
            | inr last ↦ subst (λ (e : Ends). (e.sends.items ≡ []) × (e.recvs.items ≡ [])) last.1 c.none.ensures
          ];
    }

pub returns : goal.returns
returns c =
    let l = c.loop-rank in record {
      channels_count = ap length c.new-channels.ensures.items;
      ends_count = omega (arith, l.invariant.count, c.loop-rank-test.false, l.auto);
      each = λ r ends at.
          let none = l.invariant.none r ends at in
          no_ends c.args.version _ r ends c.new-channels.ensures.items none.0 none.1;
    }
