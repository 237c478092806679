use Rattle.std.proofs.Common.{◌≡◌, ◌∙◌, arith, inl, inr, length, slice_get, subst, sym}
use Rattle.std.proofs.lemmas.Bool.{cases_eq, cases_lt}
use Rattle.std.proofs.lemmas.Option.{slice_get_past}
use Rattle.cl_explore.proofs.kept.are_same_beside.Goals as goal

pub loop-other-preserved : goal.loop-other-preserved
loop-other-preserved c = λ r low apart. elim (cases_eq c.loop-other.other r) [
  | inl same ↦
      subst (λ k. slice_get c.args.had.now k ≡ slice_get c.args.before.now k) same
      (c.is_same_at.ensures c.if-not-is_same_at.false (λ e. apart (sym same ∙ e)))
  | inr other ↦ c.loop-other.invariant r (omega (arith, low, other)) apart
]

pub returns : goal.returns
returns c = λ its. record {
  many = c.if-had-before.false;
  each = λ r apart. elim (cases_lt r (length c.args.had.now)) [
    | inl low ↦ c.loop-other.invariant r (omega (arith, low, c.loop-other-test.false)) apart
    | inr past ↦
        slice_get_past c.args.had.now r past
        ∙ sym (slice_get_past c.args.before.now r (omega (arith, past, c.if-had-before.false)))
  ];
}
