use Rattle.std.proofs.Common.{◌≡◌, ◌+◌, None, true, false, not, slice_set, sym, ap, ◌∙◌, subst, arith}
use Rattle.mp_hub.proofs.Copied.{IsKept, kept_end, step_none, step_some}
use Rattle.mp_hub.proofs.state.twins.kept_copies.Goals as goal
use Rattle.mp_hub.proofs.state.twins.kept_copies.Goals.{then-is_none+in-None-1, then-is_none+in-Some+in-Short-1}
use Rattle.mp_hub.proofs.state.twins.kept_copies.Goals.{then-is_none+in-Some+in-Shared-1, else-is_none}

nothing : (c : goal.Joined-is_none) → c.is_none.result ≡ true
    → IsKept (c.loop-place.place + 1) c.args.gots.now (slice_set c.loop-place.copies.items c.loop-place.place None)
nothing c none =
    step_none c.loop-place.place c.args.gots.now c.loop-place.copies.items c.index-gots-place.result
    c.loop-place-test.true c.index-gots-place.is
    (c.is_none.ensures ∙ ap not none) c.loop-place.invariant.same c.loop-place.invariant.rest

something : (c : goal.Joined-is_none) → c.is_none.result ≡ false
    → IsKept (c.loop-place.place + 1) c.args.gots.now c.loop-place.copies.items
something c some_is =
    step_some c.loop-place.place c.args.gots.now c.loop-place.copies.items c.index-gots-place.result
    c.loop-place-test.true c.index-gots-place.is
    (c.is_none.ensures ∙ ap not some_is) c.loop-place.invariant.same c.loop-place.invariant.rest

kept : (c : goal.Joined-is_none) → IsKept (c.loop-place.place + 1) c.args.gots.now c.if-is_none.copies.items
kept c = elim c.if-is_none.branch [
  | then-is_none+in-Some+in-Shared-1 w ↦ subst (λ copies. IsKept (c.loop-place.place + 1) c.args.gots.now copies)
      (sym (ap (λ v. v.items) w.copies-is)) (nothing c w.if-is_none.true)
  | then-is_none+in-Some+in-Short-1 w ↦ subst (λ copies. IsKept (c.loop-place.place + 1) c.args.gots.now copies)
      (sym (ap (λ v. v.items) w.copies-is)) (nothing c w.if-is_none.true)
  | then-is_none+in-None-1 w ↦ subst (λ copies. IsKept (c.loop-place.place + 1) c.args.gots.now copies)
      (sym (ap (λ v. v.items) w.copies-is)) (nothing c w.if-is_none.true)
  | else-is_none w ↦ subst (λ copies. IsKept (c.loop-place.place + 1) c.args.gots.now copies)
      (sym (ap (λ v. v.items) w.copies-is)) (something c w.if-is_none.false)
]

pub loop-place-preserved : goal.loop-place-preserved
loop-place-preserved c =
    record { same = (kept c).same; rest = (kept c).rest; place = omega (arith, c.loop-place-test.true) }

pub returns : goal.returns
returns c = kept_end c.loop-place.place c.args.gots.now c.loop-place.copies.items c.loop-place.invariant.same
    c.loop-place.invariant.rest c.loop-place-test.false
