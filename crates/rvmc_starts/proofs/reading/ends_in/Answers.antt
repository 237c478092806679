use Rattle.std.proofs.Common.{rules, ◌≡◌, ◌≤◌, ◌+◌, ◌-◌, ◌++◌, ◌∙◌, None, Some, arith, sym, ap, length, length-drop, drop, subst}
use Rattle.std.specs.Prelude.{option_map}
use Rattle.rvmc_starts.specs.Reading.{IsEndAt, IsEndRead, end_in, ends_in}
use Rattle.rvmc_starts.proofs.Steps.{ends_all, ends_more, ends_none}
use Rattle.rvmc_starts.proofs.reading.ends_in.Goals as goal

pub returns-in_default : goal.returns-in_default
returns-in_default c =
    let none = subst (IsEndRead c.behind.result.now) c.in_default.is c.in_ok-read.ensures in
    let rest : end_in (drop c.loop-place.at c.args.bytes.now) ≡ None = subst (λ rest. end_in rest ≡ None) c.behind.ensures none in
    ends_none c.args.count c.loop-place._place _ c.loop-place.ends.items _ c.loop-place-test.true rest c.loop-place.invariant.same

pub loop-place-preserved : goal.loop-place-preserved
loop-place-preserved c =
    let bytes = c.args.bytes.now in
    let at = c.loop-place.at in
    let one = subst (IsEndRead c.behind.result.now) c.in-Some.is c.in_ok-read.ensures in
    let is : IsEndAt (drop at bytes) c.in-Some.read = subst (λ rest. IsEndAt rest c.in-Some.read) c.behind.ensures one in
    record {
      within = omega (arith, is.within, length-drop at bytes, c.loop-place.invariant.within);
      same = subst (λ items. ends_in c.args.count bytes ≡ option_map (λ more. items ++ more) (ends_in (c.args.count - (c.loop-place._place + 1)) (drop (at + c.in-Some.read.length) bytes)))
          (sym c.in_ok-push.ensures.items)
          (ends_more c.args.count c.loop-place._place at bytes c.loop-place.ends.items c.in-Some.read _ c.loop-place-test.true is c.loop-place.invariant.same);
    }

pub overflow_add-at : goal.overflow_add-at
overflow_add-at c =
    let bytes = c.args.bytes.now in
    let at = c.loop-place.at in
    let one = subst (IsEndRead c.behind.result.now) c.in-Some.is c.in_ok-read.ensures in
    let is : IsEndAt (drop at bytes) c.in-Some.read = subst (λ rest. IsEndAt rest c.in-Some.read) c.behind.ensures one in
    let within : at + c.in-Some.read.length ≤ length bytes = omega (arith, is.within, length-drop at bytes, c.loop-place.invariant.within) in
    search (rules, within)

pub returns : goal.returns
returns c =
    ap Some c.from_vec.ensures
    ∙ ends_all c.args.count c.loop-place._place _ c.loop-place.ends.items _ c.loop-place-test.false c.loop-place.invariant.same
