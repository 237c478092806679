use Rattle.std.proofs.Common.{◌≡◌, ◌∙◌, ◌<◌, ◌≤◌, ◌+◌, ◌*◌, ◌||◌, sym, ap, subst, arith, cond, length}
use Rattle.std.proofs.Common.{slice_index, vec_len}
use Rattle.std.proofs.lemmas.List.Elements.{All-contains, Contains-get_or}
use Rattle.std.proofs.lemmas.Nat.{mod-mul-add}
use Rattle.cl_run.specs.Driver.{left, stations}
use Rattle.cl_run.specs.UnderWay.{IsUnderWay}
use Rattle.cl_run.proofs.Slots.{done_more, less_more, slot_count, slot_goes, slot_joined, slot_left, slot_seated}
use Rattle.cl_run.proofs.driver.Driver.round.Goals as goal
use Rattle.cl_run.proofs.driver.Driver.round.Goals.{then-moved, else-moved}

pub slot-goes_on-requires-clause-there : goal.slot-goes_on-requires-clause-there
slot-goes_on-requires-clause-there g c =
    let order = c.args.order.now in
    let i = c.loop-rank.rank-index in
    let there : slice_index order i < vec_len c.args.self.now.seats = All-contains
    (λ n. n < vec_len c.args.self.now.seats) order (slice_index order i) c.requires.there
    (Contains-get_or order i 0 c.loop-rank-test.true) in
    omega (arith, there, c.loop-rank.invariant.count)

pub loop-rank-preserved : goal.loop-rank-preserved
loop-rank-preserved g c =
    let order = c.args.order.now in
    let i = c.loop-rank.rank-index in
    let r = slice_index order i in
    let old = c.loop-rank.self in
    let new = c.slot-goes_on.new.self in
    let went = c.slot-goes_on.result in
    let goes = c.slot-goes_on.ensures in
    let kept = c.loop-rank.invariant in
    let either : c.if-moved.moved ≡ (c.loop-rank.moved || went) =
    elim c.if-moved.branch [
      | then-moved w ↦ w.moved-is ∙ w.if-moved.true ∙ sym (ap (λ b. b || went) w.if-moved.true)
      | else-moved w ↦ w.moved-is ∙ sym (ap (λ b. b || went) w.if-moved.false)
    ] in
    let count = slot_count r old new went goes in
    record {
      joined = slot_joined r old new went goes kept.joined;
      count = omega (arith, count, kept.count, new.seats.ok.0, old.seats.ok.0);
      seated = λ plans start. slot_seated r old new plans went goes (kept.seated plans start);
      goes = λ image plans k seated start.
          let next : (k * length order + i) + 1 ≡ k * length order + (i + 1) = omega arith in
          subst (λ n. IsUnderWay image plans order (stations new) new.hub n) next
          (slot_goes r old new image plans order (k * length order + i)
          (ap (slice_index order) (mod-mul-add k (length order) i c.loop-rank-test.true)) (kept.seated plans seated) went goes
          (kept.goes image plans k seated start));
      done = λ quiet place below. done_more old new order i c.loop-rank.moved went goes kept.done (sym either
          ∙ quiet) place below;
      less = subst (λ b. left new + cond b 1 0 ≤ left c.args.self.now) (sym either)
          (less_more (left c.args.self.now) (left old) (left new) c.loop-rank.moved went kept.less (slot_left r old new went goes));
    }

pub returns-clause-no_more : goal.returns-clause-no_more
returns-clause-no_more g c = omega (arith, c.loop-rank.invariant.less)
