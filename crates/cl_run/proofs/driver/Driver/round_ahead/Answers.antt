use Rattle.std.proofs.Common.{◌≡◌, ◌<◌, ◌≤◌, ◌∙◌, ◌+◌, ◌*◌, ◌||◌, ap, arith, cond, length, slice_index, subst, sym, vec_len}
use Rattle.std.proofs.lemmas.List.Elements.{All-contains, Contains-get_or}
use Rattle.std.proofs.lemmas.Nat.{mod-mul-add}
use Rattle.cl_run.specs.Ahead.{IsAheadOf, left_ahead}
use Rattle.cl_run.proofs.AheadSlots.{gone_count, gone_done, gone_joined, gone_less, gone_named, gone_on, gone_seated, gone_slots}
use Rattle.cl_run.proofs.Slots.{less_more}
use Rattle.cl_run.proofs.driver.Driver.round_ahead.Goals as goal
use Rattle.cl_run.proofs.driver.Driver.round_ahead.Goals.{then-moved, else-moved}

pub slot_ahead-goes_on-requires-clause-there : goal.slot_ahead-goes_on-requires-clause-there
slot_ahead-goes_on-requires-clause-there c =
    let order = c.args.order.now in
    let i = c.loop-rank.rank-index in
    let there : slice_index order i < vec_len c.args.self.now.seats = All-contains
    (λ n. n < vec_len c.args.self.now.seats) order (slice_index order i) c.requires.there
    (Contains-get_or order i 0 c.loop-rank-test.true) in
    omega (arith, there, c.loop-rank.invariant.count)

pub loop-rank-preserved : goal.loop-rank-preserved
loop-rank-preserved c =
    let order = c.args.order.now in
    let i = c.loop-rank.rank-index in
    let r = slice_index order i in
    let old = c.loop-rank.self in
    let turns = c.loop-rank.ahead in
    let new = c.slot_ahead-goes_on.new.self in
    let later = c.slot_ahead-goes_on.new.ahead in
    let went = c.slot_ahead-goes_on.result in
    let gone = c.slot_ahead-goes_on.ensures in
    let kept = c.loop-rank.invariant in
    let first = left_ahead c.args.self.now c.args.ahead.now in
    let either : c.if-moved.moved ≡ (c.loop-rank.moved || went) =
    elim c.if-moved.branch [
      | then-moved w ↦ w.moved-is ∙ w.if-moved.true ∙ sym (ap (λ b. b || went) w.if-moved.true)
      | else-moved w ↦ w.moved-is ∙ sym (ap (λ b. b || went) w.if-moved.false)
    ] in
    let count = gone_count r old new turns later went gone in
    record {
      joined = gone_joined r old new turns later went gone kept.joined;
      count = omega (arith, count, kept.count, new.seats.ok.0, old.seats.ok.0);
      seated = λ plans start. gone_seated r old new turns later went gone plans (kept.seated plans start);
      goes = λ image plans k seated start.
          let next : (k * length order + i) + 1 ≡ k * length order + (i + 1) = omega arith in
          subst (IsAheadOf image plans order later new) next
          (gone_on r old new turns later went gone image plans order (k * length order + i)
          (ap (slice_index order) (mod-mul-add k (length order) i c.loop-rank-test.true)) (kept.seated plans seated)
          (kept.goes image plans k seated start));
      named = λ named. gone_named order i c.loop-rank-test.true old new turns later went gone (kept.named named);
      done = λ quiet place below.
          gone_done order i old new turns later c.loop-rank.moved went gone kept.done (sym either ∙ quiet) place below;
      at_slots = λ quiet place below.
          gone_slots order i old new turns later c.loop-rank.moved went gone kept.at_slots (sym either ∙ quiet) place below;
      less = subst (λ b. left_ahead new later + cond b 1 0 ≤ first) (sym either)
          (less_more first (left_ahead old turns) (left_ahead new later) c.loop-rank.moved went kept.less
          (gone_less r old new turns later went gone));
    }
