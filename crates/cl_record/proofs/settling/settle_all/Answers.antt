use Rattle.std.proofs.Common.{◌≡◌, ◌∙◌, ◌+◌, ◌∷◌, [], sym, ap, subst, arith, length}
use Rattle.std.proofs.Common.{slice_get}
use Rattle.std.proofs.lemmas.List.{length-append}
use Rattle.std.proofs.lemmas.Option.{slice_get_within}
use Rattle.cl_record.specs.Settling.{AreSettled, Kept}
use Rattle.cl_record.proofs.Sides.{all_kept, next_at, seam_more, settled_before, settled_more, sides_now}
use Rattle.cl_record.proofs.settling.settle_all.Goals as goal

pub loop-channel-init : goal.loop-channel-init
loop-channel-init c = record {
  rest = c.into_iter-channel-iterator.ensures.into_iter_gives.0;
  count = ap length c.requires.empty;
  room = c.requires.room;
  kept = all_kept _ _ _;
  settled = λ link channel left at here.
      let none = ap (λ xs. slice_get xs link) (sym c.requires.empty) ∙ here in absurd (cc);
}

pub overflow_cast-number : goal.overflow_cast-number
overflow_cast-number c =
    let l = c.loop-channel in
    let count = c.len-number.ensures ∙ l.boxes.ok.0 ∙ l.invariant.count in
    let at = next_at l.yielded _ c.args.channels.items _ _ _ l.invariant.rest c.in-Some.ensures.steps.0 count in
    omega (arith, slice_get_within c.args.channels.items _ _ at, c.requires.ends.one_each, c.requires.ends.few)

pub settle_link-left-requires : goal.settle_link-left-requires
settle_link-left-requires c =
    let l = c.loop-channel in
    let boxes_n = c.len-number.ensures ∙ l.boxes.ok.0 in
    let at = next_at l.yielded _ c.args.channels.items _ _ _ l.invariant.rest c.in-Some.ensures.steps.0
    (boxes_n ∙ l.invariant.count) in
    sides_now c.args.links.now c.args.ends.items l.ends.items _ _ (c.requires.ends.sides _ _ at)
    (subst (λ k. Kept c.args.ends.items l.ends.items k k) (sym boxes_n) l.invariant.kept)

pub loop-channel-preserved : goal.loop-channel-preserved
loop-channel-preserved c =
    let l = c.loop-channel in
    let links = c.args.links.now in
    let n = c.len-number.result in
    let boxes_n = c.len-number.ensures ∙ l.boxes.ok.0 in
    let at = next_at l.yielded _ c.args.channels.items n _ _ l.invariant.rest c.in-Some.ensures.steps.0
    (boxes_n ∙ l.invariant.count) in
    let kept = subst (λ k. Kept c.args.ends.items l.ends.items k k) (sym boxes_n) l.invariant.kept in
    let left = c.settle_link-left.result in
    let items = c.push_reserved.ensures.items in
    let more : length c.push_reserved.new.self.items ≡ n + 1 =
    ap length items ∙ length-append l.boxes.items (left ∷ []) ∙ ap (λ k. k + 1) (sym boxes_n) in
    let settled = settled_before links c.args.ends.items l.ends.items n _ (c.requires.ends.sides n _ at) kept left
    c.settle_link-left.ensures.left in
    record {
      rest = seam_more l.yielded _ c.args.channels.items c.in-Some.channel _ l.invariant.rest c.in-Some.ensures.steps.0;
      count = more ∙ ap (λ k. k + 1) (boxes_n ∙ l.invariant.count)
          ∙ sym (length-append l.yielded (c.in-Some.channel ∷ []));
      room = omega (arith, l.invariant.room, c.push_reserved.ensures.capacity);
      kept = subst (λ k. Kept c.args.ends.items c.settle_link-left.new.ends.items k k) (sym more)
          (c.settle_link-left.ensures.kept c.args.ends.items kept);
      settled = subst (AreSettled links c.args.channels.items c.args.ends.items) (sym items)
          (settled_more links c.args.channels.items c.args.ends.items n c.in-Some.channel l.boxes.items left at boxes_n
          settled l.invariant.settled);
    }
