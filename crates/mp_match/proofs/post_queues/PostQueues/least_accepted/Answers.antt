use Rattle.std.proofs.Common.{None, ap, ◌∙◌}
use Rattle.std.specs.Ordering.{is_gt}
use Rattle.std.specs.BTreeMap.Range.{entries_between}
use Rattle.std.specs.declared.ops.Bound.TheVariants.{Included, Excluded, Unbounded}
use Rattle.mp_match.specs.Queued.{selection_cmp}
use Rattle.mp_match.specs.InnerQueued.{least_accepted}
use Rattle.mp_match.proofs.Within.{least_after, least_between, first_below}
use Rattle.mp_match.proofs.post_queues.PostQueues.least_accepted.Goals as goal

pub range-requires-2 : goal.range-requires-2
range-requires-2 c =
    (λ i. is_gt (selection_cmp (c.first_key-first.ensures i) (c.next_key-next.ensures i)))
    ∙ first_below c.args.selection

pub returns-then-selection-eq255-clause-least : goal.returns-then-selection-eq255-clause-least
returns-then-selection-eq255-clause-least c =
    let a = c.args.selection in
    let es = c.args.self.now.map.entries in
    c.least_within.ensures
    ∙ ap (least_accepted a None) (c.range.ensures.between tt)
    ∙ (
    λ i. least_accepted a None
    (entries_between selection_cmp (Included (c.first_key-first.ensures i)) Unbounded es)
    )
    ∙ least_after a es

pub returns-clause-least : goal.returns-clause-least
returns-clause-least c =
    let a = c.args.selection in
    let es = c.args.self.now.map.entries in
    c.least_within-2.ensures
    ∙ ap (least_accepted a None) (c.range-2.ensures.between tt)
    ∙ (
    λ i. least_accepted a None
    (entries_between selection_cmp (Included (c.first_key-first.ensures i)) (Excluded (c.next_key-next.ensures i)) es)
    )
    ∙ least_between a es
