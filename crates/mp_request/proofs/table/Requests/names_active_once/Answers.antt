use Rattle.std.proofs.Common.{sym, ◌∙◌}
use Rattle.mp_request.specs.Entries.{is_active}
use Rattle.mp_request.specs.Table.{has}
use Rattle.mp_request.proofs.Distinct.{distinct_behind_at, distinct_not_at, rising_distinct}
use Rattle.mp_request.proofs.table.Requests.names_active_once.Goals as goal
use Rattle.mp_request.proofs.table.Requests.names_active_once.Goals.{else-is_active-via-then-is_active+else-stands_behind, else-is_active-via-else-is_active}

pub returns-then-are_rising : goal.returns-then-are_rising
returns-then-are_rising c =
    sym
    (rising_distinct (has is_active c.args.self.now) c.args.handles.now
    (c.are_rising.ensures.0 c.if-are_rising.true))

pub returns-then-stands_behind : goal.returns-then-stands_behind
returns-then-stands_behind c =
    sym
    (c.loop-place.invariant
    ∙ distinct_not_at (has is_active c.args.self.now) c.args.handles.now c.loop-place.place c.loop-place-test.true
    (sym c.if-is_active.ensures) (sym c.if-stands_behind.ensures))

pub loop-place-preserved : goal.loop-place-preserved
loop-place-preserved c =
    c.loop-place.invariant
    ∙ distinct_behind_at (has is_active c.args.self.now) c.args.handles.now c.loop-place.place c.loop-place-test.true
    (λ active. elim c.else-is_active.branch [
      | else-is_active-via-then-is_active+else-stands_behind w ↦ sym w.if-stands_behind.ensures
      | else-is_active-via-else-is_active w ↦ let idle = w.if-is_active.ensures in absurd (cc)
    ])
