-- The two ranks of a link sit in the two parts of the list.
use Rattle.std.proofs.Common.{◌≡◌, Some, arith, slice_get, slice_index_or}
use Rattle.cl_run.proofs.Pairs.{HaveBoth, both_agree, have_both, high_at, low_at}
use Rattle.cl_run.proofs.driver.agree_on.Goals as goal
use Rattle.cl_run.proofs.driver.agree_on.Goals.{After-index-high-0, After-index-low-link-else-link}

-- ---- where the sender's rank is the lower one

sender_low : (g : _) (c : After-index-high-0 g)
    → slice_get c.args.seats.now c.args.link.from
    ≡ Some (slice_index_or c.split_at_mut-low.result.0.now c.args.link.from c.index-low-link.result)
sender_low g c =
    low_at c.args.seats.now c.split_at_mut-low.result.0.now c.split_at_mut-low.result.1.now c.args.link.to
    c.split_at_mut-low.ensures.value c.split_at_mut-low.ensures.front_len c.args.link.from c.index-low-link.result
    (omega (arith, c.if-link.true))

receiver_high : (g : _) (c : After-index-high-0 g)
    → slice_get c.args.seats.now c.args.link.to
    ≡ Some (slice_index_or c.split_at_mut-low.result.1.now 0 c.index-high-0.result)
receiver_high g c =
    high_at c.args.seats.now c.split_at_mut-low.result.0.now c.split_at_mut-low.result.1.now c.args.link.to
    c.split_at_mut-low.ensures.value c.split_at_mut-low.ensures.front_len c.index-high-0.result c.requires.link.to_there

upward : (g : _) (c : After-index-high-0 g)
    → HaveBoth g.S.Sits.seen c.args.seats.now c.args.link c.args.place.link c.args.place.part _ _
    (sender_low g c) (receiver_high g c) c.args.channels.now
upward g c =
    have_both g.S.Sits.seen c.args.seats.now c.args.link c.args.place.link c.args.place.part _ _
    (sender_low g c) (receiver_high g c) c.args.channels.now c.requires.keys

pub agree_with-requires-clause-sender : goal.agree_with-requires-clause-sender
agree_with-requires-clause-sender g c = (upward g c).sender_over

pub agree_with-requires-clause-receiver : goal.agree_with-requires-clause-receiver
agree_with-requires-clause-receiver g c = (upward g c).receiver_over

pub agree_with-requires-clause-sends : goal.agree_with-requires-clause-sends
agree_with-requires-clause-sends g c = (upward g c).sends

pub agree_with-requires-clause-receives : goal.agree_with-requires-clause-receives
agree_with-requires-clause-receives g c = (upward g c).receives

pub returns-then-link-clause-agree : goal.returns-then-link-clause-agree
returns-then-link-clause-agree g c =
    let at = (goal.at.returns-then-link-clause-agree g c).After-index-high-0 in
    both_agree g.S.Sits.seen c.args.seats.now c.args.link c.args.place.link c.args.place.part _ _
    (sender_low g at) (receiver_high g at) c.agree_with.ensures.agreed

-- ---- where it is the higher one

sender_high : (g : _) (c : After-index-low-link-else-link g)
    → slice_get c.args.seats.now c.args.link.from
    ≡ Some (slice_index_or c.split_at_mut-low-else-link.result.1.now 0 c.index-high-0-else-link.result)
sender_high g c =
    high_at c.args.seats.now c.split_at_mut-low-else-link.result.0.now c.split_at_mut-low-else-link.result.1.now
    c.args.link.from c.split_at_mut-low-else-link.ensures.value c.split_at_mut-low-else-link.ensures.front_len
    c.index-high-0-else-link.result c.requires.link.from_there

receiver_low : (g : _) (c : After-index-low-link-else-link g)
    → slice_get c.args.seats.now c.args.link.to
    ≡ Some (slice_index_or c.split_at_mut-low-else-link.result.0.now c.args.link.to c.index-low-link-else-link.result)
receiver_low g c =
    low_at c.args.seats.now c.split_at_mut-low-else-link.result.0.now c.split_at_mut-low-else-link.result.1.now
    c.args.link.from c.split_at_mut-low-else-link.ensures.value c.split_at_mut-low-else-link.ensures.front_len
    c.args.link.to c.index-low-link-else-link.result (omega (arith, c.if-link.false, c.requires.link.differ))

downward : (g : _) (c : After-index-low-link-else-link g)
    → HaveBoth g.S.Sits.seen c.args.seats.now c.args.link c.args.place.link c.args.place.part _ _
    (sender_high g c) (receiver_low g c) c.args.channels.now
downward g c =
    have_both g.S.Sits.seen c.args.seats.now c.args.link c.args.place.link c.args.place.part _ _
    (sender_high g c) (receiver_low g c) c.args.channels.now c.requires.keys

pub agree_with-requires-else-link-clause-sender : goal.agree_with-requires-else-link-clause-sender
agree_with-requires-else-link-clause-sender g c = (downward g c).sender_over

pub agree_with-requires-else-link-clause-receiver : goal.agree_with-requires-else-link-clause-receiver
agree_with-requires-else-link-clause-receiver g c = (downward g c).receiver_over

pub agree_with-requires-else-link-clause-sends : goal.agree_with-requires-else-link-clause-sends
agree_with-requires-else-link-clause-sends g c = (downward g c).sends

pub agree_with-requires-else-link-clause-receives : goal.agree_with-requires-else-link-clause-receives
agree_with-requires-else-link-clause-receives g c = (downward g c).receives

pub returns-else-link-clause-agree : goal.returns-else-link-clause-agree
returns-else-link-clause-agree g c =
    let at = (goal.at.returns-else-link-clause-agree g c).After-index-low-link-else-link in
    both_agree g.S.Sits.seen c.args.seats.now c.args.link c.args.place.link c.args.place.part _ _
    (sender_high g at) (receiver_low g at) c.agree_with-else-link.ensures.agreed
