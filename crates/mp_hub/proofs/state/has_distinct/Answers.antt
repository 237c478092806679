use Rattle.std.proofs.Common.{sym}
use Rattle.mp_hub.proofs.Rising.{rising_distinct}
use Rattle.mp_hub.proofs.state.has_distinct.Goals as goal

pub returns-then-are_rising : goal.returns-then-are_rising
returns-then-are_rising c =
    sym (rising_distinct c.args.posts.now (c.are_rising.ensures.0 c.if-are_rising.true))
