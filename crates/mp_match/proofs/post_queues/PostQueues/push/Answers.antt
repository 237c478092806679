use Rattle.std.proofs.Common.{sym, ap, ◌∙◌}
use Rattle.std.specs.Option.{is_some}
use Rattle.std.specs.BTreeMap as tree
use Rattle.mp_match.specs.Queued.{selection_cmp}
use Rattle.mp_match.proofs.MapSteps.{pushed_behind, pushed_nothing}
use Rattle.mp_match.proofs.post_queues.PostQueues.push.Goals as goal

pub returns-in-Ok-clause-ok : goal.returns-in-Ok-clause-ok
returns-in-Ok-clause-ok c =
    let w = c.push_back.new.self in
    let had = sym c.in-Some.ensures.value in
    pushed_behind c.args.self.now.map (c.get_mut.follows.lender w) c.args.key c.args.place c.in-Some.queue.now w had
    ((c.get_mut.follows.holds w).3 (ap is_some had)).0 c.in-Ok.ensures.items

pub returns-in-Err-clause-err : goal.returns-in-Err-clause-err
returns-in-Err-clause-err c =
    let w = c.push_back.new.self in
    let had = sym c.in-Some.ensures.value in
    pushed_nothing c.args.self.now.map (c.get_mut.follows.lender w) c.args.key c.in-Some.queue.now w had
    ((c.get_mut.follows.holds w).3 (ap is_some had)).0 c.in-Err.ensures.items

pub push_first-requires : goal.push_first-requires
push_first-requires c =
    ap (λ m. tree.get selection_cmp m c.args.key) c.get_mut.follows.holds-at-none ∙ sym c.in_default.ensures.value
