use Rattle.std.specs.List.{each_same}
use Rattle.std.specs.Ordering.{is_eq}
use Rattle.mp_match.specs.Queued.{selection_cmp}
use Rattle.mp_match.proofs.MapSteps.{queues_copied}
use Rattle.mp_match.proofs.post_queues.PostQueues.try_copy.Goals as goal

pub returns : goal.returns
returns c = λ k.
    queues_copied _ _ (λ x y e. e) (λ v w e. each_same v.items w.items e.0) (λ q. is_eq (selection_cmp k q))
    c.args.self.now.map.entries c.in_ok-clone.field-0.entries c.in_ok-clone.ensures.cases
