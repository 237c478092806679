use Rattle.std.proofs.Common.{◌≡◌, ◌∷◌, ◌++◌, [], ap, ◌∙◌}
use Rattle.mp_match.proofs.MapSteps.{pushed_new}
use Rattle.mp_match.proofs.post_queues.PostQueues.push_first.Goals as goal

pub returns-in-Ok-insert-clause-ok : goal.returns-in-Ok-insert-clause-ok
returns-in-Ok-insert-clause-ok c =
    let items : c.push_back.new.self.items ≡ c.args.place ∷ [] =
    c.in-Ok.ensures.items ∙ ap (λ l. l ++ c.args.place ∷ []) c.new-queue.ensures.items in
    pushed_new c.args.self.now.map c.insert.new.self c.args.key c.args.place c.push_back.new.self c.requires
    c.in-Ok-insert.ensures.updates.0 items
