use Rattle.std.specs.Prelude.{◌≡◌, [], max}
use Rattle.std.proofs.Common.{arith, subst, sym}
use Rattle.rvmc_changes.proofs.Walked.{has_ended}
use Rattle.rvmc_changes.specs.Given.{differences}
use Rattle.rvmc_changes.specs.Walking.{HasCome}
use Rattle.rvmc_changes.specs.Walks.{IsWalk, seen_at_start}
use Rattle.test_program.proofs.walks.changes_lead_to_what_is_shown.Goals as goal

pub returns : goal.returns
returns c = λ debugging same_image same_steps low high.
    let image = c.args.image.now in
    let steps = c.args.steps.now in
    let from = c.args.from in
    let to = c.args.to in
    let start = seen_at_start c.in_ok-walk.walk.start.items in
    let changes = differences c.in_ok-changes.changes.items in
    let come = c.in_ok-changes.ensures.on image from start [] c.in_ok-walk.ensures.begun in
    let last : to ≡ max from to = omega (arith, c.requires.order) in
    let is : IsWalk image steps from to start changes =
    has_ended image steps from to start changes c.go_on.new.state
    (subst (λ n. HasCome image steps from n start changes c.go_on.new.state) last come) c.requires.within in
    c.walk_law.ensures debugging from to start changes
    (subst (λ of. IsWalk of debugging.steps from to start changes) (sym same_image)
    (subst (λ all. IsWalk image all from to start changes) (sym same_steps) is)) low high
