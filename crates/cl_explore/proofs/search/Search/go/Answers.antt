use Rattle.std.proofs.Common.{arith, ap, refl, subst, sym, ◌∙◌, ◌++◌, ◌∷◌, []}
use Rattle.std.proofs.lemmas.Option.{same_Some, slice_get_read}
use Rattle.cl_moves.specs.Standing.{Takes}
use Rattle.cl_explore.specs.Kept.{HaveStayed, IsLiveOf}
use Rattle.cl_explore.specs.declared.kept.KeptNode.{KeptNode}
use Rattle.cl_explore.specs.declared.leads.Lead.{Lead}
use Rattle.cl_explore.proofs.Tries.{goes_nowhere, goes_on, goes_past, not_kept}
use Rattle.cl_explore.specs.How.{how_in}
use Rattle.cl_explore.proofs.search.Search.go.Goals as goal

pub returns-then-node-len-clause-goes : goal.returns-then-node-len-clause-goes
returns-then-node-len-clause-goes c = λ image nodes node found there at planned.
    let kept = c.args.self.now.nodes in
    absurd (not_kept c.args.course.now.order.now kept.items c.args.node
    (omega (arith, c.if-node-len.true, c.len.ensures, kept.ok.0)) image nodes node found.are there)

pub returns-then-not-branch-clause-goes : goal.returns-then-not-branch-clause-goes
returns-then-not-branch-clause-goes c =
    let kept = c.args.self.now.nodes in
    let here = slice_get_read kept.items c.len.result c.args.node c.index-kept.result.now
    (c.len.ensures ∙ kept.ok.0) c.if-node-len.false c.index-kept.ensures in
    goes_nowhere c.args.course.now.order.now kept.items c.args.node c.index-kept.result.now here (how_in c.args.course.now)
    c.args.self.now refl c.args.live.now c.renew.new.standing c.args.turn
    (subst (λ b. Takes c.args.live.now c.args.turn c.take.new.self b) c.if-not-branch.true c.in_ok-take.ensures.takes)
    c.in_ok-renew.ensures

pub returns-then-node-len-2-clause-goes : goal.returns-then-node-len-2-clause-goes
returns-then-node-len-2-clause-goes c =
    let new = c.arrive.new.self.nodes in
    goes_past (how_in c.args.course.now) c.args.course.now.order.now c.args.self.now _ c.args.node c.in_ok-to.to c.args.turn
    c.args.live.now c.take.new.self c.go_on.new.live _
    (subst (λ b. Takes c.args.live.now c.args.turn c.take.new.self b) c.if-not-branch.false c.in_ok-take.ensures.takes)
    c.in_ok-fewer.ensures.on c.in_ok-to.ensures.arrives (omega (arith, c.if-node-len-2.true, c.len-2.ensures, new.ok.0))

pub returns-clause-goes : goal.returns-clause-goes
returns-clause-goes c =
    let new = c.arrive.new.self.nodes in
    let again = c.index-again.result.now in
    let here = slice_get_read new.items c.len-2.result c.args.node again (c.len-2.ensures ∙ new.ok.0)
    c.if-node-len-2.false c.index-again.ensures in
    let lead : Lead = record { rank = c.rank-rank.result; from = c.args.node; to = c.in_ok-to.to } in
    goes_on (how_in c.args.course.now) c.args.course.now.order.now c.args.self.now _ c.args.node c.in_ok-to.to lead c.args.turn
    c.args.live.now c.take.new.self c.go_on.new.live c.restore.new.standing c.rank-rank.ensures refl refl
    (c.in_ok-push.ensures.items ∙ ap (λ ls. ls.items ++ lead ∷ []) c.in_ok-to.ensures.leads)
    (subst (λ b. Takes c.args.live.now c.args.turn c.take.new.self b) c.if-not-branch.false c.in_ok-take.ensures.takes)
    c.in_ok-fewer.ensures.on c.in_ok-to.ensures.arrives
    (λ k at stayed.
    let same = same_Some again k (sym here ∙ at) in
    subst (λ (x : KeptNode). IsLiveOf x c.restore.new.standing) same
    (c.in_ok-restore.ensures (subst (λ (x : KeptNode). HaveStayed x c.go_on.new.live) (sym same) stayed)))
