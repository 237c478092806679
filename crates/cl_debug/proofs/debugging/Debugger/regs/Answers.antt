use Rattle.std.proofs.Common.{◌<◌, arith, subst, sym, ap}
use Rattle.cl_debug.specs.Debugging.{Debugging}
use Rattle.cl_debug.specs.Places.{IsAt}
use Rattle.cl_debug.proofs.Shows.{hart_there, harts_count, owner_there, ranks_count, shows_hart}
use Rattle.cl_debug.proofs.debugging.Debugger.regs.Goals as goal

pub index-owner-requires : goal.index-owner-requires
index-owner-requires c =
    let d = c.self.inside in
    let count = ranks_count d.image d.steps.items d.place d.state c.self.invariant.here in
    let parts = ap (λ x. x.ranks) c.parts-parts.ensures.parts in
    omega (arith, count, parts, c.if-rank-parts.false, c.from.ensures)

pub index-requires : goal.index-requires
index-requires c =
    let d = c.self.inside in
    let owner = c.index-owner.result.now in
    let low : c.args.rank < d.image.ranks =
    omega (arith, ap (λ x. x.ranks) c.parts-parts.ensures.parts, c.if-rank-parts.false) in
    let there = owner_there d.image d.steps.items d.place d.state c.self.invariant.here c.args.rank c.from.result owner
    c.from.ensures low c.index-owner.ensures in
    let count = harts_count d.image d.steps.items d.place d.state c.self.invariant.here c.args.rank owner there in
    omega (arith, count, ap (λ x. x.harts) c.parts-parts.ensures.parts, c.if-hart-parts.false, c.from-2.ensures)

pub returns-clause-shown : goal.returns-clause-shown
returns-clause-shown c = λ cluster at.
    let d = c.self.inside in
    let owner = c.index-owner.result.now in
    let here = c.self.invariant.here in
    let low : c.args.rank < d.image.ranks =
    omega (arith, ap (λ x. x.ranks) c.parts-parts.ensures.parts, c.if-rank-parts.false) in
    let hart_low : c.args.hart < d.image.harts =
    omega (arith, ap (λ x. x.harts) c.parts-parts.ensures.parts, c.if-hart-parts.false) in
    let there = owner_there d.image d.steps.items d.place d.state here c.args.rank c.from.result owner
    c.from.ensures low
    c.index-owner.ensures in
    shows_hart d.image d.steps.items d.place d.state here c.args.rank c.args.hart owner c.index.result.now there
    (hart_there d.image d.steps.items d.place d.state here c.args.rank c.args.hart c.from-2.result owner
    c.index.result.now
    there c.from-2.ensures hart_low c.index.ensures)
    cluster (subst (λ (x : Debugging). IsAt x.image x.steps x.place cluster) (sym c.self.view_is) at)
