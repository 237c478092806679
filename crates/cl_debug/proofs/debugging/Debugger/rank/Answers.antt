use Rattle.std.proofs.Common.{◌<◌, arith, subst, sym, ap}
use Rattle.cl_debug.specs.Debugging.{Debugging}
use Rattle.cl_debug.specs.Places.{IsAt}
use Rattle.cl_debug.proofs.Shows.{owner_there, rank_at, ranks_count}
use Rattle.cl_debug.proofs.debugging.Debugger.rank.Goals as goal

pub index-requires : goal.index-requires
index-requires c =
    let d = c.self.inside in
    let count = ranks_count d.image d.steps.items d.place d.state c.self.invariant.here in
    omega (arith, count, ap (λ x. x.ranks) c.parts.ensures.parts, c.if-rank-parts.false, c.from.ensures)

pub returns-clause-shown : goal.returns-clause-shown
returns-clause-shown c = λ cluster at.
    let d = c.self.inside in
    let owner = c.index.result.now in
    let here = c.self.invariant.here in
    let low : c.args.rank < d.image.ranks =
    omega (arith, ap (λ x. x.ranks) c.parts.ensures.parts, c.if-rank-parts.false) in
    let there = owner_there d.image d.steps.items d.place d.state here c.args.rank c.from.result owner
    c.from.ensures low
    c.index.ensures in
    rank_at d.image d.steps.items d.place d.state here c.args.rank owner there cluster
    (subst (λ (x : Debugging). IsAt x.image x.steps x.place cluster) (sym c.self.view_is) at)
