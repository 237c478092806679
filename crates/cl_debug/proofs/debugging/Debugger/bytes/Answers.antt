use Rattle.std.proofs.Common.{◌<◌, arith, subst, sym, ap, refl}
use Rattle.cl_state.specs.Room.{rank_of}
use Rattle.cl_debug.specs.Debugging.{Debugging}
use Rattle.cl_debug.specs.Places.{IsAt}
use Rattle.cl_debug.specs.Shown.{IsOutside}
use Rattle.cl_debug.proofs.Shows.{outside_all, outside_here, owner_there, rank_at, ranks_count}
use Rattle.cl_debug.proofs.debugging.Debugger.bytes.Goals as goal

pub index-owner-requires : goal.index-owner-requires
index-owner-requires c =
    let d = c.self.inside in
    let count = ranks_count d.image d.steps.items d.place d.state c.self.invariant.here in
    omega (arith, count, ap (λ x. x.ranks) c.parts.ensures.parts, c.if-rank-parts.false, c.from.ensures)

pub returns-in-Ok-clause-shown : goal.returns-in-Ok-clause-shown
returns-in-Ok-clause-shown c = λ cluster at.
    let d = c.self.inside in
    let owner = c.index-owner.result.now in
    let here = c.self.invariant.here in
    let low : c.args.rank < d.image.ranks =
    omega (arith, ap (λ x. x.ranks) c.parts.ensures.parts, c.if-rank-parts.false) in
    let there = owner_there d.image d.steps.items d.place d.state here c.args.rank c.from.result owner
    c.from.ensures low
    c.index-owner.ensures in (
      rank_of owner,
      rank_at d.image d.steps.items d.place d.state here c.args.rank owner there cluster
          (subst (λ (x : Debugging). IsAt x.image x.steps x.place cluster) (sym c.self.view_is) at),
      c.in-Ok.ensures.read,
    )

pub returns-in-Ok-clause-range : goal.returns-in-Ok-clause-range
returns-in-Ok-clause-range c =
    let d = c.self.inside in
    let owner = c.index-owner.result.now in
    let here = c.self.invariant.here in
    let low : c.args.rank < d.image.ranks =
    omega (arith, ap (λ x. x.ranks) c.parts.ensures.parts, c.if-rank-parts.false) in
    let there = owner_there d.image d.steps.items d.place d.state here c.args.rank c.from.result owner
    c.from.ensures low
    c.index-owner.ensures in (
      λ same. absurd (cc),
      λ h.
          let outside = subst (λ (x : Debugging). IsOutside x c.args.rank c.args.address c.args.count) (sym
          c.self.view_is) h.1 in
          let none = outside_here d.image d.steps.items d.place d.state here c.args.rank c.args.address
          c.args.count owner
          c.self.invariant.inside there outside in
          let refused = c.in-Ok.ensures.range.1 none in absurd (cc),
    )

pub returns-in-Err-Range-clause-range : goal.returns-in-Err-Range-clause-range
returns-in-Err-Range-clause-range c =
    let d = c.self.inside in
    let owner = c.index-owner.result.now in
    let here = c.self.invariant.here in
    let low : c.args.rank < d.image.ranks =
    omega (arith, ap (λ x. x.ranks) c.parts.ensures.parts, c.if-rank-parts.false) in
    let there = owner_there d.image d.steps.items d.place d.state here c.args.rank c.from.result owner
    c.from.ensures low
    c.index-owner.ensures in
    let range = rw c.in-Err-Range.field-0-is at c.in-Err-Range.ensures.range in (
      λ same. (
        subst (λ (x : Debugging). c.args.rank < x.image.ranks) c.self.view_is low,
        subst (λ (x : Debugging). IsOutside x c.args.rank c.args.address c.args.count) c.self.view_is
            (outside_all d.image d.steps.items d.place d.state here c.args.rank c.args.address c.args.count owner there
            (range.0 refl)),
      ),
      λ h. refl,
    )

pub returns-in-Err-Memory-clause-range : goal.returns-in-Err-Memory-clause-range
returns-in-Err-Memory-clause-range c =
    let d = c.self.inside in
    let owner = c.index-owner.result.now in
    let here = c.self.invariant.here in
    let low : c.args.rank < d.image.ranks =
    omega (arith, ap (λ x. x.ranks) c.parts.ensures.parts, c.if-rank-parts.false) in
    let there = owner_there d.image d.steps.items d.place d.state here c.args.rank c.from.result owner
    c.from.ensures low
    c.index-owner.ensures in
    let range = rw c.in-Err-Memory.field-0-is at c.in-Err-Memory.ensures.range in (
      λ same. absurd (cc),
      λ h.
          let outside = subst (λ (x : Debugging). IsOutside x c.args.rank c.args.address c.args.count) (sym
          c.self.view_is) h.1 in
          let none = outside_here d.image d.steps.items d.place d.state here c.args.rank c.args.address
          c.args.count owner
          c.self.invariant.inside there outside in
          let refused = range.1 none in absurd (cc),
    )
