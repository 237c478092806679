use Rattle.std.proofs.Common.{arith}
use Rattle.std.proofs.lemmas.Option.{slice_get_within}
use Rattle.cl_names_laws.specs.Named.{hart_by}
use Rattle.cl_alike.proofs.Lists.{mapped_by}
use Rattle.cl_alike.proofs.harts.are_alike_harts.Goals as goal

pub returns : goal.returns
returns c = λ naming listed its.
    mapped_by (hart_by naming) c.args.harts.now c.args.others.now (omega (arith, c.if-harts-others.false))
    (λ i x y at there.
    let inside = slice_get_within c.args.harts.now i x at in
    c.loop-hart.invariant naming listed i (omega (arith, inside, c.loop-hart-test.false)) x y at there)
