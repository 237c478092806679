use Rattle.std.proofs.Common.{arith}
use Rattle.std.proofs.lemmas.Option.{slice_get_within}
use Rattle.cl_alike.proofs.boxes.are_alike_parts.Goals as goal

pub returns : goal.returns
returns c = λ its. record {
  many = omega (arith, c.if-parts-others.false);
  each = λ i s t at there.
      let inside = slice_get_within c.args.parts.now i s at in
      c.loop-part.invariant i (omega (arith, inside, c.loop-part-test.false)) s t at there;
}
