use Rattle.std.proofs.Common.{◌∙◌, arith, ap, sym}
use Rattle.rv_memory.specs.Memory.{Memory}
use Rattle.rv_memory.proofs.Touched.{written_from-all}
use Rattle.rv_memory.proofs.Shown.{held-most, held-same}
use Rattle.rv_memory.proofs.memory.RankMemory.place.Goals as goal

pub place-requires-clause-most : goal.place-requires-clause-most
place-requires-clause-most c = omega (arith, held-most c.self.inside.text c.self.inside.pages.items c.self.invariant)

pub invariant_of-self : goal.invariant_of-self
invariant_of-self c =
    let kept = c.as_slice.ensures in
    held-same c.self.inside.text c.self.inside.pages.items c.place.new.pages.items c.self.invariant (rw kept at c.place.ensures.whole) c.place.ensures.long (rw kept at c.place.ensures.bytes)

pub returns-then-missing-eq0-clause-placed : goal.returns-then-missing-eq0-clause-placed
returns-then-missing-eq0-clause-placed c _ =
    let was : Memory = c.args.self.now in
    sym (ap (λ pages. record was { pages = pages })
    (written_from-all 0 was.pages c.args.address c.args.count (sym c.missing-missing.ensures.value ∙ c.if-missing-eq0.true)))
