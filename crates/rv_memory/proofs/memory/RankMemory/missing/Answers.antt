use Rattle.std.proofs.Common.{length, ap, arith}
use Rattle.rv_memory.proofs.Shown.{held-most}
use Rattle.rv_memory.proofs.memory.RankMemory.missing.Goals as goal

pub missing-requires : goal.missing-requires
missing-requires c = omega (arith, held-most c.self.inside.text c.self.inside.pages.items c.self.invariant, ap length c.as_slice-2.ensures.value)

pub returns-clause-most : goal.returns-clause-most
returns-clause-most c = omega (arith, held-most c.self.inside.text c.self.inside.pages.items c.self.invariant, ap length c.as_slice-2.ensures.value, c.missing.ensures.most)
