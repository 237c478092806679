use Rattle.std.proofs.Common.{arith}
use Rattle.rv_memory.proofs.Shown.{shown-all, shown-length, held-most}
use Rattle.rv_memory.proofs.memory.RankMemory.size.Goals as goal

pub returns-clause-value : goal.returns-clause-value
returns-clause-value c = rw (← c.self.view_is) (omega (arith, shown-all c.self.inside.text c.self.inside.pages.items c.self.invariant.whole, c.len.ensures))

pub returns-clause-least : goal.returns-clause-least
returns-clause-least c = omega (arith, shown-length c.self.inside.text c.self.inside.pages.items, c.self.invariant.least, c.len.ensures)

pub returns-clause-most : goal.returns-clause-most
returns-clause-most c = omega (arith, shown-length c.self.inside.text c.self.inside.pages.items, c.self.invariant.most, c.len.ensures)

pub overflow_mul-result : goal.overflow_mul-result
overflow_mul-result c = omega (arith, held-most c.self.inside.text c.self.inside.pages.items c.self.invariant, c.len.ensures)
