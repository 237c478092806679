use Rattle.std.proofs.Common.{arith, sym, ◌<◌}
use Rattle.std.specs.Prelude.{vec_len}
use Rattle.rv_memory.proofs.Paged.{blank-take, taken}
use Rattle.rv_memory.proofs.spares.SparePages.take.Goals as goal

pub invariant_of-self : goal.invariant_of-self
invariant_of-self c = rw c.pop.ensures.rest (blank-take _ c.self.inside.pages.items c.self.invariant)

pub returns : goal.returns
returns c =
    taken c.pop.result c.self.inside.pages.items c.pop.new.self.items c.args.self.now (sym c.self.view_is) c.self.invariant c.pop.ensures.items
    (λ none. let no : ¬ (0 < vec_len c.self.inside.pages) = λ p. none (c.pop.ensures.variant.1 p) in omega (arith, no))
