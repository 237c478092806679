use Rattle.std.proofs.Common.{◌≡◌, length, ap, arith}
use Rattle.rv_memory.specs.Held.{all_bytes, shown}
use Rattle.rv_memory.specs.Memory.{Memory}
use Rattle.rv_memory.proofs.Shown.{shown-all, held-most}
use Rattle.rv_memory.proofs.memory.RankMemory.word.Goals as goal

pub copy-requires-clause-inside : goal.copy-requires-clause-inside
copy-requires-clause-inside c =
    let bytes : length (all_bytes (shown c.self.inside.text c.self.inside.pages.items)) ≡ length c.args.self.now.bytes = ap (λ (m : Memory). length m.bytes) c.self.view_is in
    omega (arith, bytes, shown-all c.self.inside.text c.self.inside.pages.items c.self.invariant.whole, ap length c.as_slice-2.ensures.value, c.requires)

pub copy-requires-clause-most : goal.copy-requires-clause-most
copy-requires-clause-most c = omega (arith, held-most c.self.inside.text c.self.inside.pages.items c.self.invariant, ap length c.as_slice-2.ensures.value)
