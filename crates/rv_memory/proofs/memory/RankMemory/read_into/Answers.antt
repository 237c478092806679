use Rattle.std.proofs.Common.{◌≡◌, ◌+◌, ◌≤◌, length, take, length-take, ap, arith}
use Rattle.rv_memory.specs.Held.{all_bytes, shown}
use Rattle.rv_memory.specs.Memory.{Memory}
use Rattle.rv_memory.proofs.Shown.{shown-all, held-most}
use Rattle.rv_memory.proofs.memory.RankMemory.read_into.Goals as goal

pub copy-requires-clause-inside : goal.copy-requires-clause-inside
copy-requires-clause-inside c =
    let bytes : length (all_bytes (shown c.self.inside.text c.self.inside.pages.items)) ≡ length c.args.self.now.bytes = ap (λ (m : Memory). length m.bytes) c.self.view_is in
    let long : length (take c.min-count.result c.args.out.now) ≤ c.min-count.result = omega (arith, length-take c.min-count.result c.args.out.now) in
    let inside : c.args.address + c.min-count.result ≤ length c.args.self.now.bytes = grind arith in
    omega (arith, bytes, shown-all c.self.inside.text c.self.inside.pages.items c.self.invariant.whole, ap length c.as_slice-2.ensures.value, long, inside)

pub copy-requires-clause-most : goal.copy-requires-clause-most
copy-requires-clause-most c = omega (arith, held-most c.self.inside.text c.self.inside.pages.items c.self.invariant, ap length c.as_slice-2.ensures.value)
