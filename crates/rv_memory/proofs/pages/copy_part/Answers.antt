use Rattle.std.proofs.Common.{◌≡◌, ◌+◌, ◌-◌, ◌∙◌, arith, refl}
use Rattle.rv_memory.proofs.pages.copy_part.Goals as goal

pub returns-in-Some : goal.returns-in-Some
returns-in-Some c =
    let n : c.args.at + c.args.count - c.args.at ≡ c.args.count = omega arith in
    c.put.ensures ∙ rw (n, c.bytes.ensures.bytes, c.in-Some.is) refl
