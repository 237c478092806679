-- The value that is read is that of the bytes at the place, and below 256 to their count.
use Rattle.rv_memory.proofs.page.value.Goals as goal
use Rattle.std.proofs.Common.{◌≡◌, ◌<◌, ◌≤◌, ℕ, List, length, get_or, drop, ◌+◌, ◌-◌, ◌∙◌, ap, arith, length-take, length-drop}
use Rattle.std.proofs.lemmas.List.{get_or-take, get_or-drop}
use Rattle.std.specs.Int.{w64, from_le_bytes}
use Rattle.std.specs.List.{slice_range}
use Rattle.rv_memory.proofs.Values.{value_at-below, value_at-widened}

pub returns-clause-value : goal.returns-clause-value
returns-clause-value c =
    let inside : c.args.at + c.args.count ≤ length c.args.bytes.now = c.requires.inside in
    let most : c.args.count ≤ 8 = c.requires.most in
    let part : List ℕ = slice_range c.args.bytes.now c.args.at (c.args.at + c.args.count) in
    let long : length part ≡ c.args.count = simp (length-take, length-drop) (omega arith) in
    let same : (i : ℕ) → i < c.args.count → get_or part i 0 ≡ get_or c.args.bytes.now (c.args.at + i) 0 =
    λ i p. get_or-take (c.args.at + c.args.count - c.args.at) (drop c.args.at c.args.bytes.now) i 0 (omega arith) ∙ get_or-drop c.args.at c.args.bytes.now i 0 in
    let eight : c.args.count + (8 - length part) ≡ 8 = omega arith in
    c.from_le_bytes.ensures ∙ ap (from_le_bytes w64) c.widened.ensures
    ∙ value_at-widened part c.args.bytes.now c.args.at c.args.count (8 - length part) long eight same

pub returns-clause-bound : goal.returns-clause-bound
returns-clause-bound c =
    rw (returns-clause-value c) (value_at-below c.args.bytes.now c.args.at c.args.count (λ i. omega (arith, c.type_inv.bytes i)))
