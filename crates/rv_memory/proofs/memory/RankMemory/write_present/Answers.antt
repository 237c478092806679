use Rattle.std.proofs.Common.{◌≡◌, ◌<◌, List, [], ◌∷◌, length, ap, sym, refl, arith}
use Rattle.std.specs.Prelude.{ℕ}
use Rattle.rv_memory.specs.Held.{all_bytes, shown}
use Rattle.rv_memory.specs.Memory.{Memory}
use Rattle.rv_memory.proofs.Marked.{with_no_bytes, writable-inside, writable-behind, written-present}
use Rattle.rv_memory.proofs.Shown.{shown-all, held-most}
use Rattle.rv_memory.proofs.memory.RankMemory.write_present.Goals as goal

empty : (xs : List ℕ) → length xs ≡ 0 → xs ≡ []
empty [] e = refl
empty (x ∷ xs) e = absurd (omega (arith, e))

pub fill-requires-clause-behind : goal.fill-requires-clause-behind
fill-requires-clause-behind c =
    let text : length c.self.inside.text ≡ c.args.self.now.text = ap (λ (m : Memory). m.text) c.self.view_is in
    let some : 0 < length c.args.bytes.now = grind arith in
    omega (arith, text, ap length c.as_slice.ensures, writable-behind c.args.self.now c.args.address (length c.args.bytes.now) some c.requires.right)

pub fill-requires-clause-inside : goal.fill-requires-clause-inside
fill-requires-clause-inside c =
    let bytes : length (all_bytes (shown c.self.inside.text c.self.inside.pages.items)) ≡ length c.args.self.now.bytes = ap (λ (m : Memory). length m.bytes) c.self.view_is in
    let some : 0 < length c.args.bytes.now = grind arith in
    omega (arith, bytes, shown-all c.self.inside.text c.self.inside.pages.items c.self.invariant.whole, writable-inside c.args.self.now c.args.address (length c.args.bytes.now) some c.requires.right)

pub returns-then-not-is_empty : goal.returns-then-not-is_empty
returns-then-not-is_empty c =
    rw (← c.self.view_is, rw c.as_slice.ensures at c.fill.ensures.bytes, rw c.as_slice.ensures at c.fill.ensures.there, written-present 0 _ c.args.address (length c.args.bytes.now) (rw (← c.self.view_is) at c.requires.present)) refl

pub returns-else-not-is_empty : goal.returns-else-not-is_empty
returns-else-not-is_empty c =
    let zero : length c.args.bytes.now ≡ 0 = grind arith in
    rw (empty c.args.bytes.now zero) (sym (with_no_bytes c.args.self.now c.args.address))

pub fill-requires-clause-most : goal.fill-requires-clause-most
fill-requires-clause-most c = omega (arith, held-most c.self.inside.text c.self.inside.pages.items c.self.invariant)
