use Rattle.std.proofs.Common.{◌≡◌, ◌<◌, ◌∙◌, List, [], ◌∷◌, length, ap, sym, refl, arith}
use Rattle.std.specs.Prelude.{ℕ, Option}
use Rattle.rv_memory.specs.Present.{IsWritable}
use Rattle.rv_memory.specs.Held.{all_bytes, shown}
use Rattle.rv_memory.specs.Memory.{Memory}
use Rattle.rv_memory.proofs.Marked.{with_no_bytes, writable-inside, writable-behind}
use Rattle.rv_memory.proofs.Shown.{shown-all, held-most, held-written}
use Rattle.rv_memory.proofs.memory.RankMemory.write_bytes.Goals as goal

empty : (xs : List ℕ) → length xs ≡ 0 → xs ≡ []
empty [] e = refl
empty (x ∷ xs) e = absurd (omega (arith, e))

pub returns-then-is_empty-clause-written : goal.returns-then-is_empty-clause-written
returns-then-is_empty-clause-written c =
    let zero : length c.args.bytes.now ≡ 0 = grind arith in
    rw (empty c.args.bytes.now zero) (sym (with_no_bytes c.args.self.now c.args.address))

pub write-requires-clause-behind : goal.write-requires-clause-behind
write-requires-clause-behind c =
    let text : length c.self.inside.text ≡ c.args.self.now.text = ap (λ (m : Memory). m.text) c.self.view_is in
    let some : 0 < length c.args.bytes.now = grind arith in
    let right : IsWritable c.args.self.now c.args.address (length c.args.bytes.now) = sym c.in_range.ensures ∙ c.if-not-in_range.false in
    omega (arith, text, ap length c.as_slice.ensures, writable-behind c.args.self.now c.args.address (length c.args.bytes.now) some right)

pub write-requires-clause-inside : goal.write-requires-clause-inside
write-requires-clause-inside c =
    let bytes : length (all_bytes (shown c.self.inside.text c.self.inside.pages.items)) ≡ length c.args.self.now.bytes = ap (λ (m : Memory). length m.bytes) c.self.view_is in
    let some : 0 < length c.args.bytes.now = grind arith in
    let right : IsWritable c.args.self.now c.args.address (length c.args.bytes.now) = sym c.in_range.ensures ∙ c.if-not-in_range.false in
    omega (arith, bytes, shown-all c.self.inside.text c.self.inside.pages.items c.self.invariant.whole, writable-inside c.args.self.now c.args.address (length c.args.bytes.now) some right)

pub write-requires-clause-most : goal.write-requires-clause-most
write-requires-clause-most c = omega (arith, held-most c.self.inside.text c.self.inside.pages.items c.self.invariant)

pub invariant_of-self : goal.invariant_of-self
invariant_of-self c =
    let slots : List (Option (List ℕ)) = c.self.inside.pages.items in
    let text : length c.self.inside.text ≡ c.args.self.now.text = ap (λ (m : Memory). m.text) c.self.view_is in
    let bytes : length (all_bytes (shown c.self.inside.text slots)) ≡ length c.args.self.now.bytes = ap (λ (m : Memory). length m.bytes) c.self.view_is in
    let some : 0 < length c.args.bytes.now = grind arith in
    let right : IsWritable c.args.self.now c.args.address (length c.args.bytes.now) = sym c.in_range.ensures ∙ c.if-not-in_range.false in
    let kept = c.as_slice.ensures in
    held-written c.write.result c.self.inside.text slots c.write.new.pages.items c.args.address c.args.bytes.now c.self.invariant
    (omega (arith, text, writable-behind c.args.self.now c.args.address (length c.args.bytes.now) some right))
    (omega (arith, bytes, shown-all c.self.inside.text slots c.self.invariant.whole, writable-inside c.args.self.now c.args.address (length c.args.bytes.now) some right))
    (rw kept at c.write.ensures.whole) c.write.ensures.long (rw kept at c.write.ensures.bytes) c.write.ensures.unchanged
