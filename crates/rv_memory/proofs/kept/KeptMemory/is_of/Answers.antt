use Rattle.std.proofs.Common.{rules, ◌≡◌, ◌∙◌, ◌/◌, List, ℕ, length, drop, refl, ap, sym, arith}
use Rattle.std.specs.Prelude.{Option}
use Rattle.rv_memory.specs.Held.{shown, IsHeld}
use Rattle.rv_memory.proofs.Same.{full-inside, memory_of, same-memory, same-slots}
use Rattle.rv_memory.proofs.kept.KeptMemory.is_of.Goals as goal

pub split_at-requires : goal.split_at-requires
split_at-requires c =
    omega (arith, c.len-full.ensures, ap length c.as_slice.ensures.value, full-inside c.self.inside.text c.self.inside.pages.items c.self.invariant)

pub split_at-requires-2 : goal.split_at-requires-2
split_at-requires-2 c =
    let same : c.self.inside.text ≡ c.memory.inside.text = search rules in
    omega (arith, c.len-full.ensures, ap length same, ap length c.as_slice-2.ensures.value, full-inside c.memory.inside.text c.memory.inside.pages.items c.memory.invariant)

pub returns : goal.returns
returns c =
    let t : List ℕ = c.self.inside.text in
    let ps : List (Option (List ℕ)) = c.self.inside.pages.items in
    let qs : List (Option (List ℕ)) = c.memory.inside.pages.items in
    let same : t ≡ c.memory.inside.text = search rules in
    let full : c.len-full.result / 4096 ≡ length t / 4096 = ap (λ n. n / 4096) c.len-full.ensures in
    let left : c.split_at.result.1.now ≡ drop (length t / 4096) ps = c.split_at.ensures.back ∙ rw (full, c.as_slice.ensures.value) refl in
    let right : c.split_at-2.result.1.now ≡ drop (length t / 4096) qs = c.split_at-2.ensures.back ∙ rw (full, c.as_slice-2.ensures.value) refl in
    let held : IsHeld t (shown t qs) = rw same c.memory.invariant in
    let other : c.args.memory.now ≡ memory_of t qs = sym c.memory.view_is ∙ ap (λ u. memory_of u qs) (sym same) in (
      λ r. sym c.self.view_is ∙ same-memory t ps qs c.self.invariant held (sym left ∙ c.are_same_pages.ensures.0 r ∙ right) ∙ sym other,
      λ e. c.are_same_pages.ensures.1 (left ∙ same-slots t ps qs c.self.invariant held (c.self.view_is ∙ e ∙ other) ∙ sym right),
    )
