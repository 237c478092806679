-- An address past all others is as good as the last of them: no memory is there.
use Rattle.std.proofs.Common.{◌≡◌, ◌≤◌, ◌+◌, ◌-◌, ℕ, refl, ap, sym, ◌∙◌, Bool, true, false, List, [], ◌∷◌, length}
use Rattle.std.proofs.Common.{arith}
use Rattle.std.specs.Prelude.{◌==◌, ◌^◌, ◌&&◌, ◌||◌, if◌then◌else◌, min, nat_le, take}
use Rattle.std.proofs.lemmas.Bool.{leb-false, leb-true, lt-leb, ne_eqb}
use Rattle.std.proofs.lemmas.List.{drop_all}
use Rattle.std.proofs.Math.Nat.{min-eq_left, min-eq_right}
use Rattle.std.proofs.Math.Seq.{take-nil}
use Rattle.rv_memory.specs.Memory.{Memory, bytes_at, with_bytes}
use Rattle.cl_state.specs.Written.{written}

outside : (memory : Memory) (a : ℕ) (bytes : List ℕ) → length memory.bytes ≤ a → written memory a bytes ≡ memory
outside memory a [] far = refl
outside memory a (b ∷ bs) far =
    ap (λ (inside : Bool). if ((length (b ∷ bs) == 0) || (inside && nat_le memory.text a))
    then (if (length (b ∷ bs) == 0) then memory else with_bytes memory a (b ∷ bs)) else memory)
    (lt-leb (a + length (b ∷ bs)) (length memory.bytes) (omega (arith, far))) ∙
    ap (λ (none : Bool). if (none || (false && nat_le memory.text a))
    then (if none then memory else with_bytes memory a (b ∷ bs)) else memory)
    (ne_eqb (length (b ∷ bs)) 0 (λ same. omega (arith, same)))

nothing_there : (memory : Memory) (a n : ℕ) → length memory.bytes ≤ a → bytes_at memory a n ≡ []
nothing_there memory a n far = ap (take n) (drop_all a memory.bytes far) ∙ take-nil n

-- what depends on an address alike everywhere past the memory doesn't tell them apart
by_place : {X : Type 0} (at_place : ℕ → X) (size a : ℕ) → size ≤ 2 ^ 20
    → ((b : ℕ) → size ≤ b → at_place b ≡ at_place size) → at_place (min a (2 ^ 64 - 1)) ≡ at_place a
by_place at_place size a small alike = go (nat_le a (2 ^ 64 - 1)) refl
  where
    go : (b : Bool) → nat_le a (2 ^ 64 - 1) ≡ b → at_place (min a (2 ^ 64 - 1)) ≡ at_place a
    go true is = ap at_place (min-eq_left (leb-true a (2 ^ 64 - 1) is))
    go false is =
        let past = leb-false a (2 ^ 64 - 1) is in
        ap at_place (min-eq_right {n = 2 ^ 64 - 1} {m = a} (omega (arith, past))) ∙
        (alike (2 ^ 64 - 1) (omega (arith, small)) ∙ sym (alike a (omega (arith, past, small))))

pub written_at : (memory : Memory) (a : ℕ) (bytes : List ℕ) → length memory.bytes ≤ 2 ^ 20
    → written memory (min a (2 ^ 64 - 1)) bytes ≡ written memory a bytes
written_at memory a bytes small =
    by_place (λ (place : ℕ). written memory place bytes) (length memory.bytes) a small
    (λ b far. outside memory b bytes far ∙ sym (outside memory (length memory.bytes) bytes (omega arith)))

pub bytes_there : (memory : Memory) (a n : ℕ) → length memory.bytes ≤ 2 ^ 20
    → bytes_at memory (min a (2 ^ 64 - 1)) n ≡ bytes_at memory a n
bytes_there memory a n small =
    by_place (λ (place : ℕ). bytes_at memory place n) (length memory.bytes) a small
    (λ b far. nothing_there memory b n far ∙ sym (nothing_there memory (length memory.bytes) n (omega arith)))
