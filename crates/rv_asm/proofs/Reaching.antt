-- Offsets lead to the places that are named, and high and low parts add up.
use Rattle.std.proofs.Common.{◌≡◌, ℕ, ◌+◌, ◌-◌, ◌*◌, ◌/◌, ◌%◌, ◌^◌, ◌<◌, ◌≤◌, ◌&&◌, List, [], ◌∷◌, Option, Some, None, Ok, Bool, true, false, ℤ, pos, negsuc, ◌+ℤ◌, ◌-ℤ◌, ◌*ℤ◌, int_le, refl, sym, ap, subst, ◌∙◌, arith, tests, leb, nat_lt}
use Rattle.std.proofs.lemmas.Int.{ints, int_wrap_fits, int_rem_euclid_is, to_z_pos}
use Rattle.std.proofs.lemmas.Bool.Decides.{Decides-int_eq}
use Rattle.rv_asm_tokens.proofs.Characters.{both}
use Rattle.std.specs.Int.{w32, int_wrap, int_div_euclid, int_rem_euclid}
use Rattle.std.specs.Int.RustNames.{FitsSigned}
use Rattle.std.specs.Ordering.{int_eq}
use Rattle.std.specs.Prelude.{if◌then◌else◌}
use Rattle.rv_decode.specs.declared.instruction.Instr.{Instr}
use Rattle.rv_decode.specs.declared.instruction.Instr.TheVariants as instr
use Rattle.rv_decode.specs.declared.instruction.ImmOp.TheVariants.{Addi, Addiw}
use Rattle.rv_asm_tokens.specs.declared.fault.AsmFaultKind.TheVariants as kinds
use Rattle.rv_asm_tokens.specs.Fault.{◌>>=◌, wanted}
use Rattle.rv_asm_statements.specs.declared.filled.Target.{Target as Goal}
use Rattle.rv_asm_statements.specs.declared.rows.Template.TheVariants as template
use Rattle.rv_asm_lines.specs.Resolved.{address_in, even_ranged, goal_offset, high_part, imm_32, instrs_of, is_between, label_offset, load_address, load_immediate, low_part, lui_high, one, register_at, single, upper_immediate}
use Rattle.rv_asm.specs.Reached.{GoesThere, IsAddressLoaded, IsLoaded, IsNamedAt, TargetsAreReached}
use Rattle.rv_asm.proofs.Lengths.{ranged-between}
use Rattle.rv_asm.proofs.Right.{bind_ok, ok, ok_is, then_ok}

-- ---- offsets

even_is : (low high z y : ℤ) → even_ranged low high z ≡ Ok y → z ≡ y
unfolding even_ranged
even_is low high z y h = ok_is z y ((then_ok _ (kinds.Range z) (ok z) y h).1)

-- what is added to an address, and then the place
pub offset_named : (labels : List (List ℕ × ℕ)) (at : ℕ) (n : ℤ) (l : Option (List ℕ)) (z : ℤ) → label_offset labels at n l ≡ Ok z → IsNamedAt labels at l n (pos at +ℤ z)
unfolding label_offset
offset_named labels at n None z h = ap (λ (k : ℤ). pos at +ℤ k) (sym (ok_is n z h))
offset_named labels at n (Some w) z h = go (address_in w labels) refl h
  where
    go : (o : Option ℕ) → address_in w labels ≡ o → (wanted o kinds.LabelMissing >>= λ a. ok ((pos a +ℤ n) -ℤ pos at)) ≡ Ok z → IsNamedAt labels at (Some w) n (pos at +ℤ z)
    go None e h = absurd cc
    go (Some a) e h =
        let same : (pos a +ℤ n) -ℤ pos at ≡ z = ok_is ((pos a +ℤ n) -ℤ pos at) z h in
        let place : pos at +ℤ z ≡ pos a +ℤ n = omega (arith, ints, same) in
        (a, e, place)

goes_there : (labels : List (List ℕ × ℕ)) (at : ℕ) (goal : Goal) (low high : ℤ) (jump : ℤ → Instr) (is : List Instr)
    → (goal_offset labels at goal >>= λ n. single (even_ranged low high n >>= λ off. ok (jump off))) ≡ Ok is → GoesThere labels at goal jump is
goes_there labels at goal low high jump is h =
    let a = bind_ok (goal_offset labels at goal) (λ n. single (even_ranged low high n >>= λ off. ok (jump off))) is h in
    let b = bind_ok (even_ranged low high a.value >>= λ off. ok (jump off)) (λ i. ok (one i)) is a.second in
    let c = bind_ok (even_ranged low high a.value) (λ off. ok (jump off)) b.value b.first in
    let same : a.value ≡ c.value = even_is low high a.value c.value c.first in
    let there : IsNamedAt labels at goal.label goal.number (pos at +ℤ a.value) = offset_named labels at goal.number goal.label a.value a.first in
    let all : is ≡ jump c.value ∷ [] = sym (ok_is (one b.value) is b.second) ∙ ap one (sym (ok_is (jump c.value) b.value c.second)) in
    (c.value, all, subst (λ (k : ℤ). IsNamedAt labels at goal.label goal.number (pos at +ℤ k)) same there)

-- ---- high and low parts

-- what lui leaves of a number's high part
abbrev upper : ℤ → ℤ
upper z = upper_immediate (int_rem_euclid (high_part z) (pos 1048576))

-- it and the low part add up to the number; or to 2 ^ 32 less, where the high part does not fit 32 bits with a sign
data AddsUp (z : ℤ) : Type 0 where
  exactly : upper z +ℤ low_part z ≡ z → AddsUp z
  over : (m : ℕ) → z ≡ pos m → 2147481600 ≤ m → m < 2 ^ 31 → (upper z +ℤ low_part z) +ℤ pos (2 ^ 32) ≡ pos m → AddsUp z

if_true : {A : Type 0} (b : Bool) (x y : A) → b ≡ true → (if b then x else y) ≡ x
if_true true x y h = refl
if_true false x y h = absurd cc

if_false : {A : Type 0} (b : Bool) (x y : A) → b ≡ false → (if b then x else y) ≡ y
if_false false x y h = refl
if_false true x y h = absurd cc

upper_low : (n : ℕ) → n ≤ 524287 → upper_immediate (pos n) ≡ pos (n * 4096)
unfolding upper_immediate
upper_low n h =
    let low : int_le (pos n) (pos 524287) ≡ true = grind (arith, tests) in
    if_true (int_le (pos n) (pos 524287)) _ _ low

upper_high : (n : ℕ) → 524288 ≤ n → upper_immediate (pos n) ≡ (pos n -ℤ pos 1048576) *ℤ pos 4096
unfolding upper_immediate
upper_high n h =
    let high : int_le (pos n) (pos 524287) ≡ false = grind (arith, tests) in
    if_false (int_le (pos n) (pos 524287)) _ _ high

natural_adds : (m : ℕ) → m < 2147481600 → upper (pos m) +ℤ low_part (pos m) ≡ pos m
natural_adds m h =
    let q = (m + 2048) / 4096 in
    let small : q % 1048576 ≡ q = omega arith in
    let low : q ≤ 524287 = omega arith in
    let e : upper (pos m) ≡ pos (q * 4096) = ap (λ (k : ℕ). upper_immediate (pos k)) small ∙ upper_low q low in
    ap (λ (k : ℤ). k +ℤ low_part (pos m)) e ∙ omega (arith, ints)

natural_over : (m : ℕ) → 2147481600 ≤ m → m < 2 ^ 31 → (upper (pos m) +ℤ low_part (pos m)) +ℤ pos (2 ^ 32) ≡ pos m
natural_over m h below =
    let q = (m + 2048) / 4096 in
    let is : q ≡ 524288 = omega arith in
    let e : upper (pos m) ≡ negsuc 2147483647 = ap (λ (k : ℕ). upper_immediate (pos (k % 1048576))) is ∙ upper_high 524288 (omega arith) in
    ap (λ (k : ℤ). (k +ℤ low_part (pos m)) +ℤ pos (2 ^ 32)) e ∙ omega (arith, ints)

negative_adds : (k : ℕ) → 2048 ≤ k → k < 2 ^ 31 → upper (negsuc k) +ℤ low_part (negsuc k) ≡ negsuc k
negative_adds k least below =
    let p = (k - 2048) / 4096 in
    let near : negsuc k +ℤ pos 2048 ≡ negsuc (k - 2048) = omega (arith, ints) in
    let high : high_part (negsuc k) ≡ negsuc p = ap (λ (z : ℤ). int_div_euclid z (pos 4096)) near in
    let few : p < 524288 = omega arith in
    let r : int_rem_euclid (negsuc p) (pos 1048576) ≡ pos (1048575 - p) = omega (arith, ints) in
    let e : upper (negsuc k) ≡ (pos (1048575 - p) -ℤ pos 1048576) *ℤ pos 4096 =
    ap (λ (z : ℤ). upper_immediate (int_rem_euclid z (pos 1048576))) high ∙ ap upper_immediate r ∙ upper_high (1048575 - p) (omega arith) in
    ap (λ (z : ℤ). z +ℤ low_part (negsuc k)) e ∙ ap (λ (z : ℤ). ((pos (1048575 - p) -ℤ pos 1048576) *ℤ pos 4096) +ℤ (negsuc k -ℤ (pos 4096 *ℤ z))) high ∙ omega (arith, ints)

-- ---- `li`

wrapped : (m : ℕ) (z : ℤ) → m < 2 ^ 31 → z +ℤ pos (2 ^ 32) ≡ pos m → int_wrap w32 z ≡ pos m
unfolding int_wrap
wrapped m z h e =
    let r : int_rem_euclid z (pos (2 ^ 32)) ≡ pos (m % 2 ^ 32) = int_rem_euclid_is z (pos (2 ^ 32)) (2 ^ 32) 1 m (omega arith) refl e in
    let small : m % 2 ^ 32 ≡ m = omega arith in
    rw (r, small) (to_z_pos w32 m h)

fits_natural : (m : ℕ) → m < 2 ^ 31 → FitsSigned w32 (pos m)
fits_natural m h = record { sfits = h }

fits_negative : (k : ℕ) → k < 2 ^ 31 → FitsSigned w32 (negsuc k)
fits_negative k h = record { sfits = h }

natural_adds_up : (m : ℕ) (b : Bool) → nat_lt m 2147481600 ≡ b → m < 2 ^ 31 → AddsUp (pos m)
natural_adds_up m true h below = exactly (natural_adds m (grind (arith, tests)))
natural_adds_up m false h below =
    let least : 2147481600 ≤ m = grind (arith, tests) in
    over m refl least below (natural_over m least below)

at_most : (m n : ℕ) → leb m n ≡ true → m ≤ n
at_most m n h = grind (arith, tests)

adds_up : (z : ℤ) → is_between (negsuc 2147483647) (pos 2147483647) z ≡ true → is_between (negsuc 2047) (pos 2047) z ≡ false → AddsUp z × FitsSigned w32 z
adds_up (pos m) h k =
    let most : m ≤ 2147483647 = at_most m 2147483647 h in
    let below : m < 2 ^ 31 = omega arith in
    (natural_adds_up m (nat_lt m 2147481600) refl below, fits_natural m below)
adds_up (negsuc n) h k =
    let most : n ≤ 2147483647 = at_most n 2147483647 ((both (leb n 2147483647) true h).0) in
    let least : 2048 ≤ n = past n k in
    let below : n < 2 ^ 31 = omega arith in
    (exactly (negative_adds n least below), fits_negative n below)
  where
    past : (n : ℕ) → (leb n 2047 && true) ≡ false → 2048 ≤ n
    past n h = go (leb n 2047) refl h
      where
        go : (b : Bool) → leb n 2047 ≡ b → (b && true) ≡ false → 2048 ≤ n
        go true e h = absurd cc
        go false e h = grind (arith, tests)

upper_alone : (z : ℤ) → AddsUp z → low_part z ≡ pos 0 → upper z ≡ z
upper_alone z (exactly e) none = sym (ap (λ (k : ℤ). upper z +ℤ k) none ∙ omega (arith, ints)) ∙ e
upper_alone z (over m is least below e) none = absurd (not_whole m least below (ap low_part (sym is) ∙ none))
  where
    not_whole : (m : ℕ) → 2147481600 ≤ m → m < 2 ^ 31 → low_part (pos m) ≡ pos 0 → ⊥
    not_whole m least below none =
        let q : (m + 2048) / 4096 ≡ 524288 = omega arith in
        let e : low_part (pos m) ≡ pos m -ℤ (pos 4096 *ℤ pos 524288) = ap (λ (k : ℕ). pos m -ℤ (pos 4096 *ℤ pos k)) q in
        let same : pos m -ℤ (pos 4096 *ℤ pos 524288) ≡ pos 0 = sym e ∙ none in
        omega (arith, ints, same)

both_wrapped : (z : ℤ) → AddsUp z → FitsSigned w32 z → int_wrap w32 (upper z +ℤ low_part z) ≡ z
both_wrapped z (exactly e) fits = ap (int_wrap w32) e ∙ int_wrap_fits w32 z fits
both_wrapped z (over m is least below e) fits = wrapped m (upper z +ℤ low_part z) below e ∙ sym is

is_zero : (z : ℤ) → int_eq z (pos 0) ≡ true → z ≡ pos 0
is_zero z h = (Decides-int_eq z (pos 0)).0 h

immediate_loaded : (d : ℕ) (z : ℤ) → is_between (negsuc 2147483647) (pos 2147483647) z ≡ true → IsLoaded d z (load_immediate d z)
immediate_loaded d z fits = go (is_between (negsuc 2047) (pos 2047) z) refl (int_eq (low_part z) (pos 0)) refl
  where
    go : (b : Bool) → is_between (negsuc 2047) (pos 2047) z ≡ b → (c : Bool) → int_eq (low_part z) (pos 0) ≡ c
        → IsLoaded d z (if b then instr.Imm Addi d 0 z ∷ [] else (if c then lui_high d z ∷ [] else lui_high d z ∷ instr.Imm Addiw d d (low_part z) ∷ []))
    go true e c f = (refl, refl, refl)
    go false e true f =
        let a = adds_up z fits e in
        (refl, upper_alone z a.0 (is_zero (low_part z) f))
    go false e false f =
        let a = adds_up z fits e in
        (refl, refl, refl, both_wrapped z a.0 a.1)

-- ---- `la`

address_loaded : (labels : List (List ℕ × ℕ)) (d : ℕ) (goal : Goal) (z : ℤ) → goal_offset labels 0 goal ≡ Ok z → IsAddressLoaded labels d goal (load_address d z)
address_loaded labels d goal z h m named small =
    let same : pos m ≡ z = one_place labels goal.label goal.number (pos m) z named (offset_named labels 0 goal.number goal.label z h) in
    subst (λ (k : ℤ). IsLoaded d (pos m) (load_address d k)) same (refl, refl, refl, natural_adds m small)
  where
    one_place : (labels : List (List ℕ × ℕ)) (l : Option (List ℕ)) (n y z : ℤ) → IsNamedAt labels 0 l n y → IsNamedAt labels 0 l n (pos 0 +ℤ z) → y ≡ z
    one_place labels None n y z a b = omega (arith, ints, a, b)
    one_place labels (Some w) n y z a b =
        let same : a.0 ≡ b.0 = found (address_in w labels) a.0 b.0 a.1 b.1 in
        let e : y ≡ pos b.0 +ℤ n = a.2 ∙ ap (λ (k : ℕ). pos k +ℤ n) same in
        let f : pos 0 +ℤ z ≡ pos b.0 +ℤ n = b.2 in
        omega (arith, ints, e, f)
      where
        found : (o : Option ℕ) (i j : ℕ) → o ≡ Some i → o ≡ Some j → i ≡ j
        found o i j e f = cc

-- ---- templates

pub targets_are_reached : TargetsAreReached
unfolding instrs_of
targets_are_reached labels at (template.Jal d) o is h = goes_there labels at o.target _ _ (λ off. instr.Jal (register_at d o) off) is h
targets_are_reached labels at (template.Branch op s t) o is h = goes_there labels at o.target _ _ (λ off. instr.Branch op (register_at s o) (register_at t o) off) is h
targets_are_reached labels at (template.LoadImmediate d) o is h =
    let a = bind_ok (imm_32 o.target.number) (λ n. ok (load_immediate (register_at d o) n)) is h in
    let b = ranged-between _ _ o.target.number a.value a.first in
    let loaded : IsLoaded (register_at d o) o.target.number (load_immediate (register_at d o) o.target.number) = immediate_loaded (register_at d o) o.target.number b.0 in
    subst (λ (l : List Instr). IsLoaded (register_at d o) o.target.number l) (ap (load_immediate (register_at d o)) (sym b.1) ∙ ok_is _ is a.second) loaded
targets_are_reached labels at (template.LoadAddress d) o is h =
    let a = bind_ok (goal_offset labels 0 o.target) (λ n. ok (load_address (register_at d o) n)) is h in
    subst (λ (l : List Instr). IsAddressLoaded labels (register_at d o) o.target l) (ok_is _ is a.second) (address_loaded labels (register_at d o) o.target a.value a.first)
targets_are_reached labels at t o is h = tt
