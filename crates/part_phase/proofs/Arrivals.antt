-- Partitions that have arrived, and boxes that they wait for.
use Rattle.std.proofs.Common.{◌≡◌, ℕ, suc, ◌+◌, ◌*◌, ◌/◌, ◌%◌, ◌<◌, ◌≤◌, ◌==◌, get_or, Bool, true, false}
use Rattle.std.proofs.Common.{Some, None, refl, sym, ap, ◌∙◌, ⊎_elim, arith}
use Rattle.std.specs.Prelude.{◌&&◌, nat_le, nat_lt, not, if◌then◌else◌}
use Rattle.std.proofs.lemmas.Bool.{cases_lt}
use Rattle.std.proofs.lemmas.Nat.{mul-le, div_below, mod_below, div-add-mod'}
use Rattle.std.proofs.Math.Nat.{suc-mul}
use Rattle.part_phase.specs.declared.receiving.RecvPhase.{RecvPhase}
use Rattle.part_phase.specs.Laws.{ArrivedLaw, AwaitedLaw, CutLaw, NextBoxLaw, IsInBox, IsInPart, IsTaken}
use Rattle.part_phase.specs.Limits.{are_parts, is_size}
use Rattle.part_phase.specs.Receiving.{lowest_from, is_left, overlaps}
use Rattle.part_phase.proofs.Lowest.{none_pass, found, found_lowest}

is_less : (a b : ℕ) → a < b → nat_lt a b ≡ true
is_less a b low = grind arith

less_is : (a b : ℕ) → nat_lt a b ≡ true → a < b
less_is a b e = grind arith

and_true : (b : Bool) → (b && true) ≡ b
and_true true = refl
and_true false = refl

both_true : (a b : Bool) → (a && b) ≡ true → (a ≡ true) × (b ≡ true)
both_true true b e = (refl, e)
both_true false b e = absurd (cc)

pub marked_back : (b : Bool) → not b ≡ false → b ≡ true
marked_back true e = refl
marked_back false e = absurd (cc)

pub unmarked_back : (b : Bool) → not b ≡ true → b ≡ false
unmarked_back false e = refl
unmarked_back true e = absurd (cc)

-- (n + 1) times is once more
next_times : (n x : ℕ) → (n + 1) * x ≡ n * x + x
next_times n x = let one : n + 1 ≡ suc n = omega arith in ap (λ m. m * x) one ∙ suc-mul n x

-- what is below a multiple of a size is so by bytes
some_size : (n x a : ℕ) → a < n * x → 0 < x
some_size n x a low = ⊎_elim
    (λ (some : 0 < x). some)
    (λ (none : x ≤ 0). let most : n * x ≤ n * 0 = mul-le n x n 0 (omega arith) none in
    let zero_is : n * 0 ≡ 0 = omega arith in absurd (omega arith))
    (cases_lt 0 x)

-- Where the cut leaves the total, a byte of a partition lies in the box of its number over the boxes' size
module _ (part size parts boxes bytes byte : ℕ) (total : boxes * bytes ≡ parts * size) (known : part < parts)
    (high : byte < (part + 1) * size) where
  inside : byte < boxes * bytes
  inside =
      let whole : (part + 1) * size ≤ parts * size = mul-le (part + 1) size parts size (omega arith) (omega arith) in
      omega arith

  some_bytes : 0 < bytes
  some_bytes = some_size boxes bytes byte inside

  pub below : byte / bytes < boxes
  below = div_below byte bytes boxes some_bytes inside

  pub begins : byte / bytes * bytes ≤ byte
  begins = let whole : byte / bytes * bytes + byte % bytes ≡ byte = div-add-mod' byte bytes in omega arith

  pub ends : byte < (byte / bytes + 1) * bytes
  ends =
      let whole : byte / bytes * bytes + byte % bytes ≡ byte = div-add-mod' byte bytes in
      let rest : byte % bytes < bytes = mod_below byte bytes some_bytes in
      let next = next_times (byte / bytes) bytes in
      omega arith

-- a box that overlaps, and isn't wanted, is taken
taken_there : (p : RecvPhase) (part box : ℕ) → (is_left p.taken box && overlaps p part box) ≡ false →
    box * p.bytes < (part + 1) * p.size → part * p.size < (box + 1) * p.bytes → IsTaken p box
taken_there p part box fails first second =
    let a = is_less (box * p.bytes) ((part + 1) * p.size) first in
    let b = is_less (part * p.size) ((box + 1) * p.bytes) second in
    let both : overlaps p part box ≡ true = λ i. a i && b i in
    marked_back (get_or p.taken box false)
    (sym (and_true (is_left p.taken box)) ∙ (ap (λ b. is_left p.taken box && b) (sym both) ∙ fails))

pub arrived : ArrivedLaw
arrived p part knows on known none byte within =
    let wanted : ℕ → Bool = λ box. is_left p.taken box && overlaps p part box in
    let box = byte / p.bytes in
    let lies = begins part p.size p.parts p.boxes p.bytes byte knows.1 known within.1 in
    let stops = ends part p.size p.parts p.boxes p.bytes byte knows.1 known within.1 in
    let there = below part p.size p.parts p.boxes p.bytes byte knows.1 known within.1 in
    let no_box : lowest_from wanted 0 p.boxes ≡ None =
    sym (ap (λ (b : Bool). if b then lowest_from wanted 0 p.boxes else None) on) ∙ none in
    let fails = none_pass wanted 0 p.boxes no_box box (omega arith) (omega (arith, there)) in
    let taken = taken_there p part box fails (omega (arith, lies, within.1)) (omega (arith, stops, within.0)) in
    (box, ((lies, stops), taken))

-- a byte that is in a box and in a partition that overlap
shared : (p : RecvPhase) (part box : ℕ) → box * p.bytes < (part + 1) * p.size → part * p.size < (box + 1) * p.bytes →
    (byte : ℕ) × (IsInBox p box byte × IsInPart p part byte)
shared p part box first second =
    let more_bytes = some_size (box + 1) p.bytes (part * p.size) second in
    let more_size = some_size (part + 1) p.size (box * p.bytes) first in
    let next_box = next_times box p.bytes in
    let next_part = next_times part p.size in
    ⊎_elim
    (λ (later : part * p.size < box * p.bytes).
    (box * p.bytes, ((omega arith, omega arith), (omega arith, first))))
    (λ (sooner : box * p.bytes ≤ part * p.size).
    (part * p.size, ((sooner, second), (omega arith, omega arith))))
    (cases_lt (part * p.size) (box * p.bytes))

none_some : (x : ℕ) → None ≡ Some x → ⊥
none_some x e = cc

pub next : NextBoxLaw
next p box is = go p.active refl
  where
    go : (b : Bool) → p.active ≡ b → (box < p.boxes) × (get_or p.taken box false ≡ false) ×
        ((lower : ℕ) → lower < box → IsTaken p lower)
    go true on =
        let lowest : lowest_from (is_left p.taken) 0 p.boxes ≡ Some box =
        sym (ap (λ (b : Bool). if b then lowest_from (is_left p.taken) 0 p.boxes else None) on) ∙ is in
        let there = found (is_left p.taken) 0 p.boxes box lowest in (
          omega (arith, there.1),
          unmarked_back (get_or p.taken box false) there.0,
          λ lower low. marked_back (get_or p.taken lower false)
              (found_lowest (is_left p.taken) 0 p.boxes box lowest lower (omega arith) low),
        )
    go false on =
        let lowest = lowest_from (is_left p.taken) 0 p.boxes in
        absurd (none_some box (sym (ap (λ (b : Bool). if b then lowest else None) on) ∙ is))

pub awaited : AwaitedLaw
awaited p part box is = go p.active refl
  where
    wanted : ℕ → Bool
    wanted n = is_left p.taken n && overlaps p part n

    go : (b : Bool) → p.active ≡ b → (box < p.boxes) × (get_or p.taken box false ≡ false) ×
        ((byte : ℕ) × (IsInBox p box byte × IsInPart p part byte))
    go true on =
        let lowest : lowest_from wanted 0 p.boxes ≡ Some box =
        sym (ap (λ (b : Bool). if b then lowest_from wanted 0 p.boxes else None) on) ∙ is in
        let there = found wanted 0 p.boxes box lowest in
        let parts = both_true (is_left p.taken box) (overlaps p part box) there.0 in
        let begins_before = nat_lt (box * p.bytes) ((part + 1) * p.size) in
        let both = both_true begins_before (nat_lt (part * p.size) ((box + 1) * p.bytes)) parts.1 in (
          omega (arith, there.1),
          unmarked_back (get_or p.taken box false) parts.0,
          shared p part box
              (less_is (box * p.bytes) ((part + 1) * p.size) both.0)
              (less_is (part * p.size) ((box + 1) * p.bytes) both.1),
        )
    go false on =
        absurd (none_some box (sym (ap (λ (b : Bool). if b then lowest_from wanted 0 p.boxes else None) on) ∙ is))

at_least_one : (n : ℕ) → nat_le 1 n ≡ true → 0 < n
at_least_one n e = grind arith

same_number : (a b : ℕ) → (a == b) ≡ true → a ≡ b
same_number a b e = grind arith

pub cut : CutLaw
cut version p boxes bytes is =
    let same_total = boxes * bytes == p.parts * p.size in
    let known = both_true (are_parts boxes && is_size version bytes && same_total) (p.boxes == 0) is in
    let total = both_true (are_parts boxes && is_size version bytes) same_total known.0 in
    let limits = both_true (are_parts boxes) (is_size version bytes) total.0 in
    let few = both_true (nat_le 1 boxes) (nat_le boxes 16) limits.0 in
    (at_least_one boxes few.0, same_number (boxes * bytes) (p.parts * p.size) total.1)
