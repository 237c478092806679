-- The pages that are there, one by one.
use Rattle.std.proofs.Common.{◌≡◌, ℕ, zero, suc, ◌+◌, ◌*◌, ◌<◌, ◌≤◌, List, [], ◌∷◌, ◌++◌, length, get_or, take, drop, refl, ap, sym, ◌∙◌, add-zero, arith, take-append-drop, drop-cons}
use Rattle.std.specs.Int.{bytes_low_first}
use Rattle.std.proofs.lemmas.Grind.{common_steps}
use Rattle.std.proofs.lemmas.Bool.Decides.{nat_tests}
use Rattle.std.proofs.Math.ListN.{set}
use Rattle.std.specs.Prelude.{Bool, true, false, not, ◌||◌, ◌&&◌, if◌then◌else◌}
use Rattle.rv_memory.specs.Memory.{Memory, with_bytes, overwritten, bytes_of}
use Rattle.rv_memory.specs.MorePages.{with_pages, missing_from, missing_pages}
use Rattle.rv_memory.specs.Access.{stored, is_inside}
use Rattle.rv_memory.specs.Present.{IsWritable, IsPresent}
use Rattle.std.specs.Prelude.{IsTrue, nat_le, ◌==◌}
use Rattle.std.proofs.Common.{rules}
use Rattle.rv_memory.specs.Pages.{touches, written_from}

pub written_from-length : (page : ℕ) (pages : List Bool) (address count : ℕ) → length (written_from page pages address count) ≡ length pages
written_from-length page [] address count = refl
written_from-length page (there ∷ pages) address count = ap suc (written_from-length (suc page) pages address count)

pub written_from-get : (page : ℕ) (pages : List Bool) (address count i : ℕ) → i < length pages → get_or (written_from page pages address count) i false ≡ (get_or pages i false || touches address count (page + i))
written_from-get page [] address count i p = absurd (omega (arith, p))
written_from-get page (there ∷ pages) address count zero p = rw (add-zero page) refl
written_from-get page (there ∷ pages) address count (suc i) p =
    let e : page + suc i ≡ suc page + i = omega arith in
    rw e (written_from-get (suc page) pages address count i (omega (arith, p)))

-- no bytes touch no page
pub written_from-none : (page : ℕ) (pages : List Bool) (address : ℕ) → written_from page pages address 0 ≡ pages
written_from-none page [] address = refl
written_from-none page (true ∷ pages) address = ap (λ xs. true ∷ xs) (written_from-none (suc page) pages address)
written_from-none page (false ∷ pages) address = ap (λ xs. false ∷ xs) (written_from-none (suc page) pages address)

or-twice : (a b : Bool) → ((a || b) || b) ≡ (a || b)
or-twice true b = refl
or-twice false true = refl
or-twice false false = refl

-- what was written once is there
pub written_from-twice : (page : ℕ) (pages : List Bool) (address count : ℕ) → written_from page (written_from page pages address count) address count ≡ written_from page pages address count
written_from-twice page [] address count = refl
written_from-twice page (there ∷ pages) address count =
    rw (written_from-twice (suc page) pages address count, or-twice there (touches address count page)) refl

pub overwritten-none : (xs : List ℕ) (at : ℕ) → overwritten xs at [] ≡ xs
overwritten-none xs at = grind (arith, common_steps, take-append-drop)

-- no bytes written are no change
pub with_no_bytes : (memory : Memory) (address : ℕ) → with_bytes memory address [] ≡ memory
with_no_bytes memory address =
    let e : overwritten memory.bytes address [] ≡ memory.bytes = grind (arith, common_steps, take-append-drop) in
    rw (e, written_from-none 0 memory.pages address) refl

-- pages that are made first are the pages of the bytes
pub with_bytes-with_pages : (memory : Memory) (address : ℕ) (new : List ℕ) → with_bytes (with_pages memory address (length new)) address new ≡ with_bytes memory address new
with_bytes-with_pages memory address new = rw (written_from-twice 0 memory.pages address (length new)) refl

-- the page that a count comes to
pub missing_from-next : (pages : List Bool) (page address count : ℕ) → page < length pages
    → missing_from page (drop page pages) address count
    ≡ (if (touches address count page && not (get_or pages page false)) then 1 else 0) + missing_from (page + 1) (drop (page + 1) pages) address count
missing_from-next pages page address count p =
    let e : page + 1 ≡ suc page = omega arith in
    rw (drop-cons pages page false p, e) refl

-- the lowest bytes of a value are as many as are asked for
pub bytes_low_first-length : (i count value : ℕ) → length (bytes_low_first i count value) ≡ count
bytes_low_first-length i zero value = refl
bytes_low_first-length i (suc count) value = ap suc (bytes_low_first-length (suc i) count value)

-- a store is known by how many bytes it has
pub stored-pages : (memory : Memory) (address size value : ℕ) → stored memory address size value
    ≡ record memory { bytes = overwritten memory.bytes address (bytes_of value size); pages = written_from 0 memory.pages address size }
stored-pages memory address size value =
    ap (λ n. record memory { bytes = overwritten memory.bytes address (bytes_of value size); pages = written_from 0 memory.pages address n }) (bytes_low_first-length 0 size value)

-- no bytes are no page
pub with_no_pages : (memory : Memory) (address : ℕ) → with_pages memory address 0 ≡ memory
with_no_pages memory address = rw (written_from-none 0 memory.pages address) refl

-- pages that are made first are the pages of the store
pub stored-with_pages : (memory : Memory) (address size value : ℕ) → stored (with_pages memory address size) address size value ≡ stored memory address size value
stored-with_pages memory address size value =
    stored-pages (with_pages memory address size) address size value
    ∙ rw (written_from-twice 0 memory.pages address size) (sym (stored-pages memory address size value))

not-or-twice : (a b : Bool) → (b && not (a || b)) ≡ false
not-or-twice true true = refl
not-or-twice true false = refl
not-or-twice false true = refl
not-or-twice false false = refl

-- no page is missing once it was written
pub missing_from-written : (page : ℕ) (pages : List Bool) (address count : ℕ) → missing_from page (written_from page pages address count) address count ≡ 0
missing_from-written page [] address count = refl
missing_from-written page (there ∷ pages) address count =
    rw (missing_from-written (suc page) pages address count, not-or-twice there (touches address count page)) refl

less : (a b c : Bool) → (if (c && not (a || b)) then 1 else 0) ≤ (if (c && not a) then 1 else 0)
less true true true = omega arith
less true true false = omega arith
less true false true = omega arith
less true false false = omega arith
less false true true = omega arith
less false true false = omega arith
less false false true = omega arith
less false false false = omega arith

-- a write leaves no more pages missing than before
pub missing_from-falls : (page : ℕ) (pages : List Bool) (address count other most : ℕ)
    → missing_from page (written_from page pages address count) other most ≤ missing_from page pages other most
missing_from-falls page [] address count other most = omega arith
missing_from-falls page (there ∷ pages) address count other most =
    omega (arith, less there (touches address count page) (touches other most page), missing_from-falls (suc page) pages address count other most)

-- one more element of a list that takes the place of another
pub front-set : (ws ps : List Bool) (i : ℕ) (y : Bool) → i < length ps → length ws ≡ length ps → get_or ws i false ≡ y → set (take i ws ++ drop i ps) i y ≡ take (i + 1) ws ++ drop (i + 1) ps
front-set [] [] i y p long here = absurd (omega (arith, p))
front-set [] (q ∷ ps) i y p long here = absurd (omega (arith, long))
front-set (w ∷ ws) [] i y p long here = absurd (omega (arith, long))
front-set (w ∷ ws) (q ∷ ps) zero y p long here = ap (λ x. x ∷ ps) (sym here)
front-set (w ∷ ws) (q ∷ ps) (suc i) y p long here =
    let e : suc i + 1 ≡ suc (i + 1) = omega arith in
    rw e (ap (λ xs. w ∷ xs) (front-set ws ps i y (omega (arith, p)) (omega (arith, long)) here))

pub front-same : (ws ps : List Bool) (i : ℕ) → i < length ps → length ws ≡ length ps → get_or ws i false ≡ get_or ps i false → take i ws ++ drop i ps ≡ take (i + 1) ws ++ drop (i + 1) ps
front-same [] [] i p long here = absurd (omega (arith, p))
front-same [] (q ∷ ps) i p long here = absurd (omega (arith, long))
front-same (w ∷ ws) [] i p long here = absurd (omega (arith, long))
front-same (w ∷ ws) (q ∷ ps) zero p long here = ap (λ x. x ∷ ps) (sym here)
front-same (w ∷ ws) (q ∷ ps) (suc i) p long here =
    let e : suc i + 1 ≡ suc (i + 1) = omega arith in
    rw e (ap (λ xs. w ∷ xs) (front-same ws ps i (omega (arith, p)) (omega (arith, long)) here))

touches-below : (a c k : ℕ) → a + c ≤ k * 4096 → touches a c k ≡ false
touches-below a c k p = grind (arith, nat_tests)

touches-above : (a c k : ℕ) → (k + 1) * 4096 ≤ a → touches a c k ≡ false
touches-above a c k p = grind (arith, nat_tests)

pub touches-in : (a c k : ℕ) → 0 < c → k * 4096 < a + c → a < (k + 1) * 4096 → touches a c k ≡ true
touches-in a c k p q r = grind (arith, nat_tests)

or-false : (a : Bool) → (a || false) ≡ a
or-false true = refl
or-false false = refl

or-true : (a : Bool) → (a || true) ≡ true
or-true true = refl
or-true false = refl

-- pages above a range stay
pub written-above : (k : ℕ) (pages : List Bool) (a c : ℕ) → a + c ≤ k * 4096 → written_from k pages a c ≡ pages
written-above k [] a c p = refl
written-above k (t ∷ pages) a c p = rw (touches-below a c k p, or-false t, written-above (suc k) pages a c (omega (arith, p))) refl

-- a range in one page makes that page
pub written-one : (k p : ℕ) (pages : List Bool) (a c : ℕ) → p < length pages → 0 < c → (k + p) * 4096 ≤ a → a + c ≤ (k + p + 1) * 4096 → written_from k pages a c ≡ set pages p true
written-one k p [] a c inside some least most = absurd (omega (arith, inside))
written-one k zero (t ∷ pages) a c inside some least most =
    rw (touches-in a c k some (omega (arith, some, least)) (omega (arith, some, most)), or-true t, written-above (suc k) pages a c (omega (arith, most))) refl
written-one k (suc p) (t ∷ pages) a c inside some least most =
    rw (touches-above a c k (omega (arith, least)), or-false t) (ap (λ xs. t ∷ xs) (written-one (suc k) p pages a c (omega (arith, inside)) some (omega (arith, least)) (omega (arith, most))))

-- where no page is missing, one that is touched is there
pub missing-there : (k p : ℕ) (pages : List Bool) (a c : ℕ) → missing_from k pages a c ≡ 0 → p < length pages → touches a c (k + p) ≡ true → get_or pages p false ≡ true
missing-there k p [] a c none inside here = absurd (omega (arith, inside))
missing-there k zero (true ∷ pages) a c none inside here = refl
missing-there k zero (false ∷ pages) a c none inside here =
    let e : touches a c k ≡ true = rw (← add-zero k) here in
    absurd (omega (arith, rw e at none))
missing-there k (suc p) (t ∷ pages) a c none inside here =
    let e : k + suc p ≡ suc k + p = omega arith in
    missing-there (suc k) p pages a c (omega (arith, none)) (omega (arith, inside)) (rw (← e) here)

pub front-get : (ws ps : List Bool) (i : ℕ) → i < length ps → length ws ≡ length ps → get_or (take i ws ++ drop i ps) i false ≡ get_or ps i false
front-get [] [] i p long = absurd (omega (arith, p))
front-get [] (q ∷ ps) i p long = absurd (omega (arith, long))
front-get (w ∷ ws) [] i p long = absurd (omega (arith, long))
front-get (w ∷ ws) (q ∷ ps) zero p long = refl
front-get (w ∷ ws) (q ∷ ps) (suc i) p long = front-get ws ps i (omega (arith, p)) (omega (arith, long))

present-bit : (t x : Bool) → ◌≡◌ {A = ℕ} (if (x && not t) then 1 else 0) 0 → (t || x) ≡ t
present-bit true x e = refl
present-bit false true e = absurd (omega (arith, e))
present-bit false false e = refl

-- where no page is missing a write makes none
pub written-present : (k : ℕ) (pages : List Bool) (a c : ℕ) → missing_from k pages a c ≡ 0 → written_from k pages a c ≡ pages
written-present k [] a c none = refl
written-present k (t ∷ pages) a c none =
    rw (present-bit t (touches a c k) (omega (arith, none)), written-present (suc k) pages a c (omega (arith, none))) refl

writable-go : (zero inside front : Bool) → zero ≡ false → IsTrue (zero || (inside && front)) → (inside ≡ true) × (front ≡ true)
writable-go true inside front z w = absurd (search rules)
writable-go false true true z w = (refl, refl)
writable-go false true false z w = absurd (search rules)
writable-go false false front z w = absurd (search rules)

pub writable-inside : (memory : Memory) (a n : ℕ) → 0 < n → IsWritable memory a n → a + n ≤ length memory.bytes
writable-inside memory a n some w =
    let h = writable-go (n == 0) (is_inside memory a n) (nat_le memory.text a) (grind (arith, nat_tests)) w in
    grind (arith, nat_tests, h.0)

pub writable-behind : (memory : Memory) (a n : ℕ) → 0 < n → IsWritable memory a n → memory.text ≤ a
writable-behind memory a n some w =
    let h = writable-go (n == 0) (is_inside memory a n) (nat_le memory.text a) (grind (arith, nat_tests)) w in
    grind (arith, nat_tests, h.1)

pub present-none : (memory : Memory) (a n : ℕ) → 0 < n → IsPresent memory a n → missing_pages memory.pages a n ≡ 0
present-none memory a n some w =
    let h = writable-go (n == 0) (is_inside memory a n) (missing_pages memory.pages a n == 0) (grind (arith, nat_tests)) w in
    grind (arith, nat_tests, h.1)
