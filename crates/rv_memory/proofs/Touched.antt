-- Pages that bytes don't touch.
use Rattle.std.proofs.Common.{◌≡◌, ℕ, zero, suc, ◌+◌, ◌*◌, ◌<◌, ◌≤◌, List, [], ◌∷◌, drop, length, refl, ap, ◌∙◌, zero-add, arith}
use Rattle.std.proofs.lemmas.List.{length-drop}
use Rattle.std.proofs.lemmas.Bool.Decides.{nat_tests}
use Rattle.std.specs.Prelude.{Bool, true, false, not, ◌||◌, ◌&&◌, ◌≢◌, if◌then◌else◌}
use Rattle.rv_memory.specs.MorePages.{missing_from}
use Rattle.rv_memory.specs.Pages.{touches, written_from}

untouched-before : (page a n : ℕ) → (page + 1) * 4096 ≤ a → touches a n page ≡ false
untouched-before page a n p = grind (arith, nat_tests, p)

untouched-behind : (page a n : ℕ) → a + n ≤ page * 4096 → touches a n page ≡ false
untouched-behind page a n p = grind (arith, nat_tests, p)

-- pages before the bytes may be left out
pub missing_from-skip : (k page : ℕ) (ts : List Bool) (a n : ℕ) → (page + k) * 4096 ≤ a
    → missing_from page ts a n ≡ missing_from (page + k) (drop k ts) a n
missing_from-skip zero page ts a n p = (let e : page + 0 ≡ page = omega arith in rw e refl)
missing_from-skip (suc k) page [] a n p = refl
missing_from-skip (suc k) page (there ∷ ts) a n p =
    let e : page + suc k ≡ suc page + k = omega arith in
    rw (untouched-before page a n (omega (arith, p)), e)
    (zero-add (missing_from (suc page) ts a n) ∙ missing_from-skip k (suc page) ts a n (omega (arith, p)))

-- and so may those behind them
pub missing_from-behind : (page : ℕ) (ts : List Bool) (a n : ℕ) → a + n ≤ page * 4096 → missing_from page ts a n ≡ 0
missing_from-behind page [] a n p = refl
missing_from-behind page (there ∷ ts) a n p =
    rw (untouched-behind page a n p)
    (zero-add (missing_from (suc page) ts a n) ∙ missing_from-behind (suc page) ts a n (omega (arith, p)))

-- no bytes touch none
pub missing_from-none : (page : ℕ) (ts : List Bool) (a : ℕ) → missing_from page ts a 0 ≡ 0
missing_from-none page [] a = refl
missing_from-none page (there ∷ ts) a = zero-add (missing_from (suc page) ts a 0) ∙ missing_from-none (suc page) ts a

-- and whatever comes from the end of the bytes on
pub missing_from-end : (page end : ℕ) (ts : List Bool) (a n : ℕ) → end ≤ page
    → (end < length ts → n ≢ 0 → a + n ≤ end * 4096) → missing_from page (drop page ts) a n ≡ 0
missing_from-end page end ts a zero p behind = missing_from-none page (drop page ts) a
missing_from-end page end ts a (suc n) p behind = go (drop page ts) refl
  where
    go : (xs : List Bool) → drop page ts ≡ xs → missing_from page xs a (suc n) ≡ 0
    go [] e = refl
    go (x ∷ xs) e =
        let inside : end < length ts = omega (arith, length-drop page ts, ap length e, p) in
        let some : suc n ≢ 0 = (λ z. absurd (cc)) in
        missing_from-behind page (x ∷ xs) a (suc n) (omega (arith, behind inside some, p))

-- where none of the pages that are touched is missing, writing makes none
pub written_from-all : (page : ℕ) (ts : List Bool) (a n : ℕ) → missing_from page ts a n ≡ 0
    → written_from page ts a n ≡ ts
written_from-all page [] a n none = refl
written_from-all page (there ∷ ts) a n none =
    let rest : missing_from (suc page) ts a n ≡ 0 = omega (arith, none) in
    let more : ℕ = if (touches a n page && not there) then 1 else 0 in
    let here : more ≡ 0 = omega (arith, none) in
    rw (written_from-all (suc page) ts a n rest) (ap (λ t. t ∷ ts) (go there (touches a n page) here))
  where
    one : Bool → ℕ
    one touched = if touched then 1 else 0

    go : (there touched : Bool) → one (touched && not there) ≡ 0 → (there || touched) ≡ there
    go true touched e = refl
    go false true e = absurd (cc)
    go false false e = refl
