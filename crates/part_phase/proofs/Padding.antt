-- Zeros behind bytes.
use Rattle.std.proofs.Common.{◌≡◌, ℕ, zero, suc, ◌-◌, ◌≤◌, List, [], ◌∷◌, ◌++◌, length, take, drop, replicate, refl}
use Rattle.std.proofs.Common.{sym, ap, ◌∙◌, arith}
use Rattle.std.proofs.lemmas.List.{drop-replicate}

-- so many of them
abbrev zeros : ℕ → List ℕ
zeros n = replicate n 0

some_zeros : (n m : ℕ) → n ≤ m → take n (zeros m) ≡ zeros n
some_zeros zero m h = refl
some_zeros (suc n) zero h = absurd (omega (arith, h))
some_zeros (suc n) (suc m) h = ap (λ l. 0 ∷ l) (some_zeros n m (omega (arith, h)))

-- to cut zeros off is to have put fewer
pub take_padded : (bytes : List ℕ) (n m : ℕ) → length bytes ≤ n → n ≤ m →
    take n (bytes ++ replicate (m - length bytes) 0) ≡ bytes ++ replicate (n - length bytes) 0
take_padded [] n m low most =
    let all : m - 0 ≡ m = omega arith in
    let fewer : n - 0 ≡ n = omega arith in
    ap (λ k. take n (zeros k)) all ∙ some_zeros n m most ∙ ap zeros (sym fewer)
take_padded (b ∷ bs) zero m low most = absurd (omega (arith, low))
take_padded (b ∷ bs) (suc n) zero low most = absurd (omega (arith, most))
take_padded (b ∷ bs) (suc n) (suc m) low most =
    let all : suc m - suc (length bs) ≡ m - length bs = omega arith in
    let fewer : suc n - suc (length bs) ≡ n - length bs = omega arith in
    ap (λ k. b ∷ take n (bs ++ zeros k)) all ∙
    (ap (λ l. b ∷ l) (take_padded bs n m (omega (arith, low)) (omega (arith, most))) ∙
    ap (λ k. b ∷ bs ++ zeros k) (sym fewer))

-- and to drop zeros is to have put fewer
pub drop_zeros : (n m : ℕ) → drop n (zeros m) ≡ zeros (m - n)
drop_zeros n m = drop-replicate n m 0
