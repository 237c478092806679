-- The numbers of threads.
use Rattle.std.specs.Prelude.{ℕ, zero, suc, ◌≡◌, ◌<◌, ◌≤◌, ◌*◌}
use Rattle.std.proofs.Common.{arith}
use Rattle.std.proofs.lemmas.Nat.{mul-le}

-- a product of two bytes is no more than this
pub product_fits : (a b : ℕ) → a < 256 → b < 256 → a * b ≤ 65025
product_fits a b small fits =
    let whole = mul-le a b 255 255 (omega (arith, small)) (omega (arith, fits)) in omega (arith, whole)

-- where there are threads there are harts
pub some_harts : (ranks harts number : ℕ) → number < ranks * harts → 0 < harts
some_harts ranks zero number there = omega (arith, there)
some_harts ranks (suc harts) number there = omega arith
