-- Numbers of one digit and zeros.
use Rattle.std.proofs.Common.{◌≡◌, ◌∙◌, ℕ, ◌+◌, ◌*◌, ◌^◌, ◌<◌, ◌≤◌, ◌/◌, ◌%◌, suc, ap, arith, sym}
use Rattle.std.proofs.Math.Nat.{mul_assoc, pow-succ'}
use Rattle.std.proofs.lemmas.Nat.{div-add-mod', pow-add}
use Rattle.cl_lines.specs.Progress.{IsDue}

-- one zero fewer
pub without_zero : (states rest zeros : ℕ) → rest % 10 ≡ 0 → states ≡ rest * 10 ^ zeros → states ≡ rest / 10 * 10 ^ suc zeros
without_zero states rest zeros none is =
    let whole : rest ≡ rest / 10 * 10 = omega (arith, div-add-mod' rest 10, none) in
    is ∙ (ap (λ n. n * 10 ^ zeros) whole ∙ (mul_assoc (rest / 10) 10 (10 ^ zeros) ∙ ap (λ n. rest / 10 * n) (sym (pow-succ' 10 zeros))))

-- a digit and two zeros are left
pub is_due : (states rest zeros : ℕ) → states ≡ rest * 10 ^ zeros → 100 ≤ rest → rest < 1000 → rest % 100 ≡ 0 → IsDue states
is_due states rest zeros is least most none =
    let whole : rest ≡ rest / 100 * 100 = omega (arith, div-add-mod' rest 100, none) in
    record {
      digit = rest / 100;
      zeros = 2 + zeros;
      first = omega (arith, whole, least);
      last = omega (arith, whole, most);
      hundreds = omega (arith);
      spelled = is ∙ (ap (λ n. n * 10 ^ zeros) whole ∙ (mul_assoc (rest / 100) 100 (10 ^ zeros) ∙ ap (λ n. rest / 100 * n) (sym (pow-add 10 2 zeros))));
    }
