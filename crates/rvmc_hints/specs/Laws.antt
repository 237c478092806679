-- What can stand on standard error behind what was there, where a hint is all that is told.
use Rattle.std.specs.Prelude.{◌≡◌, ℕ, List, [], ◌∷◌, ◌++◌, codes, take}
use Rattle.std.specs.Io.{StartsWith}
use Rattle.rvmc_hints.specs.HintLines.{IsHint}

-- nothing or a line that begins with `hint: `: the first six bytes, or as many as there are, are the beginning of that
-- word, and nothing stands behind a line break
pub record HintLaw : Type 0 where
  pub named : (bytes : List ℕ) → IsHint bytes → StartsWith (codes "hint: ") (take 6 bytes)
  pub alone : (front rest : List ℕ) → IsHint (front ++ 10 ∷ rest) → rest ≡ []
