-- What a beginning of a hint's line begins with, and what ends it.
use Rattle.std.proofs.Common.{◌≡◌, ◌∙◌, ◌∷◌, ℕ, Bool, List, [], ◌++◌, ap, arith, codes, drop, eq-eqb, false, get_or, length, refl, sym, take, true, true≢false}
use Rattle.std.specs.Prelude.{◌==◌, ◌||◌}
use Rattle.std.specs.List.{list_any}
use Rattle.std.proofs.lemmas.List.{length-append, length-take}
use Rattle.std.specs.Io.{StartsWith}
use Rattle.rvmc_hints.specs.HintLines.{IsHint, IsOneLine}

pub named : (bytes : List ℕ) → IsHint bytes → StartsWith (codes "hint: ") (take 6 bytes)
named [] is = refl
named (a ∷ []) is = is.begins
named (a ∷ b ∷ []) is = is.begins
named (a ∷ b ∷ c ∷ []) is = is.begins
named (a ∷ b ∷ c ∷ d ∷ []) is = is.begins
named (a ∷ b ∷ c ∷ d ∷ e ∷ []) is = is.begins
named (a ∷ b ∷ c ∷ d ∷ e ∷ f ∷ more) is = ap (take 6) is.begins

or_right : (a b : Bool) → (a || b) ≡ false → b ≡ false
or_right true b e = absurd (true≢false e)
or_right false b e = e

-- a line that has no break but its last byte begins with no break before that
ends : (line front rest : List ℕ) → IsOneLine line → StartsWith (line ++ 10 ∷ []) (front ++ 10 ∷ rest) → rest ≡ []
ends [] [] [] one_line begins = refl
ends [] [] (r ∷ rest) one_line begins = absurd (omega (arith, ap length begins))
ends [] (a ∷ front) rest one_line begins =
    absurd (omega (arith, ap length begins, length-take {A = ℕ} (length (a ∷ (front ++ 10 ∷ rest))) (10 ∷ []), length-append front (10 ∷ rest)))
ends (x ∷ line) [] rest one_line begins =
    let broken : (x == 10) ≡ true = eq-eqb x 10 (ap (λ l. get_or l 0 0) begins) in
    absurd (true≢false (sym (ap (λ b. b || list_any (λ (byte : ℕ). byte == 10) line) broken) ∙ one_line))
ends (x ∷ line) (a ∷ front) rest one_line begins =
    ends line front rest (or_right (x == 10) _ one_line) (ap (drop 1) begins)

pub alone : (front rest : List ℕ) → IsHint (front ++ 10 ∷ rest) → rest ≡ []
alone front rest is = ends (codes "hint: " ++ is.text) front rest is.one_line is.begins
