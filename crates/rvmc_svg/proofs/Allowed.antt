-- Each byte that is made safe is one that XML allows.
use Rattle.std.specs.Prelude.{ℕ, ◌≡◌, ◌==◌, ◌&&◌, nat_le, if◌then◌else◌, Bool, true, false, List, [], ◌∷◌}
use Rattle.std.specs.List.{All, flat_map}
use Rattle.std.proofs.Common.{refl, arith}
use Rattle.std.proofs.lemmas.Bool.{and_parts, eqb-true, leb-true}
use Rattle.std.proofs.lemmas.List.Elements.{All-cons, All-nil}
use mathlib.Core.Logic.{inl, inr}
use Rattle.rvmc_svg.specs.Safe.{IsAllowed}
use Rattle.rvmc_svg.specs.Adding.{safe_one}
use Rattle.rvmc_svg.specs.Escaped.{safe_byte}

allowed : (b : ℕ) → IsAllowed (safe_byte b)
allowed b = newline (b == 10) refl
  where
    printed : (t : Bool) → (nat_le 32 b && nat_le b 126) ≡ t → IsAllowed (if t then b else 46)
    printed true e =
        let p = and_parts (nat_le 32 b) (nat_le b 126) e in inr (leb-true 32 b p.0, leb-true b 126 p.1)
    printed false e = inr (omega arith, omega arith)

    newline : (t : Bool) → (b == 10) ≡ t → IsAllowed (if t then b else (if nat_le 32 b && nat_le b 126 then b else 46))
    newline true e = inl (eqb-true b 10 e)
    newline false e = printed (nat_le 32 b && nat_le b 126) refl

pub all_safe : (bytes : List ℕ) → All IsAllowed (flat_map safe_one bytes)
unfolding safe_one
all_safe [] = All-nil IsAllowed
all_safe (b ∷ bytes) = All-cons IsAllowed (safe_byte b) (flat_map safe_one bytes) (allowed b) (all_safe bytes)
