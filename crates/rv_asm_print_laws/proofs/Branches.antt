-- Tests that came out right, and the branches that they take.
use Rattle.std.proofs.Common.{◌≡◌, Bool, true, false, ◌&&◌, T, if◌then◌else◌, refl}

pub both : (a b : Bool) → (a && b) ≡ true → (a ≡ true) × (b ≡ true)
both true true h = (refl, refl)
both true false h = absurd cc
both false b h = absurd cc

pub both_hold : (a b : Bool) → a ≡ true → b ≡ true → (a && b) ≡ true
both_hold true true p q = refl
both_hold true false p q = absurd cc
both_hold false b p q = absurd cc

pub holds : (b : Bool) → T b → b ≡ true
holds true h = refl
holds false h = absurd h

pub then_branch : {A : Type 0} (b : Bool) (x y : A) → b ≡ true → (if b then x else y) ≡ x
then_branch true x y h = refl
then_branch false x y h = absurd cc

pub else_branch : {A : Type 0} (b : Bool) (x y : A) → b ≡ false → (if b then x else y) ≡ y
else_branch true x y h = absurd cc
else_branch false x y h = refl
