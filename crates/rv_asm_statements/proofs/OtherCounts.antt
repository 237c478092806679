-- Operands of another count are no operands of a shape.
use Rattle.std.proofs.Common.{◌≡◌, ◌≢◌, List, [], ◌∷◌, length, None, refl}
use Rattle.rv_asm_statements.specs.Arguments.{Argument}
use Rattle.rv_asm_statements.specs.Shapes.{reg_number_at, reg_reg_at, reg_reg_reg_at, reg_reg_number_at, reg_place_at, reg_reg_target_at}

pub reg_reg_at-other : (xs : List Argument) → length xs ≢ 2 → reg_reg_at xs ≡ None
reg_reg_at-other ([]) h = refl
reg_reg_at-other (a ∷ []) h = refl
reg_reg_at-other (a ∷ b ∷ []) h = absurd (h refl)
reg_reg_at-other (a ∷ b ∷ c ∷ more) h = refl

pub reg_number_at-other : (xs : List Argument) → length xs ≢ 2 → reg_number_at xs ≡ None
reg_number_at-other ([]) h = refl
reg_number_at-other (a ∷ []) h = refl
reg_number_at-other (a ∷ b ∷ []) h = absurd (h refl)
reg_number_at-other (a ∷ b ∷ c ∷ more) h = refl

pub reg_place_at-other : (xs : List Argument) → length xs ≢ 2 → reg_place_at xs ≡ None
reg_place_at-other ([]) h = refl
reg_place_at-other (a ∷ []) h = refl
reg_place_at-other (a ∷ b ∷ []) h = absurd (h refl)
reg_place_at-other (a ∷ b ∷ c ∷ more) h = refl

pub reg_reg_reg_at-other : (xs : List Argument) → length xs ≢ 3 → reg_reg_reg_at xs ≡ None
reg_reg_reg_at-other ([]) h = refl
reg_reg_reg_at-other (a ∷ []) h = refl
reg_reg_reg_at-other (a ∷ b ∷ []) h = refl
reg_reg_reg_at-other (a ∷ b ∷ c ∷ []) h = absurd (h refl)
reg_reg_reg_at-other (a ∷ b ∷ c ∷ d ∷ more) h = refl

pub reg_reg_number_at-other : (xs : List Argument) → length xs ≢ 3 → reg_reg_number_at xs ≡ None
reg_reg_number_at-other ([]) h = refl
reg_reg_number_at-other (a ∷ []) h = refl
reg_reg_number_at-other (a ∷ b ∷ []) h = refl
reg_reg_number_at-other (a ∷ b ∷ c ∷ []) h = absurd (h refl)
reg_reg_number_at-other (a ∷ b ∷ c ∷ d ∷ more) h = refl

pub reg_reg_target_at-other : (xs : List Argument) → length xs ≢ 3 → reg_reg_target_at xs ≡ None
reg_reg_target_at-other ([]) h = refl
reg_reg_target_at-other (a ∷ []) h = refl
reg_reg_target_at-other (a ∷ b ∷ []) h = refl
reg_reg_target_at-other (a ∷ b ∷ c ∷ []) h = absurd (h refl)
reg_reg_target_at-other (a ∷ b ∷ c ∷ d ∷ more) h = refl
