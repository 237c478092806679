-- The operands of each shape, as they are printed.
use Rattle.std.proofs.Common.{◌≡◌, ℕ, ◌<◌, [], ◌∷◌, Option, Some, None, ℤ, pos, refl, ap, ◌∙◌}
use Rattle.rv_asm_tokens.specs.Fault.{if_some}
use Rattle.rv_decode.specs.Text.{register_text}
use Rattle.rv_asm_statements.specs.declared.filled.Filled.{Filled}
use Rattle.rv_asm_statements.specs.declared.rows.Shape.TheVariants.{Nothing, RegRegReg, RegNumber, RegRegNumber, RegPlace, RegTarget, RegRegTarget}
use Rattle.rv_asm_statements.specs.Arguments.{Argument, word, value, place}
use Rattle.rv_asm_statements.specs.Shapes.{at_number, filled, filled_by, register_of}
use Rattle.rv_asm_print_laws.proofs.Operands.{named}

-- what is made with a register, if an operand is one
abbrev with_register : Argument → (ℕ → Option Filled) → Option Filled
with_register a f = if_some (register_of a) None f

with_named : (n : ℕ) (f : ℕ → Option Filled) → n < 32 → with_register (word (register_text n)) f ≡ f n
with_named n f small = ap (λ (o : Option ℕ). if_some o None f) (named n small)

pub nothing_filled : filled_by Nothing [] ≡ Some (filled 0 0 0 (at_number (pos 0)))
unfolding filled_by
nothing_filled = refl

module _ (d : ℕ) (small_d : d < 32) (z : ℤ) where
  pub reg_number_filled : filled_by RegNumber (word (register_text d) ∷ value z ∷ []) ≡ Some (filled d 0 0 (at_number z))
  unfolding filled_by
  reg_number_filled = with_named d (λ r. Some (filled r 0 0 (at_number z))) small_d

  pub reg_target_filled : filled_by RegTarget (word (register_text d) ∷ value z ∷ []) ≡ Some (filled d 0 0 (at_number z))
  unfolding filled_by
  reg_target_filled = with_named d (λ r. Some (filled r 0 0 (at_number z))) small_d

module _ (d s : ℕ) (small_d : d < 32) (small_s : s < 32) where
  second_filled : (c : ℕ) (z : ℤ) → with_register (word (register_text s)) (λ r. Some (filled d r c (at_number z))) ≡ Some (filled d s c (at_number z))
  second_filled c z = with_named s (λ r. Some (filled d r c (at_number z))) small_s

  pub reg_reg_number_filled : (z : ℤ) → filled_by RegRegNumber (word (register_text d) ∷ word (register_text s) ∷ value z ∷ []) ≡ Some (filled d s 0 (at_number z))
  unfolding filled_by
  reg_reg_number_filled z = with_named d (λ r. with_register (word (register_text s)) (λ q. Some (filled r q 0 (at_number z)))) small_d ∙ second_filled 0 z

  pub reg_reg_target_filled : (z : ℤ) → filled_by RegRegTarget (word (register_text d) ∷ word (register_text s) ∷ value z ∷ []) ≡ Some (filled d s 0 (at_number z))
  unfolding filled_by
  reg_reg_target_filled z = with_named d (λ r. with_register (word (register_text s)) (λ q. Some (filled r q 0 (at_number z)))) small_d ∙ second_filled 0 z

  pub reg_place_filled : (z : ℤ) → filled_by RegPlace (word (register_text d) ∷ place z (register_text s) ∷ []) ≡ Some (filled d s 0 (at_number z))
  unfolding filled_by
  reg_place_filled z = with_named d (λ r. with_register (word (register_text s)) (λ q. Some (filled r q 0 (at_number z)))) small_d ∙ second_filled 0 z

  pub reg_reg_reg_filled : (t : ℕ) → t < 32 → filled_by RegRegReg (word (register_text d) ∷ word (register_text s) ∷ word (register_text t) ∷ []) ≡ Some (filled d s t (at_number (pos 0)))
  unfolding filled_by
  reg_reg_reg_filled t small_t =
      with_named d (λ r. with_register (word (register_text s)) (λ q. with_register (word (register_text t)) (λ p. Some (filled r q p (at_number (pos 0)))))) small_d
      ∙ with_named s (λ q. with_register (word (register_text t)) (λ p. Some (filled d q p (at_number (pos 0))))) small_s
      ∙ with_named t (λ p. Some (filled d s p (at_number (pos 0)))) small_t
