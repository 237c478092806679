-- What has the same number, or the same words, is the same.
use Rattle.std.specs.Prelude.{ℕ, zero, suc, ◌≡◌, List, Bool}
use Rattle.std.proofs.Common.{refl, sym, ap, ◌∙◌}
use Rattle.std.specs.Bool.{Decides, nat_eq}
use Rattle.std.specs.Cmp.Lexicographic.{pointwise}
use Rattle.std.proofs.lemmas.Bool.Decides.{Decides-eqb}
use Rattle.std.proofs.lemmas.Slice.Eq.{slice_eq-Decides}
use Rattle.rv_memory.specs.Fault.{cause_number}
use Rattle.rv_memory.specs.declared.fault.Cause.{Cause}

cause_of : ℕ → Cause
cause_of zero = Cause.InstructionMisaligned
cause_of (suc zero) = Cause.InstructionAccess
cause_of (suc (suc zero)) = Cause.IllegalInstruction
cause_of (suc (suc (suc zero))) = Cause.Breakpoint
cause_of (suc (suc (suc (suc zero)))) = Cause.LoadMisaligned
cause_of (suc (suc (suc (suc (suc zero))))) = Cause.LoadAccess
cause_of (suc (suc (suc (suc (suc (suc zero)))))) = Cause.StoreMisaligned
cause_of _ = Cause.StoreAccess

of_number : (a : Cause) → cause_of (cause_number a) ≡ a
unfolding cause_of
of_number Cause.InstructionMisaligned = refl
of_number Cause.InstructionAccess = refl
of_number Cause.IllegalInstruction = refl
of_number Cause.Breakpoint = refl
of_number Cause.LoadMisaligned = refl
of_number Cause.LoadAccess = refl
of_number Cause.StoreMisaligned = refl
of_number Cause.StoreAccess = refl

pub same_cause : (a b : Cause) → cause_number a ≡ cause_number b → a ≡ b
same_cause a b same = sym (of_number a) ∙ (ap cause_of same ∙ of_number b)

pub same_words : (xs ys : List ℕ) (r : Bool) → r ≡ pointwise nat_eq xs ys → Decides r (xs ≡ ys)
same_words xs ys r h = slice_eq-Decides Decides-eqb xs ys r h
