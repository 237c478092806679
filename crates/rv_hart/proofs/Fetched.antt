-- A step whose instruction was fetched is the one of its word, and the one that the table allows.
use Rattle.std.proofs.Common.{◌≡◌, ◌∙◌, refl, sym, ap, subst}
use Rattle.std.specs.Prelude.{Option, Some, None, MatchOption, Result, Ok, Err, IfOk, IfSome, IsNone, ℕ}
use Rattle.rv_decode.specs.Decoded.{decoded}
use Rattle.rv_decode.specs.WordOf.{Fits, IsWordOf}
use Rattle.rv_decode.specs.declared.instruction.Instr.{Instr}
use Rattle.rv_decode.proofs.Found.{found, found_exactly, found_fits, none_exactly}
use Rattle.rv_memory.specs.Access.{word_at}
use Rattle.rv_memory.specs.Fetched.{IsFetched}
use Rattle.rv_memory.specs.Memory.{Memory}
use Rattle.rv_memory.specs.declared.fault.Cause.TheVariants.{IllegalInstruction, InstructionAccess}
use Rattle.rv_hart.specs.Effect.{After, after, trapped}
use Rattle.rv_hart.specs.Relation.{IsStep}
use Rattle.rv_hart.specs.State.{State}
use Rattle.rv_hart.specs.Stepped.{after_decoded, after_fetched, stepped}
use Rattle.rv_hart.specs.Stores.{range_decoded, range_fetched, store_range, stored_by}

-- what holds of every answer holds of another that says more
pub on_ok : {A E : Type 0} {P Q : A → Type 0} (r : Result A E) → ((x : A) → P x → Q x) → IfOk r P → IfOk r Q
on_ok (Ok x) more is = more x is
on_ok (Err e) more is = tt

module _ (s : State) (m : Memory) where
  abbrev of_word : Option ℕ → After → Type 0
  of_word w end =
      MatchOption w
      (end ≡ trapped InstructionAccess s m)
      (λ word. ((i : Instr) → IsWordOf word i → end ≡ after i s m)
      × (((i : Instr) → ¬ (IsWordOf word i)) → end ≡ trapped IllegalInstruction s m))

  of_decoded : (word : ℕ) (i : Option Instr) → decoded word ≡ i → of_word (Some word) (after_decoded i s m)
  of_decoded word None is = (λ j has. absurd (none (sym is ∙ found word j has)), λ _. refl)
    where
      none : {j : Instr} → None ≡ Some j → ⊥
      none h = cc
  of_decoded word (Some i) is =
      (λ j has. ap (λ k. after k s m) (same (sym is ∙ found word j has)), λ never. absurd (never i ((found_exactly word i).0 is)))
    where
      same : {x y : Instr} → Some x ≡ Some y → x ≡ y
      same h = cc

  of_fetched : (w : Option ℕ) → of_word w (after_fetched w s m)
  of_fetched None = refl
  of_fetched (Some word) = of_decoded word (decoded word) refl

  none_else : (word : ℕ) (i : Option Instr) → decoded word ≡ i → (end : After) → of_word (Some word) end
      → end ≡ after_decoded i s m
  none_else word None is end allowed = allowed.1 ((none_exactly word).0 (subst (λ (d : Option Instr). IsNone d) (sym is) refl))
  none_else word (Some i) is end allowed = allowed.0 i ((found_exactly word i).0 is)

  none_other : (w : Option ℕ) (end : After) → of_word w end → end ≡ after_fetched w s m
  none_other None end allowed = allowed
  none_other (Some word) end allowed = none_else word (decoded word) refl end allowed

  -- the table allows what the step leaves
  pub by_table : (end : After) → end ≡ stepped s m → IsStep s m end
  unfolding stepped
  by_table end is = subst (λ e. of_word (word_at m s.pc) e) (sym is) (of_fetched (word_at m s.pc))

  -- and nothing else
  pub only_table : (end : After) → IsStep s m end → end ≡ stepped s m
  unfolding stepped
  only_table end allowed = none_other (word_at m s.pc) end allowed

  module _ {pc : ℕ} (i : Instr) (at : pc ≡ s.pc) (fetched : IsFetched m pc i) where
    f : IsFetched m s.pc i
    f = subst (λ (n : ℕ). IsFetched m n i) at fetched

    pub fits : Fits i
    fits = subst (λ (d : Option Instr). IfSome d Fits) f.decodes (found_fits f.word f.low)

    pub steps : after i s m ≡ stepped s m
    unfolding stepped
    steps = sym (ap (λ w. after_fetched w s m) f.there ∙ ap (λ d. after_decoded d s m) f.decodes)

    pub stores : stored_by i s m ≡ store_range s m
    unfolding store_range
    stores = sym (ap (λ w. range_fetched w s m) f.there ∙ ap (λ d. range_decoded d s m) f.decodes)
