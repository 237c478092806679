-- The words of a text that were decoded once, and what is fetched of them.
use Rattle.std.proofs.Common.{◌≡◌, ◌∙◌, ℕ, zero, suc, ◌+◌, ◌*◌, ◌≤◌, List, [], ◌∷◌, ◌++◌, length, get_or, take, refl, sym, ap, subst, arith, inl, inr, get_or-take, le-leb}
use Rattle.std.specs.Prelude.{◌⊎◌, Option, Some, None, IfSome, slice_get, nat_le, if◌then◌else◌}
use Rattle.rv_decode.specs.declared.instruction.Instr.{Instr}
use Rattle.rv_memory.specs.Fetched.{IsFetched}
use Rattle.rv_memory.specs.Held.{all_bytes, IsHeld}
use Rattle.rv_memory.specs.Memory.{Memory, value_at}
use Rattle.rv_memory.specs.Readings.{AreReadings, IsReading}
use Rattle.rv_memory.proofs.Values.{value_at-same}

-- no words were decoded
pub none_read : (text : List ℕ) → AreReadings text []
none_read text k reading there = absurd (cc)

-- what stands behind a list that got one more
pushed : (xs : List (Option Instr)) (x : Option Instr) (k : ℕ) (y : Option Instr) → slice_get (xs ++ x ∷ []) k ≡ Some y
    → (slice_get xs k ≡ Some y) ⊎ ((k ≡ length xs) × (x ≡ y))
pushed [] x zero y there = (let same : x ≡ y = (cc) in inr (refl, same))
pushed [] x (suc k) y there = absurd (cc)
pushed (z ∷ xs) x zero y there = inl there
pushed (z ∷ xs) x (suc k) y there = further (pushed xs x k y there)
  where
    further : (slice_get xs k ≡ Some y) ⊎ ((k ≡ length xs) × (x ≡ y))
        → (slice_get xs k ≡ Some y) ⊎ ((suc k ≡ suc (length xs)) × (x ≡ y))
    further (inl before) = inl before
    further (inr last) = inr (ap suc last.0, last.1)

-- one word more
pub one_read : (text : List ℕ) (readings : List (Option Instr)) (reading : Option Instr) → AreReadings text readings
    → IsReading text (4 * length readings) reading → AreReadings text (readings ++ reading ∷ [])
one_read text readings reading before last k it there = either (pushed readings reading k it there)
  where
    either : (slice_get readings k ≡ Some it) ⊎ ((k ≡ length readings) × (reading ≡ it)) → IsReading text (4 * k) it
    either (inl earlier) = before k it earlier
    either (inr here) =
        subst (λ n. IsReading text (4 * n) it) (sym here.0)
        (subst (IsReading text (4 * length readings)) here.1 last)

-- what was found is an instruction, or says nothing
pub instr_found : (text : List ℕ) (pc : ℕ) (reading : Option Instr) → IsReading text pc reading
    → IfSome reading (λ i. IsReading text pc (Some i))
instr_found text pc None is = tt
instr_found text pc (Some i) is = is

-- a text's word is the memory's
text_is : (text : List ℕ) (bytes : List ℕ) (pc : ℕ) → text ≡ take (length text) bytes → pc + 4 ≤ length text
    → value_at bytes pc 4 ≡ value_at text pc 4
text_is text bytes pc first inside =
    value_at-same bytes text pc pc 4
    (λ i small. sym (ap (λ t. get_or t (pc + i) 0) first ∙ get_or-take (length text) bytes (pc + i) 0
    (omega (arith, inside, small))))

-- so an instruction of the text is what is fetched
pub fetched : (text : List ℕ) (pages : List (Option (List ℕ))) (m : Memory) (pc : ℕ) (i : Instr) → IsHeld text pages
    → m.bytes ≡ all_bytes pages → m.text ≡ length text → IsReading text pc (Some i) → IsFetched m pc i
fetched text pages m pc i held bytes long is = record {
  word = value_at text pc 4;
  there =
      ap (λ n. if nat_le (pc + 4) n then Some (value_at m.bytes pc 4) else None) long
      ∙ ap (λ bs. if nat_le (pc + 4) (length text) then Some (value_at bs pc 4) else None) bytes
      ∙ within (is.inside) (ap Some (text_is text (all_bytes pages) pc held.text_first is.inside));
  decodes = sym is.decodes;
  low = is.low;
}
  where
    within : {x y : Option ℕ} → pc + 4 ≤ length text → x ≡ y
        → (if nat_le (pc + 4) (length text) then x else None) ≡ y
    within {x} inside same = ap (λ b. if b then x else None) (le-leb (pc + 4) (length text) inside) ∙ same
