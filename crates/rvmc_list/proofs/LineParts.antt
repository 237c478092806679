-- The two parts of an instruction's line are the whole of it.
use Rattle.std.specs.Prelude.{ℕ, ◌≡◌, true, Bool, List, ◌++◌, codes, Option, Some, None}
use Rattle.std.proofs.Common.{refl, ap, ◌∙◌, append_assoc, append-nil}
use Rattle.rv_decode.specs.Decoded.{decoded}
use Rattle.rv_decode.specs.Text.{instr_text}
use Rattle.rv_decode.specs.declared.instruction.Instr.{Instr}
use Rattle.rv_hart.specs.State.{State}
use Rattle.rv_image_types.specs.declared.images.Symbol.{Symbol}
use Rattle.cl_trace.specs.declared.events.Kind.{Kind}
use Rattle.rvmc_places.specs.Places.{named_address_text}
use Rattle.rvmc_sights.proofs.Aheads.{outcome_is}
use Rattle.rvmc_sights.specs.Ahead.{ahead_of, rest_text}
use Rattle.rvmc_sights.specs.Instructions.{instruction_text, word_text}
use Rattle.rvmc_sights.specs.Lines.{Sight, deed_text, head_text, sight_text}
use Rattle.rvmc_list.specs.Folding.{is_plain}
use Rattle.rvmc_list.specs.Fronts.{ahead_met, ahead_there, front_text, spot_met}
use Rattle.rvmc_list.specs.Keeping.{word_spot}

-- the word at a pc, and what it left
word_is : (symbols : List Symbol) (at word : ℕ) (i : Option Instr) (before after : State) (overflow : Bool)
    → word_spot symbols at word i ++ rest_text (ahead_there i before) after overflow after.mode
    ≡ named_address_text symbols at ++ (codes ": " ++ word_text word i before after overflow)
word_is symbols at word (Some i) before after overflow =
    append_assoc (named_address_text symbols at) (codes ": " ++ instr_text i)
    (rest_text (Some (ahead_of i before)) after overflow after.mode)
    ∙ ap (λ (t : List ℕ). named_address_text symbols at ++ (codes ": " ++ (instr_text i ++ t)))
    (outcome_is i before after overflow after.mode)
word_is symbols at word None before after overflow = append-nil (word_spot symbols at word None)

met_is : (symbols : List Symbol) (at : ℕ) (word : Option ℕ) (before after : State) (overflow : Bool)
    → spot_met symbols at word ++ rest_text (ahead_met word before) after overflow after.mode
    ≡ named_address_text symbols at ++ (codes ": " ++ instruction_text word before after overflow)
met_is symbols at None before after overflow = append-nil (spot_met symbols at None)
met_is symbols at (Some word) before after overflow = word_is symbols at word (decoded word) before after overflow

deed_is : (kind : Kind) (sight : Sight) → is_plain kind ≡ true
    → instruction_text sight.word sight.before sight.after sight.overflow ≡ deed_text kind sight
deed_is Kind.Plain sight plain = refl
deed_is Kind.Local sight plain = absurd (cc)
deed_is (Kind.Hub r) sight plain = absurd (cc)
deed_is Kind.Ready sight plain = absurd (cc)
deed_is Kind.Take sight plain = absurd (cc)
deed_is Kind.Miss sight plain = absurd (cc)
deed_is Kind.Freed sight plain = absurd (cc)
deed_is Kind.Held sight plain = absurd (cc)
deed_is Kind.Idle sight plain = absurd (cc)

-- a step that does an instruction
pub plain_is : (symbols : List Symbol) (sight : Sight) → is_plain sight.step.kind ≡ true
    → front_text symbols sight.place sight.step sight.before sight.word
    ++ rest_text (ahead_met sight.word sight.before) sight.after sight.overflow sight.after.mode
    ≡ sight_text symbols sight
unfolding sight_text
plain_is symbols sight plain =
    append_assoc (head_text sight.place sight.step) (spot_met symbols sight.before.pc sight.word)
    (rest_text (ahead_met sight.word sight.before) sight.after sight.overflow sight.after.mode)
    ∙ ap (λ (t : List ℕ). head_text sight.place sight.step ++ t)
    (met_is symbols sight.before.pc sight.word sight.before sight.after sight.overflow
    ∙ ap (λ (t : List ℕ). named_address_text symbols sight.before.pc ++ (codes ": " ++ t))
    (deed_is sight.step.kind sight plain))
