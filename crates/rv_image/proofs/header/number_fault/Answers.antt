-- The first test that fails is one of the limits, or one behind them.
use Rattle.std.proofs.Common.{◌≡◌, Bool, true, false, cond, List, [], ◌∷◌, ◌++◌, Option, Some, None, refl, sym, ◌∙◌}
use Rattle.rv_image.specs.declared.faults.ImageFault.{ImageFault}
use Rattle.rv_image.specs.Reading.{limit_tests, place_tests, first_fault}
use Rattle.rv_image.proofs.header.number_fault.Goals as goal

still_fails : (b : Bool) (d : ImageFault) (o all : Option ImageFault) (fault : ImageFault) → (o ≡ Some fault → all ≡ Some fault) → cond b o (Some d) ≡ Some fault → cond b all (Some d) ≡ Some fault
still_fails true d o all fault h e = h e
still_fails false d o all fault h e = e

fails_first : (a b : List (Bool × ImageFault)) (fault : ImageFault) → first_fault a ≡ Some fault → first_fault (a ++ b) ≡ Some fault
fails_first [] b fault e = absurd cc
fails_first (test ∷ tests) b fault e = still_fails test.0 test.1 (first_fault tests) (first_fault (tests ++ b)) fault (fails_first tests b fault) e

goes_on : (b : Bool) (d : ImageFault) (o all then : Option ImageFault) → (o ≡ None → all ≡ then) → cond b o (Some d) ≡ None → cond b all (Some d) ≡ then
goes_on true d o all then h e = h e
goes_on false d o all then h e = absurd cc

passes_first : (a b : List (Bool × ImageFault)) → first_fault a ≡ None → first_fault (a ++ b) ≡ first_fault b
passes_first [] b e = refl
passes_first (test ∷ tests) b e = goes_on test.0 test.1 (first_fault tests) (first_fault (tests ++ b)) (first_fault b) (passes_first tests b) e

pub returns-in-Some : goal.returns-in-Some
returns-in-Some c = let h = c.args.h.now in sym (fails_first (limit_tests h) (place_tests h) c.in-Some.fault (sym c.in-Some.ensures))

pub returns : goal.returns
returns c = let h = c.args.h.now in c.place_fault.ensures ∙ sym (passes_first (limit_tests h) (place_tests h) (sym c.in_default.ensures))
