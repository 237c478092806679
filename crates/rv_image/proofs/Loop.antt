-- Steps one after the other, as a loop does them: each lemma is one way on from the loop's invariant.
use Rattle.std.proofs.Common.{◌≡◌, ℕ, suc, ◌-◌, ◌+◌, ◌≤◌, ◌<◌, List, Result, Ok, Err, refl, sym, ◌∙◌, arith}
use Rattle.std.specs.Prelude.{IsOk}
use Rattle.rv_image.specs.declared.faults.ImageFault.{ImageFault}
use Rattle.rv_image.specs.declared.faults.ImageFault.TheVariants as faults
use Rattle.rv_image.specs.Reading.{repeated}
use Rattle.rv_image.specs.ReadingAnswers.{IsFaultOf}

-- a fault that is read is the one that may be told
pub told : {A : Type 0} (fault : ImageFault) (read : Result A ImageFault) → read ≡ Err fault → IsFaultOf read fault
told faults.Memory read e = tt
told faults.Magic read e = e
told faults.Version read e = e
told (faults.Short length) read e = e
told (faults.Long end) read e = e
told (faults.Limit offset value) read e = e
told (faults.Text offset) read e = e
told (faults.Comm n) read e = e
told (faults.Link n) read e = e
told (faults.Symbol n) read e = e

-- what is read has no fault
pub read_has_no_fault : {A P : Type 0} (read : Result A ImageFault) (fault : ImageFault) → IsOk read → read ≡ Err fault → P
read_has_no_fault (Ok x) fault ok e = absurd cc
read_has_no_fault (Err other) fault ok e = absurd cc

-- one more is left than after it
one_more : (count i : ℕ) → i < count → count - i ≡ suc (count - (i + 1))
one_more count i lt = omega arith

pub step_goes : {A : Type 0} (step : A → List ℕ → Result (A × List ℕ) ImageFault) (count i : ℕ) (done : A) (bytes : List ℕ) (then : A) (after : List ℕ) (whole : Result (A × List ℕ) ImageFault) → i < count → step done bytes ≡ Ok (then, after)
    → repeated step (count - i) done bytes ≡ whole → repeated step (count - (i + 1)) then after ≡ whole
unfolding repeated
step_goes step count i done bytes then after whole lt h so_far =
    let one : repeated step (count - i) done bytes ≡ repeated step (count - (i + 1)) then after = rw (one_more count i lt, h) refl in
    sym one ∙ so_far

pub steps_done : {A : Type 0} (step : A → List ℕ → Result (A × List ℕ) ImageFault) (count i : ℕ) (done : A) (bytes : List ℕ) (whole : Result (A × List ℕ) ImageFault) → count ≤ i
    → repeated step (count - i) done bytes ≡ whole → whole ≡ Ok (done, bytes)
unfolding repeated
steps_done step count i done bytes whole le so_far =
    let none : count - i ≡ 0 = omega arith in
    let one : repeated step (count - i) done bytes ≡ Ok (done, bytes) = rw none refl in
    sym so_far ∙ one

-- a step that fails ends the whole with its fault
pub step_stops : {A : Type 0} (fault : ImageFault) (step : A → List ℕ → Result (A × List ℕ) ImageFault) (count i : ℕ) (done : A) (bytes : List ℕ) (whole : Result (A × List ℕ) ImageFault) → i < count → step done bytes ≡ Err fault
    → repeated step (count - i) done bytes ≡ whole → whole ≡ Err fault
unfolding repeated
step_stops fault step count i done bytes whole lt h so_far =
    let one : repeated step (count - i) done bytes ≡ Err fault = rw (one_more count i lt, h) refl in
    sym so_far ∙ one
