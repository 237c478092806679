-- What the code answers of the bytes of an image.
use Rattle.std.specs.Prelude.{◌≡◌, ℕ, List, length, Result, Ok, Err, MatchResult, IsOk, ⊤}
use Rattle.rv_image.specs.declared.faults.ImageFault.{ImageFault}
use Rattle.rv_image.specs.declared.faults.ImageFault.TheVariants as faults
use Rattle.rv_image.specs.declared.faults.ImageFault.TheVariants.{Magic, Version, Short, Long, Limit, Text, Comm}
use Rattle.rv_image.specs.declared.faults.ImageFault.TheVariants.{Memory}

-- the answer, seen by view, is just what is read: the value or the fault
abbrev pub GivesBy : {A B : Type 0} → (A → B) → Result A ImageFault → Result B ImageFault → Type 0
GivesBy view answer read = MatchResult answer (λ x. read ≡ Ok (view x)) (λ fault. read ≡ Err fault)

-- the bytes that are left after a reading
abbrev pub rest_of : {A : Type 0} → Result (A × List ℕ) ImageFault → Result (List ℕ) ImageFault
rest_of (Ok x) = Ok x.1
rest_of (Err fault) = Err fault

-- the answer says that something is read, or tells the fault
abbrev pub Accepts : {A B : Type 0} → Result A ImageFault → Result B ImageFault → Type 0
Accepts answer read = MatchResult answer (λ _. IsOk read) (λ fault. read ≡ Err fault)

-- the fault is the one that is read, unless memory ran out
abbrev pub IsFaultOf : {A : Type 0} → Result A ImageFault → ImageFault → Type 0
IsFaultOf read Memory = ⊤
IsFaultOf read Magic = read ≡ Err Magic
IsFaultOf read Version = read ≡ Err Version
IsFaultOf read (Short length) = read ≡ Err (Short length)
IsFaultOf read (Long end) = read ≡ Err (Long end)
IsFaultOf read (Limit offset value) = read ≡ Err (Limit offset value)
IsFaultOf read (Text offset) = read ≡ Err (Text offset)
IsFaultOf read (Comm n) = read ≡ Err (Comm n)
IsFaultOf read (faults.Link n) = read ≡ Err (faults.Link n)
IsFaultOf read (faults.Symbol n) = read ≡ Err (faults.Symbol n)

-- the answer, seen by view, is what is read, unless memory ran out
abbrev pub AnswersBy : {A B : Type 0} → (A → B) → Result A ImageFault → Result B ImageFault → Type 0
AnswersBy view (Ok x) read = read ≡ Ok (view x)
AnswersBy view (Err fault) read = IsFaultOf read fault

-- the answer is what is read, unless memory ran out
abbrev pub IsReadAs : {A : Type 0} → Result A ImageFault → Result A ImageFault → Type 0
IsReadAs = AnswersBy (λ x. x)
