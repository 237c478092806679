-- How an answer ends.
use Rattle.std.specs.Prelude.{◌≡◌, ℕ, List, []}
use Rattle.rvmc_inspect.specs.Below.{fault_status}
use Rattle.rvmc_answers.specs.declared.answers.End.{End}
use Rattle.rvmc_answers.specs.declared.answers.End.TheVariants.{Cut, Status}

-- with a status, or with that of the fault which cuts it short
abbrev pub end_status : End → ℕ
end_status (Status status) = status
end_status (Cut fault) = fault_status fault

-- all is done, and this is the text
abbrev pub IsDone : List ℕ → List ℕ → ℕ → Type 0
IsDone meant text status = (text ≡ meant) × (status ≡ 0)

-- a fault of the input: there is no text, and the status is 1
abbrev pub IsFaulty : List ℕ → ℕ → Type 0
IsFaulty text status = (text ≡ []) × (status ≡ 1)
