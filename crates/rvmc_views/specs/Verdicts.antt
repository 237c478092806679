-- The line that `check` prints, and its status.
use Rattle.std.specs.Prelude.{ℕ, List, ◌++◌, codes}
use Rattle.std.specs.Fmt.{decimal}
use Rattle.cl_check.specs.declared.checking.Verdict.{Verdict}
use Rattle.cl_check.specs.declared.checking.Verdict.TheVariants.{BadAt, Good}
use Rattle.rvmc_answers.specs.Below.{newline}

-- `good LEN` of so many steps, or `bad N` of the step that is wrong
abbrev pub verdict_text : Verdict → ℕ → List ℕ
verdict_text Good count = codes "good " ++ (decimal count ++ newline)
verdict_text (BadAt n) count = codes "bad " ++ (decimal n ++ newline)

-- a record of wrong steps is a fault of the input
abbrev pub verdict_status : Verdict → ℕ
verdict_status Good = 0
verdict_status (BadAt n) = 1
