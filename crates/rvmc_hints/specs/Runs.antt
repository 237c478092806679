-- What hints say of a run that is as it should be, and how their lines are written.
use Rattle.std.specs.Prelude.{ℕ, ◌*◌, min, nat_le, if◌then◌else◌, List, ◌++◌, Option, None, Some, codes}
use Rattle.std.specs.Fmt.{decimal}
use Rattle.cl_lines.specs.Beginnings.{AppendsBeginning}
use Rattle.rvmc_hints.specs.HintLines.{hint_line}
use Rattle.rvmc_hints.specs.declared.runs.RunHint.{RunHint}
use Rattle.rvmc_hints.specs.declared.runs.RunHint.TheVariants.{LongRecord, Spent, SpentAll, States, StatesAll, Turns}
use Rattle.rvmc_hints.specs.declared.runs.RunHint.TheVariants.{Waits, WaitsBelow}
use Rattle.rvmc_hints.specs.declared.runs.Runner.{Runner}
use Rattle.rvmc_hints.specs.declared.runs.Runner.TheVariants.{One, Run}

-- a bound that is sixteen times as large, and at most 2^24, which is the largest of budgets, of states and of turns
abbrev pub next_bound : ℕ → Option ℕ
next_bound bound = if nat_le 16777216 bound then None else Some (min (16 * bound) 16777216)

-- the hint up to the next budget: if a hart waits, and if none does
abbrev pub waiting_head : Runner → List ℕ
waiting_head Run = codes "a hart waits; --why says for what, and rvmc run --budget "
waiting_head One = codes "a hart waits; --why says for what, and rvmc one --budget "

abbrev pub spent_head : Runner → List ℕ
spent_head Run = codes "a rank used up its budget; rvmc run --budget "
spent_head One = codes "a rank used up its budget; rvmc one --budget "

-- 67,108,864 is 2^26
abbrev pub run_hint_text : RunHint → List ℕ
run_hint_text Waits = codes "a hart waits; --why says for what"
run_hint_text (WaitsBelow runner budget) =
    waiting_head runner ++ (decimal budget ++ codes " goes further")
run_hint_text (Spent runner budget) =
    spent_head runner ++ (decimal budget ++ codes " goes further")
run_hint_text SpentAll = codes "a rank used up the largest budget; --why says where its harts are"
run_hint_text (LongRecord bytes) =
    codes "this record has " ++ (decimal bytes ++ codes " bytes; rvmc check reads at most 67108864")
run_hint_text (States states) =
    codes "states are left; rvmc explore --states " ++ (decimal states ++ codes " goes further")
run_hint_text StatesAll = codes "states are left; rvmc explore --split 64 makes parts to search one by one"
run_hint_text (Turns turns) =
    codes "states are left; rvmc explore --turns " ++ (decimal turns ++ codes " goes further")

-- what was there stays, and behind it stands as much of the line of such a text as could be written
abbrev pub AppendsLine : List ℕ → Option (List ℕ) → Option (List ℕ) → Type 0
AppendsLine text old new = AppendsBeginning (hint_line text) old new
