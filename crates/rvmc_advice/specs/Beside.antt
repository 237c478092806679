-- Which hint is printed beside the output of a run, or behind what a search wrote.
use Rattle.std.specs.Prelude.{◌==◌, ◌&&◌, ◌^◌, ℕ, nat_eq, nat_lt, not, if◌then◌else◌, Bool, true, false, List, length}
use Rattle.std.specs.Prelude.{Option, Some, None, codes, option_map}
use Rattle.std.specs.List.{ends_with}
use Rattle.std.specs.Io.KnownBytes.{Keeps}
use Rattle.rvmc_answers.specs.declared.outputs.Output.{Output}
use Rattle.rvmc_answers.specs.declared.outputs.Output.TheVariants as outputs
use Rattle.rvmc_hints.specs.Runs.{AppendsLine, next_bound, run_hint_text}
use Rattle.rvmc_hints.specs.declared.runs.RunHint.{RunHint}
use Rattle.rvmc_hints.specs.declared.runs.RunHint.TheVariants as hint
use Rattle.rvmc_hints.specs.declared.runs.Runner.{Runner}
use Rattle.rvmc_hints.specs.declared.runs.Runner.TheVariants as runners
use Rattle.rvmc_line.specs.declared.line.CommandLine.{CommandLine}
use Rattle.rvmc_line.specs.declared.line.CommandLine.TheVariants.{OfImage}
use Rattle.rvmc_line.specs.declared.line.ImageCommand.{ImageCommand}
use Rattle.rvmc_line.specs.declared.line.ImageCommand.TheVariants as commands
use Rattle.rvmc_line.specs.declared.line.Written.{Written}
use Rattle.rvmc_line.specs.declared.line.Written.TheVariants.{Why}

-- ---- runs

-- who runs the image, and the budget
abbrev pub budget_of : ImageCommand → Option (Runner × ℕ)
budget_of (commands.Run budget plan lead written) = Some (runners.Run, budget)
budget_of (commands.RunUntilStuck budget plan lead written) = Some (runners.Run, budget)
budget_of (commands.One budget plan order written) = Some (runners.One, budget)
budget_of (commands.OneUntilStuck budget plan order written) = Some (runners.One, budget)
budget_of _ = None

-- the same with the next budget, where there is one
abbrev pub next_of : Option (Runner × ℕ) → Option (Runner × ℕ)
next_of None = None
next_of (Some (runner, budget)) = option_map (λ next. (runner, next)) (next_bound budget)

abbrev pub next_budget : CommandLine → Option (Runner × ℕ)
next_budget (OfImage source command) = next_of (budget_of command)
next_budget _ = None

-- where a hart waits at the end of a budget: a larger one may go further
abbrev pub waiting_in : Option (Runner × ℕ) → RunHint
waiting_in (Some (runner, budget)) = hint.WaitsBelow runner budget
waiting_in None = hint.Waits

-- the same where none waits
abbrev pub spent_in : Option (Runner × ℕ) → RunHint
spent_in (Some (runner, budget)) = hint.Spent runner budget
spent_in None = hint.SpentAll

-- status 4 is that of a run that a budget cut short. With another a hart trapped, and no budget goes further
abbrev pub waiting_hint : CommandLine → ℕ → RunHint
waiting_hint line status = if status == 4 then waiting_in (next_budget line) else hint.Waits

abbrev pub spent_hint : CommandLine → ℕ → Option RunHint
spent_hint line status = if status == 4 then Some (spent_in (next_budget line)) else None

-- what is written of a run
abbrev pub written_of : ImageCommand → Option Written
written_of (commands.Run budget plan lead written) = Some written
written_of (commands.RunUntilStuck budget plan lead written) = Some written
written_of (commands.One budget plan order written) = Some written
written_of (commands.OneUntilStuck budget plan order written) = Some written
written_of _ = None

abbrev pub is_why : Option Written → Bool
is_why (Some (Why frames)) = true
is_why _ = false

-- `--why`: what each hart waits for is behind the report
abbrev pub tells_waits : CommandLine → Bool
tells_waits (OfImage source command) = is_why (written_of command)
tells_waits _ = false

-- nothing behind a deadlock, from which no budget goes further
abbrev pub report_hint : CommandLine → List ℕ → ℕ → Option RunHint
report_hint line text status =
    if tells_waits line && not (ends_with nat_eq text (codes "no deadlock shown\n")) then None
    else spent_hint line status

-- no command reads a record of more than 64 MiB
abbrev pub length_hint : ℕ → Option RunHint
length_hint bytes = if nat_lt 67108864 bytes then Some (hint.LongRecord bytes) else None

abbrev pub record_hint : CommandLine → ℕ → ℕ → Option RunHint
record_hint line bytes status = if nat_lt 67108864 bytes then Some (hint.LongRecord bytes) else spent_hint line status

-- a length that 64 bits don't hold has no hint
abbrev pub if_it_fits : ℕ → Option RunHint → Option RunHint
if_it_fits bytes told = if nat_lt bytes (2 ^ 64) then told else None

-- ---- searches

-- of how many states the moves are made at most, and how many turns a rank takes alone
abbrev pub bounds_of : ImageCommand → Option (ℕ × ℕ)
bounds_of (commands.Explore plan states turns recorded buffered progress) = Some (states, turns)
bounds_of (commands.ExploreFrom start states turns recorded buffered progress) = Some (states, turns)
bounds_of _ = None

-- more states, or parts where there can't be more
abbrev pub states_hint : Option ℕ → RunHint
states_hint (Some states) = hint.States states
states_hint None = hint.StatesAll

-- more turns where a rank took more than it might
abbrev pub left_of : Bool → Option (ℕ × ℕ) → Option RunHint
left_of long None = None
left_of true (Some (states, turns)) = option_map hint.Turns (next_bound turns)
left_of false (Some (states, turns)) = Some (states_hint (next_bound states))

abbrev pub left_hint : CommandLine → Bool → Option RunHint
left_hint (OfImage source command) long = left_of long (bounds_of command)
left_hint _ long = None

-- the end of a search's text says that it left states, and why
abbrev pub text_hint : CommandLine → List ℕ → Option RunHint
text_hint line text =
    if ends_with nat_eq text (codes " states are left\n") then left_hint line false
    else (if ends_with nat_eq text (codes " turns alone\n") then left_hint line true else None)

-- a search with status 4 left states: with `long` since a rank took more turns alone than it might
abbrev pub search_hint : CommandLine → Bool → ℕ → Option RunHint
search_hint line long status = if status == 4 then left_hint line long else None

-- ---- which hint is beside an output

abbrev pub run_hint : CommandLine → Output → ℕ → Option RunHint
run_hint line (outputs.Text text) status = text_hint line text.items
run_hint line (outputs.Waiting text) status = Some (waiting_hint line status)
run_hint line (outputs.Spent text) status = report_hint line text.items status
run_hint line (outputs.Record bytes) status = if_it_fits (length bytes) (length_hint (length bytes))
run_hint line (outputs.SpentRecord bytes) status = if_it_fits (length bytes) (record_hint line (length bytes) status)

-- as much of the hint's line as could be written, or nothing
unfoldable pub Tells : Option RunHint → Option (List ℕ) → Option (List ℕ) → Type 0
Tells None old new = Keeps old new
Tells (Some told) old new = AppendsLine (run_hint_text told) old new
