-- Polls of synchronous sends that were complete as they were made: they ask nobody.
use Rattle.std.specs.Prelude.{ℕ, ◌&&◌, ◌≡◌, Bool, true, false, Option}
use Rattle.std.specs.List.{list_any}
use Rattle.std.specs.Option.{option_map_or}
use Rattle.rv_memory.specs.Memory.{Memory}
use Rattle.mp_request.specs.declared.entries.OpenRequest.{OpenRequest}
use Rattle.mp_request.specs.declared.entries.Progress.{Progress}
use Rattle.mp_request.specs.declared.entries.Progress.TheVariants.{Finished}
use Rattle.mp_request.specs.declared.entries.State.{State}
use Rattle.mp_request.specs.declared.entries.State.TheVariants.{Active, Ordinary}
use Rattle.mp_request.specs.declared.entries.Transfer.{Transfer}
use Rattle.mp_request.specs.declared.entries.Transfer.TheVariants as transfer
use Rattle.mp_request.specs.Table.{Table, request_at}
use Rattle.cl_calls.specs.declared.calls.Call.TheVariants as call
use Rattle.cl_calls.specs.Handles.{handles_in}
use Rattle.cl_calls.specs.Needs.{array_at}
use Rattle.cl_state.specs.declared.asking.Doing.{Doing}
use Rattle.cl_state.specs.declared.asking.Doing.TheVariants.{Go}
use Rattle.cl_state.specs.Asked.{doing, part_of}
use Rattle.cl_state.specs.Rank.{Rank}

-- a synchronous send (MPI 4.1, 3.4)
abbrev pub is_synchronous : Transfer → Bool
is_synchronous (transfer.Send sync buffer count dest tag comm) = sync
is_synchronous _ = false

-- nothing is awaited of it: its receive was posted before it
abbrev pub is_finished : State → Bool
is_finished (Ordinary Finished) = true
is_finished (Active Finished) = true
is_finished _ = false

abbrev pub is_complete_send : Option OpenRequest → Bool
is_complete_send request = option_map_or (λ r. is_synchronous r.transfer && is_finished r.state) request false

-- TEST of such a send, and TESTALL that names one (3.7.3 and 3.7.5)
abbrev pub polls_complete_in : Memory → Table → Doing → Bool
polls_complete_in memory table (Go (call.Test c)) = is_complete_send (request_at table c.handle)
polls_complete_in memory table (Go (call.Testall s)) =
    list_any (λ h. is_complete_send (request_at table h)) (handles_in memory (array_at s.array s.count))
polls_complete_in memory table _ = false

-- the hart's next turn is one
abbrev pub polls_complete : Rank → ℕ → Bool
polls_complete rank hart =
    polls_complete_in rank.memory rank.requests (doing rank.site (part_of rank hart))

-- whether a rank may make one
abbrev pub PollsOfComplete : Type 0
PollsOfComplete = ℕ → Bool

-- rank r may, if its hart's next turn is one
abbrev pub PollWithin : PollsOfComplete → ℕ → Rank → ℕ → Type 0
PollWithin may r rank hart = polls_complete rank hart ≡ true → may r ≡ true
