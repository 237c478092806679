-- A rank by other names: the posts that its requests and its harts name have other numbers, and all else is the same.
use Rattle.std.specs.Prelude.{ℕ, ◌≡◌, map}
use Rattle.std.specs.Option.{option_map}
use Rattle.rv_hart.specs.State.{State, in_mode}
use Rattle.rv_hart.specs.declared.state.Mode.{Mode}
use Rattle.rv_hart.specs.declared.state.Mode.TheVariants.{Waiting}
use Rattle.rv_hart.specs.declared.state.Wait.{Wait}
use Rattle.rv_hart.specs.declared.state.Wait.TheVariants.{Post, Again}
use Rattle.mp_types.specs.declared.replies.Reply.TheVariants.{Posted}
use Rattle.mp_request.specs.declared.entries.OpenRequest.{OpenRequest}
use Rattle.mp_request.specs.declared.entries.Progress.{Progress}
use Rattle.mp_request.specs.declared.entries.Progress.TheVariants.{Finished, Sent, OnPost, InPhase}
use Rattle.mp_request.specs.declared.entries.State.{State as RequestState}
use Rattle.mp_request.specs.declared.entries.State.TheVariants.{Ordinary, Inactive, Active}
use Rattle.mp_request.specs.Table.{Table}
use Rattle.cl_state.specs.declared.asking.Answer.{Answer}
use Rattle.cl_state.specs.declared.asking.Answer.TheVariants as answer
use Rattle.cl_state.specs.declared.asking.Ask.{Ask}
use Rattle.cl_state.specs.declared.asking.Ask.TheVariants as ask
use Rattle.cl_state.specs.Rank.{Rank}
use Rattle.mp_alike_laws.specs.Renaming.{Renaming, number_by, request_by}

-- ---- requests

-- the post of a standard send, of which nobody asks, is numbered by itself
abbrev pub progress_with : Renaming → (ℕ → ℕ) → Progress → Progress
progress_with names sends Finished = Finished
progress_with names sends (Sent post) = Sent (sends post)
progress_with names sends (OnPost post) = OnPost (number_by names post)
progress_with names sends InPhase = InPhase

abbrev pub state_with : Renaming → (ℕ → ℕ) → RequestState → RequestState
state_with names sends (Ordinary progress) = Ordinary (progress_with names sends progress)
state_with names sends Inactive = Inactive
state_with names sends (Active progress) = Active (progress_with names sends progress)

abbrev pub open_with : Renaming → (ℕ → ℕ) → OpenRequest → OpenRequest
open_with names sends request =
    record { transfer = request.transfer; state = state_with names sends request.state }

abbrev pub table_with : Renaming → (ℕ → ℕ) → Table → Table
table_with names sends table = map (option_map (open_with names sends)) table

-- by one renaming for all posts
abbrev pub progress_by : Renaming → Progress → Progress
progress_by names = progress_with names (number_by names)

abbrev pub state_by : Renaming → RequestState → RequestState
state_by names = state_with names (number_by names)

abbrev pub open_by : Renaming → OpenRequest → OpenRequest
open_by names = open_with names (number_by names)

abbrev pub table_by : Renaming → Table → Table
table_by names = table_with names (number_by names)

-- ---- harts

abbrev pub wait_by : Renaming → Wait → Wait
wait_by names (Post post) = Post (number_by names post)
wait_by names Again = Again

abbrev pub mode_by : Renaming → Mode → Mode
mode_by names (Waiting wait) = Waiting (wait_by names wait)
mode_by names mode = mode

abbrev pub hart_by : Renaming → State → State
hart_by names hart = in_mode hart (mode_by names hart.mode)

-- ---- a rank, what it asks, and what it is told

abbrev pub rank_with : Renaming → (ℕ → ℕ) → Rank → Rank
rank_with names sends rank =
    record rank { harts = map (hart_by names) rank.harts; requests = table_with names sends rank.requests }

abbrev pub rank_by : Renaming → Rank → Rank
rank_by names = rank_with names (number_by names)

abbrev pub ask_by : Renaming → Ask → Ask
ask_by names (ask.Hub request) = ask.Hub (request_by names request)
ask_by names asked = asked

-- an answer whose post has the same number by both names
abbrev pub IsSameNamed : Renaming → Answer → Type 0
IsSameNamed names (answer.Reply (Posted post done)) = number_by names post ≡ post
IsSameNamed names answer = Unit {0}
