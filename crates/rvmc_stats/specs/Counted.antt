-- What is counted of steps: each number is that of the steps, or of the messages, of which something holds.
use Rattle.std.specs.Prelude.{ℕ, ◌+◌, ◌*◌, ◌==◌, ◌&&◌, not, if◌then◌else◌, nat_lt, Bool, true, false, List, [], ◌∷◌, length}
use Rattle.std.specs.Prelude.{map, Option, Some, None}
use Rattle.std.specs.List.{count_by, filter, filter_map, flat_map, sum_by}
use Rattle.mp_types.specs.declared.messages.Message.{Message}
use Rattle.mp_types.specs.declared.replies.Reply.{Reply}
use Rattle.mp_types.specs.declared.replies.Reply.TheVariants as reply
use Rattle.rv_hart.specs.State.{State, read}
use Rattle.rv_hart.specs.declared.state.Mode.{Mode}
use Rattle.rv_hart.specs.declared.state.Mode.TheVariants.{Running, Waiting, Ended, Trapped}
use Rattle.cl_calls.specs.Calls.{argument}
use Rattle.cl_calls.specs.Names.{is_call_number, numbers_end}
use Rattle.cl_trace.specs.declared.events.Kind.{Kind}
use Rattle.cl_machine.specs.declared.steps.Step.{Step}

-- what is seen of a step: its hart before it, and its hart after it
pub record Taken : Type 0 where
  pub step : Step
  pub before : State
  pub after : State

-- ---- turns

-- the column of a kind
abbrev pub kind_place : Kind → ℕ
kind_place Kind.Plain = 0
kind_place Kind.Local = 1
kind_place (Kind.Hub r) = 2
kind_place Kind.Ready = 3
kind_place Kind.Take = 4
kind_place Kind.Miss = 5
kind_place Kind.Freed = 6
kind_place Kind.Held = 7
kind_place Kind.Idle = 8

abbrev pub is_turn : ℕ → ℕ → Taken → Bool
is_turn rank column taken = (rank == taken.step.rank) && (column == kind_place taken.step.kind)

-- how many turns of a kind a rank took
abbrev pub turns_of : List Taken → ℕ → ℕ → ℕ
turns_of all rank column = count_by (is_turn rank column) all

-- of any kind
abbrev pub is_turn_by : ℕ → Taken → Bool
is_turn_by rank taken = rank == taken.step.rank

abbrev pub taken_by : List Taken → ℕ → ℕ
taken_by all rank = count_by (is_turn_by rank) all

-- a turn of a hart that found nothing new, and isn't stopped
abbrev pub is_told_not_yet : Reply → Bool
is_told_not_yet reply.NotYet = true
is_told_not_yet _ = false

abbrev pub is_wait : Kind → Bool
is_wait (Kind.Hub r) = is_told_not_yet r
is_wait Kind.Miss = true
is_wait Kind.Held = true
is_wait _ = false

abbrev pub is_waiting_turn : ℕ → Taken → Bool
is_waiting_turn rank taken = is_wait taken.step.kind && (rank == taken.step.rank)

abbrev pub waits_of : List Taken → ℕ → ℕ
waits_of all rank = count_by (is_waiting_turn rank) all

-- ---- calls

-- a turn that made a call: neither an instruction nor one of a stopped hart
abbrev pub is_call : Kind → Bool
is_call Kind.Plain = false
is_call Kind.Idle = false
is_call _ = true

-- the row of a call is its number; behind them all stands that of numbers which are no call's
abbrev pub call_row : ℕ → ℕ
call_row number = if is_call_number number then number else numbers_end

-- so many rows
abbrev pub rows_of_calls : ℕ
rows_of_calls = numbers_end + 1

-- how a call ended: with the code that it left in a0, from 0 to 16; with another number there, which none does; or its
-- hart waits, and makes it again; or has ended; or has trapped, which no call does
abbrev pub code_place : ℕ → ℕ
code_place code = if nat_lt code 17 then code else 17

abbrev pub outcome_place : State → Mode → ℕ
outcome_place after Running = code_place (read after 10)
outcome_place after (Waiting w) = 18
outcome_place after (Ended code) = 19
outcome_place after (Trapped cause at) = 20

abbrev pub is_made : ℕ → ℕ → Taken → Bool
is_made number outcome taken =
    is_call taken.step.kind
    && ((number == call_row (argument taken.before 7)) && (outcome == outcome_place taken.after taken.after.mode))

-- how many turns made this call, and ended so
abbrev pub calls_made : List Taken → ℕ → ℕ → ℕ
calls_made all number outcome = count_by (is_made number outcome) all

-- ---- messages

-- a message that a rank received
pub record Received : Type 0 where
  pub to : ℕ
  pub message : Message

-- those that a reply brings
abbrev pub messages_by_reply : Reply → List Message
messages_by_reply (reply.Got m) = m ∷ []
messages_by_reply (reply.AllGot gots) = filter_map (λ got. got) gots
messages_by_reply _ = []

abbrev pub messages_by_kind : Kind → List Message
messages_by_kind (Kind.Hub r) = messages_by_reply r
messages_by_kind _ = []

abbrev pub received_by : ℕ → List Message → List Received
received_by to messages = map (λ (m : Message). record { to = to; message = m }) messages

abbrev pub received_in : Taken → List Received
received_in taken = received_by taken.step.rank (messages_by_kind taken.step.kind)

abbrev pub all_received : List Taken → List Received
all_received all = flat_map received_in all

abbrev pub is_from_to : ℕ → ℕ → Received → Bool
is_from_to from to r = (from == r.message.envelope.source) && (to == r.to)

-- how many messages of one rank another received, and how many bytes they have
abbrev pub messages_of : List Received → ℕ → ℕ → ℕ
messages_of all from to = count_by (is_from_to from to) all

abbrev pub size_in_bytes : Received → ℕ
size_in_bytes r = length r.message.bytes

abbrev pub bytes_between : List Received → ℕ → ℕ → ℕ
bytes_between all from to = sum_by size_in_bytes (filter (is_from_to from to) all)

-- ---- places of the text

-- a turn of a hart that isn't stopped, at this word of the text
abbrev pub is_stopped_turn : Kind → Bool
is_stopped_turn Kind.Idle = true
is_stopped_turn _ = false

abbrev pub is_at : ℕ → Taken → Bool
is_at word taken = not (is_stopped_turn taken.step.kind) && (taken.before.pc == 4 * word)

abbrev pub turns_at : List Taken → ℕ → ℕ
turns_at all word = count_by (is_at word) all

-- ---- what is seen

abbrev pub taken_seen : Step → State → State → Taken
taken_seen step before after = record { step = step; before = before; after = after }
