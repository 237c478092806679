-- The line of a step.
use Rattle.std.specs.Prelude.{ℕ, if◌then◌else◌, Bool, List, ◌++◌, codes, get_or, Option, Some, None}
use Rattle.std.specs.Fmt.{decimal}
use Rattle.rv_hart.specs.State.{State, read}
use Rattle.rv_image_types.specs.declared.images.Symbol.{Symbol}
use Rattle.rv_memory.specs.Access.{word_at}
use Rattle.cl_calls.specs.declared.calls.Call.{Call}
use Rattle.cl_calls.specs.Calls.{argument, call_named}
use Rattle.cl_calls.specs.Names.{call_name}
use Rattle.cl_state.specs.Asked.{asked, no_hart}
use Rattle.cl_state.specs.Rank.{Rank}
use Rattle.cl_state.specs.declared.asking.Ask.{Ask}
use Rattle.cl_state.specs.declared.asking.Ask.TheVariants as ask
use Rattle.cl_trace.specs.declared.events.Kind.{Kind}
use Rattle.cl_machine.specs.declared.steps.Step.{Step}
use Rattle.rvmc_places.specs.Causes.{has_overflowed}
use Rattle.rvmc_places.specs.Places.{named_address_text}
use Rattle.rvmc_sights.specs.Arguments.{arguments_text}
use Rattle.rvmc_sights.specs.Gave.{box_text, end_text, is_refused, kind_text}
use Rattle.rvmc_sights.specs.Instructions.{instruction_text}
use Rattle.rvmc_stats.specs.Names.{code_name}

-- ---- what is seen of a step

-- its place; the step; its hart before it, the word at that hart's pc, and the box that the hart asks; its hart after it,
-- and whether that has trapped because its stack is full
pub record Sight : Type 0 where
  pub place : ℕ
  pub step : Step
  pub before : State
  pub word : Option ℕ
  pub box : Option (ℕ × ℕ)
  pub after : State
  pub overflow : Bool

-- the link and the number of the box that is asked
abbrev pub box_in : Ask → Option (ℕ × ℕ)
box_in (ask.Ready link part bytes) = Some (link, part)
box_in (ask.Look link part) = Some (link, part)
box_in (ask.Freed link part) = Some (link, part)
box_in _ = None

-- of the kinds of steps that ask one
abbrev pub box_met : Kind → Ask → Option (ℕ × ℕ)
box_met Kind.Ready a = box_in a
box_met Kind.Take a = box_in a
box_met Kind.Miss a = box_in a
box_met Kind.Freed a = box_in a
box_met _ a = None

-- the step's hart in its rank
abbrev pub hart_of : Step → Rank → State
hart_of e rank = get_or rank.harts e.hart no_hart

-- whether it has trapped because its stack is full
abbrev pub overflow_of : Step → Rank → Bool
overflow_of e rank = has_overflowed rank.memory (hart_of e rank) (hart_of e rank).mode

-- of a step whose rank is this before it, and that after it
abbrev pub sight_of : ℕ → Step → Rank → Rank → Sight
sight_of place e before after = record {
  place = place;
  step = e;
  before = hart_of e before;
  word = word_at before.memory (hart_of e before).pc;
  box = box_met e.kind (asked before e.hart);
  after = hart_of e after;
  overflow = overflow_of e after;
}

-- ---- its text

-- behind the name of a refused call, as `SEND refused: BAD_COUNT`: the code, and its arguments
abbrev pub refused_text : Call → State → List ℕ
refused_text c after = codes " refused: " ++ (code_name (read after 10) ++ arguments_text c)

-- behind the name of one that wasn't: its arguments, the box that it asked, what the hub told, and how it ended
abbrev pub done_text : Call → Sight → List ℕ
done_text c sight =
    arguments_text c
    ++ (box_text sight.box ++ (kind_text sight.step.kind ++ end_text c sight.after sight.after.mode))

abbrev pub called_text : Call → Sight → List ℕ
called_text c sight =
    if is_refused sight.after sight.after.mode then refused_text c sight.after else done_text c sight

-- the name, by the number in a7, and the rest
abbrev pub made_call_text : Sight → List ℕ
made_call_text sight = call_name (argument sight.before 7) ++ called_text (call_named sight.before) sight

-- an instruction, a turn of a stopped hart, or a call
abbrev pub deed_text : Kind → Sight → List ℕ
deed_text Kind.Plain sight = instruction_text sight.word sight.before sight.after sight.overflow
deed_text Kind.Idle sight = codes "stopped"
deed_text _ sight = made_call_text sight

-- `PLACE rank R hart H stamp S at `, before the address of the hart's pc
abbrev pub head_text : ℕ → Step → List ℕ
head_text place e =
    decimal place
    ++ (codes " rank "
    ++ (decimal e.rank
    ++ (codes " hart " ++ (decimal e.hart ++ (codes " stamp " ++ (decimal e.stamp ++ codes " at "))))))

-- without the newline
unfoldable pub sight_text : List Symbol → Sight → List ℕ
sight_text symbols sight =
    head_text sight.place sight.step
    ++ (named_address_text symbols sight.before.pc ++ (codes ": " ++ deed_text sight.step.kind sight))
