-- Laws of asked and told ranks.
use Rattle.std.specs.Prelude.{◌≡◌, ◌≢◌, ◌<◌, ◌≤◌, ℕ, List, length, set}
use Rattle.rv_hart.specs.State.{State, in_mode, read}
use Rattle.rv_hart.specs.declared.state.Mode.TheVariants.{Waiting}
use Rattle.rv_hart.specs.declared.state.Wait.TheVariants.{Again}
use Rattle.rv_hart.specs.Effect.{next}
use Rattle.mp_types.specs.Codes.{code_number}
use Rattle.mp_types.specs.declared.codes.Code.{Code}
use Rattle.mp_types.specs.declared.codes.Code.TheVariants as code
use Rattle.mp_types.specs.declared.replies.Reply.TheVariants as reply
use Rattle.mp_types.specs.declared.requests.Request.{Request}
use Rattle.mp_types.specs.declared.requests.Request.TheVariants as request
use Rattle.cl_state.specs.declared.asking.Ask.{Ask}
use Rattle.cl_state.specs.declared.asking.Answer.{Answer}
use Rattle.cl_calls.specs.declared.calls.Call.TheVariants as call
use Rattle.cl_state.specs.declared.asking.Doing.{Doing}
use Rattle.cl_state.specs.declared.asking.Doing.TheVariants.{Go, Refused}
use Rattle.cl_state.specs.Rank.{Rank}
use Rattle.cl_state.specs.Asked.{part_of, doing, asked}
use Rattle.cl_state.specs.Told.{returned, told}
use Rattle.cl_state_laws.specs.Registers.{IsReached}

-- a0 has the code, a1 the value, the pc is behind the call, and every other register is as it was
pub record IsReturned (c : Code) (v : ℕ) (old new : State) : Type 0 where
  pub code : read new 10 ≡ code_number c
  pub value : read new 11 ≡ v
  pub others : (register : ℕ) → register ≢ 10 → register ≢ 11 → read new register ≡ read old register
  pub pc : new.pc ≡ next old

-- of each hart of a rank that turns lead to
abbrev pub ReturnLaw : Type 0
ReturnLaw =
    (c : Code) (v : ℕ) (rank : Rank) (hart : ℕ) → IsReached rank → hart < length rank.harts
    → IsReturned c v (part_of rank hart).hart (returned c v (part_of rank hart).hart)

-- the rank in which the hart's call ended with this code: no memory, request, output or other hart changed
abbrev pub refused_with : Code → Rank → ℕ → ℕ → Rank
refused_with c rank hart stamp =
    record rank { harts = set rank.harts hart (returned c 0 (part_of rank hart).hart); clock = stamp }

-- a call that a check refuses asks nobody
pub record IsRefused (rank : Rank) (hart : ℕ) (c : Code) (answer : Answer) (stamp : ℕ) : Type 0 where
  pub asks : asked rank hart ≡ Ask.Local
  pub leaves : told rank hart answer stamp ≡ refused_with c rank hart stamp

abbrev pub RefusalLaw : Type 0
RefusalLaw =
    (rank : Rank) (hart : ℕ) (c : Code) (answer : Answer) (stamp : ℕ)
    → doing rank.site (part_of rank hart) ≡ Refused c → IsRefused rank hart c answer stamp

-- and one that the hub refuses changes no more
abbrev pub HubRefusalLaw : Type 0
HubRefusalLaw =
    (rank : Rank) (hart : ℕ) (request : Request) (c : Code) (stamp : ℕ)
    → asked rank hart ≡ Ask.Hub request
    → told rank hart (Answer.Reply (reply.Code c)) stamp ≡ refused_with c rank hart stamp

-- what isn't complete yet changes no memory, request, phase or output
pub record IsKept (old new : Rank) : Type 0 where
  pub memory : new.memory ≡ old.memory
  pub requests : new.requests ≡ old.requests
  pub phases : new.phases ≡ old.phases
  pub out : new.out ≡ old.out

abbrev pub NotYetLaw : Type 0
NotYetLaw =
    (rank : Rank) (hart : ℕ) (request : Request) (stamp : ℕ)
    → asked rank hart ≡ Ask.Hub request → IsKept rank (told rank hart (Answer.Reply reply.NotYet) stamp)

-- a question to one box, whether a partition is there or was taken
abbrev pub IsLook : Ask → Type 0
IsLook (Ask.Look link box) = Unit {0}
IsLook (Ask.Freed link part) = Unit {0}
IsLook _ = ⊥

-- the hart of a call that found nothing there: WAIT is made anew, any other ends with flag 0
abbrev pub missed : Doing → State → State
missed (Go (call.Wait c)) hart = in_mode hart (Waiting Again)
missed _ hart = returned code.Ok 0 hart

-- a look in vain changes nothing of the rank but the hart and the clock
abbrev pub MissLaw : Type 0
MissLaw =
    (rank : Rank) (hart stamp : ℕ) → IsLook (asked rank hart)
    → told rank hart Answer.Missed stamp
    ≡ record rank {
      harts = set rank.harts hart (missed (doing rank.site (part_of rank hart)) (part_of rank hart).hart);
      clock = stamp;
    }

-- the hub is asked for as many posts together as a rank has handles, at most
abbrev pub PostsLaw : Type 0
PostsLaw =
    (rank : Rank) (hart : ℕ) (posts : List ℕ) → asked rank hart ≡ Ask.Hub (request.All posts) → length posts ≤ 255
