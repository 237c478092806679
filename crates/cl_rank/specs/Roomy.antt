-- The room that a poll leaves which was answered that nothing is there yet, and what the next poll asks.
use Rattle.std.specs.Prelude.{ℕ, ◌≡◌, ◌&&◌, List, Option, Some, None, Bool, true, false}
use Rattle.std.specs.Coded.{le_prop}
use Rattle.std.proofs.Math.Bool.{Bool-discrete}
use Rattle.std.proofs.Math.Decide.{ℕ_discrete}
use Rattle.std.proofs.Math.Nat.{ℕ_set}
use mathlib.Core.HLevel.{hedberg}
use mathlib.Core.List.{List-discrete}
use mathlib.Core.Sum.{⊎_set}
use Rattle.rv_hart.specs.declared.state.Mode.{Mode}
use Rattle.rv_hart.specs.declared.state.Mode.TheVariants.{Waiting}
use Rattle.rv_hart.specs.declared.state.Wait.TheVariants.{Again}
use Rattle.mp_types.specs.declared.requests.Request.{Request}
use Rattle.cl_calls.specs.declared.calls.Call.{Call}
use Rattle.cl_calls.specs.declared.calls.Call.TheVariants.{Wait, Probe, Mprobe, Waitall}
use Rattle.cl_state.specs.declared.asking.Ask.{Ask}
use Rattle.cl_state.specs.declared.asking.Ask.TheVariants as ask
use Rattle.cl_state.specs.declared.asking.Doing.{Doing}
use Rattle.cl_state.specs.declared.asking.Doing.TheVariants.{Go, Poll}
use Rattle.cl_state.specs.declared.state.RankState.{RankState}
use Rattle.cl_state.specs.Asked.{asked, doing, part_of}
use Rattle.cl_state.specs.Room.{rank_of}
use Rattle.cl_state.specs.TurnRoom.{HasRoom}

-- the hart makes its call anew in its next turn
abbrev pub is_anew : Mode → Bool
is_anew (Waiting Again) = true
is_anew _ = false

-- the call waits until what it asks for is there
abbrev pub waits : Call → Bool
waits (Wait c) = true
waits (Probe p) = true
waits (Mprobe p) = true
waits (Waitall s) = true
waits _ = false

-- a hart in this mode whose turn is this polls a post, or makes a call anew that waits
abbrev pub repeats : Mode → Doing → Bool
repeats mode (Poll call post) = true
repeats mode (Go call) = waits call && is_anew mode
repeats mode _ = false

-- the hart does so, and asks the hub this
pub record AsksAgain (state : RankState) (hart : ℕ) (request : Request) : Type 0 where
  pub waits : repeats (part_of (rank_of state) hart).hart.mode (doing state.site (part_of (rank_of state) hart)) ≡ true
  pub asks : asked (rank_of state) hart ≡ ask.Hub request

-- the same, if the request is known
abbrev pub IsAgain : RankState → ℕ → Option Request → Type 0
IsAgain state hart None = Unit {0}
IsAgain state hart (Some request) = AsksAgain state hart request

-- the room is there that the turn of this hart needs, if one is named, and it asks this again, if that is known
abbrev pub IsRoomy : RankState → Option ℕ → Option Request → Type 0
IsRoomy state None again = Unit {0}
IsRoomy state (Some hart) again = HasRoom state hart × IsAgain state hart again

numbers_set : IsSet (List ℕ)
numbers_set = hedberg (List-discrete ℕ_discrete)

mark_set : IsSet Bool
mark_set = hedberg Bool-discrete

request_set : IsSet Request
request_set = hlevel (ℕ_set, mark_set, numbers_set, ⊎_set)

ask_set : IsSet Ask
ask_set = hlevel (ℕ_set, numbers_set, request_set, ⊎_set)

-- it is a fact: of it there is one proof at most
pub is_roomy_fact : (state : RankState) (roomy : Option ℕ) (again : Option Request) → IsProp (IsRoomy state roomy again)
is_roomy_fact state None again = hlevel
is_roomy_fact state (Some hart) None = hlevel (numbers_set, le_prop)
is_roomy_fact state (Some hart) (Some request) = hlevel (numbers_set, mark_set, ask_set, le_prop)
