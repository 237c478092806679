-- A hart's turn under way, and the part of its rank that it changes.
use Rattle.std.specs.Prelude.{◌≡◌, ◌≤◌, ℕ, ◌+◌, List, length, vec_len, vec_capacity, IsTrue, not}
use Rattle.rv_memory.specs.Memory.{Memory, bytes_at}
use Rattle.rv_hart.specs.State.{State}
use Rattle.rv_hart.specs.declared.state.Mode.TheVariants.{Running}
use Rattle.mp_request.specs.Awaited.{is_new}
use Rattle.mp_request.specs.Handles.{IsInactive}
use Rattle.cl_calls.specs.declared.calls.Several.{Several}
use Rattle.cl_calls.specs.Checks.{is_few, is_array}
use Rattle.cl_calls.specs.Handles.{handles_in}
use Rattle.cl_calls.specs.Needs.{array_at}
use Rattle.cl_state.specs.declared.asking.Doing.{Doing}
use Rattle.cl_state.specs.declared.row.Outcome.{Outcome}
use Rattle.cl_state.specs.declared.row.Outcome.TheVariants.{Steps, Puts, Opens, Starts, Frees, CompletesAll}
use Rattle.cl_state.specs.declared.row.Outcome.TheVariants.{BeginsPhase}
use Rattle.cl_state.specs.declared.row.Purpose.TheVariants.{Start}
use Rattle.cl_state.specs.declared.row.Row.{Row}
use Rattle.cl_state.specs.declared.row.Row.TheVariants.{AtOnce, OnReply, OnBox}
use Rattle.cl_state.specs.declared.row.Visit.{Visit}
use Rattle.cl_state.specs.declared.row.Visit.TheVariants as visit
use Rattle.cl_state.specs.declared.row.Wanted.{Wanted}
use Rattle.cl_state.specs.declared.row.Wanted.TheVariants as wanted
use Rattle.cl_state.specs.declared.telling.Common.{Common}
use Rattle.cl_state.specs.declared.telling.News.{News}
use Rattle.cl_state.specs.declared.turn.Turn.{Turn}
use Rattle.cl_state.specs.Asked.{Part}
use Rattle.cl_state.specs.Right.{IsChecked, IsRight, IsRunning, output_of}
use Rattle.part_phase.specs.Phases.{sending_at}
use Rattle.part_phase.specs.Sending.{all_freed}
use Rattle.cl_calls.specs.declared.calls.Call.TheVariants as call
use Rattle.cl_calls.specs.Needs.{needs_of}
use Rattle.cl_state.specs.Several.{pendings, posts_pending}
use Rattle.cl_state.specs.Table.{row_in}
use Rattle.cl_state.specs.Told.{told_in}
use Rattle.cl_state.specs.Writes.{IsEnough, how_many}
use Rattle.cl_state.specs.declared.writes.Range.{Range}

-- what may change, as it is now
abbrev pub part_in : Turn → Part
part_in turn =
    record {
      hart = turn.hart.now;
      memory = turn.memory.now;
      requests = turn.requests.now;
      phases = turn.phases.now;
      out = turn.out.now.items;
    }

-- the part with another memory
abbrev pub with_memory : Part → Memory → Part
with_memory part memory = record part { memory = memory }

-- the spare pages are enough for all pages that the ranges touch
abbrev pub HasPages : Turn → List Range → Type 0
HasPages turn ranges = IsEnough turn.memory.now.pages turn.spares.now ranges

-- this part stands behind the same references now, and a page that became there was a spare one
pub record Becomes (old new : Turn) (then : Part) : Type 0 where
  pub part : part_in new ≡ then
  pub site : new.site ≡ old.site
  pub number : new.number ≡ old.number
  pub hart : new.hart.ghost_name ≡ old.hart.ghost_name
  pub memory : new.memory.ghost_name ≡ old.memory.ghost_name
  pub spares : new.spares.ghost_name ≡ old.spares.ghost_name
  pub requests : new.requests.ghost_name ≡ old.requests.ghost_name
  pub phases : new.phases.ghost_name ≡ old.phases.ghost_name
  pub out : new.out.ghost_name ≡ old.out.ghost_name
  pub pages : how_many new.memory.now.pages + new.spares.now ≡ how_many old.memory.now.pages + old.spares.now

-- what the checks made sure of
abbrev pub IsCheckedIn : Turn → Doing → Type 0
IsCheckedIn turn d = IsChecked turn.site.now turn.memory.now turn.requests.now turn.phases.now d

-- what the checks and `room` made sure of, for what the turn does
pub record IsReady (turn : Turn) (d : Doing) : Type 0 where
  pub running : IsRunning d turn.hart.now
  pub checked : IsCheckedIn turn d
  pub fresh : turn.fresh.now ≡ output_of turn.memory.now d
  pub room : vec_len turn.out.now + length turn.fresh.now ≤ vec_capacity turn.out.now

-- a hart, and what all harts of its rank have in common
abbrev pub part_with : State → Common → Part
part_with hart common = record {
  hart = hart;
  memory = common.memory.now;
  requests = common.requests.now;
  phases = common.phases.now;
  out = common.out.now.items;
}

-- behind the same references
pub record KeepsPlaces (old new : Common) : Type 0 where
  pub memory : new.memory.ghost_name ≡ old.memory.ghost_name
  pub spares : new.spares.ghost_name ≡ old.spares.ghost_name
  pub requests : new.requests.ghost_name ≡ old.requests.ghost_name
  pub phases : new.phases.ghost_name ≡ old.phases.ghost_name
  pub out : new.out.ghost_name ≡ old.out.ghost_name

-- what a hart's part of its rank becomes by the news
abbrev pub told_by : News → Part → Part
told_by news part = told_in news.site.now news.number news.doing.now news.answer.now part

abbrev pub row_for : Turn → Doing → Row
row_for turn d = row_in turn.site.now turn.number turn.memory.now turn.requests.now turn.phases.now d

-- an array of handles, not too long, that is in the memory
abbrev pub HasArray : Turn → Several → Type 0
HasArray turn s =
    IsTrue (is_few (array_at s.array s.count)) × IsTrue (is_array turn.memory.now (array_at s.array s.count))

-- the handles of such an array, and the posts of those requests that need the hub
abbrev pub handles_of : Turn → Several → List ℕ
handles_of turn s = handles_in turn.memory.now (array_at s.array s.count)

abbrev pub posts_wanted : Turn → Several → List ℕ
posts_wanted turn s = posts_pending (pendings turn.requests.now (handles_of turn s))

-- what an outcome leans on: an instruction is a running hart's, the bytes lie ready and there is
-- room for them, a request that is opened is a new one, one that is started or freed is inactive
abbrev pub IsAble : Turn → Outcome → Type 0
IsAble turn Steps = turn.hart.now.mode ≡ Running
IsAble turn (Puts buffer count) =
    (turn.fresh.now ≡ bytes_at turn.memory.now buffer count)
    × (vec_len turn.out.now + length turn.fresh.now ≤ vec_capacity turn.out.now)
IsAble turn (Opens request) = IsTrue (is_new request.state)
IsAble turn (Starts handle progress) = IsInactive turn.requests.now handle
IsAble turn (Frees handle) = IsInactive turn.requests.now handle
IsAble turn (CompletesAll value s) = HasArray turn s
IsAble turn (BeginsPhase handle link) = IsInactive turn.requests.now handle
IsAble turn _ = Unit {0}

-- a side that is to be made has arguments that name a member and a tag, and a shape inside the limits
abbrev pub IsWantable : Turn → Wanted → Type 0
IsWantable turn (wanted.Post (Start handle) t) = IsInactive turn.requests.now handle
IsWantable turn (wanted.All value s) = HasArray turn s
IsWantable turn (wanted.SendingLink t) = IsRight turn.site.now (needs_of (call.PsendInit t))
IsWantable turn (wanted.ReceivingLink t) = IsRight turn.site.now (needs_of (call.PrecvInit t))
IsWantable turn _ = Unit {0}

-- a partition that is to be freed is one of a phase that is going on
abbrev pub IsVisitable : Turn → Visit → Type 0
IsVisitable turn (visit.Frees m link target) = IsTrue (not (all_freed (sending_at turn.phases.now link)))
IsVisitable turn _ = Unit {0}

abbrev pub IsRow : Turn → Row → Type 0
IsRow turn (AtOnce o) = IsAble turn o
IsRow turn (OnReply m w) = IsWantable turn w
IsRow turn (OnBox v) = IsVisitable turn v
