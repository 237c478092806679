-- The room that a turn of a rank needs.
use Rattle.std.specs.Prelude.{ℕ, ◌≡◌, ◌<◌, ◌≤◌, ◌+◌, List, get_or, vec_len, vec_capacity}
use Rattle.mp_types.specs.Carried.{carried_by_request}
use Rattle.cl_state.specs.declared.asking.Ask.{Ask}
use Rattle.cl_state.specs.declared.asking.Ask.TheVariants as ask
use Rattle.cl_calls.specs.declared.checking.Standing.{Standing}
use Rattle.cl_state.specs.Asked.{doing, no_hart, part_of}
use Rattle.cl_state.specs.Right.{IsChecked, IsRunning, output_of}
use Rattle.cl_state.specs.declared.asking.Doing.{Doing}
use Rattle.cl_state.specs.Writes.{IsEnough, writes_in}
use Rattle.cl_state.specs.declared.state.RankState.{RankState}
use Rattle.cl_state.specs.declared.writes.Range.{Range}
use Rattle.cl_state.specs.Room.{rank_of}
use Rattle.cl_state.specs.Table.{row_in}
use Rattle.cl_state.specs.declared.row.Row.{Row}

-- how many elements the list has that a question carries. The list takes memory for them, and for nothing else
abbrev pub carried : Ask → ℕ
carried (ask.Hub r) = carried_by_request r
carried _ = 0

-- what the next turn of a hart may write
abbrev pub writes_of : RankState → ℕ → List Range
writes_of s hart =
    let part = part_of (rank_of s) hart in writes_in s.site hart (doing s.site part) part

-- what such a turn of a hart does
abbrev pub row_at : RankState → ℕ → Doing → Row
row_at s hart d = row_in s.site hart s.memory s.requests s.phases d

-- the bytes that the hart's turn puts behind the output lie ready, and the output has room for them
abbrev pub HasRoomBehind : RankState → ℕ → Type 0
HasRoomBehind s hart =
    (s.fresh.items ≡ output_of s.memory (doing s.site (part_of (rank_of s) hart)))
    × (vec_len s.out + vec_len s.fresh ≤ vec_capacity s.out)

-- and there are enough spare pages for what the turn may write
abbrev pub HasRoom : RankState → ℕ → Type 0
HasRoom s hart = HasRoomBehind s hart × IsEnough s.memory.pages s.spares (writes_of s hart)

-- what the next turn of a hart is, that is there, and what the checks made sure of
pub record IsNext (s : RankState) (hart : ℕ) (d : Doing) : Type 0 where
  pub there : hart < vec_len s.harts
  pub spelled : d ≡ doing s.site (part_of (rank_of s) hart)
  pub right : IsChecked s.site s.memory s.requests s.phases d
  pub running : IsRunning d (get_or s.harts.items hart no_hart)

-- how the rank stands
pub record IsStanding (s : RankState) (standing : Standing) : Type 0 where
  pub site : standing.site.now ≡ s.site
  pub memory : standing.memory.now ≡ s.memory
  pub requests : standing.requests.now ≡ s.requests
  pub phases : standing.phases.now ≡ s.phases
  pub written : standing.written ≡ vec_len s.out
