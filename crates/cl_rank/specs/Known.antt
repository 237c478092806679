-- A turn that was worked out without the table of calls.
use Rattle.std.specs.Prelude.{◌≡◌, []}
use Rattle.cl_state.specs.declared.asking.Ask.{Ask}
use Rattle.cl_state.specs.declared.state.RankState.{RankState}
use Rattle.cl_state.specs.Asked.{asked}
use Rattle.cl_state.specs.Right.{output_of}
use Rattle.cl_state.specs.Room.{rank_of}
use Rattle.cl_state.specs.TurnRoom.{IsNext, row_at, writes_of}
use Rattle.cl_state.specs.Writes.{IsEnough}
use Rattle.cl_rank.specs.declared.turning.Turn.{Turn}

-- the next turn of a hart, with its row, and what it asks. It puts nothing behind the output, and needs no page more
pub record IsKnown (s : RankState) (t : Turn) (asks : Ask) : Type 0 where
  pub next : IsNext s t.hart t.doing
  pub row : t.row ≡ row_at s t.hart t.doing
  pub asks_for : asked (rank_of s) t.hart ≡ asks
  pub quiet : output_of s.memory t.doing ≡ []
  pub pages : IsEnough s.memory.pages s.spares (writes_of s t.hart)
