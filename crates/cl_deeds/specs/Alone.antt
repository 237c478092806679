-- A rank alone: what it met outside is handed in.
use Rattle.std.specs.Prelude.{List}
use Rattle.cl_state.specs.Rank.{Rank}
use Rattle.cl_deeds.specs.Deeds.{Deed, RankMoves, PartRun}

-- the rank alone: what it met outside is handed in
abbrev pub IsAlone : Rank → List Deed → Rank → Type 0
IsAlone old ds new = PartRun RankMoves old ds new
