-- What is seen of a cluster: of each rank its harts, its memory and its output.
use Rattle.std.specs.Prelude.{ℕ, List, map}
use Rattle.std.specs.List.{range_with_len}
use Rattle.rv_hart.specs.State.{State, read}
use Rattle.rv_hart.specs.declared.state.Mode.{Mode}
use Rattle.cl_state.specs.Rank.{Rank}
use Rattle.cl_machine.specs.Cluster.{Cluster}

-- what the registers x0 to x31 of a hart read, its pc and its mode
pub record SeenHart : Type 0 where
  pub registers : List ℕ
  pub pc : ℕ
  pub mode : Mode

-- the bytes of its memory, and what it has put out
pub record SeenRank : Type 0 where
  pub harts : List SeenHart
  pub bytes : List ℕ
  pub out : List ℕ

abbrev pub registers_of : State → List ℕ
registers_of hart = map (read hart) (range_with_len 0 32)

abbrev pub seen_hart : State → SeenHart
seen_hart hart = record { registers = registers_of hart; pc = hart.pc; mode = hart.mode }

abbrev pub seen_rank : Rank → SeenRank
seen_rank rank = record { harts = map seen_hart rank.harts; bytes = rank.memory.bytes; out = rank.out }

abbrev pub seen_cluster : Cluster → List SeenRank
seen_cluster cluster = map seen_rank cluster.ranks
