-- Watched bytes, before a turn and behind it.
use Rattle.std.specs.Prelude.{ℕ, Bool, false, not, List, [], map, Option}
use Rattle.std.specs.List.{filter}
use Rattle.std.specs.Str.{bytes_eq}
use Rattle.rv_memory.specs.Memory.{Memory, bytes_at}
use Rattle.cl_state.specs.Rank.{Rank}
use Rattle.rvmc_protocol.specs.declared.replies.stops.Stop.{Stop}
use Rattle.rvmc_protocol.specs.declared.requests.points.Point.{Point}
use Rattle.rvmc_protocol.specs.declared.requests.points.Point.TheVariants.{Before, HardwareBefore, Written, Read, Touched}
use Rattle.rvmc_motions.specs.declared.marks.Mark.{Mark}
use Rattle.rvmc_motions.specs.Marks.{first_some, is_watch_of, watch_stop}
use Rattle.rvmc_motions.specs.Reads.{meets, read_by}

-- what a watchpoint shows before a turn: whether the turn reads one of its bytes, and the bytes
pub record Watched : Type 0 where
  pub mark : Mark
  pub read : Bool
  pub bytes : List ℕ

-- one that stops for reads alone needs none
abbrev pub bytes_for : Point → Memory → ℕ → ℕ → List ℕ
bytes_for Before memory address size = bytes_at memory address size
bytes_for HardwareBefore memory address size = bytes_at memory address size
bytes_for Written memory address size = bytes_at memory address size
bytes_for Read memory address size = []
bytes_for Touched memory address size = bytes_at memory address size

-- whether the next turn of a hart reads one of these bytes, where that matters
abbrev pub reads_for : Point → Rank → ℕ → ℕ → ℕ → Bool
reads_for Before owner hart address size = false
reads_for HardwareBefore owner hart address size = false
reads_for Written owner hart address size = false
reads_for Read owner hart address size = meets address size (read_by owner hart)
reads_for Touched owner hart address size = meets address size (read_by owner hart)

abbrev pub seen_of : Rank → ℕ → Mark → Watched
seen_of owner hart mark = record {
  mark = mark;
  read = reads_for mark.point owner hart mark.address mark.size;
  bytes = bytes_for mark.point owner.memory mark.address mark.size;
}

-- of all watchpoints of the hart's rank
abbrev pub seen_all : Rank → ℕ → ℕ → List Mark → List Watched
seen_all owner rank hart marks = map (seen_of owner hart) (filter (is_watch_of rank) marks)

-- behind the turn its bytes are others
abbrev pub has_changed : Memory → Watched → Bool
has_changed memory seen = not (bytes_eq (bytes_at memory seen.mark.address seen.mark.size) seen.bytes)

abbrev pub watch_of : Memory → Watched → Option Stop
watch_of memory seen = watch_stop seen.mark.point seen.mark.address (has_changed memory seen) seen.read

-- the first watchpoint of which something is told
abbrev pub watched : Memory → List Watched → Option Stop
watched memory all = first_some (watch_of memory) all
