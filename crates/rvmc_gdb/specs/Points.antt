-- Points that are set and taken away.
use Rattle.std.specs.Prelude.{ℕ, ◌≡◌, ◌≤◌, ◌==◌, ◌&&◌, ◌||◌, Bool, true, false, not, List, [], ◌∷◌, ◌++◌, length, if◌then◌else◌}
use Rattle.std.specs.Prelude.{nat_lt, Option, Some, None}
use Rattle.std.specs.List.{filter, list_any}
use Rattle.rv_memory.specs.Access.{is_readable}
use Rattle.cl_state.specs.Rank.{Rank}
use Rattle.cl_debug.specs.Shown.{ShowsRank}
use Rattle.rvmc_protocol.specs.Requests.Laws.{point_number}
use Rattle.rvmc_protocol.specs.declared.requests.points.Point.{Point}
use Rattle.rvmc_motions.specs.declared.marks.Mark.{Mark}
use Rattle.rvmc_motions.specs.declared.marks.Ranks.{Ranks}
use Rattle.rvmc_motions.specs.declared.marks.Ranks.TheVariants as ranks
use Rattle.rvmc_motions.specs.Marks.{is_watch}
use Rattle.rvmc_gdb.specs.Serving.{Serving, done, ranks_of, refused}

abbrev pub mark_of : Serving → Point → ℕ → ℕ → Mark
mark_of serving point address size =
    record { ranks = ranks_of serving; point = point; address = address; size = size }

abbrev pub same_ranks : Ranks → Ranks → Bool
same_ranks ranks.All ranks.All = true
same_ranks ranks.All (ranks.One other) = false
same_ranks (ranks.One rank) ranks.All = false
same_ranks (ranks.One rank) (ranks.One other) = rank == other

-- two marks are one: of the same ranks, one kind, one address and one size
abbrev pub is_same : Mark → Mark → Bool
is_same mark other =
    same_ranks other.ranks mark.ranks
    && (point_number other.point == point_number mark.point && (other.address == mark.address && other.size == mark.size))

abbrev pub has_mark : List Mark → Mark → Bool
has_mark marks mark = list_any (is_same mark) marks

-- the rank that is meant, as it is at the place, if the image has it
abbrev pub IsOwner : Serving → Option Rank → Type 0
IsOwner serving None = serving.debugging.image.ranks ≤ serving.rank
IsOwner serving (Some owner) = ShowsRank serving.debugging serving.rank owner

-- a watchpoint has bytes, and all of them are in the rank's memory
abbrev pub can_watch : Option Rank → Mark → Bool
can_watch None mark = false
can_watch (Some owner) mark = nat_lt 0 mark.size && is_readable owner.memory mark.address mark.size

-- a breakpoint can be set anywhere
abbrev pub can_stand : Option Rank → Mark → Bool
can_stand owner mark = not (is_watch mark.point true) || can_watch owner mark

-- how many points there are at most
abbrev pub most_marks : ℕ
most_marks = 256

-- there aren't too many points, and this one can be set
abbrev pub can_add : Option Rank → List Mark → Mark → Bool
can_add owner marks mark = nat_lt (length marks) most_marks && can_stand owner mark

-- the points with one more behind them, unless it is there already; none where there are too many or it can't be set
abbrev pub marks_with : Option Rank → List Mark → Mark → Option (List Mark)
marks_with owner marks mark =
    if has_mark marks mark then Some marks
    else if can_add owner marks mark then Some (marks ++ mark ∷ []) else None

-- the points are others
abbrev pub with_marks : Serving → List Mark → Serving
with_marks serving marks = record serving { marks = marks }

abbrev pub Sets : Serving → Option (List Mark) → Serving → List ℕ → Type 0
Sets old None new text = (new ≡ old) × (text ≡ refused)
Sets old (Some marks) new text = (new ≡ with_marks old marks) × (text ≡ done)

-- a point of the rank is set
pub record Inserts (old : Serving) (mark : Mark) (new : Serving) (text : List ℕ) : Type 0 where
  pub owner : Option Rank
  pub shown : IsOwner old owner
  pub sets : Sets old (marks_with owner old.marks mark) new text

-- or taken away, if it is there
abbrev pub marks_without : List Mark → Mark → List Mark
marks_without marks mark = filter (λ other. not (is_same mark other)) marks

abbrev pub Removes : Serving → Mark → Serving → List ℕ → Type 0
Removes old mark new text = (new ≡ with_marks old (marks_without old.marks mark)) × (text ≡ done)
