-- Breakpoints and watchpoints.
use Rattle.std.specs.Prelude.{ℕ, Bool, true, false, List, [], ◌∷◌, Option, Some, None, ◌==◌, ◌&&◌, ◌||◌, if◌then◌else◌}
use Rattle.std.specs.Option.{option_or}
use Rattle.rvmc_protocol.specs.declared.replies.stops.Stop.{Stop}
use Rattle.rvmc_protocol.specs.declared.replies.stops.Stop.TheVariants as stops
use Rattle.rvmc_protocol.specs.declared.requests.points.Point.{Point}
use Rattle.rvmc_protocol.specs.declared.requests.points.Point.TheVariants.{Before, HardwareBefore, Written, Read, Touched}
use Rattle.rvmc_motions.specs.declared.marks.Mark.{Mark}
use Rattle.rvmc_motions.specs.declared.marks.Ranks.{Ranks}
use Rattle.rvmc_motions.specs.declared.marks.Ranks.TheVariants.{All, One}

-- of each in order what is told of it, up to the first of which something is
abbrev pub first_some : {A B : Type 0} → (A → Option B) → List A → Option B
first_some tells [] = None
first_some tells (x ∷ xs) = option_or (tells x) (first_some tells xs)

-- a rank is one of these
abbrev pub covers : Ranks → ℕ → Bool
covers All rank = true
covers (One own) rank = own == rank

-- ---- breakpoints

abbrev pub point_stop : Point → Option Stop
point_stop Before = Some stops.Before
point_stop HardwareBefore = Some stops.HardwareBefore
point_stop Written = None
point_stop Read = None
point_stop Touched = None

-- a breakpoint of this rank at this pc
abbrev pub break_of : ℕ → ℕ → Mark → Option Stop
break_of rank pc mark = if covers mark.ranks rank && mark.address == pc then point_stop mark.point else None

abbrev pub broken : ℕ → ℕ → List Mark → Option Stop
broken rank pc marks = first_some (break_of rank pc) marks

-- ---- watchpoints

abbrev pub is_watch : Point → Bool → Bool
is_watch Before own = false
is_watch HardwareBefore own = false
is_watch Written own = own
is_watch Read own = own
is_watch Touched own = own

-- a watchpoint of this rank
abbrev pub is_watch_of : ℕ → Mark → Bool
is_watch_of rank mark = is_watch mark.point (covers mark.ranks rank)

-- by whether its bytes were changed, and whether they were read
abbrev pub watch_stop : Point → ℕ → Bool → Bool → Option Stop
watch_stop Before address changed read = None
watch_stop HardwareBefore address changed read = None
watch_stop Written address changed read = if changed then Some (stops.Written address) else None
watch_stop Read address changed read = if read then Some (stops.Read address) else None
watch_stop Touched address changed read = if changed || read then Some (stops.Touched address) else None
