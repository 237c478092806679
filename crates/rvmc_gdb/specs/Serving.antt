-- What contracts see of a session: a record and the place in it, and what a client chose and set.
use Rattle.std.specs.Prelude.{ℕ, ◌+◌, ◌-◌, ◌*◌, ◌/◌, ◌%◌, ◌==◌, ◌||◌, nat_lt, min, Bool, true, false, List, [], codes}
use Rattle.std.specs.Prelude.{Option, Some, None, if◌then◌else◌}
use Rattle.std.specs.Option.{is_none, unwrap_or}
use Rattle.cl_debug.specs.Debugging.{Debugging}
use Rattle.rvmc_motions.specs.declared.marks.Mark.{Mark}
use Rattle.rvmc_motions.specs.declared.marks.Ranks.{Ranks}
use Rattle.rvmc_motions.specs.declared.marks.Ranks.TheVariants as ranks
use Rattle.rvmc_gdb.specs.declared.session.Goal.{Goal}
use Rattle.rvmc_gdb.specs.declared.session.Who.{Who}

-- the record and the place; whether all ranks are served, or one alone; the rank and the hart whose registers are meant, the
-- one that a step moves if it is another; where motions stop, in the order in which it was asked for; and the place to which
-- the next run leads, if one was asked for
pub record Serving : Type 0 where
  pub debugging : Debugging
  pub all : Bool
  pub rank : ℕ
  pub hart : ℕ
  pub moved : Option Who
  pub marks : List Mark
  pub goal : Option Goal

-- nothing was chosen or set yet: this rank is served, or all are, of which the first is meant
abbrev pub opened : Debugging → Option ℕ → Serving
opened debugging rank = record {
  debugging = debugging;
  all = is_none rank;
  rank = unwrap_or rank 0;
  hart = 0;
  moved = None;
  marks = [];
  goal = None;
}

-- the ranks that are served
abbrev pub served_ranks : Bool → ℕ → Ranks
served_ranks true rank = ranks.All
served_ranks false rank = ranks.One rank

abbrev pub ranks_of : Serving → Ranks
ranks_of serving = served_ranks serving.all serving.rank

-- ---- threads are the harts, numbered from 1: those of the rank, or those of all ranks, one rank after another

abbrev pub thread_count : Serving → ℕ
thread_count serving =
    if serving.all then serving.debugging.image.ranks * serving.debugging.image.harts else serving.debugging.image.harts

abbrev pub thread_of : Serving → ℕ → ℕ → ℕ
thread_of serving rank hart = if serving.all then rank * serving.debugging.image.harts + hart + 1 else hart + 1

-- the thread that is meant
abbrev pub own_thread : Serving → ℕ
own_thread serving = thread_of serving serving.rank serving.hart

-- the hart of this number among those of all ranks, from 0 on
abbrev pub who_among : ℕ → ℕ → Who
who_among harts number = record { rank = min (number / harts) 255; hart = min (number % harts) 255 }

abbrev pub who_at : Serving → ℕ → Who
who_at serving number =
    if serving.all then who_among serving.debugging.image.harts number
    else record { rank = serving.rank; hart = min number 255 }

-- whose a thread is
abbrev pub who_of : Serving → ℕ → Option Who
who_of serving thread =
    if thread == 0 || nat_lt (thread_count serving) thread then None else Some (who_at serving (thread - 1))

-- ---- another hart; a rank that isn't there is never meant

abbrev pub rank_or : Serving → ℕ → ℕ
rank_or serving rank = if nat_lt rank serving.debugging.image.ranks then rank else serving.rank

abbrev pub with_who : Serving → Who → Serving
with_who serving who = record serving { rank = rank_or serving who.rank; hart = who.hart }

-- ---- what is answered where nothing is told

abbrev pub refused : List ℕ
refused = codes "E01"

abbrev pub done : List ℕ
done = codes "OK"
