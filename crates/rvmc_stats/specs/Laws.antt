-- What holds of the tables.
use Rattle.std.specs.Prelude.{ℕ, suc, ◌+◌, ◌≡◌, ◌≢◌, ◌<◌, ◌≤◌, ◌==◌, if◌then◌else◌, true, false, List, [], ◌∷◌, length, Option, None}
use Rattle.std.specs.List.{sum_by}
use Rattle.mp_types.specs.declared.codes.Code.{Code}
use Rattle.mp_types.specs.declared.messages.Message.{Message}
use Rattle.mp_types.specs.declared.replies.Reply.TheVariants as reply
use Rattle.rv_hart.specs.declared.state.Mode.TheVariants.{Waiting}
use Rattle.rv_hart.specs.declared.state.Wait.{Wait}
use Rattle.cl_trace.specs.declared.events.Kind.{Kind}
use Rattle.rvmc_stats.specs.Hottest.{AreHottest}
use Rattle.rvmc_stats.specs.Tallies.{capped, cell_at, count_at}
use Rattle.rvmc_stats.specs.Adding.{Adds}
use Rattle.rvmc_stats.specs.Counted.{Taken, all_received, bytes_between, rows_of_calls, taken_by, turns_of}
use Rattle.rvmc_stats.specs.Tables.{AreOf}
use Rattle.rvmc_stats.specs.Texts.{numbers_below}
use Rattle.rvmc_stats.specs.declared.tables.Tables.{Tables}

-- each turn of a rank is of one kind: the columns of its row come to all its turns
abbrev pub KindsLaw : Type 0
KindsLaw = (all : List Taken) (rank : ℕ) → sum_by (turns_of all rank) (numbers_below 9) ≡ taken_by all rank

-- ---- one step more

-- tables of some steps, and of these and one more
pub record IsOneMore (ranks words : ℕ) (all : List Taken) (old : Tables) (t : Taken) (new : Tables) : Type 0 where
  pub are : AreOf ranks words all old
  pub adds : Adds old t new

-- a turn is one of its own rank, and of no other
abbrev pub OwnRankLaw : Type 0
OwnRankLaw = (ranks words : ℕ) (all : List Taken) (old : Tables) (t : Taken) (new : Tables)
    → IsOneMore ranks words all old t new → (rank : ℕ) → rank < ranks
    → count_at new.taken rank ≡ capped (taken_by all rank + (if (rank == t.step.rank) then 1 else 0))

-- a call that was refused brings no message, whether its checks refused it or the hub did
pub record RefusedLaw : Type 0 where
  pub checks : (ranks words : ℕ) (all : List Taken) (old : Tables) (t : Taken) (new : Tables)
      → IsOneMore ranks words all old t new → t.step.kind ≡ Kind.Local → (from to : ℕ) → from < ranks → to < ranks
      → cell_at new.mail.messages from to ≡ cell_at old.mail.messages from to
  pub hub : (ranks words : ℕ) (all : List Taken) (old : Tables) (t : Taken) (new : Tables) (code : Code)
      → IsOneMore ranks words all old t new → t.step.kind ≡ Kind.Hub (reply.Code code) → (from to : ℕ) → from < ranks
      → to < ranks → cell_at new.mail.messages from to ≡ cell_at old.mail.messages from to

-- a message that was got counts with all its bytes, however many of them its buffer took
abbrev pub WholeMessageLaw : Type 0
WholeMessageLaw = (ranks words : ℕ) (all : List Taken) (old : Tables) (t : Taken) (new : Tables) (m : Message)
    → IsOneMore ranks words all old t new → t.step.kind ≡ Kind.Hub (reply.Got m) → m.envelope.source < ranks
    → t.step.rank < ranks
    → cell_at new.mail.bytes m.envelope.source t.step.rank
    ≡ capped (bytes_between (all_received all) m.envelope.source t.step.rank + length m.bytes)

-- a call whose hart waits ended with no code: it is counted in the column of those that wait, which is 18, alone
abbrev pub WaitingLaw : Type 0
WaitingLaw = (ranks words : ℕ) (all : List Taken) (old : Tables) (t : Taken) (new : Tables) (w : Wait)
    → IsOneMore ranks words all old t new → t.after.mode ≡ Waiting w → (number outcome : ℕ) → number < rows_of_calls
    → outcome < 21 → outcome ≢ 18 → cell_at new.calls number outcome ≡ cell_at old.calls number outcome

-- and an instruction is no call
abbrev pub PlainLaw : Type 0
PlainLaw = (ranks words : ℕ) (all : List Taken) (old : Tables) (t : Taken) (new : Tables)
    → IsOneMore ranks words all old t new → t.step.kind ≡ Kind.Plain → (number outcome : ℕ) → number < rows_of_calls → outcome < 21
    → cell_at new.calls number outcome ≡ cell_at old.calls number outcome

-- ---- the order of places

-- the places with most turns come in order: none has more than the one before it
abbrev pub FallingLaw : Type 0
FallingLaw = (counts : List ℕ) (len most a b : ℕ) (last : Option ℕ) (rest : List ℕ)
    → AreHottest counts len (suc (suc most)) last (a ∷ b ∷ rest) → count_at counts b ≤ count_at counts a

-- and no place that isn't among the first has more than the first
abbrev pub FirstLaw : Type 0
FirstLaw = (counts : List ℕ) (len most a other : ℕ) (rest : List ℕ)
    → AreHottest counts len (suc most) None (a ∷ rest) → other < len → count_at counts other ≤ count_at counts a
