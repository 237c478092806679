-- One step of the product of parts, by the deed that makes it.
use Rattle.std.specs.Prelude.{ℕ, ◌≡◌, Option, None, Some}
use Rattle.cl_journal.specs.declared.entries.Entry.{Entry}
use Rattle.cl_machine.specs.Journal.{Journal, Enters}
use Rattle.cl_deeds.specs.Deeds.{Act, Deed, kind_of, RankMoves}
use Rattle.cl_machine.specs.declared.steps.Step.{Step}
use Rattle.cl_machine.specs.Boxes.{Box, IsEmpty, Holds, with_made, with_taken}
use Rattle.cl_machine.specs.Cluster.{Cluster}
use Rattle.cl_machine.specs.PartRuns.{PartsMove}
use Rattle.cl_machine.specs.Product.{entry_of, box_at}

abbrev pub step_of : Deed → Step
step_of d = record { rank = d.rank; hart = d.hart; stamp = d.stamp; kind = kind_of d.act }

-- each deed moves its rank
abbrev pub rank_at : Deed → Option ℕ
rank_at d = Some d.rank

-- the hub's part of a step
abbrev pub JournalMoves : Journal → Option Entry → Journal → Type 0
JournalMoves old None new = new ≡ old
JournalMoves old (Some entry) new = Enters old entry new

-- a box's part of a step
abbrev pub BoxActs : Box → ℕ → Act → Box → Type 0
BoxActs old stamp (Act.Ready link part bytes) new = IsEmpty old × (new ≡ with_made old stamp bytes)
BoxActs old stamp (Act.Take link part gate bytes) new = Holds old bytes × (gate ≡ old.stamp)
    × (new ≡ with_taken old stamp)
BoxActs old stamp (Act.Freed link part gate) new = IsEmpty old × (gate ≡ old.stamp) × (new ≡ old)
BoxActs old stamp _ new = ⊥

abbrev pub BoxMoves : Box → Deed → Box → Type 0
BoxMoves old d new = BoxActs old d.stamp d.act new

abbrev pub Goes : Cluster → Deed → Cluster → Type 0
Goes old d new =
    PartsMove RankMoves rank_at old.ranks d new.ranks
    × JournalMoves old.journal (entry_of d) new.journal
    × PartsMove BoxMoves box_at old.boxes d new.boxes

-- a step by a deed that looks like it
abbrev pub PartsStep : Cluster → Step → Cluster → Type 0
PartsStep old e new = (d : Deed) × (step_of d ≡ e) × Goes old d new
