-- The cluster runs where each of its parts alone runs.
use Rattle.cl_journal.specs.declared.entries.Entry.{Entry}
use Rattle.std.specs.Prelude.{◌<◌, List, [], ◌∷◌, ◌≡◌, map}
use Rattle.std.specs.List.{filter_map, cons_option, AllByRecursion}
use Rattle.std.specs.declared.option.Option.{Option}
use Rattle.std.specs.declared.option.Option.TheVariants.{None, Some}
use Rattle.std.proofs.Common.{refl, ap, arith}
use mathlib.Core.Logic.{inl}
use Rattle.cl_machine.proofs.Products.{parts_end, parts_step}
use Rattle.cl_machine.proofs.Tables.{case_of_deed}
use Rattle.cl_machine.specs.Journal.{Enters, Journal}
use Rattle.cl_deeds.specs.Deeds.{Deed, PartRun, RankMoves}
use Rattle.cl_machine.specs.Cluster.{Cluster, IsRun}
use Rattle.cl_machine.specs.Order.{Before, InOrder}
use Rattle.cl_machine.specs.PartRuns.{EachPartRuns}
use Rattle.cl_machine.specs.Product.{box_at, entry_of}
use Rattle.cl_machine.specs.ProductSteps.{BoxMoves, JournalMoves, rank_at, step_of}

hub_step : (o : Option Entry) (es : List Entry) (old new : Journal) → PartRun Enters old (cons_option o es) new
    → (mid : Journal) × JournalMoves old o mid × PartRun Enters mid es new
hub_step None es old new h = (old, refl, h)
hub_step (Some e) es old new h = h

-- no order is asked here: where each part alone goes through its own events of the list, the list is a run
pub run_from_parts : (ds : List Deed) (old new : Cluster)
    → EachPartRuns RankMoves rank_at old.ranks ds new.ranks
    → PartRun Enters old.journal (filter_map entry_of ds) new.journal
    → EachPartRuns BoxMoves box_at old.boxes ds new.boxes
    → IsRun old (map step_of ds) new
run_from_parts [] old new ranks hub boxes =
    let r = parts_end RankMoves rank_at old.ranks new.ranks ranks in
    let b = parts_end BoxMoves box_at old.boxes new.boxes boxes in
    λ i. record { ranks = r i; journal = hub i; boxes = b i }
run_from_parts (d ∷ ds) old new ranks hub boxes =
    let r = parts_step RankMoves rank_at old.ranks new.ranks d ds ranks in
    let h = hub_step (entry_of d) (filter_map entry_of ds) old.journal new.journal hub in
    let b = parts_step BoxMoves box_at old.boxes new.boxes d ds boxes in
    let mid : Cluster = record { ranks = r.0; journal = h.0; boxes = b.0 } in
    (mid, case_of_deed old d.rank d.hart d.stamp d.act mid (r.1, h.1, b.1), run_from_parts ds mid new r.2 h.2 b.2)

-- the journal's stamps rise
pub journal_rises : (es : List Entry) (old new : Journal) → PartRun Enters old es new
    → AllByRecursion (λ (e : Entry). old.clock < e.stamp) es
    × InOrder (λ (e : Entry). e.stamp) (λ (e : Entry). e.rank) es
journal_rises [] old new h = (tt, tt)
journal_rises (e ∷ es) old new h =
    let rest = journal_rises es h.0 new h.2 in
    let clock : (h.0).clock ≡ e.stamp = ap (λ (c : Journal). c.clock) h.1.2 in
    let up : old.clock < e.stamp = omega (arith, h.1.1) in
    ((up, below es rest.0), (before es rest.0, rest.1))
  where
    below : (fs : List Entry) → AllByRecursion (λ (f : Entry). (h.0).clock < f.stamp) fs
        → AllByRecursion (λ (f : Entry). old.clock < f.stamp) fs
    below [] k = tt
    below (f ∷ fs) k = (omega (arith, k.0, h.1.1, ap (λ (c : Journal). c.clock) h.1.2), below fs k.1)

    before : (fs : List Entry) → AllByRecursion (λ (f : Entry). (h.0).clock < f.stamp) fs
        → AllByRecursion (Before (λ (f : Entry). f.stamp) (λ (f : Entry). f.rank) e) fs
    before [] k = tt
    before (f ∷ fs) k = (inl (omega (arith, k.0, ap (λ (c : Journal). c.clock) h.1.2)), before fs k.1)
