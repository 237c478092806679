-- A run comes apart: each part alone goes through its own deeds.
use Rattle.std.specs.Prelude.{ℕ, List, [], ◌∷◌, ◌≡◌, cond, map}
use Rattle.std.specs.List.{slice_get, filter_map, cons_option}
use Rattle.std.specs.declared.option.Option.{Option}
use Rattle.std.specs.declared.option.Option.TheVariants.{None, Some}
use Rattle.std.proofs.Common.{refl, sym, ap, ◌∙◌, subst}
use Rattle.std.proofs.lemmas.Bool.Decides.{eqb_tells}
use mathlib.Core.Logic.{inl, inr}
use Rattle.cl_journal.specs.declared.entries.Entry.{Entry}
use Rattle.cl_deeds.specs.Deeds.{Deed, PartRun, RankMoves}
use Rattle.cl_machine.specs.declared.steps.Step.{Step}
use Rattle.cl_machine.specs.Cluster.{Cluster, IsRun}
use Rattle.cl_machine.specs.Journal.{Enters, Journal}
use Rattle.cl_machine.specs.Parts.{PartRunAt, is_index, own}
use Rattle.cl_machine.specs.PartRuns.{EachPartRuns, PartsMove, PartsMoveAt}
use Rattle.cl_machine.specs.Product.{box_at, entry_of}
use Rattle.cl_machine.specs.ProductSteps.{BoxMoves, JournalMoves, rank_at, step_of}
use Rattle.cl_machine.proofs.Lists.{get-set_same, get-set_other}
use Rattle.cl_machine.proofs.Tables.{table_law}

module _ {S D : Type 0} (Move : S → D → S → Type 0) (at : D → Option ℕ) where
  still : (o : Option S) → PartRunAt Move o [] o
  still (Some s) = refl
  still None = refl

  parts_still : (old new : List S) → new ≡ old → EachPartRuns Move at old [] new
  parts_still old new h i =
      subst (λ xs. PartRunAt Move (slice_get old i) [] (slice_get xs i)) (sym h) (still (slice_get old i))

  one_more : (s t : S) (d : D) (ds : List D) (p : Option S) → Move s d t → PartRunAt Move (Some t) ds p
      → PartRunAt Move (Some s) (d ∷ ds) p
  one_more s t d ds (Some u) m h = (t, m, h)
  one_more s t d ds None m h = absurd h

  back_at : (k : Option ℕ) (old mid new : List S) (d : D) (ds : List D) → PartsMoveAt Move k old d mid
      → EachPartRuns Move at mid ds new
      → (i : ℕ)
      → PartRunAt Move (slice_get old i) (cond (is_index i k) (d ∷ own at i ds) (own at i ds)) (slice_get new i)
  back_at None old mid new d ds m h i =
      subst (λ xs. PartRunAt Move (slice_get xs i) (own at i ds) (slice_get new i)) m (h i)
  back_at (Some k) old mid new d ds m h i =
      elim (eqb_tells k i) [
        | inl e ↦ subst
            (λ b. PartRunAt Move (slice_get old i) (cond b (d ∷ own at i ds) (own at i ds)) (slice_get new i)) (sym e.0)
            (subst (λ j. PartRunAt Move (slice_get old j) (d ∷ own at j ds) (slice_get new j)) e.1
            (subst (λ o. PartRunAt Move o (d ∷ own at k ds) (slice_get new k)) (sym m.2)
            (one_more m.0 m.1 d (own at k ds) (slice_get new k) m.3
            (subst (λ o. PartRunAt Move o (own at k ds) (slice_get new k))
            (ap (λ xs. slice_get xs k) m.4 ∙ get-set_same old k m.0 m.1 m.2) (h k)))))
        | inr e ↦ subst
            (λ b. PartRunAt Move (slice_get old i) (cond b (d ∷ own at i ds) (own at i ds)) (slice_get new i)) (sym e.0)
            (subst (λ o. PartRunAt Move o (own at i ds) (slice_get new i))
            (ap (λ xs. slice_get xs i) m.4 ∙ get-set_other old k i m.1 e.1) (h i))
      ]

  parts_back : (old mid new : List S) (d : D) (ds : List D) → PartsMove Move at old d mid
      → EachPartRuns Move at mid ds new
      → EachPartRuns Move at old (d ∷ ds) new
  parts_back old mid new d ds m h = back_at (at d) old mid new d ds m h

hub_back : (o : Option Entry) (es : List Entry) (old mid new : Journal) → JournalMoves old o mid
    → PartRun Enters mid es new
    → PartRun Enters old (cons_option o es) new
hub_back None es old mid new m h = subst (λ j. PartRun Enters j es new) m h
hub_back (Some e) es old mid new m h = (mid, m, h)

-- the deeds behind a run, and each part's run through its own
pub record Apart (old : Cluster) (steps : List Step) (new : Cluster) : Type 0 where
  pub deeds : List Deed
  pub steps_are : map step_of deeds ≡ steps
  pub ranks : EachPartRuns RankMoves rank_at old.ranks deeds new.ranks
  pub journal : PartRun Enters old.journal (filter_map entry_of deeds) new.journal
  pub boxes : EachPartRuns BoxMoves box_at old.boxes deeds new.boxes

pub apart : (steps : List Step) (old new : Cluster) → IsRun old steps new → Apart old steps new
apart [] old new h = record {
  deeds = [];
  steps_are = refl;
  ranks = parts_still RankMoves rank_at old.ranks new.ranks (ap (λ (c : Cluster). c.ranks) h);
  journal = ap (λ (c : Cluster). c.journal) h;
  boxes = parts_still BoxMoves box_at old.boxes new.boxes (ap (λ (c : Cluster). c.boxes) h);
}
apart (e ∷ es) old new h =
    let step = (table_law old e h.0).1 h.1 in
    let rest = apart es h.0 new h.2 in
    record {
      deeds = step.0 ∷ rest.deeds;
      steps_are = (λ i. step.1 i ∷ rest.steps_are i);
      ranks = parts_back RankMoves rank_at old.ranks (h.0).ranks new.ranks step.0 rest.deeds step.2.0 rest.ranks;
      journal =
          hub_back (entry_of step.0) (filter_map entry_of rest.deeds) old.journal (h.0).journal new.journal step.2.1
          rest.journal;
      boxes = parts_back BoxMoves box_at old.boxes (h.0).boxes new.boxes step.0 rest.deeds step.2.2 rest.boxes;
    }
