-- Verdicts of lists of steps.
use Rattle.std.specs.Prelude.{ℕ, zero, suc, ◌+◌, ◌-◌, ◌<◌, ◌≤◌, ◌≡◌, ◌↔◌, List, [], ◌∷◌, None, Some, length, slice_get, take}
use Rattle.std.specs.List.{last_or, AllByRecursion}
use Rattle.std.proofs.Common.{refl, sym, ap, ◌∙◌, subst, arith}
use Rattle.std.proofs.lemmas.List.{take_all, take-take}
use Rattle.std.proofs.lemmas.Option.{same_Some}
use Rattle.rv_image_types.specs.declared.images.ImageParts.{ImageParts}
use Rattle.cl_machine.specs.Cluster.{Cluster, IsRun, IsStep, loaded_cluster}
use Rattle.cl_machine.specs.Laws.{ComesAfter, IsGood}
use Rattle.cl_machine.specs.Order.{Before}
use Rattle.cl_machine.specs.declared.steps.Step.{Step}
use Rattle.cl_machine.proofs.Verdicts.{one_merge}
use Rattle.cl_record.specs.Records.{steps_in}
use Rattle.cl_check.specs.declared.checking.Verdict.{Verdict}
use Rattle.cl_replay.specs.declared.states.ClusterState.{ClusterState}
use Rattle.cl_check.specs.Checks.{IsOrderedRun}
use Rattle.cl_check.specs.Laws.{MergedIsGoodLaw, OneVerdictLaw}
use Rattle.cl_replay.specs.Replaying.{IsReached}
use Rattle.cl_replay.specs.Steps.{LeadsNowhere}
use Rattle.cl_replay.proofs.Orders.{StepsInOrder, last-take, more, with_next}

-- ---- the first steps of a run in order are one

take_run : (start end : Cluster) (es : List Step) (n : ℕ) → IsRun start es end
    → (mid : Cluster) × IsRun start (take n es) mid
take_run start end es zero run = (start, refl)
take_run start end [] (suc n) run = (start, refl)
take_run start end (e ∷ es) (suc n) run =
    let rest = take_run run.0 end es n run.2 in (rest.0, (run.0, run.1, rest.1))

all_in_first : (P : Step → Type 0) (es : List Step) (n : ℕ) → AllByRecursion P es → AllByRecursion P (take n es)
all_in_first P es zero h = tt
all_in_first P [] (suc n) h = tt
all_in_first P (e ∷ es) (suc n) h = (h.0, all_in_first P es n h.1)

take_order : (es : List Step) (n : ℕ) → StepsInOrder es → StepsInOrder (take n es)
take_order es zero h = tt
take_order [] (suc n) h = tt
take_order (e ∷ es) (suc n) h =
    (all_in_first (Before (λ (e : Step). e.stamp) (λ (e : Step). e.rank) e) es n h.0, take_order es n h.1)

pub take_ordered : (image : ImageParts) (es : List Step) (n : ℕ) → IsOrderedRun image es
    → IsOrderedRun image (take n es)
take_ordered image es n h =
    let first = take_run (loaded_cluster image) h.cluster es n h.run in
    record { cluster = first.0; run = first.1; in_order = take_order es n h.in_order }

-- ---- there is one verdict at most

-- what is bad with one step more isn't good so far
not_before : (image : ImageParts) (es : List Step) (n m : ℕ) → ¬ IsOrderedRun image (take (n + 1) es)
    → IsOrderedRun image (take m es) → ¬ (n < m)
not_before image es n m bad good below =
    bad (subst (IsOrderedRun image) (take-take (n + 1) m es (omega (arith, below)))
    (take_ordered image (take m es) (n + 1) good))

pub one_verdict : OneVerdictLaw
one_verdict image steps Verdict.Good Verdict.Good p q = refl
one_verdict image steps Verdict.Good (Verdict.BadAt n) p q = absurd (q.2 (take_ordered image steps (n + 1) p))
one_verdict image steps (Verdict.BadAt n) Verdict.Good p q = absurd (p.2 (take_ordered image steps (n + 1) q))
one_verdict image steps (Verdict.BadAt n) (Verdict.BadAt m) p q =
    let up : ¬ (n < m) = not_before image steps n m p.2 q.1 in
    let down : ¬ (m < n) = not_before image steps m n q.2 p.1 in
    ap (λ k. Verdict.BadAt k) (omega (arith, up, down))

pub merged_is_good : MergedIsGoodLaw
merged_is_good image left steps verdict merged sorted found =
    let same = one_merge (steps_in left) merged.steps steps merged.sorted sorted in
    one_verdict image steps verdict Verdict.Good found (record {
      cluster = merged.final;
      run = subst (λ es. IsRun (loaded_cluster image) es merged.final) same merged.run;
      in_order = sorted.in_order;
    })

-- ---- the step before

pub step_there : (es : List Step) (n : ℕ) → n < length es → (e : Step) × (slice_get es n ≡ Some e)
step_there [] n below = absurd (omega (arith, below))
step_there (e ∷ es) zero below = (e, refl)
step_there (e ∷ es) (suc n) below = step_there es n (omega (arith, below))

-- what comes after step n - 1 comes after the last of the first n steps
pub after_last : (P : Type 0) (es : List Step) (n : ℕ) (last e step : Step) → 0 < n → slice_get es (n - 1) ≡ Some last
    → slice_get es n ≡ Some e → slice_get es n ≡ Some step → P ↔ ComesAfter (Some last) e
    → P ↔ ComesAfter (last_or None (take n es)) step
after_last P es n last e step up before here there h =
    subst (λ o. P ↔ ComesAfter o step) (sym (last-take es n last up before))
    (subst (λ x. P ↔ ComesAfter (Some last) x) (same_Some e step (sym here ∙ there)) h)

-- ---- one step more

module _ (image : ImageParts) (steps : List Step) (n : ℕ) (state : ClusterState)
    (reached : IsReached image steps n state)
    (order : StepsInOrder (take n steps)) (e : Step) (there : slice_get steps n ≡ Some e) where
  pub so_far : IsOrderedRun image (take n steps)
  so_far = record { cluster = reached.cluster; run = reached.run; in_order = order }

  its_parts : IsOrderedRun image (take (n + 1) steps)
      → ((new : Cluster) × IsStep reached.cluster e new) × ComesAfter (last_or None (take n steps)) e
  its_parts h =
      (with_next image steps n state reached order e there).0
      (subst (IsGood (loaded_cluster image)) (more image steps n state reached order e there)
      ((h.cluster, h.run), h.in_order))

  pub too_early : ¬ ComesAfter (last_or None (take n steps)) e → ¬ IsOrderedRun image (take (n + 1) steps)
  too_early early h = early (its_parts h).1

  pub no_step : LeadsNowhere state e → ¬ IsOrderedRun image (take (n + 1) steps)
  no_step nowhere h =
      let step = (its_parts h).0 in nowhere image reached.cluster step.0 reached.stands step.1

  -- a step that either comes too early or isn't the machine's
  pub no_next : (ComesAfter (last_or None (take n steps)) e → LeadsNowhere state e)
      → ¬ IsOrderedRun image (take (n + 1) steps)
  no_next bad h =
      let parts = its_parts h in bad parts.1 image reached.cluster parts.0.0 reached.stands parts.0.1

-- all steps were done
pub good_at_end : (image : ImageParts) (steps : List Step) (n : ℕ) (state : ClusterState) → length steps ≤ n
    → IsReached image steps n state → StepsInOrder (take n steps) → IsOrderedRun image steps
good_at_end image steps n state all reached order = subst (IsOrderedRun image) (take_all n steps all) (record {
  cluster = reached.cluster;
  run = reached.run;
  in_order = order;
})
