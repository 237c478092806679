-- The order of steps, as one more is done.
use Rattle.std.specs.Prelude.{ℕ, suc, ◌+◌, ◌-◌, ◌<◌, ◌≡◌, ◌↔◌, List, [], ◌∷◌, ◌++◌, Option, None, Some, slice_get, take}
use Rattle.std.specs.List.{last_or}
use Rattle.std.proofs.Common.{refl, sym, ap, ◌∙◌, subst, add-one, arith}
use Rattle.rv_image_types.specs.declared.images.ImageParts.{ImageParts}
use Rattle.cl_machine.specs.Cluster.{Cluster, IsStep, loaded_cluster}
use Rattle.cl_machine.specs.Laws.{ComesAfter, IsGood}
use Rattle.cl_machine.specs.Order.{InOrder}
use Rattle.cl_machine.specs.declared.steps.Step.{Step}
use Rattle.cl_machine.proofs.Verdicts.{step_by_step}
use Rattle.cl_replay.specs.declared.states.ClusterState.{ClusterState}
use Rattle.cl_replay.specs.Replaying.{IsReached}
use Rattle.cl_replay.specs.Steps.{Leads}
use Rattle.cl_replay.proofs.Runs.{take_next}

abbrev pub StepsInOrder : List Step → Type 0
StepsInOrder = InOrder (λ (e : Step). e.stamp) (λ (e : Step). e.rank)

-- ---- the last of the first steps

last-push : (o : Option Step) (es : List Step) (e : Step) → last_or o (es ++ e ∷ []) ≡ Some e
last-push o [] e = refl
last-push o (x ∷ es) e = last-push (Some x) es e

pub last-take : (es : List Step) (n : ℕ) (e : Step) → 0 < n → slice_get es (n - 1) ≡ Some e
    → last_or None (take n es) ≡ Some e
last-take es n e up there =
    let up_to : n ≡ suc (n - 1) = omega (arith, up) in
    ap (λ k. last_or None (take k es)) up_to ∙ ap (last_or None) (take_next es (n - 1) e there)
    ∙ last-push None (take (n - 1) es) e

-- ---- one step more

module _ (image : ImageParts) (steps : List Step) (n : ℕ) (state : ClusterState)
    (reached : IsReached image steps n state)
    (order : StepsInOrder (take n steps)) (e : Step) (there : slice_get steps n ≡ Some e) where
  -- with it the first steps stay a run in order just where it is a step from there that comes after the last
  pub with_next : IsGood (loaded_cluster image) (take n steps ++ e ∷ [])
      ↔ (((new : Cluster) × IsStep reached.cluster e new) × ComesAfter (last_or None (take n steps)) e)
  with_next = step_by_step (loaded_cluster image) reached.cluster (take n steps) e reached.run order

  pub more : take (n + 1) steps ≡ take n steps ++ e ∷ []
  more = ap (λ k. take k steps) (add-one n) ∙ take_next steps n e there

  pub order_more : (new : ClusterState) → Leads state e new → ComesAfter (last_or None (take n steps)) e
      → StepsInOrder (take (n + 1) steps)
  order_more new leads after =
      let next = leads image reached.cluster reached.stands in
      subst StepsInOrder (sym more) (with_next.1 ((next.0, next.1), after)).1
