-- Runs and the steps behind them.
use Rattle.std.specs.Prelude.{ℕ, zero, suc, ◌+◌, ◌<◌, ◌≤◌, ◌≡◌, List, [], ◌∷◌, ◌++◌, length, take, slice_get, Some}
use Rattle.std.proofs.Common.{refl, sym, ap, ◌∙◌, subst, add-one, arith}
use Rattle.std.proofs.lemmas.Option.{same_Some}
use Rattle.rv_image_types.specs.declared.images.ImageParts.{ImageParts}
use Rattle.cl_machine.specs.Cluster.{Cluster, IsRun, IsStep, loaded_cluster}
use Rattle.cl_machine.specs.declared.steps.Step.{Step}
use Rattle.cl_machine.proofs.Tables.{one_end, run_more}
use Rattle.cl_replay.specs.declared.states.ClusterState.{ClusterState}
use Rattle.cl_replay.specs.Replaying.{IsReached}
use Rattle.cl_replay.specs.declared.replaying.ReplayFault.{ReplayFault}
use Rattle.cl_replay.specs.InnerReplaying.{BreaksAt, ReplayFaultHolds, StepBreaks}
use Rattle.cl_replay.specs.Laws.{RunLaw}
use Rattle.cl_replay.specs.Steps.{Leads, LeadsNowhere}

-- one step more of a list
pub take_next : (xs : List Step) (k : ℕ) (x : Step) → slice_get xs k ≡ Some x → take (suc k) xs ≡ take k xs ++ x ∷ []
take_next [] k x at = absurd (cc)
take_next (y ∷ xs) zero x at = ap (λ z. z ∷ []) (same_Some y x at)
take_next (y ∷ xs) (suc k) x at = ap (λ zs. y ∷ zs) (take_next xs k x at)

-- the first steps of a run are one, and so is each step behind them
split : (start end : Cluster) (es : List Step) (n k : ℕ) (e : Step) → IsRun start (take n es) end → k < n
    → slice_get es k ≡ Some e
    → (mid : Cluster) × (next : Cluster) × IsRun start (take k es) mid × IsStep mid e next
split start end [] n k e run below at = absurd (cc)
split start end (x ∷ es) zero k e run below at = absurd (omega (arith, below))
split start end (x ∷ es) (suc n) zero e run below at =
    (start, run.0, refl, subst (λ y. IsStep start y run.0) (same_Some x e at) run.1)
split start end (x ∷ es) (suc n) (suc k) e run below at =
    let rest = split run.0 end es n k e run.2 (omega (arith, below)) at in
    (rest.0, rest.1, (run.0, run.1, rest.2), rest.3)

pub run_law : RunLaw
run_law image steps n k run below breaks =
    let h = split (loaded_cluster image) run.0 steps n k breaks.step run.1 below breaks.there in
    let same = one_end (loaded_cluster image) h.0 breaks.cluster (take k steps) h.2 breaks.run in
    breaks.nowhere h.1 (subst (λ c. IsStep c breaks.step h.1) same h.3)

module _ (image : ImageParts) (steps : List Step) (k : ℕ) (state : ClusterState)
    (reached : IsReached image steps k state)
    (e : Step) (there : slice_get steps k ≡ Some e) where
  -- one step more
  pub reached_more : (new : ClusterState) → Leads state e new → IsReached image steps (k + 1) new
  reached_more new leads =
      let h = leads image reached.cluster reached.stands in
      record {
        cluster = h.0;
        run = subst (λ es. IsRun (loaded_cluster image) es h.0)
            (sym (ap (λ n. take n steps) (add-one k) ∙ take_next steps k e there))
            (run_more (take k steps) (loaded_cluster image) reached.cluster h.0 e reached.run h.1);
        stands = h.2;
      }

  pub breaks : LeadsNowhere state e → BreaksAt image steps k
  breaks nowhere = record {
    cluster = reached.cluster;
    run = reached.run;
    step = e;
    there = there;
    nowhere = λ next. nowhere image reached.cluster next reached.stands;
  }

  -- why this step isn't done is why those before a later place aren't
  pub breaks_before : (to : ℕ) → k < to → to ≤ length steps → (why : ReplayFault) → StepBreaks state k e why
      → ReplayFaultHolds image steps to why
  breaks_before to below within (ReplayFault.Step n) h = (
    subst (λ m. m < to) (sym h.0) below,
    within,
    subst (λ m. BreaksAt image steps m) (sym h.0) (breaks h.1),
  )
  breaks_before to below within ReplayFault.Memory h = within
  breaks_before to below within (ReplayFault.PastEnd len) h = absurd h

-- why the steps before one place aren't done is why those before a later one aren't
pub holds_further : (image : ImageParts) (steps : List Step) (n to : ℕ) → n ≤ to → to ≤ length steps
    → (why : ReplayFault) → ReplayFaultHolds image steps n why → ReplayFaultHolds image steps to why
holds_further image steps n to order within (ReplayFault.Step k) h =
    (let below = h.0 in omega (arith, below, order), within, h.2)
holds_further image steps n to order within ReplayFault.Memory h = within
holds_further image steps n to order within (ReplayFault.PastEnd len) h =
    absurd (let past = h.0 in omega (arith, past, order, within))
