-- Steps of which each did something are a run.
use Rattle.std.specs.Prelude.{ℕ, zero, suc, ◌+◌, ◌<◌, ◌≡◌, List, [], ◌∷◌, ◌++◌, length, slice_get, take, Some}
use Rattle.std.proofs.Common.{refl, sym, subst, arith}
use Rattle.std.proofs.lemmas.List.{length-take-le}
use Rattle.rv_image_types.specs.declared.images.ImageParts.{ImageParts}
use Rattle.cl_machine.proofs.Tables.{run_more}
use Rattle.cl_machine.specs.Cluster.{Cluster, IsRun, IsStep, loaded_cluster}
use Rattle.cl_machine.specs.declared.steps.Step.{Step}
use Rattle.cl_replay.proofs.Runs.{take_next}
use Rattle.cl_replay.specs.Replays.{IsRunUpTo}
use Rattle.rvmc_draw.specs.declared.deeds.Deed.{Deed}
use Rattle.rvmc_sights.proofs.Sights.{is_there}
use Rattle.rvmc_picture.specs.Pictures.{AreDeeds, IsDeedAt}

module _ (image : ImageParts) (steps : List Step) where
  -- up to the step behind so many others that did something
  run_with : (n : ℕ) (before : List Deed) (d : Deed) → length before ≡ n → IsDeedAt image steps before d
      → IsRunUpTo image steps (suc n)
  run_with n before d count at = (
    at.new,
    subst (λ es. IsRun (loaded_cluster image) es at.new)
        (sym (take_next steps n at.step (subst (λ k. slice_get steps k ≡ Some at.step) count at.there)))
        (run_more (take n steps) (loaded_cluster image) at.old at.new at.step
        (subst (λ k. IsRun (loaded_cluster image) (take k steps) at.old) count at.run) at.leads),
  )

  up_to : (n : ℕ) (deeds : List Deed) → AreDeeds image steps n deeds → IsRunUpTo image steps n
  up_to zero deeds are = (loaded_cluster image, refl)
  up_to (suc n) deeds are =
      let count = are.count in
      let last = is_there deeds n (omega (arith, count)) in
      run_with n (take n deeds) last.0 (length-take-le n deeds (omega (arith, count))) (are.each n last.0 last.1)

  -- so are the steps of a drawing
  pub deeds_run : (deeds : List Deed) → AreDeeds image steps (length steps) deeds → IsRunUpTo image steps (length steps)
  deeds_run deeds are = up_to (length steps) deeds are
