-- The pass that keeps a cluster at each multiple of the spacing.
use Rattle.std.specs.Prelude.{ℕ, zero, suc, ◌+◌, ◌-◌, ◌*◌, ◌/◌, ◌<◌, ◌≤◌}
use Rattle.std.specs.Prelude.{◌≡◌, List, [], ◌∷◌, ◌++◌, length, min, slice_get, take, Some}
use Rattle.std.proofs.Common.{refl, sym, subst, ap, ◌∙◌, ◌^◌, arith, pow-add}
use Rattle.std.proofs.Math.Nat.{mul-le-mul_left}
use Rattle.std.proofs.lemmas.List.{length-append}
use Rattle.std.proofs.lemmas.Option.{same_Some}
use Rattle.rv_image_types.specs.declared.images.ImageParts.{ImageParts}
use Rattle.cl_machine.specs.Cluster.{Cluster, IsRun, loaded_cluster}
use Rattle.cl_machine.specs.declared.steps.Step.{Step}
use Rattle.cl_replay.specs.declared.states.ClusterState.{ClusterState}
use Rattle.cl_replay.specs.Kept.{Snapshot, snapshot}
use Rattle.cl_replay.specs.Replaying.{IsReached}
use Rattle.cl_replay.specs.States.{ClusterStandsFor}
use Rattle.cl_debug.specs.Faults.{OpenFaultHolds}
use Rattle.cl_replay.specs.Walking.{LeadsOn}
use Rattle.cl_debug.specs.Leads.{AreKept, IsKeptAt, LeadFaultHolds}
use Rattle.cl_debug.specs.Spacing.{IsSpacing, multiples}
use Rattle.cl_debug.specs.declared.faults.DebugFault.{DebugFault}
use Rattle.cl_debug.proofs.Led.{kept_here}

-- so many are kept, each at its multiple, and the state is at the next multiple, or at the end
pub record KeptSoFar (image : ImageParts) (steps : List Step) (spacing k : ℕ) (kept : List Snapshot)
    (state : ClusterState) : Type 0 where
  pub count : length kept ≡ k
  pub reached : (j : ℕ) (there : Snapshot) → slice_get kept j ≡ Some there → IsKeptAt image steps (j * spacing) there
  pub here : IsReached image steps (min (k * spacing) (length steps)) state

no_steps : (cluster : Cluster) (steps : List Step) → IsRun cluster (take 0 steps) cluster
no_steps cluster [] = refl
no_steps cluster (step ∷ steps) = refl

-- at first nothing is kept, and the state is the loaded one
pub none_kept : (image : ImageParts) (steps : List Step) (spacing : ℕ) (kept : List Snapshot) (state : ClusterState)
    → kept ≡ [] → ClusterStandsFor image state (loaded_cluster image) → KeptSoFar image steps spacing 0 kept state
none_kept image steps spacing kept state none stands = subst (λ xs. KeptSoFar image steps spacing 0 xs state) (sym none)
    (record {
      count = refl;
      reached = λ j there at. absurd (cc);
      here = subst (λ n. IsReached image steps n state)
          (let e : 0 ≡ min (0 * spacing) (length steps) = omega arith in e)
          (record { cluster = loaded_cluster image; run = no_steps (loaded_cluster image) steps; stands = stands });
    })

-- a multiple of the spacing up to the length
pub at_most : (spacing len k : ℕ) → 0 < spacing → k < multiples spacing len → k * spacing ≤ len
at_most spacing len k positive below =
    let most : k ≤ len / spacing = omega (arith, below) in
    omega (arith, mul-le-mul_left spacing most)

-- and the first behind it
pub beyond : (spacing len : ℕ) → 0 < spacing → len ≤ multiples spacing len * spacing
beyond spacing len positive = omega arith

-- what holds of each element, and of one more
each-more : {X : Type 0} (P : ℕ → X → Type 0) (xs : List X) (new : X)
    → ((n : ℕ) (x : X) → slice_get xs n ≡ Some x → P n x) → P (length xs) new
    → (n : ℕ) (x : X) → slice_get (xs ++ new ∷ []) n ≡ Some x → P n x
each-more P [] new each here zero x at = subst (P 0) (same_Some new x at) here
each-more P [] new each here (suc n) x at = absurd (cc)
each-more P (y ∷ xs) new each here zero x at = each zero x at
each-more P (y ∷ xs) new each here (suc n) x at =
    each-more (λ m z. P (suc m) z) xs new (λ m z there. each (suc m) z there) here n x at

module _ (image : ImageParts) (steps : List Step) (spacing k : ℕ) (kept : List Snapshot) (state : ClusterState)
    (so_far : KeptSoFar image steps spacing k kept state) (within : k * spacing ≤ length steps) where
  pub at_multiple : IsReached image steps (k * spacing) state
  at_multiple = subst (λ n. IsReached image steps n state) (let e : min (k * spacing) (length steps) ≡ k *
      spacing = omega (arith, within) in e)
      so_far.here

  -- one more is kept, and the steps up to the next multiple are done
  pub kept_more : (here : Snapshot) (more : List Snapshot) (next : ClusterState) (to : ℕ) → here ≡ snapshot state
      → more ≡ kept ++ here ∷ [] → to ≡ k * spacing + min spacing (length steps - k * spacing)
      → LeadsOn steps (k * spacing) state to next
      → KeptSoFar image steps spacing (k + 1) more next
  kept_more here more next to same is to_is led = record {
    count = ap length is ∙ (let e : length (kept ++ here ∷ []) ≡ k + 1 = omega (
      arith,
      so_far.count,
      length-append kept (here ∷ []),
    ) in e);
    reached = subst (λ (xs : List Snapshot). (j : ℕ) (there : Snapshot) → slice_get xs j ≡ Some there
        → IsKeptAt image steps (j * spacing) there)
        (sym is)
        (each-more (λ j there. IsKeptAt image steps (j * spacing) there) kept here so_far.reached
        (subst (λ n. IsKeptAt image steps (n * spacing) here) (sym so_far.count)
        (kept_here image steps (k * spacing) state here same at_multiple)));
    here = subst (λ n. IsReached image steps n next)
        (let e : to ≡ min ((k + 1) * spacing) (length steps) = omega (arith, to_is, within) in e)
        (led image at_multiple);
  }

  -- a refused step is one of the record
  pub kept_fault : (to : ℕ) (fault : DebugFault) → LeadFaultHolds steps (k * spacing) state to fault
      → OpenFaultHolds image steps fault
  kept_fault to (DebugFault.NotARun n) h = h.1 image at_multiple
  kept_fault to DebugFault.Memory h = tt
  kept_fault to (DebugFault.PastEnd n) h = absurd h
  kept_fault to DebugFault.NoRank h = absurd h
  kept_fault to DebugFault.NoHart h = absurd h
  kept_fault to DebugFault.Range h = absurd h
  kept_fault to DebugFault.NoSymbol h = absurd h

module _ (image : ImageParts) (steps : List Step) (spacing : ℕ) (kept : List Snapshot) (state : ClusterState)
    (positive : 0 < spacing) (all : KeptSoFar image steps spacing (multiples spacing (length steps)) kept state) where
  pub all_kept : AreKept image steps spacing kept
  all_kept = record { count = all.count; reached = all.reached }

  pub all_run : IsReached image steps (length steps) state
  all_run = subst (λ n. IsReached image steps n state)
      (let e : min (multiples spacing (length steps) * spacing) (length steps) ≡ length steps =
      omega (arith, beyond spacing (length steps) positive) in e)
      all.here

-- a spacing isn't 0
pub positive : (len spacing : ℕ) → IsSpacing len spacing → 0 < spacing
positive len spacing spaced = (let is = spaced.is in let some = pow_pos spaced.power in omega (arith, is, some))
  where
    pow_pos : (power : ℕ) → 0 < 2 ^ power
    pow_pos zero = omega arith
    pow_pos (suc power) = (let less = pow_pos power in omega (arith, less, pow-add 2 power 1))
