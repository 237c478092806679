-- Whether a break stops a run at the place of a state.
use Rattle.std.specs.Prelude.{ℕ, ◌≤◌, ◌≡◌, List, length, slice_get, take, Some, Contains}
use Rattle.std.proofs.Common.{sym, subst, ap, ◌∙◌, arith}
use Rattle.std.proofs.lemmas.Option.{same_Some, slice_get_within}
use Rattle.rv_hart.specs.State.{State}
use Rattle.rv_image_types.specs.declared.images.ImageParts.{ImageParts}
use Rattle.cl_state.specs.Room.{rank_of}
use Rattle.cl_state.specs.declared.state.RankState.{RankState}
use Rattle.cl_machine.specs.declared.steps.Step.{Step}
use Rattle.cl_replay.specs.declared.states.ClusterState.{ClusterState}
use Rattle.cl_replay.specs.Replaying.{IsReached}
use Rattle.cl_debug.specs.Places.{IsBreakPlace}
use Rattle.cl_debug.specs.declared.breaks.Break.{Break}
use Rattle.cl_debug.proofs.Ranks.{run_sized}
use Rattle.cl_debug.proofs.Shows.{harts_count, rank_at, rank_here, ranks_count}

-- at the end there is no step
pub no_step_here : (image : ImageParts) (steps : List Step) (breaks : List Break) (n : ℕ) → length steps ≤ n
    → ¬ IsBreakPlace image steps breaks n
no_step_here image steps breaks n end place =
    let inside = slice_get_within steps n place.step place.next in omega (arith, inside, end)

-- the same break by other numbers
pub contains_same : (breaks : List Break) (r r' h h' p p' : ℕ) → r ≡ r' → h ≡ h' → p ≡ p'
    → Contains breaks (record { rank = r; hart = h; pc = p })
    → Contains breaks (record { rank = r'; hart = h'; pc = p' })
contains_same breaks r r' h h' p p' rank hart pc set =
    subst (λ (b : Break). Contains breaks b) (λ i. record { rank = rank i; hart = hart i; pc = pc i }) set

module _ (image : ImageParts) (steps : List Step) (breaks : List Break) (n : ℕ) (state : ClusterState)
    (reached : IsReached image steps n state) (step : Step) (there : slice_get steps n ≡ Some step) where
  same_step : (place : IsBreakPlace image steps breaks n) → place.step ≡ step
  same_step place = same_Some place.step step (sym place.next ∙ there)

  -- the rank isn't there
  pub no_rank_here : length state.ranks.items ≤ step.rank → ¬ IsBreakPlace image steps breaks n
  no_rank_here few place =
      let hart = place.hart_here in
      let low = slice_get_within (place.cluster).ranks (place.step).rank hart.owner hart.rank_there in
      let sized = run_sized image (take n steps) place.cluster (place.here).1 in
      let count = ranks_count image steps n state reached in
      let same = ap (λ (e : Step). e.rank) (same_step place) in
      let many = sized.count in
      omega (arith, low, many, count, same, few)

  module _ (s : RankState) (rank_there : slice_get state.ranks.items step.rank ≡ Some s) where
    -- the hart isn't there
    pub no_hart_here : length s.harts.items ≤ step.hart → ¬ IsBreakPlace image steps breaks n
    no_hart_here few place =
        let hart = place.hart_here in
        let low = slice_get_within (hart.owner).harts (place.step).hart place.state hart.hart_there in
        let sized = run_sized image (take n steps) place.cluster (place.here).1 in
        let many = sized.harts (place.step).rank hart.owner hart.rank_there in
        let count = harts_count image steps n state reached step.rank s rank_there in
        let same = ap (λ (e : Step). e.hart) (same_step place) in
        omega (arith, low, many, count, same, few)

    module _ (hart : State) (hart_there : slice_get s.harts.items step.hart ≡ Some hart) where
      pub stop_here : Contains breaks (record { rank = step.rank; hart = step.hart; pc = hart.pc })
          → IsBreakPlace image steps breaks n
      stop_here set = record {
        step = step;
        next = there;
        cluster = reached.cluster;
        here = ((let inside = slice_get_within steps n step there in omega (arith, inside)), reached.run);
        state = hart;
        hart_here = record {
          owner = rank_of s;
          rank_there = rank_here image steps n state reached step.rank s rank_there;
          hart_there = hart_there;
        };
        is_set = set;
      }

      pub no_stop_here : ¬ (Contains breaks (record { rank = step.rank; hart = step.hart; pc = hart.pc }))
          → ¬ IsBreakPlace image steps breaks n
      no_stop_here none place =
          let same = same_step place in
          let at = place.hart_here in
          let owner_is = same_Some at.owner (rank_of s) (sym at.rank_there
          ∙ ap (λ (e : Step). slice_get (place.cluster).ranks e.rank) same
          ∙ rank_at image steps n state reached step.rank s rank_there place.cluster place.here) in
          let hart_is = same_Some place.state hart
          (sym at.hart_there ∙ (λ i. slice_get (owner_is i).harts (same i).hart) ∙ hart_there) in
          none (subst (λ (b : Break). Contains breaks b)
          (λ i. record { rank = (same i).rank; hart = (same i).hart; pc = (hart_is i).pc }) place.is_set)
