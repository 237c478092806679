-- What is seen of the steps of a record, one after another.
use Rattle.std.specs.Prelude.{ℕ, zero, suc, ◌<◌, ◌≡◌, List, [], ◌∷◌, ◌++◌, length, slice_get, take, Some}
use Rattle.std.proofs.Common.{refl, sym, ap, ◌∙◌, subst, arith}
use Rattle.std.proofs.lemmas.Option.{same_Some, slice_get_within}
use Rattle.rv_image_types.specs.declared.images.ImageParts.{ImageParts}
use Rattle.cl_machine.proofs.Tables.{run_more}
use Rattle.cl_machine.specs.Cluster.{loaded_cluster}
use Rattle.cl_machine.specs.declared.steps.Step.{Step}
use Rattle.rvmc_inspect.proofs.Below.{run_sized, state_there}
use Rattle.rvmc_inspect.specs.Below.{ClusterState, IsReached, Leads}
use Rattle.cl_state.specs.Rank.{Rank}
use Rattle.cl_state.specs.Room.{rank_of}
use Rattle.cl_state.specs.declared.state.RankState.{RankState}
use Rattle.rvmc_sights.specs.Lines.{sight_of}
use Rattle.rvmc_sights.specs.Sights.{IsSightAt}

-- what holds of each holds of each with one more
pub each_more : {X : Type 0} (P : ℕ → X → Type 0) (xs : List X) (y : X)
    → ((k : ℕ) (x : X) → slice_get xs k ≡ Some x → P k x) → P (length xs) y
    → (k : ℕ) (x : X) → slice_get (xs ++ y ∷ []) k ≡ Some x → P k x
each_more P [] y each last zero x at = subst (P zero) (same_Some y x at) last
each_more P [] y each last (suc k) x at = absurd (cc)
each_more P (z ∷ xs) y each last zero x at = each zero x at
each_more P (z ∷ xs) y each last (suc k) x at =
    each_more (λ m w. P (suc m) w) xs y (λ m w h. each (suc m) w h) last k x at

-- an element stands wherever a list isn't over
pub is_there : {X : Type 0} (xs : List X) (n : ℕ) → n < length xs → (x : X) × (slice_get xs n ≡ Some x)
is_there [] n below = absurd (omega (arith, below))
is_there (x ∷ xs) zero below = (x, refl)
is_there (x ∷ xs) (suc n) below = is_there xs n (omega (arith, below))

-- what was seen of one step more: the states of its rank before and after it, and its sight
pub record IsSeen (image : ImageParts) (steps : List Step) (n : ℕ) (state : ClusterState) (e : Step) (new : ClusterState) : Type 0 where
  pub s : RankState
  pub t : RankState
  pub s_there : slice_get state.ranks.items e.rank ≡ Some s
  pub t_there : slice_get new.ranks.items e.rank ≡ Some t
  pub s_hart : e.hart < length s.harts.items
  pub t_hart : e.hart < length t.harts.items
  pub sight : IsSightAt image steps n (sight_of n e (rank_of s) (rank_of t))

unfoldable pub seen_at : (image : ImageParts) (steps : List Step) (n : ℕ) (state : ClusterState) → IsReached image steps n state
    → (e : Step) → slice_get steps n ≡ Some e → (new : ClusterState) → Leads state e new
    → IsSeen image steps n state e new
seen_at image steps n state reached e there new leads =
    let led = leads image reached.cluster reached.stands in
    let step = led.1 in
    let run = run_more (take n steps) (loaded_cluster image) reached.cluster led.0 e reached.run led.1 in
    let sized = run_sized image (take n steps) reached.cluster reached.run in
    let sized_after = run_sized image (take n steps ++ e ∷ []) led.0 run in
    let s = state_there reached.cluster.ranks state.ranks.items reached.stands.ranks_are e.rank step.0 step.1 in
    let below : e.rank < length reached.cluster.ranks = slice_get_within reached.cluster.ranks e.rank step.0 step.1 in
    let counts : length reached.cluster.ranks ≡ length led.0.ranks = sized.count ∙ sym sized_after.count in
    let t = is_there led.0.ranks e.rank (omega (arith, below, counts)) in
    let u = state_there led.0.ranks new.ranks.items led.2.ranks_are e.rank t.0 t.1 in
    let harts : length step.0.harts ≡ image.harts = sized.harts e.rank step.0 step.1 in
    let harts_after : length t.0.harts ≡ image.harts = sized_after.harts e.rank t.0 t.1 in
    let s_same : length s.0.harts.items ≡ length step.0.harts = ap (λ (r : Rank). length r.harts) s.2 in
    let u_same : length u.0.harts.items ≡ length t.0.harts = ap (λ (r : Rank). length r.harts) u.2 in
    let hart : e.hart < length step.0.harts = step.2 in
    record {
      s = s.0;
      t = u.0;
      s_there = s.1;
      t_there = u.1;
      s_hart = omega (arith, hart, s_same);
      t_hart = omega (arith, hart, u_same, harts, harts_after);
      sight = record {
        old = reached.cluster;
        run = reached.run;
        step = e;
        there = there;
        new = led.0;
        leads = led.1;
        before = rank_of s.0;
        after = rank_of u.0;
        before_there = step.1 ∙ ap Some (sym s.2);
        after_there = t.1 ∙ ap Some (sym u.2);
        is = refl;
      };
    }
