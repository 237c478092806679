-- Wherever a run of an image has come, the cluster has the image's ranks, and each rank the image's harts.
use Rattle.std.specs.Prelude.{ℕ, zero, suc, ◌≡◌, List, [], ◌∷◌, length, map, slice_get, slice_set, option_map}
use Rattle.std.specs.Prelude.{Option, Some, None}
use Rattle.std.proofs.Common.{refl, sym, subst, ap, ◌∙◌, arith}
use Rattle.std.proofs.lemmas.List.{length-append, length-map, length-set}
use Rattle.std.proofs.lemmas.Option.{same_Some, slice_get-map}
use Rattle.rv_hart.specs.State.{start_state}
use Rattle.rv_image_types.specs.declared.images.ImageParts.{ImageParts}
use Rattle.cl_state.specs.declared.asking.Answer.{Answer}
use Rattle.cl_state.specs.Rank.{Rank, below, loaded, start_harts}
use Rattle.cl_state.specs.Told.{told}
use Rattle.cl_state.proofs.Moves.{told_at}
use Rattle.cl_trace.specs.declared.events.Kind.{Kind}
use Rattle.cl_machine.specs.Cluster.{CaseOf, Cluster, IsRun, IsStep, loaded_cluster, ranks_told}
use Rattle.cl_machine.specs.declared.steps.Step.{Step}

pub record IsSized (image : ImageParts) (ranks : List Rank) : Type 0 where
  pub count : length ranks ≡ image.ranks
  pub harts : (r : ℕ) (rank : Rank) → slice_get ranks r ≡ Some rank → length rank.harts ≡ image.harts

-- ---- as it is loaded

length-below : (n : ℕ) → length (below n) ≡ n
length-below zero = refl
length-below (suc n) = (let less = length-below n in omega (arith, less, length-append (below n) (n ∷ [])))

length-start_harts : (image : ImageParts) (rank n : ℕ) → length (start_harts image rank n) ≡ n
length-start_harts image rank zero = refl
length-start_harts image rank (suc n) =
    let less = length-start_harts image rank n in
    omega (arith, less, length-append (start_harts image rank n) (start_state image.entry image.memory n rank ∷ []))

loaded_sized : (image : ImageParts) → IsSized image (map (loaded image) (below image.ranks))
loaded_sized image = record {
  count = length-map (below image.ranks) (loaded image) ∙ length-below image.ranks;
  harts = λ r rank at.
      go rank (slice_get (below image.ranks) r) (sym (slice_get-map (loaded image) (below image.ranks) r) ∙ at);
}
  where
    go : (rank : Rank) (o : Option ℕ) → option_map (loaded image) o ≡ Some rank → length rank.harts ≡ image.harts
    go rank None at = absurd (cc)
    go rank (Some k) at = subst (λ (x : Rank). length x.harts ≡ image.harts) (same_Some (loaded image k) rank at)
        (length-start_harts image k image.harts)

-- ---- one step

-- what holds of each element holds of each where one is replaced by another of which it holds
each-set : {X : Type 0} (P : X → Type 0) (xs : List X) (k : ℕ) (new : X)
    → ((n : ℕ) (x : X) → slice_get xs n ≡ Some x → P x) → P new
    → (n : ℕ) (x : X) → slice_get (slice_set xs k new) n ≡ Some x → P x
each-set P [] k new each here n x at = each n x at
each-set P (y ∷ xs) zero new each here zero x at = subst P (same_Some new x at) here
each-set P (y ∷ xs) zero new each here (suc n) x at = each (suc n) x at
each-set P (y ∷ xs) (suc k) new each here zero x at = each zero x at
each-set P (y ∷ xs) (suc k) new each here (suc n) x at =
    each-set P xs k new (λ m z there. each (suc m) z there) here n x at

told_sized : (image : ImageParts) (old : Cluster) (e : Step) (rank : Rank) (answer : Answer)
    → IsSized image old.ranks → slice_get old.ranks e.rank ≡ Some rank → IsSized image (ranks_told old e rank answer)
told_sized image old e rank answer sized there = record {
  count = length-set old.ranks e.rank (told rank e.hart answer e.stamp) ∙ sized.count;
  harts = each-set (λ (x : Rank). length x.harts ≡ image.harts) old.ranks e.rank (told rank e.hart answer
      e.stamp) sized.harts
      ((told_at rank e.hart answer e.stamp).harts ∙ sized.harts e.rank rank there);
}

-- a step tells one rank an answer
case_tells : (old : Cluster) (e : Step) (rank : Rank) (kind : Kind) (new : Cluster) → CaseOf old e rank kind new
    → (answer : Answer) × (new.ranks ≡ ranks_told old e rank answer)
case_tells old e rank Kind.Plain new c = (_, ap (λ (x : Cluster). x.ranks) c.2)
case_tells old e rank Kind.Local new c = (_, ap (λ (x : Cluster). x.ranks) c.2)
case_tells old e rank Kind.Held new c = (_, ap (λ (x : Cluster). x.ranks) c.2)
case_tells old e rank Kind.Idle new c = (_, ap (λ (x : Cluster). x.ranks) c.2)
case_tells old e rank (Kind.Hub reply) new c = (_, ap (λ (x : Cluster). x.ranks) c.4)
case_tells old e rank Kind.Ready new c = (_, ap (λ (x : Cluster). x.ranks) c.8)
case_tells old e rank Kind.Take new c = (_, ap (λ (x : Cluster). x.ranks) c.8)
case_tells old e rank Kind.Miss new c = (_, ap (λ (x : Cluster). x.ranks) c.4)
case_tells old e rank Kind.Freed new c = (_, ap (λ (x : Cluster). x.ranks) c.7)

step_sized : (image : ImageParts) (old : Cluster) (e : Step) (new : Cluster) → IsStep old e new
    → IsSized image old.ranks → IsSized image new.ranks
step_sized image old e new step sized =
    let tells = case_tells old e step.0 e.kind new step.4 in
    subst (IsSized image) (sym tells.1) (told_sized image old e step.0 tells.0 sized step.1)

-- ---- runs

more_sized : (image : ImageParts) (es : List Step) (old new : Cluster) → IsRun old es new → IsSized image old.ranks
    → IsSized image new.ranks
more_sized image [] old new run sized = subst (λ (x : Cluster). IsSized image x.ranks) (sym run) sized
more_sized image (e ∷ es) old new run sized =
    more_sized image es run.0 new run.2 (step_sized image old e run.0 run.1 sized)

pub run_sized : (image : ImageParts) (es : List Step) (cluster : Cluster) → IsRun (loaded_cluster image) es cluster
    → IsSized image cluster.ranks
run_sized image es cluster run = more_sized image es (loaded_cluster image) cluster run (loaded_sized image)
