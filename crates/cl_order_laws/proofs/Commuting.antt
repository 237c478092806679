-- A turn that needs only its rank and a turn of another rank, exchanged.
use Rattle.std.proofs.Common.{◌≡◌, ℕ, zero, suc, ◌⊎◌, inl, inr, List, [], ◌∷◌, Some, refl, sym, ap, ◌∙◌, subst}
use Rattle.std.specs.Prelude.{◌≢◌}
use Rattle.std.specs.List.{slice_get, slice_set}
use Rattle.mp_wait_laws.proofs.Sets.{get-set_other}
use Rattle.cl_state.specs.declared.asking.Answer.{Answer}
use Rattle.cl_state.specs.Rank.{Rank}
use Rattle.cl_state.specs.Told.{told}
use Rattle.cl_trace.specs.declared.events.Kind.{Kind}
use Rattle.cl_machine.specs.declared.steps.Step.{Step}
use Rattle.cl_machine.specs.Cluster.{CaseOf, Cluster, only_told}
use Rattle.cl_order_laws.specs.Alike.{Leads}
use Rattle.cl_order_laws.specs.Laws.{CommuteLaw, IsAlone}
use Rattle.cl_order_laws.proofs.Steps.{below_law, step_leads}

-- the cluster with these ranks
abbrev with_ranks : Cluster → List Rank → Cluster
with_ranks c ranks = record { ranks = ranks; journal = c.journal; boxes = c.boxes }

pub set_apart : {A : Type 0} (xs : List A) (i j : ℕ) (x y : A) → i ≢ j
    → slice_set (slice_set xs i x) j y ≡ slice_set (slice_set xs j y) i x
set_apart [] i j x y apart = refl
set_apart (z ∷ xs) zero zero x y apart = absurd (apart refl)
set_apart (z ∷ xs) zero (suc j) x y apart = refl
set_apart (z ∷ xs) (suc i) zero x y apart = refl
set_apart (z ∷ xs) (suc i) (suc j) x y apart = ap (λ l. z ∷ l) (set_apart xs i j x y (λ e. apart (ap suc e)))

-- what a step does to the ranks is to one, and what it does beside them doesn't hang on the others
pub record Moved (c new : Cluster) (e : Step) (x : Rank) : Type 0 where
  pub then : Rank
  pub ranks : new.ranks ≡ slice_set c.ranks e.rank then
  does : (others : List Rank)
      → CaseOf (with_ranks c others) e x e.kind (with_ranks new (slice_set others e.rank then))

pub moved : (c new : Cluster) (e : Step) (x : Rank) (kind : Kind) → e.kind ≡ kind → CaseOf c e x kind new → Moved c new e x
moved c new e x kind is goes = record {
  then = (by kind goes).0;
  ranks = (by kind goes).1;
  does = λ others. subst (λ k. CaseOf (with_ranks c others) e x k
      (with_ranks new (slice_set others e.rank (by kind goes).0))) (sym is) ((by kind goes).2 others);
}
  where
    to : {C D : Cluster} (others : List Rank) → C ≡ D → with_ranks C others ≡ with_ranks D others
    to others same = ap (λ n. with_ranks n others) same

    by : (kind : Kind) → CaseOf c e x kind new
        → (then : Rank) × (new.ranks ≡ slice_set c.ranks e.rank then)
        × ((others : List Rank)
        → CaseOf (with_ranks c others) e x kind (with_ranks new (slice_set others e.rank then)))
    by Kind.Plain k = (
      told x e.hart Answer.Alone e.stamp,
      ap (λ (n : Cluster). n.ranks) k.2,
      λ others. (k.0, k.1, to (slice_set others e.rank (told x e.hart Answer.Alone e.stamp)) k.2),
    )
    by Kind.Local k = (
      told x e.hart Answer.Alone e.stamp,
      ap (λ (n : Cluster). n.ranks) k.2,
      λ others. (k.0, k.1, to (slice_set others e.rank (told x e.hart Answer.Alone e.stamp)) k.2),
    )
    by Kind.Held k = (
      told x e.hart Answer.Alone e.stamp,
      ap (λ (n : Cluster). n.ranks) k.2,
      λ others. (k.0, k.1, to (slice_set others e.rank (told x e.hart Answer.Alone e.stamp)) k.2),
    )
    by Kind.Idle k = (
      told x e.hart Answer.Alone e.stamp,
      ap (λ (n : Cluster). n.ranks) k.2,
      λ others. (k.0, k.1, to (slice_set others e.rank (told x e.hart Answer.Alone e.stamp)) k.2),
    )
    by (Kind.Hub r) k = (
      told x e.hart (Answer.Reply r) e.stamp,
      ap (λ (n : Cluster). n.ranks) k.4,
      λ others. (k.0, k.1, k.2, k.3, to (slice_set others e.rank (told x e.hart (Answer.Reply r) e.stamp)) k.4),
    )
    by Kind.Ready k = (
      told x e.hart Answer.Alone e.stamp,
      ap (λ (n : Cluster). n.ranks) k.8,
      λ others. (
        k.0,
        k.1,
        k.2,
        k.3,
        k.4,
        k.5,
        k.6,
        k.7,
        to (slice_set others e.rank (told x e.hart Answer.Alone e.stamp)) k.8,
      ),
    )
    by Kind.Take k = (
      told x e.hart (Answer.Taken k.2) e.stamp,
      ap (λ (n : Cluster). n.ranks) k.8,
      λ others. (
        k.0,
        k.1,
        k.2,
        k.3,
        k.4,
        k.5,
        k.6,
        k.7,
        to (slice_set others e.rank (told x e.hart (Answer.Taken k.2) e.stamp)) k.8,
      ),
    )
    by Kind.Miss k = (
      told x e.hart Answer.Missed e.stamp,
      ap (λ (n : Cluster). n.ranks) k.4,
      λ others. (k.0, k.1, k.2, k.3, to (slice_set others e.rank (told x e.hart Answer.Missed e.stamp)) k.4),
    )
    by Kind.Freed k = (
      told x e.hart Answer.Freed e.stamp,
      ap (λ (n : Cluster). n.ranks) k.7,
      λ others. (
        k.0,
        k.1,
        k.2,
        k.3,
        k.4,
        k.5,
        k.6,
        to (slice_set others e.rank (told x e.hart Answer.Freed e.stamp)) k.7,
      ),
    )

-- the case of a turn that needs only its rank
alone_case : (old new : Cluster) (e : Step) (x : Rank) (kind : Kind) → IsAlone kind → CaseOf old e x kind new
    → (new ≡ only_told old e x Answer.Alone)
    × ((other : Cluster) → CaseOf other e x kind (only_told other e x Answer.Alone))
alone_case old new e x Kind.Plain is c = (c.2, λ other. (c.0, c.1, refl))
alone_case old new e x Kind.Local is c = (c.2, λ other. (c.0, c.1, refl))
alone_case old new e x Kind.Held is c = (c.2, λ other. (c.0, c.1, refl))
alone_case old new e x Kind.Idle is c = (c.2, λ other. (c.0, c.1, refl))
alone_case old new e x (Kind.Hub r) is c = absurd is
alone_case old new e x Kind.Ready is c = absurd is
alone_case old new e x Kind.Take is c = absurd is
alone_case old new e x Kind.Miss is c = absurd is
alone_case old new e x Kind.Freed is c = absurd is

pub first_alone : (old mid new : Cluster) (e f : Step) → e.rank ≢ f.rank → IsAlone e.kind → Leads old e mid
    → Leads mid f new → (other : Cluster) × Leads old f other × Leads other e new
first_alone old mid new e f apart is one two =
    let x = one.0 in
    let y = two.0 in
    let a = alone_case old mid e x e.kind is one.3 in
    let z = told x e.hart Answer.Alone e.stamp in
    let m = moved mid new f y f.kind refl two.3 in
    let other = with_ranks new (slice_set old.ranks f.rank m.then) in
    let there : slice_get old.ranks f.rank ≡ Some y =
    sym (get-set_other old.ranks e.rank f.rank z apart) ∙ sym (ap (λ (c : Cluster). slice_get c.ranks f.rank) a.0) ∙ two.1 in
    let back : with_ranks mid old.ranks ≡ old = ap (λ c. with_ranks c old.ranks) a.0 in
    let here : slice_get other.ranks e.rank ≡ Some x =
    get-set_other old.ranks f.rank e.rank m.then (λ s. apart (sym s)) ∙ one.1 in
    let end : only_told other e x Answer.Alone ≡ new =
    ap (with_ranks new) (set_apart old.ranks f.rank e.rank m.then z (λ s. apart (sym s))
    ∙ sym (m.ranks ∙ ap (λ (c : Cluster). slice_set c.ranks f.rank m.then) a.0)) in (
      other,
      (y, there, two.2, subst (λ c. CaseOf c f y f.kind other) back (m.does old.ranks)),
      (x, here, one.2, subst (λ c. CaseOf other e x e.kind c) end (a.1 other)),
    )

pub second_alone : (old mid new : Cluster) (e f : Step) → e.rank ≢ f.rank → IsAlone f.kind → Leads old e mid
    → Leads mid f new → (other : Cluster) × Leads old f other × Leads other e new
second_alone old mid new e f apart is one two =
    let x = one.0 in
    let y = two.0 in
    let b = alone_case mid new f y f.kind is two.3 in
    let w = told y f.hart Answer.Alone f.stamp in
    let m = moved old mid e x e.kind refl one.3 in
    let other = only_told old f y Answer.Alone in
    let there : slice_get old.ranks f.rank ≡ Some y =
    sym (get-set_other old.ranks e.rank f.rank m.then apart) ∙ sym (ap (λ xs. slice_get xs f.rank) m.ranks) ∙ two.1 in
    let here : slice_get other.ranks e.rank ≡ Some x =
    get-set_other old.ranks f.rank e.rank w (λ s. apart (sym s)) ∙ one.1 in
    let end : with_ranks mid (slice_set other.ranks e.rank m.then) ≡ new =
    ap (with_ranks mid) (set_apart old.ranks f.rank e.rank w m.then (λ s. apart (sym s))
    ∙ sym (ap (λ xs. slice_set xs f.rank w) m.ranks))
    ∙ sym b.0 in (
      other,
      (y, there, two.2, b.1 old),
      (x, here, one.2, subst (λ c. CaseOf other e x e.kind c) end (m.does other.ranks)),
    )

pub commute_law : CommuteLaw
commute_law old mid new e f apart is one two =
    let v = either (step_leads old mid e one) (step_leads mid new f two) is in
    (v.0, below_law old v.0 f v.1 two.3, below_law v.0 new e v.2 one.3)
  where
    either : Leads old e mid → Leads mid f new → IsAlone e.kind ⊎ IsAlone f.kind
        → (other : Cluster) × Leads old f other × Leads other e new
    either one two (inl alone) = first_alone old mid new e f apart alone one two
    either one two (inr alone) = second_alone old mid new e f apart alone one two
