-- Likeness of clusters is an equivalence, and a reached cluster is alike itself.
use Rattle.std.proofs.Common.{◌≡◌, ℕ, zero, suc, ◌<◌, inl, inr, List, [], ◌∷◌, length, map, Option, Some, None, refl, sym, ap, ◌∙◌, subst, arith}
use Rattle.std.specs.Prelude.{replicate}
use Rattle.std.specs.List.{slice_get, slice_set}
use Rattle.std.specs.Option.{option_map}
use Rattle.std.proofs.lemmas.Bool.{cases_eq}
use Rattle.std.proofs.lemmas.Option.{same_Some}
use Rattle.rv_hart.specs.State.{State, in_mode}
use Rattle.rv_hart.specs.declared.state.Mode.{Mode}
use Rattle.rv_hart.specs.declared.state.Mode.TheVariants.{Running, Waiting, Ended, Trapped}
use Rattle.rv_hart.specs.declared.state.Wait.TheVariants.{Post, Again}
use Rattle.mp_request.specs.declared.entries.OpenRequest.{OpenRequest}
use Rattle.mp_request.specs.declared.entries.Progress.TheVariants.{Finished, Sent, OnPost, InPhase}
use Rattle.mp_request.specs.declared.entries.State.{State as RequestState}
use Rattle.mp_request.specs.declared.entries.State.TheVariants.{Ordinary, Inactive, Active}
use Rattle.mp_request.specs.Table.{Table}
use Rattle.mp_wait_laws.proofs.Sets.{get-set_other}
use Rattle.mp_alike_laws.specs.Renaming.{Renaming, followed_by, no_renaming, number_by, turned}
use Rattle.mp_alike_laws.proofs.Likeness.{hub_back, itself as hub_itself}
use Rattle.cl_state.specs.Rank.{Rank}
use Rattle.cl_state_laws.specs.VainLaws.{at_clock}
use Rattle.cl_names_laws.specs.Named.{hart_by, mode_by, open_by, rank_by, state_by, table_by}
use Rattle.cl_trace.specs.declared.events.Kind.{Kind}
use Rattle.cl_machine.specs.declared.steps.Step.{Step}
use Rattle.cl_machine.specs.Boxes.{Box, Holds, IsEmpty, empty_box, with_made, with_taken}
use Rattle.cl_machine.specs.Cluster.{CaseOf, Cluster, IsRun, loaded_cluster}
use Rattle.cl_order_laws.specs.Alike.{AlikeBoxes, AlikeClusters, AlikeRanks, AreEach, both_empty, both_full, hub_of}
use Rattle.cl_order_laws.specs.Laws.{AreAlike, IsReached, LikenessLaw}
use Rattle.cl_order_laws.proofs.Ahead.{alike_on, rank_on}
use Rattle.cl_order_laws.proofs.Boxes.{made_full}
use Rattle.cl_order_laws.proofs.Covered.{each_on, hubs_on}
use Rattle.cl_order_laws.proofs.Each.{was_there}

-- ---- names that rename nothing

module _ (names : Renaming) (fixed : (n : ℕ) → number_by names n ≡ n) where
  mode_fixed : (m : Mode) → mode_by names m ≡ m
  mode_fixed Running = refl
  mode_fixed (Waiting (Post n)) = ap (λ k. Waiting (Post k)) (fixed n)
  mode_fixed (Waiting Again) = refl
  mode_fixed (Ended code) = refl
  mode_fixed (Trapped cause pc) = refl

  state_fixed : (s : RequestState) → state_by names s ≡ s
  state_fixed (Ordinary Finished) = refl
  state_fixed (Ordinary (Sent n)) = ap (λ k. Ordinary (Sent k)) (fixed n)
  state_fixed (Ordinary (OnPost n)) = ap (λ k. Ordinary (OnPost k)) (fixed n)
  state_fixed (Ordinary InPhase) = refl
  state_fixed Inactive = refl
  state_fixed (Active Finished) = refl
  state_fixed (Active (Sent n)) = ap (λ k. Active (Sent k)) (fixed n)
  state_fixed (Active (OnPost n)) = ap (λ k. Active (OnPost k)) (fixed n)
  state_fixed (Active InPhase) = refl

  harts_fixed : (hs : List State) → map (hart_by names) hs ≡ hs
  harts_fixed [] = refl
  harts_fixed (h ∷ hs) = λ k. in_mode h (mode_fixed h.mode k) ∷ harts_fixed hs k

  open_fixed : (o : Option OpenRequest) → option_map (open_by names) o ≡ o
  open_fixed None = refl
  open_fixed (Some r) =
      ap (λ s. (let q : OpenRequest = record { transfer = r.transfer; state = s } in Some q)) (state_fixed r.state)

  table_fixed : (t : Table) → table_by names t ≡ t
  table_fixed [] = refl
  table_fixed (o ∷ t) = λ k. open_fixed o k ∷ table_fixed t k

  pub rank_fixed : (a : Rank) → rank_by names a ≡ a
  rank_fixed a = λ k. record a { harts = harts_fixed a.harts k; requests = table_fixed a.requests k }

none_fixed : (n : ℕ) → number_by no_renaming n ≡ n
none_fixed zero = refl
none_fixed (suc n) = refl

turned_fixed : (names : Renaming) (n : ℕ) → number_by (followed_by names (turned names)) n ≡ n
turned_fixed names zero = refl
turned_fixed names (suc n) = ap suc (names.there n)

-- a rank is alike itself, with any clock
pub rank_itself : (a : Rank) (clock : ℕ) → AlikeRanks no_renaming a (at_clock a clock)
rank_itself a clock = (clock, ap (λ x. at_clock x clock) (sym (rank_fixed no_renaming none_fixed a)))

rank_back : (names : Renaming) (a b : Rank) → AlikeRanks names a b → AlikeRanks (turned names) b a
rank_back names a b alike = (
  a.clock,
  sym (ap (λ x. at_clock (rank_by (turned names) x) a.clock) alike.1
      ∙ ap (λ x. at_clock x a.clock)
      (rank_on names (turned names) a ∙ rank_fixed (followed_by names (turned names)) (turned_fixed names) a)),
)

-- ---- boxes

box_back : (a b : Box) → AlikeBoxes a b → AlikeBoxes b a
box_back a b (both_empty e f) = both_empty f e
box_back a b (both_full bytes f g) = both_full bytes g f

-- each box is empty, or one thing lies in it
abbrev pub IsSound : Box → Type 0
IsSound box = AlikeBoxes box box

abbrev pub AreSound : List Box → Type 0
AreSound boxes = (i : ℕ) (box : Box) → slice_get boxes i ≡ Some box → IsSound box

sound_set : (boxes : List Box) (n : ℕ) (new : Box) → AreSound boxes → IsSound new → AreSound (slice_set boxes n new)
sound_set boxes n new sound is i box here = elim (cases_eq n i) [
  | inl same ↦
      let w = was_there boxes n new box (subst (λ k. slice_get (slice_set boxes n new) k ≡ Some box) (sym same) here) in
      subst IsSound w.0 is
  | inr other ↦ sound i box (sym (get-set_other boxes n i new other) ∙ here)
]

sound_made : (box : Box) (stamp : ℕ) (bytes : List ℕ) → IsEmpty box → IsSound (with_made box stamp bytes)
sound_made box stamp bytes empty =
    both_full bytes (made_full box stamp bytes empty) (made_full box stamp bytes empty)

sound_taken : (box : Box) (stamp : ℕ) (bytes : List ℕ) → Holds box bytes → IsSound box → IsSound (with_taken box stamp)
sound_taken box stamp bytes holds (both_empty e f) = absurd (not_held box bytes e holds)
  where
    within : {A : Type 0} (xs : List A) (i : ℕ) (x : A) → slice_get xs i ≡ Some x → i < length xs
    within [] i x h = absurd (cc)
    within (y ∷ xs) zero x h = omega arith
    within (y ∷ xs) (suc i) x h = (let p : i < length xs = within xs i x h in omega arith)

    not_held : (box : Box) (bytes : List ℕ) → IsEmpty box → Holds box bytes → ⊥
    not_held box bytes empty holds =
        (let w = within box.made box.taken _ holds in absurd (omega (arith, w, empty)))
sound_taken box stamp bytes holds (both_full others f g) = both_empty f.one f.one

pub sound_case : (old new : Cluster) (e : Step) (rank : Rank) (kind : Kind) → CaseOf old e rank kind new
    → AreSound old.boxes → AreSound new.boxes
sound_case old new e rank Kind.Plain c sound = subst (λ (x : Cluster). AreSound x.boxes) (sym c.2) sound
sound_case old new e rank Kind.Local c sound = subst (λ (x : Cluster). AreSound x.boxes) (sym c.2) sound
sound_case old new e rank Kind.Held c sound = subst (λ (x : Cluster). AreSound x.boxes) (sym c.2) sound
sound_case old new e rank Kind.Idle c sound = subst (λ (x : Cluster). AreSound x.boxes) (sym c.2) sound
sound_case old new e rank (Kind.Hub r) c sound = subst (λ (x : Cluster). AreSound x.boxes) (sym c.4) sound
sound_case old new e rank Kind.Miss c sound = subst (λ (x : Cluster). AreSound x.boxes) (sym c.4) sound
sound_case old new e rank Kind.Freed c sound = subst (λ (x : Cluster). AreSound x.boxes) (sym c.7) sound
sound_case old new e rank Kind.Ready c sound =
    subst (λ (x : Cluster). AreSound x.boxes) (sym c.8)
    (sound_set old.boxes _ _ sound (sound_made c.3 e.stamp c.2 c.6))
sound_case old new e rank Kind.Take c sound =
    subst (λ (x : Cluster). AreSound x.boxes) (sym c.8)
    (sound_set old.boxes _ _ sound (sound_taken c.3 e.stamp c.2 c.6 (sound _ c.3 c.5)))

sound_run : (steps : List Step) (old new : Cluster) → IsRun old steps new → AreSound old.boxes → AreSound new.boxes
sound_run [] old new run sound = subst (λ (x : Cluster). AreSound x.boxes) (sym run) sound
sound_run (e ∷ steps) old new run sound =
    let step = run.1 in
    sound_run steps run.0 new run.2 (sound_case old run.0 e step.0 e.kind step.4 sound)

sound_first : (n : ℕ) → AreSound (replicate n empty_box)
sound_first n i box here = subst IsSound (same n i here) (both_empty refl refl)
  where
    same : (n i : ℕ) → slice_get (replicate n empty_box) i ≡ Some box → empty_box ≡ box
    same zero i h = absurd (cc)
    same (suc n) zero h = same_Some empty_box box h
    same (suc n) (suc i) h = same n i h

pub reached_sound : (a : Cluster) → IsReached a → AreEach AlikeBoxes a.boxes a.boxes
reached_sound a reached = record {
  many = refl;
  each = λ i box here. (box, here, sound_run reached.1 (loaded_cluster reached.0) a reached.2 (sound_first _) i box here);
}

-- ---- clusters

clusters_itself : (a : Cluster) → AreEach AlikeBoxes a.boxes a.boxes → AlikeClusters no_renaming a a
clusters_itself a boxes = record {
  ranks = record { many = refl; each = λ r rank here. (rank, here, rank_itself rank rank.clock) };
  hubs = hub_itself (hub_of a.journal);
  boxes = boxes;
}

pub itself : (a : Cluster) → IsReached a → AlikeClusters no_renaming a a
itself a reached = clusters_itself a (reached_sound a reached)

-- where it is alike itself its boxes are sound
pub sound_of : (a : Cluster) → AreAlike a a → AreSound a.boxes
sound_of a alike i box is =
    let v = ((alike.1).boxes).each i box is in subst (AlikeBoxes box) (same_Some v.0 box (sym v.1 ∙ is)) v.2

pub alike_itself : (a : Cluster) → AreSound a.boxes → AreAlike a a
alike_itself a sound = (
  no_renaming,
  clusters_itself a (record { many = refl; each = λ i box here. (box, here, sound i box here) }),
)

pub within_list : {A : Type 0} (xs ys : List A) → length ys ≡ length xs → (i : ℕ) (x : A) → slice_get xs i ≡ Some x
    → (y : A) × (slice_get ys i ≡ Some y)
within_list [] ys many i x h = absurd (cc)
within_list (z ∷ xs) [] many i x h = absurd (omega (arith, many))
within_list (z ∷ xs) (y ∷ ys) many zero x h = (y, refl)
within_list (z ∷ xs) (y ∷ ys) many (suc i) x h = within_list xs ys (omega (arith, many)) i x h

-- what a corresponding one comes from
pub each_from : {A : Type 0} {R : A → A → Type 0} {xs ys : List A} → AreEach R xs ys → (i : ℕ) (y : A)
    → slice_get ys i ≡ Some y → (x : A) × (slice_get xs i ≡ Some x) × R x y
each_from {R = R} {xs = xs} {ys = ys} are i y here =
    let x = within_list ys xs (sym are.many) i y here in
    let v = are.each i x.0 x.1 in
    (x.0, x.1, subst (R x.0) (same_Some v.0 y (sym v.1 ∙ here)) v.2)

each_back : {A : Type 0} (R S : A → A → Type 0) (xs ys : List A) → ((x y : A) → R x y → S y x) → AreEach R xs ys
    → AreEach S ys xs
each_back R S xs ys turns are = record {
  many = sym are.many;
  each = λ i y here.
      let x = within_list ys xs (sym are.many) i y here in
      let v = are.each i x.0 x.1 in
      (x.0, x.1, subst (λ q. S q x.0) (same_Some v.0 y (sym v.1 ∙ here)) (turns x.0 v.0 v.2));
}

pub clusters_back : (names : Renaming) (a b : Cluster) → AlikeClusters names a b → AlikeClusters (turned names) b a
clusters_back names a b f = record {
  ranks = each_back (AlikeRanks names) (AlikeRanks (turned names)) a.ranks b.ranks (rank_back names) f.ranks;
  hubs = hub_back names (hub_of a.journal) (hub_of b.journal) f.hubs;
  boxes = each_back AlikeBoxes AlikeBoxes a.boxes b.boxes box_back f.boxes;
}

back : (a b : Cluster) → AreAlike a b → AreAlike b a
back a b alike = (turned alike.0, clusters_back alike.0 a b alike.1)

on : (a b c : Cluster) → AreAlike a b → AreAlike b c → AreAlike a c
on a b c one two =
    let f = one.1 in
    let g = two.1 in (
      followed_by one.0 two.0,
      record {
        ranks = record {
          many = (g.ranks).many ∙ (f.ranks).many;
          each = λ r rank here.
              let v = (f.ranks).each r rank here in
              let w = (g.ranks).each r v.0 v.1 in
              (w.0, w.1, alike_on one.0 two.0 rank v.0 w.0 v.2 w.2);
        };
        hubs = hubs_on one.0 two.0 (hub_of a.journal) (hub_of b.journal) (hub_of c.journal) f.hubs g.hubs;
        boxes = each_on a.boxes b.boxes c.boxes f.boxes g.boxes;
      },
    )

pub likeness_law : LikenessLaw
likeness_law = record {
  itself = λ a reached. (no_renaming, itself a reached);
  back = back;
  on = on;
}
