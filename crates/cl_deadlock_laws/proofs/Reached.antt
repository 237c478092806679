-- A cluster that was reached from an image: it has as many ranks, each of which came there alone with as many harts as
-- the image says, and it has the image's links.
use Rattle.std.specs.Prelude.{ℕ, zero, suc, ◌≡◌, ◌⊎◌, List, [], ◌∷◌, ◌++◌, length, map, Option, Some, None}
use Rattle.std.specs.Prelude.{slice_get, slice_set}
use Rattle.std.proofs.Common.{refl, sym, ap, ◌∙◌, subst, inl, inr, arith}
use Rattle.std.proofs.lemmas.Bool.{cases_eq}
use Rattle.std.proofs.lemmas.List.{length-append, length-map, length-set}
use Rattle.std.proofs.lemmas.Option.{same_Some}
use Rattle.rv_hart.specs.State.{start_state}
use Rattle.rv_image_types.specs.declared.images.ImageParts.{ImageParts}
use Rattle.cl_journal.specs.declared.entries.Entry.{Entry}
use Rattle.cl_deeds.specs.Deeds.{Deed, RankMoves}
use Rattle.cl_deeds.specs.Alone.{IsAlone}
use Rattle.cl_state.specs.Rank.{Rank, below, loaded, start_harts}
use Rattle.cl_state.proofs.Moves.{told_at}
use Rattle.cl_machine.specs.declared.steps.Step.{Step}
use Rattle.cl_machine.specs.Cluster.{Cluster, IsRun, IsStep, loaded_cluster}
use Rattle.cl_machine.specs.Journal.{Journal}
use Rattle.cl_machine.specs.Product.{entry_of}
use Rattle.cl_machine.specs.ProductSteps.{Goes, JournalMoves, PartsStep}
use Rattle.cl_machine.proofs.Lists.{get-set_other, get-set_same}
use Rattle.cl_machine.proofs.Tables.{table_law}

pub record Comes (image : ImageParts) (cluster : Cluster) : Type 0 where
  pub count : length cluster.ranks ≡ image.ranks
  pub alone : (r : ℕ) (rank : Rank) → slice_get cluster.ranks r ≡ Some rank
      → (ds : List Deed) × IsAlone (loaded image r) ds rank
  pub links : cluster.journal.links ≡ image.links

-- ---- the loaded cluster

snoc_at : {X : Type 0} (xs : List X) (x y : X) (i : ℕ) → slice_get (xs ++ x ∷ []) i ≡ Some y
    → (slice_get xs i ≡ Some y) ⊎ ((i ≡ length xs) × (y ≡ x))
snoc_at [] x y zero h = inr (refl, sym (same_Some x y h))
snoc_at [] x y (suc i) h = absurd (cc)
snoc_at (z ∷ xs) x y zero h = inl h
snoc_at (z ∷ xs) x y (suc i) h = elim (snoc_at xs x y i h) [
  | inl old ↦ inl old
  | inr new ↦ inr (ap suc new.0, new.1)
]

below_length : (n : ℕ) → length (below n) ≡ n
below_length zero = refl
below_length (suc n) = (let e = below_length n in snoc (below n) n ∙ ap suc e)
  where
    snoc : (xs : List ℕ) (x : ℕ) → length (xs ++ x ∷ []) ≡ suc (length xs)
    snoc [] x = refl
    snoc (y ∷ xs) x = ap suc (snoc xs x)

below_at : (n i k : ℕ) → slice_get (below n) i ≡ Some k → k ≡ i
below_at zero i k h = absurd (cc)
below_at (suc n) i k h = elim (snoc_at (below n) n k i h) [
  | inl old ↦ below_at n i k old
  | inr new ↦ new.1 ∙ sym (new.0 ∙ below_length n)
]

map_at : (f : ℕ → Rank) (xs : List ℕ) (i : ℕ) (rank : Rank) → slice_get (map f xs) i ≡ Some rank
    → (k : ℕ) × (slice_get xs i ≡ Some k) × (rank ≡ f k)
map_at f [] i rank h = absurd (cc)
map_at f (x ∷ xs) zero rank h = (x, refl, sym (same_Some (f x) rank h))
map_at f (x ∷ xs) (suc i) rank h = map_at f xs i rank h

comes_loaded : (image : ImageParts) → Comes image (loaded_cluster image)
comes_loaded image = record {
  count = length-map (below image.ranks) (loaded image) ∙ below_length image.ranks;
  alone = λ r rank there.
      let m = map_at (loaded image) (below image.ranks) r rank there in
      ([], m.2 ∙ ap (loaded image) (below_at image.ranks r m.0 m.1));
  links = refl;
}

-- ---- a step

pub more_deeds : (ds : List Deed) (start old new : Rank) (d : Deed) → IsAlone start ds old → RankMoves old d new
    → IsAlone start (ds ++ d ∷ []) new
more_deeds [] start old new d run move = (new, subst (λ (x : Rank). RankMoves x d new) run move, refl)
more_deeds (x ∷ ds) start old new d run move = (run.0, run.1, more_deeds ds run.0 old new d run.2 move)

pub same_links : (old new : Journal) (entry : Option Entry) → JournalMoves old entry new → new.links ≡ old.links
same_links old new None moves = ap (λ (j : Journal). j.links) moves
same_links old new (Some entry) moves = ap (λ (j : Journal). j.links) moves.2

pub comes_on : (image : ImageParts) (old : Cluster) (d : Deed) (new : Cluster) → Comes image old → Goes old d new
    → Comes image new
comes_on image old d new comes goes = record {
  count = ap (λ (rs : List Rank). length rs) (goes.0).4 ∙ (length-set old.ranks d.rank (goes.0).1 ∙ comes.count);
  alone = λ r rank there. by_rank r rank (sym (ap (λ rs. slice_get rs r) (goes.0).4) ∙ there);
  links = same_links old.journal new.journal (entry_of d) goes.1 ∙ comes.links;
}
  where
    by_rank : (r : ℕ) (rank : Rank) → slice_get (slice_set old.ranks d.rank (goes.0).1) r ≡ Some rank
        → (ds : List Deed) × IsAlone (loaded image r) ds rank
    by_rank r rank there = elim (cases_eq d.rank r) [
      | inl same ↦
          let before = comes.alone d.rank (goes.0).0 (goes.0).2 in
          let at : slice_get (slice_set old.ranks d.rank (goes.0).1) d.rank ≡ Some (goes.0).1 =
          get-set_same old.ranks d.rank (goes.0).0 (goes.0).1 (goes.0).2 in
          let is : (goes.0).1 ≡ rank =
          same_Some (goes.0).1 rank
          (sym at ∙ subst (λ k. slice_get (slice_set old.ranks d.rank (goes.0).1) k ≡ Some rank) (sym same) there) in (
            before.0 ++ d ∷ [],
            subst (λ k. IsAlone (loaded image k) (before.0 ++ d ∷ []) rank) same
                (subst (λ (x : Rank). IsAlone (loaded image d.rank) (before.0 ++ d ∷ []) x) is
                (more_deeds before.0 (loaded image d.rank) (goes.0).0 (goes.0).1 d before.1 (goes.0).3)),
          )
      | inr other ↦ comes.alone r rank (sym (get-set_other old.ranks d.rank r (goes.0).1 other) ∙ there)
    ]

-- a step is that of a deed
pub deed_of : (old : Cluster) (e : Step) (new : Cluster) → IsStep old e new → PartsStep old e new
deed_of old e new is = (table_law old e new).1 is

pub comes_step : (image : ImageParts) (old : Cluster) (e : Step) (new : Cluster) → Comes image old → IsStep old e new
    → Comes image new
comes_step image old e new comes is = (let p = deed_of old e new is in comes_on image old p.0 new comes p.2)

comes_from : (image : ImageParts) (steps : List Step) (old new : Cluster) → Comes image old → IsRun old steps new
    → Comes image new
comes_from image [] old new comes run = subst (λ (x : Cluster). Comes image x) (sym run) comes
comes_from image (e ∷ es) old new comes run =
    comes_from image es run.0 new (comes_step image old e run.0 comes run.1) run.2

pub comes_reached : (image : ImageParts) (steps : List Step) (cluster : Cluster)
    → IsRun (loaded_cluster image) steps cluster → Comes image cluster
comes_reached image steps cluster run = comes_from image steps (loaded_cluster image) cluster (comes_loaded image) run

-- ---- what the image fixes

site_from : (ds : List Deed) (old new : Rank) → IsAlone old ds new → new.site ≡ old.site
site_from [] old new run = ap (λ (x : Rank). x.site) run
site_from (d ∷ ds) old new run =
    site_from ds run.0 new run.2
    ∙ ap (λ (x : Rank). x.site) ((run.1).4) ∙ (told_at old d.hart _ d.stamp).site

pub same_site : (image : ImageParts) (r : ℕ) (ds : List Deed) (rank : Rank) → IsAlone (loaded image r) ds rank
    → rank.site ≡ (loaded image r).site
same_site image r ds rank run = site_from ds (loaded image r) rank run

started : (image : ImageParts) (r n : ℕ) → length (start_harts image r n) ≡ n
started image r zero = refl
started image r (suc n) =
    let less = started image r n in
    omega (arith, less, length-append (start_harts image r n) (start_state image.entry image.memory n r ∷ []))

harts_from : (ds : List Deed) (old new : Rank) → IsAlone old ds new → length new.harts ≡ length old.harts
harts_from [] old new run = ap (λ (x : Rank). length x.harts) run
harts_from (d ∷ ds) old new run =
    harts_from ds run.0 new run.2
    ∙ (ap (λ (x : Rank). length x.harts) ((run.1).4) ∙ (told_at old d.hart _ d.stamp).harts)

pub same_harts : (image : ImageParts) (r : ℕ) (ds : List Deed) (rank : Rank) → IsAlone (loaded image r) ds rank
    → length rank.harts ≡ image.harts
same_harts image r ds rank run = harts_from ds (loaded image r) rank run ∙ started image r image.harts
