-- What is known of the deeds of one rank that a run leaves.
use Rattle.std.specs.Prelude.{ℕ, zero, suc, ◌<◌, ◌≤◌, List, [], ◌∷◌, ◌++◌, ◌≡◌, ◌⊎◌, Bool}
use Rattle.std.specs.Prelude.{true, false, cond, length, map}
use Rattle.std.specs.List.{slice_get, filter, AllByRecursion}
use Rattle.std.specs.declared.option.Option.{Option}
use Rattle.std.specs.declared.option.Option.TheVariants.{None, Some}
use Rattle.std.proofs.Common.{refl, sym, ap, ◌∙◌, subst, arith}
use Rattle.std.proofs.lemmas.Bool.{cases_lt}
use Rattle.std.proofs.lemmas.Option.{slice_get_past, slice_get-map}
use Rattle.std.proofs.lemmas.List.{length-append}
use Rattle.std.specs.Option.{option_map}
use mathlib.Core.Logic.{inl, inr}
use Rattle.rv_image_types.specs.declared.images.ImageParts.{ImageParts}
use Rattle.rv_image_types.specs.declared.images.Link.{Link}
use Rattle.cl_state.specs.Rank.{Rank, below, loaded}
use Rattle.cl_deeds.specs.Deeds.{Act, Deed, IsStamp, PartRun, RankMoves}
use Rattle.cl_machine.specs.Joined.{OnItsSide}
use Rattle.cl_machine.specs.Order.{of_rank}
use Rattle.cl_machine.specs.Parts.{PartRunAt, own}
use Rattle.cl_machine.specs.Product.{box_at}
use Rattle.cl_machine.proofs.Law.{rank_rises}
use Rattle.cl_machine.proofs.Lists.{All-filter}
use Rattle.cl_machine.proofs.Views.{Rises}
use Rattle.cl_box_laws.specs.Gates.{Gate, KeepsGate}
use Rattle.cl_box_laws.proofs.Kept.{gates_kept}
use Rattle.cl_stamp_laws.proofs.Boxing.{GatePassed}

-- the deeds of one rank, in their order
abbrev pub deeds_of : ℕ → List Deed → List Deed
deeds_of r ds = of_rank (λ (d : Deed). d.rank) r ds

Rises-cond : (b : Bool) (d : Deed) (ds : List Deed) → AllByRecursion (λ (x : Deed). d.stamp < x.stamp) ds → Rises ds
    → Rises (cond b (d ∷ ds) ds)
Rises-cond true d ds h k = (h, k)
Rises-cond false d ds h k = k

pub Rises-filter : (p : Deed → Bool) (ds : List Deed) → Rises ds → Rises (filter p ds)
Rises-filter p [] h = tt
Rises-filter p (d ∷ ds) h =
    Rises-cond (p d) d (filter p ds) (All-filter (λ (x : Deed). d.stamp < x.stamp) p ds h.0) (Rises-filter p ds h.1)

-- ---- a run of one rank

passed : (clock stamp : ℕ) (a : Act) → IsStamp clock a stamp → GatePassed stamp a
passed clock stamp (Act.Take link part gate bytes) h = omega (arith, h)
passed clock stamp (Act.Freed link part gate) h = omega (arith, h)
passed clock stamp Act.Plain h = tt
passed clock stamp Act.Local h = tt
passed clock stamp (Act.Hub at request reply) h = tt
passed clock stamp (Act.Ready link part bytes) h = tt
passed clock stamp (Act.Miss link part) h = tt
passed clock stamp Act.Held h = tt
passed clock stamp Act.Idle h = tt

all_passed : (ds : List Deed) (old new : Rank) → PartRun RankMoves old ds new
    → AllByRecursion (λ (d : Deed). GatePassed d.stamp d.act) ds
all_passed [] old new h = tt
all_passed (d ∷ ds) old new h = (passed old.clock d.stamp d.act h.1.3, all_passed ds h.0 new h.2)

-- what is known of the deeds of one rank
pub record RankFacts (links : List Link) (r : ℕ) (ds : List Deed) : Type 0 where
  pub sides : AllByRecursion (λ (d : Deed). OnItsSide links r d.act) ds
  pub gates : (b : ℕ) → KeepsGate Gate.Unused (own box_at b ds)
  pub rises : Rises ds
  pub above : AllByRecursion (λ (d : Deed). 0 < d.stamp) ds
  pub passes : AllByRecursion (λ (d : Deed). GatePassed d.stamp d.act) ds

no_facts : (links : List Link) (r : ℕ) → RankFacts links r []
no_facts links r = record { sides = tt; gates = λ b. tt; rises = tt; above = tt; passes = tt }

-- each rank starts loaded, or isn't there
pub starts : (image : ImageParts) (n r : ℕ)
    → ((r < n) × (slice_get (map (loaded image) (below n)) r ≡ Some (loaded image r)))
    ⊎ ((n ≤ r) × (slice_get (map (loaded image) (below n)) r ≡ None))
starts image n r =
    elim (cases_lt r n) [
      | inl low ↦ inl
          (low, slice_get-map (loaded image) (below n) r ∙ ap (option_map (loaded image)) (is_below n r low))
      | inr up ↦ inr (up, slice_get-map (loaded image) (below n) r ∙ ap (option_map (loaded image)) (past n r up))
    ]
  where
    size : (m : ℕ) → length (below m) ≡ m
    size zero = refl
    size (suc m) = length-append (below m) (m ∷ []) ∙ (let same = size m in omega (arith, same))

    left : (xs ys : List ℕ) (i : ℕ) → i < length xs → slice_get (xs ++ ys) i ≡ slice_get xs i
    left [] ys i low = absurd (omega (arith, low))
    left (x ∷ xs) ys zero low = refl
    left (x ∷ xs) ys (suc i) low = left xs ys i (omega (arith, low))

    last : (xs : List ℕ) (x : ℕ) → slice_get (xs ++ x ∷ []) (length xs) ≡ Some x
    last [] x = refl
    last (y ∷ xs) x = last xs x

    is_below : (m i : ℕ) → i < m → slice_get (below m) i ≡ Some i
    is_below zero i low = absurd (omega (arith, low))
    is_below (suc m) i low =
        elim (cases_lt i m) [
          | inl less ↦ left (below m) (m ∷ []) i (omega (arith, less, size m)) ∙ is_below m i less
          | inr up ↦ (let same : m ≡ i = omega (arith, low, up) in
              subst (λ k. slice_get (below m ++ m ∷ []) k ≡ Some k) same
              (subst (λ k. slice_get (below m ++ m ∷ []) k ≡ Some m) (size m) (last (below m) m)))
        ]

    past : (m i : ℕ) → m ≤ i → slice_get (below m) i ≡ None
    past m i up = slice_get_past (below m) i (omega (arith, up, size m))

pub facts : (image : ImageParts) (r : ℕ) (ds : List Deed) (o p : Option Rank)
    → (o ≡ Some (loaded image r)) ⊎ (o ≡ None)
    → PartRunAt RankMoves o ds p → RankFacts image.links r ds
facts image r ds o p start run =
    elim start [
      | inl e ↦ some p (subst (λ x. PartRunAt RankMoves x ds p) e run)
      | inr e ↦ none p (subst (λ x. PartRunAt RankMoves x ds p) e run)
    ]
  where
    some : (p : Option Rank) → PartRunAt RankMoves (Some (loaded image r)) ds p → RankFacts image.links r ds
    some (Some new) h =
        let k = gates_kept image r ds new h in
        let up = rank_rises ds (loaded image r) new h in
        record { sides = k.0; gates = k.1; rises = up.1; above = up.0; passes = all_passed ds (loaded image r) new h }
    some None h = absurd h

    none : (p : Option Rank) → PartRunAt RankMoves None ds p → RankFacts image.links r ds
    none (Some new) h = absurd h
    none None h = subst (RankFacts image.links r) (sym h) (no_facts image.links r)
