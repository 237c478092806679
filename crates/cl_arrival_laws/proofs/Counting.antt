-- How often a box was taken, or made ready, and how many phases began.
use Rattle.std.specs.Prelude.{ℕ, ◌+◌, List, [], ◌∷◌, ◌++◌, ◌≡◌, ◌≢◌, ◌&&◌, not, Bool, true, false, cond, length}
use Rattle.std.specs.Prelude.{if◌then◌else◌, map}
use Rattle.std.specs.List.{filter_map}
use Rattle.std.proofs.Common.{refl, sym, ap, subst, arith}
use Rattle.std.proofs.lemmas.Bool.{eq-eqb}
use Rattle.std.proofs.lemmas.Bool.Decides.{eqb_tells}
use mathlib.Core.Logic.{inl, inr}
use Rattle.cl_state.specs.Rank.{Rank}
use Rattle.cl_deeds.specs.Deeds.{Act, Deed, RankMoves}
use Rattle.cl_deeds.specs.Alone.{IsAlone}
use Rattle.cl_machine.specs.Boxes.{box_number}
use Rattle.cl_machine.specs.Joined.{got_of, made_of, thing_of}
use Rattle.cl_machine.specs.Parts.{is_index}
use Rattle.cl_machine.specs.Product.{box_at}
use Rattle.cl_arrival_laws.specs.Arrival.{told_of, begun_between, phases_begun}
use Rattle.cl_arrival_laws.specs.Laws.{made_at, taken_at}

-- a phase begins where none was going on, and now one is
abbrev pub edge : Bool → Bool → ℕ
edge a b = if not a && b then 1 else 0

pub no_edge : (a : Bool) → edge a a ≡ 0
no_edge true = refl
no_edge false = refl

-- ---- one deed

-- how often one deed takes from a box, and how often it makes something ready there
abbrev pub takes : ℕ → Deed → ℕ
takes b d = length (taken_at b (d ∷ []))

abbrev pub makes : ℕ → Deed → ℕ
makes b d = length (made_at b (d ∷ []))

module _ (r h s : ℕ) where
  abbrev pub deed : Act → Deed
  deed a = record { rank = r; hart = h; stamp = s; act = a }

  pub takes_one : (b link box gate : ℕ) (bytes : List ℕ) → box_number link box ≡ b
      → takes b (deed (Act.Take link box gate bytes)) ≡ 1
  takes_one b link box gate bytes is =
      ap (λ c. length (map thing_of (filter_map got_of (cond c (deed (Act.Take link box gate bytes) ∷ []) []))))
      (eq-eqb (box_number link box) b is)

  pub takes_none : (b link box gate : ℕ) (bytes : List ℕ) → box_number link box ≢ b
      → takes b (deed (Act.Take link box gate bytes)) ≡ 0
  takes_none b link box gate bytes other =
      elim (eqb_tells (box_number link box) b) [
        | inl t ↦ absurd (other t.1)
        | inr f ↦ ap
            (λ c. length (map thing_of (filter_map got_of (cond c (deed
            (Act.Take link box gate bytes) ∷ []) [])))) f.0
      ]

  pub makes_one : (b link part : ℕ) (bytes : List ℕ) → box_number link part ≡ b
      → makes b (deed (Act.Ready link part bytes)) ≡ 1
  makes_one b link part bytes is =
      ap (λ c. length (filter_map made_of (cond c (deed (Act.Ready link part bytes) ∷ []) [])))
      (eq-eqb (box_number link part) b is)

  pub makes_none : (b link part : ℕ) (bytes : List ℕ) → box_number link part ≢ b
      → makes b (deed (Act.Ready link part bytes)) ≡ 0
  makes_none b link part bytes other =
      elim (eqb_tells (box_number link part) b) [
        | inl t ↦ absurd (other t.1)
        | inr f ↦ ap (λ c. length (filter_map made_of (cond c (deed (Act.Ready link part bytes) ∷ []) []))) f.0
      ]

-- where what a deed gives is nothing
pub takes_nothing : (b : Bool) (d : Deed) → filter_map got_of (d ∷ []) ≡ []
    → length (map thing_of (filter_map got_of (cond b (d ∷ []) []))) ≡ 0
takes_nothing true d none = ap (λ xs. length (map thing_of xs)) none
takes_nothing false d none = refl

pub makes_nothing : (b : Bool) (d : Deed) → filter_map made_of (d ∷ []) ≡ []
    → length (filter_map made_of (cond b (d ∷ []) [])) ≡ 0
makes_nothing true d none = ap length none
makes_nothing false d none = refl

-- ---- a deed and those after it

got_cond : (b : Bool) (d : Deed) (ds : List Deed)
    → length (map thing_of (filter_map got_of (cond b (d ∷ ds) ds)))
    ≡ length (map thing_of (filter_map got_of (cond b (d ∷ []) []))) + length (map thing_of (filter_map got_of ds))
got_cond true d ds = go d.act
  where
    go : (a : Act)
        → length (map thing_of (filter_map got_of (record d { act = a } ∷ ds)))
        ≡ length (map thing_of (filter_map got_of (record d { act = a } ∷ []))) + length (map thing_of
        (filter_map got_of ds))
    go (Act.Take link box gate bytes) = omega arith
    go _ = omega arith
got_cond false d ds = omega arith

made_cond : (b : Bool) (d : Deed) (ds : List Deed)
    → length (filter_map made_of (cond b (d ∷ ds) ds))
    ≡ length (filter_map made_of (cond b (d ∷ []) [])) + length (filter_map made_of ds)
made_cond true d ds = go d.act
  where
    go : (a : Act)
        → length (filter_map made_of (record d { act = a } ∷ ds))
        ≡ length (filter_map made_of (record d { act = a } ∷ [])) + length (filter_map made_of ds)
    go (Act.Ready link part bytes) = omega arith
    go _ = omega arith
made_cond false d ds = omega arith

-- ---- along a run

pub one_more_deed : (ds : List Deed) (start old new : Rank) (d : Deed) → IsAlone start ds old → RankMoves old d new
    → IsAlone start (ds ++ d ∷ []) new
one_more_deed [] start old new d run move = (new, subst (λ (x : Rank). RankMoves x d new) run move, refl)
one_more_deed (x ∷ ds) start old new d run move = (run.0, run.1, one_more_deed ds run.0 old new d run.2 move)

module _ (P : Rank → ℕ → ℕ → Type 0) (going : Rank → Bool) where
  abbrev Steps : (Deed → ℕ) → Type 0
  Steps counted = (old new : Rank) (d : Deed) (n c : ℕ) → RankMoves old d new → P old n c
      → P new (n + begun_between going old new) (c + counted d)

  -- what holds of a rank, how many phases began and how often something was done holds after each run, if each deed
  -- keeps it
  along : (count : List Deed → ℕ) (counted : Deed → ℕ) → count [] ≡ 0
      → ((d : Deed) (ds : List Deed) → count (d ∷ ds) ≡ counted d + count ds)
      → Steps counted → (ds : List Deed) (old new : Rank) (n c : ℕ) → IsAlone old ds new → P old n c
      → P new (n + phases_begun going old ds) (c + count ds)
  along count counted none more step [] old new n c run h =
      subst (λ (r : Rank). P r (n + 0) (c + count [])) (sym run)
      (subst (λ m. P old m (c + count [])) (let e : n ≡ n + 0 = omega arith in e)
      (subst (λ m. P old n m) (let e : c ≡ c + count [] = omega (arith, none) in e) h))
  along count counted none more step (d ∷ ds) old new n c run h =
      let is = run.1.4 in
      let rest = along count counted none more step ds (told_of old d) new (n + begun_between going old (told_of old d))
      (c + counted d) (subst (λ (r : Rank). IsAlone r ds new) is run.2)
      (step old (told_of old d) d n c (subst (λ (r : Rank). RankMoves old d r) is run.1) h) in
      subst (λ m. P new m (c + count (d ∷ ds)))
      (let e : n + begun_between going old (told_of old d) + phases_begun going (told_of old d) ds
      ≡ n + (begun_between going old (told_of old d) + phases_begun going (told_of old d) ds) = omega arith in e)
      (subst (λ m. P new (n + begun_between going old (told_of old d) + phases_begun going (told_of old d) ds) m)
      (let e : c + counted d + count ds ≡ c + count (d ∷ ds) = omega (arith, more d ds) in e) rest)

  pub along_takes : (b : ℕ) → Steps (takes b) → (ds : List Deed) (old new : Rank) → IsAlone old ds new → P old 0 0
      → P new (phases_begun going old ds) (length (taken_at b ds))
  along_takes b step ds old new run h =
      subst (λ m. P new m (length (taken_at b ds)))
      (let e : 0 + phases_begun going old ds ≡ phases_begun going old ds = omega arith in e)
      (subst (λ m. P new (0 + phases_begun going old ds) m) (let e : 0 + length (taken_at b ds) ≡ length
      (taken_at b ds) = omega arith in e)
      (along (λ ds. length (taken_at b ds)) (takes b) refl (λ d ds. got_cond (is_index b
      (box_at d)) d _) step ds old new 0 0 run h))

  pub along_makes : (b : ℕ) → Steps (makes b) → (ds : List Deed) (old new : Rank) → IsAlone old ds new → P old 0 0
      → P new (phases_begun going old ds) (length (made_at b ds))
  along_makes b step ds old new run h =
      subst (λ m. P new m (length (made_at b ds)))
      (let e : 0 + phases_begun going old ds ≡ phases_begun going old ds = omega arith in e)
      (subst (λ m. P new (0 + phases_begun going old ds) m) (let e : 0 + length (made_at b ds) ≡ length
      (made_at b ds) = omega arith in e)
      (along (λ ds. length (made_at b ds)) (makes b) refl (λ d ds. made_cond (is_index b
      (box_at d)) d _) step ds old new 0 0 run h))
