-- Ranks that are named one after the other, each new, are distinct ranks of the image, and the other way.
use Rattle.std.proofs.Common.{◌≡◌, ℕ, ◌<◌, Bool, true, false, not, ltb, eqb, List, [], ◌∷◌, ◌++◌, refl, sym, subst, ◌∙◌, append_assoc, arith, All}
use Rattle.std.specs.Prelude.{nat_eq}
use Rattle.std.specs.List.{list_any, IsDistinct, AllByRecursion}
use Rattle.std.proofs.lemmas.Bool.{and_parts, ltb-true, lt-ltb}
use Rattle.std.proofs.lemmas.Cmp.{nat_eq_equiv}
use Rattle.std.proofs.lemmas.List.{append-nil}
use Rattle.std.proofs.lemmas.Map.Made.{IsDistinct-from_count, distinct_count-le}
use Rattle.std.proofs.lemmas.Map.Keys.{IsDistinct-push, IsDistinct-head, IsDistinct-tail}
use Rattle.std.proofs.lemmas.List.Elements.{All-from_recursion, recursion_from_All}
use Rattle.rv_image.specs.Reading.{is_new_rank}

-- each is right after those before it
abbrev pub AllAfter : {A : Type 0} → (List A → A → Type 0) → List A → List A → Type 0
AllAfter Right before [] = Unit {0}
AllAfter Right before (x ∷ xs) = Right before x × AllAfter Right (before ++ x ∷ []) xs

-- where what stands before doesn't matter, each is right
pub AllAfter-alone : {A : Type 0} (P : A → Type 0) (before xs : List A) → AllAfter (λ _ x. P x) before xs → All P xs
AllAfter-alone {A = A} P before xs all = All-from_recursion P xs (each before xs all)
  where
    each : (before xs : List A) → AllAfter (λ _ x. P x) before xs → AllByRecursion P xs
    each before [] all = tt
    each before (x ∷ xs) all = (all.0, each (before ++ x ∷ []) xs all.1)

pub alone-AllAfter : {A : Type 0} (P : A → Type 0) (before xs : List A) → All P xs → AllAfter (λ _ x. P x) before xs
alone-AllAfter {A = A} P before xs all = each before xs (recursion_from_All P xs all)
  where
    each : (before xs : List A) → AllByRecursion P xs → AllAfter (λ _ x. P x) before xs
    each before [] all = tt
    each before (x ∷ xs) all = (all.0, each (before ++ x ∷ []) xs all.1)

abbrev pub IsNewRank : ℕ → List ℕ → ℕ → Type 0
IsNewRank ranks named rank = is_new_rank ranks named rank ≡ true

pub AllAfter-there : (ranks : ℕ) (before xs : List ℕ) → AllAfter (IsNewRank ranks) before xs → All (λ rank. rank < ranks) xs
AllAfter-there ranks before xs all = All-from_recursion (λ rank. rank < ranks) xs (each before xs all)
  where
    each : (before xs : List ℕ) → AllAfter (IsNewRank ranks) before xs → AllByRecursion (λ rank. rank < ranks) xs
    each before [] all = tt
    each before (x ∷ xs) all = (ltb-true x ranks (and_parts (ltb x ranks) (not (list_any (λ other. eqb other x) before)) all.0).0, each (before ++ x ∷ []) xs all.1)

pub not_true : (b : Bool) → not b ≡ true → b ≡ false
not_true true e = absurd cc
not_true false e = refl

-- whichever way round the two are compared
any_turned : (xs : List ℕ) (y : ℕ) → list_any (nat_eq y) xs ≡ list_any (λ other. eqb other y) xs
any_turned [] y = refl
any_turned (x ∷ xs) y = rw (nat_eq_equiv.symm y x, any_turned xs y) refl

pub nothing_distinct : IsDistinct nat_eq []
nothing_distinct = IsDistinct-from_count nat_eq_equiv [] (omega (arith, distinct_count-le nat_eq []))

pub AllAfter-distinct : (ranks : ℕ) (before xs : List ℕ) → IsDistinct nat_eq before → AllAfter (IsNewRank ranks) before xs → IsDistinct nat_eq (before ++ xs)
AllAfter-distinct ranks before [] distinct all = subst (λ (l : List ℕ). IsDistinct nat_eq l) (sym (append-nil before)) distinct
AllAfter-distinct ranks before (x ∷ xs) distinct all =
    let new = not_true (list_any (λ other. eqb other x) before) (and_parts (ltb x ranks) (not (list_any (λ other. eqb other x) before)) all.0).1 in
    subst (λ (l : List ℕ). IsDistinct nat_eq l) (append_assoc before (x ∷ []) xs) (AllAfter-distinct ranks (before ++ x ∷ []) xs (IsDistinct-push nat_eq_equiv before x distinct (any_turned before x ∙ new)) all.1)

all_middle : (P : ℕ → Type 0) (xs : List ℕ) (y : ℕ) (zs : List ℕ) → AllByRecursion P (xs ++ y ∷ zs) → P y
all_middle P [] y zs all = all.0
all_middle P (x ∷ xs) y zs all = all_middle P xs y zs all.1

distinct_new : (before : List ℕ) (x : ℕ) (xs : List ℕ) → IsDistinct nat_eq (before ++ x ∷ xs) → list_any (λ other. eqb other x) before ≡ false
distinct_new [] x xs distinct = refl
distinct_new (b ∷ before) x xs distinct = rw (all_middle (λ z. eqb b z ≡ false) before x xs (IsDistinct-head nat_eq b (before ++ x ∷ xs) distinct), distinct_new before x xs (IsDistinct-tail nat_eq b (before ++ x ∷ xs) distinct)) refl

pub distinct-AllAfter : (ranks : ℕ) (before xs : List ℕ) → All (λ rank. rank < ranks) xs → IsDistinct nat_eq (before ++ xs) → AllAfter (IsNewRank ranks) before xs
distinct-AllAfter ranks before xs there distinct = each before xs (recursion_from_All (λ rank. rank < ranks) xs there) distinct
  where
    each : (before xs : List ℕ) → AllByRecursion (λ rank. rank < ranks) xs → IsDistinct nat_eq (before ++ xs) → AllAfter (IsNewRank ranks) before xs
    each before [] there distinct = tt
    each before (x ∷ xs) there distinct = (
      rw (lt-ltb x ranks there.0, distinct_new before x xs distinct) refl,
      each (before ++ x ∷ []) xs there.1 (subst (λ (l : List ℕ). IsDistinct nat_eq l) (sym (append_assoc before (x ∷ []) xs)) distinct),
    )
