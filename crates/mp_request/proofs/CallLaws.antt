-- What calls make of requests.
use Rattle.std.proofs.Common.{◌≡◌, inl, inr, ℕ, zero, suc, ◌<◌, Bool, true, false, not, ◌&&◌, List, [], ◌∷◌, get_or, set, replicate, Option, Some, None, refl, sym, ap, ◌∙◌, arith}
use Rattle.std.specs.Prelude.{◌==◌, ◌||◌, cond, filter, slice_get, option_map, option_and_then}
use Rattle.std.specs.List.{list_all, list_any}
use Rattle.std.specs.Option.{option_map_or}
use Rattle.std.proofs.lemmas.Bool.{cases_lt, eq-eqb, eqb-true}
use Rattle.std.proofs.lemmas.List.{get_or-set_same, get_or_past, set-get_or, set-set}
use Rattle.mp_request.specs.declared.entries.OpenRequest.{OpenRequest}
use Rattle.mp_request.specs.declared.entries.Transfer.{Transfer}
use Rattle.mp_request.specs.declared.entries.Transfer.TheVariants as transfer
use Rattle.mp_request.specs.CallLaws.{IsTestable, IsWhole, NothingLaw, RoundLaw, TestLaw}
use Rattle.mp_request.specs.Entries.{active_with, is_active, is_partitioned, remainder}
use Rattle.mp_request.specs.Table.{Table, has, is_distinct, is_testable, no_requests, request_at}
use Rattle.mp_request.proofs.Distinct.{found_alike}

-- ---- what names nothing

none_at : (n i : ℕ) → get_or {A = Option OpenRequest} (replicate n None) i None ≡ None
none_at zero i = refl
none_at (suc n) zero = refl
none_at (suc n) (suc i) = none_at n i

pub nothing : NothingLaw
nothing = record {
  null = λ table. refl;
  null_started = λ table progress. refl;
  null_completed = λ table. refl;
  handles = refl;
  new = new;
  stateless = λ test table handle none. ap (λ o. option_map_or (λ request. test request.state) o false) none;
}
  where
    new : (handle : ℕ) → request_at no_requests handle ≡ None
    new zero = refl
    new (suc place) = none_at 255 place

-- ---- a persistent request goes round

none_some : {A : Type 0} (x : A) → None ≡ Some x → ⊥
none_some x e = cc

pub round : RoundLaw
round table zero transfer progress long is = absurd (none_some _ is)
round table (suc place) transfer progress long is =
    ap (λ o. set (set table place begun) place (option_and_then remainder o)) was_set
    ∙ (set-set table place begun (option_and_then remainder begun)
    ∙ (ap (set table place) again ∙ set-get_or table place None))
  where
    begun : Option OpenRequest
    begun = option_map (active_with progress) (get_or table place None)

    within : place < 255
    within = elim (cases_lt place 255) [
      | inl low ↦ low
      | inr high ↦ absurd (none_some _ (sym (get_or_past table place None (omega (arith, high, long))) ∙ is))
    ]

    was_set : get_or (set table place begun) place None ≡ begun
    was_set = get_or-set_same table place begun None (omega (arith, within, long))

    again : option_and_then remainder begun ≡ get_or table place None
    again = ap (λ o. option_and_then remainder (option_map (active_with progress) o)) is ∙ sym is

-- ---- several requests

both : (a b : Bool) → (a && b) ≡ true → (a ≡ true) × (b ≡ true)
both true b e = (refl, e)
both false b e = cc

and_is : (a b : Bool) → a ≡ true → b ≡ true → (a && b) ≡ true
and_is a b first second = rw first second

not_true : (b : Bool) → not b ≡ true → b ≡ false
not_true true e = cc
not_true false e = refl

is_not : (b : Bool) → (b ≡ true → ⊥) → not b ≡ true
is_not true never = absurd (never refl)
is_not false never = refl

off : (b : Bool) → b ≡ true → b ≡ false → ⊥
off b holds fails = cc

-- a number that stands in a list is found there, and the other way round
found : (x : ℕ) (xs : List ℕ) (i : ℕ) → slice_get xs i ≡ Some x → list_any (λ y. y == x) xs ≡ true
found x [] i e = absurd (none_some x e)
found x (y ∷ xs) zero e = let same : y ≡ x = cc in ap (λ b. b || list_any (λ y. y == x) xs) (eq-eqb y x same)
found x (y ∷ xs) (suc i) e = either (y == x) (list_any (λ y. y == x) xs) (found x xs i e)
  where
    either : (a b : Bool) → b ≡ true → (a || b) ≡ true
    either true b e = refl
    either false b e = e

place_of : (x : ℕ) (xs : List ℕ) → list_any (λ y. y == x) xs ≡ true → (i : ℕ) × (slice_get xs i ≡ Some x)
place_of x [] e = cc
place_of x (y ∷ xs) e = go (λ in_rest. place_of x xs in_rest) (y == x) refl
  where
    go : (list_any (λ y. y == x) xs ≡ true → (i : ℕ) × (slice_get xs i ≡ Some x)) → (b : Bool) → (y == x) ≡ b
        → (i : ℕ) × (slice_get (y ∷ xs) i ≡ Some x)
    go rec true is = (0, ap Some (eqb-true y x is))
    go rec false is =
        let rest = rec (sym (ap (λ b. b || list_any (λ y. y == x) xs) is) ∙ e) in (suc rest.0, rest.1)

-- none of those that pass stands at two places
abbrev Once : (ℕ → Bool) → List ℕ → Type 0
Once p xs = (i j x : ℕ) → slice_get xs i ≡ Some x → slice_get xs j ≡ Some x → p x ≡ true → i ≡ j

distinct_once : (p : ℕ → Bool) (xs : List ℕ) → is_distinct (filter p xs) ≡ true → Once p xs
distinct_once p [] e = λ i j x at_i at_j passes. absurd (none_some x at_i)
distinct_once p (y ∷ xs) e = go (λ of_rest. distinct_once p xs of_rest) (p y) refl
  where
    rest : (b : Bool) → p y ≡ b → is_distinct (cond b (y ∷ filter p xs) (filter p xs)) ≡ true
    rest b is = sym (ap (λ b. is_distinct (cond b (y ∷ filter p xs) (filter p xs))) is) ∙ e

    behind : (p y ≡ true → list_any (λ k. k == y) xs ≡ false) → Once p xs → Once p (y ∷ xs)
    behind alone once zero zero x at_i at_j passes = refl
    behind alone once zero (suc j) x at_i at_j passes =
        let same : y ≡ x = cc in
        absurd (off (list_any (λ k. k == y) xs) (found y xs j (at_j ∙ ap Some (sym same))) (alone (ap p same ∙ passes)))
    behind alone once (suc i) zero x at_i at_j passes =
        let same : y ≡ x = cc in
        absurd (off (list_any (λ k. k == y) xs) (found y xs i (at_i ∙ ap Some (sym same))) (alone (ap p same ∙ passes)))
    behind alone once (suc i) (suc j) x at_i at_j passes = ap suc (once i j x at_i at_j passes)

    go : (is_distinct (filter p xs) ≡ true → Once p xs) → (b : Bool) → p y ≡ b → Once p (y ∷ xs)
    go rec true is =
        let parts = both _ _ (rest true is) in
        behind (λ passes. sym (found_alike p y xs passes) ∙ not_true _ parts.0) (rec parts.1)
    go rec false is = behind (λ passes. absurd (off (p y) passes is)) (rec (rest false is))

once_distinct : (p : ℕ → Bool) (xs : List ℕ) → Once p xs → is_distinct (filter p xs) ≡ true
once_distinct p [] once = refl
once_distinct p (y ∷ xs) once = go (once_distinct p xs later) (p y) refl
  where
    later : Once p xs
    later i j x at_i at_j passes =
        let same : suc i ≡ suc j = once (suc i) (suc j) x at_i at_j passes in omega (arith, same)

    alone : p y ≡ true → list_any (λ k. k == y) (filter p xs) ≡ true → ⊥
    alone is twice =
        let at = place_of y xs (sym (found_alike p y xs is) ∙ twice) in
        let same : 0 ≡ suc at.0 = once 0 (suc at.0) y refl at.1 is in
        absurd (omega (arith, same))

    go : is_distinct (filter p xs) ≡ true → (b : Bool) → p y ≡ b → is_distinct (filter p (y ∷ xs)) ≡ true
    go behind true is =
        ap (λ b. is_distinct (cond b (y ∷ filter p xs) (filter p xs))) is
        ∙ and_is _ _ (is_not _ (λ twice. alone is twice)) behind
    go behind false is = ap (λ b. is_distinct (cond b (y ∷ filter p xs) (filter p xs))) is ∙ behind

whole : (t : Transfer) → not (is_partitioned t) ≡ true → IsWhole t
whole t e side = (
  λ same. off (is_partitioned t) (ap is_partitioned same) (not_true _ e),
  λ same. off (is_partitioned t) (ap is_partitioned same) (not_true _ e),
)

whole_is : (t : Transfer) → IsWhole t → not (is_partitioned t) ≡ true
whole_is transfer.SendToNull w = refl
whole_is transfer.ReceiveFromNull w = refl
whole_is (transfer.Send sync buffer count dest tag comm) w = refl
whole_is (transfer.Receive buffer capacity source tag comm) w = refl
whole_is (transfer.ReceiveClaimed buffer capacity) w = refl
whole_is (transfer.SendPartitions side) w = absurd ((w side).0 refl)
whole_is (transfer.ReceivePartitions side) w = absurd ((w side).1 refl)

abbrev plain : Option OpenRequest → Bool
plain o = option_map_or (λ request. not (is_partitioned request.transfer)) o false

not_null : (place : ℕ) → (suc place == 0) ≡ false
not_null place = grind arith

opened : (table : Table) (place : ℕ) → is_testable table (suc place) ≡ plain (request_at table (suc place))
opened table place = ap (λ b. b || plain (request_at table (suc place))) (not_null place)

testable : (table : Table) (handle : ℕ) → is_testable table handle ≡ true → IsTestable table handle
testable table zero e = inl refl
testable table (suc place) e = go (request_at table (suc place)) refl
  where
    go : (o : Option OpenRequest) → request_at table (suc place) ≡ o → IsTestable table (suc place)
    go None is = absurd (off false (sym (ap plain is) ∙ (sym (opened table place) ∙ e)) refl)
    go (Some r) is = inr (r, is, whole r.transfer (sym (ap plain is) ∙ (sym (opened table place) ∙ e)))

testable_is : (table : Table) (handle : ℕ) → IsTestable table handle → is_testable table handle ≡ true
testable_is table zero t = refl
testable_is table (suc place) (inl e) = let wrong : ⊥ = omega (arith, e) in absurd wrong
testable_is table (suc place) (inr (r, is, w)) = opened table place ∙ ap plain is ∙ whole_is r.transfer w

abbrev All : Table → List ℕ → Type 0
All table handles = (i handle : ℕ) → slice_get handles i ≡ Some handle → IsTestable table handle

all_testable : (table : Table) (handles : List ℕ) → list_all (is_testable table) handles ≡ true → All table handles
all_testable table [] e = λ i handle at. absurd (none_some handle at)
all_testable table (h ∷ handles) e =
    let parts = both _ _ e in go parts.0 (all_testable table handles parts.1)
  where
    go : is_testable table h ≡ true → All table handles → All table (h ∷ handles)
    go first rest zero handle at =
        let same : h ≡ handle = cc in testable table handle (ap (is_testable table) (sym same) ∙ first)
    go first rest (suc i) handle at = rest i handle at

testable_all : (table : Table) (handles : List ℕ) → All table handles → list_all (is_testable table) handles ≡ true
testable_all table [] all = refl
testable_all table (h ∷ handles) all =
    and_is _ _ (testable_is table h (all 0 h refl)) (testable_all table handles (λ i handle at. all (suc i) handle at))

pub together : TestLaw
together table handles = (
  λ e.
      let parts = both _ _ e in
      record {
        each = all_testable table handles parts.0;
        once = distinct_once (has is_active table) handles parts.1;
      },
  λ may. and_is _ _ (testable_all table handles may.each) (once_distinct (has is_active table) handles may.once),
)
