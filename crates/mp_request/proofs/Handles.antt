-- Handles, the places behind them, and the lowest free one.
use Rattle.std.proofs.Common.{◌≡◌, ℕ, zero, suc, ◌+◌, ◌<◌, ◌≤◌, inl, inr, Bool, true, false, List, length, get_or, set, ◌-◌, Option, Some, None, refl, ap, ◌∙◌, arith}
use Rattle.std.specs.Prelude.{IsNone, IsSome, cond, is_none, nat_lt, position}
use Rattle.std.proofs.lemmas.Bool.{cases_lt, ltb-false}
use Rattle.std.proofs.lemmas.List.{get_or_past}
use Rattle.std.proofs.lemmas.List.Quantifiers.{position-Some}
use Rattle.std.proofs.lemmas.List.Sums.{fails_before_first}
use Rattle.std.specs.List.{position_or_len}
use Rattle.mp_request.specs.declared.entries.OpenRequest.{OpenRequest}
use Rattle.mp_request.specs.Table.{Table, request_at, with_request}
use Rattle.mp_request.specs.Handles.{IsFree, IsFull, IsHandle, IsLowestFree, IsOpen}

pub is_none-IsNone : {A : Type 0} (o : Option A) → is_none o ≡ true → IsNone o
is_none-IsNone None e = refl
is_none-IsNone (Some x) e = cc

pub IsNone-is_none : {A : Type 0} (o : Option A) → IsNone o → is_none o ≡ true
IsNone-is_none None e = refl
IsNone-is_none (Some x) e = cc

pub IsSome-not_none : {A : Type 0} (o : Option A) → is_none o ≡ false → IsSome o
IsSome-not_none None e = cc
IsSome-not_none (Some x) e = refl

-- handle slot + 1 names what stands at the slot
pub request_at_slot : (table : Table) (handle slot : ℕ) → handle ≡ slot + 1
    → request_at table handle ≡ get_or table slot None
request_at_slot table zero slot e = let wrong : ⊥ = omega arith in absurd wrong
request_at_slot table (suc n) slot e = let same : n ≡ slot = omega arith in ap (λ k. get_or table k None) same

-- what isn't a handle names nothing
pub request_at_no_handle : (table : Table) (handle : ℕ) → length table ≡ 255 → (IsHandle handle → ⊥)
    → request_at table handle ≡ None
request_at_no_handle table zero long never = refl
request_at_no_handle table (suc n) long never =
    elim (cases_lt n 255) [
      | inl low ↦ absurd (never (omega arith, omega arith))
      | inr high ↦ get_or_past table n None (omega arith)
    ]

-- what is open is a handle
pub is_handle_open : (table : Table) (handle : ℕ) → length table ≡ 255 → IsOpen table handle → IsHandle handle
is_handle_open table zero long some = cc
is_handle_open table (suc n) long some =
    elim (cases_lt n 255) [
      | inl low ↦ (omega arith, omega arith)
      | inr high ↦ let none : get_or table n None ≡ None = get_or_past table n None (omega arith) in
          let wrong : ⊥ = cc in absurd wrong
    ]

-- the first slot with nothing is the lowest free handle's
pub first_is_lowest : (table : Table) (slot : ℕ) → length table ≡ 255 → position is_none table ≡ Some slot
    → IsLowestFree table (slot + 1)
first_is_lowest table slot long e =
    let found = position-Some is_none table slot None e in
    let free : IsNone (request_at table (slot + 1)) =
    is_none-IsNone _ (ap is_none (request_at_slot table (slot + 1) slot refl) ∙ found.1) in
    record {
      free = ((omega arith, omega (arith, found.0)), free);
      lowest = above table slot found.2;
    }
  where
    above : (table : Table) (slot : ℕ) → ((k : ℕ) → k < slot → is_none (get_or table k None) ≡ false) → (other : ℕ)
        → IsFree table other → slot + 1 ≤ other
    above table slot before zero free = let wrong : ⊥ = omega (arith, free.0.0) in absurd wrong
    above table slot before (suc n) free =
        elim (cases_lt n slot) [
          | inl low ↦ let some = before n low in let none = IsNone-is_none _ free.1 in let wrong : ⊥ = cc in
              absurd wrong
          | inr high ↦ omega arith
        ]

pub position-None : {A : Type 0} (p : A → Bool) (xs : List A) (k : ℕ) (d : A) → position p xs ≡ None → k < length xs
    → p (get_or xs k d) ≡ false
position-None p xs k d e low =
    fails_before_first p xs k d
    (beyond (position_or_len p xs) (length xs) (nat_lt (position_or_len p xs) (length xs)) refl e low)
  where
    beyond : (first n : ℕ) (b : Bool) → nat_lt first n ≡ b → cond b (Some first) None ≡ None → k < n → k < first
    beyond first n true is none low = cc
    beyond first n false is none low = let past : n ≤ first = ltb-false first n is in omega arith

-- where every slot is taken every handle is open
pub full_without_slot : (table : Table) → length table ≡ 255 → position is_none table ≡ None → IsFull table
full_without_slot table long e zero handle = let wrong : ⊥ = omega (arith, handle.0) in absurd wrong
full_without_slot table long e (suc n) handle =
    IsSome-not_none _ (position-None is_none table n None e (omega (arith, handle.1)))

pub not_full : (table : Table) (slot : ℕ) → length table ≡ 255 → position is_none table ≡ Some slot → IsFull table → ⊥
not_full table slot long e full =
    let lowest = first_is_lowest table slot long e in
    let open_too = full (slot + 1) lowest.free.0 in
    let none = lowest.free.1 in
    cc

pub with_request_at : (table : Table) (handle : ℕ) (request : Option OpenRequest) → 1 ≤ handle
    → with_request table handle request ≡ set table (handle - 1) request
with_request_at table zero request low = let wrong : ⊥ = omega arith in absurd wrong
with_request_at table (suc n) request low =
    let same : n ≡ suc n - 1 = omega arith in ap (λ k. set table k request) same
