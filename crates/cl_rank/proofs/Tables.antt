-- Tables of requests: which of them send partitions.
use Rattle.std.proofs.Common.{◌≡◌, ℕ, zero, suc, List, [], ◌∷◌, Bool, true, false, Option, Some, None, refl, sym, ap, subst}
use Rattle.std.proofs.Common.{◌⊎◌, inl, inr, get_or, set, ◌∙◌, ⊎_elim}
use Rattle.std.specs.Prelude.{if◌then◌else◌, option_map, option_and_then}
use Rattle.mp_request.specs.declared.entries.OpenRequest.{OpenRequest}
use Rattle.mp_request.specs.declared.entries.Partitions.{Partitions}
use Rattle.mp_request.specs.declared.entries.Progress.{Progress}
use Rattle.mp_request.specs.Entries.{active_with, is_persistent, remainder}
use Rattle.mp_request.specs.Table.{Table, completed, request_at, started, with_request}
use Rattle.cl_calls.specs.Checks.{sends_in, sending_side}
use Rattle.cl_state.specs.Several.{completed_each}

-- a request that sends partitions now did so before
abbrev pub Keeps : Table → Table → Type 0
Keeps old new = (handle : ℕ) (side : Partitions) → sending_side (request_at new handle) ≡ Some side
    → sending_side (request_at old handle) ≡ Some side

pub keeps_all : (table : Table) → Keeps table table
keeps_all table handle side is = is

pub keeps_both : (a b c : Table) → Keeps a b → Keeps b c → Keeps a c
keeps_both a b c p q handle side is = p handle side (q handle side is)

get_set : (xs : Table) (i j : ℕ) (x : Option OpenRequest)
    → (get_or (set xs i x) j None ≡ get_or xs j None) ⊎ ((j ≡ i) × (get_or (set xs i x) j None ≡ x))
get_set [] i j x = inl refl
get_set (y ∷ ys) zero zero x = inr (refl, refl)
get_set (y ∷ ys) zero (suc j) x = inl refl
get_set (y ∷ ys) (suc i) zero x = inl refl
get_set (y ∷ ys) (suc i) (suc j) x = ⊎_elim
    (λ (h : get_or (set ys i x) j None ≡ get_or ys j None). inl h)
    (λ (h : (j ≡ i) × (get_or (set ys i x) j None ≡ x)). inr (ap suc h.0, h.1))
    (get_set ys i j x)

-- a handle names this now, or what it named
pub at_handle : (table : Table) (handle h : ℕ) (x : Option OpenRequest)
    → (request_at (with_request table handle x) h ≡ request_at table h)
    ⊎ ((h ≡ handle) × (request_at (with_request table handle x) h ≡ x))
at_handle table zero h x = inl refl
at_handle table (suc i) zero x = inl refl
at_handle table (suc i) (suc j) x = ⊎_elim
    (λ (h : get_or (set table i x) j None ≡ get_or table j None). inl h)
    (λ (h : (j ≡ i) × (get_or (set table i x) j None ≡ x)). inr (ap suc h.0, h.1))
    (get_set table i j x)

-- what a handle names changes, and it sends no other partitions
pub keeps_with : (table : Table) (handle : ℕ) (x : Option OpenRequest)
    → ((side : Partitions) → sending_side x ≡ Some side → sending_side (request_at table handle) ≡ Some side)
    → Keeps table (with_request table handle x)
keeps_with table handle x same h side is = ⊎_elim
    (λ (k : request_at (with_request table handle x) h ≡ request_at table h). subst (λ r. sending_side r ≡ Some side) k is)
    (λ (k : (h ≡ handle) × (request_at (with_request table handle x) h ≡ x)).
    subst (λ n. sending_side (request_at table n) ≡ Some side) (sym k.0)
    (same side (subst (λ r. sending_side r ≡ Some side) k.1 is)))
    (at_handle table handle h x)

no_side : (side : Partitions) → None ≡ Some side → ⊥
no_side side h = cc

pub keeps_none : (table : Table) (handle : ℕ) (x : Option OpenRequest) → sending_side x ≡ None
    → Keeps table (with_request table handle x)
keeps_none table handle x none = keeps_with table handle x (λ side is. absurd (no_side side (sym none ∙ is)))

active_same : (p : Progress) (r : Option OpenRequest) (side : Partitions)
    → sending_side (option_map (active_with p) r) ≡ Some side → sending_side r ≡ Some side
active_same p None side is = is
active_same p (Some r) side is = is

pub keeps_started : (table : Table) (handle : ℕ) (p : Progress) → Keeps table (started table handle p)
keeps_started table handle p = keeps_with table handle _ (active_same p (request_at table handle))

rest_same : (b : Bool) (r x : OpenRequest) (side : Partitions) → x.transfer ≡ r.transfer
    → sending_side (if b then Some x else None) ≡ Some side → sends_in r.transfer ≡ Some side
rest_same true r x side same is = subst (λ t. sends_in t ≡ Some side) same is
rest_same false r x side same is = absurd (no_side side is)

remainder_same : (r : Option OpenRequest) (side : Partitions)
    → sending_side (option_and_then remainder r) ≡ Some side → sending_side r ≡ Some side
remainder_same None side is = is
remainder_same (Some r) side is = rest_same (is_persistent r.state) r _ side refl is

pub keeps_completed : (table : Table) (handle : ℕ) → Keeps table (completed table handle)
keeps_completed table handle = keeps_with table handle _ (remainder_same (request_at table handle))

pub keeps_each : (handles : List ℕ) (table : Table) → Keeps table (completed_each table handles)
keeps_each [] table = keeps_all table
keeps_each (handle ∷ handles) table =
    keeps_both table _ _ (keeps_completed table handle) (keeps_each handles (completed table handle))
