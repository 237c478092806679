-- What calls make of requests, in the standard's words (MPI 4.1, chapters 3.7 and 3.9).
use Rattle.std.specs.Prelude.{◌≡◌, ◌≢◌, ◌⊎◌, ◌↔◌, ℕ, Bool, true, false, List, length, slice_get, Some, None}
use Rattle.mp_request.specs.declared.entries.OpenRequest.{OpenRequest}
use Rattle.mp_request.specs.declared.entries.Partitions.{Partitions}
use Rattle.mp_request.specs.declared.entries.Progress.{Progress}
use Rattle.mp_request.specs.declared.entries.State.{State}
use Rattle.mp_request.specs.declared.entries.State.TheVariants.{Ordinary, Inactive, Active}
use Rattle.mp_request.specs.declared.entries.Transfer.{Transfer}
use Rattle.mp_request.specs.declared.entries.Transfer.TheVariants.{SendPartitions, ReceivePartitions}
use Rattle.mp_request.specs.Entries.{is_active, is_persistent}
use Rattle.mp_request.specs.Table.{Table, completed, has, may_be_tested, no_requests, request_at, started}
use Rattle.mp_request.specs.Handles.{IsActive, IsHandle}
use Rattle.mp_request.specs.Laws.{ChangesOne}

-- ---- the null request, and handles that name nothing

-- the null request is never open, and its start or completion changes nothing (3.7.3); a new table has
-- 255 handles, of which none is open; what isn't open has no state
pub record NothingLaw : Type 0 where
  pub null : (table : Table) → request_at table 0 ≡ None
  pub null_started : (table : Table) (progress : Progress) → started table 0 progress ≡ table
  pub null_completed : (table : Table) → completed table 0 ≡ table
  pub handles : length no_requests ≡ 255
  pub new : (handle : ℕ) → request_at no_requests handle ≡ None
  pub stateless : (test : State → Bool) (table : Table) (handle : ℕ) → request_at table handle ≡ None
      → has test table handle ≡ false

-- ---- null, inactive, active

-- a persistent request is inactive or active, an ordinary one active from the call that opened it (3.7.2, 3.9)
pub record StatesLaw : Type 0 where
  pub ordinary : (progress : Progress) → (is_active (Ordinary progress) ≡ true) × (is_persistent (Ordinary progress) ≡ false)
  pub inactive : (state : State) → (is_active state ≡ false) ↔ (state ≡ Inactive)
  pub persistent : (state : State) → is_active state ≡ false → is_persistent state ≡ true
  pub active : (progress : Progress) → is_persistent (Active progress) ≡ true

-- ---- start

-- START makes a request active: it transfers what it did, and no other handle names anything else (3.9)
abbrev pub StartLaw : Type 0
StartLaw =
    (table : Table) (handle : ℕ) (transfer : Transfer) (state : State) (progress : Progress)
    → length table ≡ 255 → IsHandle handle
    → request_at table handle ≡ Some (record { transfer = transfer; state = state })
    → ChangesOne table (started table handle progress) handle
    (Some (record { transfer = transfer; state = Active progress }))

-- a persistent request goes round: started and then completed it is what it was, and so is the table (3.9)
abbrev pub RoundLaw : Type 0
RoundLaw =
    (table : Table) (handle : ℕ) (transfer : Transfer) (progress : Progress) → length table ≡ 255
    → request_at table handle ≡ Some (record { transfer = transfer; state = Inactive })
    → completed (started table handle progress) handle ≡ table

-- ---- several requests (3.7.5)

-- no side of a partitioned transfer
abbrev pub IsWhole : Transfer → Type 0
IsWhole transfer = (side : Partitions) → (transfer ≢ SendPartitions side) × (transfer ≢ ReceivePartitions side)

-- the null request, or an open one that isn't partitioned
abbrev pub IsTestable : Table → ℕ → Type 0
IsTestable table handle =
    (handle ≡ 0) ⊎ ((r : OpenRequest) × (request_at table handle ≡ Some r) × IsWhole r.transfer)

-- each of them, and none of an active request stands at two places
pub record MayBeTested (table : Table) (handles : List ℕ) : Type 0 where
  pub each : (i handle : ℕ) → slice_get handles i ≡ Some handle → IsTestable table handle
  pub once : (i j handle : ℕ) → slice_get handles i ≡ Some handle → slice_get handles j ≡ Some handle
      → IsActive table handle → i ≡ j

abbrev pub TestLaw : Type 0
TestLaw = (table : Table) (handles : List ℕ) → (may_be_tested table handles ≡ true) ↔ MayBeTested table handles
