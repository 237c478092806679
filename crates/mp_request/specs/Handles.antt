-- What a handle names.
use Rattle.std.specs.Prelude.{ℕ, ◌≤◌, ◌==◌, Bool, ◌||◌, IsSome, IsNone, IsTrue}
use Rattle.mp_request.specs.Entries.{is_persistent, is_active}
use Rattle.mp_request.specs.Awaited.{is_inactive, is_done}
use Rattle.mp_request.specs.Table.{Table, request_at, has}

abbrev pub IsHandle : ℕ → Type 0
IsHandle handle = (1 ≤ handle) × (handle ≤ 255)

abbrev pub IsOpen : Table → ℕ → Type 0
IsOpen table handle = IsSome (request_at table handle)

abbrev pub IsFree : Table → ℕ → Type 0
IsFree table handle = IsHandle handle × IsNone (request_at table handle)

-- the least handle that isn't in the map
pub record IsLowestFree (table : Table) (handle : ℕ) : Type 0 where
  pub free : IsFree table handle
  pub lowest : (other : ℕ) → IsFree table other → handle ≤ other

abbrev pub IsFull : Table → Type 0
IsFull table = (handle : ℕ) → IsHandle handle → IsOpen table handle

abbrev pub IsPersistent : Table → ℕ → Type 0
IsPersistent table handle = IsTrue (has is_persistent table handle)

abbrev pub IsActive : Table → ℕ → Type 0
IsActive table handle = IsTrue (has is_active table handle)

abbrev pub IsInactive : Table → ℕ → Type 0
IsInactive table handle = IsTrue (has is_inactive table handle)

-- the null request counts as complete (3.7.3)
abbrev pub is_done_at : Table → ℕ → Bool
is_done_at table handle = (handle == 0) || has is_done table handle
