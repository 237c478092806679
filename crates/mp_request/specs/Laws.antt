-- Laws of tables.
use Rattle.std.specs.Prelude.{◌≡◌, ◌≢◌, ℕ, Option, Some, length, true, false}
use Rattle.mp_request.specs.declared.entries.OpenRequest.{OpenRequest}
use Rattle.mp_request.specs.declared.entries.State.TheVariants.{Inactive}
use Rattle.mp_request.specs.Entries.{is_persistent}
use Rattle.mp_request.specs.Table.{Table, completed, request_at, with_request}
use Rattle.mp_request.specs.Handles.{IsFree, IsHandle}

-- one handle names the request that was given, and every other number what it did
pub record ChangesOne (old new : Table) (handle : ℕ) (request : Option OpenRequest) : Type 0 where
  pub changed : request_at new handle ≡ request
  pub others : (other : ℕ) → other ≢ handle → request_at new other ≡ request_at old other

-- a table of 255 places is a map from the handles
abbrev pub MapLaw : Type 0
MapLaw =
    (table : Table) (handle : ℕ) (request : Option OpenRequest)
    → length table ≡ 255 → IsHandle handle → ChangesOne table (with_request table handle request) handle request

-- the handle of an ordinary request is free (MPI 4.1, 3.7.3), and a persistent one can be started again (3.9); no other
-- handle names anything else
pub record IsCompleted (old new : Table) (handle : ℕ) (request : OpenRequest) : Type 0 where
  pub ordinary : is_persistent request.state ≡ false → IsFree new handle
  pub persistent : is_persistent request.state ≡ true
      → request_at new handle ≡ Some (record request { state = Inactive })
  pub others : (other : ℕ) → other ≢ handle → request_at new other ≡ request_at old other

abbrev pub CompletionLaw : Type 0
CompletionLaw =
    (table : Table) (handle : ℕ) (request : OpenRequest)
    → length table ≡ 255 → IsHandle handle → request_at table handle ≡ Some request
    → IsCompleted table (completed table handle) handle request
