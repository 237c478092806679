-- Requests that may be started or freed are inactive.
use Rattle.std.proofs.Common.{ℕ, refl, Option, Some, None, IsTrue, false, not}
use Rattle.std.specs.Option.{option_map_or}
use Rattle.std.specs.Prelude.{is_some}
use Rattle.mp_request.specs.declared.entries.OpenRequest.{OpenRequest}
use Rattle.mp_request.specs.declared.entries.State.{State}
use Rattle.mp_request.specs.declared.entries.State.TheVariants.{Ordinary, Inactive, Active}
use Rattle.mp_request.specs.Entries.{is_persistent, is_active}
use Rattle.mp_request.specs.Awaited.{is_inactive}
use Rattle.mp_request.specs.Table.{Table, request_at}
use Rattle.mp_request.specs.Handles.{IsInactive}
use Rattle.cl_calls.specs.Checks.{is_named, is_idle}
use Rattle.cl_calls.specs.declared.needs.Named.TheVariants.{Open, Persistent}

inactive_state : (s : State) → IsTrue (not (is_active s)) → IsTrue (is_inactive s)
inactive_state (Ordinary progress) idle = idle
inactive_state Inactive idle = refl
inactive_state (Active progress) idle = idle

inactive_request : (o : Option OpenRequest) → IsTrue (is_some o)
    → IsTrue (not (option_map_or (λ request. is_active request.state) o false))
    → IsTrue (option_map_or (λ request. is_inactive request.state) o false)
inactive_request None there idle = there
inactive_request (Some r) there idle = inactive_state r.state idle

there_if_persistent : (o : Option OpenRequest) → IsTrue (option_map_or (λ request. is_persistent request.state) o false)
    → IsTrue (is_some o)
there_if_persistent None there = there
there_if_persistent (Some r) there = refl

pub started_inactive : (table : Table) (handle : ℕ) → IsTrue (is_named table (Persistent handle))
    → IsTrue (is_idle table (Persistent handle)) → IsInactive table handle
started_inactive table handle named idle =
    inactive_request (request_at table handle) (there_if_persistent (request_at table handle) named) idle

pub freed_inactive : (table : Table) (handle : ℕ) → IsTrue (is_named table (Open handle))
    → IsTrue (is_idle table (Open handle)) → IsInactive table handle
freed_inactive table handle named idle = inactive_request (request_at table handle) named idle
