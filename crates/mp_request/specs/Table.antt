-- The open requests of a rank: a map from the handles 1 to 255 (MPI 4.1, chapters 3.7 and 3.9).
use Rattle.std.specs.Prelude.{ℕ, zero, suc, ◌==◌, Bool, true, false, not, ◌&&◌, ◌||◌, List, [], ◌∷◌, get_or, set}
use Rattle.std.specs.Prelude.{replicate, filter, position, Option, None, is_none, option_map, option_and_then}
use Rattle.std.specs.List.{list_all, list_any}
use Rattle.std.specs.Option.{option_map_or}
use Rattle.mp_request.specs.declared.entries.OpenRequest.{OpenRequest}
use Rattle.mp_request.specs.declared.entries.Progress.{Progress}
use Rattle.mp_request.specs.declared.entries.State.{State}
use Rattle.mp_request.specs.Entries.{is_active, is_partitioned, active_with, remainder}

-- what each handle names, from handle 1 on; a free handle names None
abbrev pub Table : Type 0
Table = List (Option OpenRequest)

-- no handle is open
abbrev pub no_requests : Table
no_requests = replicate 255 None

-- the request of a handle; handle 0 is the null request's, and never open (3.7.1)
abbrev pub request_at : Table → ℕ → Option OpenRequest
request_at table zero = None
request_at table (suc place) = get_or table place None

-- the table in which a handle names something else
abbrev pub with_request : Table → ℕ → Option OpenRequest → Table
with_request table zero request = table
with_request table (suc place) request = set table place request

-- that handle, where there is one: the first that names nothing
abbrev pub lowest_free : Table → Option ℕ
lowest_free table = option_map suc (position is_none table)

-- a handle is open, and its request is in such a state
abbrev pub has : (State → Bool) → Table → ℕ → Bool
has test table handle = option_map_or (λ request. test request.state) (request_at table handle) false

-- the request of a handle is started (3.9)
abbrev pub started : Table → ℕ → Progress → Table
started table handle progress = with_request table handle (option_map (active_with progress) (request_at table handle))

-- the request of a handle completes
abbrev pub completed : Table → ℕ → Table
completed table handle = with_request table handle (option_and_then remainder (request_at table handle))

-- the null request, or an open one that isn't partitioned
abbrev pub is_testable : Table → ℕ → Bool
is_testable table handle =
    (handle == 0) || option_map_or (λ request. not (is_partitioned request.transfer)) (request_at table handle) false

-- no number stands twice
abbrev pub is_distinct : List ℕ → Bool
is_distinct [] = true
is_distinct (x ∷ xs) = not (list_any (λ y. y == x) xs) && is_distinct xs

-- handles that may be tested together: each by itself, and no active request is named twice
abbrev pub may_be_tested : Table → List ℕ → Bool
may_be_tested table handles =
    list_all (is_testable table) handles && is_distinct (filter (has is_active table) handles)
