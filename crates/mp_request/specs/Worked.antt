-- Worked values of the table.
use Rattle.std.specs.Prelude.{◌≡◌, ℕ, ◌-◌, ◌^◌, List, [], ◌∷◌, ◌++◌, map, replicate, Option, Some, None, Bool, true}
use Rattle.std.specs.Prelude.{false}
use Rattle.std.specs.List.{list_all}
use Rattle.mp_types.specs.Codes.{code_number}
use Rattle.mp_request.specs.declared.entries.OpenRequest.{OpenRequest}
use Rattle.mp_request.specs.declared.entries.Progress.TheVariants.{Finished, Sent, OnPost, InPhase}
use Rattle.mp_request.specs.declared.entries.State.TheVariants.{Ordinary, Inactive, Active}
use Rattle.mp_request.specs.declared.entries.Transfer.{Transfer}
use Rattle.mp_request.specs.declared.entries.Transfer.TheVariants.{Send, Receive, ReceivePartitions}
use Rattle.mp_request.specs.declared.refusals.Refusal.TheVariants as refusal
use Rattle.mp_request.specs.Refusals.{code_of}
use Rattle.mp_request.specs.Table.{Table, no_requests, request_at, lowest_free, started, completed, may_be_tested}
use Rattle.mp_request.specs.Handles.{is_done_at}

-- 8 bytes from any source with any tag, at 64
abbrev pub receive : Transfer
receive = Receive 64 8 None None 0

-- 3 bytes at 32 to rank 1, tag 7
abbrev pub send : Transfer
send = Send false 32 3 1 7 0

-- 2 partitions of 8 bytes at 128, on link 0
abbrev pub partitions : Transfer
partitions = ReceivePartitions (record { link = 0; buffer = 128; parts = 2; size = 8; peer = 1; tag = 7; comm = 0 })

abbrev pub waiting : OpenRequest
waiting = record { transfer = receive; state = Ordinary (OnPost 4) }

abbrev pub sent : OpenRequest
sent = record { transfer = send; state = Ordinary (Sent 5) }

abbrev pub made : Transfer → OpenRequest
made transfer = record { transfer = transfer; state = Inactive }

-- handles 1 to n name a waiting receive
abbrev pub first : ℕ → Table
first n = replicate n (Some waiting) ++ replicate (255 - n) None

-- a new table gives 1; with 1 and 2 open 3; with 254 open 255; with all open none, until 7 is completed
abbrev pub lowest : List (Table × Option ℕ)
lowest =
    (no_requests, Some 1) ∷
    (first 2, Some 3) ∷
    (first 254, Some 255) ∷
    (first 255, None) ∷
    (completed (first 255) 7, Some 7) ∷
    (completed (completed (first 255) 200) 7, Some 7) ∷
    []

abbrev pub LowestFreeRows : Type 0
LowestFreeRows = map (λ row. lowest_free row.0) lowest ≡ map (λ row. row.1) lowest

-- 0, 256 and 2^64 - 1 name nothing, however many are open
abbrev pub NamedRows : Type 0
NamedRows =
    map (request_at (first 255)) (0 ∷ 1 ∷ 255 ∷ 256 ∷ (2 ^ 64 - 1) ∷ [])
    ≡ (None ∷ Some waiting ∷ Some waiting ∷ None ∷ None ∷ [])

-- handle 1: an ordinary receive; 2: a standard send; 3: a persistent receive, not started; 4: one that is started;
-- 5: a persistent send that is started; 6: a partitioned receive
abbrev pub six : Table
six =
    Some waiting ∷
    Some sent ∷
    Some (made receive) ∷
    Some (record { transfer = receive; state = Active (OnPost 9) }) ∷
    Some (record { transfer = send; state = Active (Sent 10) }) ∷
    Some (made partitions) ∷
    replicate 249 None

-- completion frees an ordinary request's handle, leaves a persistent one inactive, and the null one as it was
abbrev pub CompletionRows : Type 0
CompletionRows =
    (request_at (completed six 1) 1 ≡ None)
    × (request_at (completed six 4) 4 ≡ Some (made receive))
    × (completed six 3 ≡ six)
    × (completed six 0 ≡ six)
    × (completed (started six 3 (OnPost 10)) 3 ≡ six)
    × (request_at (started six 6 InPhase) 6 ≡ Some (record { transfer = partitions; state = Active InPhase }))

-- one active request twice, a free handle, one above 255, and a partitioned request may not be tested with others
abbrev pub testable : List (List ℕ × Bool)
testable =
    ([], true) ∷
    (1 ∷ 2 ∷ 3 ∷ 4 ∷ 5 ∷ [], true) ∷
    (0 ∷ 3 ∷ 0 ∷ 3 ∷ [], true) ∷
    (1 ∷ 2 ∷ 1 ∷ [], false) ∷
    (2 ∷ 2 ∷ [], false) ∷
    (4 ∷ 0 ∷ 4 ∷ [], false) ∷
    (7 ∷ [], false) ∷
    (256 ∷ [], false) ∷
    (2 ∷ 6 ∷ [], false) ∷
    []

abbrev pub TestableRows : Type 0
TestableRows = map (λ row. may_be_tested six row.0) testable ≡ map (λ row. row.1) testable

-- the null request, a standard send, an inactive request and a started send are done; a receive on its post isn't
abbrev pub done : List (List ℕ × Bool)
done =
    ([], true) ∷
    (0 ∷ 2 ∷ 3 ∷ 5 ∷ [], true) ∷
    (1 ∷ [], false) ∷
    (4 ∷ [], false) ∷
    (2 ∷ 4 ∷ 3 ∷ [], false) ∷
    []

abbrev pub DoneRows : Type 0
DoneRows = map (λ row. list_all (is_done_at six) row.0) done ≡ map (λ row. row.1) done

-- what the guest finds in a0
abbrev pub RefusalRows : Type 0
RefusalRows =
    map (λ r. code_number (code_of r)) (refusal.BadRequest ∷ refusal.Full ∷ refusal.Active ∷ []) ≡ (6 ∷ 8 ∷ 12 ∷ [])
