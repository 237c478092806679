-- One open request: how long it lasts, and how far it is (MPI 4.1, chapters 3.7 and 3.9).
use Rattle.std.specs.Prelude.{Bool, true, false, Option, Some, None, if◌then◌else◌}
use Rattle.mp_request.specs.declared.entries.OpenRequest.{OpenRequest}
use Rattle.mp_request.specs.declared.entries.Progress.{Progress}
use Rattle.mp_request.specs.declared.entries.State.{State}
use Rattle.mp_request.specs.declared.entries.State.TheVariants.{Ordinary, Inactive, Active}
use Rattle.mp_request.specs.declared.entries.Transfer.{Transfer}
use Rattle.mp_request.specs.declared.entries.Transfer.TheVariants as transfer

-- a persistent request outlives its completion (3.9)
abbrev pub is_persistent : State → Bool
is_persistent (Ordinary progress) = false
is_persistent Inactive = true
is_persistent (Active progress) = true

-- an ordinary request is active from the call that opened it (3.7.2), a persistent one from its start on
abbrev pub is_active : State → Bool
is_active (Ordinary progress) = true
is_active Inactive = false
is_active (Active progress) = true

abbrev pub is_partitioned : Transfer → Bool
is_partitioned (transfer.SendPartitions side) = true
is_partitioned (transfer.ReceivePartitions side) = true
is_partitioned _ = false

-- what START leaves: an active request (3.9)
abbrev pub active_with : Progress → OpenRequest → OpenRequest
active_with progress request = record request { state = Active progress }

-- what completion leaves: of an ordinary request nothing (3.7.3), of a persistent one an inactive request (3.9)
abbrev pub remainder : OpenRequest → Option OpenRequest
remainder request = if is_persistent request.state then Some (record request { state = Inactive }) else None
