-- The worked rows of requests and probes compute.
use Rattle.std.proofs.Common.{refl}
use Rattle.cl_state.specs.Asked.{asked, doing}
use Rattle.cl_state.specs.Told.{found, found_nothing, freed, received, received_message, returned, told, with_status}
use Rattle.cl_state_laws.specs.RequestRows.{ClaimedRow, FullRow, HandleRows, NullProbeRow, OpenRow, PersistentRow}
use Rattle.cl_state_laws.specs.RequestRows.{ProbeRow, ReceiveRow, SsendRow, TestRow, WaitRow}

pub open_row : OpenRow
unfolding asked told doing returned
open_row = (refl, refl, refl, refl, refl, refl, refl, refl)

pub full : FullRow
unfolding asked told doing returned
full = (refl, refl)

pub test : TestRow
unfolding asked told doing returned received with_status
test = (refl, refl, refl, refl, refl, refl)

pub receive : ReceiveRow
unfolding asked told doing returned received received_message with_status
receive = (refl, refl, refl, refl, refl)

pub wait : WaitRow
unfolding asked told doing returned
wait = (refl, refl, refl, refl, refl)

pub ssend : SsendRow
unfolding asked told doing returned
ssend = (refl, refl, refl, refl, refl, refl)

pub probe : ProbeRow
unfolding asked told doing returned found with_status
probe = (refl, refl, refl, refl, refl, refl, refl, refl)

pub null_probe : NullProbeRow
unfolding asked told doing returned found_nothing with_status
null_probe = (refl, refl, refl, refl, refl, refl, refl)

pub claimed : ClaimedRow
unfolding asked told doing returned received received_message with_status
claimed = (refl, refl, refl, refl, refl, refl)

pub persistent : PersistentRow
unfolding asked told doing returned received freed with_status
persistent = (refl, refl, refl, refl, refl, refl, refl, refl, refl, refl)

pub handles : HandleRows
handles = (refl, refl)
