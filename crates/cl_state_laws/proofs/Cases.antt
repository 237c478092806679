-- The worked rows compute.
use Rattle.std.proofs.Common.{refl}
use Rattle.cl_state.specs.Asked.{asked, doing}
use Rattle.cl_state.specs.Told.{received, received_message, returned, told, with_status}
use Rattle.cl_state_laws.specs.CallRows.{MisfitRow, NullRow, PutRow, RefusalRows, SendRow, TruncatedRow, WaitingRow}

pub put : PutRow
unfolding asked told doing returned
put = (refl, refl)

pub send : SendRow
unfolding asked told doing returned
send = (refl, refl)

pub truncated : TruncatedRow
unfolding asked told doing returned received received_message with_status
truncated = (refl, refl)

pub waiting : WaitingRow
unfolding asked told doing returned received received_message with_status
waiting = (refl, refl, refl, refl)

pub misfit : MisfitRow
unfolding told doing returned received_message
misfit = (refl, refl, refl)

pub null : NullRow
unfolding asked told doing returned received with_status
null = (refl, refl)

pub refusals : RefusalRows
refusals = refl
