-- The worked rows of several requests compute.
use Rattle.std.proofs.Common.{refl}
use Rattle.cl_state.specs.Asked.{asked, doing}
use Rattle.cl_state.specs.Several.{bytes_of_status}
use Rattle.cl_state.specs.Told.{completed_all, returned, told}
use Rattle.cl_state_laws.specs.SeveralRows.{DoneAndPendingRow, NoneRow, OverlapRow, SeveralRefusals, StatusesRow}
use Rattle.cl_state_laws.specs.SeveralRows.{TwoPendingRow, UnfitRow}

pub done_and_pending_row : DoneAndPendingRow
unfolding asked told doing returned completed_all bytes_of_status
done_and_pending_row = (refl, refl, refl, refl)

pub two_pending_row : TwoPendingRow
unfolding asked told doing returned completed_all bytes_of_status
two_pending_row = (refl, refl, refl)

pub unfit_row : UnfitRow
unfolding told doing returned completed_all bytes_of_status
unfit_row = refl

pub statuses_row : StatusesRow
unfolding asked told doing returned completed_all bytes_of_status
statuses_row = (refl, refl, refl)

pub overlap : OverlapRow
unfolding told doing returned completed_all bytes_of_status
overlap = refl

pub none_row : NoneRow
unfolding told doing returned completed_all bytes_of_status
none_row = refl

pub refusals : SeveralRefusals
refusals = refl
