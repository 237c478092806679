-- The worked rows of partitioned calls compute.
use Rattle.std.proofs.Common.{refl}
use Rattle.cl_state.specs.Asked.{asked, doing}
use Rattle.cl_state.specs.Told.{arrived, freed_one, part_readied, phase_begun, received, returned, seen_one, taken_one}
use Rattle.cl_state.specs.Told.{told, with_status}
use Rattle.cl_state_laws.specs.CutRows.{CutRow, ReceivedRow, TakenRow, UnfitCutRow}
use Rattle.cl_state_laws.specs.PartitionRows.{FreedRow, LinkRow, ReadyRow, SentRow, StartRow, UnreadyRow}

pub ready : ReadyRow
unfolding asked told doing returned part_readied
ready = (refl, refl, refl, refl, refl, refl, refl)

pub unready : UnreadyRow
unfolding asked told doing returned
unready = (refl, refl, refl, refl, refl, refl)

pub freed : FreedRow
unfolding asked told doing returned freed_one
freed = (refl, refl, refl, refl, refl, refl, refl, refl, refl)

pub sent : SentRow
unfolding asked told doing returned freed_one received with_status
sent = (refl, refl, refl, refl)

pub start : StartRow
unfolding asked told doing returned phase_begun
start = (refl, refl)

pub link : LinkRow
unfolding asked told doing returned
link = (refl, refl, refl, refl, refl, refl, refl)

pub cut : CutRow
unfolding asked told doing returned seen_one
cut = (refl, refl, refl, refl, refl, refl, refl, refl, refl, refl, refl, refl)

pub taken : TakenRow
unfolding asked told doing returned
taken = (refl, refl, refl, refl)

pub unfit : UnfitCutRow
unfolding asked told doing returned
unfit = (refl, refl, refl)

pub received_whole : ReceivedRow
unfolding asked told doing returned taken_one arrived with_status
received_whole = (refl, refl, refl, refl, refl, refl, refl)
