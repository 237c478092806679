use Rattle.std.proofs.Common.{sym, rules}
use Rattle.mp_request.proofs.Handles.{first_is_lowest, full_without_slot, not_full}
use Rattle.mp_request.proofs.table.Requests.lowest_free.Goals as goal

pub returns-in_err-slot-clause-full : goal.returns-in_err-slot-clause-full
returns-in_err-slot-clause-full c =
    (λ none. full_without_slot _ c.free_slot.ensures.length (sym c.in_err-slot.ensures.first), λ full. search rules)

pub returns-clause-lowest : goal.returns-clause-lowest
returns-clause-lowest c = first_is_lowest _ _ c.free_slot.ensures.length (sym c.in_ok-slot.ensures.first)

pub returns-clause-full : goal.returns-clause-full
returns-clause-full c = (
  λ none. absurd (cc),
  λ full. absurd (not_full _ _ c.free_slot.ensures.length (sym c.in_ok-slot.ensures.first) full),
)
