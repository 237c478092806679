use Rattle.std.proofs.Common.{sym}
use Rattle.mp_request.proofs.Handles.{request_at_no_handle}
use Rattle.mp_request.proofs.table.Requests.get.Goals as goal

pub returns-in-None-clause-request : goal.returns-in-None-clause-request
returns-in-None-clause-request c =
    sym (request_at_no_handle c.args.self.now c.args.handle c.slots-slots.ensures.length
    (λ handle. let some = c.in-None.ensures.handle.1 handle in cc))
