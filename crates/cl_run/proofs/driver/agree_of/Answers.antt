use Rattle.std.proofs.Common.{refl}
use Rattle.cl_run.proofs.Seats.{same_seat}
use Rattle.cl_run.proofs.driver.agree_of.Goals as goal

pub returns-clause-from : goal.returns-clause-from
returns-clause-from c = same_seat _ c.args.from.now c.agree.ensures.sender refl refl refl

pub returns-clause-to : goal.returns-clause-to
returns-clause-to c = same_seat _ c.args.to.now c.agree.ensures.receiver refl refl refl
