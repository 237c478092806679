use Rattle.std.proofs.Common.{inr}
use Rattle.rvmc_tool.specs.Exploring.{IsCutSearchOf}
use Rattle.rvmc_tool.proofs.Searching.{left_stays}
use Rattle.rvmc_tool.proofs.made.tell_search.Goals as goal

pub returns-in-Err-clause-told : goal.returns-in-Err-clause-told
returns-in-Err-clause-told g c = λ source command before all is left not_6.
    let fault = c.in-Err.fault in
    inr (
      fault,
      rw c.in-Err.is at is,
      c.fail_with_hint.ensures.status not_6,
      left_stays (IsCutSearchOf source command c.args.bytes.now) fault before (g.O.Write.contents c.args.out.now)
          (g.O.Write.contents c.flush.new.self) c.flush.ensures.bytes (rw c.in-Err.is at left),
    )
