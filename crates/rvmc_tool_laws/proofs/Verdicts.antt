-- The verdict that is told is right.
use Rattle.std.proofs.Common.{take}
use Rattle.cl_deadlock.specs.Why.{IsVerdictOf}
use Rattle.rvmc_tool_laws.specs.Answers.{VerdictIsTrueLaw}
use Rattle.rvmc_tool_laws.proofs.Naming.{names_who_waits}

pub verdict_is_true : VerdictIsTrueLaw
verdict_is_true framed image steps n text is = (
  is.told.found,
  is.told.is,
  verdict,
  names_who_waits image is.state is.reached.cluster is.told.found is.reached.stands verdict,
)
  where
    verdict : IsVerdictOf is.reached.cluster is.told.found
    verdict =
        is.told.verdict image is.reached.cluster (record {
          right = is.limits;
          reached = (take n steps, is.reached.run);
          stands = is.reached.stands;
        })
