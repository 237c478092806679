use Rattle.cl_machine.proofs.Cases as worked
use Rattle.cl_machine.proofs.worked.stamps_above_both_clocks.Goals as goal

pub returns : goal.returns
returns c = worked.stamp_too_low
