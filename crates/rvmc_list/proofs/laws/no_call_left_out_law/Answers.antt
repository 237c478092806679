use Rattle.rvmc_list.proofs.Groups.{no_call_left_out}
use Rattle.rvmc_list.proofs.laws.no_call_left_out_law.Goals as goal

pub returns : goal.returns
returns c = no_call_left_out
