use Rattle.std.proofs.Common.{length}
use Rattle.cl_threads.proofs.driver.+run_from.Given as goal

abbrev pub decreases-run_from : goal.decreases-run_from
decreases-run_from g l = length l.seats.items
