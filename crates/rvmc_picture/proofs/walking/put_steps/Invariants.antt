use Rattle.std.proofs.Common.{◌≤◌, length}
use Rattle.rvmc_picture.specs.Pictures.{scope_in}
use Rattle.rvmc_picture.specs.Walking.{ArePut}
use Rattle.rvmc_picture.proofs.walking.put_steps.Given as goal

-- the steps so far are added
abbrev pub invariant-loop-n : goal.invariant-loop-n
invariant-loop-n l = record {
  put : ArePut l.image l.steps (scope_in l.image l.fn.view) l.n l.state l.walk;
  most : l.n ≤ l.to;
}
