use Rattle.std.proofs.Common.{◌≡◌, drop, map}
use Rattle.clap.specs.Walk.{rows_of}
use Rattle.clap.specs.Words.{found_of}
use Rattle.rvmc_cli.specs.Options.{any_given}
use Rattle.rvmc_cli.proofs.values.apart.Given as goal

-- whether one of the others was given is up to those that are left
abbrev pub invariant-loop-other : goal.invariant-loop-other
invariant-loop-other l =
    any_given (map (λ other. other.now) l.others) (rows_of (found_of l.matches))
    ≡ any_given (map (λ other. other.now) (drop l.other-index l.others)) (rows_of (found_of l.matches))
