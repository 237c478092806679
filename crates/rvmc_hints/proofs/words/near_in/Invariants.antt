use Rattle.std.proofs.Common.{◌≡◌, drop, find, map}
use Rattle.rvmc_hints.specs.Near.{is_near}
use Rattle.rvmc_hints.proofs.words.near_in.Given as goal

-- which name is near is up to those that are left
abbrev pub invariant-loop-name : goal.invariant-loop-name
invariant-loop-name l =
    find (λ name. is_near name l.word) (map (λ name. name.now) l.names)
    ≡ find (λ name. is_near name l.word) (map (λ name. name.now) (drop l.name-index l.names))
