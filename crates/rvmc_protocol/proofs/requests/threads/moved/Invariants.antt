use Rattle.std.proofs.Common.{◌≡◌, drop, map}
use Rattle.rvmc_protocol.specs.Requests.Threads.{moved}
use Rattle.rvmc_protocol.specs.declared.requests.threads.Move.TheVariants.{Stop}
use Rattle.rvmc_protocol.proofs.requests.threads.moved.Given as goal

-- what the actions so far ask for, and those that are left
abbrev pub invariant-loop-text : goal.invariant-loop-text
invariant-loop-text l =
    moved Stop (map (λ text. text.now) l.texts) ≡ moved l.all (map (λ text. text.now) (drop l.text-index l.texts))
