use Rattle.std.proofs.lemmas.Result.{on_ok_weaker}
use Rattle.rvmc_changes.proofs.walking.put_change.Goals as goal

-- what was known is what is seen of the step's rank before it
pub returns-clause-adds : goal.returns-clause-adds
returns-clause-adds c =
    on_ok_weaker c.put_behind.result
    (λ puts s t s_there t_there s_hart t_hart.
    puts s t (c.in_ok-before.ensures.before s s_there) t_there s_hart t_hart)
    c.put_behind.ensures.adds
