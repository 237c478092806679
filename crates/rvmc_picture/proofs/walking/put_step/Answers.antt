use Rattle.std.proofs.lemmas.Result.{on_ok_weaker}
use Rattle.rvmc_picture.proofs.walking.put_step.Goals as goal

-- what was known is what is seen of the step's rank before it
pub returns-clause-puts : goal.returns-clause-puts
returns-clause-puts c =
    on_ok_weaker c.put_behind.result
    (λ puts s t s_there t_there s_hart t_hart. puts s t (c.in_ok-before.ensures s s_there) t_there s_hart t_hart)
    c.put_behind.ensures.puts
