use Rattle.std.proofs.Common.{Option, subst}
use Rattle.std.proofs.lemmas.Option.{same_Some}
use Rattle.std.proofs.lemmas.Result.{on_ok_weaker}
use Rattle.cl_state.specs.Room.{rank_of}
use Rattle.rvmc_sights.specs.Seen.{after_of}
use Rattle.rvmc_picture.specs.Walking.{IsBefore}
use Rattle.rvmc_picture.specs.declared.walking.Before.{Before}
use Rattle.rvmc_picture.proofs.walking.put_behind.Goals as goal

pub returns-clause-puts : goal.returns-clause-puts
returns-clause-puts c =
    on_ok_weaker c.put_deed.result
    (λ puts s t is_before t_there s_hart t_hart.
    puts (rank_of s) (rank_of t)
    (subst (λ (b : Option Before). IsBefore c.args.step.now (rank_of s) b) c.in-Some.is is_before)
    (same_Some c.in-Some-look_again.after (after_of c.args.step.now (rank_of t))
    (c.in-Some-look_again.ensures t t_there t_hart)))
    c.put_deed.ensures.puts
