use Rattle.std.proofs.Common.{refl}
use Rattle.cl_explore.proofs.companies.note_stuck.Goals as goal

pub returns-in_ok-push-in-Some : goal.returns-in_ok-push-in-Some
returns-in_ok-push-in-Some c =
    rw c.in-Some.is (_, refl, refl, c.in_ok-push-in-Some.ensures.items)
