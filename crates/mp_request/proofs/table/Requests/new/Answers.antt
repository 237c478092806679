use Rattle.std.proofs.Common.{arith}
use Rattle.std.proofs.lemmas.Grind.{common_steps}
use Rattle.mp_request.proofs.table.Requests.new.Goals as goal

-- a clone of None is None
pub returns : goal.returns
returns c = c.in_ok-slots.ensures.items_if_clones_equal (λ o clone. grind (arith, common_steps, clone))
