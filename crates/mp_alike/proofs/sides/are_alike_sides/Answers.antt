use Rattle.mp_alike.proofs.Initialised.{all_alike, each_alike}
use Rattle.mp_alike.proofs.sides.are_alike_sides.Goals as goal

pub returns-then-are_all_alike : goal.returns-then-are_all_alike
returns-then-are_all_alike c = (
  λ t. all_alike c.args.mine.now c.args.theirs.now ((c.are_all_alike.ensures).0 c.if-are_all_alike.true)
      ((c.are_all_alike-then-are_all_alike.ensures).0 t),
  λ h. (c.are_all_alike-then-are_all_alike.ensures).1 (each_alike c.args.mine.now c.args.theirs.now h c.args.theirs.now),
)
