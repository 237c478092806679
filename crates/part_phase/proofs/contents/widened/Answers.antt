-- The zeros that aren't written over are those that are left.
use Rattle.std.proofs.Common.{ap, ◌∙◌, ◌++◌, length}
use Rattle.part_phase.proofs.Padding.{drop_zeros}
use Rattle.part_phase.proofs.contents.widened.Goals as goal

pub returns : goal.returns
returns c = c.put.ensures ∙ ap (λ l. c.args.bytes.now ++ l) (drop_zeros (length c.args.bytes.now) 128)
