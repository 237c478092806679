-- The bytes that are put are the lowest ones of the value.
use Rattle.rv_memory.proofs.page.Page.put_value.Goals as goal
use Rattle.std.proofs.Common.{◌∙◌, ap, take}
use Rattle.rv_memory.proofs.Values.{take-bytes_low_first}
use Rattle.rv_memory.specs.Memory.{overwritten}

pub returns-clause-put : goal.returns-clause-put
returns-clause-put c =
    c.put.ensures.put ∙ ap (λ low. overwritten c.args.self.now c.args.at low) (ap (take c.args.count) c.to_le_bytes.ensures ∙ take-bytes_low_first 0 c.args.count 8 c.args.value c.requires.most)
