use Rattle.std.proofs.Common.{◌∙◌, sym}
use Rattle.cl_state.proofs.Pages.{some_bytes}
use Rattle.cl_rank.proofs.QuickReceives.{is_written}
use Rattle.cl_rank.proofs.quick_receives.write.Goals as goal

pub returns-then-not-is_empty : goal.returns-then-not-is_empty
returns-then-not-is_empty c =
    c.write_present.ensures
    ∙ sym (is_written c.args.memory.now c.args.address c.args.bytes.now c.requires.right
    (some_bytes c.args.bytes.now c.is_empty.result c.is_empty.ensures c.if-not-is_empty.true))
