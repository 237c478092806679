use Rattle.std.proofs.Common.{◌∙◌}
use Rattle.cl_lines.proofs.Behind.{progress_from_beginning}
use Rattle.cl_lines.proofs.progress.put_progress.Goals as goal

pub returns-in-Ok : goal.returns-in-Ok
returns-in-Ok g c =
    progress_from_beginning c.args.progress.now c.as_bytes.result.now _ _ (c.is_due.ensures c.if-not-is_due.false)
    (c.as_bytes.ensures.value ∙ c.in-Ok.ensures) c.put_beginning.ensures
