use Rattle.std.proofs.Common.{Some, subst}
use Rattle.rvmc_tool.specs.Progress.{TellsQuietly}
use Rattle.test_program.proofs.tool.quiet_statuses_tell_hints_alone.Goals as goal

pub returns : goal.returns
returns c silent quiet =
    let (said, is, appends) =
    subst (λ wanted. TellsQuietly wanted (Some c.args.err.now.items) (Some c.tool_plain-status.new.err.items)) silent
    (c.tool_plain-status.ensures.quiet quiet) in
    (said, appends, c.hint_law.ensures.named said is)
