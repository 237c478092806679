use Rattle.std.specs.Fmt.{digits}
use Rattle.test_program.proofs.report.bad_step_is_named.Goals as goal

pub returns : goal.returns
unfolding digits
returns c = c.verdict_text.ensures
