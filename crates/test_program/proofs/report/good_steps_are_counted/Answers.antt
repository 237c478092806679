use Rattle.std.specs.Fmt.{digits}
use Rattle.test_program.proofs.report.good_steps_are_counted.Goals as goal

pub returns : goal.returns
unfolding digits
returns c = c.verdict_text.ensures
