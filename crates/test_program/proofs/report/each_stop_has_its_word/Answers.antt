use Rattle.std.proofs.Common.{refl}
use Rattle.std.specs.Fmt.{digits}
use Rattle.test_program.proofs.report.each_stop_has_its_word.Goals as goal

pub returns : goal.returns
unfolding digits
returns c = refl
