use Rattle.std.specs.Prelude.{◌++◌, codes, Some}
use Rattle.std.proofs.Common.{◌∙◌, ap}
use Rattle.test_program.proofs.Leaving.{answered}
use Rattle.test_program.proofs.Results.{ok_to_on}
use Rattle.test_program.proofs.gdb.what_stands_behind_a_record_is_answered.Goals as goal

pub returns : goal.returns
returns c = λ spelled image steps read is.
    ok_to_on c.serve.result
    (λ session. session.2
    ∙ ap (λ text. c.args.out.now.items ++ text)
    (answered c.answers_law.ensures c.args.rank spelled session.0 image steps read session.1))
    (c.serve.ensures.served (spelled ++ codes "$D#44") (ap (λ bytes. Some bytes) is))
