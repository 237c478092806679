use Rattle.std.proofs.Common.{rules}
use Rattle.rvmc_tool.specs.Progress.{wants_progress}
use Rattle.rvmc_tool.proofs.Aloud.{hint_behind}
use Rattle.rvmc_tool.proofs.Told.{obeyed}
use Rattle.rvmc_tool.proofs.program.answered.Goals as goal

pub returns-in-Ok-clause-answers : goal.returns-in-Ok-clause-answers
returns-in-Ok-clause-answers g c = λ bytes known not_6.
    let said = c.answer-answer in
    obeyed c.args.line.now _ bytes c.in-Ok.bytes.items c.as_slice-whole.result.now said.result c.tell.result _ _ known
    c.in-Ok.ensures.whole (search rules) said.ensures.says said.ensures.fault (c.tell.ensures.told not_6)

pub returns-in-Ok-clause-quiet : goal.returns-in-Ok-clause-quiet
returns-in-Ok-clause-quiet g c = λ quiet.
    hint_behind (wants_progress c.args.line.now) _ _ _ _ c.in-Ok.ensures.quiet c.answer-answer.ensures.progress (c.tell.ensures.quiet quiet)
