use Rattle.std.proofs.Common.{None, rules}
use Rattle.rvmc_line.specs.declared.line.ImageCommand.TheVariants.{Explore}
use Rattle.rvmc_tool.proofs.Aloud.{hint_behind}
use Rattle.rvmc_tool.proofs.Told.{obeyed_by_search}
use Rattle.rvmc_tool.proofs.made.explored.Goals as goal

pub returns-in-Ok-clause-answers : goal.returns-in-Ok-clause-answers
returns-in-Ok-clause-answers g c = λ bytes known not_6.
    let wanted = c.args.wanted.now in
    let command = Explore wanted.harts.now wanted.states wanted.turns None wanted.buffered wanted.progress in
    let put = c.put_search-found in
    obeyed_by_search c.args.source command _ bytes c.in-Ok.bytes.items c.as_slice-whole.result.now c.tell_search.result _ _
    known c.in-Ok.ensures.whole (search rules)
    (c.tell_search.ensures.told c.args.source command _ put.ensures.told put.ensures.fault put.ensures.left not_6)

pub returns-in-Ok-clause-quiet : goal.returns-in-Ok-clause-quiet
returns-in-Ok-clause-quiet g c = λ quiet.
    hint_behind c.args.wanted.now.progress _ _ _ _ c.in-Ok.ensures.quiet c.put_search-found.ensures.progress
    (c.tell_search.ensures.quiet quiet)
