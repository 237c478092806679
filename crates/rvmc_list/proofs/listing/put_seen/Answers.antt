use Rattle.std.proofs.Common.{subst}
use Rattle.std.specs.Prelude.{Option}
use Rattle.rvmc_list.specs.Putting.{IsDone}
use Rattle.rvmc_list.specs.declared.walk.Done.{Done}
use Rattle.rvmc_list.proofs.PutSteps.{put_done}
use Rattle.rvmc_list.proofs.listing.put_seen.Goals as goal

pub returns-clause-puts : goal.returns-clause-puts
returns-clause-puts c =
    let due = c.args.due.now in
    let done = subst (λ (d : Option Done). IsDone c.args.state.now due.step.now c.do_step.new.state d) c.in-Some.is
    c.in_ok-done.ensures.done in
    put_done c.args.symbols.now c.args.wanted.now c.args.state.now due.place due.phase due.step.now c.do_step.new.state
    c.args.text.now.items c.args.begun c.put_line.new.text.items c.in_ok-put_line.field-0 c.in-Some.done done
    c.requires.told c.in_ok-put_line.ensures.text c.in_ok-put_line.ensures.begun
