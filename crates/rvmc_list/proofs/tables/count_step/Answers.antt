use Rattle.std.proofs.Common.{rules, ◌≡◌, true, subst}
use Rattle.std.specs.Prelude.{Option}
use Rattle.rvmc_list.specs.Folding.{is_of_rank}
use Rattle.rvmc_list.specs.Putting.{IsDone}
use Rattle.rvmc_list.specs.declared.walk.Done.{Done}
use Rattle.rvmc_list.proofs.Counts.{is_counted}
use Rattle.rvmc_list.proofs.tables.count_step.Goals as goal

pub returns-clause-counts : goal.returns-clause-counts
returns-clause-counts c =
    let of_rank : is_of_rank c.args.rank c.args.step.now.rank ≡ true = search rules in
    let done = subst (λ (d : Option Done). IsDone c.args.state.now c.args.step.now c.do_step.new.state d) c.in-Some.is
    c.in_ok-done.ensures.done in
    is_counted c.args.rank c.args.state.now c.args.place c.args.step.now c.do_step.new.state c.args.tables.now
    c.add.new.self c.in-Some.done of_rank done c.add.ensures
