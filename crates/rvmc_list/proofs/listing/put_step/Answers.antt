use Rattle.std.proofs.Common.{◌≡◌, true, rules}
use Rattle.rvmc_list.specs.Folding.{is_plain, is_wanted}
use Rattle.rvmc_list.proofs.Plains.{plain_line_put}
use Rattle.rvmc_list.proofs.listing.put_step.Goals as goal

pub returns-then-is_plain-clause-puts : goal.returns-then-is_plain-clause-puts
returns-then-is_plain-clause-puts c =
    let step = c.args.due.now.step.now in
    let told : is_wanted c.args.wanted.now step ≡ true = search rules in
    let plain : is_plain step.kind ≡ true = search rules in
    plain_line_put c.args.symbols.now c.args.wanted.now c.args.state.now c.args.due.now.place c.args.due.now.phase step
    c.put_plain_line.new.state c.args.text.now.items c.args.begun c.put_plain_line.new.text.items
    c.in_ok-put_plain_line.ensures.puts told plain
