use Rattle.std.proofs.Common.{◌≡◌, ◌∙◌, length, subst}
use Rattle.rvmc_explore.specs.Splitting.{AddsLeft}
use Rattle.rvmc_explore.proofs.EachStart.{has_each}
use Rattle.rvmc_explore.proofs.splitting.starts_of.Goals as goal

pub returns-clause-each : goal.returns-clause-each
returns-clause-each c =
    let found = c.args.found.now in
    let mid = c.put_left.new.numbers.items in
    let many : c.len.result ≡ length found.nodes.items = c.len.ensures ∙ found.nodes.ok.0 in
    let ends_are : c.in_ok-numbers.numbers.items ≡ found.ends.items =
    c.in_ok-numbers.ensures.items ∙ c.as_slice.ensures.value in
    has_each (length found.nodes.items) found.left found.ends.items mid c.put_nowhere.new.numbers.items
    c.in_ok-nowhere.nowhere
    (subst (λ n. AddsLeft n found.left found.ends.items mid) many
    (subst (λ ends. AddsLeft c.len.result found.left ends mid) ends_are c.in_ok-put_left.ensures)) c.in_ok-put_nowhere.ensures
