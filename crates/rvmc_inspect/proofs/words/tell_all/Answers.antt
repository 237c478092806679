use Rattle.std.proofs.Common.{◌++◌, sym, subst, take, ◌+◌}
use Rattle.rvmc_inspect.specs.Words.{Walks}
use Rattle.rvmc_inspect.proofs.Walking.{walks_next}
use Rattle.rvmc_inspect.proofs.words.tell_all.Goals as goal

pub loop-word-preserved : goal.loop-word-preserved
loop-word-preserved c =
    let k = c.loop-word.word-index in
    let old = c.args.debugger.now in
    let words = c.args.words.now in
    let next = c.put_word.new.debugger in
    let did = c.in_default.ensures.does in
    let walked = walks_next old words k c.loop-word.debugger next c.loop-word.text.items did.0 c.word-item.result
    c.loop-word-test.true c.word-item.is c.loop-word.invariant did.1 in
    subst (λ t. Walks old (take (k + 1) words) next t) (sym did.2) walked
