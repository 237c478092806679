use Rattle.std.proofs.Common.{◌≡◌, ◌∙◌, ◌<◌, ap, arith, get_or}
use Rattle.std.proofs.lemmas.Grind.{common_steps}
use Rattle.rvmc_inspect.specs.Unreceived.{number_line, count_of_sends}
use Rattle.rvmc_inspect.proofs.Lines.{line_more}
use Rattle.rvmc_inspect.proofs.unreceived.put_sender.Goals as goal

pub loop-tag-preserved : goal.loop-tag-preserved
loop-tag-preserved c =
    let tag = c.loop-tag.tag in
    let source = c.args.source in
    let sends = c.args.sends.now in
    let there : tag < c.args.tags = c.loop-tag-test.true in
    let read : c.index.result.now ≡ get_or c.in_ok-numbers.numbers.items tag 0 = grind (arith, common_steps, there) in
    line_more (λ t. number_line source t (count_of_sends source t sends)) c.args.text.now.items c.loop-tag.text.items
    (number_line source tag c.index.result.now) _ tag c.loop-tag.invariant
    (ap (number_line source tag) (read ∙ c.in_ok-numbers.ensures.numbers tag there)) c.in_ok-put_number.ensures
