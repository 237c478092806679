use Rattle.std.proofs.Common.{arith}
use Rattle.rvmc_page.specs.Texts.{source_text}
use Rattle.rvmc_draw.proofs.Taken.{taken_all, taken_more}
use Rattle.rvmc_page.proofs.texts.put_texts.Goals as goal

pub loop-source-preserved : goal.loop-source-preserved
loop-source-preserved c =
    taken_more source_text c.args.sources.now c.loop-source.source-index _ c.args.text.now.items
    c.loop-source.text.items c.put_source.new.text.items (omega (arith, c.loop-source-test.true)) c.loop-source.invariant
    c.in_ok-put_source.ensures

pub returns : goal.returns
returns c =
    taken_all source_text c.args.sources.now c.loop-source.source-index c.args.text.now.items
    c.loop-source.text.items (omega (arith, c.loop-source-test.false)) c.loop-source.invariant
