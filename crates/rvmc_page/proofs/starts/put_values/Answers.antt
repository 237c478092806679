use Rattle.std.proofs.Common.{arith}
use Rattle.std.specs.Prelude.{◌++◌, codes}
use Rattle.rvmc_page.specs.Starts.{hex}
use Rattle.rvmc_draw.proofs.Taken.{taken_all, taken_more}
use Rattle.rvmc_page.proofs.starts.put_values.Goals as goal

pub loop-value-preserved : goal.loop-value-preserved
loop-value-preserved c =
    taken_more (λ value. codes " " ++ hex value) c.args.values.now c.loop-value.value-index _ c.args.text.now.items
    c.loop-value.text.items c.put_value.new.text.items (omega (arith, c.loop-value-test.true)) c.loop-value.invariant
    c.in_ok-put_value.ensures

pub returns : goal.returns
returns c =
    taken_all (λ value. codes " " ++ hex value) c.args.values.now c.loop-value.value-index c.args.text.now.items
    c.loop-value.text.items (omega (arith, c.loop-value-test.false)) c.loop-value.invariant
