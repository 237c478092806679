use Rattle.std.proofs.Common.{◌++◌, ◌∙◌, ap, arith}
use Rattle.rvmc_page.specs.Told.{symbol_entry}
use Rattle.rvmc_draw.proofs.Taken.{taken_all, taken_more}
use Rattle.rvmc_page.proofs.told.put_names.Goals as goal

pub loop-symbol-preserved : goal.loop-symbol-preserved
loop-symbol-preserved c =
    taken_more symbol_entry c.args.symbols.now c.loop-symbol.symbol-index c.symbol-item.result c.args.text.now.items
    c.loop-symbol.text.items c.put_name.new.text.items (omega (arith, c.loop-symbol-test.true)) c.loop-symbol.invariant
    (c.in_ok-put_name.ensures ∙ ap (λ symbol. c.loop-symbol.text.items ++ symbol_entry symbol) c.symbol-item.is)

pub returns : goal.returns
returns c =
    taken_all symbol_entry c.args.symbols.now c.loop-symbol.symbol-index c.args.text.now.items
    c.loop-symbol.text.items (omega (arith, c.loop-symbol-test.false)) c.loop-symbol.invariant
