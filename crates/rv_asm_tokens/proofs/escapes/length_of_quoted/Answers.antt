use Rattle.std.proofs.Common.{sym, false}
use Rattle.rv_asm_tokens.specs.Escapes.{quoted_length}
use Rattle.rv_asm_tokens.proofs.Steps.{quote_ends, quote_stops, quote_bad, quote_goes}
use Rattle.rv_asm_tokens.proofs.escapes.length_of_quoted.Goals as goal

pub returns-in-End-clause-value : goal.returns-in-End-clause-value
returns-in-End-clause-value c = let l = c.loop-i in sym (quote_stops l.escaped l.i c.args.bytes.now (quoted_length false 0 c.args.bytes.now) c.loop-i-test.true (sym c.in-End.ensures) l.invariant)

pub returns-in-Bad-clause-value : goal.returns-in-Bad-clause-value
returns-in-Bad-clause-value c = let l = c.loop-i in sym (quote_bad l.escaped l.i c.args.bytes.now (quoted_length false 0 c.args.bytes.now) c.loop-i-test.true (sym c.in-Bad.ensures) l.invariant)

pub loop-i-preserved : goal.loop-i-preserved
loop-i-preserved c = let l = c.loop-i in quote_goes l.escaped l.i c.args.bytes.now c.in-Go.next (quoted_length false 0 c.args.bytes.now) c.loop-i-test.true (sym c.in-Go.ensures) l.invariant

pub returns-clause-value : goal.returns-clause-value
returns-clause-value c = let l = c.loop-i in sym (quote_ends l.escaped l.i c.args.bytes.now (quoted_length false 0 c.args.bytes.now) c.loop-i-test.false l.invariant)
