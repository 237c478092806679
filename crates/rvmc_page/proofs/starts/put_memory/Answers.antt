use Rattle.std.proofs.Common.{rules}
use Rattle.rvmc_page.proofs.Joined.{row_more}
use Rattle.rvmc_page.proofs.starts.put_memory.Goals as goal

pub loop-number-preserved : goal.loop-number-preserved
loop-number-preserved c =
    row_more c.args.bytes.now c.args.text.now.items c.loop-number.text.items c.put_row.new.text.items
    c.loop-number.number c.min.result (search rules) (search rules) c.loop-number.invariant (search rules)
