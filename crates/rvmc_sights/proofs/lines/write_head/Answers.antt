use Rattle.std.proofs.Common.{arith}
use Rattle.std.proofs.Math.ListN.{drop_of_length-le}
use Rattle.rvmc_sights.proofs.lines.write_head.Goals as goal

pub returns-clause-written : goal.returns-clause-written
returns-clause-written c =
    let none = drop_of_length-le c.args.row.now {i = 104} (omega arith) in
    rw (
      c.write_decimal.ensures.written.written,
      c.write_word-at-4.ensures.written,
      c.write_decimal-at-3.ensures.written.written,
      c.write_word-at-3.ensures.written,
      c.write_decimal-at-2.ensures.written.written,
      c.write_word-at-2.ensures.written,
      c.write_decimal-at.ensures.written.written,
      c.write_word-at.ensures.written,
      c.from.ensures,
      c.from-2.ensures,
      c.stamp.ensures,
      c.hart.ensures,
      c.rank.ensures,
      none,
    )
