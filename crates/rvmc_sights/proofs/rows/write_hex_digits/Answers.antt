use Rattle.std.proofs.Common.{◌≡◌, ◌+◌, ◌-◌, arith, append_assoc}
use Rattle.std.proofs.lemmas.List.{drop-set}
use Rattle.rvmc_sights.proofs.Hex.{hex_last, hex_step, long_last, long_step}
use Rattle.rvmc_sights.proofs.rows.write_hex_digits.Goals as goal

pub overflow_sub-at : goal.overflow_sub-at
overflow_sub-at c = let long = long_step c.loop-left.left c.loop-left-test.true c.loop-left.auto.left-fits.fits in omega arith

pub bounds-row-at : goal.bounds-row-at
bounds-row-at c = let long = long_step c.loop-left.left c.loop-left-test.true c.loop-left.auto.left-fits.fits in omega arith

pub loop-left-preserved : goal.loop-left-preserved
loop-left-preserved c =
    let l = c.loop-left in
    let long = long_step l.left c.loop-left-test.true l.auto.left-fits.fits in
    let next : l.at - 1 + 1 ≡ l.at = omega arith in
    record {
      room = omega arith;
      within = omega arith;
      long = omega arith;
      written = rw (drop-set l.row (l.at - 1) c.hex_digit.result (omega arith), next, c.hex_digit.ensures)
          (rw (hex_step l.left c.loop-left-test.true l.auto.left-fits.fits, append_assoc) at l.invariant.written);
    }

pub overflow_sub-at-2 : goal.overflow_sub-at-2
overflow_sub-at-2 c = let long = long_last c.loop-left.left c.loop-left-test.false in omega arith

pub bounds-row-at-2 : goal.bounds-row-at-2
bounds-row-at-2 c = let long = long_last c.loop-left.left c.loop-left-test.false in omega arith

pub returns : goal.returns
returns c =
    let l = c.loop-left in
    let long = long_last l.left c.loop-left-test.false in
    let next : l.at - 1 + 1 ≡ l.at = omega arith in
    record {
      begins = omega arith;
      written = rw (drop-set l.row (l.at - 1) c.hex_digit-2.result (omega arith), next, c.hex_digit-2.ensures)
          (rw (hex_last l.left c.loop-left-test.false) at l.invariant.written);
    }
