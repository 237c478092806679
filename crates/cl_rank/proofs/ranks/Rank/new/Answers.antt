use Rattle.std.proofs.Common.{ap, length, arith}
use Rattle.cl_state.specs.Room.{rank_of}
use Rattle.cl_trace.specs.Rising.{last_stamp}
use Rattle.cl_rank.proofs.Loads.{clock_low, new_fit, new_sides}
use Rattle.cl_rank.proofs.ranks.Rank.new.Goals as goal

pub invariant_of-result : goal.invariant_of-result
invariant_of-result c =
    let is = c.in_ok-load.ensures.loaded in
    let count = ap length c.new.ensures in
    let last = ap (last_stamp 0) c.new.ensures in
    record {
      low = clock_low (rank_of c.in_ok-load.field-0) c.args.image.now c.args.rank is;
      within = omega (arith, count);
      stamped = omega (arith, last);
      sides = new_sides (rank_of c.in_ok-load.field-0) c.args.image.now c.args.rank is c.args.sends.items c.args.recvs.items
          c.requires;
      fit = new_fit (rank_of c.in_ok-load.field-0) c.args.image.now c.args.rank is;
      room = tt;
    }
