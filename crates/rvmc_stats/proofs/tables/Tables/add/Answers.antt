use Rattle.std.proofs.Common.{rules, ◌≡◌}
use Rattle.rvmc_stats.proofs.Tabling.{one_step}
use Rattle.rvmc_stats.specs.Counted.{taken_seen}
use Rattle.rvmc_stats.specs.declared.tables.Tables.{Tables}
use Rattle.rvmc_stats.proofs.tables.Tables.add.Goals as goal

pub returns : goal.returns
returns c =
    let new : Tables = record {
      taken = c.count_taken.new.taken;
      waits = c.count_wait.new.waits;
      turns = c.count_turn.new.turns;
      calls = c.count_call.new.calls;
      mail = c.add_step.new.self;
      places = c.count_place.new.places;
    } in
    one_step c.args.self.now new (taken_seen c.args.step.now c.args.before.now c.args.after.now) c.count_taken.ensures
    c.count_wait.ensures c.count_turn.ensures c.count_call.ensures c.add_step.ensures c.count_place.ensures
