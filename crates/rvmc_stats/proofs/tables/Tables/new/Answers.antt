use Rattle.std.proofs.Common.{rules, ◌≡◌}
use Rattle.rvmc_stats.proofs.Tabling.{no_steps}
use Rattle.rvmc_stats.specs.declared.tables.Tables.{Tables}
use Rattle.rvmc_stats.proofs.tables.Tables.new.Goals as goal

pub returns : goal.returns
returns c =
    let new : Tables = record {
      taken = c.in_ok-new.field-0;
      waits = c.in_ok-new-2.field-0;
      turns = c.in_ok-new-3.field-0;
      calls = c.in_ok-new-4.field-0;
      mail = c.in_ok-new-5.field-0;
      places = c.in_ok-new-6.field-0;
    } in
    no_steps c.args.ranks c.args.words new (search rules) (search rules) (search rules) (search rules) (search rules)
    (search rules)
