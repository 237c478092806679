-- A record that has a state, a trace and a stop of each rank.
use Rattle.std.specs.Prelude.{◌≡◌, length}
use Rattle.cl_record.specs.declared.records.Record.{Record}

-- there is a state, a trace and a stop of each rank
pub record HasEachRank (left : Record) : Type 0 where
  pub traces : length left.traces.items ≡ length left.ranks.items
  pub stops : length left.stops.items ≡ length left.ranks.items
