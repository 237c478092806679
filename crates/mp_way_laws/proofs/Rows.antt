-- The worked rows compute.
use Rattle.std.proofs.Common.{refl}
use Rattle.mp_way_laws.specs.Rows.{WorkedWays}

pub worked_ways : WorkedWays
worked_ways = record {
  on_its_way = (refl, refl);
  overtaken = refl;
  named = refl;
  first = refl;
  synchronous = (refl, refl, refl);
  waits = (refl, refl, refl, refl, refl);
  synchronous_at_once = (refl, refl, refl);
}
