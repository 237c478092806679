-- The phases so far are those of the links before this one.
use Rattle.std.proofs.Common.{◌≡◌, map, take}
use Rattle.std.specs.Prelude.{All}
use Rattle.part_phase.specs.Phases.{IsPhase, first_phase}
use Rattle.part_phase.proofs.phases.Phases.of.Given as goal

abbrev pub invariant-loop-link : goal.invariant-loop-link
invariant-loop-link l = record {
  first : l.list.items ≡ map (first_phase l.rank) (take l.link-index l.all);
  kept : All IsPhase l.list.items;
}
