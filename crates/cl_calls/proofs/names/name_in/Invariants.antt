-- How the loop over the table stands before each turn: the rows before this one have other numbers.
use Rattle.std.proofs.Common.{◌≡◌, ◌==◌, drop, map}
use Rattle.std.specs.List.{find}
use Rattle.cl_calls.specs.Names.{row_view}
use Rattle.cl_calls.proofs.names.name_in.Given as goal

abbrev pub invariant-loop-row : goal.invariant-loop-row
invariant-loop-row l = find (λ row. row.0 == l.number) (drop l.row-index (map row_view l.table)) ≡ find (λ row. row.0 == l.number) (map row_view l.table)
