-- How the loop over the table stands before each turn: the rows before this one have other names.
use Rattle.std.proofs.Common.{◌≡◌, drop, map}
use Rattle.std.specs.List.{find}
use Rattle.std.specs.Str.{bytes_eq}
use Rattle.cl_calls.specs.Names.{row_view}
use Rattle.cl_calls.proofs.names.number_in.Given as goal

abbrev pub invariant-loop-row : goal.invariant-loop-row
invariant-loop-row l = find (λ row. bytes_eq row.1 l.name) (drop l.row-index (map row_view l.table)) ≡ find (λ row. bytes_eq row.1 l.name) (map row_view l.table)
