use Rattle.std.proofs.Common.{◌≡◌, drop}
use Rattle.std.specs.Prelude.{filter}
use Rattle.mp_request.specs.Entries.{is_active}
use Rattle.mp_request.specs.Table.{has, is_distinct}
use Rattle.mp_request.proofs.table.Requests.names_active_once.Given as goal

-- the handles up to here don't matter
abbrev pub invariant-loop-place : goal.invariant-loop-place
invariant-loop-place l =
    is_distinct (filter (has is_active l.self) l.handles)
    ≡ is_distinct (filter (has is_active l.self) (drop l.place l.handles))
