-- The worked rows of the gate rule.
use Rattle.std.proofs.Common.{refl}
use Rattle.cl_box_laws.specs.Worked.{KeptRow, TwiceRow, UnmadeRow}
use Rattle.cl_box_laws.proofs.Stands.{free_open, none_shut, shut_used}

pub kept : KeptRow
kept = (none_shut, (shut_used, (free_open, tt)))

pub twice : TwiceRow
twice h = h.1.0 refl

pub unmade : UnmadeRow
unmade h = h.0 refl
