-- The sender's side of a link (MPI 4.1, chapter 4.2): its shape, which partitions are ready in this phase, and how many
-- of them, from the lowest on, were freed: their takes are known.
use Rattle.std.specs.Prelude.{ℕ, ◌+◌, ◌≤◌, ◌==◌, nat_le, List, replicate, set, get_or, Bool, true, false, Option}
use Rattle.std.specs.Prelude.{Some, None}
use Rattle.std.specs.Prelude.{if◌then◌else◌}
use Rattle.part_phase.specs.declared.sending.SendPhase.{SendPhase}

-- none of the sixteen
abbrev pub none_marked : List Bool
none_marked = replicate 16 false

-- what every sender's side keeps: the limits of a shape, and no more is freed than there is
pub record IsSendPhase (p : SendPhase) : Type 0 where
  pub most : p.parts ≤ 16
  pub largest : p.size ≤ 128
  pub within : p.freed ≤ p.parts

-- a side that no transfer has: its shape is 0 of 0
abbrev pub unshaped_sending : SendPhase
unshaped_sending = record { parts = 0; size = 0; ready = none_marked; freed = 0 }

-- a transfer has the side; no phase is going on, so all partitions are freed
abbrev pub shaped_sending : ℕ → ℕ → SendPhase → SendPhase
shaped_sending parts size p = record p { parts = parts; size = size; freed = parts }

-- no phase is going on
abbrev pub all_freed : SendPhase → Bool
all_freed p = nat_le p.parts p.freed

-- a phase begins, in which no partition is ready and none freed. One that is going on goes on
abbrev pub begun_sending : SendPhase → SendPhase
begun_sending p = if all_freed p then record p { ready = none_marked; freed = 0 } else p

-- the lowest partition of this phase that isn't freed
abbrev pub next_to_free : SendPhase → Option ℕ
next_to_free p = if all_freed p then None else Some p.freed

abbrev pub is_part_ready : SendPhase → ℕ → Bool
is_part_ready p part = get_or p.ready part false

-- a partition is made ready
abbrev pub readied : ℕ → SendPhase → SendPhase
readied part p = record p { ready = set p.ready part true }

abbrev pub is_last : SendPhase → Bool
is_last p = p.freed + 1 == p.parts

-- the lowest partition that isn't freed is freed; with the last one the phase ends, and none is ready
abbrev pub one_freed : SendPhase → SendPhase
one_freed p = record p { ready = if is_last p then none_marked else p.ready; freed = p.freed + 1 }
