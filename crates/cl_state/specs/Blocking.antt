-- Receives that want their message with the reply.
use Rattle.std.specs.Prelude.{Bool, true, false}
use Rattle.cl_state.specs.declared.pending.Manner.{Manner}
use Rattle.cl_state.specs.declared.pending.Manner.TheVariants.{Blocking}

-- a blocking receive wants its message with the reply
abbrev pub is_blocking : Manner → Bool
is_blocking Blocking = true
is_blocking _ = false
