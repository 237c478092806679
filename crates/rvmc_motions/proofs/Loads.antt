-- The instruction that was decoded before is the one at the pc.
use Rattle.std.proofs.Common.{◌≡◌, ◌∙◌, ap}
use Rattle.rv_decode.specs.declared.instruction.Instr.{Instr}
use Rattle.rv_hart.specs.State.{State}
use Rattle.rv_memory.specs.Fetched.{IsFetched}
use Rattle.rv_memory.specs.Memory.{Memory}
use Rattle.rvmc_motions.specs.Reads.{load_range, loaded_by, range_decoded, range_fetched}

pub fetched_loads : (m : Memory) (s : State) (i : Instr) → IsFetched m s.pc i → load_range s m ≡ loaded_by i s m
unfolding load_range
fetched_loads m s i fetched =
    ap (λ word. range_fetched word s m) fetched.there ∙ ap (λ instr. range_decoded instr s m) fetched.decodes
