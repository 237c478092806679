-- Ranks that wait for nothing yet: a hart that makes its call anew is taken for one that makes it for the first time.
use Rattle.std.specs.Prelude.{◌≡◌, ℕ, true, map}
use Rattle.rv_memory.specs.Access.{word_at}
use Rattle.rv_hart.specs.State.{State, in_mode}
use Rattle.rv_hart.specs.declared.state.Mode.{Mode}
use Rattle.rv_hart.specs.declared.state.Mode.TheVariants.{Running, Waiting}
use Rattle.rv_hart.specs.declared.state.Wait.TheVariants.{Again}
use Rattle.cl_state.specs.declared.asking.Answer.{Answer}
use Rattle.cl_state.specs.declared.asking.Answer.TheVariants.{Taken}
use Rattle.cl_state.specs.Asked.{is_ecall, part_of}
use Rattle.cl_state.specs.Rank.{Rank}

abbrev pub woken : Mode → Mode
woken (Waiting Again) = Running
woken mode = mode

abbrev pub awake_hart : State → State
awake_hart hart = in_mode hart (woken hart.mode)

abbrev pub awake : Rank → Rank
awake rank = record rank { harts = map awake_hart rank.harts }

-- the hart isn't to make its call anew, or stands at it: at an ECALL (RISC-V Unprivileged ISA, 2.8)
abbrev pub StandsAtCall : Rank → ℕ → Type 0
StandsAtCall rank hart =
    (part_of rank hart).hart.mode ≡ Waiting Again → is_ecall (word_at rank.memory (part_of rank hart).hart.pc) ≡ true

-- the answer is no partition's bytes
abbrev pub HasNoBytes : Answer → Type 0
HasNoBytes (Taken bytes) = ⊥
HasNoBytes _ = Unit {0}
