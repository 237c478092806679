-- What the code says of a session, step by step.
use Rattle.std.specs.Prelude.{◌≡◌, ◌⊎◌, ⊤, Option, ℕ}
use Rattle.cl_text.specs.declared.front.input.FrontFault.{FrontFault}
use Rattle.cl_text.specs.declared.front.input.FrontFault.TheVariants as front
use Rattle.rvmc_gdb.specs.Serving.{Serving}
use Rattle.rvmc_gdb.specs.Talks.{Connection, connected}
use Rattle.rvmc_gdb.specs.Below.{Fault}
use Rattle.rvmc_gdb.specs.Below.faults
use Rattle.rvmc_serve.specs.Sessions.{IsOpened, Reading, Refuses}

-- how a fault of the front is told
abbrev pub fault_of_front : FrontFault → Fault
fault_of_front front.Read = faults.Read
fault_of_front front.Memory = faults.Memory

-- a fault of the front: memory was refused, or a read failed
abbrev pub IsOfFront : Fault → Type 0
IsOfFront fault = (fault ≡ faults.Memory) ⊎ (fault ≡ faults.Read)

-- a session was opened, of which nothing is heard yet
abbrev pub IsOpenedAs : Option ℕ → Reading → Connection → Type 0
IsOpenedAs rank read connection = (serving : Serving) × IsOpened rank read serving × (connection ≡ connected serving)

-- a fault is that of what was read as a record, unless memory was refused, or a read or a write failed
abbrev pub IsFaultOf : Option ℕ → Reading → Fault → Type 0
IsFaultOf rank read faults.Memory = ⊤
IsFaultOf rank read faults.Read = ⊤
IsFaultOf rank read faults.Write = ⊤
IsFaultOf rank read fault = Refuses rank read fault

-- what cuts a session short: memory was refused, a read failed, or a write; only then nothing is said of what is written
abbrev pub CutsShort : Fault → Type 0 → Type 0
CutsShort faults.Memory Written = Written
CutsShort faults.Read Written = Written
CutsShort faults.Write Written = ⊤
CutsShort other Written = ⊥
