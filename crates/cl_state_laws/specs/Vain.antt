-- Turns that change nothing: a waiting hart is told that nothing is there, or the hart is stopped.
use Rattle.std.specs.Prelude.{◌≡◌, ℕ, Bool, true, false, T}
use Rattle.rv_hart.specs.State.{is_stopped}
use Rattle.rv_hart.specs.declared.state.Mode.{Mode}
use Rattle.rv_hart.specs.declared.state.Mode.TheVariants.{Waiting}
use Rattle.cl_calls.specs.declared.calls.Call.TheVariants as call
use Rattle.cl_state.specs.declared.asking.Doing.{Doing}
use Rattle.cl_state.specs.declared.asking.Doing.TheVariants.{Go, Poll}
use Rattle.cl_state.specs.Asked.{part_of, doing}
use Rattle.cl_state.specs.Rank.{Rank}

abbrev pub mode_of : Rank → ℕ → Mode
mode_of rank hart = (part_of rank hart).hart.mode

-- the hart is stopped for good
abbrev pub IsStopped : Mode → Type 0
IsStopped mode = T (is_stopped mode)

abbrev pub IsWaiting : Mode → Type 0
IsWaiting (Waiting wait) = Unit {0}
IsWaiting _ = ⊥

-- a poll of a post, and a call that is made anew until there is something (MPI 4.1, 3.7.3, 3.7.5 and 3.8)
abbrev pub waits_on : Doing → Bool
waits_on (Poll c post) = true
waits_on (Go (call.Wait c)) = true
waits_on (Go (call.Probe p)) = true
waits_on (Go (call.Mprobe p)) = true
waits_on (Go (call.Waitall s)) = true
waits_on _ = false

-- a hart that waits, and waits on where nothing is there
pub record IsPatient (rank : Rank) (hart : ℕ) : Type 0 where
  pub waits : IsWaiting (mode_of rank hart)
  pub on : waits_on (doing rank.site (part_of rank hart)) ≡ true
