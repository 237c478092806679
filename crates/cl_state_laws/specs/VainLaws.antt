-- The law of a turn in vain.
use Rattle.std.specs.Prelude.{◌≡◌, ℕ}
use Rattle.mp_types.specs.declared.replies.Reply.TheVariants as reply
use Rattle.mp_types.specs.declared.requests.Request.{Request}
use Rattle.cl_state.specs.declared.asking.Answer.{Answer}
use Rattle.cl_state.specs.declared.asking.Ask.{Ask}
use Rattle.cl_state.specs.Asked.{asked}
use Rattle.cl_state.specs.Rank.{Rank}
use Rattle.cl_state.specs.Told.{told}
use Rattle.cl_state_laws.specs.Laws.{IsLook}
use Rattle.cl_state_laws.specs.Vain.{mode_of, IsStopped, IsPatient}

abbrev pub at_clock : Rank → ℕ → Rank
at_clock rank clock = record rank { clock = clock }

-- nothing of the rank changes but its clock, which is no part of what is asked
pub record VainLaw : Type 0 where
  pub not_yet : (rank : Rank) (hart stamp : ℕ) (request : Request) → IsPatient rank hart
      → asked rank hart ≡ Ask.Hub request
      → told rank hart (Answer.Reply reply.NotYet) stamp ≡ at_clock rank stamp
  pub missed : (rank : Rank) (hart stamp : ℕ) → IsPatient rank hart → IsLook (asked rank hart)
      → told rank hart Answer.Missed stamp ≡ at_clock rank stamp
  pub held : (rank : Rank) (hart stamp : ℕ) → IsPatient rank hart → asked rank hart ≡ Ask.Held
      → told rank hart Answer.Alone stamp ≡ at_clock rank stamp
  pub stopped : (rank : Rank) (hart stamp : ℕ) (answer : Answer) → IsStopped (mode_of rank hart)
      → (asked rank hart ≡ Ask.Idle) × (told rank hart answer stamp ≡ at_clock rank stamp)
  pub timeless : (rank : Rank) (hart clock : ℕ) → asked (at_clock rank clock) hart ≡ asked rank hart
