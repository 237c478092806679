-- Plain turns of a hart, one after another: each does one instruction, and nobody else sees it.
use Rattle.std.specs.Prelude.{ℕ, zero, suc, ◌≡◌, ◌+◌, [], ◌∷◌, ◌++◌, None, false}
use Rattle.rv_hart.specs.State.{State}
use Rattle.rv_hart.specs.Stepped.{stepped}
use Rattle.rv_hart.specs.declared.state.Mode.TheVariants.{Running}
use Rattle.rv_memory.specs.Access.{word_at}
use Rattle.rv_memory.specs.Memory.{Memory}
use Rattle.cl_state.specs.declared.asking.Answer.TheVariants.{Alone}
use Rattle.cl_state.specs.declared.asking.Ask.TheVariants as ask
use Rattle.cl_state.specs.Asked.{asked, is_ecall}
use Rattle.cl_state.specs.Rank.{Rank}
use Rattle.cl_state.specs.Told.{told}
use Rattle.cl_deeds.specs.Deeds.{Act, Deed, RankMoves, event_of}
use Rattle.cl_rank.specs.Turning.{RankView}
use Rattle.cl_deeds.specs.Turns.{AllStopped}

-- so many steps, each from where the one before it led
abbrev pub Repeats : {S : Type 0} → (S → S → Type 0) → ℕ → S → S → Type 0
Repeats Step zero old new = new ≡ old
Repeats {S} Step (suc n) old new = (mid : S) × Step old mid × Repeats Step n mid new

-- an instruction of a running hart that is no call: what it makes of the hart and of the memory
pub record IsHartStep (old new : State × Memory) : Type 0 where
  pub running : old.0.mode ≡ Running
  pub no_call : is_ecall (word_at old.1 old.0.pc) ≡ false
  pub steps : new ≡ ((stepped old.0 old.1).state, (stepped old.0 old.1).memory)

-- an instruction of a hart, at the stamp behind the rank's clock
pub record IsPlainStep (hart : ℕ) (old new : Rank) : Type 0 where
  pub runs : ¬ (AllStopped old)
  pub asks : asked old hart ≡ ask.Plain
  pub tells : new ≡ told old hart Alone (old.clock + 1)

abbrev pub plain_deed : Rank → ℕ → Deed
plain_deed rank hart = record { rank = rank.site.number; hart = hart; stamp = rank.clock + 1; act = Act.Plain }

-- a turn of a hart that is such a step: its event stands behind the events before, and no side changes
pub record IsPlainTurn (hart : ℕ) (old new : RankView) : Type 0 where
  pub runs : ¬ (AllStopped old.rank)
  pub moves : RankMoves old.rank (plain_deed old.rank hart) new.rank
  pub event : new.events ≡ old.events ++ event_of (plain_deed old.rank hart) ∷ []
  pub sides_stay : new.sides ≡ old.sides
  pub asks_none : new.asked_box ≡ None
