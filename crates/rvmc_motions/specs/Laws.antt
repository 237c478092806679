-- The laws of motions.
use Rattle.std.specs.Prelude.{ℕ, ◌≡◌, ◌<◌, ◌≤◌, ◌⊎◌, List, length, Option, Some, None, true}
use Rattle.rv_image_types.specs.declared.images.ImageParts.{ImageParts}
use Rattle.rv_hart.specs.State.{State, is_stopped}
use Rattle.cl_state.specs.Rank.{Rank}
use Rattle.cl_machine.specs.Cluster.{Cluster}
use Rattle.cl_machine.specs.declared.steps.Step.{Step}
use Rattle.cl_replay.specs.Replays.{IsRunUpTo}
use Rattle.cl_debug.specs.Debugging.{Debugging}
use Rattle.rvmc_motions.specs.declared.marks.Halt.{Halt}
use Rattle.rvmc_motions.specs.declared.marks.Mark.{Mark}
use Rattle.rvmc_motions.specs.declared.marks.Mover.{Mover}
use Rattle.rvmc_motions.specs.Motions.{GoesBackwards, GoesForwards, IsFirstBehind, IsLastBefore}
use Rattle.rvmc_motions.specs.declared.turns.Whose.{Whose}
use Rattle.rvmc_motions.specs.Turns.{IsHistory, backward_stop, broken_at, forward_stop, is_live, stepped}

-- whatever ends a motion, it leads to one place, and ends there for one cause
pub record OnePlaceLaw : Type 0 where
  pub behind : (stops : ℕ → Option Halt) (from length one other : ℕ) (mover : Mover) (first second : Halt)
      → IsFirstBehind stops from length mover one first → IsFirstBehind stops from length mover other second
      → (one ≡ other) × (first ≡ second)
  pub before : (stops : ℕ → Option Halt) (from one other : ℕ) (mover : Mover) (first second : Halt)
      → IsLastBefore stops from mover one first → IsLastBefore stops from mover other second
      → (one ≡ other) × (first ≡ second)

-- each run has a history, and one alone up to its end
pub record HistoryLaw : Type 0 where
  pub there : (image : ImageParts) (steps : List Step) → IsRunUpTo image steps (length steps)
      → (history : ℕ → Cluster) × IsHistory image steps history
  pub one : (image : ImageParts) (steps : List Step) (one other : ℕ → Cluster) (n : ℕ) → IsRunUpTo image steps (length steps)
      → n ≤ length steps → IsHistory image steps one → IsHistory image steps other → one n ≡ other n

-- a motion doesn't stay, and goes one way
pub record StaysLaw : Type 0 where
  pub behind : (stops : ℕ → Option Halt) (from length to : ℕ) (mover : Mover) (halt : Halt) → from ≤ length
      → IsFirstBehind stops from length mover to halt → (from < to) ⊎ ((from ≡ length) × (to ≡ length))
  pub before : (stops : ℕ → Option Halt) (from to : ℕ) (mover : Mover) (halt : Halt)
      → IsLastBefore stops from mover to halt → (to < from) ⊎ ((from ≡ 0) × (to ≡ 0))

-- by what `forwards` and `backwards` promise alone: no motion stays, unless at an end; forwards none of the places that it
-- passes ends it; and backwards none does that is behind the one where it ends
pub record PassesNoneLaw : Type 0 where
  pub on : (old new : Debugging) (marks : List Mark) (mover : Mover) (halt : Halt) (history : ℕ → Cluster)
      → IsHistory old.image old.steps history → GoesForwards old marks mover halt new
      → (n : ℕ) → old.place < n → n < new.place → forward_stop mover marks old.steps history n ≡ None
  pub back : (old new : Debugging) (marks : List Mark) (mover : Mover) (halt : Halt) (history : ℕ → Cluster)
      → IsHistory old.image old.steps history → GoesBackwards old marks mover halt new
      → (n : ℕ) → new.place < n → n < old.place → backward_stop mover marks old.steps history n ≡ None
  pub leaves : (old new : Debugging) (marks : List Mark) (mover : Mover) (halt : Halt) (history : ℕ → Cluster)
      → IsHistory old.image old.steps history → old.place < length old.steps
      → GoesForwards old marks mover halt new → old.place < new.place
  pub returns : (old new : Debugging) (marks : List Mark) (mover : Mover) (halt : Halt) (history : ℕ → Cluster)
      → IsHistory old.image old.steps history → 0 < old.place
      → GoesBackwards old marks mover halt new → new.place < old.place

-- a stopped hart's turn ends no motion but for a watchpoint, and is none that a step could end with
pub record IdleLaw : Type 0 where
  pub breaks : (rank : ℕ) (marks : List Mark) (hart : State) → is_stopped hart.mode ≡ true
      → broken_at rank marks (Some hart) ≡ None
  pub steps : (mover : Mover) (turn : Whose) (hart : State) (behind : Rank) → is_stopped hart.mode ≡ true
      → stepped mover turn (is_live (Some hart)) behind ≡ None
