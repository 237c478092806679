-- The registers of a rank's harts, in each state that its turns lead to.
use Rattle.std.specs.Prelude.{ℕ, ◌<◌, ◌≡◌, List, [], ◌∷◌, length}
use Rattle.rv_image_types.specs.declared.images.ImageParts.{ImageParts}
use Rattle.cl_state.specs.declared.asking.Answer.{Answer}
use Rattle.cl_state.specs.Rank.{Rank, loaded}
use Rattle.cl_state.specs.Asked.{part_of}
use Rattle.cl_state.specs.Told.{told}

-- a turn of a hart: what it was told, and the stamp of its event
pub record Turn : Type 0 where
  pub hart : ℕ
  pub answer : Answer
  pub stamp : ℕ

-- the rank after these turns, in their order
abbrev pub after_turns : Rank → List Turn → Rank
after_turns rank [] = rank
after_turns rank (t ∷ ts) = after_turns (told rank t.hart t.answer t.stamp) ts

-- a rank to which turns lead from an image's start
pub record IsReached (rank : Rank) : Type 0 where
  pub image : ImageParts
  pub number : ℕ
  pub turns : List Turn
  pub is : rank ≡ after_turns (loaded image number) turns

-- each hart has 32 registers (RISC-V Unprivileged ISA 20191213, 2.1)
abbrev pub HasRegisters : Rank → Type 0
HasRegisters rank = (hart : ℕ) → hart < length rank.harts → length (part_of rank hart).hart.regs ≡ 32

-- so it is where an image is loaded, each turn keeps it, and so it is in every state that is reached
pub record RegistersLaw : Type 0 where
  pub first : (image : ImageParts) (number : ℕ) → HasRegisters (loaded image number)
  pub kept : (rank : Rank) (hart : ℕ) (answer : Answer) (stamp : ℕ) → HasRegisters rank
      → HasRegisters (told rank hart answer stamp)
  pub reached : (rank : Rank) → IsReached rank → HasRegisters rank
