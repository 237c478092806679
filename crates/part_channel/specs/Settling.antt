-- What a channel is left with.
use Rattle.std.specs.Prelude.{◌≡◌, ◌≤◌, ℕ, List, [], ◌∷◌, ◌++◌, map, slice_get, Some}
use Rattle.part_box.specs.declared.settled.Settled.{Settled}
use Rattle.part_box.specs.declared.view.Made.{Made}
use Rattle.part_box.specs.declared.view.Got.{Got}
use Rattle.part_box.specs.Gate.{thing_of, things_of}
use Rattle.part_box.specs.Settling.{leftover, IsSettled}
use Rattle.part_box.specs.Keys.{Sender, Receiver}

-- from one box on, each box of this width is left with what its two keys made and got
abbrev pub AreSettled : ℕ → ℕ → List Sender → List Receiver → List Settled → Type 0
AreSettled width first sends recvs left =
    (i : ℕ) (s : Sender) (r : Receiver) (b : Settled) → first ≤ i → slice_get sends i ≡ Some s
    → slice_get recvs i ≡ Some r → slice_get left i ≡ Some b → IsSettled width s.view r.view b

-- what was made in each box, and what was got from each
abbrev pub made_in : Sender → List Made
made_in key = key.view.made

abbrev pub got_from : Receiver → List Made
got_from key = things_of key.view.got

-- box by box, the second list behind the first
abbrev pub joined : List (List Made) → List (List Made) → List (List Made)
joined [] ys = []
joined (x ∷ xs) [] = []
joined (x ∷ xs) (y ∷ ys) = (x ++ y) ∷ joined xs ys

-- What a channel of this width is left with, where its sides have these keys
pub record IsLeft (width : ℕ) (sends : List Sender) (recvs : List Receiver) (left : List Settled) : Type 0 where
  -- each box has what its own two keys say
  pub each : AreSettled width 0 sends recvs left
  -- in all boxes: what was made is what was got, stamps included, and then what is left, which is one thing exactly
  -- where the box is full
  pub made : map made_in sends ≡ joined (map got_from recvs) (map (leftover width) left)
  -- what was got in phase k from a box is what was made there in phase k
  pub phases : (i k : ℕ) (s : Sender) (r : Receiver) (g : Got) → slice_get sends i ≡ Some s → slice_get recvs i ≡ Some r
      → slice_get r.view.got k ≡ Some g → slice_get s.view.made k ≡ Some (thing_of g)
