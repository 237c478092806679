-- The gate rule: what the words of a box say of what its two keys know.
use Rattle.std.specs.Prelude.{◌≡◌, ℕ, ◌+◌, ◌^◌, ◌<◌, ◌%◌, ◌==◌, if◌then◌else◌, List, [], ◌∷◌, ◌++◌, drop, length}
use Rattle.std.specs.Prelude.{slice_index, Some, None, true, false, All}
use mathlib.Core.Option.{some}
use lib.ListN.{get_elem?}
use Rattle.atomic_table.specs.Table.{State}
use Rattle.part_box.specs.declared.view.Made.{Made}
use Rattle.part_box.specs.declared.view.Sending.{Sending}
use Rattle.part_box.specs.declared.view.Receiving.{Receiving}
use Rattle.part_box.specs.declared.view.View.{View}
use Rattle.part_box.specs.Gate.{stamp_of, IsEmptyGate, IsFullGate, things_of, last_take, IsInTurn, IsLimited, ShowsTake}
use Rattle.part_box.specs.Gate.{ShowsMade}

-- word 0
abbrev pub gate_of : List ℕ → ℕ
gate_of words = slice_index words 0

-- data word i stands behind the gate
abbrev pub data_word : List ℕ → ℕ → ℕ
data_word words i = slice_index words (i + 1)

-- these are the first data words
abbrev pub DataStartsWith : List ℕ → List ℕ → Type 0
DataStartsWith words xs = (i : ℕ) → i < length xs → data_word words i ≡ slice_index xs i

-- the thing that the words spell: it has the gate's stamp, and all words behind the gate
abbrev pub thing_in : List ℕ → Made
thing_in words = record { stamp = stamp_of (gate_of words); words = drop 1 words }

-- what the box has: that thing where the gate is odd, and else nothing
abbrev pub contents_of : List ℕ → List Made
contents_of words = if gate_of words % 2 == 1 then thing_in words ∷ [] else []

-- The gate rule, clause by clause: of the words of a box of some width, of what its sender knows, and of what its
-- receiver knows
pub record GateRule (width : ℕ) (words : List ℕ) (s : Sending) (r : Receiving) : Type 0 where
  -- the words are the gate and the data words
  pub counted : length words ≡ width + 1
  -- the gate's stamp is below 2^62
  pub low : stamp_of (gate_of words) < 2 ^ 62
  -- what was made is what was got, and then what the box has: one thing exactly where the gate is odd
  pub made : s.made ≡ things_of r.got ++ contents_of words
  -- an even gate has the stamp of the last take, 0 at first
  pub empty : IsEmptyGate (gate_of words) → stamp_of (gate_of words) ≡ last_take r.got
  -- made stamp k < take stamp k < made stamp k + 1
  pub in_turn : IsInTurn s.made r.got
  -- and each of them is below 2^62
  pub limited : IsLimited s.made r.got
  -- where the sender is open the gate is even, its stamp is the sender's front, and what is filled stands in the first
  -- data words
  pub open_sender : s.is_open ≡ true
      → IsEmptyGate (gate_of words) × (s.front ≡ stamp_of (gate_of words)) × DataStartsWith words s.filled
  -- where it isn't, nothing is filled
  pub closed_sender : s.is_open ≡ false → s.filled ≡ []
  -- where the receiver has seen a stamp the gate is odd with that stamp, and what is copied are the first data words
  pub seeing_receiver : (n : ℕ) → r.seen ≡ Some n
      → IsFullGate (gate_of words) × (n ≡ stamp_of (gate_of words)) × DataStartsWith words r.copied
  -- where it hasn't, nothing is copied
  pub waiting_receiver : r.seen ≡ None → r.copied ≡ []
  -- for good: an even gate word that the sender loaded shows the take that it must
  pub freed : All (ShowsTake r.got) s.loads
  -- for good: an odd gate word that the receiver loaded shows the thing that it must
  pub looked : All (ShowsMade s.made) r.loads

-- seat j sends only if it is the sender's, which knows s, and receives only if it is the receiver's, which knows r
pub record IsSeated (sender receiver : ℕ) (s : Sending) (r : Receiving) (j : ℕ) (v : View) : Type 0 where
  pub sends : v.sends ≡ true → (j ≡ sender) × (v.sending ≡ s)
  pub receives : v.receives ≡ true → (j ≡ receiver) × (v.receiving ≡ r)

-- One seat at most sends, one at most receives, and the words keep the gate rule of what these two know.
-- At the start and after the join this is one seat; of a spent seat nothing is said.
pub record IsGated (width : ℕ) (t : State Unit View) : Type 0 where
  pub sender : ℕ
  pub receiver : ℕ
  pub sending : Sending
  pub receiving : Receiving
  pub rule : GateRule width t.words sending receiving
  pub seated : (j : ℕ) (v : View) → get_elem? t.views j ≡ some v → IsSeated sender receiver sending receiving j v
