-- What gates show, what a look tells, and what was made and got in a box that is settled.
use Rattle.std.specs.Prelude.{◌≡◌, ℕ, ◌+◌, ◌-◌, ◌*◌, ◌^◌, ◌<◌, ◌≤◌, [], ◌∷◌, ◌++◌, length, take, replicate, slice_get, slice_index, true, false}
use Rattle.std.specs.Prelude.{Some, None}
use Rattle.part_box.specs.declared.settled.Settled.{Settled}
use Rattle.part_box.specs.declared.view.Got.{Got}
use Rattle.part_box.specs.declared.view.Loaded.{Loaded}
use Rattle.part_box.specs.declared.view.Made.{Made}
use Rattle.part_box.specs.declared.view.Receiving.{Receiving}
use Rattle.part_box.specs.declared.view.Sending.{Sending}
use Rattle.part_box.specs.Gate.{ready_stamp, taken_stamp}
use Rattle.part_box.specs.Settling.{IsSettled}
use Rattle.part_box.specs.Steps.{with_freed, with_look}

-- ---- gates

-- under whatever stamp a thing was made ready, its gate shows that to the receiver and nothing to the sender; a take's
-- shows its stamp to the sender and nothing to the receiver. The greatest stamp is shown to neither
pub record GateLaw : Type 0 where
  pub ready : (stamp : ℕ) → stamp < 2 ^ 62 - 1 → ready_stamp (2 * stamp + 1) ≡ Some stamp
  pub taken : (stamp : ℕ) → stamp < 2 ^ 62 - 1 → taken_stamp (2 * stamp) ≡ Some stamp
  pub not_taken : (stamp : ℕ) → taken_stamp (2 * stamp + 1) ≡ None
  pub not_ready : (stamp : ℕ) → ready_stamp (2 * stamp) ≡ None
  pub none_ready : (stamp : ℕ) → 2 ^ 62 - 1 ≤ stamp → ready_stamp (2 * stamp + 1) ≡ None
  pub none_taken : (stamp : ℕ) → 2 ^ 62 - 1 ≤ stamp → taken_stamp (2 * stamp) ≡ None

-- ---- looks

-- a look for a take leaves what was made and filled; only a take that it sees opens the key again, behind that take
pub record SenderLooksLaw : Type 0 where
  pub kept : (s : Sending) (gate : ℕ) → ((with_freed s gate).made ≡ s.made) × ((with_freed s gate).filled ≡ s.filled)
  pub missed : (s : Sending) (gate : ℕ) → taken_stamp gate ≡ None
      → ((with_freed s gate).is_open ≡ s.is_open) × ((with_freed s gate).front ≡ s.front)
  pub saw : (s : Sending) (gate stamp : ℕ) → taken_stamp gate ≡ Some stamp
      → ((with_freed s gate).is_open ≡ true) × ((with_freed s gate).front ≡ stamp)
  pub loaded : (s : Sending) (gate : ℕ)
      → (with_freed s gate).loads ≡ s.loads ++ record { word = gate; count = length s.made } ∷ []

-- a look for a thing leaves what was got and copied; what it sees is pending, and nothing where it sees none
pub record ReceiverLooksLaw : Type 0 where
  pub kept : (r : Receiving) (gate : ℕ) → ((with_look r gate).got ≡ r.got) × ((with_look r gate).copied ≡ r.copied)
  pub seen : (r : Receiving) (gate : ℕ) → (with_look r gate).seen ≡ ready_stamp gate
  pub loaded : (r : Receiving) (gate : ℕ)
      → (with_look r gate).loads ≡ r.loads ++ record { word = gate; count = length r.got } ∷ []

-- ---- a box that is settled

-- What a box is left with, in words of single things: of its width, of what its two keys know, and of what is left
pub record IsKept (width : ℕ) (s : Sending) (r : Receiving) (b : Settled) : Type 0 where
  -- what was got is what was made ready in its place, stamp and words
  pub got : (k : ℕ) (g : Got) → slice_get r.got k ≡ Some g
      → slice_get s.made k ≡ Some (record { stamp = g.stamp; words = g.words })
  -- nothing is lost: all that was made was got where the box is empty, and all but what is left where it is full
  pub all_got : b.full ≡ false → length s.made ≡ length r.got
  pub one_left : b.full ≡ true → length s.made ≡ length r.got + 1
  pub left : b.full ≡ true
      → slice_get s.made (length r.got) ≡ Some (record { stamp = b.stamp; words = take width b.words })
  -- an empty box has no words, and no box has any past its width
  pub nothing : b.full ≡ false → b.words ≡ replicate 16 0
  pub past : (i : ℕ) → width ≤ i → slice_index b.words i ≡ 0
  -- an empty box has the stamp of the last take
  pub last : (k : ℕ) (g : Got) → b.full ≡ false → slice_get r.got k ≡ Some g → k + 1 ≡ length r.got
      → b.stamp ≡ g.taken
  pub unused : b.full ≡ false → r.got ≡ [] → b.stamp ≡ 0
  -- a thing is taken later than it was made ready, and the next is made ready later than that
  pub taken_later : (k : ℕ) (m : Made) (g : Got) → slice_get s.made k ≡ Some m → slice_get r.got k ≡ Some g
      → m.stamp < g.taken
  pub made_later : (k : ℕ) (g : Got) (m : Made) → slice_get r.got k ≡ Some g → slice_get s.made (k + 1) ≡ Some m
      → g.taken < m.stamp
  -- no stamp is above the greatest
  pub made_low : (k : ℕ) (m : Made) → slice_get s.made k ≡ Some m → m.stamp < 2 ^ 62
  pub taken_low : (k : ℕ) (g : Got) → slice_get r.got k ≡ Some g → g.taken < 2 ^ 62
  -- a take that the sender saw is that of the thing which it had made last
  pub freed : (i k stamp : ℕ) (l : Loaded) → slice_get s.loads i ≡ Some l → l.count ≡ k + 1
      → taken_stamp l.word ≡ Some stamp → (g : Got) × (slice_get r.got k ≡ Some g) × (g.taken ≡ stamp)
  -- and a thing that the receiver saw is the one behind those that it had got
  pub looked : (i stamp : ℕ) (l : Loaded) → slice_get r.loads i ≡ Some l → ready_stamp l.word ≡ Some stamp
      → (m : Made) × (slice_get s.made l.count ≡ Some m) × (m.stamp ≡ stamp)

abbrev pub SettledLaw : Type 0
SettledLaw = (width : ℕ) (s : Sending) (r : Receiving) (b : Settled) → IsSettled width s r b → IsKept width s r b
