-- What a side keeps through its phases, and when nothing more is to be done in one (MPI 4.1, chapter 4.2).
use Rattle.std.specs.Prelude.{◌≡◌, ◌≢◌, ℕ, ◌+◌, ◌<◌, ◌≤◌, List, get_or, slice_get, true, false, Some, None}
use Rattle.rv_image_types.specs.declared.images.ImageVersion.{ImageVersion}
use Rattle.rv_image_types.specs.declared.images.ImageVersion.TheVariants.{Two}
use Rattle.rv_image_types.specs.declared.images.Link.{Link}
use Rattle.part_phase.specs.declared.phases.Phase.{Phase}
use Rattle.part_phase.specs.declared.phases.Phase.TheVariants.{Sending, Receiving}
use Rattle.part_phase.specs.declared.receiving.RecvPhase.{RecvPhase}
use Rattle.part_phase.specs.declared.sending.SendPhase.{SendPhase}
use Rattle.part_phase.specs.Limits.{box_bytes}
use Rattle.part_phase.specs.Laws.{IsTaken}
use Rattle.part_phase.specs.Phases.{begun, changed_at, first_phases, is_unshaped_receiving, is_unshaped_sending}
use Rattle.part_phase.specs.Phases.{on_receiving, on_sending, receiving_at, sending_at}
use Rattle.part_phase.specs.Receiving.{IsRecvPhase, begun_receiving, cut_into, is_cut, next_box, next_box_of, one_taken}
use Rattle.part_phase.specs.Receiving.{shaped_receiving}
use Rattle.part_phase.specs.Sending.{IsSendPhase, begun_sending, is_part_ready, next_to_free, one_freed, readied}
use Rattle.part_phase.specs.Sending.{shaped_sending}

-- ---- what a transfer has for good

abbrev pub send_shape : SendPhase → ℕ × ℕ
send_shape p = (p.parts, p.size)

abbrev pub recv_shape : RecvPhase → ℕ × ℕ
recv_shape p = (p.parts, p.size)

abbrev pub cut_of : RecvPhase → ℕ × ℕ
cut_of p = (p.boxes, p.bytes)

-- a sender's side has the shape that its transfer was initialised with, and no phase before its first start (4.2.1);
-- a start, a partition that is made ready and one that is freed leave the shape
pub record SendShapeLaw : Type 0 where
  pub given : (p : SendPhase) (parts size : ℕ) → send_shape (shaped_sending parts size p) ≡ (parts, size)
  pub inactive : (p : SendPhase) (parts size : ℕ) → next_to_free (shaped_sending parts size p) ≡ None
  pub begun : (p : SendPhase) → send_shape (begun_sending p) ≡ send_shape p
  pub readied : (p : SendPhase) (part : ℕ) → send_shape (readied part p) ≡ send_shape p
  pub freed : (p : SendPhase) → send_shape (one_freed p) ≡ send_shape p

-- a receiver's side has its own shape and, once that is known, the sender's cut, for good; to know the cut ends no
-- phase, begins none, and takes no box
pub record RecvShapeLaw : Type 0 where
  pub given : (p : RecvPhase) (parts size : ℕ) → recv_shape (shaped_receiving parts size p) ≡ (parts, size)
  pub told : (p : RecvPhase) (boxes bytes : ℕ) → cut_of (cut_into boxes bytes p) ≡ (boxes, bytes)
  pub told_once : (version : ImageVersion) (p : RecvPhase) (boxes bytes others more : ℕ) → 0 < boxes
      → is_cut version (cut_into boxes bytes p) others more ≡ false
  pub cut : (p : RecvPhase) (boxes bytes : ℕ) → (recv_shape (cut_into boxes bytes p) ≡ recv_shape p)
      × ((cut_into boxes bytes p).active ≡ p.active) × ((cut_into boxes bytes p).taken ≡ p.taken)
  pub begun : (p : RecvPhase) → (recv_shape (begun_receiving p) ≡ recv_shape p) × (cut_of (begun_receiving p) ≡ cut_of p)
  pub taken : (p : RecvPhase) (box : ℕ) → (recv_shape (one_taken box p) ≡ recv_shape p)
      × (cut_of (one_taken box p) ≡ cut_of p)

-- ---- a phase

-- a phase that is going on isn't begun again; partitions are freed from the lowest on, one by one, and while one is left
-- all that are ready stay so; to make one ready frees none
pub record SendingLaw : Type 0 where
  pub goes_on : (p : SendPhase) (part : ℕ) → next_to_free p ≡ Some part → begun_sending p ≡ p
  pub freed : (p : SendPhase) → p.freed + 1 < p.parts → (next_to_free (one_freed p) ≡ Some (p.freed + 1))
      × ((part : ℕ) → is_part_ready (one_freed p) part ≡ is_part_ready p part)
  pub readied : (p : SendPhase) (part : ℕ) → next_to_free (readied part p) ≡ next_to_free p

-- a started side is in a phase, which isn't begun again; a phase in which no box is next has all of them; between
-- phases nothing is waited for; and while a box is left, all others that were taken stay so, and no other is
pub record ReceivingLaw : Type 0 where
  pub begun : (p : RecvPhase) → (begun_receiving p).active ≡ true
  pub goes_on : (p : RecvPhase) → p.active ≡ true → begun_receiving p ≡ p
  pub none_left : (p : RecvPhase) (box : ℕ) → p.active ≡ true → next_box p ≡ None → box < p.boxes → IsTaken p box
  pub idle : (p : RecvPhase) (part : ℕ) → p.active ≡ false → (next_box p ≡ None) × (next_box_of p part ≡ None)
  pub others : (p : RecvPhase) (box left other : ℕ) → left < p.boxes → left ≢ box → get_or p.taken left false ≡ false
      → other ≢ box → get_or (one_taken box p).taken other false ≡ get_or p.taken other false

-- a side is of one box a partition at most, and none of its partitions is wider than a box
pub record BoundsLaw : Type 0 where
  pub sending : (p : SendPhase) (part : ℕ) → IsSendPhase p → next_to_free p ≡ Some part
      → (part < 16) × (p.size ≤ box_bytes Two)
  pub receiving : (p : RecvPhase) (box : ℕ) → IsRecvPhase p → next_box p ≡ Some box
      → (box < 16) × (p.bytes ≤ box_bytes Two)

-- ---- the sides of a rank

-- the side of a link is found by its number, and as what it is; who hasn't the side has no phase of it
pub record FoundLaw : Type 0 where
  pub sending : (phases : List Phase) (link : ℕ) (p : SendPhase) → slice_get phases link ≡ Some (Sending p)
      → sending_at phases link ≡ p
  pub receiving : (phases : List Phase) (link : ℕ) (p : RecvPhase) → slice_get phases link ≡ Some (Receiving p)
      → receiving_at phases link ≡ p
  pub no_sending : (phases : List Phase) (link : ℕ) → ((p : SendPhase) → slice_get phases link ≢ Some (Sending p))
      → (send_shape (sending_at phases link) ≡ (0, 0)) × (next_to_free (sending_at phases link) ≡ None)
  pub no_receiving : (phases : List Phase) (link : ℕ)
      → ((p : RecvPhase) → slice_get phases link ≢ Some (Receiving p))
      → (recv_shape (receiving_at phases link) ≡ (0, 0)) × (next_box (receiving_at phases link) ≡ None)

-- a start is that of the side that the rank has; what is done to a sender's side isn't done to a receiver's, nor the
-- other way round
pub record ChangedLaw : Type 0 where
  pub begun_sending : (phases : List Phase) (link : ℕ) (p : SendPhase) → slice_get phases link ≡ Some (Sending p)
      → slice_get (changed_at link begun phases) link ≡ Some (Sending (begun_sending p))
  pub begun_receiving : (phases : List Phase) (link : ℕ) (p : RecvPhase) → slice_get phases link ≡ Some (Receiving p)
      → slice_get (changed_at link begun phases) link ≡ Some (Receiving (begun_receiving p))
  pub sending : (phases : List Phase) (link : ℕ) (p : SendPhase) (change : SendPhase → SendPhase)
      → slice_get phases link ≡ Some (Sending p)
      → slice_get (changed_at link (on_sending change) phases) link ≡ Some (Sending (change p))
  pub receiving : (phases : List Phase) (link : ℕ) (p : RecvPhase) (change : RecvPhase → RecvPhase)
      → slice_get phases link ≡ Some (Receiving p)
      → slice_get (changed_at link (on_receiving change) phases) link ≡ Some (Receiving (change p))
  pub not_sending : (phases : List Phase) (link : ℕ) (p : RecvPhase) (change : SendPhase → SendPhase)
      → slice_get phases link ≡ Some (Receiving p)
      → slice_get (changed_at link (on_sending change) phases) link ≡ Some (Receiving p)
  pub not_receiving : (phases : List Phase) (link : ℕ) (p : SendPhase) (change : RecvPhase → RecvPhase)
      → slice_get phases link ≡ Some (Sending p)
      → slice_get (changed_at link (on_receiving change) phases) link ≡ Some (Sending p)

-- a rank's side of a link may be given to a transfer at first, where the link goes so, and once
pub record FreeSideLaw : Type 0 where
  pub sending : (links : List Link) (rank n : ℕ) (link : Link) → slice_get links n ≡ Some link → link.from ≡ rank
      → is_unshaped_sending (slice_get (first_phases links rank) n) ≡ true
  pub receiving : (links : List Link) (rank n : ℕ) (link : Link) → slice_get links n ≡ Some link → link.from ≢ rank
      → link.to ≡ rank → is_unshaped_receiving (slice_get (first_phases links rank) n) ≡ true
  pub sending_once : (phases : List Phase) (link parts size : ℕ) → 0 < parts
      → is_unshaped_sending (slice_get (changed_at link (on_sending (shaped_sending parts size)) phases) link) ≡ false
  pub receiving_once : (phases : List Phase) (link parts size : ℕ) → 0 < parts
      → is_unshaped_receiving (slice_get (changed_at link (on_receiving (shaped_receiving parts size)) phases) link)
      ≡ false
