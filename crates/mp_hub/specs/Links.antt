-- The two sides of a link, for all links and all lists of calls (MPI 4.1, chapter 4.2).
use Rattle.std.specs.Prelude.{ℕ, ◌≡◌, true, false, List, Some, slice_get}
use Rattle.rv_image_types.specs.declared.images.Link.{Link}
use Rattle.mp_types.specs.declared.codes.Code.TheVariants.{NoChannel}
use Rattle.mp_types.specs.declared.requests.Request.TheVariants as request
use Rattle.mp_types.specs.declared.replies.Reply.TheVariants.{Code, Link as OnLink}
use Rattle.mp_transfers.specs.declared.sides.Setup.{Setup}
use Rattle.mp_transfers.specs.declared.sides.Side.{Side}
use Rattle.mp_hub.specs.Hub.{Call, reply_of}
use Rattle.mp_hub.specs.Transfers.{begun_after}

-- the image has the link, and it goes from the one rank to the other
abbrev pub GoesFrom : List Link → ℕ → ℕ → ℕ → Type 0
GoesFrom links from to link = (l : Link) × (slice_get links link ≡ Some l) × (l.from ≡ from) × (l.to ≡ to)

-- a side of the link was begun
abbrev pub IsTaken : List Link → List Call → ℕ → Type 0
IsTaken links calls link = (i : ℕ) × (t : Side) × (slice_get (begun_after links calls) i ≡ Some t) × (t.link ≡ link)

-- the same communicator, source, destination and tag
pub record IsOneTransfer (s t : Setup) : Type 0 where
  pub comm : s.comm ≡ t.comm
  pub from : s.from ≡ t.from
  pub to : s.to ≡ t.to
  pub tag : s.tag ≡ t.tag

pub record LinksLaw : Type 0 where
  -- a sender is told a link from it to its peer, and a receiver one from its peer to it
  pub sending : (links : List Link) (calls : List Call) (rank comm peer tag parts size link : ℕ)
      → reply_of links calls rank (request.Init true comm peer tag parts size) ≡ OnLink link
      → GoesFrom links rank peer link
  pub receiving : (links : List Link) (calls : List Call) (rank comm peer tag parts size link : ℕ)
      → reply_of links calls rank (request.Init false comm peer tag parts size) ≡ OnLink link
      → GoesFrom links peer rank link
  -- a link has one sender's side and one receiver's side at most, and they are of one transfer, for good
  pub one_each : (links : List Link) (calls : List Call) (i j : ℕ) (s t : Side)
      → slice_get (begun_after links calls) i ≡ Some s → slice_get (begun_after links calls) j ≡ Some t
      → s.link ≡ t.link → s.setup.sending ≡ t.setup.sending → i ≡ j
  pub one_transfer : (links : List Link) (calls : List Call) (i j : ℕ) (s t : Side)
      → slice_get (begun_after links calls) i ≡ Some s → slice_get (begun_after links calls) j ≡ Some t
      → s.link ≡ t.link → IsOneTransfer s.setup t.setup
  -- no link is refused while there is one between the two ranks that no transfer has
  pub no_sending : (links : List Link) (calls : List Call) (rank comm peer tag parts size link : ℕ)
      → reply_of links calls rank (request.Init true comm peer tag parts size) ≡ Code NoChannel
      → GoesFrom links rank peer link → IsTaken links calls link
  pub no_receiving : (links : List Link) (calls : List Call) (rank comm peer tag parts size link : ℕ)
      → reply_of links calls rank (request.Init false comm peer tag parts size) ≡ Code NoChannel
      → GoesFrom links peer rank link → IsTaken links calls link
