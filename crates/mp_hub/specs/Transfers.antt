-- Laws of partitioned transfers, for all links and all lists of calls (MPI 4.1, chapter 4.2).
use Rattle.std.specs.Prelude.{ℕ, ◌≡◌, ◌*◌, ◌==◌, ◌&&◌, ◌↔◌, not, Bool, true, false, cond, List, [], ◌∷◌, ◌++◌, filter}
use Rattle.std.specs.Prelude.{Some, slice_get}
use Rattle.rv_image_types.specs.declared.images.Link.{Link}
use Rattle.mp_types.specs.declared.codes.Code.TheVariants.{BadRequest}
use Rattle.mp_types.specs.declared.requests.Request.{Request}
use Rattle.mp_types.specs.declared.requests.Request.TheVariants as request
use Rattle.mp_types.specs.declared.replies.Reply.{Reply}
use Rattle.mp_types.specs.declared.replies.Reply.TheVariants.{Code, NotYet, Link as OnLink, Cut}
use Rattle.mp_transfers.specs.declared.sides.Side.{Side}
use Rattle.mp_hub.specs.Hub.{Call, reply_of, setup_of}

-- the side that a call began: an initialisation that was answered with a link
abbrev pub begun : ℕ → Request → Reply → List Side
begun rank (request.Init sends comm peer tag parts size) (OnLink link) =
    record { setup = setup_of rank sends comm peer tag parts size; link = link } ∷ []
begun rank q r = []

-- the sides that some calls began behind others; a refused initialisation began none
abbrev pub begun_behind : List Link → List Call → List Call → List Side
begun_behind links before [] = []
begun_behind links before (c ∷ calls) =
    begun c.0 c.1 (reply_of links before c.0 c.1) ++ begun_behind links (before ++ c ∷ []) calls

abbrev pub begun_after : List Link → List Call → List Side
begun_after links calls = begun_behind links [] calls

-- ---- pairs

-- what the two sides of a transfer have in common
pub record Transfer : Type 0 where
  pub comm : ℕ
  pub from : ℕ
  pub to : ℕ
  pub tag : ℕ

-- whether a side is one of the transfer's: one that sends, or else one that receives
abbrev pub is_of : Transfer → Bool → Side → Bool
is_of a sends t =
    (t.setup.comm == a.comm) && (t.setup.from == a.from) && (t.setup.to == a.to) && (t.setup.tag == a.tag)
    && cond sends t.setup.sending (not t.setup.sending)

-- the transfer's sides that send, or else those that receive, in the order of their initialisations
abbrev pub sides_of : List Side → Transfer → Bool → List Side
sides_of sides a sends = filter (is_of a sends) sides

-- the i-th sender and the i-th receiver of a transfer have one link, and one total however each cuts it
abbrev pub ArePairs : List Side → Type 0
ArePairs sides = (a : Transfer) (i : ℕ) (s r : Side)
    → slice_get (sides_of sides a true) i ≡ Some s → slice_get (sides_of sides a false) i ≡ Some r
    → (s.link ≡ r.link) × (s.setup.parts * s.setup.size ≡ r.setup.parts * r.setup.size)

-- sides that have one link are of one transfer and have one number: so different pairs have different links
abbrev pub HaveOwnLinks : List Side → Type 0
HaveOwnLinks sides = (a b : Transfer) (x y : Bool) (i j : ℕ) (s t : Side)
    → slice_get (sides_of sides a x) i ≡ Some s → slice_get (sides_of sides b y) j ≡ Some t
    → s.link ≡ t.link → (a ≡ b) × (i ≡ j)

pub record PairsLaw : Type 0 where
  pub pairs : (links : List Link) (calls : List Call) → ArePairs (begun_after links calls)
  pub own : (links : List Link) (calls : List Call) → HaveOwnLinks (begun_after links calls)

-- ---- how a sender cut its transfer

-- the image has the link, and its second rank is this one
abbrev pub ReceivesOver : List Link → ℕ → ℕ → Type 0
ReceivesOver links rank link = (l : Link) × (slice_get links link ≡ Some l) × (l.to ≡ rank)

-- among the calls is a sender's initialisation with so many partitions of so many bytes that was answered with the link
pub record SenderBegan (links : List Link) (calls : List Call) (link parts size : ℕ) : Type 0 where
  pub before : List Call
  pub after : List Call
  pub sender : ℕ
  pub comm : ℕ
  pub dest : ℕ
  pub tag : ℕ
  pub made : calls ≡ before ++ (sender, request.Init true comm dest tag parts size) ∷ after
  pub answered : reply_of links before sender (request.Init true comm dest tag parts size) ≡ OnLink link

-- no call has begun the sending side of the link
abbrev pub NoSenderBegan : List Link → List Call → ℕ → Type 0
NoSenderBegan links calls link = (parts size : ℕ) → ¬ SenderBegan links calls link parts size

-- the cut is told to the link's receiver alone, and is that of the very call which began the sending side
pub record CutLaw : Type 0 where
  pub told : (links : List Link) (calls : List Call) (rank link parts size : ℕ)
      → (reply_of links calls rank (request.Cut link) ≡ Cut parts size)
      ↔ (ReceivesOver links rank link × SenderBegan links calls link parts size)
  pub not_yet : (links : List Link) (calls : List Call) (rank link : ℕ)
      → (reply_of links calls rank (request.Cut link) ≡ NotYet)
      ↔ (ReceivesOver links rank link × NoSenderBegan links calls link)
  pub refused : (links : List Link) (calls : List Call) (rank link : ℕ)
      → (reply_of links calls rank (request.Cut link) ≡ Code BadRequest) ↔ ¬ ReceivesOver links rank link
