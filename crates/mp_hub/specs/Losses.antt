-- Nothing is lost: a message that is there is given to the one who asks for it, and once.
use Rattle.std.specs.Prelude.{ℕ, suc, ◌≡◌, ◌⊎◌, true, List, [], ◌∷◌, Option, Some, None}
use Rattle.std.specs.List.{slice_get, Contains}
use Rattle.rv_image_types.specs.declared.images.Link.{Link}
use Rattle.mp_types.specs.declared.messages.Envelope.{Envelope}
use Rattle.mp_types.specs.declared.messages.Message.{Message}
use Rattle.mp_types.specs.declared.requests.Request.TheVariants as request
use Rattle.mp_types.specs.declared.replies.Reply.TheVariants.{Got, NotYet, Seen, Held, AllGot}
use Rattle.mp_match.specs.declared.posts.Sent.{Sent}
use Rattle.mp_match.specs.declared.posts.Selection.{Selection}
use Rattle.mp_match.specs.declared.posts.Post.TheVariants.{Claim}
use Rattle.mp_match.specs.Order.{SendsAt, ReceivesAt}
use Rattle.mp_match.specs.Matches.{Matches}
use Rattle.mp_hub.specs.Hub.{Call, reply_of}
use Rattle.mp_hub.specs.Histories.{posts_after, partner_after, got_after, received_after}

-- no number stands there twice
abbrev pub NoneTwice : List ℕ → Type 0
NoneTwice [] = Unit {0}
NoneTwice (n ∷ ns) = (¬ Contains ns n) × NoneTwice ns

-- the post at the place, which has the number above it, is the rank's receive or its claim
abbrev pub ReceivesOf : List Link → List Call → ℕ → ℕ → Type 0
ReceivesOf links calls rank place =
    (a : Selection) × ReceivesAt (posts_after links calls) place a × (a.rank ≡ rank)

abbrev pub ClaimsOf : List Link → List Call → ℕ → ℕ → Type 0
ClaimsOf links calls rank place =
    (a : Selection) × (slice_get (posts_after links calls) place ≡ Some (Claim a)) × (a.rank ≡ rank)

-- it is the rank's receive, or its claim and was received
abbrev pub CollectsOf : List Link → List Call → ℕ → ℕ → Type 0
CollectsOf links calls rank place =
    ReceivesOf links calls rank place
    ⊎ (ClaimsOf links calls rank place × Contains (received_after links calls) (suc place))

-- a send without a partner that matches: a message that a receive, a probe or a claim finds
abbrev pub IsThere : List Link → List Call → ℕ → ℕ → Option ℕ → Option ℕ → Type 0
IsThere links calls rank comm source tag = (place : ℕ) × (s : Sent) × SendsAt (posts_after links calls) place s
    × (partner_after links calls place ≡ None)
    × Matches (record { rank = rank; comm = comm; source = source; tag = tag }) s

pub record LossLaw : Type 0 where
  -- what is paired and wasn't got is given to its rank; what isn't paired is waited for
  pub collected : (links : List Link) (calls : List Call) (rank place partner : ℕ) → CollectsOf links calls rank place
      → partner_after links calls place ≡ Some partner → ¬ Contains (got_after links calls) (suc place)
      → (m : Message) × (reply_of links calls rank (request.Collect (suc place)) ≡ Got m)
  pub waited : (links : List Link) (calls : List Call) (rank place : ℕ) → CollectsOf links calls rank place
      → partner_after links calls place ≡ None → reply_of links calls rank (request.Collect (suc place)) ≡ NotYet
  -- a claimed message that wasn't received is given to the rank that claimed it
  pub claimed : (links : List Link) (calls : List Call) (rank place : ℕ) → ClaimsOf links calls rank place
      → ¬ Contains (received_after links calls) (suc place)
      → (m : Message) × (reply_of links calls rank (request.Claimed true (suc place)) ≡ Got m)
  -- a message that is there is given to a receive that asks for it at once, seen by a probe and held by a claim
  pub received : (links : List Link) (calls : List Call) (rank comm : ℕ) (source tag : Option ℕ)
      → IsThere links calls rank comm source tag
      → (m : Message) × (reply_of links calls rank (request.Recv true comm source tag) ≡ Got m)
  pub seen : (links : List Link) (calls : List Call) (rank comm : ℕ) (source tag : Option ℕ)
      → IsThere links calls rank comm source tag
      → (e : Envelope) × (reply_of links calls rank (request.Probe comm source tag) ≡ Seen e)
  pub held : (links : List Link) (calls : List Call) (rank comm : ℕ) (source tag : Option ℕ)
      → IsThere links calls rank comm source tag
      → (number : ℕ) × (e : Envelope) × (reply_of links calls rank (request.Claim comm source tag) ≡ Held number e)
  -- of several posts just a send gives no message
  pub all : (links : List Link) (calls : List Call) (rank i number : ℕ) (numbers : List ℕ)
      (gots : List (Option Message)) → reply_of links calls rank (request.All numbers) ≡ AllGot gots
      → slice_get numbers i ≡ Some number → slice_get gots i ≡ Some None
      → (place : ℕ) × (s : Sent) × (number ≡ suc place) × SendsAt (posts_after links calls) place s
      × (s.envelope.source ≡ rank)
  -- no message is got twice
  pub once : (links : List Link) (calls : List Call) → NoneTwice (got_after links calls)
