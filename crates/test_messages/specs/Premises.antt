-- Calls at which the premises of the hub's laws hold: no law speaks of nothing.
use Rattle.std.specs.Prelude.{ℕ, suc, ◌≡◌, Bool, true, false, List, [], ◌∷◌, map, Some, None}
use Rattle.std.specs.List.{slice_get, Contains}
use Rattle.mp_types.specs.declared.codes.Code.TheVariants.{BadRequest, NoChannel}
use Rattle.mp_types.specs.declared.requests.Request.TheVariants as request
use Rattle.mp_types.specs.declared.replies.Reply.TheVariants.{Code, AllGot, Link as OnLink}
use Rattle.mp_match.specs.declared.posts.Sent.{Sent}
use Rattle.mp_match.specs.Order.{SendsAt}
use Rattle.mp_transfers.specs.declared.sides.Side.{Side}
use Rattle.mp_hub.specs.Hub.{Call, reply_of}
use Rattle.mp_hub.specs.Histories.{posts_after, partner_after, got_after, received_after}
use Rattle.mp_hub.specs.Losses.{NoneTwice, ClaimsOf, CollectsOf, IsThere}
use Rattle.mp_hub.specs.Finished.{IsComplete, IsReadyFor}
use Rattle.mp_hub.specs.Replies.{SendsOf, IsNumberOf}
use Rattle.mp_hub.specs.Links.{GoesFrom}
use Rattle.mp_hub.specs.Transfers.{Transfer, begun_after, sides_of}
use Rattle.mp_hub.specs.Rows.{posts_receive, sends, sends_sync, receives_now, sending_side, receiving_side, two_links}

-- ---- messages

-- posts 1 and 2 are receives of rank 1, and 3 is rank 0's send for the first. 4 and 6 are synchronous sends that rank 1
-- holds by its claims 5 and 7; it receives the second of these messages. No receive asks for 8; post 10 gets 9 at once.
-- 11 is a send of rank 1.
abbrev pub some_calls : List Call
some_calls =
    posts_receive None (Some 1) ∷ posts_receive None (Some 2) ∷ sends_sync 1 97
    ∷ sends_sync 3 98 ∷ (1, request.Claim 0 None (Some 3))
    ∷ sends_sync 4 99 ∷ (1, request.Claim 0 None (Some 4)) ∷ (1, request.Claimed false 7)
    ∷ sends 5 100 ∷ sends 6 101 ∷ receives_now (Some 6)
    ∷ (1, request.Send false 0 0 1 (102 ∷ [])) ∷ []

-- a receive with a message and one without; a claim whose message was received, and one whose wasn't; a message that is
-- there; a send, which gives none
pub record LossPremises : Type 0 where
  pub collected : CollectsOf [] some_calls 1 0 × (partner_after [] some_calls 0 ≡ Some 2)
      × (¬ Contains (got_after [] some_calls) 1)
  pub claim_collected : CollectsOf [] some_calls 1 6 × (partner_after [] some_calls 6 ≡ Some 5)
      × (¬ Contains (got_after [] some_calls) 7)
  pub waited : CollectsOf [] some_calls 1 1 × (partner_after [] some_calls 1 ≡ None)
  pub claimed : ClaimsOf [] some_calls 1 4 × (¬ Contains (received_after [] some_calls) 5)
  pub there : IsThere [] some_calls 1 0 None (Some 5)
  pub all : reply_of [] some_calls 0 (request.All (8 ∷ [])) ≡ AllGot (None ∷ [])

-- the post at the place is a send that is complete, or one that isn't
abbrev pub CompletesAt : ℕ → Type 0
CompletesAt place = (s : Sent) × SendsAt (posts_after [] some_calls) place s × IsComplete [] some_calls place s

abbrev pub WaitsAt : ℕ → Type 0
WaitsAt place = (s : Sent) × SendsAt (posts_after [] some_calls) place s × (¬ IsComplete [] some_calls place s)

-- a standard send, one with a receive, and one with a received claim; and one whose claim wasn't received
pub record FinishedPremises : Type 0 where
  pub standard : CompletesAt 7
  pub received : CompletesAt 2
  pub claimed : CompletesAt 5
  pub not_yet : WaitsAt 3

-- a receive, a received claim and a send of rank 1
pub record TogetherPremises : Type 0 where
  pub once : NoneTwice (1 ∷ 7 ∷ 11 ∷ [])
  pub ready : (number : ℕ) → Contains (1 ∷ 7 ∷ 11 ∷ []) number
      → (place : ℕ) × (number ≡ suc place) × IsReadyFor [] some_calls 1 place

-- another rank's receive, a claim that wasn't received, and a message that was got; another rank's send; another rank's
-- claim, and one that was received; and both kinds among several
pub record OwnersPremises : Type 0 where
  pub collects : ¬ IsNumberOf (CollectsOf [] some_calls 0) 1
  pub not_received : ¬ IsNumberOf (CollectsOf [] some_calls 1) 5
  pub collects_once : Contains (got_after [] some_calls) 10
  pub finishes : ¬ IsNumberOf (SendsOf [] some_calls 1) 3
  pub claims : ¬ IsNumberOf (ClaimsOf [] some_calls 0) 5
  pub claims_once : Contains (received_after [] some_calls) 7
  -- among several: another rank's receive
  pub all : Contains {X = ℕ} (3 ∷ 1 ∷ []) 1 × (¬ IsNumberOf (SendsOf [] some_calls 0) 1)
      × (¬ IsNumberOf (CollectsOf [] some_calls 0) 1)
  -- and a receive of the rank's own, whose message was got
  pub all_once : Contains {X = ℕ} (1 ∷ 10 ∷ []) 10 × (¬ IsNumberOf (SendsOf [] some_calls 1) 10)
      × IsNumberOf (CollectsOf [] some_calls 1) 10 × Contains (got_after [] some_calls) 10
  pub all_refused : reply_of [] some_calls 1 (request.All (1 ∷ 10 ∷ [])) ≡ Code BadRequest
  pub unchanged : reply_of [] some_calls 0 (request.Collect 1) ≡ Code BadRequest

-- ---- transfers

-- the first of the two links has both its sides
abbrev pub one_pair : List Call
one_pair = sending_side 5 4 64 ∷ receiving_side 5 4 64 ∷ []

-- and the second one has a sender
abbrev pub no_link_left : List Call
no_link_left = sending_side 5 4 64 ∷ receiving_side 5 4 64 ∷ sending_side 7 1 8 ∷ []

-- two sides of one link, one of each direction
abbrev pub HasBothSides : Type 0
HasBothSides =
    (s : Side) × (t : Side) × (slice_get (begun_after two_links one_pair) 0 ≡ Some s)
    × (slice_get (begun_after two_links one_pair) 1 ≡ Some t)
    × (s.link ≡ t.link) × (s.setup.sending ≡ true) × (t.setup.sending ≡ false)

-- both links have both sides: two pairs of one transfer, whose sides are initialised in the order of their numbers, and
-- each receiver has its own sender's bytes in all
abbrev pub two_pairs : List Call
two_pairs = sending_side 5 4 64 ∷ sending_side 5 1 8 ∷ receiving_side 5 8 32 ∷ receiving_side 5 1 8 ∷ []

-- each link has one side of each direction: the first of each is on link 0, the second of each on link 1
abbrev pub on_link : Side → ℕ × Bool
on_link t = (t.link, t.setup.sending)

abbrev pub HaveOneEach : Type 0
HaveOneEach =
    map on_link (begun_after two_links two_pairs)
    ≡ (0, true) ∷ (1, true) ∷ (0, false) ∷ (1, false) ∷ []

-- the side at the place is that of the link which sends, or else that which receives
abbrev pub IsSideAt : ℕ → ℕ → Bool → Type 0
IsSideAt place link sends =
    (t : Side) × (slice_get (begun_after two_links two_pairs) place ≡ Some t) × (t.link ≡ link)
    × (t.setup.sending ≡ sends)

-- the i-th sender and the i-th receiver of the transfer have this link
abbrev pub ArePairOn : ℕ → ℕ → Type 0
ArePairOn i link =
    (s : Side) × (r : Side) × (slice_get (sides_of (begun_after two_links two_pairs) with_tag_5 true) i ≡ Some s)
    × (slice_get (sides_of (begun_after two_links two_pairs) with_tag_5 false) i ≡ Some r)
    × (s.link ≡ link) × (r.link ≡ link)
  where
    with_tag_5 : Transfer
    with_tag_5 = record { comm = 0; from = 0; to = 1; tag = 5 }

pub record LinksPremises : Type 0 where
  pub sending : reply_of two_links one_pair 0 (request.Init true 0 1 7 1 8) ≡ OnLink 1
  pub receiving : reply_of two_links one_pair 1 (request.Init false 0 0 7 1 8) ≡ OnLink 1
  pub one_each : HaveOneEach
  -- what one_each asks for is met by a side and itself: here are the four
  pub first_sender : IsSideAt 0 0 true
  pub second_sender : IsSideAt 1 1 true
  pub first_receiver : IsSideAt 2 0 false
  pub second_receiver : IsSideAt 3 1 false
  pub first_pair : ArePairOn 0 0
  pub second_pair : ArePairOn 1 1
  pub one_transfer : HasBothSides
  pub no_sending : (reply_of two_links no_link_left 0 (request.Init true 0 1 8 1 8) ≡ Code NoChannel)
      × GoesFrom two_links 0 1 1
  pub no_receiving : (reply_of two_links no_link_left 1 (request.Init false 0 0 8 1 8) ≡ Code NoChannel)
      × GoesFrom two_links 0 1 1

pub record HubPremises : Type 0 where
  pub loss : LossPremises
  pub finished : FinishedPremises
  pub together : TogetherPremises
  pub owners : OwnersPremises
  pub links : LinksPremises
