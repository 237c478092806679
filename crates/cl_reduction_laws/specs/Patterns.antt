-- What ranks ask for, as patterns without post numbers and without bytes, and which turns may pass one another.
use Rattle.std.specs.Prelude.{ℕ, ◌*◌, ◌≡◌, ◌≢◌, Bool, true, false, not, [], None, cond, nat_lt}
use Rattle.mp_types.specs.declared.requests.Request.{Request}
use Rattle.mp_types.specs.declared.requests.Request.TheVariants as request
use Rattle.mp_source_laws.specs.Alike.{Wild}
use Rattle.mp_clash_laws.specs.Exchanges.{BringsNothing, NoRace, NoSync}
use Rattle.cl_state.specs.declared.asking.Ask.{Ask}
use Rattle.cl_state.specs.Asked.{asked, doing, part_of}
use Rattle.cl_state.specs.Rank.{Rank}
use Rattle.cl_state_laws.specs.Vain.{waits_on}

pub data Pattern : Type 0 where
  -- an instruction, a call that asks nobody, a turn of a stopped hart
  own : Pattern
  -- a send of this mode to this rank in this communicator
  send : Bool → ℕ → ℕ → Pattern
  receive : Pattern
  -- a question to the hub by WAIT, WAITALL or PROBE, and the poll of a RECV or SSEND: where nothing is there the rank waits on
  wait : Pattern
  -- TEST of a receive, and IPROBE: where nothing is there the rank goes on
  poll : Pattern
  -- TEST of a synchronous send, and TESTALL, which may name one: the same
  poll_of_sends : Pattern
  -- MPROBE, IMPROBE, MRECV and IMRECV
  claim : Pattern
  -- PSEND_INIT where it sends, else PRECV_INIT: in this communicator, with this peer and tag, of so many bytes in all
  initialisation : Bool → ℕ → ℕ → ℕ → ℕ → Pattern
  -- TEST and PARRIVED that ask how a sender cut its transfer: where that isn't known the rank goes on
  poll_of_cuts : Pattern
  -- by the sender on this link: PREADY, and the question whether a partition was taken
  by_sender : ℕ → Pattern
  -- by the receiver on this link: a look at a partition
  by_receiver : ℕ → Pattern
  -- a WAIT that its own rank holds up, which has no pattern yet
  unlisted : Pattern

abbrev pub pattern_of_request : Bool → Request → Pattern
pattern_of_request waits (request.Send sync comm dest tag bytes) = send sync dest comm
pattern_of_request waits (request.Recv now comm source tag) = receive
pattern_of_request waits (request.Collect post) = cond waits wait poll
pattern_of_request waits (request.Finished post) = cond waits wait poll_of_sends
pattern_of_request waits (request.All posts) = cond waits wait poll_of_sends
pattern_of_request waits (request.Probe comm source tag) = cond waits wait poll
pattern_of_request waits (request.Claim comm source tag) = claim
pattern_of_request waits (request.Claimed now message) = claim
pattern_of_request waits (request.Init sends comm peer tag parts size) = initialisation sends comm peer tag (parts * size)
pattern_of_request waits (request.Cut link) = cond waits wait poll_of_cuts

-- a link has 16 boxes
abbrev pub at_box : ℕ → Pattern → Pattern
at_box part p = cond (nat_lt part 16) p unlisted

abbrev pub pattern_of_ask : Bool → Ask → Pattern
pattern_of_ask waits Ask.Plain = own
pattern_of_ask waits Ask.Local = own
pattern_of_ask waits Ask.Idle = own
pattern_of_ask waits (Ask.Hub q) = pattern_of_request waits q
pattern_of_ask waits (Ask.Ready link part bytes) = at_box part (by_sender link)
pattern_of_ask waits (Ask.Freed link part) = at_box part (by_sender link)
pattern_of_ask waits (Ask.Look link part) = at_box part (by_receiver link)
pattern_of_ask waits Ask.Held = unlisted

-- of what the hart asks in its next turn
abbrev pub pattern_of : Rank → ℕ → Pattern
pattern_of rank hart = pattern_of_ask (waits_on (doing rank.site (part_of rank hart))) (asked rank hart)

-- ---- what may be asked

-- the patterns of each rank in a whole search
abbrev pub Patterns : Type 0
Patterns = ℕ → Pattern → Bool

-- turns of its own and waits are always allowed for
abbrev pub IsAllowed : Patterns → ℕ → Pattern → Type 0
IsAllowed patterns r own = Unit {0}
IsAllowed patterns r wait = Unit {0}
IsAllowed patterns r unlisted = ⊥
IsAllowed patterns r p = patterns r p ≡ true

-- ---- which turns may pass one another

-- a send or a receive q of rank r may go before what rank s asks. No rank can tell which was first: two sends to one rank
-- are told apart where it asks for any source, a synchronous send tells whether its receive was posted, a poll tells that
-- nothing is there, and a claim tells a number that counts all posts before it. Partitions have nothing to do with posts
abbrev pub MayPass : Wild → ℕ → Request → ℕ → Pattern → Type 0
MayPass wild r q s own = Unit {0}
MayPass wild r q s wait = Unit {0}
MayPass wild r q s (send sync dest comm) =
    NoRace wild q (request.Send sync comm dest 0 []) × NoSync r q s (request.Send sync comm dest 0 [])
MayPass wild r q s receive = NoSync r q s (request.Recv false 0 None None)
MayPass wild r q s poll = BringsNothing q s (request.Collect 0)
MayPass wild r q s poll_of_sends = BringsNothing q s (request.Finished 0)
MayPass wild r q s claim = ⊥
MayPass wild r q s (initialisation sends comm peer tag bytes) = Unit {0}
MayPass wild r q s poll_of_cuts = Unit {0}
MayPass wild r q s (by_sender link) = Unit {0}
MayPass wild r q s (by_receiver link) = Unit {0}
MayPass wild r q s unlisted = ⊥

-- a turn at a box may go before what another rank asks, unless that rank is on the same side of the link: only the sender fills
-- a box, and only the receiver empties it
abbrev pub MayMeet : Ask → Pattern → Type 0
MayMeet (Ask.Ready link part bytes) (by_sender other) = link ≢ other
MayMeet (Ask.Freed link part) (by_sender other) = link ≢ other
MayMeet (Ask.Look link part) (by_receiver other) = link ≢ other
MayMeet _ unlisted = ⊥
MayMeet _ _ = Unit {0}

-- PSEND_INIT or PRECV_INIT
abbrev pub IsInitialisation : Request → Type 0
IsInitialisation (request.Init sends comm peer tag parts size) = Unit {0}
IsInitialisation _ = ⊥

-- of two initialisations by r and s, one sends and the other receives, and each names the other's rank: so they take the
-- links of one pair of ranks
abbrev pub AreEnds : ℕ → Bool → ℕ → ℕ → Bool → ℕ → Type 0
AreEnds r sends peer s gives whom = (sends ≡ not gives) × (peer ≡ s) × (whom ≡ r)

-- an initialisation q of rank r may go before what rank s asks. One that sends makes known how its transfer is cut, for which a
-- receiver may poll. Another initialisation may take the link that this one takes, unless its link joins other ranks, or both
-- are sides of one transfer, of as many bytes: then both have one link whichever is first. All else that ranks ask has nothing
-- to do with initialisations
abbrev pub InitMayPass : ℕ → Request → ℕ → Pattern → Type 0
InitMayPass r (request.Init sends comm peer tag parts size) s poll_of_cuts = sends ≡ false
InitMayPass r (request.Init sends comm peer tag parts size) s (initialisation gives other whom label bytes) =
    AreEnds r sends peer s gives whom → (comm ≡ other) × (tag ≡ label) × (parts * size ≡ bytes)
InitMayPass r q s unlisted = ⊥
InitMayPass r q s _ = Unit {0}
