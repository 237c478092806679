-- Clusters whose ranks have one hart each, as a machine of ranks that take turns.
use Rattle.std.specs.Prelude.{ℕ, ◌+◌, ◌<◌, ◌≡◌, ◌≢◌, ◌⊎◌, ◌&&◌, Bool, not, true, false, List, length, map, Option, Some, None}
use Rattle.std.specs.List.{slice_get}
use Rattle.std.specs.Option.{is_some}
use Rattle.rv_hart.specs.declared.state.Mode.{Mode}
use Rattle.rv_hart.specs.declared.state.Mode.TheVariants.{Waiting}
use Rattle.rv_hart.specs.declared.state.Wait.TheVariants.{Post}
use Rattle.mp_types.specs.declared.requests.Request.{Request}
use Rattle.mp_match.specs.declared.posts.Line.{Line}
use Rattle.mp_match.specs.Board.{is_standard}
use Rattle.mp_source_laws.specs.Alike.{Wild}
use Rattle.mp_clash_laws.specs.Exchanges.{IsPosting, WaitsWithin}
use Rattle.cl_state.specs.declared.asking.Ask.{Ask}
use Rattle.cl_state.specs.Asked.{asked, doing, part_of}
use Rattle.cl_state.specs.Rank.{Rank}
use Rattle.cl_state_laws.specs.Awake.{StandsAtCall, awake}
use Rattle.cl_state_laws.specs.Vain.{IsStopped, mode_of, waits_on}
use Rattle.cl_first_laws.specs.Below.{AwaitsOnly, NamesOnly}
use Rattle.cl_machine.specs.Boxes.{Box, Holds, IsEmpty, box_number}
use Rattle.cl_machine.specs.Cluster.{Cluster}
use Rattle.cl_machine.specs.Journal.{reply_in}
use Rattle.cl_order_laws.specs.Alike.{AlikeBoxes, hub_of}
use Rattle.cl_order_laws.specs.Closed.{IsInVain}
use Rattle.cl_order_laws.specs.Orders.{is_miss}
use Rattle.cl_order_laws.specs.SureAsks.{IsBusy, IsReady}
use Rattle.cl_rest_laws.specs.Rests.{rests}
use Rattle.cl_first_laws.specs.Below.{AreAlike, AskWithin}
use Rattle.cl_first_laws.specs.Laws.{Turn}
use Rattle.cl_schedule_laws.specs.Machines.{Machine, Ranks}
use Rattle.cl_reduction_laws.specs.Complete.{PollWithin, PollsOfComplete}
use Rattle.cl_reduction_laws.specs.Patterns.{InitMayPass, IsAllowed, IsInitialisation, MayMeet, MayPass, Pattern, Patterns, pattern_of}

-- ---- what a search is told

pub record Search : Type 0 where
  -- whether a rank may ask in a communicator for a message of any source
  pub wild : Wild
  -- whether it may poll a synchronous send that was complete as it was made. Nobody contests that, for it asks nobody
  pub polls_of_complete : PollsOfComplete
  pub patterns : Patterns
  -- the one hart of each rank that takes turns
  pub harts : ℕ → ℕ
  -- whether a standard send may wait for its receive, so that its rank may rest
  pub may_wait : Bool

-- ---- states

abbrev pub posts_of : Cluster → ℕ
posts_of c = length (hub_of c.journal).board.lines

-- a post was made at the place
abbrev pub was_made : List Line → ℕ → Bool
was_made lines place = is_some (slice_get lines place)

-- and a rank may have to ask about it: it is no standard send, of which its rank is told at once that it is complete
abbrev pub may_be_awaited : List Line → ℕ → Bool
may_be_awaited lines place = was_made lines place && not (is_standard (slice_get lines place))

-- the rank names only posts that were made, and awaits only such as it may have to ask about
pub record NamesRightly (lines : List Line) (rank : Rank) : Type 0 where
  pub names : NamesOnly (was_made lines) rank
  pub awaits : AwaitsOnly (may_be_awaited lines) rank

-- receives of any source wait only where those may be made, ranks name only posts that were made, and await no standard send,
-- no box has two things, and a hart that is to make its call anew stands at it. Each holds of the loaded cluster, and lasts
pub record IsGood (search : Search) (c : Cluster) : Type 0 where
  pub waits : WaitsWithin search.wild (hub_of c.journal)
  pub names : (r : ℕ) (rank : Rank) → slice_get c.ranks r ≡ Some rank
      → NamesRightly (hub_of c.journal).board.lines rank
  pub boxes : (i : ℕ) (box : Box) → slice_get c.boxes i ≡ Some box → AlikeBoxes box box
  pub stands : (r : ℕ) (rank : Rank) → slice_get c.ranks r ≡ Some rank → StandsAtCall rank (search.harts r)

pub record State (search : Search) : Type 0 where
  pub cluster : Cluster
  pub good : IsGood search cluster

-- the same cluster, in which a hart that is to make its call anew is to make it for the first time
abbrev pub awake_cluster : Cluster → Cluster
awake_cluster c = record { ranks = map awake c.ranks; journal = c.journal; boxes = c.boxes }

-- ---- turns

-- what the rank asks is one of its patterns, and it asks for any source, and polls what was complete as it was made, only where
-- it may
abbrev pub IsWithin : Search → Cluster → ℕ → Type 0
IsWithin search c r =
    (rank : Rank) → slice_get c.ranks r ≡ Some rank
    → IsAllowed search.patterns r (pattern_of rank (search.harts r))
    × AskWithin search.wild r (asked rank (search.harts r))
    × PollWithin search.polls_of_complete r rank (search.harts r)

-- 0 for the poll of a RECV or SSEND, whose post was made
abbrev pub weight_in : Mode → ℕ
weight_in (Waiting (Post post)) = 0
weight_in _ = 1

abbrev pub weight_of : Option Rank → ℕ → ℕ
weight_of None hart = 1
weight_of (Some rank) hart = weight_in (mode_of rank hart)

-- ---- ranks that may go first

-- the rank's hart is stopped, or makes a call anew, in vain
abbrev pub IsStill : Cluster → ℕ → Rank → ℕ → Type 0
IsStill c s rank hart =
    IsStopped (mode_of rank hart)
    ⊎ ((waits_on (doing rank.site (part_of rank hart)) ≡ true) × IsInVain c s (asked rank hart))

-- a partition is made ready, or a box is looked at
abbrev pub IsAtBox : Ask → Type 0
IsAtBox (Ask.Ready link part bytes) = Unit {0}
IsAtBox (Ask.Look link part) = Unit {0}
IsAtBox (Ask.Freed link part) = Unit {0}
IsAtBox _ = ⊥

-- the hart makes a partition ready whose box is empty; or it makes a call anew until a partition came or was taken, and that is
-- so. A link has 16 boxes
abbrev pub FindsBox : Cluster → Bool → Ask → Type 0
FindsBox c waits (Ask.Ready link part bytes) =
    (box : Box) × (slice_get c.boxes (box_number link part) ≡ Some box) × IsEmpty box × (part < 16)
FindsBox c waits (Ask.Freed link part) =
    (waits ≡ true) × (box : Box) × (slice_get c.boxes (box_number link part) ≡ Some box) × IsEmpty box × (part < 16)
FindsBox c waits (Ask.Look link part) =
    (waits ≡ true) × (box : Box) × (bytes : List ℕ) × (slice_get c.boxes (box_number link part) ≡ Some box) × Holds box bytes
    × (part < 16)
FindsBox c waits _ = ⊥

-- a turn of its own, or a call
abbrev pub CanGo : Ask → Type 0
CanGo Ask.Plain = Unit {0}
CanGo Ask.Local = Unit {0}
CanGo (Ask.Hub q) = Unit {0}
CanGo _ = ⊥

-- needs only its rank; or asks the hub for what is there and stays; or posts or initialises what may pass whatever other ranks
-- may ask; or finds a box of a link on whose side no other rank may be; or can go on where no other rank can
pub data GoesFirst (search : Search) (c : Cluster) (r : ℕ) (rank : Rank) : Type 0 where
  alone : IsBusy (asked rank (search.harts r)) → GoesFirst search c r rank
  collects : (q : Request) → asked rank (search.harts r) ≡ Ask.Hub q → IsReady q (reply_in c.journal r q)
      → GoesFirst search c r rank
  posts : (q : Request) → asked rank (search.harts r) ≡ Ask.Hub q → IsPosting q
      → ((s : ℕ) (p : Pattern) → s ≢ r → IsAllowed search.patterns s p → MayPass search.wild r q s p)
      → GoesFirst search c r rank
  initialises : (q : Request) → asked rank (search.harts r) ≡ Ask.Hub q → IsInitialisation q
      → ((s : ℕ) (p : Pattern) → s ≢ r → IsAllowed search.patterns s p → InitMayPass r q s p)
      → GoesFirst search c r rank
  meets : FindsBox c (waits_on (doing rank.site (part_of rank (search.harts r)))) (asked rank (search.harts r))
      → ((s : ℕ) (p : Pattern) → s ≢ r → IsAllowed search.patterns s p → MayMeet (asked rank (search.harts r)) p)
      → GoesFirst search c r rank
  lone : CanGo (asked rank (search.harts r))
      → ((s : ℕ) (other : Rank) → s ≢ r → slice_get c.ranks s ≡ Some other → IsStill c s other (search.harts s))
      → GoesFirst search c r rank

-- the rank doesn't rest, if standard sends may wait for their receives: a rank that rests may not go first, for
-- it may stay where it is for good
abbrev pub GoesAnyway : Search → Cluster → ℕ → Type 0
GoesAnyway search c r = search.may_wait ≡ true → rests c r (search.harts r) ≡ false

-- one rank goes first
pub record AreSure (search : Search) (c : Cluster) (rs : Ranks) : Type 0 where
  pub one : ℕ
  pub among : rs one ≡ true
  pub only : (r : ℕ) → rs r ≡ true → r ≡ one
  pub rank : Rank
  pub there : slice_get c.ranks one ≡ Some rank
  pub first : GoesFirst search c one rank
  pub within : IsWithin search c one
  pub anyway : GoesAnyway search c one

-- the rank polls its own receive or send, and it has come
pub record IsReadyPoll (search : Search) (c : Cluster) (r : ℕ) : Type 0 where
  pub rank : Rank
  pub there : slice_get c.ranks r ≡ Some rank
  pub light : weight_in (mode_of rank (search.harts r)) ≡ 0
  pub q : Request
  pub asks : asked rank (search.harts r) ≡ Ask.Hub q
  pub ready : IsReady q (reply_in c.journal r q)
  pub within : IsWithin search c r

-- ---- turns that find what they ask for

-- a turn that doesn't miss: a look at a box may miss whatever the box has
abbrev pub Found : ℕ → ℕ → Cluster → Cluster → Type 0
Found r hart old new = (turn : Turn r hart old new) × (is_miss turn.step.kind ≡ false)

-- ---- the machine

abbrev pub cluster_machine : Search → Machine
cluster_machine search = record {
  State = State search;
  Goes = λ r a b. Turn r (search.harts r) a.cluster b.cluster;
  Finds = λ r a b. Found r (search.harts r) a.cluster b.cluster;
  Alike = λ a b. AreAlike search.wild (awake_cluster a.cluster) (awake_cluster b.cluster);
  IsWithin = λ a r. IsWithin search a.cluster r;
  HasRoom = λ a. posts_of a.cluster + 3 < 65536;
  HasSpace = λ a. posts_of a.cluster + 1 < 65536;
  weight = λ a r. weight_of (slice_get a.cluster.ranks r) (search.harts r);
  AreSure = λ a rs. AreSure search a.cluster rs;
  IsReady = λ a r. IsReadyPoll search a.cluster r;
}
