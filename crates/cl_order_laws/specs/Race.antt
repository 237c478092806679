-- The wildcard race: two ranks send to a third that receives from any source, as a closed list with two ends.
use Rattle.std.specs.Prelude.{ℕ, ◌+◌, ◌≡◌, ◌⊎◌, List, [], ◌∷◌, slice_get, Some, None, true, false}
use Rattle.rv_memory.specs.Memory.{bytes_at}
use Rattle.mp_types.specs.declared.messages.Message.{Message}
use Rattle.mp_types.specs.declared.replies.Reply.{Reply}
use Rattle.mp_types.specs.declared.replies.Reply.TheVariants as reply
use Rattle.mp_types.specs.declared.requests.Request.{Request}
use Rattle.mp_types.specs.declared.requests.Request.TheVariants as request
use Rattle.cl_calls.specs.declared.sites.Site.{Site}
use Rattle.cl_calls.specs.Calls.{any}
use Rattle.cl_journal.specs.declared.entries.Entry.{Entry}
use Rattle.cl_state.specs.declared.asking.Answer.{Answer}
use Rattle.cl_state.specs.Rank.{Rank}
use Rattle.cl_state.specs.Rows.{first_of_two, guest}
use Rattle.cl_state.specs.Told.{told}
use Rattle.cl_trace.specs.declared.events.Kind.{Kind}
use Rattle.cl_machine.specs.declared.steps.Step.{Step}
use Rattle.cl_machine.specs.Cluster.{Cluster, IsRun}
use Rattle.cl_machine.specs.Journal.{empty_journal, journal_of}
use Rattle.cl_machine.specs.Worked.{step}
use Rattle.cl_order_laws.specs.Closed.{FollowPlans, IsClosed, IsCovered, IsEnd, Node, Plans, none_had}
use Rattle.cl_order_laws.specs.Sure.{IsClosedAtOnce}

-- ---- the guests: each is at one call, and traps in the turn behind it, since its text ends there

abbrev pub of_three : ℕ → Site
of_three number = record first_of_two { number = number; ranks = 3; comms = (0 ∷ 1 ∷ 2 ∷ []) ∷ [] }

-- at the SEND of the byte at an address to rank 2, tag 7
abbrev pub sender : ℕ → ℕ → Rank
sender number address = record (guest (address ∷ 1 ∷ 2 ∷ 7 ∷ 0 ∷ []) 16) { site = of_three number }

-- 104 stands at 8, and 105 at 9
abbrev pub sender_0 : Rank
sender_0 = sender 0 8

abbrev pub sender_1 : Rank
sender_1 = sender 1 9

-- at the RECV of 4 bytes to 16, of any source and tag
abbrev pub receiver : Rank
receiver = record (guest (16 ∷ 4 ∷ any ∷ any ∷ 0 ∷ 0 ∷ []) 18) { site = of_three 2 }

-- ---- what they ask, and are told

abbrev pub sends : ℕ → Request
sends byte = request.Send false 0 2 7 (byte ∷ [])

abbrev pub receives : Request
receives = request.Recv true 0 None None

abbrev pub message_of : ℕ → ℕ → Message
message_of source byte = record {
  envelope = record { comm = 0; source = source; tag = 7; count = 1 };
  bytes = byte ∷ [];
}

abbrev pub from_0 : Message
from_0 = message_of 0 104

abbrev pub from_1 : Message
from_1 = message_of 1 105

-- the hub answered its call
abbrev pub answered : Rank → Reply → Rank
answered rank reply = told rank 0 (Answer.Reply reply) 10

-- and it took the turn behind it
abbrev pub trapped : Rank → Rank
trapped rank = told rank 0 Answer.Alone 11

abbrev pub sent : Rank → Rank
sent rank = trapped (answered rank (reply.Posted 2 true))

-- its receive is post 1, and nothing was there
abbrev pub waiting : Rank
waiting = told receiver 0 (Answer.Reply (reply.Posted 1 false)) 9

abbrev pub got : Message → Rank
got message = trapped (answered waiting (reply.Got message))

-- ---- the calls

abbrev pub entry : ℕ → ℕ → Request → Reply → Entry
entry rank stamp request reply =
    record { rank = rank; hart = 0; clock = 8; stamp = stamp; request = request; reply = reply }

abbrev pub posted : Entry
posted = entry 2 9 receives (reply.Posted 1 false)

-- the sends, as the post of this number
abbrev pub send_0 : ℕ → Entry
send_0 post = entry 0 (8 + post) (sends 104) (reply.Posted post true)

abbrev pub send_1 : ℕ → Entry
send_1 post = entry 1 (8 + post) (sends 105) (reply.Posted post true)

abbrev pub collected : Message → Entry
collected message = entry 2 12 (request.Collect 1) (reply.Got message)

-- ---- the nodes

abbrev pub node_of : Rank → Rank → Rank → List Entry → Node
node_of first second third entries = record {
  cluster = record { ranks = first ∷ second ∷ third ∷ []; journal = journal_of [] entries; boxes = [] };
  had = none_had;
}

-- the receive waits
abbrev pub open_node : Node
open_node = node_of sender_0 sender_1 waiting (posted ∷ [])

-- one rank sent, and the receive has its message
abbrev pub sent_0 : Node
sent_0 = node_of (sent sender_0) sender_1 waiting (posted ∷ send_0 2 ∷ [])

abbrev pub sent_1 : Node
sent_1 = node_of sender_0 (sent sender_1) waiting (posted ∷ send_1 2 ∷ [])

-- it was collected before the other sent
abbrev pub got_0 : Node
got_0 = node_of (sent sender_0) sender_1 (got from_0) (posted ∷ send_0 2 ∷ collected from_0 ∷ [])

abbrev pub got_1 : Node
got_1 = node_of sender_0 (sent sender_1) (got from_1) (posted ∷ send_1 2 ∷ collected from_1 ∷ [])

-- both sent, in this order or in that
abbrev pub both_0 : Node
both_0 = node_of (sent sender_0) (sent sender_1) waiting (posted ∷ send_0 2 ∷ send_1 3 ∷ [])

abbrev pub both_1 : Node
both_1 = node_of (sent sender_0) (sent sender_1) waiting (posted ∷ send_1 2 ∷ send_0 3 ∷ [])

-- and the first was collected
abbrev pub end_0 : Node
end_0 = node_of (sent sender_0) (sent sender_1) (got from_0)
    (posted ∷ send_0 2 ∷ send_1 3 ∷ collected from_0 ∷ [])

abbrev pub end_1 : Node
end_1 = node_of (sent sender_0) (sent sender_1) (got from_1)
    (posted ∷ send_1 2 ∷ send_0 3 ∷ collected from_1 ∷ [])

abbrev pub race : List Node
race = open_node ∷ sent_0 ∷ sent_1 ∷ got_0 ∷ got_1 ∷ both_0 ∷ both_1 ∷ end_0 ∷ end_1 ∷ []

-- where a receive that has its message is collected at once
abbrev pub at_once : List Node
at_once = open_node ∷ got_0 ∷ got_1 ∷ end_0 ∷ end_1 ∷ []

-- each rank has one hart
abbrev pub one_hart : Plans
one_hart r n = 0

-- ---- the row

-- what stands at 16 in rank 2
abbrev pub Receives : Cluster → ℕ → Type 0
Receives cluster byte =
    (rank : Rank) × (slice_get cluster.ranks 2 ≡ Some rank) × (bytes_at rank.memory 16 1 ≡ byte ∷ [])

-- the receive was posted by a step of the machine
abbrev pub IsPosted : Type 0
IsPosted =
    IsRun (record { ranks = sender_0 ∷ sender_1 ∷ receiver ∷ []; journal = empty_journal []; boxes = [] })
    (step 2 9 (Kind.Hub (reply.Posted 1 false)) ∷ [])
    open_node.cluster

-- of any length and with any order of the ranks, a run from there receives the one byte or the other where it ends
abbrev pub EndsInOneOfTwo : Type 0
EndsInOneOfTwo =
    (steps : List Step) (end : Cluster) → IsRun open_node.cluster steps end → FollowPlans one_hart none_had steps
    → IsEnd one_hart end
    → Receives end 104 ⊎ Receives end 105

pub record WorkedRace : Type 0 where
  pub posted : IsPosted
  pub start : IsCovered one_hart race open_node
  pub closed : IsClosed one_hart race
  -- five of the nodes are enough
  pub fewer : IsClosedAtOnce one_hart 65535 at_once
  -- just two of the nodes are ends
  pub two : (i : ℕ) (node : Node) → slice_get race i ≡ Some node → IsEnd one_hart node.cluster
      → (node ≡ end_0) ⊎ (node ≡ end_1)
  pub first : IsEnd one_hart end_0.cluster × Receives end_0.cluster 104
  pub second : IsEnd one_hart end_1.cluster × Receives end_1.cluster 105
  pub runs : EndsInOneOfTwo
