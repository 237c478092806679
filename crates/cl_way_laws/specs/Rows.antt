-- Worked rows. Rank 1 sends to rank 0 and then to rank 2, which sends to rank 0 because of that: what stands at 16 of rank 0
-- in the end? And when does a WAIT for a synchronous send return?
use Rattle.std.specs.Prelude.{ℕ, ◌≡◌, List, [], ◌∷◌, map, take, false, true, Option, Some, None}
use Rattle.rv_hart.specs.State.{State}
use Rattle.rv_memory.specs.Memory.{bytes_at}
use Rattle.mp_types.specs.declared.messages.Message.{Message}
use Rattle.mp_types.specs.declared.replies.Reply.TheVariants as reply
use Rattle.mp_request.specs.declared.entries.OpenRequest.{OpenRequest}
use Rattle.mp_request.specs.declared.entries.Progress.{Progress}
use Rattle.mp_request.specs.declared.entries.Progress.TheVariants.{Finished, OnPost}
use Rattle.mp_request.specs.declared.entries.State.TheVariants.{Ordinary}
use Rattle.mp_request.specs.declared.entries.Transfer.TheVariants as transfer
use Rattle.mp_request.specs.Table.{request_at}
use Rattle.mp_hub.specs.Hub.{sending}
use Rattle.mp_way_laws.specs.Way.{all_arrived, way_at_start}
use Rattle.cl_calls.specs.Calls.{any}
use Rattle.cl_state.specs.Rank.{Rank}
use Rattle.cl_state.specs.Rows.{calling, first_of_two, guest}
use Rattle.cl_trace.specs.declared.events.Kind.{Kind}
use Rattle.cl_machine.specs.Cluster.{Cluster, IsRun}
use Rattle.cl_machine.specs.Journal.{empty_journal}
use Rattle.cl_machine.specs.Worked.{step_by}
use Rattle.cl_way_laws.specs.Clusters.{IsWayEnd, IsWayRun, WayCluster, WayEvent, arrives, turn, with_journal}
use Rattle.cl_way_laws.specs.Met.{met}

-- ---- three ranks, each hart at one call

abbrev pub one_of_three : ℕ → List State → Rank
one_of_three number harts = record (guest [] 0) {
  site = record first_of_two { number = number; ranks = 3; comms = (0 ∷ 1 ∷ 2 ∷ []) ∷ [] };
  harts = harts;
}

-- SEND of the 2 bytes at an address, with tag 7
abbrev pub sends : ℕ → ℕ → State
sends address to = calling (address ∷ 2 ∷ to ∷ 7 ∷ 0 ∷ []) 16

-- RECV of 4 bytes at most to 16, from this source, with tag 7
abbrev pub receives : ℕ → State
receives source = calling (16 ∷ 4 ∷ source ∷ 7 ∷ 0 ∷ 0 ∷ []) 18

-- rank 0 receives from this source
abbrev pub three : ℕ → WayCluster
three source = record {
  ranks =
      one_of_three 0 (receives source ∷ []) ∷
      one_of_three 1 (sends 9 0 ∷ sends 9 2 ∷ []) ∷
      one_of_three 2 (receives 1 ∷ sends 8 0 ∷ []) ∷
      [];
  way = way_at_start [];
  boxes = [];
}

-- what rank 1 sends, "i\n", and what rank 2 does, "hi"
abbrev pub from_one : List ℕ
from_one = 105 ∷ 10 ∷ []

abbrev pub from_two : List ℕ
from_two = 104 ∷ 105 ∷ []

abbrev pub at_16 : List Rank → List (List ℕ)
at_16 ranks = map (λ (rank : Rank). bytes_at rank.memory 16 2) (take 1 ranks)

-- ---- on the way

abbrev pub LeavesAt16 : ℕ → List WayEvent → List ℕ → Type 0
LeavesAt16 source events bytes =
    (end : WayCluster) × IsWayRun (three source) events end × (at_16 end.ranks ≡ bytes ∷ [])

-- rank 1 sends twice; the second message arrives at rank 2, which receives it and sends; and that message arrives at
-- rank 0. A receive of any source gets it, while the first one is on its way
abbrev pub Overtaken : Type 0
Overtaken =
    LeavesAt16 any
    (turn 1 0 ∷ turn 1 1 ∷ arrives 1 (sending 1 false 0 2 7 from_one) ∷ turn 2 0 ∷ turn 2 1 ∷
    arrives 3 (sending 2 false 0 0 7 from_two) ∷ turn 0 0 ∷ [])
    from_two

-- one that names its source is posted, and gets its message when that has arrived
abbrev pub Named : Type 0
Named =
    LeavesAt16 1
    (turn 1 0 ∷ turn 1 1 ∷ arrives 1 (sending 1 false 0 2 7 from_one) ∷ turn 2 0 ∷ turn 2 1 ∷
    arrives 3 (sending 2 false 0 0 7 from_two) ∷ turn 0 0 ∷ arrives 0 (sending 1 false 0 0 7 from_one) ∷ turn 0 0 ∷ [])
    from_one

-- while a message is on its way, it is no end
abbrev pub NoEnd : Type 0
NoEnd = (w : WayCluster) × IsWayRun (three any) (turn 1 0 ∷ []) w × (¬ IsWayEnd w)

-- ---- where each message arrives as soon as it is sent

abbrev pub got : Message
got = record { envelope = record { comm = 0; source = 1; tag = 7; count = 2 }; bytes = from_one }

-- the same turns, and a receive of any source gets the message that was sent first
abbrev pub AtOnce : Type 0
AtOnce =
    (end : Cluster)
    × IsRun (with_journal (three any) (empty_journal []))
    (step_by 0 1 9 (Kind.Hub (reply.Posted 1 true)) ∷ step_by 1 1 10 (Kind.Hub (reply.Posted 2 true)) ∷
    step_by 0 2 11 (Kind.Hub (reply.Got got)) ∷ step_by 1 2 12 (Kind.Hub (reply.Posted 4 true)) ∷
    step_by 0 0 13 (Kind.Hub (reply.Got got)) ∷ [])
    end
    × (at_16 end.ranks ≡ from_one ∷ [])

-- ---- two ranks: rank 0 makes a RECV from rank 1, which makes an ISSEND to it and a WAIT for that

abbrev pub one_of_two : ℕ → List State → Rank
one_of_two number harts = record (guest [] 0) { site = record first_of_two { number = number }; harts = harts }

-- ISSEND of the 2 bytes at 9, with tag 7
abbrev pub sends_and_goes_on : ℕ → State
sends_and_goes_on to = calling (9 ∷ 2 ∷ to ∷ 7 ∷ 0 ∷ []) 20

-- WAIT for the request of this handle, with no status
abbrev pub waits_for : ℕ → State
waits_for handle = calling (handle ∷ 0 ∷ []) 23

abbrev pub two : WayCluster
two = record {
  ranks = one_of_two 0 (receives 1 ∷ []) ∷ one_of_two 1 (sends_and_goes_on 0 ∷ waits_for 1 ∷ []) ∷ [];
  way = way_at_start [];
  boxes = [];
}

-- what handle 1 names at each rank
abbrev pub at_handle_1 : List Rank → List (Option OpenRequest)
at_handle_1 ranks = map (λ (rank : Rank). request_at rank.requests 1) ranks

-- the same once all has arrived
abbrev pub then_at_handle_1 : WayCluster → List (Option OpenRequest)
then_at_handle_1 w = at_handle_1 (map (met (all_arrived w.way).board.lines) w.ranks)

-- rank 1's request
abbrev pub the_send : Progress → OpenRequest
the_send progress = record { transfer = transfer.Send true 9 2 0 7 0; state = Ordinary progress }

-- the receive is post 1 and the send post 2. While its message is on its way the WAIT has to be made anew, and once all
-- has arrived the send is complete; when it arrives, the WAIT returns, and its request is gone
abbrev pub Waited : Type 0
Waited =
    (mid : WayCluster) × IsWayRun two (turn 0 0 ∷ turn 1 0 ∷ turn 1 1 ∷ []) mid
    × (at_handle_1 mid.ranks ≡ None ∷ Some (the_send (OnPost 2)) ∷ [])
    × (then_at_handle_1 mid ≡ None ∷ Some (the_send Finished) ∷ [])
    × (end : WayCluster) × IsWayRun mid (arrives 1 (sending 1 true 0 0 7 from_one) ∷ turn 1 1 ∷ []) end
    × (at_handle_1 end.ranks ≡ None ∷ None ∷ [])

-- where the receive is posted after the send, a WAIT has to ask for it also where messages arrive at once
abbrev pub PostedLater : Type 0
PostedLater =
    (end : WayCluster) × IsWayRun two (turn 1 0 ∷ turn 0 0 ∷ []) end
    × (at_handle_1 end.ranks ≡ None ∷ Some (the_send (OnPost 1)) ∷ [])
    × (then_at_handle_1 end ≡ None ∷ Some (the_send (OnPost 1)) ∷ [])

pub record WorkedWays : Type 0 where
  pub overtaken : Overtaken
  pub named : Named
  pub no_end : NoEnd
  pub at_once : AtOnce
  pub waited : Waited
  pub posted_later : PostedLater
