-- Worked rows: two ranks that are stuck, one that isn't, and what each waits for.
use Rattle.std.specs.Prelude.{ℕ, List, [], ◌∷◌, map, false, true, Some, None}
use Rattle.rv_hart.specs.State.{in_mode}
use Rattle.rv_hart.specs.declared.state.Mode.TheVariants.{Ended}
use Rattle.mp_types.specs.declared.replies.Reply.TheVariants as reply
use Rattle.mp_types.specs.declared.requests.Request.TheVariants as request
use Rattle.mp_request.specs.declared.entries.Progress.TheVariants.{OnPost}
use Rattle.cl_journal.specs.declared.entries.Entry.{Entry}
use Rattle.cl_state_laws.specs.RequestRows.{ordinary, table_of}
use Rattle.cl_state_laws.specs.SeveralRows.{completing_two, receive_at}
use Rattle.cl_machine.specs.Journal.{Journal, with_entry}
use Rattle.cl_calls.specs.Calls.{any}
use Rattle.cl_trace.specs.declared.events.Kind.{Kind}
use Rattle.cl_state.specs.Rank.{Rank}
use Rattle.part_phase.specs.declared.phases.Phase.TheVariants.{Sending}
use Rattle.part_phase.specs.Sending.{begun_sending, readied, shaped_sending, unshaped_sending}
use Rattle.cl_state.specs.Rows.{calling, first_of_two, guest}
use Rattle.cl_machine.specs.declared.steps.Step.{Step}
use Rattle.cl_machine.specs.Cluster.{Cluster, IsRun}
use Rattle.cl_machine.specs.Journal.{empty_journal}
use Rattle.cl_machine.specs.Boxes.{Box, empty_box, with_made}
use Rattle.cl_machine.specs.Worked.{linked, partition_bytes, partition_receiver, partition_sender, step}
use Rattle.cl_deadlock_laws.specs.Stuck.{AreStuck}

-- this rank of two, at a call with these arguments and this number
abbrev pub at_call : ℕ → List ℕ → ℕ → Rank
at_call rank arguments number = record (guest arguments number) { site = record first_of_two { number = rank } }

-- RECV of 4 bytes with tag 7 to 16, SSEND of 2 bytes at 9 with tag 7
abbrev pub recv : ℕ → ℕ → Rank
recv rank source = at_call rank (16 ∷ 4 ∷ source ∷ 7 ∷ 0 ∷ 0 ∷ []) 18

abbrev pub ssend : ℕ → ℕ → Rank
ssend rank dest = at_call rank (9 ∷ 2 ∷ dest ∷ 7 ∷ 0 ∷ []) 17

abbrev pub ended : Rank → Rank
ended rank = record rank { harts = map (λ hart. in_mode hart (Ended 0)) rank.harts }

abbrev pub both : Rank → Rank → Cluster
both first second = record { ranks = first ∷ second ∷ []; journal = empty_journal []; boxes = [] }

-- these steps lead to a cluster in which these ranks are stuck
abbrev pub GetStuck : List ℕ → Cluster → List Step → Type 0
GetStuck ranks start steps = (end : Cluster) × IsRun start steps end × AreStuck ranks end

-- and in which these aren't
abbrev pub GetNotStuck : List ℕ → Cluster → List Step → Type 0
GetNotStuck ranks start steps = (end : Cluster) × IsRun start steps end × (AreStuck ranks end → ⊥)

-- each makes its call
abbrev pub receives : List Step
receives = step 0 9 (Kind.Hub (reply.Posted 1 false)) ∷ step 1 10 (Kind.Hub (reply.Posted 2 false)) ∷ []

-- each receives from the other before it sends
abbrev pub ReceiveFirst : Type 0
ReceiveFirst = GetStuck (0 ∷ 1 ∷ []) (both (recv 0 1) (recv 1 0)) receives

-- each sends synchronously to the other before it receives
abbrev pub SendFirst : Type 0
SendFirst = GetStuck (0 ∷ 1 ∷ []) (both (ssend 0 1) (ssend 1 0)) receives

-- a receive from any source, where the other rank has ended
abbrev pub NobodyLeft : Type 0
NobodyLeft =
    GetStuck (0 ∷ 1 ∷ []) (both (ended (recv 0 1)) (recv 1 any)) (step 1 9 (Kind.Hub (reply.Posted 1 false)) ∷ [])

-- rank 1 alone isn't stuck: rank 0 could send
abbrev pub OneAlone : Type 0
OneAlone = GetNotStuck (1 ∷ []) (both (recv 0 1) (recv 1 0)) receives

-- and where rank 0 still runs, nobody is
abbrev pub OneRuns : Type 0
OneRuns =
    GetNotStuck (0 ∷ 1 ∷ []) (both (recv 0 1) (recv 1 0)) (step 1 9 (Kind.Hub (reply.Posted 1 false)) ∷ [])

-- a receive from any source waits for each member, and rank 0 is one
abbrev pub AnySource : Type 0
AnySource = GetNotStuck (1 ∷ []) (both (recv 0 1) (recv 1 any)) (step 1 9 (Kind.Hub (reply.Posted 1 false)) ∷ [])

-- a message that is there already: the receive of rank 1 goes on where it takes its turn
abbrev pub SentBefore : Type 0
SentBefore =
    GetNotStuck (0 ∷ 1 ∷ []) (both (ssend 0 1) (recv 1 0))
    (step 1 9 (Kind.Hub (reply.Posted 1 false)) ∷ step 0 10 (Kind.Hub (reply.Posted 2 true)) ∷ [])

-- a rank that receives from itself is stuck alone, whatever the other does
abbrev pub FromItself : Type 0
FromItself = GetStuck (0 ∷ []) (both (recv 0 0) (recv 1 0)) (step 0 9 (Kind.Hub (reply.Posted 1 false)) ∷ [])

-- rank 0 posted two receives from rank 1, which sent one message and ended: of the two posts the second isn't ready
abbrev pub irecv : ℕ → Entry
irecv post = record {
  rank = 0;
  hart = 0;
  clock = 0;
  stamp = post;
  request = request.Recv false 0 (Some 1) None;
  reply = reply.Posted post false;
}

abbrev pub isend : ℕ → Entry
isend post = record {
  rank = 1;
  hart = 0;
  clock = 0;
  stamp = post;
  request = request.Send false 0 0 7 (5 ∷ []);
  reply = reply.Posted post true;
}

abbrev pub posts : Journal
posts = with_entry (with_entry (with_entry (empty_journal []) (irecv 1)) (irecv 2)) (isend 3)

abbrev pub waitall : Rank
waitall =
    completing_two (table_of (ordinary (receive_at 40) (OnPost 1) ∷ ordinary (receive_at 44) (OnPost 2) ∷ [])) 1 2 0 35

abbrev pub WaitForSecond : Type 0
WaitForSecond =
    GetStuck (0 ∷ 1 ∷ []) (record { ranks = waitall ∷ ended (recv 1 0) ∷ []; journal = posts; boxes = [] })
    (step 0 9 (Kind.Hub reply.NotYet) ∷ [])

-- ---- partitions of one link, from rank 0 to rank 1, in a phase

-- WAIT for handle 1: the sender, which made its partition ready or didn't, and the receiver
abbrev pub waits_unready : Rank
waits_unready = record partition_sender { harts = calling (1 ∷ 0 ∷ []) 23 ∷ [] }

abbrev pub waits_to_be_taken : Rank
waits_to_be_taken = record waits_unready {
  phases = Sending (readied 0 (begun_sending (shaped_sending 1 8 unshaped_sending))) ∷ [];
}

abbrev pub waits_for_it : Rank
waits_for_it = record partition_receiver { harts = calling (1 ∷ 0 ∷ []) 23 ∷ [] }

-- what stands in the box where one thing was made and wasn't taken
abbrev pub left_there : Box
left_there = with_made empty_box 0 partition_bytes

abbrev pub over_link : Rank → Rank → Box → Cluster
over_link first second box =
    record { ranks = first ∷ second ∷ []; journal = empty_journal linked.links; boxes = box ∷ [] }

-- a PREADY that is missing: the sender waits for its own partition, and the receiver for the sender
abbrev pub NoneReady : Type 0
NoneReady =
    GetStuck (0 ∷ 1 ∷ []) (over_link waits_unready waits_for_it empty_box)
    (step 0 1 Kind.Held ∷ step 1 1 Kind.Miss ∷ [])

-- a receiver that ended before it took what the sender made ready
abbrev pub NoneTakes : Type 0
NoneTakes =
    GetStuck (0 ∷ 1 ∷ []) (over_link waits_to_be_taken (ended waits_for_it) left_there) (step 0 1 Kind.Miss ∷ [])
