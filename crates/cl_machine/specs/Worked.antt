-- Worked rows: runs of two ranks over one box, and steps that are none.
use Rattle.std.specs.Prelude.{ℕ, zero, suc, ◌<◌, List, [], ◌∷◌, ◌++◌, ◌≡◌, length, map, replicate, true, false}
use Rattle.std.specs.Prelude.{Some, None}
use Rattle.rv_memory.specs.Memory.{bytes_at}
use Rattle.rv_image_types.specs.declared.images.Link.{Link}
use Rattle.mp_types.specs.declared.messages.Message.{Message}
use Rattle.mp_types.specs.declared.replies.Reply.{Reply}
use Rattle.mp_types.specs.declared.replies.Reply.TheVariants as reply
use Rattle.mp_types.specs.declared.requests.Request.{Request}
use Rattle.mp_types.specs.declared.requests.Request.TheVariants as request
use Rattle.mp_request.specs.declared.entries.Partitions.{Partitions}
use Rattle.mp_request.specs.declared.entries.Progress.TheVariants.{InPhase}
use Rattle.mp_request.specs.declared.entries.State.TheVariants.{Active}
use Rattle.mp_request.specs.declared.entries.Transfer.{Transfer}
use Rattle.mp_request.specs.declared.entries.Transfer.TheVariants.{SendPartitions, ReceivePartitions}
use Rattle.mp_request.specs.Table.{Table}
use Rattle.part_phase.specs.declared.phases.Phase.TheVariants.{Sending, Receiving}
use Rattle.part_phase.specs.Receiving.{begun_receiving, cut_into, shaped_receiving, unshaped_receiving}
use Rattle.part_phase.specs.Sending.{begun_sending, shaped_sending, unshaped_sending}
use Rattle.cl_calls.specs.declared.sites.Site.{Site}
use Rattle.cl_journal.specs.declared.entries.Entry.{Entry}
use Rattle.cl_machine.specs.Journal.{Journal, empty_journal, reply_in, with_entry}
use Rattle.cl_state.specs.declared.asking.Answer.{Answer}
use Rattle.cl_state.specs.declared.asking.Ask.{Ask}
use Rattle.cl_trace.specs.declared.events.Kind.{Kind}
use Rattle.cl_deeds.specs.Deeds.{Act, Deed}
use Rattle.cl_state.specs.Rank.{Rank}
use Rattle.cl_state.specs.Asked.{asked}
use Rattle.cl_state.specs.Told.{told}
use Rattle.cl_state.specs.Rows.{calling, first_of_two, guest, send, small_memory}
use Rattle.cl_machine.specs.declared.steps.Step.{Step}
use Rattle.cl_machine.specs.Boxes.{empty_box}
use Rattle.cl_machine.specs.Cluster.{Cluster, IsStep, IsRun}
use Rattle.cl_machine.specs.Joined.{BoxJoined}

-- a step of a hart
abbrev pub step_by : ℕ → ℕ → ℕ → Kind → Step
step_by hart rank stamp kind = record { rank = rank; hart = hart; stamp = stamp; kind = kind }

-- a step of hart 0
abbrev pub step : ℕ → ℕ → Kind → Step
step = step_by 0

-- a rank whose hart 0 calls the hub at stamp 1, whose hart 1 makes partition 0 of link 0 ready at 2, and whose hart 2
-- sees at 4 that it was taken
module _ (rank : Rank) (reply : Reply) where
  abbrev pub sender_called : Rank
  sender_called = told rank 0 (Answer.Reply reply) 1

  abbrev pub sender_made : Rank
  sender_made = told sender_called 1 Answer.Alone 2

  abbrev pub sender_done : Rank
  sender_done = told sender_made 2 Answer.Freed 4

pub record IsSender (rank : Rank) (request : Request) (reply : Reply) (bytes : List ℕ) : Type 0 where
  pub there : 2 < length rank.harts
  pub clock : rank.clock ≡ 0
  pub calls : asked rank 0 ≡ Ask.Hub request
  pub makes : asked (sender_called rank reply) 1 ≡ Ask.Ready 0 0 bytes
  pub sees : asked (sender_made rank reply) 2 ≡ Ask.Freed 0 0

-- a rank whose hart 0 looks at the partition too early and takes it at stamp 3, and whose hart 1 calls the hub at 4
module _ (rank : Rank) (bytes : List ℕ) where
  abbrev pub receiver_missed : Rank
  receiver_missed = told rank 0 Answer.Missed 1

  abbrev pub receiver_took : Rank
  receiver_took = told receiver_missed 0 (Answer.Taken bytes) 3

  abbrev pub receiver_done : Reply → Rank
  receiver_done reply = told receiver_took 1 (Answer.Reply reply) 4

pub record IsReceiver (rank : Rank) (bytes : List ℕ) (request : Request) : Type 0 where
  pub there : 1 < length rank.harts
  pub clock : rank.clock ≡ 0
  pub looks : asked rank 0 ≡ Ask.Look 0 0
  pub takes : asked (receiver_missed rank bytes) 0 ≡ Ask.Look 0 0
  pub calls : asked (receiver_took rank bytes) 1 ≡ Ask.Hub request

-- rank 0 is the sender, rank 1 the receiver. The stamps are those of the drawing in docs/CLUSTER.md
module _ (links : List Link) (sender receiver : Rank) (bytes : List ℕ) (first second : Request) where
  abbrev pub first_reply : Reply
  first_reply = reply_in (empty_journal links) 0 first

  abbrev pub first_entry : Entry
  first_entry = record { rank = 0; hart = 0; clock = 0; stamp = 1; request = first; reply = first_reply }

  abbrev pub one_call : Journal
  one_call = with_entry (empty_journal links) first_entry

  abbrev pub second_reply : Reply
  second_reply = reply_in one_call 1 second

  abbrev pub second_entry : Entry
  second_entry = record { rank = 1; hart = 1; clock = 3; stamp = 4; request = second; reply = second_reply }

  abbrev pub shared_start : Cluster
  shared_start = record { ranks = sender ∷ receiver ∷ []; journal = empty_journal links; boxes = empty_box ∷ [] }

  abbrev pub shared_steps : List Step
  shared_steps =
      step 0 1 (Kind.Hub first_reply) ∷
      step 1 1 Kind.Miss ∷
      step_by 1 0 2 Kind.Ready ∷
      step 1 3 Kind.Take ∷
      step_by 2 0 4 Kind.Freed ∷
      step_by 1 1 4 (Kind.Hub second_reply) ∷
      []

  abbrev pub shared_end : Cluster
  shared_end = record {
    ranks = sender_done sender first_reply ∷ receiver_done receiver bytes second_reply ∷ [];
    journal = with_entry one_call second_entry;
    boxes = record { made = record { stamp = 2; bytes = bytes } ∷ []; taken = 1; stamp = 3 } ∷ [];
  }

-- what was made ready is taken, and its sender sees that
abbrev pub SharedRow : Type 0
SharedRow =
    (links : List Link) (sender receiver : Rank) (bytes : List ℕ) (first second : Request)
    → IsSender sender first (reply_in (empty_journal links) 0 first) bytes
    → IsReceiver receiver bytes second
    → IsRun (shared_start links sender receiver bytes first second)
    (shared_steps links sender receiver bytes first second)
    (shared_end links sender receiver bytes first second)

-- the same events as deeds, rank by rank
abbrev pub shared_deeds : List ℕ → Request → Reply → Request → Reply → ℕ → List Deed
shared_deeds bytes first first_reply second second_reply zero =
    record { rank = 0; hart = 0; stamp = 1; act = Act.Hub 0 first first_reply } ∷
    record { rank = 0; hart = 1; stamp = 2; act = Act.Ready 0 0 bytes } ∷
    record { rank = 0; hart = 2; stamp = 4; act = Act.Freed 0 0 3 } ∷
    []
shared_deeds bytes first first_reply second second_reply (suc zero) =
    record { rank = 1; hart = 0; stamp = 1; act = Act.Miss 0 0 } ∷
    record { rank = 1; hart = 0; stamp = 3; act = Act.Take 0 0 2 bytes } ∷
    record { rank = 1; hart = 1; stamp = 4; act = Act.Hub 3 second second_reply } ∷
    []
shared_deeds bytes first first_reply second second_reply (suc (suc rank)) = []

-- they meet the gate rule's facts of their box: what the law of the order asks can be met
abbrev pub JoinedRow : Type 0
JoinedRow =
    (bytes : List ℕ) (first : Request) (first_reply : Reply) (second : Request) (second_reply : Reply)
    → BoxJoined (record { from = 0; to = 1 } ∷ []) 0 (shared_deeds bytes first first_reply second second_reply)
    (record { made = record { stamp = 2; bytes = bytes } ∷ []; taken = 1; stamp = 3 })

-- a Take that comes before its Ready is no step
abbrev pub EarlyRow : Type 0
EarlyRow =
    (links : List Link) (sender receiver : Rank) (bytes : List ℕ) (first second : Request) (stamp : ℕ) (new : Cluster)
    → asked receiver 0 ≡ Ask.Look 0 0
    → IsStep (shared_start links sender receiver bytes first second) (step 1 stamp Kind.Take) new → ⊥

-- ---- two small guests: rank 0 sends the bytes "i\n" with tag 7 to rank 1, which receives them at 16

abbrev pub receiving : Rank
receiving = record (guest (16 ∷ 4 ∷ 0 ∷ 7 ∷ 0 ∷ 0 ∷ []) 18) { site = record first_of_two { number = 1 } }

abbrev pub meeting : Cluster
meeting = record { ranks = send ∷ receiving ∷ []; journal = empty_journal []; boxes = [] }

abbrev pub sent_message : Message
sent_message = record { envelope = record { comm = 0; source = 0; tag = 7; count = 2 }; bytes = 105 ∷ 10 ∷ [] }

-- what stands at 16 in each rank
abbrev pub arrived : Cluster → List (List ℕ)
arrived cluster = map (λ (rank : Rank). bytes_at rank.memory 16 2) cluster.ranks

abbrev pub Arrives : List Step → Type 0
Arrives steps = (end : Cluster) × IsRun meeting steps end × (arrived end ≡ (9 ∷ 9 ∷ []) ∷ (105 ∷ 10 ∷ []) ∷ [])

-- the send first: stamps 9 and 10
abbrev pub SendsFirst : Type 0
SendsFirst = Arrives (step 0 9 (Kind.Hub (reply.Posted 1 true)) ∷ step 1 10 (Kind.Hub (reply.Got sent_message)) ∷ [])

-- the receive first: it is posted at 9, the send has 10, and the receive is collected at 11
abbrev pub ReceivesFirst : Type 0
ReceivesFirst =
    Arrives (step 1 9 (Kind.Hub (reply.Posted 1 false)) ∷ step 0 10 (Kind.Hub (reply.Posted 2 true))
    ∷ step 1 11 (Kind.Hub (reply.Got sent_message)) ∷ [])

-- a message that nobody sent yet isn't got, at any stamp
abbrev pub NothingSent : Type 0
NothingSent = (stamp : ℕ) (new : Cluster) → IsStep meeting (step 1 stamp (Kind.Hub (reply.Got sent_message))) new → ⊥

-- a call whose stamp leaves out the hub's clock is no step: after the send at 9 the receive has 10, and not its own
-- clock's 9
abbrev pub StampTooLow : Type 0
StampTooLow = (new : Cluster)
    → IsRun meeting (step 0 9 (Kind.Hub (reply.Posted 1 true)) ∷ step 1 9 (Kind.Hub (reply.Got sent_message)) ∷ []) new
    → ⊥

-- ---- two guests over one link: rank 0 sends a partition of 8 bytes at 8 and the message "i\n", rank 1 receives both

-- rank 0 of 2, with a link to rank 1
abbrev pub linked : Site
linked = record first_of_two { links = record { from = 0; to = 1 } ∷ [] }

-- an active request for one partition of 8 bytes at 8 over the link
abbrev pub partition_with : ℕ → Partitions
partition_with peer = record { link = 0; buffer = 8; parts = 1; size = 8; peer = peer; tag = 7; comm = 0 }

abbrev pub handle_1 : Transfer → Table
handle_1 transfer = Some (record { transfer = transfer; state = Active InPhase }) ∷ replicate 254 None

-- hart 0 is at the SEND of 2 bytes at 9, hart 1 at the PREADY of partition 0 of handle 1, hart 2 at the WAIT for it
abbrev pub partition_sender : Rank
partition_sender = record {
  site = linked;
  memory = small_memory;
  harts =
      calling (9 ∷ 2 ∷ 1 ∷ 7 ∷ 0 ∷ []) 16 ∷
      calling (1 ∷ 0 ∷ []) 42 ∷
      calling (1 ∷ 0 ∷ []) 23 ∷
      [];
  requests = handle_1 (SendPartitions (partition_with 1));
  phases = Sending (begun_sending (shaped_sending 1 8 unshaped_sending)) ∷ [];
  out = [];
  clock = 0;
}

-- hart 0 is at the WAIT for handle 1, whose sender's cut it knows; hart 1 is at the RECV of 4 bytes to 16
abbrev pub partition_receiver : Rank
partition_receiver = record {
  site = record linked { number = 1 };
  memory = small_memory;
  harts = calling (1 ∷ 0 ∷ []) 23 ∷ calling (16 ∷ 4 ∷ 0 ∷ 7 ∷ 0 ∷ 0 ∷ []) 18 ∷ [];
  requests = handle_1 (ReceivePartitions (partition_with 0));
  phases = Receiving (begun_receiving (cut_into 1 8 (shaped_receiving 1 8 unshaped_receiving))) ∷ [];
  out = [];
  clock = 0;
}

-- what PREADY copies: the bytes at 8, and zeros up to the 64 of a box
abbrev pub partition_bytes : List ℕ
partition_bytes = 104 ∷ 105 ∷ 10 ∷ replicate 5 9 ++ replicate 56 0

-- the calls of these guests are those of the row, so the row is a run of real partitioned calls
abbrev pub RealCallsRow : Type 0
RealCallsRow =
    IsSender partition_sender (request.Send false 0 1 7 (105 ∷ 10 ∷ [])) (reply.Posted 1 true) partition_bytes
    × IsReceiver partition_receiver partition_bytes (request.Recv true 0 (Some 0) (Some 7))

-- and what it leaves at 8 and at 16 of the receiver: the partition, and the message
abbrev pub RealEndRow : Type 0
RealEndRow =
    (end : Cluster)
    × IsRun (shared_start linked.links partition_sender partition_receiver partition_bytes
    (request.Send false 0 1 7 (105 ∷ 10 ∷ [])) (request.Recv true 0 (Some 0) (Some 7)))
    (step 0 1 (Kind.Hub (reply.Posted 1 true)) ∷ step 1 1 Kind.Miss ∷ step_by 1 0 2 Kind.Ready ∷ step 1 3 Kind.Take
    ∷ step_by 2 0 4 Kind.Freed ∷ step_by 1 1 4 (Kind.Hub (reply.Got sent_message)) ∷ [])
    end
    × (map (λ (rank : Rank). bytes_at rank.memory 8 10) end.ranks
    ≡ (104 ∷ 105 ∷ 10 ∷ replicate 7 9) ∷ (104 ∷ 105 ∷ 10 ∷ replicate 5 9 ++ 105 ∷ 10 ∷ []) ∷ [])
