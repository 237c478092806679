-- Worked rows: boxes, places of plans, and turns that a closed set can't leave out.
use Rattle.std.specs.Prelude.{ℕ, zero, suc, ◌+◌, ◌<◌, ◌≡◌, ◌≢◌, List, [], ◌∷◌, length, slice_get, Some, true}
use Rattle.rv_hart.specs.State.{State}
use Rattle.mp_types.specs.declared.replies.Reply.TheVariants as reply
use Rattle.cl_state.specs.declared.asking.Answer.{Answer}
use Rattle.cl_state.specs.declared.asking.Ask.{Ask}
use Rattle.cl_state.specs.Asked.{asked}
use Rattle.cl_state.specs.Rank.{Rank}
use Rattle.cl_state.specs.Rows.{calling, guest}
use Rattle.cl_trace.specs.declared.events.Kind.{Kind}
use Rattle.cl_machine.specs.declared.steps.Step.{Step}
use Rattle.cl_machine.specs.Boxes.{Box, empty_box, with_made, with_taken}
use Rattle.cl_machine.specs.Cluster.{Cluster, IsRun, only_told}
use Rattle.cl_machine.specs.Journal.{empty_journal}
use Rattle.cl_machine.specs.Worked.{receiving, step_by}
use Rattle.cl_order_laws.specs.Alike.{AlikeBoxes, Leads}
use Rattle.cl_order_laws.specs.Closed.{FollowPlans, IsClosed, IsCovered, IsDone, IsEnd, IsSamePlace, Node, Plans, none_had, one_more}
use Rattle.cl_order_laws.specs.Laws.{AreAlike, IsReached}

-- ---- boxes

-- a full box isn't alike an empty one, nor one with other bytes
abbrev pub FullIsNotEmpty : Type 0
FullIsNotEmpty = (stamp : ℕ) (bytes : List ℕ) → ¬ AlikeBoxes empty_box (with_made empty_box stamp bytes)

abbrev pub BytesAreKept : Type 0
BytesAreKept =
    (stamp other : ℕ) (bytes others : List ℕ) → bytes ≢ others
    → ¬ AlikeBoxes (with_made empty_box stamp bytes) (with_made empty_box other others)

-- in the first phase and in the second: how often the box was filled before is forgotten
abbrev pub second_phase : List ℕ → List ℕ → Box
second_phase first bytes = with_made (with_taken (with_made empty_box 1 first) 2) 3 bytes

abbrev pub PhasesAreAlike : Type 0
PhasesAreAlike = (first bytes : List ℕ) → AlikeBoxes (with_made empty_box 1 bytes) (second_phase first bytes)

-- ---- plans

-- two harts by turns
abbrev pub by_turns : ℕ → ℕ
by_turns zero = 0
by_turns (suc zero) = 1
by_turns (suc (suc n)) = by_turns n

-- after two turns the plan is at the same place, and after one it isn't
pub record PlacesOfPlans : Type 0 where
  pub same : IsSamePlace by_turns 0 2
  pub other : ¬ IsSamePlace by_turns 0 1

-- the other hart first
abbrev pub other_way : ℕ → ℕ
other_way n = by_turns (n + 1)

abbrev pub two_harts : State → State → Rank
two_harts first second = record (guest [] 0) { harts = first ∷ second ∷ [] }

-- rank 0 beside a rank that receives from it
abbrev pub beside : Rank → Cluster
beside rank = record { ranks = rank ∷ receiving ∷ []; journal = empty_journal []; boxes = [] }

-- the first two turns of rank 0 by its plan
abbrev pub turns_by : (ℕ → ℕ) → Kind → Kind → List Step
turns_by plan first second = step_by (plan 0) 0 9 first ∷ step_by (plan 1) 0 10 second ∷ []

-- one hart is at the SEND of the byte at 8, the other at that of the byte at 9, both to rank 1 with tag 7
abbrev pub both_send : Cluster
both_send = beside (two_harts (calling (8 ∷ 1 ∷ 1 ∷ 7 ∷ 0 ∷ []) 16) (calling (9 ∷ 1 ∷ 1 ∷ 7 ∷ 0 ∷ []) 16))

-- one hart is at RANK, the other at SIZE, of communicator 0
abbrev pub both_ask : Cluster
both_ask = beside (two_harts (calling (0 ∷ []) 2) (calling (0 ∷ []) 3))

abbrev pub SendBy : (ℕ → ℕ) → Cluster → Type 0
SendBy plan end =
    IsRun both_send (turns_by plan (Kind.Hub (reply.Posted 1 true)) (Kind.Hub (reply.Posted 2 true))) end

abbrev pub AskBy : (ℕ → ℕ) → Cluster → Type 0
AskBy plan end = IsRun both_ask (turns_by plan Kind.Local Kind.Local) end

-- a rank of two harts under two plans: two sends lead to clusters that aren't alike, since rank 1 receives the one or the
-- other first; turns that need only the rank lead to the very same cluster
pub record TwoPlans : Type 0 where
  pub follow : (plan : ℕ → ℕ) (first second : Kind) → FollowPlans (λ r. plan) none_had (turns_by plan first second)
  pub apart : (a : Cluster) × (b : Cluster) × SendBy by_turns a × SendBy other_way b × ¬ AreAlike a b
  pub meet : (end : Cluster) × AskBy by_turns end × AskBy other_way end

-- ---- what a closed set can't leave out

-- of a node, a rank that has a hart to go on, by its plan the hart whose turn it is
pub record IsNext (plans : Plans) (nodes : List Node) (i : ℕ) (node : Node) (r : ℕ) (rank : Rank) : Type 0 where
  pub closed : IsClosed plans nodes
  pub there : slice_get nodes i ≡ Some node
  pub has : slice_get node.cluster.ranks r ≡ Some rank
  pub hart : plans r (node.had r) < length rank.harts
  pub going : ¬ IsDone (plans r) rank

abbrev pub turn_of : Plans → Node → ℕ → ℕ → Kind → Step
turn_of plans node r stamp kind =
    record { rank = r; hart = plans r (node.had r); stamp = stamp; kind = kind }

-- a look that misses, whether or not the box has what it looks for
abbrev pub MissesAreCovered : Type 0
MissesAreCovered =
    (plans : Plans) (nodes : List Node) (i r link part : ℕ) (node : Node) (rank : Rank) → IsNext plans nodes i node r rank
    → asked rank (plans r (node.had r)) ≡ Ask.Look link part
    → IsCovered plans nodes (record {
      cluster = only_told node.cluster (turn_of plans node r (rank.clock + 1) Kind.Miss) rank Answer.Missed;
      had = one_more node.had r;
    })

-- a rank that waits: whatever the hub answers it, that is covered
abbrev pub CallsAreCovered : Type 0
CallsAreCovered =
    (plans : Plans) (nodes : List Node) (i r : ℕ) (node : Node) (rank : Rank) (e : Step) (new : Cluster)
    → IsNext plans nodes i node r rank → e.rank ≡ r → e.hart ≡ plans r (node.had r) → Leads node.cluster e new
    → IsCovered plans nodes (record { cluster = new; had = one_more node.had r })

-- ---- closed sets there are: an end is one by itself, under plans of one hart each

abbrev pub EndsAreClosed : Type 0
EndsAreClosed =
    (plans : Plans) (end : Node) → IsReached end.cluster → IsEnd plans end.cluster
    → ((r n m : ℕ) → plans r n ≡ plans r m)
    → IsClosed plans (end ∷ []) × IsCovered plans (end ∷ []) end

pub record WorkedOrders : Type 0 where
  pub full : FullIsNotEmpty
  pub bytes : BytesAreKept
  pub phases : PhasesAreAlike
  pub places : PlacesOfPlans
  pub plans : TwoPlans
  pub misses : MissesAreCovered
  pub calls : CallsAreCovered
  pub ends : EndsAreClosed
