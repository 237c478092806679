-- The laws of all orders.
use Rattle.std.specs.Prelude.{ℕ, ◌≡◌, ◌≢◌, ◌<◌, ◌^◌, ◌⊎◌, List, slice_get, Some}
use Rattle.mp_types.specs.declared.replies.Reply.TheVariants.{NotYet}
use Rattle.rv_hart.specs.declared.state.Mode.{Mode}
use Rattle.rv_hart.specs.declared.state.Mode.TheVariants.{Waiting}
use Rattle.rv_hart.specs.declared.state.Wait.TheVariants.{Post}
use Rattle.cl_state.specs.Asked.{part_of}
use Rattle.cl_state_laws.specs.Vain.{IsPatient, IsStopped, mode_of}
use Rattle.rv_image_types.specs.declared.images.ImageParts.{ImageParts}
use Rattle.mp_alike_laws.specs.Renaming.{Renaming}
use Rattle.cl_state.specs.Rank.{Rank}
use Rattle.cl_trace.specs.declared.events.Kind.{Kind}
use Rattle.cl_machine.specs.declared.steps.Step.{Step}
use Rattle.cl_machine.specs.Cluster.{Cluster, IsRun, IsStep, loaded_cluster}
use Rattle.cl_order_laws.specs.Alike.{AlikeClusters, Leads, at_stamp}
use Rattle.cl_order_laws.specs.Closed.{FollowPlans, IsClosed, IsCovered, IsEnd, Node, Plans, had_after}

abbrev pub AreAlike : Cluster → Cluster → Type 0
AreAlike a b = (names : Renaming) × AlikeClusters names a b

-- ---- likeness

-- the cluster was reached from an image
abbrev pub IsReached : Cluster → Type 0
IsReached cluster = (image : ImageParts) × (steps : List Step) × IsRun (loaded_cluster image) steps cluster

-- a cluster that was reached is alike itself, and likeness goes both ways and on
pub record LikenessLaw : Type 0 where
  pub itself : (a : Cluster) → IsReached a → AreAlike a a
  pub back : (a b : Cluster) → AreAlike a b → AreAlike b a
  pub on : (a b c : Cluster) → AreAlike a b → AreAlike b c → AreAlike a c

-- ---- turns that need only their rank

abbrev pub IsAlone : Kind → Type 0
IsAlone Kind.Plain = Unit {0}
IsAlone Kind.Local = Unit {0}
IsAlone Kind.Held = Unit {0}
IsAlone Kind.Idle = Unit {0}
IsAlone _ = ⊥

-- one of them and any turn of another rank may be exchanged: the same two steps lead to the same cluster, stamps and all
abbrev pub CommuteLaw : Type 0
CommuteLaw =
    (old mid new : Cluster) (e f : Step) → e.rank ≢ f.rank → IsAlone e.kind ⊎ IsAlone f.kind → IsStep old e mid
    → IsStep mid f new
    → (other : Cluster) × IsStep old f other × IsStep other e new

-- ---- turns in vain

-- the turn is a look in vain: of a hart that waits on where the hub answers NotYet, a box isn't as it is asked for, or a
-- partition of its own isn't ready; or a turn of a stopped hart
abbrev pub IsVainTurn : Rank → ℕ → Kind → Type 0
IsVainTurn rank hart (Kind.Hub NotYet) = IsPatient rank hart
IsVainTurn rank hart Kind.Miss = IsPatient rank hart
IsVainTurn rank hart Kind.Held = IsPatient rank hart
IsVainTurn rank hart Kind.Idle = IsStopped (mode_of rank hart)
IsVainTurn rank hart _ = ⊥

-- the cluster after it is alike the one before
abbrev pub VainLaw : Type 0
VainLaw =
    (old new : Cluster) (e : Step) (rank : Rank) → IsReached old → slice_get old.ranks e.rank ≡ Some rank
    → IsVainTurn rank e.hart e.kind → IsStep old e new → AreAlike old new

-- ---- alike clusters go alike

-- where one goes by a turn the other goes by the same turn, of the same kind and with the same reply, to a cluster that
-- is alike by the same names
abbrev pub GoAlikeLaw : Type 0
GoAlikeLaw =
    (names : Renaming) (a b new : Cluster) (e : Step) → AlikeClusters names a b → Leads a e new
    → (stamp : ℕ) × (then : Cluster) × Leads b (at_stamp e stamp) then × AlikeClusters names new then

-- and that is a step where its stamp is below the greatest
abbrev pub BelowLaw : Type 0
BelowLaw = (old new : Cluster) (e : Step) → Leads old e new → e.stamp < 2 ^ 62 → IsStep old e new

-- ---- closed sets have every end

-- from whatever cluster a run begins, as the loaded one: where it follows the plans, of any length and with any order of
-- the ranks, where it leads is covered
abbrev pub CoveredLaw : Type 0
CoveredLaw =
    (plans : Plans) (nodes : List Node) (start : Node) → IsCovered plans nodes start → IsClosed plans nodes
    → (steps : List Step) (end : Cluster) → IsRun start.cluster steps end → FollowPlans plans start.had steps
    → IsCovered plans nodes (record { cluster = end; had = had_after start.had steps })

-- and where nobody goes on after it, one of the nodes is alike its last cluster
abbrev pub EveryEndLaw : Type 0
EveryEndLaw =
    (plans : Plans) (nodes : List Node) (start : Node) → IsCovered plans nodes start → IsClosed plans nodes
    → (steps : List Step) (end : Cluster) → IsRun start.cluster steps end → FollowPlans plans start.had steps
    → IsEnd plans end
    → (i : ℕ) × (node : Node) × (slice_get nodes i ≡ Some node) × AreAlike end node.cluster

-- ---- deadlock, and what an end tells

-- of an end: each hart that the plans name is stopped
abbrev pub HasEnded : Plans → Cluster → Type 0
HasEnded plans cluster =
    (r n : ℕ) (rank : Rank) → slice_get cluster.ranks r ≡ Some rank → IsStopped (mode_of rank (plans r n))

-- where whatever node is an end has ended, no run ends in a deadlock
abbrev pub NoDeadlockLaw : Type 0
NoDeadlockLaw =
    (plans : Plans) (nodes : List Node) (start : Node) → IsCovered plans nodes start → IsClosed plans nodes
    → ((i : ℕ) (node : Node) → slice_get nodes i ≡ Some node → IsEnd plans node.cluster → HasEnded plans node.cluster)
    → (steps : List Step) (end : Cluster) → IsRun start.cluster steps end → FollowPlans plans start.had steps
    → IsEnd plans end → HasEnded plans end

-- the same mode, with the code by which the hart ended, but for the number of a post that it waits for
abbrev pub IsSameMode : Mode → Mode → Type 0
IsSameMode (Waiting (Post post)) other = (number : ℕ) × (other ≡ Waiting (Post number))
IsSameMode mode other = other ≡ mode

-- alike clusters are ends alike, and tell the same: of each rank the output and the memory, and of each hart the
-- registers, the pc and the mode
pub record TellsAlike (a b : Rank) : Type 0 where
  pub out : b.out ≡ a.out
  pub memory : b.memory ≡ a.memory
  pub modes : (hart : ℕ) → IsSameMode (mode_of a hart) (mode_of b hart)
  pub pcs : (hart : ℕ) → (part_of b hart).hart.pc ≡ (part_of a hart).hart.pc
  pub regs : (hart : ℕ) → (part_of b hart).hart.regs ≡ (part_of a hart).hart.regs

pub record EndsLaw : Type 0 where
  pub ends : (plans : Plans) (a b : Cluster) → AreAlike a b → IsEnd plans a → IsEnd plans b
  pub tells : (a b : Cluster) (r : ℕ) (rank : Rank) → AreAlike a b → slice_get a.ranks r ≡ Some rank
      → (other : Rank) × (slice_get b.ranks r ≡ Some other) × TellsAlike rank other

-- an end stays one: whatever turn of a hart that its plan names is taken, the cluster after it is alike, and an end
abbrev pub EndStaysLaw : Type 0
EndStaysLaw =
    (plans : Plans) (old new : Cluster) (e : Step) (n : ℕ) → IsReached old → IsEnd plans old → e.hart ≡ plans e.rank n
    → IsStep old e new
    → AreAlike old new × IsEnd plans new
