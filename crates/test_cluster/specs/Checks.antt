-- Lists of steps that are checked.
use Rattle.std.specs.Prelude.{ℕ, ◌≡◌, ◌≢◌, ◌<◌, ◌+◌, ◌^◌, ◌++◌, ◌∷◌, [], List, length, slice_get, None, Some, max}
use Rattle.std.specs.List.{last_or}
use Rattle.rv_image_types.specs.declared.images.ImageParts.{ImageParts}
use Rattle.mp_types.specs.declared.replies.Reply.{Reply}
use Rattle.mp_types.specs.declared.requests.Request.{Request}
use Rattle.cl_state.specs.declared.asking.Ask.{Ask}
use Rattle.cl_state.specs.Asked.{asked}
use Rattle.cl_state.specs.Rank.{Rank}
use Rattle.cl_trace.specs.declared.events.Kind.{Kind}
use Rattle.cl_machine.specs.Boxes.{Box, Holds, IsEmpty, box_number}
use Rattle.cl_machine.specs.Cluster.{Cluster, IsRun, loaded_cluster}
use Rattle.cl_machine.specs.Journal.{reply_in}
use Rattle.cl_machine.specs.Laws.{ComesAfter}
use Rattle.cl_machine.specs.Order.{InOrder}
use Rattle.cl_machine.specs.declared.steps.Step.{Step}

-- the last of the steps is e; those before it are a run in order, which leads to this cluster
pub record EndsWith (image : ImageParts) (steps front : List Step) (cluster : Cluster) (e : Step) : Type 0 where
  pub whole : steps ≡ front ++ e ∷ []
  pub run : IsRun (loaded_cluster image) front cluster
  pub in_order : InOrder (λ (x : Step). x.stamp) (λ (x : Step). x.rank) front

-- e comes after the last of the steps before it, if there is one
abbrev pub ComesNext : List Step → Step → Type 0
ComesNext front e = ComesAfter (last_or None front) e

-- the step's rank, whose hart asks this
pub record Asks (cluster : Cluster) (e : Step) (ask : Ask) : Type 0 where
  pub rank : Rank
  pub there : slice_get cluster.ranks e.rank ≡ Some rank
  pub asks : asked rank e.hart ≡ ask

-- the step's rank, whose hart is there and asks this; the step's stamp is the next of the rank
pub record AsksNext (cluster : Cluster) (e : Step) (ask : Ask) : Type 0 where
  pub rank : Rank
  pub there : slice_get cluster.ranks e.rank ≡ Some rank
  pub hart : e.hart < length rank.harts
  pub asks : asked rank e.hart ≡ ask
  pub next : e.stamp ≡ rank.clock + 1
  pub below : e.stamp < 2 ^ 62

-- a Take of a box in which nothing stands, as one that comes before its Ready
pub record TakesNothing (cluster : Cluster) (e : Step) : Type 0 where
  pub link : ℕ
  pub part : ℕ
  pub box : Box
  pub takes : e.kind ≡ Kind.Take
  pub looks : Asks cluster e (Ask.Look link part)
  pub there : slice_get cluster.boxes (box_number link part) ≡ Some box
  pub empty : IsEmpty box

-- a Take whose stamp isn't the one above the rank's clock and the box's stamp
pub record TakesAtAnother (cluster : Cluster) (e : Step) : Type 0 where
  pub link : ℕ
  pub part : ℕ
  pub box : Box
  pub takes : e.kind ≡ Kind.Take
  pub looks : Asks cluster e (Ask.Look link part)
  pub there : slice_get cluster.boxes (box_number link part) ≡ Some box
  pub other : e.stamp ≢ max looks.rank.clock box.stamp + 1

-- a call of the hub with a reply that isn't the hub's
pub record HasAnotherReply (cluster : Cluster) (e : Step) : Type 0 where
  pub request : Request
  pub reply : Reply
  pub calls : e.kind ≡ Kind.Hub reply
  pub asks : Asks cluster e (Ask.Hub request)
  pub other : reply ≢ reply_in cluster.journal e.rank request

-- a look in vain at a box that is full
pub record MissesFull (cluster : Cluster) (e : Step) : Type 0 where
  pub link : ℕ
  pub part : ℕ
  pub bytes : List ℕ
  pub box : Box
  pub misses : e.kind ≡ Kind.Miss
  pub looks : AsksNext cluster e (Ask.Look link part)
  pub there : slice_get cluster.boxes (box_number link part) ≡ Some box
  pub full : Holds box bytes

-- a turn of a stopped hart
pub record Idles (cluster : Cluster) (e : Step) : Type 0 where
  pub idle : e.kind ≡ Kind.Idle
  pub stopped : AsksNext cluster e Ask.Idle
