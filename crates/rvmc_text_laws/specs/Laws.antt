-- Alike states have one text.
use Rattle.std.specs.Prelude.{ℕ, ◌≡◌, Bool, List}
use Rattle.rv_image_types.specs.Image.{IsImage}
use Rattle.rv_image_types.specs.declared.images.ImageParts.{ImageParts}
use Rattle.cl_deadlock_laws.specs.Stuck.{IsReachable}
use Rattle.cl_machine.specs.Cluster.{Cluster}
use Rattle.cl_reduction_laws.specs.Below.{AreAlike}
use Rattle.cl_replay.specs.States.{ClusterStandsFor}
use Rattle.cl_replay.specs.declared.states.ClusterState.{ClusterState}
use Rattle.mp_source_laws.specs.Alike.{Wild}
use Rattle.rvmc_inspect.specs.Why.{IsWhy}

-- the state is this cluster, to which a run from the image leads
pub record IsReachedState (image : ImageParts) (state : ClusterState) (cluster : Cluster) : Type 0 where
  pub reached : IsReachable image cluster
  pub stands : ClusterStandsFor image state cluster

-- states of alike clusters: the same but for clocks, stamps, the numbers of posts, the order of messages from different
-- sources where nobody asks for any source, and messages that were collected
pub record AreAlikeStates (image : ImageParts) (a b : ClusterState) : Type 0 where
  pub one : Cluster
  pub other : Cluster
  pub wild : Wild
  pub first : IsReachedState image a one
  pub second : IsReachedState image b other
  pub alike : AreAlike wild one other

-- what `why` prints of them is one text: how each hart stands and what it waits for, which messages weren't received, and
-- the ranks of the deadlock
abbrev pub WhyLaw : Type 0
WhyLaw =
    (framed : Bool) (image : ImageParts) (a b : ClusterState) (x y : List ℕ) → IsImage image → AreAlikeStates image a b
    → IsWhy framed image a x → IsWhy framed image b y
    → x ≡ y
