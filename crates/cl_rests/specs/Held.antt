-- Who is held up in whichever node a standing is.
use Rattle.std.specs.Prelude.{ℕ, ◌<◌, ◌≡◌, ◌⊎◌, Bool, true, false, List, [], length, Some}
use Rattle.std.specs.List.{slice_get}
use Rattle.rv_image_types.specs.Image.{IsImage}
use Rattle.rv_image_types.specs.declared.images.ImageParts.{ImageParts}
use Rattle.mp_types.specs.declared.requests.Request.TheVariants as request
use Rattle.mp_wait_laws.specs.Waits.{OnlyOf}
use Rattle.cl_state.specs.declared.asking.Ask.{Ask}
use Rattle.cl_state.specs.Rank.{Rank}
use Rattle.cl_state_laws.specs.Vain.{IsStopped, mode_of}
use Rattle.cl_machine.specs.Cluster.{Cluster}
use Rattle.cl_deadlock_laws.specs.Stuck.{IsReachable, IsStuckHart, is_among}
use Rattle.cl_rest_laws.specs.Buffering.{AreHeldUp, RestsAmong, SomeRests}
use Rattle.cl_rest_laws.specs.Rests.{IsElseReady}
use Rattle.cl_deadlock.specs.Why.{AreRanks}
use Rattle.cl_order_laws.specs.Closed.{Node}
use Rattle.cl_moves.specs.Standing.{StandsAt}
use Rattle.cl_moves.specs.declared.standing.Standing.{Standing}
use Rattle.cl_rests.specs.Telling.{HaveOneHart}

-- the standing is this node, which was reached from this image and has one hart a rank
pub record IsNodeOf (image : ImageParts) (standing : Standing) (here : Node) : Type 0 where
  pub right : IsImage image
  pub reached : IsReachable image here.cluster
  pub stands : StandsAt image standing here
  pub one : HaveOneHart here.cluster

-- the rank's first hart rests until one of these receives
abbrev pub IsRestBesideIf : List ℕ → Cluster → ℕ → Bool → Type 0
IsRestBesideIf among c r true = RestsAmong among c r 0
IsRestBesideIf among c r false = ¬ RestsAmong among c r 0

abbrev pub TellsRestsBeside : List ℕ → Standing → ℕ → Bool → Type 0
TellsRestsBeside among standing r found =
    (image : ImageParts) (here : Node) → StandsAt image standing here → IsRestBesideIf among here.cluster r found

-- each hart of the rank is stopped, waits in vain beside these, or rests until one of these receives
abbrev pub IsHeldUp : List ℕ → Cluster → ℕ → Type 0
IsHeldUp among c r =
    (rank : Rank) (hart : ℕ) → slice_get c.ranks r ≡ Some rank → hart < length rank.harts
    → IsStopped (mode_of rank hart) ⊎ (IsStuckHart among c r rank hart ⊎ RestsAmong among c r hart)

abbrev pub IsHeldUpIf : List ℕ → Cluster → ℕ → Bool → Type 0
IsHeldUpIf among c r true = IsHeldUp among c r
IsHeldUpIf among c r false = ¬ IsHeldUp among c r

abbrev pub TellsHeldUp : List ℕ → Standing → ℕ → Bool → Type 0
TellsHeldUp among standing r held =
    (image : ImageParts) (here : Node) → IsNodeOf image standing here → IsHeldUpIf among here.cluster r held

-- each of these ranks is held up beside them
abbrev pub AreHeldUpIn : List ℕ → Standing → Type 0
AreHeldUpIn among standing =
    (image : ImageParts) (here : Node) → IsNodeOf image standing here → AreHeldUp among here.cluster

-- whichever ranks are held up together are among these
abbrev pub HasHeldUpIn : List ℕ → Standing → Type 0
HasHeldUpIn among standing =
    (image : ImageParts) (here : Node) → IsNodeOf image standing here → (others : List ℕ) → AreRanks others here.cluster
    → AreHeldUp others here.cluster → OnlyOf (is_among among) (is_among others)

-- the posts that are asked for together
abbrev pub posts_asked : Ask → List ℕ
posts_asked (Ask.Hub (request.All posts)) = posts
posts_asked _ = []

-- the rank's first hart is held up by nothing but receipts, or is by something else
abbrev pub IsElseReadyIf : Cluster → ℕ → Rank → Bool → Type 0
IsElseReadyIf c r rank true = IsElseReady c r rank 0
IsElseReadyIf c r rank false = ¬ IsElseReady c r rank 0

abbrev pub TellsElseReady : Standing → ℕ → Bool → Type 0
TellsElseReady standing r found =
    (image : ImageParts) (here : Node) → StandsAt image standing here
    → (rank : Rank) → slice_get here.cluster.ranks r ≡ Some rank → IsElseReadyIf here.cluster r rank found

-- the rank is there, and its first hart rests until one of these receives, and is held up by nothing else
pub record MayGoOnBeside (among : List ℕ) (c : Cluster) (r : ℕ) : Type 0 where
  pub rank : Rank
  pub there : slice_get c.ranks r ≡ Some rank
  pub rests_there : RestsAmong among c r 0
  pub else_ready : IsElseReady c r rank 0

abbrev pub MayGoOnIf : List ℕ → Cluster → ℕ → Bool → Type 0
MayGoOnIf among c r true = MayGoOnBeside among c r
MayGoOnIf among c r false = ¬ MayGoOnBeside among c r

abbrev pub TellsMayGoOn : List ℕ → Standing → ℕ → Bool → Type 0
TellsMayGoOn among standing r found =
    (image : ImageParts) (here : Node) → StandsAt image standing here → MayGoOnIf among here.cluster r found

abbrev pub SomeRestsIf : List ℕ → Cluster → Bool → Type 0
SomeRestsIf among c true = SomeRests among c
SomeRestsIf among c false = ¬ SomeRests among c

-- whether a hart of these ranks rests until one of them receives, and is held up by nothing else
abbrev pub TellsRest : List ℕ → Standing → Bool → Type 0
TellsRest among standing found =
    (image : ImageParts) (here : Node) → IsNodeOf image standing here → SomeRestsIf among here.cluster found
