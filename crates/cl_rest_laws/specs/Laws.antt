-- The laws of ranks that rest.
use Rattle.std.specs.Prelude.{ℕ, ◌≡◌, ◌≢◌, ◌⊎◌, true, false, List, [], ◌∷◌, length}
use Rattle.rv_image_types.specs.Image.{IsImage}
use Rattle.rv_image_types.specs.declared.images.ImageParts.{ImageParts}
use Rattle.mp_source_laws.specs.Alike.{Wild}
use Rattle.cl_state.specs.Rank.{Rank, below}
use Rattle.cl_machine.specs.Cluster.{Cluster, IsStep}
use Rattle.cl_machine.specs.declared.steps.Step.{Step}
use Rattle.cl_deadlock_laws.specs.Stuck.{AreAsTheyWere, IsReachable}
use Rattle.cl_order_laws.specs.Closed.{IsEnd, Plans}
use Rattle.cl_first_laws.specs.Below.{AreAlike}
use Rattle.cl_first_laws.specs.Laws.{Turn}
use Rattle.cl_rest_laws.specs.Rests.{IsElseReady, rests, rests_for}
use Rattle.cl_rest_laws.specs.Buffering.{NeedBuffers}
use Rattle.cl_rest_laws.specs.Ends.{IsEndWhereSendsWait}

pub record RestLaw : Type 0 where
  -- a rank that rests does so until some rank receives, and one that rests until a rank receives rests
  pub some : (c : Cluster) (r hart : ℕ) → rests c r hart ≡ true → (k : ℕ) × (rests_for c r hart k ≡ true)
  pub each : (c : Cluster) (r hart k : ℕ) → rests_for c r hart k ≡ true → rests c r hart ≡ true
  -- a rank that doesn't rest comes to rest by its own turn alone
  pub away : (c new : Cluster) (r s which hart : ℕ) → s ≢ r → Turn s which c new → rests c r hart ≡ false
      → rests new r hart ≡ false
  -- and one that rests does so until it goes on or the other rank receives
  pub stays : (c new : Cluster) (r s which hart k : ℕ) → s ≢ r → s ≢ k → Turn s which c new
      → rests_for c r hart k ≡ true
      → rests_for new r hart k ≡ true
  -- what else its call waits for stays there until it takes a turn
  pub ready : (c new : Cluster) (r s which hart : ℕ) (rank : Rank) → s ≢ r → Turn s which c new
      → IsElseReady c r rank hart
      → IsElseReady new r rank hart
  -- in alike clusters the same ranks rest
  pub alike : (wild : Wild) (a b : Cluster) (r hart : ℕ) → AreAlike wild a b → rests b r hart ≡ rests a r hart
  pub alike_for : (wild : Wild) (a b : Cluster) (r hart k : ℕ) → AreAlike wild a b
      → rests_for b r hart k ≡ rests_for a r hart k

-- a run in which no rank takes a turn that rests before it
abbrev pub IsPatientRun : Cluster → List Step → Cluster → Type 0
IsPatientRun old [] new = new ≡ old
IsPatientRun old (e ∷ es) new =
    (mid : Cluster) × (rests old e.rank e.hart ≡ false) × IsStep old e mid × IsPatientRun mid es new

-- where sends wait for their receives, ranks that need buffers are stuck for good: no such run, of any length and with any
-- order of turns, changes more of them than their clocks
abbrev pub BufferingLaw : Type 0
BufferingLaw =
    (image : ImageParts) (c : Cluster) (ranks : List ℕ) → IsReachable image c → NeedBuffers ranks c
    → (steps : List Step) (new : Cluster) → IsPatientRun c steps new
    → AreAsTheyWere ranks c new

-- at such an end nobody goes on anyway, or all ranks together need buffers. Of ranks with one hart each
abbrev pub EndLaw : Type 0
EndLaw =
    (image : ImageParts) (plans : Plans) (c : Cluster) → IsImage image → image.harts ≡ 1 → ((r n : ℕ) → plans r n ≡ 0)
    → IsReachable image c → IsEndWhereSendsWait plans c
    → IsEnd plans c ⊎ NeedBuffers (below (length c.ranks)) c
