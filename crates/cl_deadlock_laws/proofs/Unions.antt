-- Stuck ranks in greater company.
use Rattle.std.specs.Prelude.{ℕ, ◌≡◌, ◌⊎◌, ◌||◌, ◌==◌, Bool, List, ◌++◌}
use Rattle.std.proofs.Common.{◌∙◌, inl, inr, sym}
use Rattle.std.proofs.lemmas.Bool.{or_cases, or_left, or_right}
use Rattle.std.proofs.lemmas.List.Folds.{list_any-append}
use Rattle.mp_types.specs.declared.requests.Request.{Request}
use Rattle.mp_types.specs.declared.requests.Request.TheVariants as request
use Rattle.mp_hub.specs.Hub.{HubView}
use Rattle.mp_wait_laws.specs.Waits.{IsUpTo, OnlyOf}
use Rattle.cl_calls.specs.declared.sites.Site.{Site}
use Rattle.cl_state.specs.declared.asking.Ask.{Ask}
use Rattle.cl_state.specs.declared.asking.Ask.TheVariants as ask
use Rattle.cl_state.specs.Asked.{asked}
use Rattle.cl_state.specs.Rank.{Rank}
use Rattle.cl_state_laws.specs.Vain.{IsStopped, mode_of}
use Rattle.cl_machine.specs.Cluster.{Cluster}
use Rattle.cl_deadlock_laws.specs.Stuck.{AsksInVain, IsStuckHart, is_among, is_member}
use Rattle.cl_deadlock_laws.specs.Laws.{NarrowLaw, UnionLaw}
use Rattle.cl_deadlock_laws.proofs.Own.{hub_of}

-- each of these ranks is one of those
abbrev pub Within : List ℕ → List ℕ → Type 0
Within some all = OnlyOf (is_among all) (is_among some)

module _ (some all : List ℕ) (within : Within some all) where
  only_wider : (could : ℕ → Bool) → OnlyOf (is_among some) could → OnlyOf (is_among all) could
  only_wider could only k may = within k (only k may)

  up_to_wider : (member : ℕ → ℕ → Bool) (h : HubView) (r : ℕ) (q : Request) → IsUpTo member (is_among some) h r q
      → IsUpTo member (is_among all) h r q
  up_to_wider member h r (request.Collect n) up_to = only_wider _ up_to
  up_to_wider member h r (request.Finished n) up_to = only_wider _ up_to
  up_to_wider member h r (request.Probe comm source tag) up_to = only_wider _ up_to
  up_to_wider member h r (request.Claim comm source tag) up_to = only_wider _ up_to
  up_to_wider member h r (request.All ns) up_to = (up_to.0, up_to.1, up_to.2, up_to.3, only_wider _ up_to.4)
  up_to_wider member h r (request.Cut link) up_to = only_wider _ up_to
  up_to_wider member h r _ up_to = absurd up_to

  vain_wider : (cluster : Cluster) (r : ℕ) (site : Site) (a : Ask) → AsksInVain some cluster r site a
      → AsksInVain all cluster r site a
  vain_wider cluster r site (ask.Hub q) vain =
      (vain.0, up_to_wider (is_member site) (hub_of cluster.journal) r q vain.1)
  vain_wider cluster r site (ask.Look link part) vain = (vain.0, only_wider _ vain.1)
  vain_wider cluster r site (ask.Freed link part) vain = (vain.0, only_wider _ vain.1)
  vain_wider cluster r site ask.Held vain = tt
  vain_wider cluster r site _ vain = absurd vain

  -- who is stuck beside some is stuck beside more
  pub wider : (cluster : Cluster) (r : ℕ) (rank : Rank) (hart : ℕ)
      → IsStopped (mode_of rank hart) ⊎ IsStuckHart some cluster r rank hart
      → IsStopped (mode_of rank hart) ⊎ IsStuckHart all cluster r rank hart
  wider cluster r rank hart (inl stopped) = inl stopped
  wider cluster r rank hart (inr held) = inr (record {
    patient = held.patient;
    in_vain = vain_wider cluster r rank.site (asked rank hart) held.in_vain;
  })

pub union_law : UnionLaw
union_law some others cluster first second r rank hart among here low =
    elim (or_cases (is_among some r) (is_among others r) (sym (both r) ∙ among)) [
      | inl one ↦
          wider some (some ++ others) (λ k is. both k ∙ or_left (is_among some k) _ is) cluster r rank hart
          (first r rank hart one here low)
      | inr other ↦
          wider others (some ++ others) (λ k is. both k ∙ or_right (is_among some k) _ is) cluster r rank hart
          (second r rank hart other here low)
    ]
  where
    both : (k : ℕ) → is_among (some ++ others) k ≡ (is_among some k || is_among others k)
    both k = list_any-append (λ m. m == k) some others

pub narrow_law : NarrowLaw
narrow_law all some cluster r within out stuck among =
    out (λ rank hart here low. wider some all within cluster r rank hart (stuck r rank hart among here low))
