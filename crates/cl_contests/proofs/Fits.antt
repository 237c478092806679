-- Clusters that are fit for all ranks to be let go, by what is told of each rank.
use Rattle.std.specs.Prelude.{ℕ, ◌+◌, ◌<◌, ◌≡◌, ◌⊎◌, Bool, true, List, length, option_map, slice_get, Option, Some, None}
use Rattle.std.proofs.Common.{inl, inr, refl, sym, ap, ◌∙◌, subst}
use Rattle.std.proofs.lemmas.Option.{same_Some, slice_get-map}
use Rattle.rv_image_types.specs.declared.images.ImageParts.{ImageParts}
use Rattle.mp_types.specs.declared.requests.Request.{Request}
use Rattle.mp_types.specs.declared.requests.Request.TheVariants as request
use Rattle.mp_hub.specs.Hub.{HubView}
use Rattle.mp_clash_laws.specs.Exchanges.{WaitsWithin}
use Rattle.cl_state.specs.declared.asking.Ask.{Ask}
use Rattle.cl_state.specs.declared.asking.Doing.{Doing}
use Rattle.cl_state.specs.declared.state.RankState.{RankState}
use Rattle.cl_state.specs.Asked.{asked, doing, part_of}
use Rattle.cl_state.specs.Rank.{Rank}
use Rattle.cl_state.specs.Room.{rank_of}
use Rattle.cl_state_laws.specs.Awake.{StandsAtCall}
use Rattle.cl_state_laws.specs.Vain.{IsWaiting, mode_of, waits_on}
use Rattle.cl_machine.specs.Cluster.{Cluster}
use Rattle.cl_order_laws.specs.Closed.{IsInVain, Node}
use Rattle.cl_reduction_laws.specs.Below.{AskWithin}
use Rattle.cl_reduction_laws.specs.Complete.{PollWithin}
use Rattle.cl_reduction_laws.specs.Patterns.{IsAllowed, pattern_of_ask}
use Rattle.cl_rest_laws.specs.Rests.{rests as rests_of}
use Rattle.cl_reduction_laws.specs.Settled.{AreOnSides, FindsClaim, IsFit, IsThere}
use Rattle.cl_moves.specs.Standing.{StandsAt}
use Rattle.cl_moves.specs.declared.standing.Standing.{Standing}
use Rattle.cl_contests.specs.declared.patterns.AskedBy.{AskedBy}
use Rattle.cl_contests.specs.Fits.{IsFitRank}
use Rattle.cl_contests.specs.Kept.{patterns_of, polls_of, search_of, wild_of}

-- a claim that isn't in vain finds its message
pub claim_found : (c : Cluster) (r : ℕ) (q : Request) {comm : ℕ} {source tag : Option ℕ} → q ≡ request.Claim comm source tag
    → (IsInVain c r (Ask.Hub q) → ⊥) → FindsClaim c r (Ask.Hub q)
claim_found c r q {comm} {source} {tag} is there =
    subst (λ p. FindsClaim c r (Ask.Hub p)) (sym is) (λ none. there (subst (λ p. IsInVain c r (Ask.Hub p)) (sym is) none))

-- by what its turn was found to be, and what it was found to ask
pub fit_rank : (may_wait : Bool) (kept : List AskedBy) (c : Cluster) (r : ℕ) (rank : Rank) (d : Doing) (ask : Ask) (waits : Bool)
    → d ≡ doing rank.site (part_of rank 0) → waits ≡ waits_on d → ask ≡ asked rank 0
    → IsAllowed (patterns_of kept) r (pattern_of_ask waits ask) → AskWithin (wild_of kept) r ask
    → PollWithin (polls_of kept) r rank 0 → StandsAtCall rank 0
    → (waits ≡ true → (IsWaiting (mode_of rank 0) × IsInVain c r ask)
    ⊎ (FindsClaim c r ask ⊎ ((rests_of c r 0 ≡ true) × IsThere c r ask)))
    → IsFitRank (search_of may_wait kept) c r rank
fit_rank may_wait kept c r rank d ask waits spelled anew asks allowed within polls stands rests =
    let known : waits ≡ waits_on (doing rank.site (part_of rank 0)) = anew ∙ ap waits_on spelled in
    record {
      allowed = subst (λ w. IsAllowed (patterns_of kept) r (pattern_of_ask w (asked rank 0))) known
          (subst (λ a. IsAllowed (patterns_of kept) r (pattern_of_ask waits a)) asks allowed);
      within = subst (AskWithin (wild_of kept) r) asks within;
      polls = polls;
      rests = λ on.
          elim (rests (known ∙ on)) [
            | inl v ↦ inl (record { waits = v.0; on = on }, subst (IsInVain c r) asks v.1)
            | inr more ↦ inr (elim more [
              | inl found ↦ inl (subst (FindsClaim c r) asks found)
              | inr rest ↦ inr (rest.0, subst (IsThere c r) asks rest.1)
            ])
          ];
      stands = stands;
    }

-- a rank of the cluster is one of the state
module _ (image : ImageParts) (standing : Standing) (node : Node) (stands : StandsAt image standing node) where
  abbrev ranks : List RankState
  ranks = standing.cluster.ranks.items

  pub each_rank : (P : ℕ → Rank → Type 0) → ((r : ℕ) (own : RankState) → slice_get ranks r ≡ Some own → P r (rank_of own))
      → (r : ℕ) (rank : Rank) → slice_get (node.cluster).ranks r ≡ Some rank → P r rank
  each_rank P each r rank there =
      let mapped : option_map rank_of (slice_get ranks r) ≡ Some rank =
      sym (slice_get-map rank_of ranks r)
      ∙ (sym (ap (λ (rs : List Rank). slice_get rs r) (stands.stands).ranks_are) ∙ there) in
      of (slice_get ranks r) refl mapped
    where
      of : (o : Option RankState) → slice_get ranks r ≡ o → option_map rank_of o ≡ Some rank → P r rank
      of None is mapped = absurd (cc)
      of (Some own) is mapped = subst (P r) (same_Some (rank_of own) rank mapped) (each r own is)

  pub all_fit : (may_wait : Bool) (kept : List AskedBy) → length (standing.whole).board.lines + 3 < 65536
      → WaitsWithin (wild_of kept) standing.whole → AreOnSides (standing.whole).links (patterns_of kept)
      → ((r : ℕ) (own : RankState) → slice_get ranks r ≡ Some own
      → IsFitRank (search_of may_wait kept) node.cluster r (rank_of own))
      → IsFit (search_of may_wait kept) node.cluster
  all_fit may_wait kept room waits sides each =
      let fits = each_rank (λ r rank. IsFitRank (search_of may_wait kept) node.cluster r rank) each in
      record {
        within = λ r rank there. let v = fits r rank there in (v.allowed, v.within, v.polls);
        waits = subst (WaitsWithin (wild_of kept)) stands.whole waits;
        room = subst (λ (h : HubView). length (h.board).lines + 3 < 65536) stands.whole room;
        rests = λ r rank there. (fits r rank there).rests;
        stands = λ r rank there. (fits r rank there).stands;
        sides = subst (λ (h : HubView). AreOnSides h.links (patterns_of kept)) stands.whole sides;
      }
