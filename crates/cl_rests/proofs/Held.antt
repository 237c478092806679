-- Who is held up together, by leaving out whoever isn't held up beside the rest.
use Rattle.std.specs.Prelude.{ℕ, ◌<◌, ◌≤◌, ◌≡◌, ◌==◌, ◌⊎◌, IsTrue, Bool, true, false, List, length, get_or, remove, Option, Some, None}
use Rattle.std.specs.List.{list_all, slice_get}
use Rattle.std.proofs.Common.{inl, inr, refl, sym, ap, subst, ◌∙◌, arith}
use Rattle.std.proofs.lemmas.Option.{same_Some, slice_get_within}
use Rattle.rv_image_types.specs.declared.images.ImageParts.{ImageParts}
use Rattle.mp_types.specs.declared.requests.Request.TheVariants as request
use Rattle.mp_hub.specs.Hub.{HubView, hub_after, is_ready}
use Rattle.cl_journal.specs.Journal.{calls_of}
use Rattle.cl_state.specs.declared.asking.Ask.{Ask}
use Rattle.cl_state.specs.declared.state.RankState.{RankState}
use Rattle.cl_state.specs.Asked.{asked}
use Rattle.cl_state.specs.Room.{rank_of}
use Rattle.cl_state.specs.Rank.{Rank, below}
use Rattle.cl_state_laws.specs.Vain.{IsStopped, mode_of}
use Rattle.cl_machine.specs.Cluster.{Cluster}
use Rattle.cl_deadlock_laws.specs.Stuck.{IsStuckHart, is_among}
use Rattle.cl_deadlock_laws.specs.Laws.{IsStuckBeside}
use Rattle.cl_deadlock_laws.proofs.Unions.{Within, wider}
use Rattle.cl_rest_laws.specs.Buffering.{RestsAmong, SomeRests}
use Rattle.cl_rest_laws.specs.Rests.{IsElseReady, rests_if}
use Rattle.cl_deadlock.specs.Stuck.{IsFreeIn}
use Rattle.cl_deadlock.specs.Why.{IsStateOf}
use Rattle.cl_deadlock.proofs.Left.{below_among, still_there}
use Rattle.cl_deadlock.proofs.Told.{count_is}
use Rattle.cl_order_laws.specs.Alike.{hub_of}
use Rattle.cl_order_laws.specs.Closed.{Node}
use Rattle.cl_moves.specs.Standing.{StandsAt}
use Rattle.cl_moves.specs.declared.standing.Standing.{Standing}
use Rattle.cl_replay.specs.declared.states.ClusterState.{ClusterState}
use Rattle.cl_replay.specs.States.{ClusterStandsFor}
use Rattle.cl_rests.specs.Held.{HasHeldUpIn, IsElseReadyIf, IsHeldUp, IsNodeOf, MayGoOnBeside, TellsElseReady, TellsHeldUp}
use Rattle.cl_rests.specs.Held.{TellsMayGoOn, TellsRestsBeside, posts_asked}
use Rattle.cl_rests.specs.Telling.{HaveOneHart}
use Rattle.cl_rests.proofs.Found.{none_asked, own_at}

pub state_of : (image : ImageParts) (standing : Standing) (here : Node) → IsNodeOf image standing here
    → IsStateOf image standing.cluster here.cluster
state_of image standing here is = record { right = is.right; reached = is.reached; stands = is.stands.stands }

-- ---- one rank

-- the one hart of a rank is its first
first_hart : (c : Cluster) (r : ℕ) (rank : Rank) (hart : ℕ) → HaveOneHart c → slice_get c.ranks r ≡ Some rank
    → hart < length rank.harts → 0 ≡ hart
first_hart c r rank hart one there low = (let count = one r rank there in omega (arith, low, count))

-- who is stuck is held up
pub stuck_held : (among : List ℕ) (c : Cluster) (r : ℕ) → IsStuckBeside among c r → IsHeldUp among c r
stuck_held among c r stuck rank hart there low = elim (stuck rank hart there low) [
  | inl stopped ↦ inl stopped
  | inr held ↦ inr (inl held)
]

-- who rests beside them is held up, where it has no other hart
pub rests_held : (among : List ℕ) (c : Cluster) (r : ℕ) → HaveOneHart c → RestsAmong among c r 0 → IsHeldUp among c r
rests_held among c r one resting rank hart there low =
    inr (inr (subst (RestsAmong among c r) (first_hart c r rank hart one there low) resting))

-- who is neither isn't
pub not_held : (among : List ℕ) (c : Cluster) (r : ℕ) → HaveOneHart c → ¬ IsStuckBeside among c r → ¬ RestsAmong among c r 0
    → ¬ IsHeldUp among c r
not_held among c r one free none held = free (λ rank hart there low. elim (held rank hart there low) [
  | inl stopped ↦ inl stopped
  | inr (inl stuck) ↦ inr stuck
  | inr (inr resting) ↦ absurd
      (none (subst (RestsAmong among c r) (sym (first_hart c r rank hart one there low)) resting))
])

-- by what is told of both
pub tells_held : (among : List ℕ) (standing : Standing) (r : ℕ) (found : Bool) → IsFreeIn among standing.cluster r
    → TellsRestsBeside among standing r found → TellsHeldUp among standing r found
tells_held among standing r true free resting image here is =
    rests_held among here.cluster r is.one (resting image here is.stands)
tells_held among standing r false free resting image here is =
    not_held among here.cluster r is.one (free image here.cluster (state_of image standing here is))
    (resting image here is.stands)

-- who rests until one of some receives does so until one of more receives
among_more : (some all : List ℕ) (c : Cluster) (r hart : ℕ) → Within some all → RestsAmong some c r hart
    → RestsAmong all c r hart
among_more some all c r hart within resting = record {
  receiver = resting.receiver;
  among = within resting.receiver resting.among;
  rests_there = resting.rests_there;
}

-- who is held up beside some is held up beside more
held_wider : (some all : List ℕ) (c : Cluster) (r : ℕ) → Within some all → IsHeldUp some c r → IsHeldUp all c r
held_wider some all c r within held rank hart there low = elim (held rank hart there low) [
  | inl stopped ↦ inl stopped
  | inr (inl stuck) ↦ both (wider some all within c r rank hart (inr stuck))
  | inr (inr resting) ↦ inr (inr (among_more some all c r hart within resting))
]
  where
    both : IsStopped (mode_of rank hart) ⊎ IsStuckHart all c r rank hart
        → IsStopped (mode_of rank hart) ⊎ (IsStuckHart all c r rank hart ⊎ RestsAmong all c r hart)
    both (inl stopped) = inl stopped
    both (inr stuck) = inr (inl stuck)

-- ---- the most

-- all ranks have whichever are held up among them
pub all_have : (standing : Standing) (n : ℕ) → n ≡ length standing.cluster.ranks.items → HasHeldUpIn (below n) standing
all_have standing n count image here is others ranks held r among =
    let low = ranks r among in
    let same = count_is image standing.cluster here.cluster is.stands.stands in
    below_among n r (omega (arith, low, same, count))

-- whoever isn't held up beside the rest is left out
pub left_have : (standing : Standing) (among : List ℕ) (place : ℕ) → TellsHeldUp among standing (get_or among place 0) false
    → HasHeldUpIn among standing → HasHeldUpIn (remove among place) standing
left_have standing among place free most image here is others ranks held r within =
    still_there among place r (most image here is others ranks held r within) (λ same.
    subst (λ k. ¬ IsHeldUp among here.cluster k) same (free image here is)
    (held_wider others among here.cluster r (most image here is others ranks held)
    (λ rank hart there low. held r rank hart within there low)))

-- ---- what else a rank waits for

-- the hub of a state is that of its cluster
hub_is : (image : ImageParts) (state : ClusterState) (c : Cluster) → ClusterStandsFor image state c
    → state.hub ≡ hub_of c.journal
hub_is image state c stands =
    stands.hub_stands ∙ ap (λ links. hub_after links (calls_of c.journal.entries)) (sym stands.of.links)

module _ (c : Cluster) (r : ℕ) (rank : Rank) where
  abbrev all_ready : Ask → Bool
  all_ready ask = list_all (λ n. is_ready (hub_of c.journal) r n) (posts_asked ask)

  else_ready : all_ready (asked rank 0) ≡ true → IsElseReady c r rank 0
  else_ready is posts asks = subst (λ ask. all_ready ask ≡ true) asks is

  is_all_ready : IsElseReady c r rank 0 → all_ready (asked rank 0) ≡ true
  is_all_ready each = go (asked rank 0) refl
    where
      go : (ask : Ask) → asked rank 0 ≡ ask → all_ready ask ≡ true
      go (Ask.Hub (request.All posts)) e = each posts e
      go _ e = refl

  pub tells_ready : (b : Bool) → b ≡ all_ready (asked rank 0) → IsElseReadyIf c r rank b
  tells_ready true is = else_ready (sym is)
  tells_ready false is = λ each. (let no : false ≡ true = is ∙ is_all_ready each in absurd (cc))

  -- a hart that isn't there asks for nothing
  pub none_else : length rank.harts ≡ 0 → IsElseReady c r rank 0
  none_else none posts asks = (let no : Ask.Idle ≡ Ask.Hub (request.All posts) = sym (none_asked rank none) ∙ asks in absurd (cc))

module _ (image : ImageParts) (standing : Standing) (here : Node) (stands : StandsAt image standing here) (r : ℕ) where
  -- by what the rank of the state asks
  pub tells_asked : (own : RankState) (ask : Ask) (b : Bool) → slice_get standing.cluster.ranks.items r ≡ Some own
      → ask ≡ asked (rank_of own) 0 → b ≡ list_all (λ n. is_ready standing.cluster.hub r n) (posts_asked ask)
      → (rank : Rank) → slice_get here.cluster.ranks r ≡ Some rank
      → IsElseReadyIf here.cluster r rank b
  tells_asked own ask b at asks found rank there =
      let same : rank_of own ≡ rank =
      same_Some (rank_of own) rank (sym (own_at image standing here stands r own at) ∙ there) in
      tells_ready here.cluster r rank b
      (found
      ∙ ap (λ (h : HubView). list_all (λ n. is_ready h r n) (posts_asked ask))
      (hub_is image standing.cluster here.cluster stands.stands)
      ∙ ap (λ a. list_all (λ n. is_ready (hub_of here.cluster.journal) r n) (posts_asked a))
      (asks ∙ ap (λ (x : Rank). asked x 0) same))

  -- a rank without harts
  pub tells_none : (own : RankState) → slice_get standing.cluster.ranks.items r ≡ Some own
      → length own.harts.items ≡ 0
      → (rank : Rank) → slice_get here.cluster.ranks r ≡ Some rank → IsElseReady here.cluster r rank 0
  tells_none own at none rank there =
      let same : rank_of own ≡ rank =
      same_Some (rank_of own) rank (sym (own_at image standing here stands r own at) ∙ there) in
      none_else here.cluster r rank (sym (ap (λ (x : Rank). length x.harts) same) ∙ none)

  -- and one that isn't there
  pub tells_past : length standing.cluster.ranks.items ≤ r → (rank : Rank) → slice_get here.cluster.ranks r ≡ Some rank
      → IsElseReady here.cluster r rank 0
  tells_past past rank there =
      let low = slice_get_within here.cluster.ranks r rank there in
      let same = count_is image standing.cluster here.cluster stands.stands in
      absurd (omega (arith, past, low, same))

-- ---- whether one of them rests

-- of some of whom one rests one of all does
pub rests_in_more : (some all : List ℕ) (c : Cluster) → Within some all → SomeRests some c → SomeRests all c
rests_in_more some all c within one = record {
  r = one.r;
  rank = one.rank;
  hart = one.hart;
  among = within one.r one.among;
  there = one.there;
  inside = one.inside;
  rests_there = among_more some all c one.r one.hart within one.rests_there;
  else_ready = one.else_ready;
}

-- a rank that rests is there
rank_there : (among : List ℕ) (c : Cluster) (r : ℕ) → RestsAmong among c r 0 → (rank : Rank) × (slice_get c.ranks r ≡ Some rank)
rank_there among c r resting = go (slice_get c.ranks r) refl resting.rests_there
  where
    go : (o : Option Rank) → slice_get c.ranks r ≡ o
        → rests_if (λ m. m.dest == resting.receiver) (hub_of c.journal) r o 0 ≡ true
        → (rank : Rank) × (slice_get c.ranks r ≡ Some rank)
    go None e is = absurd (cc)
    go (Some rank) e is = (rank, e)

-- who rests beside them and is held up by nothing else
pub tells_go_on : (among : List ℕ) (standing : Standing) (r : ℕ) (ready : Bool) → TellsRestsBeside among standing r true
    → TellsElseReady standing r ready
    → TellsMayGoOn among standing r ready
tells_go_on among standing r true resting each image here stands =
    let it = rank_there among here.cluster r (resting image here stands) in
    record {
      rank = it.0;
      there = it.1;
      rests_there = resting image here stands;
      else_ready = each image here stands it.0 it.1;
    }
tells_go_on among standing r false resting each image here stands = λ is.
    each image here stands is.rank is.there is.else_ready

-- and who doesn't rest beside them
pub tells_none_on : (among : List ℕ) (standing : Standing) (r : ℕ) → TellsRestsBeside among standing r false
    → TellsMayGoOn among standing r false
tells_none_on among standing r resting image here stands = λ is. resting image here stands is.rests_there

pub one_rests : (among : List ℕ) (c : Cluster) (r : ℕ) → HaveOneHart c → IsTrue (is_among among r) → MayGoOnBeside among c r
    → SomeRests among c
one_rests among c r one within is =
    let count = one r is.rank is.there in
    record {
      r = r;
      rank = is.rank;
      hart = 0;
      among = within;
      there = is.there;
      inside = omega (arith, count);
      rests_there = is.rests_there;
      else_ready = is.else_ready;
    }

pub none_rests : (among : List ℕ) (c : Cluster) → HaveOneHart c
    → ((r : ℕ) → IsTrue (is_among among r) → ¬ MayGoOnBeside among c r) → ¬ SomeRests among c
none_rests among c one none some =
    let first = sym (first_hart c some.r some.rank some.hart one some.there some.inside) in
    none some.r some.among
    (record {
      rank = some.rank;
      there = some.there;
      rests_there = subst (RestsAmong among c some.r) first some.rests_there;
      else_ready = subst (IsElseReady c some.r some.rank) first some.else_ready;
    })
