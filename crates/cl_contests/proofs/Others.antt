-- A rank that can go on where no other rank can.
use Rattle.std.proofs.Common.{◌≡◌, ◌∙◌, ℕ, ◌+◌, ◌≤◌, refl, sym, ap, subst, arith, inl, inr, Bool, true, false, List, length}
use Rattle.std.proofs.Common.{Option, Some, None}
use Rattle.std.specs.Prelude.{◌≢◌}
use Rattle.std.specs.List.{slice_get}
use Rattle.std.specs.Option.{is_some, option_map}
use Rattle.std.proofs.lemmas.Option.{same_Some, slice_get-map, slice_get_within}
use Rattle.rv_image_types.specs.declared.images.ImageParts.{ImageParts}
use Rattle.mp_types.specs.declared.requests.Request.{Request}
use Rattle.cl_state.specs.declared.asking.Ask.{Ask}
use Rattle.cl_state.specs.declared.state.RankState.{RankState}
use Rattle.cl_state.specs.Asked.{asked}
use Rattle.cl_state.specs.Rank.{Rank}
use Rattle.cl_state.specs.Room.{rank_of}
use Rattle.cl_machine.specs.declared.steps.Step.{Step}
use Rattle.cl_order_laws.specs.Closed.{Node}
use Rattle.cl_moves.specs.Standing.{StandsAt, Took}
use Rattle.cl_moves.specs.declared.standing.Standing.{Standing}
use Rattle.cl_moves.proofs.Resting.{below_on}
use Rattle.cl_reduction_laws.specs.Clusters.{CanGo, IsStill, Search}
use Rattle.cl_contests.specs.declared.patterns.AskedBy.{AskedBy}
use Rattle.cl_contests.specs.Going.{SettlesFrom}
use Rattle.cl_contests.specs.Kept.{search_of}
use Rattle.cl_contests.specs.Lone.{AreStillBelow, IsLoneIfSome, IsLoneNext, IsLoneRank, IsNextTurn, IsOther, IsStillIn, IsTurnIfSome}
use Rattle.cl_contests.specs.Turns.{GoesWithin, IsMeetingNext, MayGoFirst, TellsWithin}
use Rattle.cl_contests.proofs.Leading.{first_taken, goes_anyway, leads_by, met_taken}
use Rattle.cl_contests.proofs.Settling.{settles_lone}

module _ (image : ImageParts) (old : Standing) (here : Node) (stands : StandsAt image old here) where
  still_of : (s : ℕ) (own : RankState) → IsStillIn old s own → IsStill here.cluster s (rank_of own) 0
  still_of s own (inl stopped) = inl stopped
  still_of s own (inr vain) =
      inr (vain.0, vain.1 image here.cluster stands.stands)

  others_still : (r : ℕ) → IsLoneRank old r → (s : ℕ) (other : Rank) → s ≢ r → slice_get here.cluster.ranks s ≡ Some other
      → IsStill here.cluster s other 0
  others_still r lone s other apart there = go (slice_get old.cluster.ranks.items s) refl mapped
    where
      mapped : option_map rank_of (slice_get old.cluster.ranks.items s) ≡ Some other
      mapped =
          sym (slice_get-map rank_of old.cluster.ranks.items s)
          ∙ (sym (ap (λ (rs : List Rank). slice_get rs s) stands.stands.ranks_are) ∙ there)

      go : (o : Option RankState) → slice_get old.cluster.ranks.items s ≡ o → option_map rank_of o ≡ Some other
          → IsStill here.cluster s other 0
      go None is same = absurd (cc)
      go (Some own) is same =
          subst (λ z. IsStill here.cluster s z 0) (same_Some (rank_of own) other same) (still_of s own (lone s own apart is))

-- a turn that goes first, or of a rank that alone can go on
pub next_taken : (may_wait : Bool) (kept : List AskedBy) (old new : Standing) (e : Step)
    → TellsWithin (search_of may_wait kept) old true
    → IsNextTurn (search_of may_wait kept) old (Some e) → Took old e new
    → GoesWithin (search_of may_wait kept) old new true
next_taken may_wait kept old new e within (inl turn) took = first_taken may_wait kept old new e within turn took
next_taken may_wait kept old new e within (inr (inl turn)) took = met_taken may_wait kept old new e within turn took
next_taken may_wait kept old new e within (inr (inr turn)) took = λ all order first.
    leads_by order (SettlesFrom (search_of may_wait kept)) old new e turn.own first took turn.there turn.hart_is
    (λ image here next stands there reached step.
    settles_lone (search_of may_wait kept) here.cluster next e (rank_of turn.own) there turn.hart_is step
    (goes_anyway may_wait old e.rank turn.anyway image here stands) (within refl image here stands)
    (subst CanGo (sym turn.asks) tt)
    (others_still image old here stands e.rank turn.lone))

-- ---- what is told of it

pub told_lone : (may_wait : Bool) (standing : Standing) (rank : ℕ) (own : RankState) (request : Request)
    → slice_get standing.cluster.ranks.items rank ≡ Some own → asked (rank_of own) 0 ≡ Ask.Hub request
    → IsLoneRank standing rank → MayGoFirst may_wait standing rank → (o : Option Step) → IsTurnIfSome rank o
    → IsLoneNext may_wait standing o
told_lone may_wait standing rank own request there asks lone anyway None turn = tt
told_lone may_wait standing rank own request there asks lone anyway (Some e) turn = record {
  own = own;
  there = subst (λ r. slice_get standing.cluster.ranks.items r ≡ Some own) (sym turn.0) there;
  hart_is = turn.1;
  request = request;
  asks = asks;
  lone = subst (IsLoneRank standing) (sym turn.0) lone;
  anyway = subst (MayGoFirst may_wait standing) (sym turn.0) anyway;
}

pub lone_next : (search : Search) (standing : Standing) (o : Option Step) → IsLoneNext search.may_wait standing o
    → IsNextTurn search standing o
lone_next search standing None turn = tt
lone_next search standing (Some e) turn = inr (inr turn)

pub met_next : (search : Search) (standing : Standing) (o : Option Step) → IsMeetingNext search standing o
    → IsNextTurn search standing o
met_next search standing None turn = tt
met_next search standing (Some e) turn = inr (inl turn)

-- ---- one rank after another

pub none_yet : (lone : Option ℕ) → is_some lone ≡ false → lone ≡ None
none_yet None none = refl
none_yet (Some r) none = absurd (cc)

module _ (standing : Standing) (n : ℕ) where
  abbrev items : List RankState
  items = standing.cluster.ranks.items

  pub still_on : (lone : Option ℕ) → AreStillBelow standing lone n → (own : RankState) → slice_get items n ≡ Some own
      → IsStillIn standing n own
      → AreStillBelow standing lone (n + 1)
  still_on lone before own at still =
      below_on (λ s x. IsOther lone s → IsStillIn standing s x) items n before own at (λ other. still)

  pub lone_on : (own : RankState) → slice_get items n ≡ Some own → AreStillBelow standing None n
      → AreStillBelow standing (Some n) (n + 1)
  lone_on own at before =
      below_on (λ s x. IsOther (Some n) s → IsStillIn standing s x) items n
      (λ s low x there other. before s low x there tt) own at (λ other. absurd (other refl))

  pub lone_told : (lone : Option ℕ) → AreStillBelow standing lone n → length items ≤ n → IsLoneIfSome standing lone
  lone_told None before all = tt
  lone_told (Some r) before all = λ s own apart there.
      before s (let low = slice_get_within items s own there in omega (arith, low, all)) own there apart
