-- Ranks that go ahead.
use Rattle.std.specs.Prelude.{ℕ, zero, suc, ◌+◌, ◌≡◌, List, length, option_map, slice_get, slice_set, Some, Bool, true, false}
use Rattle.std.proofs.Common.{refl, sym, ap, ◌∙◌, subst, inl, inr}
use Rattle.std.proofs.lemmas.Bool.{cases_eq}
use Rattle.std.proofs.lemmas.Option.{same_Some, slice_get-map}
use Rattle.mp_wait_laws.proofs.Sets.{get-set_other}
use Rattle.rv_image_types.specs.declared.images.ImageParts.{ImageParts}
use Rattle.cl_deeds.specs.Orders.{in_slot}
use Rattle.cl_state.specs.declared.asking.Answer.{Answer}
use Rattle.cl_state.specs.declared.asking.Ask.{Ask}
use Rattle.cl_state.specs.Asked.{asked}
use Rattle.cl_state.specs.Rank.{Rank}
use Rattle.cl_state.specs.Room.{rank_of}
use Rattle.cl_state.specs.Told.{told}
use Rattle.cl_trace.specs.declared.events.Kind.{Kind}
use Rattle.cl_machine.specs.Cluster.{CaseOf, Cluster, IsStep, only_told}
use Rattle.cl_machine.specs.declared.steps.Step.{Step}
use Rattle.cl_order_laws.specs.Closed.{IsAhead, NeedsOnlyRank, Node, Plans, one_more}
use Rattle.cl_order_laws.proofs.Covered.{alone}
use Rattle.cl_order_laws.proofs.Each.{set_here, set_length}
use Rattle.cl_moves.specs.Standing.{HasNoTurn, StandsAt, Takes, Took, by_order, node_of}
use Rattle.cl_moves.specs.Ahead.{GoesAhead, IsAheadOf, IsAloneKind, IsAloneTurn, WentAhead}
use Rattle.cl_moves.specs.declared.standing.Standing.{Standing}
use Rattle.cl_moves.proofs.Ways.{had_here, had_other}

-- ---- some turns, and some more

pub ahead_on : (plan : ℕ → ℕ) (n : ℕ) (a : Rank) (had : ℕ) (b : Rank) (mid : ℕ) (c : Rank) (last : ℕ)
    → IsAhead plan n a had b mid → IsAheadOf plan b mid c last → IsAheadOf plan a had c last
ahead_on plan zero a had b mid c last first second =
    subst (λ x. IsAheadOf plan x had c last) first.0 (subst (λ i. IsAheadOf plan b i c last) first.1 second)
ahead_on plan (suc n) a had b mid c last first second =
    let rest = ahead_on plan n (told a (plan had) Answer.Alone (a.clock + 1)) (had + 1) b mid c last first.1 second in
    (suc rest.0, (first.0, rest.1))

module _ (plans : Plans) where
  pub went_nowhere : (here : Node) → WentAhead plans here here
  went_nowhere here = record {
    many = refl;
    ranks = λ r rank at. (rank, at, (0, (refl, refl)));
    journal = refl;
    boxes = refl;
  }

  pub went_on : (a b c : Node) → WentAhead plans a b → WentAhead plans b c → WentAhead plans a c
  went_on a b c first second = record {
    many = second.many ∙ first.many;
    ranks = λ r rank at.
        let v = first.ranks r rank at in
        let w = second.ranks r v.0 v.1 in (
          w.0,
          w.1,
          ahead_on (plans r) v.2.0 rank (a.had r) v.0 (b.had r) w.0 (c.had r) v.2.1 w.2,
        );
    journal = second.journal ∙ first.journal;
    boxes = second.boxes ∙ first.boxes;
  }

  -- one turn that needs only its rank
  pub went_one : (here : Node) (next : Cluster) (e : Step) (rank : Rank) → slice_get here.cluster.ranks e.rank ≡ Some rank
      → e.hart ≡ plans e.rank (here.had e.rank) → NeedsOnlyRank (asked rank e.hart) → CaseOf here.cluster e rank e.kind next
      → WentAhead plans here (node_of next (one_more here.had e.rank))
  went_one here next e rank there hart needs case =
      let old : Cluster = here.cluster in
      let led = alone old next e rank e.kind case needs in
      let then : Rank = told rank e.hart Answer.Alone e.stamp in
      let ranks : next.ranks ≡ slice_set old.ranks e.rank then = ap (λ (k : Cluster). k.ranks) led.0 in
      record {
        many = ap length ranks ∙ set_length old.ranks e.rank then;
        ranks = λ r x at. elim (cases_eq e.rank r) [
          | inl same ↦
              let is : rank ≡ x = same_Some rank x (sym there ∙ subst (λ k. slice_get old.ranks k ≡ Some x) (sym same) at) in
              let here_then : slice_get next.ranks e.rank ≡ Some then =
              ap (λ xs. slice_get xs e.rank) ranks ∙ set_here old.ranks e.rank then rank there in
              let one : IsAheadOf (plans e.rank) rank (here.had e.rank) then (here.had e.rank + 1) = (
                1,
                (
                  subst (λ h. NeedsOnlyRank (asked rank h)) hart needs,
                  (
                    ap (λ h. told rank h Answer.Alone e.stamp) hart
                        ∙ ap (λ s. told rank (plans e.rank (here.had e.rank)) Answer.Alone s) led.1,
                    refl,
                  ),
                ),
              ) in (
                then,
                subst (λ k. slice_get next.ranks k ≡ Some then) same here_then,
                subst (λ k. IsAheadOf (plans k) x (here.had k) then (one_more here.had e.rank k)) same
                    (subst (λ q. IsAheadOf (plans e.rank) q (here.had e.rank) then (one_more here.had e.rank e.rank)) is
                    (subst (λ m. IsAheadOf (plans e.rank) rank (here.had e.rank) then m) (sym (had_here here.had e.rank)) one)),
              )
          | inr apart ↦ (
            x,
            ap (λ xs. slice_get xs r) ranks ∙ get-set_other old.ranks e.rank r then apart ∙ at,
            subst (λ m. IsAheadOf (plans r) x (here.had r) x m) (sym (had_other here.had e.rank r apart)) (0, (refl, refl)),
          )
        ];
        journal = ap (λ (k : Cluster). k.journal) led.0;
        boxes = ap (λ (k : Cluster). k.boxes) led.0;
      }

-- ---- the turn that is told

needs_of : (ask : Ask) (kind : Kind) → IsAloneKind ask kind → NeedsOnlyRank ask
needs_of Ask.Plain kind alone = tt
needs_of Ask.Local kind alone = tt
needs_of Ask.Idle kind alone = tt
needs_of Ask.Held kind alone = tt
needs_of (Ask.Hub q) kind alone = alone
needs_of (Ask.Ready link part bytes) kind alone = alone
needs_of (Ask.Look link part) kind alone = alone
needs_of (Ask.Freed link part) kind alone = alone

module _ (old : Cluster) (e : Step) (rank : Rank) (stamp : e.stamp ≡ rank.clock + 1) where
  abbrev then : Cluster
  then = only_told old e rank Answer.Alone

  case_is : (ask : Ask) (kind : Kind) → asked rank e.hart ≡ ask → IsAloneKind ask kind → CaseOf old e rank kind then
  case_is Ask.Plain kind asks is = subst (λ k. CaseOf old e rank k then) (sym is) (asks, stamp, refl)
  case_is Ask.Local kind asks is = subst (λ k. CaseOf old e rank k then) (sym is) (asks, stamp, refl)
  case_is Ask.Idle kind asks is = subst (λ k. CaseOf old e rank k then) (sym is) (asks, stamp, refl)
  case_is Ask.Held kind asks is = absurd is
  case_is (Ask.Hub q) kind asks is = absurd is
  case_is (Ask.Ready link part bytes) kind asks is = absurd is
  case_is (Ask.Look link part) kind asks is = absurd is
  case_is (Ask.Freed link part) kind asks is = absurd is

module _ (order : List ℕ) (old : Standing) (rank : ℕ) (e : Step) (turn : IsAloneTurn order old rank e)
    (image : ImageParts) (here : Node) (stands : StandsAt image old here) where
  there : slice_get here.cluster.ranks e.rank ≡ Some (rank_of turn.own)
  there =
      subst (λ r. slice_get here.cluster.ranks r ≡ Some (rank_of turn.own)) (sym turn.rank_is)
      (ap (λ (rs : List Rank). slice_get rs rank) stands.stands.ranks_are
      ∙ (slice_get-map rank_of old.cluster.ranks.items rank ∙ ap (option_map rank_of) turn.there))

  hart : e.hart ≡ by_order order e.rank (here.had e.rank)
  hart =
      turn.hart_is ∙ ap (in_slot order) (sym (ap here.had turn.rank_is ∙ stands.had rank turn.had turn.turns))

  -- it needs only its rank
  needs : NeedsOnlyRank (asked (rank_of turn.own) e.hart)
  needs = needs_of (asked (rank_of turn.own) e.hart) e.kind turn.alone

  -- it is a step of the machine
  step : IsStep here.cluster e (only_told here.cluster e (rank_of turn.own) Answer.Alone)
  step = (
    rank_of turn.own,
    there,
    turn.inside,
    turn.low,
    case_is here.cluster e (rank_of turn.own) turn.stamp_is (asked (rank_of turn.own) e.hart) e.kind refl turn.alone,
  )

-- whichever node the standing is, the turn is its rank's next one there, and needs only the rank
abbrev pub NeedsOnlyIts : List ℕ → Standing → Step → Type 0
NeedsOnlyIts order standing e =
    (image : ImageParts) (here : Node) → StandsAt image standing here
    → (rank : Rank) × (slice_get here.cluster.ranks e.rank ≡ Some rank) × (e.hart ≡ by_order order e.rank (here.had e.rank))
    × NeedsOnlyRank (asked rank e.hart)

pub alone_needs : (order : List ℕ) (old : Standing) (rank : ℕ) (e : Step) → IsAloneTurn order old rank e
    → NeedsOnlyIts order old e
alone_needs order old rank e turn = λ image here stands. (
  rank_of turn.own,
  there order old rank e turn image here stands,
  hart order old rank e turn image here stands,
  needs order old rank e turn image here stands,
)

pub ahead_one : (order : List ℕ) (old new : Standing) (rank : ℕ) (e : Step) → IsAloneTurn order old rank e → Took old e new
    → GoesAhead order old new
ahead_one order old new rank e turn took = λ image start here stands way.
    let h = hart order old rank e turn image here stands in
    let led = took image (by_order order) start here stands way h in
    let own : Rank = rank_of turn.own in
    let case : CaseOf here.cluster e own e.kind led.0 =
    subst (λ x. CaseOf here.cluster e x e.kind led.0)
    (same_Some led.1.0 own (sym led.1.1 ∙ there order old rank e turn image here stands)) led.1.4 in (
      node_of led.0 (one_more here.had e.rank),
      led.2,
      led.3,
      went_one (by_order order) here led.0 e own (there order old rank e turn image here stands) h
          (needs order old rank e turn image here stands) case,
    )

pub ahead_none : (order : List ℕ) (old new : Standing) (rank : ℕ) (e : Step) → IsAloneTurn order old rank e
    → HasNoTurn old e → GoesAhead order old new
ahead_none order old new rank e turn none = λ image start here stands way.
    absurd (none image here _ stands (step order old rank e turn image here stands))

pub ahead_stays : (order : List ℕ) (old : Standing) → GoesAhead order old old
ahead_stays order old = λ image start here stands way. (here, stands, way, went_nowhere (by_order order) here)

pub ahead_more : (order : List ℕ) (old mid new : Standing) → GoesAhead order old mid → GoesAhead order mid new
    → GoesAhead order old new
ahead_more order old mid new first second = λ image start here stands way.
    let v = first image start here stands way in
    let w = second image start v.0 v.1 v.2 in
    (w.0, w.1, w.2, went_on (by_order order) here v.0 w.0 v.3 w.3)

-- by whether it was a step
pub ahead_taken : (order : List ℕ) (old new : Standing) (rank : ℕ) (e : Step) → IsAloneTurn order old rank e → (b : Bool)
    → Takes old e new b → GoesAhead order old new
ahead_taken order old new rank e turn true takes = ahead_one order old new rank e turn takes
ahead_taken order old new rank e turn false takes = ahead_none order old new rank e turn takes
