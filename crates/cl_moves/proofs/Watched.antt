-- A rank that is watched as it takes turns by itself.
use Rattle.std.specs.Prelude.{ℕ, ◌+◌, ◌%◌, ◌≤◌, ◌≡◌, List, length, slice_get, Option, Some, None}
use Rattle.std.proofs.Common.{refl, sym, ◌∙◌, subst, arith, inl, inr}
use Rattle.std.proofs.lemmas.Option.{same_Some}
use Rattle.rv_image_types.specs.declared.images.ImageParts.{ImageParts}
use Rattle.cl_deeds.specs.Orders.{in_slot}
use Rattle.cl_state.specs.Rank.{Rank}
use Rattle.cl_state.specs.Room.{rank_of}
use Rattle.cl_machine.specs.Cluster.{CaseOf, Cluster}
use Rattle.cl_machine.specs.declared.steps.Step.{Step}
use Rattle.cl_order_laws.specs.Closed.{IsAhead, IsSamePlace, Node, Plans, one_more}
use Rattle.cl_moves.specs.Ahead.{WentAhead}
use Rattle.cl_moves.specs.Cycles.{GoesRound, GoesRoundAt, IsBack, IsBackAt, IsShown, KeepsAt, kept_in}
use Rattle.cl_moves.specs.Standing.{IsWay, StandsAt, Took, by_order, node_of}
use Rattle.cl_moves.specs.declared.cycles.Watch.{Watch}
use Rattle.cl_moves.specs.declared.standing.Standing.{Standing}
use Rattle.cl_moves.proofs.Rounds.{ahead_had, ahead_more, ahead_site, goes_round, same_but_clock}
use Rattle.cl_moves.proofs.Going.{NeedsOnlyIts, went_one}
use Rattle.cl_moves.proofs.Resting.{own_at}
use Rattle.cl_moves.proofs.Ways.{had_here}

-- the rank is what was kept, so many of its turns later or more, and each of them needed only the rank
pub record IsTrail (plan : ℕ → ℕ) (shown : List ℕ) (least : ℕ) (kept rank : Rank) (had : ℕ) : Type 0 where
  pub turns : ℕ
  pub before : ℕ
  pub some : least ≤ turns
  pub first : before % length shown ≡ 0
  pub ahead : IsAhead plan turns kept before rank had

-- of this rank of a node, if something is kept
abbrev pub HasTrail : Plans → List ℕ → ℕ → ℕ → Option Rank → Node → Type 0
HasTrail plans shown r least None here = Unit {0}
HasTrail plans shown r least (Some kept) here =
    (rank : Rank) × (slice_get here.cluster.ranks r ≡ Some rank) × IsTrail (plans r) shown least kept rank (here.had r)

-- whichever node the old standing was, the new one is one of which this holds
abbrev pub LeavesTrail : List ℕ → List ℕ → ℕ → ℕ → Standing → Standing → Option Rank → Type 0
LeavesTrail order shown r least old new kept =
    (image : ImageParts) (start here : Node) → StandsAt image old here → IsWay (by_order order) start old.steps.items here
    → (there : Node) × StandsAt image new there × IsWay (by_order order) start new.steps.items there
    × HasTrail (by_order order) shown r least kept there

pub trail_starts : (order shown : List ℕ) (r : ℕ) (old : Standing) (kept : Option Rank) → kept ≡ None
    → LeavesTrail order shown r 0 old old kept
trail_starts order shown r old kept none =
    subst (LeavesTrail order shown r 0 old old) (sym none) (λ image start here stands way. (here, stands, way, tt))

-- ---- one turn more

module _ (plans : Plans) (shown : List ℕ) (r least : ℕ) (here : Node) (next : Cluster) (e : Step) (is : e.rank ≡ r)
    (went : WentAhead plans here (node_of next (one_more here.had e.rank))) where
  trail_on : (kept : Option Rank) → HasTrail plans shown r least kept here
      → HasTrail plans shown r 1 kept (node_of next (one_more here.had e.rank))
  trail_on None has = tt
  trail_on (Some kept) has =
      let on = went.ranks r has.0 has.1 in
      let trail = has.2 in
      let one : one_more here.had e.rank r ≡ here.had r + 1 =
      subst (λ k. one_more here.had k r ≡ here.had r + 1) (sym is) (had_here here.had r) in
      let count : one_more here.had e.rank r ≡ here.had r + on.2.0 =
      ahead_had (plans r) on.2.0 has.0 (here.had r) on.0 (one_more here.had e.rank r) on.2.1 in (
        on.0,
        on.1,
        record {
          turns = trail.turns + on.2.0;
          before = trail.before;
          some = omega (arith, one, count);
          first = trail.first;
          ahead = ahead_more (plans r) trail.turns on.2.0 kept trail.before has.0 (here.had r) on.0
              (one_more here.had e.rank r) trail.ahead on.2.1;
        },
      )

pub trail_taken : (order shown : List ℕ) (r least : ℕ) (old mid new : Standing) (kept : Option Rank) (e : Step) → e.rank ≡ r
    → NeedsOnlyIts order mid e → Took mid e new → LeavesTrail order shown r least old mid kept
    → LeavesTrail order shown r 1 old new kept
trail_taken order shown r least old mid new kept e is alone took trail = λ image start here stands way.
    let v = trail image start here stands way in
    let turn = alone image v.0 v.1 in
    let led = took image (by_order order) start v.0 v.1 v.2 turn.2 in
    let case : CaseOf (v.0).cluster e turn.0 e.kind led.0 =
    subst (λ x. CaseOf (v.0).cluster e x e.kind led.0) (same_Some led.1.0 turn.0 (sym led.1.1 ∙ turn.1)) led.1.4 in
    let went = went_one (by_order order) v.0 led.0 e turn.0 turn.1 turn.2 turn.3 case in (
      node_of led.0 (one_more (v.0).had e.rank),
      led.2,
      led.3,
      trail_on (by_order order) shown r least v.0 led.0 e is went kept v.3,
    )

-- ---- the rank is shown

any_trail : (plans : Plans) (shown : List ℕ) (r least : ℕ) (here : Node) (kept : Option Rank)
    → HasTrail plans shown r least kept here → HasTrail plans shown r 0 kept here
any_trail plans shown r least here None has = tt
any_trail plans shown r least here (Some kept) has =
    let trail = has.2 in (
      has.0,
      has.1,
      record { turns = trail.turns; before = trail.before; some = omega arith; first = trail.first; ahead = trail.ahead },
    )

new_trail : (plans : Plans) (shown : List ℕ) (r : ℕ) (image : ImageParts) (standing : Standing) (here : Node)
    → StandsAt image standing here → (at : IsShown shown standing r)
    → HasTrail plans shown r 0 (Some (rank_of at.own)) here
new_trail plans shown r image standing here stands at = (
  rank_of at.own,
  own_at image standing.cluster here.cluster stands.stands r at.own at.there,
  record {
    turns = 0;
    before = here.had r;
    some = omega arith;
    first = subst (λ n. n % length shown ≡ 0) (sym (stands.had r at.had at.turns)) at.first;
    ahead = (refl, refl);
  },
)

pub trail_shown : (order shown : List ℕ) (r least : ℕ) (old new : Standing) (watch after : Watch)
    → LeavesTrail order shown r least old new (kept_in watch) → KeepsAt shown new r watch after
    → LeavesTrail order shown r 0 old new (kept_in after)
trail_shown order shown r least old new watch after trail keeps = elim keeps [
  | inl same ↦ subst (LeavesTrail order shown r 0 old new) (sym same) still
  | inr at ↦ elim at.1 [
    | inl same ↦ subst (LeavesTrail order shown r 0 old new) (sym same) still
    | inr other ↦ elim other [
      | inl this ↦
          subst (LeavesTrail order shown r 0 old new) (sym this)
          (λ image start here stands way.
          let v = trail image start here stands way in
          (v.0, v.1, v.2, new_trail (by_order order) shown r image new v.0 v.1 at.0))
      | inr none ↦
          subst (LeavesTrail order shown r 0 old new) (sym none)
          (λ image start here stands way. let v = trail image start here stands way in (v.0, v.1, v.2, tt))
    ]
  ]
]
  where
    still : LeavesTrail order shown r 0 old new (kept_in watch)
    still = λ image start here stands way.
        let v = trail image start here stands way in
        (v.0, v.1, v.2, any_trail (by_order order) shown r least v.0 (kept_in watch) v.3)

-- ---- it is back

-- at places at which the rank is shown the same harts take turns
abbrev pub AreLikePlaces : List ℕ → List ℕ → Type 0
AreLikePlaces order shown =
    (n m : ℕ) → n % length shown ≡ 0 → m % length shown ≡ 0 → IsSamePlace (in_slot order) n m

round_from : (order shown : List ℕ) (r : ℕ) (image : ImageParts) (standing : Standing) (here : Node)
    → StandsAt image standing here → AreLikePlaces order shown → (at : IsShown shown standing r) (kept : Option Rank)
    → HasTrail (by_order order) shown r 1 kept here → IsBack kept (rank_of at.own)
    → GoesRound (in_slot order) (rank_of at.own) at.had
round_from order shown r image standing here stands places at None has back = absurd back
round_from order shown r image standing here stands places at (Some kept) has back =
    let own : Rank = rank_of at.own in
    let trail = has.2 in
    let some = trail.some in
    let there = own_at image standing.cluster here.cluster stands.stands r at.own at.there in
    let is : has.0 ≡ own = same_Some has.0 own (sym has.1 ∙ there) in
    let ahead : IsAhead (in_slot order) trail.turns kept trail.before own at.had =
    subst (λ x. IsAhead (in_slot order) trail.turns kept trail.before x at.had) is
    (subst (λ n. IsAhead (in_slot order) trail.turns kept trail.before has.0 n) (stands.had r at.had at.turns) trail.ahead) in
    goes_round (in_slot order) kept trail.before trail.turns own at.had ahead
    (places at.had trail.before at.first trail.first)
    (same_but_clock kept own back (ahead_site (in_slot order) trail.turns kept trail.before own at.had ahead))
    (omega (arith, some))

pub trail_back : (order shown : List ℕ) (r : ℕ) (old new : Standing) (watch : Watch) → AreLikePlaces order shown
    → LeavesTrail order shown r 1 old new (kept_in watch) → IsBackAt shown new r watch → GoesRoundAt order old new r
trail_back order shown r old new watch places trail back = λ image start here stands way.
    let v = trail image start here stands way in
    let at = back.0 in (
      at.own,
      at.had,
      at.there,
      at.turns,
      round_from order shown r image new v.0 v.1 places at (kept_in watch) v.3 back.1,
    )
