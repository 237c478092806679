-- Turns of an order, taken one after another.
use Rattle.std.specs.Prelude.{ℕ, zero, suc, ◌+◌, ◌<◌, ◌≤◌, ◌≡◌, ◌⊎◌, List, [], ◌∷◌, ◌++◌, length, map, take, slice_get, Some, None, Bool, true, false, Result, Ok, Err, IfOk}
use Rattle.std.proofs.Common.{refl, sym, ap, ◌∙◌, subst, arith, inl, inr}
use mathlib.Core.Bool.{beq}
use Rattle.std.proofs.lemmas.List.{map-append}
use Rattle.std.proofs.lemmas.Option.{same_Some, slice_get_within}
use Rattle.rv_image_types.specs.declared.images.ImageParts.{ImageParts}
use Rattle.cl_machine.specs.Cluster.{Cluster, IsStep}
use Rattle.cl_machine.specs.declared.steps.Step.{Step}
use Rattle.cl_turns.specs.declared.Turn.{Turn}
use Rattle.cl_deeds.specs.Orders.{in_slot}
use Rattle.cl_order_laws.specs.Closed.{Node, one_more}
use Rattle.cl_order_laws.specs.Orders.{is_miss, turn_of}
use Rattle.cl_moves.specs.Moves.{AreApart, AreTurnsOf, HasAllTurns}
use Rattle.cl_moves.specs.Standing.{IsNextHart, IsStart, StandsAt, Takes, by_order, first_node, node_of}
use Rattle.cl_moves.specs.declared.standing.Standing.{Standing}
use Rattle.cl_explore.specs.Orders.{IsChosen, IsLedBy, IsTurnless, TakesTurn, named}
use Rattle.cl_explore.proofs.Keeping.{no_way}
use Rattle.cl_explore.proofs.Lists.{at_last, stays_at, was_or_new}
use Rattle.cl_explore.proofs.Tries.{Firsts}

-- ---- one is chosen

-- each of the turns is still to be looked at, or isn't the one
abbrev pub NoneSoFar : Bool → List Step → List Step → Type 0
NoneSoFar misses turns left =
    Firsts left turns
    × ((i : ℕ) (e : Step) → slice_get turns i ≡ Some e
    → (slice_get left i ≡ Some e) ⊎ (is_miss e.kind ≡ misses → ⊥))

pub none_looked : (misses : Bool) (turns : List Step) → NoneSoFar misses turns turns
none_looked misses turns = (λ i e at. at, λ i e at. inl at)

pub one_looked : (misses : Bool) (turns left rest : List Step) (e : Step) → left ≡ rest ++ e ∷ []
    → (is_miss e.kind ≡ misses → ⊥) → NoneSoFar misses turns left → NoneSoFar misses turns rest
one_looked misses turns left rest e is other so_far = (
  λ i x at. so_far.0 i x (subst (λ xs. slice_get xs i ≡ Some x) (sym is) (stays_at rest e i x at)),
  λ i x at. elim (so_far.1 i x at) [
    | inr not ↦ inr not
    | inl was ↦ elim (was_or_new rest e i x (subst (λ xs. slice_get xs i ≡ Some x) is was)) [
      | inl still ↦ inl still
      | inr last ↦ inr (subst (λ (y : Step). is_miss y.kind ≡ misses → ⊥) (same_Some e x last.1) other)
    ]
  ],
)

pub none_chosen : (misses : Bool) (turns left : List Step) → length left ≡ 0 → NoneSoFar misses turns left
    → IsChosen turns misses None
none_chosen misses turns left none so_far = λ i e at is. elim (so_far.1 i e at) [
  | inl there ↦ let inside = slice_get_within left i e there in absurd (omega (arith, inside, none))
  | inr not ↦ not is
]

pub one_chosen : (misses : Bool) (turns left rest : List Step) (e : Step) → left ≡ rest ++ e ∷ []
    → is_miss e.kind ≡ misses → NoneSoFar misses turns left → IsChosen turns misses (Some e)
one_chosen misses turns left rest e is same so_far = (
  (
    length rest,
    so_far.0 (length rest) e (subst (λ xs. slice_get xs (length rest) ≡ Some e) (sym is) (at_last rest e)),
  ),
  same,
)

-- what is told to be the same is
pub same_bool : (a b : Bool) → (beq a b) ≡ true → a ≡ b
same_bool true true is = refl
same_bool true false is = absurd (cc)
same_bool false true is = absurd (cc)
same_bool false false is = refl

pub other_bool : (a b : Bool) → (beq a b) ≡ false → a ≡ b → ⊥
other_bool true true is same = absurd (cc)
other_bool true false is same = absurd (cc)
other_bool false true is same = absurd (cc)
other_bool false false is same = absurd (cc)

-- ---- one is taken

-- a step's rank is there
of_rank : (image : ImageParts) (old : Standing) (here : Node) (e : Step) (next : Cluster) → StandsAt image old here
    → IsStep here.cluster e next → e.rank < length old.had.items
of_rank image old here e next stands step =
    let inside = slice_get_within here.cluster.ranks e.rank step.0 step.1 in omega (arith, inside, stands.each)

pub no_rank : (order : List ℕ) (old new : Standing) (turn : Turn) → length old.had.items ≤ turn.rank
    → TakesTurn order old turn new false
no_rank order old new turn past = λ image here stands e next is by step.
    let inside = of_rank image old here e next stands step in
    let same : e.rank ≡ turn.rank = ap (λ (t : ℕ × Bool). t.0) is in absurd (omega (arith, inside, same, past))

module _ (order : List ℕ) (old : Standing) (turn : Turn) (hart : ℕ) (turns : List Step)
    (next_is : IsNextHart order old turn.rank (Some hart)) where
  -- the hart of the plan is that of the standing
  hart_is : (image : ImageParts) (here : Node) → StandsAt image old here
      → by_order order turn.rank (here.had turn.rank) ≡ hart
  hart_is image here stands =
      ap (λ n. in_slot order n) (stands.had turn.rank next_is.0 next_is.1) ∙ sym next_is.2

  -- each that leads on is one of those that were told
  told : HasAllTurns old.cluster turn.rank hart turns → (image : ImageParts) (here : Node) (e : Step) (next : Cluster)
      → StandsAt image old here → turn_of e ≡ named turn → e.hart ≡ by_order order e.rank (here.had e.rank)
      → IsStep here.cluster e next
      → (i : ℕ) × (slice_get turns i ≡ Some e)
  told all image here e next stands is by step =
      let rank : e.rank ≡ turn.rank = ap (λ (t : ℕ × Bool). t.0) is in
      let mine : e.hart ≡ hart =
      by ∙ (subst (λ r. by_order order r (here.had r) ≡ by_order order turn.rank (here.had turn.rank)) (sym rank) refl
      ∙ hart_is image here stands) in
      all image here.cluster next e stands.stands rank mine (step.0, step.1, step.2, step.4)

  pub none_as : (new : Standing) → HasAllTurns old.cluster turn.rank hart turns → IsChosen turns turn.misses None
      → TakesTurn order old turn new false
  none_as new all none = λ image here stands e next is by step.
      let v = told all image here e next stands is by step in none v.0 e v.1 (ap (λ (t : ℕ × Bool). t.1) is)

  pub took_as : (new : Standing) (step : Step) (took : Bool) → HasAllTurns old.cluster turn.rank hart turns
      → AreTurnsOf turn.rank hart turns → AreApart turns → IsChosen turns turn.misses (Some step)
      → Takes old step new took → (took ≡ true → new.steps.items ≡ old.steps.items ++ step ∷ [])
      → TakesTurn order old turn new took
  took_as new step true all own apart chosen takes noted = λ image start here stands way.
      let of = own (chosen.0).0 step (chosen.0).1 in
      let by : step.hart ≡ by_order order step.rank (here.had step.rank) =
      of.hart_is
      ∙ subst (λ r. hart ≡ by_order order r (here.had r)) (sym of.rank_is) (sym (hart_is image here stands)) in
      let v = takes image (by_order order) start here stands way by in
      record {
        step = step;
        next = v.0;
        is = λ i. (of.rank_is i, chosen.1 i);
        noted = noted refl;
        taken = v.1;
        stands = v.2;
        way = v.3;
      }
  took_as new step false all own apart chosen takes noted = λ image here stands e next is by there.
      let v = told all image here e next stands is by there in
      let miss : is_miss e.kind ≡ is_miss step.kind = ap (λ (t : ℕ × Bool). t.1) is ∙ sym chosen.1 in
      let same = apart v.0 (chosen.0).0 e step v.1 (chosen.0).1 miss in
      takes image here next stands (subst (λ (x : Step). IsStep here.cluster x next) same there)

pub took_if : {E : Type 0} (order : List ℕ) (old : Standing) (turn : Turn) (hart : ℕ) (turns : List Step)
    (new : Standing) (step : Step) (r : Result Bool E) → IsNextHart order old turn.rank (Some hart)
    → HasAllTurns old.cluster turn.rank hart turns → AreTurnsOf turn.rank hart turns → AreApart turns
    → IsChosen turns turn.misses (Some step) → IfOk r (Takes old step new)
    → IfOk r (λ took. took ≡ true → new.steps.items ≡ old.steps.items ++ step ∷ [])
    → IfOk r (TakesTurn order old turn new)
took_if order old turn hart turns new step (Ok took) next_is all own apart chosen takes noted =
    took_as order old turn hart turns next_is new step took all own apart chosen takes noted
took_if order old turn hart turns new step (Err e) next_is all own apart chosen takes noted = tt

-- ---- one after another

-- the first so many turns lead to the standing
abbrev pub LedSoFar : ImageParts → List ℕ → List Turn → ℕ → Standing → Type 0
LedSoFar image order turns place standing = IsLedBy image order (take place turns) standing

pub led_nowhere : (image : ImageParts) (order : List ℕ) (turns : List Turn) (standing : Standing)
    → IsStart image standing → LedSoFar image order turns 0 standing
led_nowhere image order turns standing start = record {
  here = first_node image;
  stands = start.stands;
  ordered = record {
    way = no_way (by_order order) (first_node image) standing.steps.items start.steps;
    turns_are = ap (map turn_of) start.steps;
  };
}

take_more : {A : Type 0} (xs : List A) (n : ℕ) (x : A) → slice_get xs n ≡ Some x → take (suc n) xs ≡ take n xs ++ x ∷ []
take_more [] n x at = absurd (cc)
take_more (y ∷ xs) zero x at = ap (λ z. z ∷ []) (same_Some y x at)
take_more (y ∷ xs) (suc n) x at = ap (λ zs. y ∷ zs) (take_more xs n x at)

taken_more : (turns : List Turn) (place : ℕ) (turn : Turn) → slice_get turns place ≡ Some turn
    → take (place + 1) turns ≡ take place turns ++ turn ∷ []
taken_more turns place turn there =
    let next : place + 1 ≡ suc place = omega arith in
    ap (λ n. take n turns) next ∙ take_more turns place turn there

-- so many turns are those of as many steps
abbrev pub NamedSoFar : List Step → ℕ → List Turn → Type 0
NamedSoFar steps count turns = map named turns ≡ map turn_of (take count steps)

pub named_more : (steps : List Step) (count : ℕ) (step : Step) (turn : Turn) (old new : List Turn)
    → slice_get steps count ≡ Some step → named turn ≡ turn_of step → new ≡ old ++ turn ∷ []
    → NamedSoFar steps count old → NamedSoFar steps (count + 1) new
named_more steps count step turn old new there is more so_far =
    let next : count + 1 ≡ suc count = omega arith in
    ap (map named) more
    ∙ (map-append named old (turn ∷ [])
    ∙ (ap (λ ts. ts ++ named turn ∷ []) so_far
    ∙ (ap (λ t. map turn_of (take count steps) ++ t ∷ []) is
    ∙ (sym (map-append turn_of (take count steps) (step ∷ []))
    ∙ ap (map turn_of) (sym (ap (λ n. take n steps) next ∙ take_more steps count step there))))))

pub led_more : (image : ImageParts) (order : List ℕ) (turns : List Turn) (place : ℕ) (turn : Turn) (old new : Standing)
    → slice_get turns place ≡ Some turn → LedSoFar image order turns place old → TakesTurn order old turn new true
    → LedSoFar image order turns (place + 1) new
led_more image order turns place turn old new there led took =
    let v = took image (first_node image) led.here led.stands (led.ordered).way in
    record {
      here = node_of v.next (one_more (led.here).had v.step.rank);
      stands = v.stands;
      ordered = record {
        way = v.way;
        turns_are =
            ap (map turn_of) v.noted
            ∙ (map-append turn_of old.steps.items (v.step ∷ [])
            ∙ (ap (λ ts. ts ++ turn_of v.step ∷ []) (led.ordered).turns_are
            ∙ (ap (λ t. map named (take place turns) ++ t ∷ []) v.is
            ∙ (sym (map-append named (take place turns) (turn ∷ []))
            ∙ ap (map named) (sym (taken_more turns place turn there))))));
      };
    }

pub led_no_more : (image : ImageParts) (order : List ℕ) (turns : List Turn) (place : ℕ) (turn : Turn)
    (old new : Standing) → slice_get turns place ≡ Some turn → LedSoFar image order turns place old
    → TakesTurn order old turn new false → IsTurnless image order turns place
led_no_more image order turns place turn old new there led none = record {
  turn = turn;
  there = there;
  steps = old.steps.items;
  here = led.here;
  ordered = led.ordered;
  none = none image led.here led.stands;
}
