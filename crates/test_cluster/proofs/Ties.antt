-- The merge of ranks whose stamps tie.
use Rattle.std.specs.Prelude.{ℕ, zero, suc, ◌≡◌, ◌≢◌, ◌<◌, ◌+◌, List, [], ◌∷◌, length, map, slice_get, false, eqb}
use Rattle.std.specs.Prelude.{Option, None, Some}
use Rattle.std.specs.List.{AllByRecursion}
use Rattle.std.proofs.Common.{refl, sym, ap, ◌∙◌, arith}
use Rattle.std.proofs.lemmas.Bool.{eq-eqb}
use Rattle.std.proofs.lemmas.Bool.Decides.{eqb_tells}
use Rattle.std.proofs.lemmas.List.{length-map}
use mathlib.Core.Logic.{inl, inr}
use Rattle.cl_trace.specs.Traces.{TraceView}
use Rattle.cl_trace.specs.declared.events.Event.{Event}
use Rattle.cl_machine.proofs.Lists.{filter-keeps, filter-skips}
use Rattle.cl_machine.specs.Merge.{IsMerge}
use Rattle.cl_machine.specs.Order.{Before, InOrder, of_rank}
use Rattle.cl_machine.specs.Steps.{Step}
use Rattle.cl_record.specs.Records.{step_by, steps_by}
use Rattle.test_cluster.specs.Merges.{SendAndReceive, one_of_each}

-- ---- traces that are known by their events

abbrev listed : ℕ → Option (List Event) → List Step
listed rank None = []
listed rank (Some events) = map (step_by rank) events

known : (ts : List TraceView) (ls : List (List Event)) → map (λ (t : TraceView). t.events) ts ≡ ls → (rank place : ℕ)
    → steps_by rank (slice_get ts place) ≡ listed rank (slice_get ls place)
known [] [] h rank place = refl
known [] (l ∷ ls) h rank place = absurd (cc)
known (t ∷ ts) [] h rank place = absurd (cc)
known (t ∷ ts) (l ∷ ls) h rank zero = let same : t.events ≡ l = (cc) in ap (map (step_by rank)) same
known (t ∷ ts) (l ∷ ls) h rank (suc place) =
    let rest : map (λ (t : TraceView). t.events) ts ≡ ls = (cc) in known ts ls rest rank place

pub count_of_traces : (ts : List TraceView) (ls : List (List Event)) → map (λ (t : TraceView). t.events) ts ≡ ls
    → length ts ≡ length ls
count_of_traces ts ls h = sym (length-map ts (λ (t : TraceView). t.events)) ∙ ap length h

-- ---- steps of other ranks

unlike : (a b : ℕ) → a ≢ b → eqb a b ≡ false
unlike a b other = elim (eqb_tells a b) [ inl e ↦ absurd (other e.1) | inr e ↦ e.0 ]

skips : (e : Step) (es : List Step) (rank : ℕ) → e.rank ≢ rank → of_rank (λ (x : Step). x.rank) rank (e ∷ es)
    ≡ of_rank (λ (x : Step). x.rank) rank es
skips e es rank other = filter-skips (λ (x : Step). eqb x.rank rank) e es (unlike e.rank rank other)

keeps : (e : Step) (es : List Step) (rank : ℕ) → e.rank ≡ rank → of_rank (λ (x : Step). x.rank) rank (e ∷ es)
    ≡ e ∷ of_rank (λ (x : Step). x.rank) rank es
keeps e es rank same = filter-keeps (λ (x : Step). eqb x.rank rank) e es (eq-eqb e.rank rank same)

none_below : (events : List Event) (from rank : ℕ) → rank < from
    → of_rank (λ (x : Step). x.rank) rank (one_of_each from events) ≡ []
none_below [] from rank below = refl
none_below (e ∷ events) from rank below =
    skips (step_by from e) (one_of_each (suc from) events) rank (λ same. absurd (omega (arith, same, below)))
    ∙ none_below events (suc from) rank (omega (arith, below))

-- ---- one event of each rank, all of one stamp

its_own : (events : List Event) (from rank place : ℕ) → rank ≡ from + place
    → of_rank (λ (x : Step). x.rank) rank (one_of_each from events)
    ≡ listed rank (slice_get (map (λ (event : Event). event ∷ []) events) place)
its_own [] from rank place is = refl
its_own (e ∷ events) from rank zero is =
    let here : from ≡ rank = omega (arith, is) in
    keeps (step_by from e) (one_of_each (suc from) events) rank here
    ∙ ap (λ xs. step_by from e ∷ xs) (none_below events (suc from) rank (omega (arith, is)))
    ∙ ap (λ r. step_by r e ∷ []) here
its_own (e ∷ events) from rank (suc place) is =
    skips (step_by from e) (one_of_each (suc from) events) rank (λ same. absurd (omega (arith, same, is)))
    ∙ its_own events (suc from) rank place (omega (arith, is))

all_behind : (events : List Event) (stamp rank from : ℕ) (e : Event) → e.stamp ≡ stamp → rank < from
    → AllByRecursion (λ (x : Event). x.stamp ≡ stamp) events
    → AllByRecursion (Before (λ (x : Step). x.stamp) (λ (x : Step). x.rank) (step_by rank e)) (one_of_each from events)
all_behind [] stamp rank from e is below all = tt
all_behind (x ∷ events) stamp rank from e is below all =
    (inr (is ∙ sym all.0, below), all_behind events stamp rank (suc from) e is (omega (arith, below)) all.1)

by_rank : (events : List Event) (stamp from : ℕ) → AllByRecursion (λ (x : Event). x.stamp ≡ stamp) events
    → InOrder (λ (x : Step). x.stamp) (λ (x : Step). x.rank) (one_of_each from events)
by_rank [] stamp from all = tt
by_rank (e ∷ events) stamp from all =
    (all_behind events stamp from (suc from) e all.0 (omega arith) all.1, by_rank events stamp (suc from) all.1)

pub ties_by_rank : (ts : List TraceView) (events : List Event) (stamp : ℕ)
    → AllByRecursion (λ (x : Event). x.stamp ≡ stamp) events
    → map (λ (t : TraceView). t.events) ts ≡ map (λ (event : Event). event ∷ []) events
    → IsMerge (λ rank. steps_by rank (slice_get ts rank)) (one_of_each 0 events)
ties_by_rank ts events stamp all h = record {
  in_order = by_rank events stamp 0 all;
  all = λ rank.
      its_own events 0 rank rank (omega arith)
      ∙ sym (known ts (map (λ (event : Event). event ∷ []) events) h rank rank);
}

-- ---- a send between a post and a collect

abbrev ComesBefore : Step → Step → Type 0
ComesBefore = Before (λ (x : Step). x.stamp) (λ (x : Step). x.rank)

trans : (x y z : Step) → ComesBefore x y → ComesBefore y z → ComesBefore x z
trans x y z p q =
    elim p [
      | inl a ↦ elim q [ inl b ↦ inl (omega (arith, a, b)) | inr b ↦ inl (omega (arith, a, b.0)) ]
      | inr a ↦ elim q [
        | inl b ↦ inl (omega (arith, a.0, b))
        | inr b ↦ inr (omega (arith, a.0, b.0), omega (arith, a.1, b.1))
      ]
    ]

before_all : (e x : Step) (es : List Step) → ComesBefore e x → AllByRecursion (ComesBefore x) es
    → AllByRecursion (ComesBefore e) es
before_all e x [] first all = tt
before_all e x (y ∷ es) first all = (trans e x y first all.0, before_all e x es first all.1)

-- what comes before the first of a list in order may stand in front of it
in_front : (e x : Step) (es : List Step) → ComesBefore e x
    → InOrder (λ (x : Step). x.stamp) (λ (x : Step). x.rank) (x ∷ es)
    → InOrder (λ (x : Step). x.stamp) (λ (x : Step). x.rank) (e ∷ x ∷ es)
in_front e x es first order = ((first, before_all e x es first order.0), order)

-- no step is of a rank that all of theirs are below
none_above : (es : List Step) (above rank : ℕ) → AllByRecursion (λ (x : Step). x.rank < above) es → above < suc rank
    → of_rank (λ (x : Step). x.rank) rank es ≡ []
none_above [] above rank all up = refl
none_above (e ∷ es) above rank all up =
    skips e es rank (λ same. absurd (omega (arith, same, all.0, up))) ∙ none_above es above rank all.1 up

module _ (one two three send receive collect : Event) where
  abbrev merged : List Step
  merged =
      step_by 0 one ∷ step_by 1 receive ∷ step_by 0 two ∷ step_by 0 three ∷ step_by 0 send ∷ step_by 1 collect ∷ []

  abbrev traces : List (List Event)
  traces = (one ∷ two ∷ three ∷ send ∷ []) ∷ (receive ∷ collect ∷ []) ∷ []

  its_trace : (rank : ℕ) → of_rank (λ (x : Step). x.rank) rank merged ≡ listed rank (slice_get traces rank)
  its_trace zero = refl
  its_trace (suc zero) = refl
  its_trace (suc (suc rank)) =
      none_above merged 2 (suc (suc rank))
      (omega arith, (omega arith, (omega arith, (omega arith, (omega arith, (omega arith, tt)))))) (omega arith)

  sorted : SendAndReceive one two three send receive collect
      → InOrder (λ (x : Step). x.stamp) (λ (x : Step). x.rank) merged
  sorted s =
      let a = step_by 0 one in
      let r = step_by 1 receive in
      let b = step_by 0 two in
      let c = step_by 0 three in
      let d = step_by 0 send in
      let e = step_by 1 collect in
      in_front a r (b ∷ c ∷ d ∷ e ∷ []) (inr (s.first ∙ sym s.posted, omega arith))
      (in_front r b (c ∷ d ∷ e ∷ []) (inl (omega (arith, s.posted, s.second)))
      (in_front b c (d ∷ e ∷ []) (inl (omega (arith, s.second, s.third)))
      (in_front c d (e ∷ []) (inl (omega (arith, s.third, s.sent)))
      (in_front d e [] (inl (omega (arith, s.sent, s.collected))) (tt, tt)))))

  pub between : (ts : List TraceView) → SendAndReceive one two three send receive collect
      → map (λ (t : TraceView). t.events) ts ≡ (one ∷ two ∷ three ∷ send ∷ []) ∷ (receive ∷ collect ∷ []) ∷ []
      → IsMerge (λ rank. steps_by rank (slice_get ts rank)) merged
  between ts s h = record {
    in_order = sorted s;
    all = λ rank. its_trace rank ∙ sym (known ts traces h rank rank);
  }
