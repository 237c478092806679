-- The slowest of some ranks, with one rank more, and of all.
use Rattle.std.proofs.Common.{◌≡◌, ℕ, ◌+◌, ◌<◌, ◌≤◌, ◌↔◌, List, length, sym, ◌∙◌, ap, arith}
use Rattle.std.specs.Prelude.{Option, Some, None, IfSome, slice_get, ◌⊎◌}
use Rattle.std.proofs.lemmas.Bool.{cases_lt}
use Rattle.std.proofs.lemmas.Option.{same_Some, slice_get_within}
use mathlib.Core.Logic.{inl, inr}
use Rattle.cl_threads.specs.Pacing.{WasSeen, IsSlowest, MayTake}
use Rattle.cl_threads.specs.declared.sights.Slowest.{Slowest}

-- below n + 1 is what is below n, and n
below_or_last : (k n : ℕ) → k < n + 1 → (k < n) ⊎ (k ≡ n)
below_or_last k n low =
    elim (cases_lt k n) [ inl less ↦ inl less | inr more ↦ inr (omega (arith, low, more)) ]

-- what was seen of a rank is one thing
seen_last : (counts : List (Option ℕ)) (k n turns : ℕ) (count : Option ℕ) → k ≡ n
    → slice_get counts n ≡ Some count → WasSeen counts k turns → count ≡ Some turns
seen_last counts k n turns count same e seen =
    same_Some count (Some turns) (sym e ∙ (ap (λ i. slice_get counts i) (sym same) ∙ seen))

no_count : (turns : ℕ) → let nobody : Option ℕ = None in nobody ≡ Some turns → ⊥
no_count turns e = cc

same_count : (s turns : ℕ) → Some s ≡ Some turns → s ≡ turns
same_count s turns e = same_Some s turns e

-- a rank that wasn't seen
pub with_unseen : (counts : List (Option ℕ)) (n : ℕ) (slowest : Option Slowest) → IsSlowest counts n slowest
    → slice_get counts n ≡ Some None → IsSlowest counts (n + 1) slowest
unfolding IsSlowest
with_unseen counts n None h e =
    λ rank turns low seen. elim (below_or_last rank n low)
    [ inl less ↦ h rank turns less seen | inr same ↦ no_count turns (seen_last counts rank n turns None same e seen) ]
with_unseen counts n (Some slowest) h e = (
  omega (arith, h.0),
  h.1,
  λ rank turns low seen. elim (below_or_last rank n low) [
    | inl less ↦ h.2 rank turns less seen
    | inr same ↦ absurd (no_count turns (seen_last counts rank n turns None same e seen))
  ],
)

-- a rank that is the first that was seen
pub with_first : (counts : List (Option ℕ)) (n turns : ℕ) → IsSlowest counts n None
    → slice_get counts n ≡ Some (Some turns) → IsSlowest counts (n + 1) (Some (record { rank = n; turns = turns }))
unfolding IsSlowest
with_first counts n turns h e = (
  omega arith,
  e,
  λ rank others low seen. elim (below_or_last rank n low) [
    | inl less ↦ absurd (h rank others less seen)
    | inr same ↦
        let equal : turns ≡ others = same_count turns others (seen_last counts rank n others (Some turns) same e seen) in
        omega (arith, equal)
  ],
)

-- a rank that isn't slower
pub with_faster : (counts : List (Option ℕ)) (n turns : ℕ) (slowest : Slowest) → IsSlowest counts n (Some slowest)
    → slice_get counts n ≡ Some (Some turns) → slowest.turns ≤ turns → IsSlowest counts (n + 1) (Some slowest)
unfolding IsSlowest
with_faster counts n turns slowest h e least = (
  omega (arith, h.0),
  h.1,
  λ rank others low seen. elim (below_or_last rank n low) [
    | inl less ↦ h.2 rank others less seen
    | inr same ↦
        let equal : turns ≡ others = same_count turns others (seen_last counts rank n others (Some turns) same e seen) in
        omega (arith, equal, least)
  ],
)

-- a slower one
pub with_slower : (counts : List (Option ℕ)) (n turns : ℕ) (slowest : Slowest) → IsSlowest counts n (Some slowest)
    → slice_get counts n ≡ Some (Some turns) → turns < slowest.turns
    → IsSlowest counts (n + 1) (Some (record { rank = n; turns = turns }))
unfolding IsSlowest
with_slower counts n turns slowest h e less_turns = (
  omega arith,
  e,
  λ rank others low seen. elim (below_or_last rank n low) [
    | inl less ↦ let behind : slowest.turns ≤ others = h.2 rank others less seen in omega (arith, behind, less_turns)
    | inr same ↦
        let equal : turns ≡ others = same_count turns others (seen_last counts rank n others (Some turns) same e seen) in
        omega (arith, equal)
  ],
)

-- the slowest is one of them
pub slowest_low : (counts : List (Option ℕ)) (count : ℕ) (slowest : Option Slowest) → IsSlowest counts count slowest
    → IfSome slowest (λ slowest. slowest.rank < count)
unfolding IsSlowest
slowest_low counts count None h = tt
slowest_low counts count (Some slowest) h = h.0

-- of no ranks none is the slowest
pub nobody_yet : (counts : List (Option ℕ)) → IsSlowest counts 0 None
unfolding IsSlowest
nobody_yet counts = λ rank turns low seen. omega (arith, low)

-- nobody is in the way, where nobody was seen
pub none_in_the_way : (counts : List (Option ℕ)) (count lead number : ℕ) → count ≡ length counts
    → IsSlowest counts count None → MayTake lead counts number
unfolding IsSlowest
none_in_the_way counts count lead number all h =
    λ rank turns seen.
    let within : rank < length counts = slice_get_within counts rank (Some turns) seen in
    absurd (h rank turns (omega (arith, within, all)) seen)

-- who may take a turn by the slowest may take it by all
pub by_slowest : (counts : List (Option ℕ)) (count lead number : ℕ) (slowest : Slowest) → count ≡ length counts
    → IsSlowest counts count (Some slowest) → (number ≤ slowest.turns + lead) ↔ MayTake lead counts number
unfolding IsSlowest
by_slowest counts count lead number slowest all h = (
  λ low rank turns seen.
      let within : rank < length counts = slice_get_within counts rank (Some turns) seen in
      let least : slowest.turns ≤ turns = h.2 rank turns (omega (arith, within, all)) seen in
      omega (arith, low, least),
  λ may. may slowest.rank slowest.turns h.1,
)
