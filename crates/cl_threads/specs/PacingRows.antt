-- Worked rows: three ranks and a lead of 5.
use Rattle.std.proofs.Common.{◌≡◌, ℕ, ◌+◌, ◌<◌, ◌≤◌, List, [], ◌∷◌, refl, sym, ap, ◌∙◌, arith}
use Rattle.std.specs.Prelude.{Option, Some, None, slice_get, ◌⊎◌}
use Rattle.std.proofs.lemmas.Bool.{cases_lt}
use Rattle.std.proofs.lemmas.Option.{same_Some, slice_get_within}
use mathlib.Core.Logic.{inl, inr}
use Rattle.cl_threads.specs.Pacing.{IsSlowest, MayTake, WasSeen}

-- rank 0 saw that rank 1 came to 3 turns, and rank 2 to 10
abbrev pub seen_by_0 : List (Option ℕ)
seen_by_0 = None ∷ Some 3 ∷ Some 10 ∷ []

seen_at : (k rank turns : ℕ) → rank ≡ k → WasSeen seen_by_0 rank turns → slice_get seen_by_0 k ≡ Some (Some turns)
seen_at k rank turns same seen = ap (λ i. slice_get seen_by_0 i) (sym same) ∙ seen

not_itself : (turns : ℕ) → let itself : Option ℕ = None in itself ≡ Some turns → ⊥
not_itself turns e = cc

-- what was seen of somebody is one of the two
seen_of : (rank turns : ℕ) → WasSeen seen_by_0 rank turns → (3 ≡ turns) ⊎ (10 ≡ turns)
seen_of rank turns seen =
    elim (cases_lt rank 1) [
      | inl low ↦
          absurd (not_itself turns (same_Some None (Some turns) (seen_at 0 rank turns (omega (arith, low)) seen)))
      | inr more ↦ elim (cases_lt rank 2) [
        | inl low ↦
            inl (same_Some 3 turns (same_Some (Some 3) (Some turns) (seen_at 1 rank turns (omega (arith, low, more)) seen)))
        | inr most ↦
            let within : rank < 3 = slice_get_within seen_by_0 rank (Some turns) seen in
            inr (same_Some 10 turns
            (same_Some (Some 10) (Some turns) (seen_at 2 rank turns (omega (arith, within, most)) seen)))
      ]
    ]

-- with a lead of 5 its turn 8 is the last that it may take: the slowest counts, and neither the fastest nor its own
pub may_take_turn_8 : MayTake 5 seen_by_0 8
may_take_turn_8 rank turns seen =
    elim (seen_of rank turns seen) [ inl three ↦ omega (arith, three) | inr ten ↦ omega (arith, ten) ]

pub may_not_take_turn_9 : ¬ (MayTake 5 seen_by_0 9)
may_not_take_turn_9 may = let close : 9 ≤ 3 + 5 = may 1 3 refl in omega (arith, close)

-- nobody but rank 1 is the slowest
pub rank_1_is_the_slowest : IsSlowest seen_by_0 3 (Some (record { rank = 1; turns = 3 }))
unfolding IsSlowest
rank_1_is_the_slowest = (
  omega arith,
  refl,
  λ rank turns low seen.
      elim (seen_of rank turns seen) [ inl three ↦ omega (arith, three) | inr ten ↦ omega (arith, ten) ],
)

pub rank_2_is_not : ¬ (IsSlowest seen_by_0 3 (Some (record { rank = 2; turns = 10 })))
unfolding IsSlowest
rank_2_is_not h = let least : 10 ≤ 3 = h.2 1 3 (omega arith) refl in omega (arith, least)
