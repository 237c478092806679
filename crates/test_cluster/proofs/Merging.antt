-- The merge of two ranks' events.
use Rattle.std.specs.Prelude.{ℕ, zero, suc, ◌≡◌, ◌<◌, ◌≤◌, List, [], ◌∷◌, length, map, slice_get, Bool, false, eqb}
use Rattle.std.specs.Prelude.{Result, Ok, Err, IfOk}
use Rattle.std.proofs.Common.{refl, ap, sym, ◌∙◌, arith}
use Rattle.std.proofs.lemmas.List.{length-map}
use Rattle.std.proofs.lemmas.Bool.Decides.{eqb_tells}
use mathlib.Core.Logic.{inl, inr}
use Rattle.cl_trace.specs.Traces.{TraceView}
use Rattle.cl_trace.specs.declared.events.Event.{Event}
use Rattle.cl_machine.proofs.Lists.{filter-skips}
use Rattle.cl_machine.specs.Merge.{IsMerge}
use Rattle.cl_machine.specs.Order.{of_rank}
use Rattle.cl_machine.specs.Steps.{Step}
use Rattle.cl_record.specs.Records.{step_by, steps_by}

abbrev two_traces : List Event → List Event → List TraceView
two_traces a b = record { events = a; room = 0 } ∷ record { events = b; room = 0 } ∷ []

-- the events of two traces, by their ranks
traced : (ts : List TraceView) (a b : List Event) → map (λ (t : TraceView). t.events) ts ≡ a ∷ b ∷ []
    → (rank : ℕ) → steps_by rank (slice_get ts rank)
    ≡ steps_by rank (slice_get (two_traces a b) rank)
traced [] a b h rank = absurd (cc)
traced (x ∷ []) a b h rank = absurd (let tail : map (λ (t : TraceView). t.events) [] ≡ b ∷ [] = (cc) in (cc))
traced (x ∷ y ∷ []) a b h zero = let same : x.events ≡ a = (cc) in ap (map (step_by 0)) same
traced (x ∷ y ∷ []) a b h (suc zero) = let same : y.events ≡ b = (cc) in ap (map (step_by 1)) same
traced (x ∷ y ∷ []) a b h (suc (suc rank)) = refl
traced (x ∷ y ∷ z ∷ ts) a b h rank = absurd (cc)

pub few : (ts : List TraceView) (a b : List Event) → map (λ (t : TraceView). t.events) ts ≡ a ∷ b ∷ [] → length ts ≤ 256
few ts a b h = let count = sym (length-map ts (λ (t : TraceView). t.events)) ∙ ap length h in omega (arith, count)

unlike : (a b : ℕ) → a < b → eqb a b ≡ false
unlike a b less = elim (eqb_tells a b) [ inl e ↦ absurd (omega (arith, less, e.1)) | inr e ↦ e.0 ]

-- what follows from the one for a value follows from it for a result
pub ok_map : {T E : Type 0} (P Q : T → Type 0) → ((x : T) → P x → Q x) → (r : Result T E) → IfOk r P → IfOk r Q
ok_map P Q f (Ok x) h = f x h
ok_map P Q f (Err e) h = tt

-- the later event is of rank 0, and the earlier of rank 1
pub earlier_first : (ts : List TraceView) (early late : Event) → early.stamp < late.stamp
    → map (λ (t : TraceView). t.events) ts ≡ (late ∷ []) ∷ (early ∷ []) ∷ []
    → IsMerge (λ rank. steps_by rank (slice_get ts rank)) (step_by 1 early ∷ step_by 0 late ∷ [])
earlier_first ts early late less h = record {
  in_order = ((inl less, tt), (tt, tt));
  all = λ rank. its rank ∙ sym (traced ts (late ∷ []) (early ∷ []) h rank);
}
  where
    its : (rank : ℕ) → of_rank (λ (e : Step). e.rank) rank (step_by 1 early ∷ step_by 0 late ∷ [])
        ≡ steps_by rank (slice_get (two_traces (late ∷ []) (early ∷ [])) rank)
    its zero = refl
    its (suc zero) = refl
    its (suc (suc rank)) =
        let other : ℕ → Step → Bool = λ k e. eqb e.rank (suc (suc k)) in
        filter-skips (other rank) (step_by 1 early) (step_by 0 late ∷ []) (unlike 1 (suc (suc rank)) (omega arith))
        ∙ filter-skips (other rank) (step_by 0 late) [] (unlike 0 (suc (suc rank)) (omega arith))
