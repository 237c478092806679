-- Kept patterns of ranks that only wait for named ranks.
use Rattle.std.specs.Prelude.{ℕ, ◌+◌, ◌<◌, ◌≤◌, ◌≡◌, ◌==◌, ◌&&◌, Bool, true, false, List, Some, get_or, length}
use Rattle.std.specs.List.{list_any, slice_get}
use Rattle.std.proofs.Common.{sym, ap, ◌∙◌, subst, arith, inl, inr}
use Rattle.std.proofs.lemmas.Bool.{and_parts, cases_Bool, cases_eq}
use Rattle.std.proofs.lemmas.Option.{same_Some, slice_get_within}
use Rattle.cl_contests.specs.declared.patterns.AskedBy.{AskedBy}
use Rattle.cl_reduction_laws.specs.Patterns.{claim, poll, poll_of_sends}
use Rattle.cl_contests.specs.Kept.{is_any_source, is_pattern, is_poll_of_complete, search_of}
use Rattle.cl_contests.specs.Passing.{IsWaitKept}
use Rattle.cl_contests.specs.Waiting.{OnlyWaits}
use Rattle.cl_contests.proofs.Passing.{here, of_any}

-- each of the first n patterns is so
abbrev pub AreWaitsBelow : List AskedBy → ℕ → Type 0
AreWaitsBelow kept n = (i : ℕ) → i < n → (a : AskedBy) → slice_get kept i ≡ Some a → IsWaitKept a

pub waits_more : (kept : List AskedBy) (n : ℕ) → AreWaitsBelow kept n → (none : AskedBy) (xs : List AskedBy) → xs ≡ kept
    → n < length kept → IsWaitKept (get_or xs n none) → AreWaitsBelow kept (n + 1)
waits_more kept n before none xs are inside its i low x there = elim (cases_eq n i) [
  | inl same ↦
      let a : AskedBy = get_or xs n none in
      let at : slice_get kept n ≡ Some a = here kept n none inside ∙ ap (λ ys. Some (get_or ys n none)) (sym are) in
      subst IsWaitKept (same_Some a x (sym at ∙ subst (λ k. slice_get kept k ≡ Some x) (sym same) there)) its
  | inr apart ↦ before i (omega (arith, low, apart)) x there
]

module _ (may_wait : Bool) (kept : List AskedBy) (n : ℕ) (each : AreWaitsBelow kept n) (all : length kept ≤ n) where
  -- what holds of no kept pattern, no rank asks
  none : (test : AskedBy → Bool) → ((a : AskedBy) → IsWaitKept a → test a ≡ false) → (r : ℕ)
      → list_any (λ (a : AskedBy). (a.rank == r) && test a) kept ≡ false
  none test never r = elim (cases_Bool (list_any (λ (a : AskedBy). (a.rank == r) && test a) kept)) [
    | inl has ↦
        let v = of_any (λ (a : AskedBy). (a.rank == r) && test a) kept has in
        let inside = slice_get_within kept v.0 v.1 v.2 in
        let is = (and_parts ((v.1).rank == r) (test v.1) v.3).1 in
        let clash : false ≡ true = sym (never v.1 (each v.0 (omega (arith, inside, all)) v.1 v.2)) ∙ is in cc
    | inr lacks ↦ lacks
  ]

  pub waits_all : OnlyWaits (search_of may_wait kept)
  waits_all = record {
    sources = λ r comm. none (λ (a : AskedBy). is_any_source a.pattern comm) (λ a its. its.sources comm) r;
    claims = λ r. none (λ (a : AskedBy). is_pattern a.pattern claim) (λ a its. its.claims) r;
    polls = λ r. none (λ (a : AskedBy). is_pattern a.pattern poll) (λ a its. its.polls) r;
    polls_of_sends = λ r. none (λ (a : AskedBy). is_pattern a.pattern poll_of_sends) (λ a its. its.polls_of_sends) r;
    polls_of_complete = λ r. none (λ (a : AskedBy). is_poll_of_complete a.pattern) (λ a its. its.polls_of_complete) r;
  }
