-- Each turn is of one kind.
use Rattle.std.specs.Prelude.{ℕ, ◌+◌, ◌≡◌, ◌==◌, ◌&&◌, Bool, true, false, cond, List, [], ◌∷◌}
use Rattle.std.specs.List.{count_by, sum_by}
use Rattle.std.proofs.Common.{refl, sym, ap, ◌∙◌, arith}
use Rattle.std.proofs.lemmas.List.Sums.{sum_by-cons}
use Rattle.cl_trace.specs.declared.events.Kind.{Kind}
use Rattle.rvmc_stats.specs.Counted.{Taken, is_turn_by, is_turn, kind_place, taken_by, turns_of}
use Rattle.rvmc_stats.specs.Laws.{KindsLaw}
use Rattle.rvmc_stats.specs.Texts.{numbers_below}

-- sums of numbers that are the same, and of two numbers each
sum_same : (f g : ℕ → ℕ) → ((x : ℕ) → f x ≡ g x) → (xs : List ℕ) → sum_by f xs ≡ sum_by g xs
sum_same f g same [] = refl
sum_same f g same (x ∷ xs) =
    let here = same x in
    let rest = sum_same f g same xs in
    omega (arith, here, rest, sum_by-cons f x xs, sum_by-cons g x xs)

sum_plus : (f g : ℕ → ℕ) (xs : List ℕ) → sum_by (λ x. f x + g x) xs ≡ sum_by f xs + sum_by g xs
sum_plus f g [] = refl
sum_plus f g (x ∷ xs) =
    let rest = sum_plus f g xs in
    omega (arith, rest, sum_by-cons (λ y. f y + g y) x xs, sum_by-cons f x xs, sum_by-cons g x xs)

one_kind : (mine : Bool) (kind : Kind)
    → sum_by (λ column. cond (mine && (column == kind_place kind)) 1 0) (numbers_below 9) ≡ cond mine 1 0
one_kind false kind = refl
one_kind true Kind.Plain = refl
one_kind true Kind.Local = refl
one_kind true (Kind.Hub reply) = refl
one_kind true Kind.Ready = refl
one_kind true Kind.Take = refl
one_kind true Kind.Miss = refl
one_kind true Kind.Freed = refl
one_kind true Kind.Held = refl
one_kind true Kind.Idle = refl

pub kinds : KindsLaw
kinds [] rank = refl
kinds (t ∷ all) rank =
    sum_same (turns_of (t ∷ all) rank) (λ column. cond (is_turn rank column t) 1 0 + turns_of all rank column)
    (λ column. sum_by-cons (λ u. cond (is_turn rank column u) 1 0) t all) (numbers_below 9)
    ∙ sum_plus (λ column. cond (is_turn rank column t) 1 0) (turns_of all rank) (numbers_below 9)
    ∙ ap (λ n. n + sum_by (turns_of all rank) (numbers_below 9)) (one_kind (rank == t.step.rank) t.step.kind)
    ∙ ap (λ n. cond (is_turn_by rank t) 1 0 + n) (kinds all rank)
    ∙ sym (sum_by-cons (λ u. cond (is_turn_by rank u) 1 0) t all)
