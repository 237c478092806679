-- Alike boards hold as many messages.
use Rattle.std.proofs.Common.{◌≡◌, ℕ, suc, ◌≤◌, List, [], ◌∷◌, Option, Some, None, refl, sym, ap, ◌∙◌, arith}
use Rattle.std.specs.List.{slice_get, slice_set}
use Rattle.mp_match.specs.Board.{Board, held_count}
use Rattle.mp_match.specs.Bodies.{bytes_in}
use Rattle.mp_match.proofs.Rows.{held_set}
use Rattle.mp_wait_laws.proofs.Sets.{get-set_other}
use Rattle.mp_alike_laws.specs.Renaming.{Renaming}
use Rattle.mp_source_laws.specs.Alike.{AlikeBoards, Wild}

-- where each message of the one has a place of its own in the other, the other holds as many at least
no_more : (xs ys : List (Option (List ℕ))) (to : ℕ → ℕ) → ((i j : ℕ) → to i ≡ to j → i ≡ j)
    → ((i : ℕ) (x : List ℕ) → slice_get xs i ≡ Some (Some x) → slice_get ys (to i) ≡ Some (Some x))
    → held_count xs ≤ held_count ys
no_more [] ys to one at = omega arith
no_more (None ∷ xs) ys to one at =
    no_more xs ys (λ i. to (suc i)) (λ i j e. (let f = one (suc i) (suc j) e in omega (arith, f)))
    (λ i x here. at (suc i) x here)
no_more (Some x ∷ xs) ys to one at =
    let fewer = no_more xs (slice_set ys (to 0) None) (λ i. to (suc i))
    (λ i j e. (let f = one (suc i) (suc j) e in omega (arith, f)))
    (λ i y here.
    get-set_other ys (to 0) (to (suc i)) None (λ e. (let f : 0 ≡ suc i = one 0 (suc i) e in absurd (omega (arith, f))))
    ∙ at (suc i) y here) in
    let gone = held_set ys (to 0) in
    let was : held_count (bytes_in (slice_get ys (to 0)) ∷ []) ≡ 1 =
    ap (λ o. held_count (bytes_in o ∷ [])) (at 0 x refl) in
    omega (arith, fewer, gone, was)

pub held_same : {wild : Wild} → (names : Renaming) (a b : Board) → AlikeBoards wild names a b → held_count b.bodies ≡ held_count a.bodies
held_same names a b alike =
    let up = no_more a.bodies b.bodies names.to
    (λ i j e. sym (names.there i) ∙ ap names.back e ∙ names.there j)
    (λ i x here. alike.bodies i ∙ here) in
    let down = no_more b.bodies a.bodies names.back
    (λ i j e. sym (names.again i) ∙ ap names.to e ∙ names.again j)
    (λ i x here. sym (alike.bodies (names.back i)) ∙ ap (slice_get b.bodies) (names.again i) ∙ here) in
    omega (arith, up, down)
