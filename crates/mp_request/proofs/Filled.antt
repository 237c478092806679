-- Tables that are kept up to their last open handle.
use Rattle.std.proofs.Common.{◌≡◌, ◌∙◌, ◌-◌, ◌<◌, ◌≤◌, ℕ, suc, List, [], ◌∷◌, ◌++◌, Option, None, length, refl, ap, arith}
use Rattle.std.specs.Prelude.{replicate, take}
use Rattle.std.proofs.lemmas.List.{append_assoc, length-append, take_all}
use Rattle.mp_request.specs.declared.entries.OpenRequest.{OpenRequest}
use Rattle.mp_request.specs.Kept.{whole_table}

one_more : (n : ℕ) → n < 255 → 255 - n ≡ suc (255 - suc n)
one_more n few = omega (arith, few)

-- a slot that names nothing, behind the others, says nothing
pub filled_none : (slots : List (Option OpenRequest)) → length slots < 255 → whole_table (slots ++ None ∷ []) ≡ whole_table slots
filled_none slots few =
    let n : length (slots ++ None ∷ []) ≡ suc (length slots) = omega (arith, length-append slots (None ∷ [])) in
    append_assoc slots (None ∷ []) (replicate (255 - length (slots ++ None ∷ [])) None)
    ∙ ap (λ k. slots ++ None ∷ replicate (255 - k) None) n
    ∙ ap (λ k. slots ++ replicate k None) (sym (one_more (length slots) few))
  where
    sym : {A : Type 0} {x y : A} → x ≡ y → y ≡ x
    sym e = cc

-- what is filled up to 255
pub filled_up : (xs ext new : List (Option OpenRequest)) (n : ℕ) → length xs ≤ 255 → ext ≡ xs → n ≡ length xs
    → new ≡ take 255 ext ++ replicate (255 - n) None → new ≡ whole_table xs
filled_up xs ext new n few is count new_is =
    new_is ∙ ap (λ ys. take 255 ys ++ replicate (255 - n) None) is
    ∙ ap (λ k. take 255 xs ++ replicate (255 - k) None) count
    ∙ ap (λ ys. ys ++ replicate (255 - length xs) None) (take_all 255 xs few)
