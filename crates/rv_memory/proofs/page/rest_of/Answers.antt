use Rattle.std.proofs.Common.{◌≡◌, ◌∙◌, ◌*◌, zero, suc, ℕ, List, [], ◌∷◌, length, length-drop, drop, min, refl, sym, arith}
use Rattle.std.proofs.lemmas.List.{take_all, drop_all}
use Rattle.rv_memory.proofs.page.rest_of.Goals as goal

drop-least : (xs : List ℕ) (n m : ℕ) → m ≡ min n (length xs) → drop m xs ≡ drop n xs
drop-least [] n m e = let z : m ≡ 0 = omega (arith, e) in rw z (sym (drop_all n [] (omega arith)))
drop-least (x ∷ xs) zero m e = let z : m ≡ 0 = omega (arith, e) in rw z refl
drop-least (x ∷ xs) (suc n) zero e = absurd (omega (arith, e))
drop-least (x ∷ xs) (suc n) (suc m) e = drop-least xs n m (omega (arith, e))

pub returns : goal.returns
returns c = take_all _ _ (omega (arith, length-drop c.min.result c.args.text.now)) ∙ drop-least c.args.text.now (c.args.page * 4096) c.min.result c.min.ensures
