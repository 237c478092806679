-- One more number stands behind those so far.
use Rattle.std.proofs.Common.{◌≡◌, ◌∙◌, ◌+◌, ◌<◌, ℕ, suc, List, [], ◌∷◌, ◌++◌, Option, Some, None, refl, sym, ap, add-one, append_assoc, drop, drop-cons, get_or, length, map}
use Rattle.std.specs.Prelude.{option_map}
use Rattle.rvmc_words.specs.Number.{each_number, number_in}
use Rattle.rvmc_words.proofs.list.each_number.Goals as goal

again : (items : List ℕ) (n : ℕ) (o : Option (List ℕ)) → option_map (λ rest. items ++ rest) (option_map (λ rest. n ∷ rest) o) ≡ option_map (λ rest. (items ++ n ∷ []) ++ rest) o
again items n None = refl
again items n (Some rest) = ap Some (sym (append_assoc items (n ∷ []) rest))

pushed : {T : Type 0} (texts : List T) (f : T → List ℕ) (i : ℕ) (d : T) (items new : List ℕ) (n : ℕ) (whole : Option (List ℕ)) → i < length texts
    → Some n ≡ number_in 0 255 (f (get_or texts i d)) → new ≡ items ++ n ∷ []
    → whole ≡ option_map (λ rest. items ++ rest) (each_number (map f (drop i texts)))
    → whole ≡ option_map (λ rest. new ++ rest) (each_number (map f (drop (i + 1) texts)))
pushed texts f i d items new n whole lt e is so_far =
    rw (add-one, is) (so_far ∙ rw (drop-cons texts i d, ← e) (again items n (each_number (map f (drop (suc i) texts)))))

pub loop-text-preserved : goal.loop-text-preserved
loop-text-preserved c =
    pushed c.args.texts.now (λ text. text.now) c.loop-text.text-index _ c.loop-text.items.items _ c.in-Some.number _ c.loop-text-test.true
    c.in-Some.ensures.value c.in_ok-push.ensures.items c.loop-text.invariant
