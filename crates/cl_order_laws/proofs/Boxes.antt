-- Alike boxes go alike.
use Rattle.std.proofs.Common.{◌≡◌, ℕ, zero, suc, ◌+◌, ◌<◌, List, [], ◌∷◌, ◌++◌, length, Some, refl, sym, ap, ◌∙◌, subst, arith}
use Rattle.std.specs.List.{slice_get}
use Rattle.std.proofs.lemmas.Option.{same_Some}
use Rattle.mp_match.proofs.Places.{get_last}
use Rattle.cl_machine.specs.Boxes.{Box, Holds, IsEmpty, Thing, with_made, with_taken}
use Rattle.cl_order_laws.specs.Alike.{AlikeBoxes, IsFull, both_empty, both_full}

pub not_both : (box : Box) (bytes : List ℕ) → IsEmpty box → IsFull box bytes → ⊥
not_both box bytes empty full = (let e = full.one in absurd (omega (arith, e, empty)))

pub empty_too : (a b : Box) → AlikeBoxes a b → IsEmpty a → IsEmpty b
empty_too a b (both_empty e f) empty = f
empty_too a b (both_full bytes f g) empty = absurd (not_both a bytes empty f)

pub empty_before : (a b : Box) → AlikeBoxes a b → IsEmpty b → IsEmpty a
empty_before a b (both_empty e f) empty = e
empty_before a b (both_full bytes f g) empty = absurd (not_both b bytes empty g)

within : {A : Type 0} (xs : List A) (i : ℕ) (x : A) → slice_get xs i ≡ Some x → i < length xs
within [] i x h = absurd (cc)
within (y ∷ xs) zero x h = omega arith
within (y ∷ xs) (suc i) x h = (let p : i < length xs = within xs i x h in omega arith)

pub holds_too : (a b : Box) (bytes : List ℕ) → AlikeBoxes a b → Holds a bytes → IsFull a bytes × IsFull b bytes
holds_too a b bytes (both_empty e f) holds =
    (let w = within a.made a.taken _ holds in absurd (omega (arith, w, e)))
holds_too a b bytes (both_full others f g) holds =
    let same : others ≡ bytes =
    ap (λ (t : Thing). t.bytes)
    (same_Some (record { stamp = a.stamp; bytes = others }) (record { stamp = a.stamp; bytes = bytes })
    (sym f.holds ∙ holds)) in
    (subst (IsFull a) same f, subst (IsFull b) same g)

pub made_full : (box : Box) (stamp : ℕ) (bytes : List ℕ) → IsEmpty box → IsFull (with_made box stamp bytes) bytes
made_full box stamp bytes empty = record {
  holds = subst (λ n. slice_get (box.made ++ record { stamp = stamp; bytes = bytes } ∷ []) n
      ≡ Some (record { stamp = stamp; bytes = bytes })) empty (get_last box.made (record { stamp = stamp; bytes = bytes }));
  one = snoc_length box.made (record { stamp = stamp; bytes = bytes }) ∙ ap (λ n. n + 1) empty;
}
  where
    snoc_length : {A : Type 0} (xs : List A) (x : A) → length (xs ++ x ∷ []) ≡ length xs + 1
    snoc_length [] x = refl
    snoc_length (y ∷ xs) x = (let e = snoc_length xs x in omega (arith, e))

pub made_alike : (a b : Box) (bytes : List ℕ) (stamp other : ℕ) → IsEmpty a → IsEmpty b
    → AlikeBoxes (with_made a stamp bytes) (with_made b other bytes)
made_alike a b bytes stamp other empty also =
    both_full bytes (made_full a stamp bytes empty) (made_full b other bytes also)

pub taken_alike : (a b : Box) (bytes : List ℕ) (stamp other : ℕ) → IsFull a bytes → IsFull b bytes
    → AlikeBoxes (with_taken a stamp) (with_taken b other)
taken_alike a b bytes stamp other full also = both_empty full.one also.one

pub boxes_on : (a b c : Box) → AlikeBoxes a b → AlikeBoxes b c → AlikeBoxes a c
boxes_on a b c (both_empty e f) (both_empty g h) = both_empty e h
boxes_on a b c (both_empty e f) (both_full bytes g h) = absurd (not_both b bytes f g)
boxes_on a b c (both_full bytes e f) (both_empty g h) = absurd (not_both b bytes g f)
boxes_on a b c (both_full bytes e f) (both_full others g h) =
    let same : others ≡ bytes =
    ap (λ (t : Thing). t.bytes)
    (same_Some (record { stamp = b.stamp; bytes = others }) (record { stamp = b.stamp; bytes = bytes })
    (sym g.holds ∙ f.holds)) in
    both_full bytes e (subst (IsFull c) same h)
