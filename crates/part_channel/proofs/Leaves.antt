-- One box after the other is settled, from the last on.
use Rattle.std.proofs.Common.{◌≡◌, ◌≢◌, ℕ, zero, suc, ◌+◌, ◌<◌, List, [], ◌∷◌, ◌++◌, length, map, set, take, Some, refl}
use Rattle.std.proofs.Common.{sym, ap, ◌∙◌, subst, ⊎_elim, arith, length-append}
use Rattle.std.specs.Prelude.{slice_get, All, option_map}
use Rattle.std.proofs.lemmas.List.{length-take-le}
use Rattle.std.proofs.lemmas.Option.{get_or_from_slice_get, slice_get_within, slice_get-map}
use Rattle.part_box.specs.declared.settled.Settled.{Settled}
use Rattle.part_box.specs.declared.view.Made.{Made}
use Rattle.part_box.specs.Gate.{thing_of, things_of}
use Rattle.part_box.specs.Settling.{leftover, IsSettled}
use Rattle.part_box.specs.Keys.{Sender, Receiver}
use Rattle.part_channel.specs.Settling.{AreSettled, made_in, got_from, joined, IsLeft}
use Rattle.part_channel.proofs.Lists.{some_same, get_set, there}

module _ {A : Type 0} where
  not_empty : (xs : List A) (x : A) → xs ++ x ∷ [] ≡ [] → ⊥
  not_empty xs x e = let more : length (xs ++ x ∷ []) ≡ length xs + 1 = length-append xs (x ∷ []) in
      let none : length (xs ++ x ∷ []) ≡ 0 = ap length e in omega (arith, more, none)

  pub popped : (from rest : List A) (x : A) (n : ℕ) → n < length from → rest ++ x ∷ [] ≡ take (suc n) from
      → (slice_get from n ≡ Some x) × (rest ≡ take n from)
  popped [] rest x n low e = absurd (omega (arith, low))
  popped (b ∷ bs) [] x zero low e = let same : x ≡ b = cc in (ap Some (sym same), refl)
  popped (b ∷ bs) (y ∷ ys) x zero low e = let none : ys ++ x ∷ [] ≡ [] = cc in absurd (not_empty ys x none)
  popped (b ∷ bs) [] x (suc n) low e =
      let below : n < length bs = omega (arith, low) in
      let none : take (suc n) bs ≡ [] = cc in
      let long : length (take (suc n) bs) ≡ suc n = length-take-le (suc n) bs (omega (arith, below)) in
      let short : length (take (suc n) bs) ≡ 0 = ap length none in absurd (omega (arith, long, short))
  popped (b ∷ bs) (y ∷ ys) x (suc n) low e =
      let same : y ≡ b = cc in
      let tail : ys ++ x ∷ [] ≡ take (suc n) bs = cc in
      let found = popped bs ys x n (omega (arith, low)) tail in
      (found.0, λ i. same i ∷ found.1 i)

pub settled_more : (width : ℕ) (sends : List Sender) (recvs : List Receiver) (left : List Settled) (n first : ℕ)
    (s : Sender) (r : Receiver) (b : Settled) → first ≡ n + 1 → slice_get sends n ≡ Some s → slice_get recvs n ≡ Some r
    → IsSettled width s.view r.view b
    → AreSettled width first sends recvs left → AreSettled width n sends recvs (set left n b)
settled_more width sends recvs left n first s r b next at_s at_r mine others i s' r' b' low e_s e_r e_b = ⊎_elim
    (λ (x : (i ≡ n) × (b ≡ b')).
    let same_s : s ≡ s' = some_same s s' (sym at_s ∙ (ap (slice_get sends) (sym x.0) ∙ e_s)) in
    let same_r : r ≡ r' = some_same r r' (sym at_r ∙ (ap (slice_get recvs) (sym x.0) ∙ e_r)) in
    subst (λ (y : Sender × Receiver × Settled). IsSettled width y.0.view y.1.view y.2)
    (λ t. (same_s t, same_r t, x.1 t)) mine)
    (λ (x : (i ≢ n) × (slice_get left i ≡ Some b')). let ne : i ≢ n = x.0 in
    others i s' r' b' (omega (arith, low, ne, next)) e_s e_r x.1)
    (get_set left n i b b' e_b)

pub wide_at : {A : Type 0} (P : A → Type 0) (xs : List A) (i : ℕ) (x : A) → All P xs → slice_get xs i ≡ Some x → P x
wide_at P xs i x all at = subst P (get_or_from_slice_get xs i x x at) (all i x (slice_get_within xs i x at))

module _ {A : Type 0} where
  whole_long : (xs : List A) → xs ≡ take (length xs) xs
  whole_long [] = refl
  whole_long (x ∷ xs) = ap (λ l. x ∷ l) (whole_long xs)

  pub whole : (xs : List A) (n : ℕ) → length xs ≡ n → xs ≡ take n xs
  whole xs n e = whole_long xs ∙ ap (λ m. take m xs) e

pub none_settled : (width : ℕ) (sends : List Sender) (recvs : List Receiver) (left : List Settled) → length sends ≡ 16
    → AreSettled width 16 sends recvs left
none_settled width sends recvs left long i s r b high e_s e_r e_b = let low = slice_get_within sends i s e_s in
    absurd (omega (arith, high, low, long))

pub all_settled : (width first : ℕ) (sends sends' : List Sender) (recvs recvs' : List Receiver) (left : List Settled)
    → first ≡ 0 → sends ≡ sends' → recvs ≡ recvs' → AreSettled width first sends recvs left
    → AreSettled width 0 sends' recvs' left
all_settled width first sends sends' recvs recvs' left none same_s same_r h =
    subst (λ n. AreSettled width n sends' recvs' left) none
    (subst (λ l. AreSettled width first sends' l left) same_r
    (subst (λ l. AreSettled width first l recvs left) same_s h))

-- what comes first stays where it is
got_first : (xs ys : List Made) (k : ℕ) (m : Made) → slice_get xs k ≡ Some m → slice_get (xs ++ ys) k ≡ Some m
got_first [] ys k m e = absurd (cc)
got_first (x ∷ xs) ys zero m e = e
got_first (x ∷ xs) ys (suc k) m e = got_first xs ys k m e

-- boxes that are settled one by one, side by side
joined_all : (width : ℕ) (sends : List Sender) (recvs : List Receiver) (left : List Settled) (n : ℕ) → length sends ≡ n
    → length recvs ≡ n → length left ≡ n → AreSettled width 0 sends recvs left
    → map made_in sends ≡ joined (map got_from recvs) (map (leftover width) left)
joined_all width [] [] left n long_s long_r long_b each = refl
joined_all width [] (r ∷ recvs) left n long_s long_r long_b each = absurd (omega (arith, long_s, long_r))
joined_all width (s ∷ sends) [] left n long_s long_r long_b each = absurd (omega (arith, long_s, long_r))
joined_all width (s ∷ sends) (r ∷ recvs) [] n long_s long_r long_b each = absurd (omega (arith, long_r, long_b))
joined_all width (s ∷ sends) (r ∷ recvs) (b ∷ left) zero long_s long_r long_b each = absurd (omega (arith, long_s))
joined_all width (s ∷ sends) (r ∷ recvs) (b ∷ left) (suc n) long_s long_r long_b each =
    let here = each 0 s r b (omega arith) refl refl refl in
    let rest =
    joined_all width sends recvs left n (omega (arith, long_s)) (omega (arith, long_r)) (omega (arith, long_b))
    (λ i s' r' b' low e_s e_r e_b. each (suc i) s' r' b' (omega arith) e_s e_r e_b) in
    λ i. here.made i ∷ rest i

pub all_left : (width : ℕ) (sends : List Sender) (recvs : List Receiver) (left : List Settled) → length sends ≡ 16
    → length recvs ≡ 16 → length left ≡ 16 → AreSettled width 0 sends recvs left → IsLeft width sends recvs left
all_left width sends recvs left long_s long_r long_b each = record {
  each = each;
  made = joined_all width sends recvs left 16 long_s long_r long_b each;
  phases = λ i k s r g at_s at_r got.
      let low = slice_get_within sends i s at_s in
      let found = there left i (omega (arith, low, long_s, long_b)) in
      let mine = each i s r found.0 (omega arith) at_s at_r found.1 in
      ap (λ l. slice_get l k) mine.made
      ∙ got_first (things_of r.view.got) (leftover width found.0) k (thing_of g)
      (slice_get-map thing_of r.view.got k ∙ ap (λ o. option_map thing_of o) got);
}
