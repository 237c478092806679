-- The posts that gave a message, one after another.
use Rattle.std.specs.Prelude.{ℕ, zero, suc, ◌≡◌, ◌≤◌, ◌+◌, List, [], ◌∷◌, ◌++◌, drop, length, Option, Some, None}
use Rattle.std.specs.List.{slice_get}
use Rattle.std.proofs.Common.{refl, sym, ap, ◌∙◌, append-nil, append_assoc, arith}
use Rattle.mp_hub.specs.Histories.{got_of}
use Rattle.mp_types.specs.declared.messages.Message.{Message}
use Rattle.rvmc_draw.specs.Asked.{got_at, got_if}

one_got : (n : ℕ) (ns : List ℕ) (g : Option Message) (gs : List (Option Message))
    → got_of (n ∷ ns) (g ∷ gs) ≡ got_if n g ++ got_of ns gs
one_got n ns None gs = refl
one_got n ns (Some m) gs = refl

none_got : (ns : List ℕ) → got_of ns [] ≡ []
none_got [] = refl
none_got (n ∷ ns) = refl

drop_none : {A : Type 0} (k : ℕ) → drop {A = A} k [] ≡ []
drop_none zero = refl
drop_none (suc k) = refl

got_next : (posts : List ℕ) (gots : List (Option Message)) (k : ℕ)
    → got_of (drop k posts) (drop k gots)
    ≡ got_at (slice_get posts k) (slice_get gots k) ++ got_of (drop (suc k) posts) (drop (suc k) gots)
got_next [] gots zero = refl
got_next [] gots (suc k) = refl
got_next (q ∷ posts) [] zero = sym (none_got posts)
got_next (q ∷ posts) [] (suc k) = none_got (drop k posts) ∙ sym (none_next (slice_get posts k) (drop (suc k) posts))
  where
    none_next : (o : Option ℕ) (ns : List ℕ) → got_at o None ++ got_of ns [] ≡ []
    none_next None ns = none_got ns
    none_next (Some n) ns = none_got ns
got_next (q ∷ posts) (h ∷ gots) zero = one_got q posts h gots
got_next (q ∷ posts) (h ∷ gots) (suc k) = got_next posts gots k

drop_past : {A : Type 0} (xs : List A) (k : ℕ) → length xs ≤ k → drop k xs ≡ []
drop_past [] zero past = refl
drop_past [] (suc k) past = refl
drop_past (x ∷ xs) zero past = absurd (let p = past in omega (arith, p))
drop_past (x ∷ xs) (suc k) past = drop_past xs k (let p = past in omega (arith, p))

pub put_more : (posts : List ℕ) (gots : List (Option Message)) (k : ℕ) (old now new : List ℕ)
    → now ++ got_of (drop k posts) (drop k gots) ≡ old ++ got_of posts gots
    → new ≡ now ++ got_at (slice_get posts k) (slice_get gots k)
    → new ++ got_of (drop (k + 1) posts) (drop (k + 1) gots) ≡ old ++ got_of posts gots
put_more posts gots k old now new put more =
    let next : k + 1 ≡ suc k = omega arith in
    let got = got_at (slice_get posts k) (slice_get gots k) in
    ap (λ n. new ++ got_of (drop n posts) (drop n gots)) next
    ∙ ap (λ l. l ++ got_of (drop (suc k) posts) (drop (suc k) gots)) more
    ∙ append_assoc now got (got_of (drop (suc k) posts) (drop (suc k) gots))
    ∙ ap (λ l. now ++ l) (sym (got_next posts gots k)) ∙ put

pub put_all : (posts : List ℕ) (gots : List (Option Message)) (k : ℕ) (old now : List ℕ)
    → now ++ got_of (drop k posts) (drop k gots) ≡ old ++ got_of posts gots → length posts ≤ k
    → now ≡ old ++ got_of posts gots
put_all posts gots k old now put past =
    sym (append-nil now) ∙ ap (λ l. now ++ got_of l (drop k gots)) (sym (drop_past posts k past)) ∙ put
