-- Edits of lists that are compared piece by piece.
use Rattle.std.specs.Prelude.{ℕ, zero, suc, ◌≡◌, ◌+◌, ◌-◌, ◌<◌, ◌≤◌, ◌==◌, if◌then◌else◌, Bool, true, false, min, List, [], ◌∷◌, ◌++◌, drop, get_or, length, map, take}
use Rattle.std.specs.List.{range_with_len}
use Rattle.std.proofs.Common.{refl, sym, ap, ◌∙◌, append_assoc, append-nil, arith, length-drop}
use Rattle.std.proofs.Math.Seq.{drop-append_seam, take-add, take-append_seam}
use Rattle.std.proofs.lemmas.Bool.{eq-eqb}
use Rattle.std.proofs.lemmas.List.{drop-drop, length-take-le, take-append-drop, take_more}
use Rattle.std.proofs.lemmas.List.FromFn.{length-map-range_with_len, map-range_with_len_more}
use Rattle.rv_memory.specs.Memory.{overwritten}
use Rattle.rvmc_changes.specs.declared.edits.Edit.{Edit}
use Rattle.rvmc_changes.specs.Edits.{edits_from}
use Rattle.rvmc_changes.specs.Walking.{edit_at}

-- ---- behind lists that are as long

pub edits_both : (a : ℕ) (xs ys vs ws : List ℕ) → length xs ≡ length ys
    → edits_from a (xs ++ vs) (ys ++ ws) ≡ edits_from a xs ys ++ edits_from (a + length xs) vs ws
edits_both a [] [] vs ws same = ap (λ k. edits_from k vs ws) (let none : a ≡ a + 0 = omega arith in none)
edits_both a [] (y ∷ ys) vs ws same = absurd (omega (arith, same))
edits_both a (x ∷ xs) [] vs ws same = absurd (omega (arith, same))
edits_both a (x ∷ xs) (y ∷ ys) vs ws same =
    go (x == y)
    (edits_both (a + 1) xs ys vs ws (omega (arith, same))
    ∙ ap (λ k. edits_from (a + 1) xs ys ++ edits_from k vs ws)
    (let more : a + 1 + length xs ≡ a + length (x ∷ xs) = omega arith in more))
  where
    go : (b : Bool)
        → edits_from (a + 1) (xs ++ vs) (ys ++ ws) ≡ edits_from (a + 1) xs ys ++ edits_from (a + length (x ∷ xs)) vs ws
        → (if b then edits_from (a + 1) (xs ++ vs) (ys ++ ws)
        else record { place = a; old = x; new = y } ∷ edits_from (a + 1) (xs ++ vs) (ys ++ ws))
        ≡ (if b then edits_from (a + 1) xs ys else record { place = a; old = x; new = y } ∷ edits_from (a + 1) xs ys)
        ++ edits_from (a + length (x ∷ xs)) vs ws
    go true rest = rest
    go false rest = ap (λ (es : List Edit). record { place = a; old = x; new = y } ∷ es) rest

-- one item more
pub edits_one : (a : ℕ) (xs ys : List ℕ) (x y k : ℕ) → length xs ≡ length ys → a + length xs ≡ k
    → edits_from a (xs ++ x ∷ []) (ys ++ y ∷ []) ≡ edits_from a xs ys ++ edit_at k x y
edits_one a xs ys x y k same here =
    edits_both a xs ys (x ∷ []) (y ∷ []) same ∙ ap (λ n. edits_from a xs ys ++ edit_at n x y) here

-- one piece more
pub edits_more : (a done end : ℕ) (xs ys : List ℕ) → done ≤ end → end ≤ length xs → end ≤ length ys
    → edits_from a (take end xs) (take end ys)
    ≡ edits_from a (take done xs) (take done ys)
    ++ edits_from (a + done) (take (end - done) (drop done xs)) (take (end - done) (drop done ys))
edits_more a done end xs ys forwards inside within =
    ap (λ n. edits_from a (take n xs) (take n ys)) (let sum : end ≡ done + (end - done) = omega (arith, forwards) in sum)
    ∙ ap (λ l. edits_from a l (take (done + (end - done)) ys)) (take-add done (end - done) xs)
    ∙ ap (λ l. edits_from a (take done xs ++ take (end - done) (drop done xs)) l) (take-add done (end - done) ys)
    ∙ edits_both a (take done xs) (take done ys) (take (end - done) (drop done xs)) (take (end - done) (drop done ys))
    (long xs inside ∙ sym (long ys within))
    ∙ ap (λ n. edits_from a (take done xs) (take done ys)
    ++ edits_from (a + n) (take (end - done) (drop done xs)) (take (end - done) (drop done ys))) (long xs inside)
  where
    long : (zs : List ℕ) → end ≤ length zs → length (take done zs) ≡ done
    long zs inside = length-take-le done zs (omega (arith, forwards, inside))

-- ---- lists that don't differ

pub edits_same : (a : ℕ) (xs : List ℕ) → edits_from a xs xs ≡ []
edits_same a [] = refl
edits_same a (x ∷ xs) = go (x == x) (eq-eqb x x refl) (edits_same (a + 1) xs)
  where
    go : (b : Bool) → b ≡ true → edits_from (a + 1) xs xs ≡ []
        → (if b then edits_from (a + 1) xs xs else record { place = a; old = x; new = x } ∷ edits_from (a + 1) xs xs)
        ≡ []
    go true is rest = rest
    go false is rest = absurd (cc)

-- ---- what is behind the shorter one

pub edits_cut : (a n : ℕ) (xs ys : List ℕ) → min (length xs) (length ys) ≤ n
    → edits_from a (take n xs) (take n ys) ≡ edits_from a xs ys
edits_cut a zero [] ys few = refl
edits_cut a zero (x ∷ xs) [] few = refl
edits_cut a zero (x ∷ xs) (y ∷ ys) few = absurd (omega (arith, few))
edits_cut a (suc n) [] ys few = refl
edits_cut a (suc n) (x ∷ xs) [] few = refl
edits_cut a (suc n) (x ∷ xs) (y ∷ ys) few =
    ap (λ (es : List Edit). if x == y then es else record { place = a; old = x; new = y } ∷ es)
    (edits_cut (a + 1) n xs ys (omega (arith, few)))

-- ---- one place more

pub edits_next : (a n : ℕ) (xs ys : List ℕ) (x y : ℕ) → n < length xs → n < length ys → x ≡ get_or xs n 0
    → y ≡ get_or ys n 0
    → edits_from a (take (n + 1) xs) (take (n + 1) ys) ≡ edits_from a (take n xs) (take n ys) ++ edit_at (a + n) x y
edits_next a n xs ys x y inside within there_x there_y =
    ap (λ l. edits_from a l (take (n + 1) ys)) (take_more xs n 0 inside)
    ∙ ap (λ l. edits_from a (take n xs ++ get_or xs n 0 ∷ []) l) (take_more ys n 0 within)
    ∙ edits_one a (take n xs) (take n ys) (get_or xs n 0) (get_or ys n 0) (a + n)
    (length-take-le n xs (omega (arith, inside)) ∙ sym (length-take-le n ys (omega (arith, within))))
    (ap (λ k. a + k) (length-take-le n xs (omega (arith, inside))))
    ∙ ap (λ z. edits_from a (take n xs) (take n ys) ++ edit_at (a + n) z (get_or ys n 0)) (sym there_x)
    ∙ ap (λ z. edits_from a (take n xs) (take n ys) ++ edit_at (a + n) x z) (sym there_y)

-- of the values of two functions
pub edits_map : (f g : ℕ → ℕ) (n : ℕ)
    → edits_from 0 (map f (range_with_len 0 (n + 1))) (map g (range_with_len 0 (n + 1)))
    ≡ edits_from 0 (map f (range_with_len 0 n)) (map g (range_with_len 0 n)) ++ edit_at n (f n) (g n)
edits_map f g n =
    let here : 0 + n ≡ n = omega arith in
    ap (λ l. edits_from 0 l (map g (range_with_len 0 (n + 1)))) (map-range_with_len_more f 0 n n here)
    ∙ ap (λ l. edits_from 0 (map f (range_with_len 0 n) ++ f n ∷ []) l) (map-range_with_len_more g 0 n n here)
    ∙ edits_one 0 (map f (range_with_len 0 n)) (map g (range_with_len 0 n)) (f n) (g n) n
    (length-map-range_with_len f 0 n ∙ sym (length-map-range_with_len g 0 n))
    (let long = length-map-range_with_len f 0 n in omega (arith, long))

-- ---- bytes written over others

-- two lists that share a beginning and an end, between which are as many items
between : (p q xs ys : List ℕ) → length xs ≡ length ys
    → edits_from 0 (p ++ (xs ++ q)) (p ++ (ys ++ q)) ≡ edits_from (length p) xs ys
between p q xs ys same =
    edits_both 0 p p (xs ++ q) (ys ++ q) refl
    ∙ ap (λ n. edits_from 0 p p ++ edits_from n (xs ++ q) (ys ++ q)) (let here : 0 + length p ≡ length p = omega arith in here)
    ∙ ap (λ (l : List Edit). l ++ edits_from (length p) (xs ++ q) (ys ++ q)) (edits_same 0 p)
    ∙ edits_both (length p) xs ys q q same
    ∙ ap (λ (l : List Edit). edits_from (length p) xs ys ++ l) (edits_same (length p + length xs) q)
    ∙ append-nil (edits_from (length p) xs ys)

module _ (xs new : List ℕ) (at c : ℕ) (long : length new ≡ c) (fits : at + c ≤ length xs) where
  abbrev front : List ℕ
  front = take at xs

  abbrev mid : List ℕ
  mid = take c (drop at xs)

  abbrev back : List ℕ
  back = drop (at + length new) xs

  front_long : length front ≡ at
  front_long = length-take-le at xs (omega (arith, fits))

  mid_long : length mid ≡ c
  mid_long = length-take-le c (drop at xs) (let rest = length-drop at xs in omega (arith, fits, rest))

  whole : xs ≡ front ++ (mid ++ back)
  whole =
      sym (take-append-drop at xs)
      ∙ ap (λ l. front ++ l)
      (sym (take-append-drop c (drop at xs)) ∙ ap (λ l. mid ++ l) (drop-drop c at xs ∙ ap (λ n. drop (at + n) xs) (sym long)))

  written : overwritten xs at new ≡ front ++ (new ++ back)
  written = append_assoc front new back

  shown : take c (drop at (overwritten xs at new)) ≡ new
  shown =
      ap (λ l. take c (drop at l)) written
      ∙ ap (λ n. take c (drop n (front ++ (new ++ back)))) (sym front_long)
      ∙ ap (take c) (drop-append_seam front (new ++ back))
      ∙ ap (λ n. take n (new ++ back)) (sym long)
      ∙ take-append_seam new back

  pub edits_overwritten : edits_from 0 xs (overwritten xs at new)
      ≡ edits_from at (take c (drop at xs)) (take c (drop at (overwritten xs at new)))
  edits_overwritten =
      ap (λ l. edits_from 0 l (overwritten xs at new)) whole
      ∙ ap (λ l. edits_from 0 (front ++ (mid ++ back)) l) written
      ∙ between front back mid new (mid_long ∙ sym long)
      ∙ ap (λ n. edits_from n mid new) front_long
      ∙ ap (λ l. edits_from at mid l) (sym shown)
