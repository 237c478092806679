-- The bytes of pages, page by page.
use Rattle.std.proofs.Common.{◌≡◌, ℕ, zero, suc, ◌+◌, ◌-◌, ◌*◌, ◌/◌, ◌%◌, ◌<◌, ◌≤◌, List, [], ◌∷◌, ◌++◌, length, get_or, take, drop, replicate, refl, ap, sym, ◌∙◌, zero-add, add-zero, arith, append_assoc, length-append, length-drop, length-take}
use Rattle.std.proofs.Math.ListN.{set}
use Rattle.std.proofs.Math.Nat.{pow-suc}
use Rattle.std.specs.Prelude.{◌^◌}
use Rattle.std.proofs.Math.Seq.{take-append-add, drop-append-add}
use Rattle.std.proofs.lemmas.Grind.{common_steps}
use Rattle.std.proofs.lemmas.List.{replicate-append-replicate, length-replicate, get_or_append_left, get_or-append-add, take-append-le, drop-append-le, length-set, map-set, length-map, take-take}
use Rattle.std.proofs.lemmas.Bool.Decides.{nat_tests}
use Rattle.std.specs.Prelude.{Option, Some, None, Bool, true, false, map, MatchOption, IsSome, nat_le, nat_lt}
use Rattle.std.specs.Option.{option_to_list}
use Rattle.std.proofs.Common.{rules, take-add}
use Rattle.std.proofs.lemmas.List.{length-take-le, drop-drop}
use Rattle.rv_memory.specs.Held.{blank_page, page_bytes, is_there, all_bytes, AreWhole, AreBlank, IsHeld}
use Rattle.rv_memory.specs.Memory.{value_at, bytes_of, overwritten, init_start, loaded_memory, loaded_pages}
use Rattle.rv_memory.specs.Pages.{written_from, written_pages}
use Rattle.rv_memory.specs.Access.{stored}
use Rattle.rv_memory.specs.declared.fault.StoreFault.{StoreFault}
use Rattle.std.specs.Prelude.{Result, Ok, Err, OnOk, OnErr}
use Rattle.std.proofs.lemmas.List.{set-get_or}
use Rattle.rv_memory.proofs.Marked.{stored-pages, written-one, bytes_low_first-length}
use Rattle.rv_memory.specs.Access.{size_of}
use Rattle.rv_memory.specs.declared.memory.Width.{Width}
use Rattle.rv_memory.specs.declared.memory.Width.TheVariants.{Byte, Half, Word, Double}
use Rattle.rv_memory.proofs.Values.{value_at-same, value_at-zeros, get_or-zeros}

pub blank-length : length blank_page ≡ 4096
unfolding blank_page
blank-length = length-replicate {A = ℕ} 4096 0

pub blank-get : (i : ℕ) → get_or blank_page i 0 ≡ 0
unfolding blank_page
blank-get i = get_or-zeros 4096 i

pub whole-get : (pages : List (Option (List ℕ))) (p : ℕ) → AreWhole pages → length (page_bytes (get_or pages p None)) ≡ 4096
whole-get [] p w = blank-length
whole-get (q ∷ pages) zero w = w.0
whole-get (q ∷ pages) (suc p) w = whole-get pages p w.1

pub whole-set : (pages : List (Option (List ℕ))) (p : ℕ) (y : Option (List ℕ)) → AreWhole pages → length (page_bytes y) ≡ 4096 → AreWhole (set pages p y)
whole-set [] p y w e = tt
whole-set (q ∷ pages) zero y w e = (e, w.1)
whole-set (q ∷ pages) (suc p) y w e = (w.0, whole-set pages p y w.1 e)

pub all-length : (pages : List (Option (List ℕ))) → AreWhole pages → length (all_bytes pages) ≡ 4096 * length pages
all-length [] w = refl
all-length (q ∷ pages) w = omega (arith, length-append (page_bytes q) (all_bytes pages), w.0, all-length pages w.1)

pub all-get : (pages : List (Option (List ℕ))) (p j : ℕ) → AreWhole pages → p < length pages → j < 4096
    → get_or (all_bytes pages) (p * 4096 + j) 0 ≡ get_or (page_bytes (get_or pages p None)) j 0
all-get [] p j w inside small = absurd (omega (arith, inside))
all-get (q ∷ pages) zero j w inside small =
    let e : 0 * 4096 + j ≡ j = omega arith in
    rw e (get_or_append_left (page_bytes q) (all_bytes pages) 0 j (omega (arith, w.0)))
all-get (q ∷ pages) (suc p) j w inside small =
    let e : suc p * 4096 + j ≡ length (page_bytes q) + (p * 4096 + j) = omega (arith, w.0) in
    rw e (get_or-append-add (page_bytes q) (all_bytes pages) (p * 4096 + j) 0 ∙ all-get pages p j w.1 (omega (arith, inside)) small)

pub value-all : (pages : List (Option (List ℕ))) (a n : ℕ) → AreWhole pages → a / 4096 < length pages → a % 4096 + n ≤ 4096
    → value_at (page_bytes (get_or pages (a / 4096) None)) (a % 4096) n ≡ value_at (all_bytes pages) a n
value-all pages a n w inside small =
    value_at-same (page_bytes (get_or pages (a / 4096) None)) (all_bytes pages) (a % 4096) a n
    (λ i p. let e : a + i ≡ a / 4096 * 4096 + (a % 4096 + i) = omega arith in
    rw e (sym (all-get pages (a / 4096) (a % 4096 + i) w inside (omega (arith, p, small)))))

pub value-blank : (at n : ℕ) → value_at blank_page at n ≡ 0
value-blank at n =
    let e : 0 + n ≡ n = zero-add n in
    ap (value_at blank_page at) (sym e) ∙ value_at-zeros blank_page at 0 n (λ i p. blank-get (at + i))

overwritten-left : (xs ys new : List ℕ) (at : ℕ) → at + length new ≤ length xs → overwritten (xs ++ ys) at new ≡ overwritten xs at new ++ ys
overwritten-left xs ys new at p =
    let t : take at (xs ++ ys) ≡ take at xs = take-append-le at xs ys (omega (arith, p)) in
    let d : drop (at + length new) (xs ++ ys) ≡ drop (at + length new) xs ++ ys = drop-append-le (at + length new) xs ys p in
    rw (t, d) (grind (arith, common_steps, append_assoc))

overwritten-right : (xs ys new : List ℕ) (n at : ℕ) → length xs ≡ n → overwritten (xs ++ ys) (n + at) new ≡ xs ++ overwritten ys at new
overwritten-right xs ys new n at e =
    let t : take (n + at) (xs ++ ys) ≡ xs ++ take at ys = rw (sym e) (take-append-add xs ys at) in
    let f : n + at + length new ≡ n + (at + length new) = omega arith in
    let d : drop (n + at + length new) (xs ++ ys) ≡ drop (at + length new) ys = rw (f, sym e) (drop-append-add xs ys (at + length new)) in
    rw (t, d) (grind (arith, common_steps, append_assoc))

-- other bytes in one page
pub all-put : (pages : List (Option (List ℕ))) (p at : ℕ) (new : List ℕ) (y : Option (List ℕ)) → AreWhole pages → p < length pages → at + length new ≤ 4096
    → page_bytes y ≡ overwritten (page_bytes (get_or pages p None)) at new → all_bytes (set pages p y) ≡ overwritten (all_bytes pages) (p * 4096 + at) new
all-put [] p at new y w inside small e = absurd (omega (arith, inside))
all-put (q ∷ pages) zero at new y w inside small e =
    let z : 0 * 4096 + at ≡ at = omega arith in
    rw z (ap (λ b. b ++ all_bytes pages) e ∙ sym (overwritten-left (page_bytes q) (all_bytes pages) new at (omega (arith, small, w.0))))
all-put (q ∷ pages) (suc p) at new y w inside small e =
    let z : suc p * 4096 + at ≡ 4096 + (p * 4096 + at) = omega arith in
    rw z (ap (λ b. page_bytes q ++ b) (all-put pages p at new y w.1 (omega (arith, inside)) small e) ∙ sym (overwritten-right (page_bytes q) (all_bytes pages) new 4096 (p * 4096 + at) w.0))

-- a page of the same bytes in the place of another
pub all-same : (pages : List (Option (List ℕ))) (p : ℕ) (y : Option (List ℕ)) → page_bytes y ≡ page_bytes (get_or pages p None) → all_bytes (set pages p y) ≡ all_bytes pages
all-same [] p y e = refl
all-same (q ∷ pages) zero y e = ap (λ b. b ++ all_bytes pages) e
all-same (q ∷ pages) (suc p) y e = ap (λ b. page_bytes q ++ b) (all-same pages p y e)

-- a part of one page
pub all-slice : (pages : List (Option (List ℕ))) (p at n : ℕ) → AreWhole pages → p < length pages → at + n ≤ 4096
    → take n (drop (p * 4096 + at) (all_bytes pages)) ≡ take n (drop at (page_bytes (get_or pages p None)))
all-slice [] p at n w inside small = absurd (omega (arith, inside))
all-slice (q ∷ pages) zero at n w inside small =
    let z : 0 * 4096 + at ≡ at = omega arith in
    let d : drop at (page_bytes q ++ all_bytes pages) ≡ drop at (page_bytes q) ++ all_bytes pages = drop-append-le at (page_bytes q) (all_bytes pages) (omega (arith, small, w.0)) in
    let long : length (drop at (page_bytes q)) ≡ 4096 - at = rw (length-drop at (page_bytes q), w.0) refl in
    rw (z, d) (take-append-le n (drop at (page_bytes q)) (all_bytes pages) (omega (arith, long, small)))
all-slice (q ∷ pages) (suc p) at n w inside small =
    let z : suc p * 4096 + at ≡ length (page_bytes q) + (p * 4096 + at) = omega (arith, w.0) in
    rw (z, drop-append-add (page_bytes q) (all_bytes pages) (p * 4096 + at)) (all-slice pages p at n w.1 (omega (arith, inside)) small)

pub there-get : (pages : List (Option (List ℕ))) (p : ℕ) → get_or (map is_there pages) p false ≡ is_there (get_or pages p None)
there-get [] p = refl
there-get (q ∷ pages) zero = refl
there-get (q ∷ pages) (suc p) = there-get pages p

-- bytes of the front stay where others are put behind them
pub take-overwritten : (xs new : List ℕ) (at n : ℕ) → n ≤ at → at ≤ length xs → take n (overwritten xs at new) ≡ take n xs
take-overwritten xs new at n p q =
    let long : n ≤ length (take at xs) = omega (arith, length-take at xs, p, q) in
    grind (arith, common_steps, take-append-le, take-take, long)

pub held-put : (text : List ℕ) (pages pages' : List (Option (List ℕ))) (at : ℕ) (new : List ℕ) → IsHeld text pages → AreWhole pages' → length pages' ≡ length pages
    → length text ≤ at → at ≤ length (all_bytes pages) → all_bytes pages' ≡ overwritten (all_bytes pages) at new → IsHeld text pages'
held-put text pages pages' at new held whole same p q e = record {
  whole = whole;
  least = omega (arith, held.least, same);
  most = omega (arith, held.most, same);
  text_inside = omega (arith, held.text_inside, same);
  text_first = held.text_first ∙ sym (rw e (take-overwritten (all_bytes pages) new at (length text) p q));
}

pub drop-zeros : (at m : ℕ) → drop at (replicate m 0) ≡ replicate {A = ℕ} (m - at) 0
drop-zeros zero m = let e : m - 0 ≡ m = omega arith in rw e refl
drop-zeros (suc at) zero = let e : 0 - suc at ≡ 0 = omega arith in rw e refl
drop-zeros (suc at) (suc m) = let e : suc m - suc at ≡ m - at = omega arith in rw e (drop-zeros at m)

pub take-zeros : (n m : ℕ) → n ≤ m → take n (replicate m 0) ≡ replicate {A = ℕ} n 0
take-zeros zero m p = refl
take-zeros (suc n) zero p = absurd (omega (arith, p))
take-zeros (suc n) (suc m) p = ap (λ xs. 0 ∷ xs) (take-zeros n m (omega (arith, p)))

pub blank-slice : (at n : ℕ) → at + n ≤ 4096 → take n (drop at blank_page) ≡ replicate {A = ℕ} n 0
unfolding blank_page
blank-slice at n p = rw (drop-zeros at 4096) (take-zeros n (4096 - at) (omega (arith, p)))

pub in_page : (width : Width) (a : ℕ) → a % size_of width ≡ 0 → a % 4096 + size_of width ≤ 4096
in_page Byte a e = omega arith
in_page Half a e = omega (arith, e)
in_page Word a e = omega (arith, e)
in_page Double a e = omega (arith, e)

pub size-some : (width : Width) → 0 < size_of width
size-some Byte = omega arith
size-some Half = omega arith
size-some Word = omega arith
size-some Double = omega arith

pub size-most : (width : Width) → size_of width ≤ 8
size-most Byte = omega arith
size-most Half = omega arith
size-most Word = omega arith
size-most Double = omega arith

pub below-power : (n : ℕ) → 0 < 256 ^ n
below-power zero = omega arith
below-power (suc n) = omega (arith, pow-suc 256 n, below-power n)

-- an aligned value stands in one page, so it is inside where this is one of the memory's
pub inside-by-page : (pages : List (Option (List ℕ))) (width : Width) (a : ℕ) → AreWhole pages → a % size_of width ≡ 0
    → nat_lt (a / 4096) (length pages) ≡ nat_le (a + size_of width) (length (all_bytes pages))
inside-by-page pages width a whole aligned =
    let long : length (all_bytes pages) ≡ 4096 * length pages = all-length pages whole in
    let some : 0 < size_of width = size-some width in
    let small : a % 4096 + size_of width ≤ 4096 = in_page width a aligned in
    grind (arith, nat_tests, long, some, small)

-- a page of the memory is one of its list
pub page-listed : (pages : List (Option (List ℕ))) (marks : List Bool) (p : ℕ) → map is_there pages ≡ marks → p < length marks → p < length pages
page-listed pages marks p same inside = omega (arith, ap length same, length-map pages is_there, inside)

pub blank-push : (pages : List (List ℕ)) (page : List ℕ) → AreBlank pages → page ≡ blank_page → AreBlank (pages ++ page ∷ [])
blank-push [] page b e = (e, tt)
blank-push (q ∷ pages) page b e = (b.0, blank-push pages page b.1 e)

pub blank-take : (n : ℕ) (pages : List (List ℕ)) → AreBlank pages → AreBlank (take n pages)
blank-take zero pages b = tt
blank-take (suc n) [] b = tt
blank-take (suc n) (q ∷ pages) b = (b.0, blank-take n pages b.1)

pub blank-item : (pages : List (List ℕ)) (i : ℕ) (d : List ℕ) → AreBlank pages → i < length pages → get_or pages i d ≡ blank_page
blank-item [] i d b p = absurd (omega (arith, p))
blank-item (q ∷ pages) zero d b p = b.0
blank-item (q ∷ pages) (suc i) d b p = blank-item pages i d b.1 (omega (arith, p))

pub replicate-more : (n : ℕ) (x : Option (List ℕ)) → replicate n x ++ x ∷ [] ≡ replicate (n + 1) x
replicate-more n x = replicate-append-replicate n 1 x

blank-last : (pages : List (List ℕ)) (page : List ℕ) → AreBlank (pages ++ page ∷ []) → page ≡ blank_page
blank-last [] page b = b.0
blank-last (q ∷ pages) page b = blank-last pages page b.1

-- the last of the spare pages
pub taken : (result : Option (List ℕ)) (old new : List (List ℕ)) (n : ℕ) → n ≡ length old → AreBlank old → old ≡ new ++ option_to_list result
    → (¬ (IsSome result) → length old ≡ 0) → MatchOption result (n ≡ 0) (λ page. (page ≡ blank_page) × (length new + 1 ≡ n))
taken None old new n e b is none = e ∙ none (λ x. search rules)
taken (Some page) old new n e b is none =
    (blank-last new page (rw is at b), sym (rw (e, is) (length-append new (page ∷ []))))

-- bytes behind others
pub overwritten-front : (front rest new : List ℕ) (n : ℕ) → length front ≡ n → overwritten (front ++ rest) n new ≡ front ++ (new ++ drop (length new) rest)
overwritten-front front rest new n e =
    let z : n + 0 ≡ n = add-zero n in
    let o : 0 + length new ≡ length new = zero-add (length new) in
    ap (λ m. overwritten (front ++ rest) m new) (sym z) ∙ overwritten-right front rest new n 0 e ∙ rw o refl

pub overwritten-more : (xs new : List ℕ) (a d e : ℕ) → d ≤ e → e ≤ length new → a + d ≤ length xs
    → overwritten (overwritten xs a (take d new)) (a + d) (take (e - d) (drop d new)) ≡ overwritten xs a (take e new)
overwritten-more xs new a d e p q r =
    let some : length (take d new) ≡ d = length-take-le d new (omega (arith, p, q)) in
    let rest : length (take (e - d) (drop d new)) ≡ e - d = length-take-le (e - d) (drop d new) (omega (arith, p, q, length-drop d new)) in
    let all : length (take e new) ≡ e = length-take-le e new q in
    let front : length (take a xs ++ take d new) ≡ a + d = omega (arith, length-append (take a xs) (take d new), length-take-le a xs (omega (arith, r)), some) in
    let whole : e ≡ d + (e - d) = omega (arith, p) in
    let split : take e new ≡ take d new ++ take (e - d) (drop d new) = ap (λ n. take n new) whole ∙ take-add d (e - d) new in
    let far : a + e ≡ a + d + (e - d) = omega (arith, p) in
    let step : overwritten (take a xs ++ take d new ++ drop (a + d) xs) (a + d) (take (e - d) (drop d new))
    ≡ take a xs ++ take d new ++ (take (e - d) (drop d new) ++ drop (a + e) xs) =
    overwritten-front (take a xs ++ take d new) (drop (a + d) xs) (take (e - d) (drop d new)) (a + d) front
    ∙ rw (rest, far, drop-drop (e - d) (a + d) xs) refl in
    rw (some, all) (step ∙ rw split (grind (arith, common_steps, append_assoc)))

-- bytes that are copied behind others
pub copied-more : (source out : List ℕ) (d e : ℕ) → d ≤ e → e ≤ length source → e ≤ length out
    → overwritten (take d source ++ drop d out) d (take (e - d) (drop d source)) ≡ take e source ++ drop e out
copied-more source out d e p q r =
    let front : length (take d source) ≡ d = length-take-le d source (omega (arith, p, q)) in
    let rest : length (take (e - d) (drop d source)) ≡ e - d = length-take-le (e - d) (drop d source) (omega (arith, p, q, length-drop d source)) in
    let there : d + (e - d) ≡ e = omega (arith, p) in
    let split : take e source ≡ take d source ++ take (e - d) (drop d source) = ap (λ n. take n source) (sym there) ∙ take-add d (e - d) source in
    overwritten-front (take d source) (drop d out) (take (e - d) (drop d source)) d front
    ∙ rw (rest, drop-drop (e - d) d out, there, split) (grind (arith, common_steps, append_assoc))

pub whole-none : (n : ℕ) → AreWhole (replicate n None)
whole-none zero = tt
whole-none (suc n) = (blank-length, whole-none n)

pub all-none : (n : ℕ) → all_bytes (replicate n None) ≡ replicate {A = ℕ} (n * 4096) 0
unfolding blank_page
all-none zero = refl
all-none (suc n) =
    let e : suc n * 4096 ≡ 4096 + n * 4096 = omega arith in
    rw e (ap (λ b. replicate {A = ℕ} 4096 0 ++ b) (all-none n) ∙ replicate-append-replicate {A = ℕ} 4096 (n * 4096) 0)

pub there-none : (n : ℕ) → map is_there (replicate n None) ≡ replicate n false
there-none zero = refl
there-none (suc n) = ap (λ ts. false ∷ ts) (there-none n)

loaded-zeros : (size start : ℕ) (text init : List ℕ) → length text ≤ start → start + length init ≤ size
    → overwritten (overwritten (replicate size 0) 0 text) start init
    ≡ text ++ replicate (start - length text) 0 ++ init ++ replicate (size - (start + length init)) 0
loaded-zeros size start text init p q =
    let z : 0 + length text ≡ length text = zero-add (length text) in
    let first : overwritten (replicate size 0) 0 text ≡ text ++ replicate {A = ℕ} (size - length text) 0 =
    rw (z, drop-zeros (length text) size) refl in
    let s : start ≡ length text + (start - length text) = omega (arith, p) in
    let front : take start (text ++ replicate {A = ℕ} (size - length text) 0) ≡ text ++ replicate (start - length text) 0 =
    ap (λ n. take n (text ++ replicate {A = ℕ} (size - length text) 0)) s
    ∙ take-append-add text (replicate (size - length text) 0) (start - length text)
    ∙ rw (take-zeros (start - length text) (size - length text) (omega (arith, p, q))) refl in
    let t : start + length init ≡ length text + (start - length text + length init) = omega (arith, p) in
    let u : size - length text - (start - length text + length init) ≡ size - (start + length init) = omega (arith, p, q) in
    let back : drop (start + length init) (text ++ replicate {A = ℕ} (size - length text) 0) ≡ replicate (size - (start + length init)) 0 =
    ap (λ n. drop n (text ++ replicate {A = ℕ} (size - length text) 0)) t
    ∙ drop-append-add text (replicate (size - length text) 0) (start - length text + length init)
    ∙ drop-zeros (start - length text + length init) (size - length text) ∙ ap (λ n. replicate {A = ℕ} n 0) u in
    rw (first, front, back) refl

pub loaded-view : (size : ℕ) (text init : List ℕ) (one two : List (Option (List ℕ))) → size % 4096 ≡ 0 → init_start text + length init ≤ size
    → all_bytes one ≡ overwritten (all_bytes (replicate (size / 4096) None)) 0 text
    → map is_there one ≡ written_pages (map is_there (replicate (size / 4096) None)) 0 (length text)
    → all_bytes two ≡ overwritten (all_bytes one) (init_start text) init
    → map is_there two ≡ written_pages (map is_there one) (init_start text) (length init)
    → (record { bytes = all_bytes two; text = length text; pages = map is_there two }) ≡ loaded_memory size text init
loaded-view size text init one two whole room a b c d =
    let e : size / 4096 * 4096 ≡ size = omega (arith, whole) in
    let bytes : all_bytes two ≡ text ++ replicate (init_start text - length text) 0 ++ init ++ replicate (size - (init_start text + length init)) 0 =
    c ∙ rw (a, all-none (size / 4096), e) (loaded-zeros size (init_start text) text init (omega arith) room) in
    let pages : map is_there two ≡ loaded_pages size text init = d ∙ rw (b, there-none (size / 4096)) refl in
    rw (bytes, pages) refl

on_ok : {A E : Type 0} (r : Result A E) {P Q R : Type 0} → (P → Q → R) → OnOk r P → OnOk r Q → OnOk r R
on_ok (Ok x) f p q = f p q
on_ok (Err x) f p q = search rules

-- a store in one page
pub stored-view : (r : Result (Unit {0}) StoreFault) (text : ℕ) (pages : List (Option (List ℕ))) (a size v : ℕ) (page y : Option (List ℕ))
    → AreWhole pages → a / 4096 < length pages → a % 4096 + size ≤ 4096 → 0 < size → page ≡ get_or pages (a / 4096) None
    → OnOk r (page_bytes y ≡ overwritten (page_bytes page) (a % 4096) (bytes_of v size)) → OnOk r (is_there y ≡ true)
    → OnOk r ((record { bytes = all_bytes (set pages (a / 4096) y); text = text; pages = map is_there (set pages (a / 4096) y) })
    ≡ stored (record { bytes = all_bytes pages; text = text; pages = map is_there pages }) a size v)
stored-view r text pages a size v page y w inside small some is put there = on_ok r
    (λ p t.
    let e : a / 4096 * 4096 + a % 4096 ≡ a = omega arith in
    let n : length (bytes_of v size) ≡ size = bytes_low_first-length 0 size v in
    let bytes : all_bytes (set pages (a / 4096) y) ≡ overwritten (all_bytes pages) a (bytes_of v size) =
    all-put pages (a / 4096) (a % 4096) (bytes_of v size) y w inside (omega (arith, n, small)) (p ∙ ap (λ q. overwritten (page_bytes q) (a % 4096) (bytes_of v size)) is)
    ∙ ap (λ m. overwritten (all_bytes pages) m (bytes_of v size)) e in
    let made : map is_there (set pages (a / 4096) y) ≡ written_from 0 (map is_there pages) a size =
    map-set is_there pages (a / 4096) y ∙ ap (set (map is_there pages) (a / 4096)) t
    ∙ sym (written-one 0 (a / 4096) (map is_there pages) a size (omega (arith, inside, length-map pages is_there)) some (omega arith) (omega (arith, small))) in
    rw (bytes, made) (sym (stored-pages _ a size v)))
    put there

pub stored-held : (r : Result (Unit {0}) StoreFault) (text : List ℕ) (pages : List (Option (List ℕ))) (a size v : ℕ) (page y : Option (List ℕ))
    → IsHeld text pages → a / 4096 < length pages → a % 4096 + size ≤ 4096 → length text ≤ a → page ≡ get_or pages (a / 4096) None
    → OnOk r (page_bytes y ≡ overwritten (page_bytes page) (a % 4096) (bytes_of v size)) → OnOk r (length (page_bytes y) ≡ 4096) → OnErr r (y ≡ page)
    → IsHeld text (set pages (a / 4096) y)
stored-held (Ok x) text pages a size v page y held inside small behind is put long same =
    let e : a / 4096 * 4096 + a % 4096 ≡ a = omega arith in
    let n : length (bytes_of v size) ≡ size = bytes_low_first-length 0 size v in
    held-put text pages (set pages (a / 4096) y) a (bytes_of v size) held (whole-set pages (a / 4096) y held.whole long) (length-set pages (a / 4096) y) behind
    (omega (arith, all-length pages held.whole, inside))
    (all-put pages (a / 4096) (a % 4096) (bytes_of v size) y held.whole inside (omega (arith, n, small)) (put ∙ ap (λ q. overwritten (page_bytes q) (a % 4096) (bytes_of v size)) is)
    ∙ ap (λ m. overwritten (all_bytes pages) m (bytes_of v size)) e)
stored-held (Err x) text pages a size v page y held inside small behind is put long same =
    let e : set pages (a / 4096) y ≡ pages = ap (set pages (a / 4096)) (same ∙ is) ∙ set-get_or pages (a / 4096) None in
    rw e held
