-- Pages as they are read: those that are held, and those that the text fills.
use Rattle.std.proofs.Common.{◌≡◌, ℕ, zero, suc, ◌+◌, ◌-◌, ◌*◌, ◌/◌, ◌%◌, ◌<◌, ◌≤◌, List, [], ◌∷◌, ◌++◌, length, get_or, take, drop, replicate, refl, ap, sym, ◌∙◌, zero-add, arith, length-drop, take-add, append_assoc}
use Rattle.std.proofs.Math.ListN.{set}
use Rattle.std.proofs.lemmas.Bool.Decides.{nat_tests}
use Rattle.std.proofs.lemmas.List.{drop-drop, get_or-take, length-take-le, take-append-drop, take-take, drop-take}
use Rattle.std.proofs.Math.Seq.{take-append_seam}
use Rattle.std.specs.Prelude.{Option, Some, None, Bool, true, false, map, nat_le, ◌||◌, Result, Ok, Err, OnOk, OnErr}
use Rattle.rv_memory.specs.Held.{page_bytes, is_there, all_bytes, shown, shown_page, AreWhole, IsHeld}
use Rattle.rv_memory.specs.Memory.{value_at, overwritten, loaded_memory}
use Rattle.rv_memory.specs.Pages.{touches, written_from, written_pages}
use Rattle.rv_memory.proofs.Values.{value_at-same}
use Rattle.rv_memory.proofs.Marked.{written-above, touches-in}
use Rattle.rv_memory.proofs.Paged.{blank-length, all-length, held-put, all-none, there-none, overwritten-front, drop-zeros}

pub shown_page-full : (text : List ℕ) → 4096 ≤ length text → shown_page text None ≡ Some (take 4096 text)
shown_page-full text p =
    let e : nat_le 4096 (length text) ≡ true = grind (arith, nat_tests) in
    rw e refl

pub shown_page-short : (text : List ℕ) (page : Option (List ℕ)) → length text < 4096 → shown_page text page ≡ page
shown_page-short text (Some bytes) p = refl
shown_page-short text None p =
    let e : nat_le 4096 (length text) ≡ false = grind (arith, nat_tests) in
    rw e refl

pub shown-length : (text : List ℕ) (pages : List (Option (List ℕ))) → length (shown text pages) ≡ length pages
shown-length text [] = refl
shown-length text (q ∷ pages) = ap suc (shown-length (drop 4096 text) pages)

pub shown-all : (text : List ℕ) (pages : List (Option (List ℕ))) → AreWhole (shown text pages) → length (all_bytes (shown text pages)) ≡ 4096 * length pages
shown-all text pages whole = omega (arith, all-length (shown text pages) whole, shown-length text pages)

-- a memory's pages are as many as its slots
pub held-most : (text : List ℕ) (pages : List (Option (List ℕ))) → IsHeld text (shown text pages) → length pages ≤ 256
held-most text pages held = omega (arith, held.most, shown-length text pages)

later : (text : List ℕ) (p : ℕ) → drop (p * 4096) (drop 4096 text) ≡ drop (suc p * 4096) text
later text p =
    let e : 4096 + p * 4096 ≡ suc p * 4096 = omega arith in
    drop-drop (p * 4096) 4096 text ∙ ap (λ n. drop n text) e

pub shown-get : (text : List ℕ) (pages : List (Option (List ℕ))) (p : ℕ) → p < length pages
    → get_or (shown text pages) p None ≡ shown_page (drop (p * 4096) text) (get_or pages p None)
shown-get text [] p inside = absurd (omega (arith, inside))
shown-get text (q ∷ pages) zero inside = refl
shown-get text (q ∷ pages) (suc p) inside =
    shown-get (drop 4096 text) pages p (omega (arith, inside)) ∙ ap (λ rest. shown_page rest (get_or pages p None)) (later text p)

pub shown-set : (text : List ℕ) (pages : List (Option (List ℕ))) (p : ℕ) (y : Option (List ℕ))
    → shown text (set pages p y) ≡ set (shown text pages) p (shown_page (drop (p * 4096) text) y)
shown-set text [] p y = refl
shown-set text (q ∷ pages) zero y = refl
shown-set text (q ∷ pages) (suc p) y =
    ap (λ ps. shown_page text q ∷ ps) (shown-set (drop 4096 text) pages p y ∙ ap (λ rest. set (shown (drop 4096 text) pages) p (shown_page rest y)) (later text p))

-- a page that isn't wholly of text is as it is held
pub shown_page-behind : (text : List ℕ) (p : ℕ) (page : Option (List ℕ)) → length text < (p + 1) * 4096 → shown_page (drop (p * 4096) text) page ≡ page
shown_page-behind text p page behind =
    shown_page-short (drop (p * 4096) text) page (omega (arith, length-drop (p * 4096) text, behind))

-- a value in a page that the text fills is one of the text
pub value-text : (rest : List ℕ) (at n : ℕ) → 4096 ≤ length rest → at + n ≤ 4096 → value_at (page_bytes (shown_page rest None)) at n ≡ value_at rest at n
value-text rest at n full small =
    rw (shown_page-full rest full) (value_at-same (take 4096 rest) rest at at n (λ i p. get_or-take 4096 rest (at + i) 0 (omega (arith, p, small))))

-- so is a part of it
pub text-slice : (rest : List ℕ) (at n : ℕ) → 4096 ≤ length rest → at + n ≤ 4096 → take n (drop at (page_bytes (shown_page rest None))) ≡ take n (drop at rest)
text-slice rest at n full small =
    let e : 4096 ≡ at + (4096 - at) = omega (arith, small) in
    rw (shown_page-full rest full) (ap (λ m. take n (drop at (take m rest))) e ∙ ap (take n) (drop-take at (4096 - at) rest)
    ∙ take-take n (4096 - at) (drop at rest) (omega (arith, small)))

-- no page is of a text that is shorter than one
shown-short : (n : ℕ) (text : List ℕ) → length text < 4096 → shown text (replicate n None) ≡ replicate n None
shown-short zero text p = refl
shown-short (suc n) text p =
    rw (shown_page-short text None p) (ap (λ ps. None ∷ ps) (shown-short n (drop 4096 text) (omega (arith, p, length-drop 4096 text))))

whole-of : (n : ℕ) → AreWhole (replicate n None)
whole-of zero = tt
whole-of (suc n) = (blank-length, whole-of n)

pub shown-whole : (n k : ℕ) (text : List ℕ) → k * 4096 ≤ length text → length text < (k + 1) * 4096 → AreWhole (shown text (replicate n None))
shown-whole n zero text p q = rw (shown-short n text (omega (arith, q))) (whole-of n)
shown-whole zero (suc k) text p q = tt
shown-whole (suc n) (suc k) text p q =
    let full : 4096 ≤ length text = omega (arith, p) in
    let long : length (drop 4096 text) ≡ length text - 4096 = length-drop 4096 text in
    rw (shown_page-full text full) (length-take-le 4096 text full, shown-whole n k (drop 4096 text) (omega (arith, p, long, full)) (omega (arith, q, long, full)))

-- the bytes of pages of which the text fills k, and of which none is held
shown-bytes : (n k : ℕ) (text : List ℕ) → k * 4096 ≤ length text → length text < (k + 1) * 4096 → k ≤ n
    → all_bytes (shown text (replicate n None)) ≡ take (k * 4096) text ++ replicate (n * 4096 - k * 4096) 0
shown-bytes n zero text p q r =
    let e : n * 4096 - 0 ≡ n * 4096 = omega arith in
    rw (shown-short n text (omega (arith, q)), e) (all-none n)
shown-bytes zero (suc k) text p q r = absurd (omega (arith, r))
shown-bytes (suc n) (suc k) text p q r =
    let full : 4096 ≤ length text = omega (arith, p) in
    let long : length (drop 4096 text) ≡ length text - 4096 = length-drop 4096 text in
    let rest : all_bytes (shown (drop 4096 text) (replicate n None)) ≡ take (k * 4096) (drop 4096 text) ++ replicate (n * 4096 - k * 4096) 0 =
    shown-bytes n k (drop 4096 text) (omega (arith, p, long, full)) (omega (arith, q, long, full)) (omega (arith, r)) in
    let split : take (suc k * 4096) text ≡ take 4096 text ++ take (k * 4096) (drop 4096 text) =
    (let e : suc k * 4096 ≡ 4096 + k * 4096 = omega arith in ap (λ m. take m text) e ∙ take-add 4096 (k * 4096) text) in
    let zeros : suc n * 4096 - suc k * 4096 ≡ n * 4096 - k * 4096 = omega arith in
    rw (shown_page-full text full, rest, split, zeros) (sym (append_assoc (take 4096 text) (take (k * 4096) (drop 4096 text)) (replicate (n * 4096 - k * 4096) 0)))

or-true : (a : Bool) → (a || true) ≡ true
or-true true = refl
or-true false = refl

-- those k pages are there
shown-there : (j n k : ℕ) (text : List ℕ) → k * 4096 ≤ length text → length text < (k + 1) * 4096
    → map is_there (shown text (replicate n None)) ≡ written_from j (replicate n false) 0 ((j + k) * 4096)
shown-there j n zero text p q =
    let e : 0 + (j + 0) * 4096 ≤ j * 4096 = omega arith in
    rw (shown-short n text (omega (arith, q))) (there-none n ∙ sym (written-above j (replicate n false) 0 ((j + 0) * 4096) e))
shown-there j zero (suc k) text p q = refl
shown-there j (suc n) (suc k) text p q =
    let full : 4096 ≤ length text = omega (arith, p) in
    let long : length (drop 4096 text) ≡ length text - 4096 = length-drop 4096 text in
    let touched : touches 0 ((j + suc k) * 4096) j ≡ true = touches-in 0 ((j + suc k) * 4096) j (omega arith) (omega arith) (omega arith) in
    let e : (suc j + k) * 4096 ≡ (j + suc k) * 4096 = omega arith in
    let rest : map is_there (shown (drop 4096 text) (replicate n None)) ≡ written_from (suc j) (replicate n false) 0 ((j + suc k) * 4096) =
    shown-there (suc j) n k (drop 4096 text) (omega (arith, p, long, full)) (omega (arith, q, long, full)) ∙ ap (written_from (suc j) (replicate n false) 0) e in
    rw (shown_page-full text full, touched, rest) refl

touches-joined : (a b c p : ℕ) → (touches a b p || touches (a + b) c p) ≡ touches a (b + c) p
touches-joined a b c p = grind (arith, nat_tests)

or-assoc : (a b c : Bool) → ((a || b) || c) ≡ (a || (b || c))
or-assoc true b c = refl
or-assoc false b c = refl

-- bytes behind others, as one range
written-joined : (page : ℕ) (pages : List Bool) (a b c : ℕ) → written_from page (written_from page pages a b) (a + b) c ≡ written_from page pages a (b + c)
written-joined page [] a b c = refl
written-joined page (t ∷ pages) a b c =
    rw (or-assoc t (touches a b page) (touches (a + b) c page), touches-joined a b c page, written-joined (suc page) pages a b c) refl

-- the rest of the text, put behind the pages that it fills, gives what the text gives in pages that aren't there
pub loaded-bytes : (n : ℕ) (text : List ℕ) → length text ≤ n * 4096
    → overwritten (all_bytes (shown text (replicate n None))) (length text / 4096 * 4096) (drop (length text / 4096 * 4096) text)
    ≡ overwritten (all_bytes (replicate n None)) 0 text
loaded-bytes n text inside =
    let w : ℕ = length text / 4096 * 4096 in
    let rest : List ℕ = drop w text in
    let some : w ≤ length text = omega arith in
    let long : length rest ≡ length text - w = length-drop w text in
    let bytes : all_bytes (shown text (replicate n None)) ≡ take w text ++ replicate (n * 4096 - w) 0 =
    shown-bytes n (length text / 4096) text some (omega arith) (omega (arith, inside)) in
    let left : n * 4096 - w - length rest ≡ n * 4096 - length text = omega (arith, long, inside, some) in
    let front : overwritten (take w text ++ replicate (n * 4096 - w) 0) w rest ≡ take w text ++ (rest ++ drop (length rest) (replicate (n * 4096 - w) 0)) =
    overwritten-front (take w text) (replicate (n * 4096 - w) 0) rest w (length-take-le w text some) in
    let zeros : drop (length rest) (replicate (n * 4096 - w) 0) ≡ replicate {A = ℕ} (n * 4096 - length text) 0 =
    drop-zeros (length rest) (n * 4096 - w) ∙ ap (λ m. replicate {A = ℕ} m 0) left in
    let whole : take w text ++ (rest ++ replicate (n * 4096 - length text) 0) ≡ text ++ replicate (n * 4096 - length text) 0 =
    sym (append_assoc (take w text) rest (replicate (n * 4096 - length text) 0)) ∙ ap (λ xs. xs ++ replicate (n * 4096 - length text) 0) (take-append-drop w text) in
    let none : overwritten (replicate (n * 4096) 0) 0 text ≡ text ++ replicate {A = ℕ} (n * 4096 - length text) 0 =
    overwritten-front [] (replicate (n * 4096) 0) text 0 refl ∙ ap (λ zs. text ++ zs) (drop-zeros (length text) (n * 4096)) in
    ap (λ b. overwritten b w rest) bytes ∙ front ∙ ap (λ zs. take w text ++ (rest ++ zs)) zeros ∙ whole ∙ sym (ap (λ b. overwritten b 0 text) (all-none n) ∙ none)

pub loaded-there : (n : ℕ) (text : List ℕ) → length text ≤ n * 4096
    → written_pages (map is_there (shown text (replicate n None))) (length text / 4096 * 4096) (length (drop (length text / 4096 * 4096) text))
    ≡ written_pages (map is_there (replicate n None)) 0 (length text)
loaded-there n text inside =
    let k : ℕ = length text / 4096 in
    let there : map is_there (shown text (replicate n None)) ≡ written_from 0 (replicate n false) 0 (k * 4096) =
    shown-there 0 n k text (omega arith) (omega arith) ∙ ap (λ m. written_from 0 (replicate n false) 0 (m * 4096)) (zero-add k) in
    let joined : written_from 0 (written_from 0 (replicate n false) 0 (k * 4096)) (k * 4096) (length (drop (k * 4096) text)) ≡ written_from 0 (replicate n false) 0 (k * 4096 + length (drop (k * 4096) text)) =
    ap (λ m. written_from 0 (written_from 0 (replicate n false) 0 (k * 4096)) m (length (drop (k * 4096) text))) (sym (zero-add (k * 4096)))
    ∙ written-joined 0 (replicate n false) 0 (k * 4096) (length (drop (k * 4096) text)) in
    let sum : k * 4096 + length (drop (k * 4096) text) ≡ length text = omega (arith, length-drop (k * 4096) text) in
    ap (λ ts. written_pages ts (k * 4096) (length (drop (k * 4096) text))) there
    ∙ joined ∙ ap (written_from 0 (replicate n false) 0) sum ∙ ap (λ ts. written_pages ts 0 (length text)) (sym (there-none n))

-- pages of the same bytes
pub held-same : (text : List ℕ) (old new : List (Option (List ℕ))) → IsHeld text (shown text old) → AreWhole (shown text new) → length new ≡ length old
    → all_bytes (shown text new) ≡ all_bytes (shown text old) → IsHeld text (shown text new)
held-same text old new held whole long same = record {
  whole = whole;
  least = omega (arith, held.least, long, shown-length text old, shown-length text new);
  most = omega (arith, held.most, long, shown-length text old, shown-length text new);
  text_inside = omega (arith, held.text_inside, long, shown-length text old, shown-length text new);
  text_first = held.text_first ∙ ap (take (length text)) (sym same);
}

-- pages that bytes behind the text were written into, or not
pub held-written : {A E : Type 0} (r : Result A E) (text : List ℕ) (old new : List (Option (List ℕ))) (at : ℕ) (bytes : List ℕ) → IsHeld text (shown text old)
    → length text ≤ at → at ≤ 4096 * length old → OnOk r (AreWhole (shown text new)) → OnOk r (length new ≡ length old)
    → OnOk r (all_bytes (shown text new) ≡ overwritten (all_bytes (shown text old)) at bytes) → OnErr r (new ≡ old) → IsHeld text (shown text new)
held-written (Ok x) text old new at bytes held behind inside whole long put same =
    held-put text (shown text old) (shown text new) at bytes held whole (shown-length text new ∙ long ∙ sym (shown-length text old)) behind
    (omega (arith, inside, shown-all text old held.whole)) put
held-written (Err x) text old new at bytes held behind inside whole long put same = rw same held

front : (a b c d : List ℕ) → take (length a) (a ++ b ++ c ++ d) ≡ a
front a b c d = rw (append_assoc (a ++ b) c d, append_assoc a b (c ++ d)) (take-append_seam a (b ++ (c ++ d)))

-- pages that are loaded
pub held-loaded : (size : ℕ) (text init : List ℕ) (pages : List (Option (List ℕ))) → 4096 ≤ size → size ≤ 1048576 → length text ≤ size → size % 4096 ≡ 0
    → AreWhole (shown text pages) → length pages ≡ size / 4096 → all_bytes (shown text pages) ≡ (loaded_memory size text init).bytes → IsHeld text (shown text pages)
held-loaded size text init pages least most inside multiple whole long bytes = record {
  whole = whole;
  least = omega (arith, least, long, shown-length text pages);
  most = omega (arith, most, long, shown-length text pages);
  text_inside = omega (arith, inside, multiple, long, shown-length text pages);
  text_first = sym (ap (take (length text)) bytes ∙ front text _ init _);
}
