-- Memories that are the same: those of the same text, with the same in all slots but those that the text fills.
use Rattle.std.proofs.Common.{◌≡◌, ℕ, zero, suc, ◌+◌, ◌-◌, ◌*◌, ◌/◌, ◌<◌, ◌≤◌, List, [], ◌∷◌, ◌++◌, length, take, drop, refl, ap, sym, ◌∙◌, arith, length-drop}
use Rattle.std.proofs.Math.Seq.{take-append_seam, drop-append_seam}
use Rattle.std.proofs.lemmas.List.{take-take, drop-take}
use Rattle.std.specs.Prelude.{Option, Some, None, map}
use Rattle.rv_memory.specs.Held.{page_bytes, is_there, all_bytes, shown, shown_page, AreWhole, IsHeld}
use Rattle.rv_memory.specs.Memory.{Memory}
use Rattle.rv_memory.proofs.Shown.{shown_page-full, shown_page-short, shown-length}

-- a memory of this text, with these slots
abbrev pub memory_of : List ℕ → List (Option (List ℕ)) → Memory
memory_of text slots = record {
  bytes = all_bytes (shown text slots);
  text = length text;
  pages = map is_there (shown text slots);
}

front : (n : ℕ) (xs ys : List ℕ) → length xs ≡ n → take n (xs ++ ys) ≡ xs
front n xs ys e = ap (λ m. take m (xs ++ ys)) (sym e) ∙ take-append_seam xs ys

back : (n : ℕ) (xs ys : List ℕ) → length xs ≡ n → drop n (xs ++ ys) ≡ ys
back n xs ys e = ap (λ m. drop m (xs ++ ys)) (sym e) ∙ drop-append_seam xs ys

same-page : (p q : Option (List ℕ)) → page_bytes p ≡ page_bytes q → is_there p ≡ is_there q → p ≡ q
same-page None None b t = refl
same-page None (Some y) b t = absurd (cc)
same-page (Some x) None b t = absurd (cc)
same-page (Some x) (Some y) b t = ap (λ v. Some v) b

-- whole pages are told by their bytes, and by which of them are there
same-pages : (ps qs : List (Option (List ℕ))) → AreWhole ps → AreWhole qs → all_bytes ps ≡ all_bytes qs → map is_there ps ≡ map is_there qs → ps ≡ qs
same-pages [] [] v w b t = refl
same-pages [] (q ∷ qs) v w b t = absurd (cc)
same-pages (p ∷ ps) [] v w b t = absurd (cc)
same-pages (p ∷ ps) (q ∷ qs) v w b t =
    let bytes : page_bytes p ≡ page_bytes q = sym (front 4096 (page_bytes p) (all_bytes ps) v.0) ∙ ap (take 4096) b ∙ front 4096 (page_bytes q) (all_bytes qs) w.0 in
    let rest : all_bytes ps ≡ all_bytes qs = sym (back 4096 (page_bytes p) (all_bytes ps) v.0) ∙ ap (drop 4096) b ∙ back 4096 (page_bytes q) (all_bytes qs) w.0 in
    let there : is_there p ≡ is_there q = cc in
    let those : map is_there ps ≡ map is_there qs = cc in
    let same : p ≡ q = same-page p q bytes there in
    let others : ps ≡ qs = same-pages ps qs v.1 w.1 rest those in
    cc

shown-below : (text : List ℕ) (slots : List (Option (List ℕ))) → length text < 4096 → shown text slots ≡ slots
shown-below text [] p = refl
shown-below text (q ∷ slots) p =
    rw (shown_page-short text q p) (ap (λ ps. q ∷ ps) (shown-below (drop 4096 text) slots (omega (arith, p, length-drop 4096 text))))

-- a page that the text fills shows it
full-page : (text : List ℕ) (p : Option (List ℕ)) (rest : List ℕ) → 4096 ≤ length text → length (page_bytes (shown_page text p)) ≡ 4096
    → text ≡ take (length text) (page_bytes (shown_page text p) ++ rest) → shown_page text p ≡ Some (take 4096 text)
full-page text None rest full long first = shown_page-full text full
full-page text (Some bytes) rest full long first =
    ap (λ v. Some v) (sym (ap (take 4096) first ∙ take-take 4096 (length text) (bytes ++ rest) full ∙ front 4096 bytes rest long))

text-rest : (text page rest : List ℕ) → 4096 ≤ length text → length page ≡ 4096 → text ≡ take (length text) (page ++ rest)
    → drop 4096 text ≡ take (length (drop 4096 text)) rest
text-rest text page rest full long first =
    let n : ℕ = length text - 4096 in
    let e : length text ≡ 4096 + n = omega (arith, full) in
    ap (drop 4096) first ∙ ap (λ m. drop 4096 (take m (page ++ rest))) e ∙ drop-take 4096 n (page ++ rest) ∙ ap (take n) (back 4096 page rest long)
    ∙ ap (λ m. take m rest) (sym (length-drop 4096 text))

-- slots that show the text in their first bytes
record Shows (text : List ℕ) (slots : List (Option (List ℕ))) : Type 0 where
  whole : AreWhole (shown text slots)
  inside : length text ≤ 4096 * length slots
  first : text ≡ take (length text) (all_bytes (shown text slots))

shows-rest : (text : List ℕ) (p : Option (List ℕ)) (slots : List (Option (List ℕ))) → 4096 ≤ length text → Shows text (p ∷ slots) → Shows (drop 4096 text) slots
shows-rest text p slots full s = record {
  whole = s.whole.1;
  inside = omega (arith, s.inside, length-drop 4096 text);
  first = text-rest text (page_bytes (shown_page text p)) (all_bytes (shown (drop 4096 text) slots)) full s.whole.0 s.first;
}

slots-shown : (k : ℕ) (text : List ℕ) (ps qs : List (Option (List ℕ))) → k * 4096 ≤ length text → length text < (k + 1) * 4096
    → Shows text ps → Shows text qs → drop k ps ≡ drop k qs → shown text ps ≡ shown text qs
slots-shown zero text ps qs p q v w e = shown-below text ps (omega (arith, q)) ∙ e ∙ sym (shown-below text qs (omega (arith, q)))
slots-shown (suc k) text [] qs p q v w e = absurd (omega (arith, p, v.inside))
slots-shown (suc k) text (x ∷ ps) [] p q v w e = absurd (omega (arith, p, w.inside))
slots-shown (suc k) text (x ∷ ps) (y ∷ qs) p q v w e =
    let full : 4096 ≤ length text = omega (arith, p) in
    let long : length (drop 4096 text) ≡ length text - 4096 = length-drop 4096 text in
    let one : shown_page text x ≡ Some (take 4096 text) = full-page text x (all_bytes (shown (drop 4096 text) ps)) full v.whole.0 v.first in
    let two : shown_page text y ≡ Some (take 4096 text) = full-page text y (all_bytes (shown (drop 4096 text) qs)) full w.whole.0 w.first in
    let rest : shown (drop 4096 text) ps ≡ shown (drop 4096 text) qs =
    slots-shown k (drop 4096 text) ps qs (omega (arith, p, long, full)) (omega (arith, q, long, full)) (shows-rest text x ps full v) (shows-rest text y qs full w) e in
    rw (one, two, rest) refl

shown-slots : (k : ℕ) (text : List ℕ) (ps qs : List (Option (List ℕ))) → k * 4096 ≤ length text → length text < (k + 1) * 4096
    → shown text ps ≡ shown text qs → drop k ps ≡ drop k qs
shown-slots zero text ps qs p q e = sym (shown-below text ps (omega (arith, q))) ∙ e ∙ shown-below text qs (omega (arith, q))
shown-slots (suc k) text [] [] p q e = refl
shown-slots (suc k) text [] (y ∷ qs) p q e = absurd (cc)
shown-slots (suc k) text (x ∷ ps) [] p q e = absurd (cc)
shown-slots (suc k) text (x ∷ ps) (y ∷ qs) p q e =
    let full : 4096 ≤ length text = omega (arith, p) in
    let long : length (drop 4096 text) ≡ length text - 4096 = length-drop 4096 text in
    let rest : shown (drop 4096 text) ps ≡ shown (drop 4096 text) qs = cc in
    shown-slots k (drop 4096 text) ps qs (omega (arith, p, long, full)) (omega (arith, q, long, full)) rest

shows : (text : List ℕ) (slots : List (Option (List ℕ))) → IsHeld text (shown text slots) → Shows text slots
shows text slots held = record {
  whole = held.whole;
  inside = omega (arith, held.text_inside, shown-length text slots);
  first = held.text_first;
}

-- the same memory has the same text
pub same-text : (t u : List ℕ) (ps qs : List (Option (List ℕ))) → IsHeld t (shown t ps) → IsHeld u (shown u qs) → memory_of t ps ≡ memory_of u qs → t ≡ u
same-text t u ps qs v w e =
    let bytes : all_bytes (shown t ps) ≡ all_bytes (shown u qs) = ap (λ (m : Memory). m.bytes) e in
    let long : length t ≡ length u = ap (λ (m : Memory). m.text) e in
    v.text_first ∙ ap (λ n. take n (all_bytes (shown t ps))) long ∙ ap (take (length u)) bytes ∙ sym w.text_first

-- and the same behind the pages that the text fills
pub same-slots : (t : List ℕ) (ps qs : List (Option (List ℕ))) → IsHeld t (shown t ps) → IsHeld t (shown t qs) → memory_of t ps ≡ memory_of t qs
    → drop (length t / 4096) ps ≡ drop (length t / 4096) qs
same-slots t ps qs v w e =
    shown-slots (length t / 4096) t ps qs (omega arith) (omega arith)
    (same-pages (shown t ps) (shown t qs) v.whole w.whole (ap (λ (m : Memory). m.bytes) e) (ap (λ (m : Memory). m.pages) e))

-- what has both is the same
pub same-memory : (t : List ℕ) (ps qs : List (Option (List ℕ))) → IsHeld t (shown t ps) → IsHeld t (shown t qs)
    → drop (length t / 4096) ps ≡ drop (length t / 4096) qs → memory_of t ps ≡ memory_of t qs
same-memory t ps qs v w e =
    let same : shown t ps ≡ shown t qs = slots-shown (length t / 4096) t ps qs (omega arith) (omega arith) (shows t ps v) (shows t qs w) e in
    rw same refl

-- the text fills no more pages than there are
pub full-inside : (t : List ℕ) (ps : List (Option (List ℕ))) → IsHeld t (shown t ps) → length t / 4096 ≤ length ps
full-inside t ps held = omega (arith, held.text_inside, shown-length t ps)
