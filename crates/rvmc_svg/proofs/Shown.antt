-- What stands in a text stays there, whatever is put before it and behind it.
use Rattle.std.specs.Prelude.{ℕ, ◌≡◌, ◌<◌, ◌≤◌, ◌+◌, ◌==◌, ◌&&◌, nat_le, if◌then◌else◌, Bool, true, false, List, [], ◌∷◌, ◌++◌, codes, length, take}
use Rattle.std.specs.List.{All, flat_map}
use Rattle.std.proofs.Common.{refl, sym, ap, ◌∙◌, subst, append-nil, append_assoc, get_or}
use Rattle.std.proofs.lemmas.Bool.{false≢true}
use Rattle.std.proofs.lemmas.List.{take_all, take_more}
use Rattle.std.proofs.lemmas.Grind.{flat_map-append}
use Rattle.std.proofs.lemmas.List.Elements.{All-cons, All-head, All-nil, All-push, All-tail}
use Rattle.rvmc_draw.specs.declared.drawing.Arrow.{Arrow}
use Rattle.rvmc_draw.specs.declared.drawing.Drawing.{Drawing}
use Rattle.rvmc_draw.specs.declared.drawing.Mark.{Mark}
use Rattle.rvmc_svg.specs.Escaped.{escaped, safe_byte}
use Rattle.rvmc_svg.specs.Adding.{Adds, AddsIf, safe_one}
use Rattle.rvmc_svg.specs.Shown.{HasTitle, IsShown}
use Rattle.rvmc_svg.specs.Titles.{arrow_title}

pub shows_before : (text more title : List ℕ) → HasTitle text title → HasTitle (text ++ more) title
shows_before text more title s = record {
  front = s.front;
  back = s.back ++ more;
  are = ap (λ l. l ++ more) s.are
      ∙ append_assoc s.front (codes "<title>" ++ (flat_map escaped title ++ s.back)) more
      ∙ ap (λ l. s.front ++ l) (append_assoc (codes "<title>") (flat_map escaped title ++ s.back) more)
      ∙ ap (λ l. s.front ++ (codes "<title>" ++ l)) (append_assoc (flat_map escaped title) s.back more);
}

pub shows_behind : (text before title : List ℕ) → HasTitle text title → HasTitle (before ++ text) title
shows_behind text before title s = record {
  front = before ++ s.front;
  back = s.back;
  are = ap (λ l. before ++ l) s.are
      ∙ sym (append_assoc before s.front (codes "<title>" ++ (flat_map escaped title ++ s.back)));
}

pub adds_titled : (old before title behind new : List ℕ)
    → new ≡ (((old ++ before) ++ codes "<title>") ++ flat_map escaped title) ++ behind → Adds old title new
adds_titled old before title behind new is = record {
  more = before ++ (codes "<title>" ++ (flat_map escaped title ++ behind));
  are = is
      ∙ append_assoc ((old ++ before) ++ codes "<title>") (flat_map escaped title) behind
      ∙ append_assoc (old ++ before) (codes "<title>") (flat_map escaped title ++ behind)
      ∙ append_assoc old before (codes "<title>" ++ (flat_map escaped title ++ behind));
  shows = record { front = before; back = behind; are = refl };
}

pub adds_none : (old title : List ℕ) (wanted : Bool) → wanted ≡ false → AddsIf wanted old title old
adds_none old title wanted none = record {
  more = [];
  are = sym (append-nil old);
  shows = λ is. absurd (false≢true (sym none ∙ is));
}

pub adds_some : (old title new : List ℕ) (wanted : Bool) → Adds old title new → AddsIf wanted old title new
adds_some old title new wanted adds = record { more = adds.more; are = adds.are; shows = λ is. adds.shows }

-- ---- what holds of all

-- what holds of a text and goes on to hold where more is added to it holds of one element more
module _ {A : Type 0} (P : List ℕ → A → Type 0)
    (keeps : (text more : List ℕ) (x : A) → P text x → P (text ++ more) x) where
  pub all_kept : (xs : List A) (text more : List ℕ) → All (P text) xs → All (P (text ++ more)) xs
  all_kept [] text more all = All-nil (P (text ++ more))
  all_kept (x ∷ xs) text more all =
      All-cons (P (text ++ more)) x xs (keeps text more x (All-head (P text) x xs all))
      (all_kept xs text more (All-tail (P text) x xs all))

  pub all_more : (xs : List A) (x : A) (old more new : List ℕ) → new ≡ old ++ more → All (P old) xs → P new x
      → All (P new) (xs ++ x ∷ [])
  all_more xs x old more new are all own =
      All-push (P new) xs x (subst (λ l. All (P l) xs) (sym are) (all_kept xs old more all)) own

-- and what follows for each follows for all
pub all_so : {A : Type 0} (P Q : A → Type 0) (xs : List A) → ((x : A) → P x → Q x) → All P xs → All Q xs
all_so P Q [] so all = All-nil Q
all_so P Q (x ∷ xs) so all =
    All-cons Q x xs (so x (All-head P x xs all)) (all_so P Q xs so (All-tail P x xs all))

-- ---- the loops

pub all_taken : {A : Type 0} (P : A → Type 0) (xs : List A) (k : ℕ) → length xs ≤ k → All P (take k xs) → All P xs
all_taken P xs k past all = subst (λ l. All P l) (take_all k xs past) all

one_taken : {A : Type 0} (xs : List A) (k : ℕ) (x : A) → k < length xs → x ≡ get_or xs k x
    → take (k + 1) xs ≡ take k xs ++ x ∷ []
one_taken xs k x inside is = take_more xs k x inside ∙ ap (λ y. take k xs ++ y ∷ []) (sym is)

pub marks_more : (ms : List Mark) (k : ℕ) (m : Mark) (old new : List ℕ) → k < length ms → m ≡ get_or ms k m
    → All (λ (n : Mark). HasTitle old n.tip.items) (take k ms) → Adds old m.tip.items new
    → All (λ (n : Mark). HasTitle new n.tip.items) (take (k + 1) ms)
marks_more ms k m old new inside is all adds =
    subst (λ l. All (λ (n : Mark). HasTitle new n.tip.items) l) (sym (one_taken ms k m inside is))
    (all_more (λ text (n : Mark). HasTitle text n.tip.items) (λ text more n s. shows_before text more n.tip.items s)
    (take k ms) m old adds.more new adds.are all
    (subst (λ l. HasTitle l m.tip.items) (sym adds.are) (shows_behind adds.more old m.tip.items adds.shows)))

-- ---- the page

pub page_shown : (drawing : Drawing) (text under marks over : List ℕ) → text ≡ ((under ++ marks) ++ over)
    → All (λ (m : Mark). HasTitle marks m.tip.items) drawing.marks.items
    → All (λ (a : Arrow). HasTitle under (arrow_title a)) drawing.arrows.items → IsShown drawing text
page_shown drawing text under marks over is all_marks all_arrows = record {
  marks = all_so (λ (m : Mark). HasTitle marks m.tip.items) (λ (m : Mark). HasTitle text m.tip.items)
      drawing.marks.items
      (λ m s. subst (λ l. HasTitle l m.tip.items) (sym is)
      (shows_before (under ++ marks) over m.tip.items (shows_behind marks under m.tip.items s))) all_marks;
  arrows = all_so (λ (a : Arrow). HasTitle under (arrow_title a)) (λ (a : Arrow). HasTitle text (arrow_title a))
      drawing.arrows.items
      (λ a s. subst (λ l. HasTitle l (arrow_title a)) (sym is)
      (shows_before (under ++ marks) over (arrow_title a) (shows_before under marks (arrow_title a) s))) all_arrows;
}

-- ---- what was made safe once stays as it is

safe_twice : (b : ℕ) → safe_byte (safe_byte b) ≡ safe_byte b
safe_twice b = newline (b == 10) refl
  where
    printed : (t : Bool) → (nat_le 32 b && nat_le b 126) ≡ t → (b == 10) ≡ false
        → safe_byte (if t then b else 46) ≡ (if t then b else 46)
    printed true e n =
        ap (λ c. if c then b else (if nat_le 32 b && nat_le b 126 then b else 46)) n
        ∙ ap (λ c. if c then b else 46) e
    printed false e n = refl

    newline : (t : Bool) → (b == 10) ≡ t
        → safe_byte (if t then b else (if nat_le 32 b && nat_le b 126 then b else 46))
        ≡ (if t then b else (if nat_le 32 b && nat_le b 126 then b else 46))
    newline true e = ap (λ c. if c then b else (if nat_le 32 b && nat_le b 126 then b else 46)) e
    newline false e = printed (nat_le 32 b && nat_le b 126) refl e

kept_one : (b : ℕ) → flat_map safe_one (escaped b) ≡ escaped b
unfolding safe_one escaped
kept_one b = go (b == 38) (b == 60) (b == 62) (b == 34)
  where
    once : safe_byte (safe_byte b) ∷ [] ≡ safe_byte b ∷ []
    once = ap (λ c. c ∷ []) (safe_twice b)

    go : (amp less more quote : Bool)
        → flat_map safe_one (if amp then codes "&amp;" else (if less then codes "&lt;" else
        (if more then codes "&gt;" else (if quote then codes "&quot;" else safe_byte b ∷ []))))
        ≡ (if amp then codes "&amp;" else (if less then codes "&lt;" else
        (if more then codes "&gt;" else (if quote then codes "&quot;" else safe_byte b ∷ []))))
    go true less more quote = refl
    go false true more quote = refl
    go false false true quote = refl
    go false false false true = refl
    go false false false false = once

kept_all : (bytes : List ℕ) → flat_map safe_one (flat_map escaped bytes) ≡ flat_map escaped bytes
kept_all [] = refl
kept_all (b ∷ bytes) =
    flat_map-append safe_one (escaped b) (flat_map escaped bytes)
    ∙ ap (λ l. l ++ flat_map safe_one (flat_map escaped bytes)) (kept_one b)
    ∙ ap (λ l. escaped b ++ l) (kept_all bytes)

tag_kept : flat_map safe_one (codes "<title>") ≡ codes "<title>"
unfolding safe_one
tag_kept = refl

pub shows_safe : (text title : List ℕ) → HasTitle text title → HasTitle (flat_map safe_one text) title
shows_safe text title s = record {
  front = flat_map safe_one s.front;
  back = flat_map safe_one s.back;
  are = ap (flat_map safe_one) s.are
      ∙ flat_map-append safe_one s.front (codes "<title>" ++ (flat_map escaped title ++ s.back))
      ∙ ap (λ l. flat_map safe_one s.front ++ l)
      (flat_map-append safe_one (codes "<title>") (flat_map escaped title ++ s.back))
      ∙ ap (λ l. flat_map safe_one s.front ++ (l ++ flat_map safe_one (flat_map escaped title ++ s.back))) tag_kept
      ∙ ap (λ l. flat_map safe_one s.front ++ (codes "<title>" ++ l))
      (flat_map-append safe_one (flat_map escaped title) s.back)
      ∙ ap (λ l. flat_map safe_one s.front ++ (codes "<title>" ++ (l ++ flat_map safe_one s.back))) (kept_all title);
}

-- and so is the page
pub page_safe : (drawing : Drawing) (page text : List ℕ) → text ≡ flat_map safe_one page → IsShown drawing page
    → IsShown drawing text
page_safe drawing page text is shown = record {
  marks = all_so (λ (m : Mark). HasTitle page m.tip.items) (λ (m : Mark). HasTitle text m.tip.items) drawing.marks.items
      (λ m s. subst (λ l. HasTitle l m.tip.items) (sym is) (shows_safe page m.tip.items s)) shown.marks;
  arrows = all_so (λ (a : Arrow). HasTitle page (arrow_title a)) (λ (a : Arrow). HasTitle text (arrow_title a))
      drawing.arrows.items
      (λ a s. subst (λ l. HasTitle l (arrow_title a)) (sym is) (shows_safe page (arrow_title a) s)) shown.arrows;
}
