-- Lists of things, of takes and of data words.
use Rattle.std.proofs.Common.{◌≡◌, ◌≢◌, ◌⊎◌, ℕ, zero, suc, ◌+◌, ◌<◌, List, [], ◌∷◌, ◌++◌, drop, length, get_or, set}
use Rattle.std.proofs.Common.{Some, refl, sym, ap, ◌∙◌, subst, inl, inr, ⊎_elim, arith, length-append, get_or-set_other}
use Rattle.std.proofs.Common.{get_or-set_same}
use Rattle.std.proofs.lemmas.Bool.{cases_eq}
use Rattle.std.proofs.lemmas.List.{length-set}
use Rattle.std.specs.Prelude.{slice_get}
use mathlib.Core.Option.{some, some-ne-none, some-injective}
use lib.ListN.{get_elem?}
use Rattle.part_box.specs.declared.view.Got.{Got}
use Rattle.part_box.specs.Gate.{last_take}
use Rattle.part_box.specs.Rule.{data_word, DataStartsWith}
use Rattle.part_box.specs.Spelled.{IsDataOf}

module _ {A : Type 0} where
  pub get_front : (xs ys : List A) (k : ℕ) (x : A) → slice_get xs k ≡ Some x → slice_get (xs ++ ys) k ≡ Some x
  get_front [] ys k x e = absurd (cc)
  get_front (y ∷ xs) ys zero x e = e
  get_front (y ∷ xs) ys (suc k) x e = get_front xs ys k x e

  pub get_last : (xs : List A) (x : A) (k : ℕ) → k ≡ length xs → slice_get (xs ++ x ∷ []) k ≡ Some x
  get_last [] x zero e = refl
  get_last [] x (suc k) e = absurd (omega arith)
  get_last (y ∷ xs) x zero e = absurd (omega arith)
  get_last (y ∷ xs) x (suc k) e = get_last xs x k (omega arith)

  pub get_snoc : (xs : List A) (x y : A) (k : ℕ) → slice_get (xs ++ x ∷ []) k ≡ Some y
      → (slice_get xs k ≡ Some y) ⊎ ((k ≡ length xs) × (x ≡ y))
  get_snoc [] x y zero e = inr (refl, cc)
  get_snoc [] x y (suc k) e = absurd (cc)
  get_snoc (z ∷ xs) x y zero e = inl e
  get_snoc (z ∷ xs) x y (suc k) e = ⊎_elim (λ a. inl a) (λ b. inr (ap suc b.0, b.1)) (get_snoc xs x y k e)

  pub get_within : (xs : List A) (k : ℕ) (x : A) → slice_get xs k ≡ Some x → k < length xs
  get_within [] k x e = absurd (cc)
  get_within (y ∷ xs) zero x e = omega arith
  get_within (y ∷ xs) (suc k) x e = let h = get_within xs k x e in omega arith

pub last_take-push : (got : List Got) (g : Got) → last_take (got ++ g ∷ []) ≡ g.taken
last_take-push [] g = refl
last_take-push (x ∷ []) g = refl
last_take-push (x ∷ y ∷ got) g = last_take-push (y ∷ got) g

-- the last thing that was got has the last take
pub last_take-at : (got : List Got) (k : ℕ) (g : Got) → slice_get got k ≡ Some g → k + 1 ≡ length got
    → last_take got ≡ g.taken
last_take-at [] k g e h = absurd (cc)
last_take-at (x ∷ []) zero g e h = let same : x ≡ g = cc in ap (λ (y : Got). y.taken) same
last_take-at (x ∷ []) (suc k) g e h = absurd (omega arith)
last_take-at (x ∷ y ∷ got) zero g e h = absurd (omega arith)
last_take-at (x ∷ y ∷ got) (suc k) g e h = last_take-at (y ∷ got) k g e (omega arith)

pub last_there : (got : List Got) (k : ℕ) → length got ≡ k + 1
    → (g : Got) × (slice_get got k ≡ Some g) × (last_take got ≡ g.taken)
last_there [] k h = absurd (omega arith)
last_there (x ∷ []) zero h = (x, refl, refl)
last_there (x ∷ []) (suc k) h = absurd (omega arith)
last_there (x ∷ y ∷ got) zero h = absurd (omega arith)
last_there (x ∷ y ∷ got) (suc k) h = last_there (y ∷ got) k (omega arith)

get_end : (xs : List ℕ) (x i : ℕ) → i ≡ length xs → get_or (xs ++ x ∷ []) i 0 ≡ x
get_end [] x zero e = refl
get_end [] x (suc i) e = absurd (omega arith)
get_end (y ∷ xs) x zero e = absurd (omega arith)
get_end (y ∷ xs) x (suc i) e = get_end xs x i (omega arith)

get_before : (xs : List ℕ) (x i : ℕ) → i < length xs → get_or (xs ++ x ∷ []) i 0 ≡ get_or xs i 0
get_before [] x i h = absurd (omega arith)
get_before (y ∷ xs) x zero h = refl
get_before (y ∷ xs) x (suc i) h = get_before xs x i (omega arith)

pub same_lists : (xs ys : List ℕ) → length xs ≡ length ys → ((i : ℕ) → i < length xs → get_or xs i 0 ≡ get_or ys i 0)
    → xs ≡ ys
same_lists [] [] h f = refl
same_lists [] (y ∷ ys) h f = absurd (omega arith)
same_lists (x ∷ xs) [] h f = absurd (omega arith)
same_lists (x ∷ xs) (y ∷ ys) h f =
    λ k. f 0 (omega arith) k ∷ same_lists xs ys (omega arith) (λ i l. f (suc i) (omega arith)) k

-- a word behind the gate
pub behind : (words : List ℕ) (i : ℕ) → get_or (drop 1 words) i 0 ≡ get_or words (i + 1) 0
behind [] i = refl
behind (x ∷ words) i = let next : suc i ≡ i + 1 = omega arith in ap (λ (j : ℕ). get_or (x ∷ words) j 0) next

pub behind-set_gate : (words : List ℕ) (n : ℕ) → drop 1 (set words 0 n) ≡ drop 1 words
behind-set_gate [] n = refl
behind-set_gate (x ∷ words) n = refl

pub length-behind : (words : List ℕ) (width : ℕ) → length words ≡ width + 1 → length (drop 1 words) ≡ width
length-behind [] width e = absurd (omega arith)
length-behind (x ∷ words) width e = omega arith

-- where there are as many data words as there are words, those are all
pub whole_data : (words xs : List ℕ) (width : ℕ) → length words ≡ width + 1 → length xs ≡ width
    → DataStartsWith words xs → drop 1 words ≡ xs
whole_data words xs width counted long h =
    let behind_long : length (drop 1 words) ≡ width = length-behind words width counted in
    same_lists (drop 1 words) xs (behind_long ∙ sym long) (λ i low. behind words i ∙ h i (omega arith))

pub data_nil : (words : List ℕ) → DataStartsWith words []
data_nil words i h = absurd (omega arith)

pub data_none : (words xs : List ℕ) → xs ≡ [] → DataStartsWith words xs
data_none words xs e = subst (DataStartsWith words) (sym e) (data_nil words)

-- a store to the next data word
pub data_push : (words xs : List ℕ) (n : ℕ) → length xs + 1 < length words → DataStartsWith words xs
    → DataStartsWith (set words (length xs + 1) n) (xs ++ n ∷ [])
data_push words xs n room h i l = ⊎_elim
    (λ (e : i ≡ length xs).
    subst (λ (j : ℕ). get_or (set words (length xs + 1) n) (j + 1) 0 ≡ get_or (xs ++ n ∷ []) j 0) (sym e)
    (get_or-set_same words (length xs + 1) n 0 room ∙ sym (get_end xs n (length xs) refl)))
    (λ (ne : i ≡ length xs → ⊥).
    let apart : i ≢ length xs = ne in
    let more : length (xs ++ n ∷ []) ≡ length xs + 1 = length-append xs (n ∷ []) in
    let low : i < length xs = omega arith in
    get_or-set_other words (length xs + 1) (i + 1) n 0 (λ e. ne (omega arith))
    ∙ (h i low ∙ sym (get_before xs n i low)))
    (cases_eq i (length xs))

-- a load of the next data word
pub data_more : (words xs : List ℕ) (n : ℕ) → data_word words (length xs) ≡ n → DataStartsWith words xs
    → DataStartsWith words (xs ++ n ∷ [])
data_more words xs n is h i l = ⊎_elim
    (λ (e : i ≡ length xs).
    subst (λ (j : ℕ). get_or words (j + 1) 0 ≡ get_or (xs ++ n ∷ []) j 0) (sym e)
    (is ∙ sym (get_end xs n (length xs) refl)))
    (λ (ne : i ≡ length xs → ⊥).
    let apart : i ≢ length xs = ne in
    let more : length (xs ++ n ∷ []) ≡ length xs + 1 = length-append xs (n ∷ []) in
    let low : i < length xs = omega arith in
    h i low ∙ sym (get_before xs n i low))
    (cases_eq i (length xs))

pub get_elem_or : (xs : List ℕ) (i n : ℕ) → get_elem? xs i ≡ some n → get_or xs i 0 ≡ n
get_elem_or [] i n e = absurd (some-ne-none n (sym e))
get_elem_or (x ∷ xs) zero n e = some-injective x n e
get_elem_or (x ∷ xs) (suc i) n e = get_elem_or xs i n e

-- one more data word was read
pub data_read : (words read : List ℕ) (i n : ℕ) → i < 16 → get_elem? words (i + 1) ≡ some n → IsDataOf i words read
    → IsDataOf (i + 1) words (set read i n)
data_read words read i n room found h =
    let long : length read ≡ 16 = h.long in
    let inside : i < length read = omega arith in record {
      long = length-set read i n ∙ h.long;
      same = λ k low. ⊎_elim
          (λ (e : k ≡ i).
          subst (λ (j : ℕ). get_or (set read i n) j 0 ≡ get_or words (j + 1) 0) (sym e)
          (get_or-set_same read i n 0 inside ∙ sym (get_elem_or words (i + 1) n found)))
          (λ (ne : k ≡ i → ⊥). let apart : k ≢ i = ne in get_or-set_other read i k n 0 ne ∙ h.same k (omega arith))
          (cases_eq k i);
      past = λ k high. get_or-set_other read i k n 0 (λ e. (omega arith)) ∙ h.past k (omega arith);
    }
