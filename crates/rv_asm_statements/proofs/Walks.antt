-- Walks along tables and lists.
use Rattle.std.proofs.Common.{◌≡◌, ℕ, zero, suc, ◌+◌, ◌<◌, ◌≤◌, true, false, List, [], ◌∷◌, ◌++◌, length, drop, map, get_or, Option, Some, None, is_some, refl, sym, ap, ◌∙◌, arith}
use Rattle.std.proofs.lemmas.List.{drop_all, length-map, append_assoc, append-nil}
use Rattle.std.specs.Str.{bytes_eq}
use Rattle.rv_asm_statements.specs.Walk.{all_given, beside, first_given}
use Rattle.rv_asm_statements.specs.Directives.{some_given}
use Rattle.rv_asm_statements.specs.Rows.{Row}
use Rattle.rv_asm_statements.specs.Mnemonics.{row_named}
use Rattle.rv_asm_tokens.specs.Fault.{if_some}
use Rattle.std.specs.Option.{option_map}
use Rattle.std.specs.List.{filter_map}

-- from i on there is what stands at i, and the rest
pub item_at : {A B : Type 0} (view : A → B) (xs : List A) (i : ℕ) (d : A) → i < length xs → drop i (map view xs) ≡ view (get_or xs i d) ∷ drop (i + 1) (map view xs)
item_at view [] i d lt = absurd (omega arith)
item_at view (x ∷ xs) zero d lt = refl
item_at view (x ∷ xs) (suc i) d lt =
    let e : suc (i + 1) ≡ suc i + 1 = omega arith in
    item_at view xs i d (omega arith) ∙ ap (λ (k : ℕ). view (get_or xs i d) ∷ drop k (view x ∷ map view xs)) e

-- ---- the first that f gives

pub given_passed : {A B C : Type 0} (f : B → Option C) (view : A → B) (xs : List A) (i : ℕ) (d : A) (whole : Option C) → i < length xs → f (view (get_or xs i d)) ≡ None → first_given f (drop i (map view xs)) ≡ whole → first_given f (drop (i + 1) (map view xs)) ≡ whole
given_passed f view xs i d whole lt h so_far =
    let here = item_at view xs i d lt in
    let one : first_given f (view (get_or xs i d) ∷ drop (i + 1) (map view xs)) ≡ first_given f (drop (i + 1) (map view xs)) = rw h refl in
    sym one ∙ ap (first_given f) (sym here) ∙ so_far

pub given_met : {A B C : Type 0} (f : B → Option C) (view : A → B) (xs : List A) (i : ℕ) (d : A) (c : C) (whole : Option C) → i < length xs → f (view (get_or xs i d)) ≡ Some c → first_given f (drop i (map view xs)) ≡ whole → whole ≡ Some c
given_met f view xs i d c whole lt h so_far =
    let here = item_at view xs i d lt in
    let one : first_given f (view (get_or xs i d) ∷ drop (i + 1) (map view xs)) ≡ Some c = rw h refl in
    sym so_far ∙ ap (first_given f) here ∙ one

pub given_end : {A B C : Type 0} (f : B → Option C) (view : A → B) (xs : List A) (i : ℕ) (whole : Option C) → length xs ≤ i → first_given f (drop i (map view xs)) ≡ whole → whole ≡ None
given_end f view xs i whole le so_far =
    let none : drop i (map view xs) ≡ [] = drop_all i (map view xs) (omega (arith, length-map xs view)) in
    sym so_far ∙ ap (first_given f) none

-- a row of another name, and one of the name
pub named_other : (w : List ℕ) (row : Row) → bytes_eq row.name w ≡ false → row_named w row ≡ None
named_other w row h = rw h refl

pub named_this : (w : List ℕ) (row : Row) → bytes_eq row.name w ≡ true → row_named w row ≡ Some row
named_this w row h = rw h refl

pub beside_other : {A : Type 0} (w : List ℕ) (row : List ℕ × A) → bytes_eq row.0 w ≡ false → beside w row ≡ None
beside_other w row h = rw h refl

pub beside_this : {A : Type 0} (w : List ℕ) (row : List ℕ × A) → bytes_eq row.0 w ≡ true → beside w row ≡ Some row.1
beside_this w row h = rw h refl

-- ---- all that f gives

-- what is made so far, and what is given for the rest
abbrev pub given_behind : {A : Type 0} → List A → Option (List A) → Option (List A)
given_behind done rest = option_map (λ ys. done ++ ys) rest

behind_one : {A : Type 0} (done : List A) (c : A) (rest : Option (List A)) → given_behind (done ++ c ∷ []) rest ≡ given_behind done (if_some rest None (λ ys. Some (c ∷ ys)))
behind_one done c None = refl
behind_one done c (Some ys) = ap Some (append_assoc done (c ∷ []) ys)

pub all_passed : {A B C : Type 0} (f : B → Option C) (view : A → B) (xs : List A) (i : ℕ) (d : A) (done : List C) (c : C) (whole : Option (List C)) → i < length xs → f (view (get_or xs i d)) ≡ Some c → given_behind done (all_given f (drop i (map view xs))) ≡ whole → given_behind (done ++ c ∷ []) (all_given f (drop (i + 1) (map view xs))) ≡ whole
all_passed f view xs i d done c whole lt h so_far =
    let here = item_at view xs i d lt in
    let rest = all_given f (drop (i + 1) (map view xs)) in
    let one : all_given f (view (get_or xs i d) ∷ drop (i + 1) (map view xs)) ≡ if_some rest None (λ ys. Some (c ∷ ys)) = rw h refl in
    behind_one done c rest ∙ sym (ap (given_behind done) one) ∙ ap (λ l. given_behind done (all_given f l)) (sym here) ∙ so_far

pub all_wrong : {A B C : Type 0} (f : B → Option C) (view : A → B) (xs : List A) (i : ℕ) (d : A) (done : List C) (whole : Option (List C)) → i < length xs → f (view (get_or xs i d)) ≡ None → given_behind done (all_given f (drop i (map view xs))) ≡ whole → whole ≡ None
all_wrong f view xs i d done whole lt h so_far =
    let here = item_at view xs i d lt in
    let one : all_given f (view (get_or xs i d) ∷ drop (i + 1) (map view xs)) ≡ None = rw h refl in
    sym so_far ∙ ap (λ l. given_behind done (all_given f l)) here ∙ ap (given_behind done) one

pub all_end : {A B C : Type 0} (f : B → Option C) (view : A → B) (xs : List A) (i : ℕ) (done : List C) (whole : Option (List C)) → length xs ≤ i → given_behind done (all_given f (drop i (map view xs))) ≡ whole → whole ≡ Some done
all_end f view xs i done whole le so_far =
    let none : drop i (map view xs) ≡ [] = drop_all i (map view xs) (omega (arith, length-map xs view)) in
    let one : given_behind done (all_given f []) ≡ Some done = ap Some (append-nil done) in
    sym so_far ∙ ap (λ l. given_behind done (all_given f l)) none ∙ one

-- what is left of a list of which something is given is given
rest_given : {A C : Type 0} (rest : Option A) (g : A → C) → is_some (if_some rest None (λ ys. Some (g ys))) ≡ true → is_some rest ≡ true
rest_given None g h = h
rest_given (Some ys) g h = refl

-- where f gives each, all that it gives among them is what all give
pub given_among : {A B : Type 0} (f : A → Option B) (xs : List A) → is_some (all_given f xs) ≡ true → all_given f xs ≡ Some (filter_map f xs)
given_among {B = B} f [] h = refl
given_among {B = B} f (x ∷ xs) h = one (f x) refl (given_among f xs)
  where
    one : (o : Option B) → f x ≡ o → (is_some (all_given f xs) ≡ true → all_given f xs ≡ Some (filter_map f xs)) → all_given f (x ∷ xs) ≡ Some (filter_map f (x ∷ xs))
    one None e others =
        let none : false ≡ true = rw e at h in
        absurd cc
    one (Some y) e others =
        let rest : all_given f xs ≡ Some (filter_map f xs) = others (rest_given (all_given f xs) (λ ys. y ∷ ys) (rw e at h)) in
        rw (e, rest) refl

pub some_among : {A B : Type 0} (f : A → Option B) (xs : List A) → is_some (some_given f xs) ≡ true → some_given f xs ≡ Some (filter_map f xs)
some_among f [] h = absurd cc
some_among f (x ∷ xs) h = given_among f (x ∷ xs) h
