-- The texts of ends in two lists are one set if each list has those of the other.
use Rattle.std.specs.Prelude.{ℕ, zero, suc, ◌<◌, ◌≡◌, ◌||◌, Bool, true, false, cond, List, [], ◌∷◌, map, nat_lt, slice_get, Some}
use Rattle.std.specs.Cmp.Lexicographic.{slice_cmp}
use Rattle.std.specs.FinMap.{nat_cmp-IsAntisymmetric, slice_cmp-IsAntisymmetric}
use Rattle.std.specs.FinSet.{contains-from_list, same_set}
use Rattle.std.specs.List.{filter, list_any}
use Rattle.std.specs.Ordering.{eq_by_cmp, nat_cmp}
use Rattle.std.proofs.Common.{ap, refl, sym, ◌∙◌}
use Rattle.std.proofs.lemmas.Bool.{lt-ltb, ltb-true}
use Rattle.std.proofs.lemmas.Cmp.{nat_list_cmp_total}
use Rattle.std.proofs.lemmas.Map.Text.{is_eq-slice_cmp}
use Rattle.std.proofs.lemmas.Slice.Eq.{bytes_eq-Decides}
use Rattle.rvmc_explore.specs.declared.outcomes.Outcome.{Outcome}
use Rattle.rvmc_text_laws.specs.OneText.{HasEndBody, end_texts}

-- of the ends in a list, and their texts
abbrev ends_of : List Outcome → List Outcome
ends_of told = filter (λ (o : Outcome). nat_lt 0 o.ends) told

abbrev texts_of : List Outcome → List (List ℕ)
texts_of ends = map (λ (o : Outcome). o.body.items) ends

abbrev is_text : List ℕ → List ℕ → Bool
is_text text other = eq_by_cmp (slice_cmp nat_cmp) text other

same_of_is : (text other : List ℕ) → is_text text other ≡ true → text ≡ other
same_of_is text other is = (bytes_eq-Decides text other).0 (sym (is_eq-slice_cmp text other) ∙ is)

is_of_same : (text other : List ℕ) → text ≡ other → is_text text other ≡ true
is_of_same text other same = is_eq-slice_cmp text other ∙ (bytes_eq-Decides text other).1 same

-- an end in the list has the text that a test of their texts finds
has_of_any : (told : List Outcome) (text : List ℕ) → list_any (is_text text) (texts_of (ends_of told)) ≡ true
    → HasEndBody told text
has_of_any [] text any = absurd (cc)
has_of_any (o ∷ told) text any = of (λ there. has_of_any told text there) (nat_lt 0 o.ends) refl any
  where
    here : (list_any (is_text text) (texts_of (ends_of told)) ≡ true → HasEndBody told text) → 0 < o.ends → (b : Bool)
        → is_text text o.body.items ≡ b → (b || list_any (is_text text) (texts_of (ends_of told))) ≡ true
        → HasEndBody (o ∷ told) text
    here rest low true is any = (zero, o, refl, low, sym (same_of_is text o.body.items is))
    here rest low false is any = let v = rest any in (suc v.0, v.1, v.2, v.3, v.4)

    of : (list_any (is_text text) (texts_of (ends_of told)) ≡ true → HasEndBody told text) → (b : Bool)
        → nat_lt 0 o.ends ≡ b
        → list_any (is_text text) (texts_of (cond b (o ∷ ends_of told) (ends_of told))) ≡ true
        → HasEndBody (o ∷ told) text
    of rest true is any = here rest (ltb-true 0 o.ends is) (is_text text o.body.items) refl any
    of rest false is any = let v = rest any in (suc v.0, v.1, v.2, v.3, v.4)

either : (a b : Bool) → b ≡ true → (a || b) ≡ true
either true b is = refl
either false b is = is

-- and such a test finds the text of each
any_at : (told : List Outcome) (text : List ℕ) (k : ℕ) (outcome : Outcome) → slice_get told k ≡ Some outcome
    → 0 < outcome.ends → outcome.body.items ≡ text → list_any (is_text text) (texts_of (ends_of told)) ≡ true
any_at [] text k outcome at some is = absurd (cc)
any_at (o ∷ told) text zero outcome at some is =
    let same : o ≡ outcome = (cc) in
    let low : nat_lt 0 o.ends ≡ true =
    ap (λ (x : Outcome). nat_lt 0 x.ends) same ∙ lt-ltb 0 outcome.ends some in
    let first : is_text text o.body.items ≡ true =
    is_of_same text o.body.items (sym is ∙ ap (λ (x : Outcome). x.body.items) (sym same)) in
    ap (λ b. list_any (is_text text) (texts_of (cond b (o ∷ ends_of told) (ends_of told)))) low
    ∙ ap (λ b. b || list_any (is_text text) (texts_of (ends_of told))) first
any_at (o ∷ told) text (suc k) outcome at some is =
    later (nat_lt 0 o.ends) (any_at told text k outcome at some is)
  where
    later : (b : Bool) → list_any (is_text text) (texts_of (ends_of told)) ≡ true
        → list_any (is_text text) (texts_of (cond b (o ∷ ends_of told) (ends_of told))) ≡ true
    later true any = either (is_text text o.body.items) (list_any (is_text text) (texts_of (ends_of told))) any
    later false any = any

bools : (a b : Bool) → (a ≡ true → b ≡ true) → (b ≡ true → a ≡ true) → a ≡ b
bools true b there back = sym (there refl)
bools false true there back = back refl
bools false false there back = refl

pub same_texts : (told other : List Outcome) → ((text : List ℕ) → HasEndBody told text → HasEndBody other text)
    → ((text : List ℕ) → HasEndBody other text → HasEndBody told text)
    → end_texts told ≡ end_texts other
same_texts told other there back =
    same_set nat_list_cmp_total (slice_cmp-IsAntisymmetric nat_cmp-IsAntisymmetric) (end_texts told) (end_texts other)
    (λ text. contains-from_list nat_list_cmp_total (texts_of (ends_of told)) text
    ∙ bools (list_any (is_text text) (texts_of (ends_of told))) (list_any (is_text text) (texts_of (ends_of other)))
    (λ any. let v = there text (has_of_any told text any) in any_at other text v.0 v.1 v.2 v.3 v.4)
    (λ any. let v = back text (has_of_any other text any) in any_at told text v.0 v.1 v.2 v.3 v.4)
    ∙ sym (contains-from_list nat_list_cmp_total (texts_of (ends_of other)) text))
