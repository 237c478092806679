-- Which sends were got, and which weren't.
use Rattle.std.specs.Prelude.{ℕ, ◌≡◌, ◌==◌, ◌||◌, Bool, true, List, [], ◌∷◌, ◌++◌, option_to_list}
use Rattle.std.specs.List.{flat_map, list_any}
use Rattle.std.proofs.Common.{refl, sym, ap, ◌∙◌, subst, inl, inr, append-nil, append_assoc}
use Rattle.std.proofs.lemmas.Bool.{or_cases, or_left, or_right}
use Rattle.std.proofs.lemmas.List.Folds.{list_any-append}
use Rattle.mp_match.specs.PostPairs.{pairs}
use Rattle.rvmc_draw.specs.Board.{is_got_in, partner_numbered, posts_made}
use Rattle.rvmc_draw.specs.Laws.{GotLaw, IsGotAmong, gets_from}
use Rattle.rvmc_draw.specs.Walks.{each_after, got_after, got_places}
use Rattle.rvmc_draw.specs.declared.deeds.Deed.{Deed}

any_flat : (P : ℕ → Bool) (f : ℕ → List ℕ) (xs : List ℕ)
    → list_any P (flat_map f xs) ≡ list_any (λ x. list_any P (f x)) xs
any_flat P f [] = refl
any_flat P f (x ∷ xs) =
    list_any-append P (f x) (flat_map f xs) ∙ ap (λ b. list_any P (f x) || b) (any_flat P f xs)

-- one step's
by_step : (before : List Deed) (d : Deed) (place : ℕ) → is_got_in (got_after before d) place ≡ gets_from before place d
by_step before d place =
    any_flat (λ other. other == place)
    (λ number. option_to_list (partner_numbered (pairs (posts_made (before ++ d ∷ []))) number)) d.got.items

-- those of the steps behind some others
record IsGotBehind (first deeds : List Deed) (place : ℕ) : Type 0 where
  before : List Deed
  getter : Deed
  after : List Deed
  all : deeds ≡ before ++ getter ∷ after
  gets : gets_from (first ++ before) place getter ≡ true

behind : (first deeds : List Deed) (place : ℕ) → is_got_in (each_after got_after first deeds) place ≡ true
    → IsGotBehind first deeds place
behind first [] place h = absurd (cc)
behind first (d ∷ ds) place h =
    elim (or_cases (is_got_in (got_after first d) place) (is_got_in (each_after got_after (first ++ d ∷ []) ds) place)
    (sym (list_any-append (λ other. other == place) (got_after first d) (each_after got_after (first ++ d ∷ []) ds)) ∙ h)) [
      | inl here ↦ record {
        before = [];
        getter = d;
        after = ds;
        all = refl;
        gets = subst (λ front. gets_from front place d ≡ true) (sym (append-nil first))
            (sym (by_step first d place) ∙ here);
      }
      | inr there ↦ (let r = behind (first ++ d ∷ []) ds place there in record {
        before = d ∷ r.before;
        getter = r.getter;
        after = r.after;
        all = ap (λ l. d ∷ l) r.all;
        gets = subst (λ front. gets_from front place r.getter ≡ true) (append_assoc first (d ∷ []) r.before) r.gets;
      })
    ]

known : (first before after : List Deed) (getter : Deed) (place : ℕ) → gets_from (first ++ before) place getter ≡ true
    → is_got_in (each_after got_after first (before ++ getter ∷ after)) place ≡ true
known first [] after getter place gets =
    list_any-append (λ other. other == place) (got_after first getter) (each_after got_after (first ++ getter ∷ []) after)
    ∙ or_left (is_got_in (got_after first getter) place)
    (is_got_in (each_after got_after (first ++ getter ∷ []) after) place)
    (by_step first getter place ∙ subst (λ front. gets_from front place getter ≡ true) (append-nil first) gets)
known first (d ∷ before) after getter place gets =
    list_any-append (λ other. other == place) (got_after first d)
    (each_after got_after (first ++ d ∷ []) (before ++ getter ∷ after))
    ∙ or_right (is_got_in (got_after first d) place)
    (is_got_in (each_after got_after (first ++ d ∷ []) (before ++ getter ∷ after)) place)
    (known (first ++ d ∷ []) before after getter place
    (subst (λ front. gets_from front place getter ≡ true) (sym (append_assoc first (d ∷ []) before)) gets))

pub got_law : GotLaw
got_law deeds place = (
  λ h. (let r = behind [] deeds place h in record {
    before = r.before;
    getter = r.getter;
    after = r.after;
    all = r.all;
    gets = r.gets;
  }),
  λ r. subst (λ l. is_got_in (got_places l) place ≡ true) (sym r.all) (known [] r.before r.after r.getter place r.gets),
)
