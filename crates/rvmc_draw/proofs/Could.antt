-- What a receive of any source could have taken.
use Rattle.std.specs.Prelude.{ℕ, ◌≡◌, ◌≢◌, ◌==◌, Bool, true, false, List, cond, Option, Some, None}
use Rattle.std.proofs.Common.{refl, sym, ap, ◌∙◌, inl, inr, arith}
use Rattle.std.proofs.lemmas.Bool.{cases_lt, eq-eqb, eqb-true, false≢true}
use Rattle.std.proofs.lemmas.Option.{same_Some}
use Rattle.mp_match.proofs.Places.{found_first, found_none}
use Rattle.mp_match.specs.Pairs.{partner_for}
use Rattle.mp_match.specs.declared.posts.Line.{Line}
use Rattle.mp_match.specs.declared.posts.Post.TheVariants.{Receive}
use Rattle.mp_match.specs.declared.posts.Selection.{Selection}
use Rattle.rvmc_draw.specs.Board.{first_of, is_open_to, unless_taken}
use Rattle.rvmc_draw.specs.Laws.{CouldLaw, IsFirstOfOthers}

unless : (taken first : Option ℕ) (place : ℕ) → unless_taken taken first ≡ Some place
    → (first ≡ Some place) × (taken ≢ Some place)
unless None None place h = absurd (cc)
unless (Some t) None place h = absurd (cc)
unless None (Some p) place h = (h, λ e. absurd (cc))
unless (Some t) (Some p) place h = go (t == p) refl h
  where
    go : (b : Bool) → (t == p) ≡ b → cond b None (Some p) ≡ Some place → (Some p ≡ Some place) × (Some t ≢ Some place)
    go true e k = absurd (cc)
    go false e k = (
      k,
      λ same. false≢true (sym e ∙ eq-eqb t p (same_Some t place same ∙ sym (same_Some p place k))),
    )

kept : (taken : Option ℕ) (place : ℕ) → taken ≢ Some place → unless_taken taken (Some place) ≡ Some place
kept None place other = refl
kept (Some t) place other = go (t == place) refl
  where
    go : (b : Bool) → (t == place) ≡ b → cond b None (Some place) ≡ Some place
    go true e = absurd (other (ap Some (eqb-true t place e)))
    go false e = refl

-- the first that passes is the only first
only : (lines : List Line) (a : Selection) (source place : ℕ) → IsFirstOfOthers lines a source place
    → (found : Option ℕ) → first_of lines a source ≡ found → found ≡ Some place
only lines a source place is None none =
    absurd (false≢true (sym (found_none (is_open_to a source) 0 lines none place is.line is.there) ∙ is.is_open))
only lines a source place is (Some q) some =
    let f = found_first (is_open_to a source) lines q some in
    elim (cases_lt q place) [
      | inl before ↦ absurd (false≢true (sym (is.first q f.0 before f.1) ∙ f.2))
      | inr from ↦ elim (cases_lt place q) [
        | inl after ↦ absurd (false≢true (sym (f.3 place is.line after is.there) ∙ is.is_open))
        | inr to ↦ ap Some (omega (arith, from, to))
      ]
    ]

pub could_law : CouldLaw
could_law lines a source place = (
  λ h. (let u = unless (partner_for lines (Receive a)) (first_of lines a source) place h in
      let f = found_first (is_open_to a source) lines place u.0 in
      record {
        line = f.0;
        there = f.1;
        is_open = f.2;
        first = λ k earlier before there. f.3 k earlier before there;
        not_got = u.1;
      }),
  λ is. ap (unless_taken (partner_for lines (Receive a))) (only lines a source place is (first_of lines a source) refl)
      ∙ kept (partner_for lines (Receive a)) place is.not_got,
)
