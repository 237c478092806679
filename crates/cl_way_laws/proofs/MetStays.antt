-- A synchronous send that has its receive keeps it, and no later receive is one that was posted before it.
use Rattle.std.proofs.Common.{◌≡◌, ◌∙◌, ℕ, suc, ◌<◌, ◌⊎◌, inl, inr, refl, sym, ap, subst, arith, Bool, true, false, List, length, Option, Some, None}
use Rattle.std.specs.Prelude.{◌&&◌, nat_lt}
use Rattle.std.specs.List.{slice_get}
use Rattle.std.proofs.lemmas.Bool.{cases_Bool, cases_eq, false_from_ne_true, ltb-true}
use Rattle.std.proofs.lemmas.Option.{same_Some, slice_get_cases}
use Rattle.mp_match.specs.declared.posts.Line.{Line}
use Rattle.mp_match.specs.declared.posts.Post.{Post}
use Rattle.mp_match.specs.Board.{is_receive}
use Rattle.mp_match.specs.Pairs.{add, partner_for}
use Rattle.mp_match.proofs.Lines.{add_given, add_old}
use Rattle.mp_match.proofs.OrderKept.{chosen}
use Rattle.mp_match.proofs.Places.{get_within}
use Rattle.cl_way_laws.specs.Met.{is_before, is_met, is_met_line, is_sync_of}

module _ (lines : List Line) (p : Post) where
  is_partner : (place : ℕ) (o : Option ℕ) → (o ≡ Some place) ⊎ (o ≡ Some place → ⊥)
  is_partner place None = inr (λ e. absurd (cc))
  is_partner place (Some k) = elim (cases_eq k place) [
    | inl same ↦ inl (ap (λ z. Some z) same)
    | inr other ↦ inr (λ e. other (same_Some k place e))
  ]

  -- a post stays a receive
  receive_still : (other : ℕ) → other < length lines
      → is_receive (slice_get (add lines p) other) ≡ is_receive (slice_get lines other)
  receive_still other inside = go (slice_get lines other) refl
    where
      go : (o : Option Line) → slice_get lines other ≡ o
          → is_receive (slice_get (add lines p) other) ≡ is_receive (slice_get lines other)
      go None e = absurd (none_inside lines other inside e)
        where
          none_inside : (ms : List Line) (i : ℕ) → i < length ms → slice_get ms i ≡ None → ⊥
          none_inside ms i inside none = elim (slice_get_cases ms i).1 [
            | inl f ↦ (let x = sym none ∙ f.2 in absurd (cc))
            | inr f ↦ (let past = f.0 in absurd (omega (arith, past, inside)))
          ]
      go (Some m) e = elim (is_partner other (partner_for lines p)) [
        | inl is ↦ ap is_receive (add_given lines p other m e is) ∙ sym (ap is_receive e)
        | inr not_it ↦ ap is_receive (add_old lines p other m e not_it) ∙ sym (ap is_receive e)
      ]

  before_still : (place : ℕ) → place < length lines → (o : Option ℕ)
      → is_before (add lines p) place o ≡ is_before lines place o
  before_still place inside None = refl
  before_still place inside (Some other) = elim (cases_Bool (nat_lt other place)) [
    | inl less ↦
        let below : other < place = ltb-true other place less in
        ap (λ b. nat_lt other place && b) (receive_still other (omega (arith, below, inside)))
    | inr not_less ↦
        ap (λ b. b && is_receive (slice_get (add lines p) other)) not_less
        ∙ sym (ap (λ b. b && is_receive (slice_get lines other)) not_less)
  ]

  no_later : (place : ℕ) → place < length lines → nat_lt (length lines) place ≡ false
  no_later place inside =
      false_from_ne_true (nat_lt (length lines) place)
      (λ e. let past = ltb-true (length lines) place e in absurd (omega (arith, past, inside)))

  and_false : (b : Bool) → (b && false) ≡ false
  and_false true = refl
  and_false false = refl

  -- of a post that was made
  pub met_stays : (rank place : ℕ) (line : Line) → slice_get lines place ≡ Some line
      → is_met (add lines p) rank (suc place) ≡ is_met lines rank (suc place)
  met_stays rank place line here =
      let inside = get_within lines place line here in
      elim (is_partner place (partner_for lines p)) [
        | inl is ↦
            let c = chosen lines p place is in
            let same : c.line ≡ line = same_Some c.line line (sym c.here ∙ here) in
            let free : line.partner ≡ None = subst (λ (l : Line). l.partner ≡ None) same c.free in
            ap (is_met_line (add lines p) rank place) (add_given lines p place line here is)
            ∙ ap (λ b. is_sync_of rank line.post && (b && is_receive (slice_get (add lines p) (length lines))))
            (no_later place inside)
            ∙ sym (ap (is_met_line lines rank place) here
            ∙ ap (λ o. is_sync_of rank line.post && is_before lines place o) free)
        | inr not_it ↦
            ap (is_met_line (add lines p) rank place) (add_old lines p place line here not_it)
            ∙ ap (λ b. is_sync_of rank line.post && b) (before_still place inside line.partner)
            ∙ sym (ap (is_met_line lines rank place) here)
      ]
