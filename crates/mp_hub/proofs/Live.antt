-- A post that is over is ready.
use Rattle.std.specs.Prelude.{ℕ, zero, suc, ◌≡◌, ◌||◌, ◌&&◌, not, Bool, cond, Some, true, false}
use Rattle.std.specs.List.{slice_get}
use Rattle.std.specs.Option.{is_some}
use Rattle.std.proofs.Common.{refl, sym, ap, ◌∙◌, subst, arith}
use Rattle.mp_match.specs.declared.posts.Line.{Line}
use Rattle.mp_match.specs.declared.posts.Post.{Post}
use Rattle.mp_match.specs.declared.posts.Post.TheVariants.{Send, Receive, Claim}
use Rattle.mp_match.specs.declared.posts.Selection.{Selection}
use Rattle.mp_match.specs.Board.{claim_at, claim_in, claim_of, is_finished, is_held, is_receive, is_receive_at, is_send_of}
use Rattle.mp_match.specs.Board.{is_standard, line_of, partner_of}
use Rattle.mp_match.specs.Claimed.{is_claim_collected, open_claim}
use Rattle.mp_match.specs.Live.{IsOver}
use Rattle.mp_match.specs.InnerLive.{IsPast}
use Rattle.mp_match.specs.Pairs.{partner_of_line}
use Rattle.mp_hub.specs.Held.{AreHeld}
use Rattle.mp_hub.specs.Hub.{HubView, is_complete, is_ready, was_received}
use Rattle.mp_hub.specs.Live.{IsReadyToAll}
use Rattle.mp_hub.proofs.Held.{complete_is}

or_true : (a : Bool) → (a || true) ≡ true
or_true true = refl
or_true false = refl

module _ (h : HubView) (held : AreHeld h.board h.claims) (place : ℕ) (line : Line)
    (there : slice_get h.board.lines place ≡ Some line) (over : IsOver h.board place line) where
  partner_is : partner_of h.board (suc place) ≡ Some over.partner
  partner_is = ap partner_of_line there ∙ over.paired

  -- a send that is over is finished, where a receive took it, or else was claimed, and its message isn't held
  finished : is_receive (Some over.other) ≡ true → is_complete h (suc place) ≡ true
  finished taken =
      let done : is_finished h.board (suc place) ≡ true =
      ap (λ o. is_standard (line_of h.board (suc place)) || is_receive_at h.board o) partner_is
      ∙ (ap (λ o. is_standard (line_of h.board (suc place)) || is_receive o) over.there
      ∙ (ap (λ b. is_standard (line_of h.board (suc place)) || b) taken
      ∙ or_true (is_standard (line_of h.board (suc place))))) in
      ap (λ b. b || was_received h (claim_of h.board (suc place))) done

  collected : is_some (claim_of h.board (suc place)) ≡ true → is_complete h (suc place) ≡ true
  collected claimed =
      let gone : is_claim_collected h.board (suc place) ≡ true =
      ap (λ o. not (is_held o) && is_some (claim_of h.board (suc place))) over.empty ∙ claimed in
      sym (complete_is h (suc place) held)
      ∙ (ap (λ b. (is_finished h.board (suc place) || b) || was_received h (open_claim h.board (suc place))) gone
      ∙ ap (λ b. b || was_received h (open_claim h.board (suc place))) (or_true (is_finished h.board (suc place))))

  claimed : (a : Selection) → over.other.post ≡ Claim a → is_some (claim_of h.board (suc place)) ≡ true
  claimed a its =
      ap (λ o. is_some (claim_at h.board o)) partner_is
      ∙ (ap (λ o. is_some (claim_in over.partner o)) over.there
      ∙ ap (λ (p : Post). is_some (claim_in over.partner (Some (record { post = p; partner = over.other.partner }))))
      its)

  complete : (rank : ℕ) → is_send_of rank (Some line) ≡ true → is_complete h (suc place) ≡ true
  complete rank send = by line.post refl over.other.post refl
    where
      by : (mine : Post) → line.post ≡ mine → (theirs : Post) → over.other.post ≡ theirs
          → is_complete h (suc place) ≡ true
      by (Send s) own (Send t) other = (let e = over.exchanged in absurd (cc))
      by (Send s) own (Receive a) other = finished
          (ap (λ (p : Post). is_receive (Some (record { post = p; partner = over.other.partner }))) other)
      by (Send s) own (Claim a) other = collected (claimed a other)
      by (Receive b) own theirs other = absurd (cc)
      by (Claim b) own theirs other = absurd (cc)

  ready : (rank : ℕ) → is_ready h rank (suc place) ≡ true
  ready rank = by (is_send_of rank (Some line)) refl
    where
      asked : (b : Bool) → is_send_of rank (Some line) ≡ b
          → is_ready h rank (suc place) ≡ cond b (is_complete h (suc place)) (is_some (partner_of h.board (suc place)))
      asked b its =
          ap (λ o. cond (is_send_of rank o) (is_complete h (suc place)) (is_some (partner_of h.board (suc place)))) there
          ∙ ap (λ c. cond c (is_complete h (suc place)) (is_some (partner_of h.board (suc place)))) its

      by : (b : Bool) → is_send_of rank (Some line) ≡ b → is_ready h rank (suc place) ≡ true
      by true its = asked true its ∙ complete rank its
      by false its = asked false its ∙ ap is_some partner_is

pub ready_to_all : (h : HubView) (number : ℕ) → AreHeld h.board h.claims → IsPast h.board number
    → IsReadyToAll h number
ready_to_all h zero held past line rank there = absurd (cc)
ready_to_all h (suc place) held past line rank there =
    let p = past line there in
    let same : place ≡ p.0 = (let q : suc place ≡ suc p.0 = p.1 in omega (arith, q)) in
    ready h held place line there (subst (λ z. IsOver h.board z line) (sym same) p.2) rank
