-- A post for which a rank asks in vain isn't ready.
use Rattle.std.specs.Prelude.{ℕ, ◌≡◌, ◌&&◌, not, Bool, cond, Option, Some, None, true, false}
use Rattle.std.specs.Option.{is_some}
use Rattle.std.proofs.Common.{refl, ap, ◌∙◌}
use Rattle.std.proofs.lemmas.Bool.{and_parts, not-true}
use Rattle.mp_types.specs.declared.requests.Request.TheVariants as request
use Rattle.mp_match.specs.declared.posts.Line.{Line}
use Rattle.mp_match.specs.declared.posts.Post.{Post}
use Rattle.mp_match.specs.declared.posts.Post.TheVariants.{Send, Receive, Claim}
use Rattle.mp_match.specs.Board.{is_collected, is_receive_of, is_send_of, line_of, partner_of}
use Rattle.mp_probe.specs.Claims.{is_waiting}
use Rattle.mp_hub.specs.Hub.{HubView, is_complete, is_ready}
use Rattle.mp_hub.specs.Vain.{asks_in_vain}

no_send : (rank : ℕ) (o : Option Line) → is_receive_of rank o ≡ true → is_send_of rank o ≡ false
no_send rank None its = absurd (cc)
no_send rank (Some line) its = by line.post its
  where
    by : (p : Post) → is_receive_of rank (Some (record { post = p; partner = None })) ≡ true
        → is_send_of rank (Some (record { post = p; partner = None })) ≡ false
    by (Send s) e = absurd (cc)
    by (Receive a) e = refl
    by (Claim a) e = refl

module _ (h : HubView) (rank post : ℕ) where
  as_asked : (b : Bool) → is_send_of rank (line_of h.board post) ≡ b
      → is_ready h rank post ≡ cond b (is_complete h post) (is_some (partner_of h.board post))
  as_asked b its = ap (λ c. cond c (is_complete h post) (is_some (partner_of h.board post))) its

  pub collected : asks_in_vain h rank (request.Collect post) ≡ true → is_ready h rank post ≡ false
  collected vain =
      let receives = is_receive_of rank (line_of h.board post) in
      let received = not (is_waiting h.claims post) in
      let got = not (is_collected h.board post) in
      let alone = not (is_some (partner_of h.board post)) in
      let parts = and_parts (receives && received && got) alone vain in
      let may = and_parts (receives && received) got parts.0 in
      let is = and_parts receives received may.0 in
      as_asked false (no_send rank (line_of h.board post) is.0) ∙ not-true (is_some (partner_of h.board post)) parts.1

  pub finished : asks_in_vain h rank (request.Finished post) ≡ true → is_ready h rank post ≡ false
  finished vain =
      let parts = and_parts (is_send_of rank (line_of h.board post)) (not (is_complete h post)) vain in
      as_asked true parts.0 ∙ not-true (is_complete h post) parts.1
