-- A synchronous send whose receive was posted is complete as it is made, and stays so.
use Rattle.std.proofs.Common.{◌≡◌, ◌∙◌, ℕ, suc, refl, ap, subst, arith, Bool, true, false, List, length, Option, Some, None}
use Rattle.std.specs.Prelude.{◌||◌, cond, nat_lt}
use Rattle.std.specs.Option.{is_some}
use Rattle.std.proofs.lemmas.Bool.{eq-eqb}
use Rattle.mp_types.specs.declared.codes.Code.TheVariants as code
use Rattle.mp_types.specs.declared.replies.Reply.{Reply}
use Rattle.mp_types.specs.declared.replies.Reply.TheVariants as reply
use Rattle.mp_types.specs.declared.requests.Request.TheVariants as request
use Rattle.mp_match.specs.declared.posts.Line.{Line}
use Rattle.mp_match.specs.declared.posts.Post.TheVariants.{Send}
use Rattle.mp_match.specs.declared.posts.Sent.{Sent}
use Rattle.mp_match.specs.Board.{held_count, is_receive, is_receive_at, is_send_of, is_standard, claim_of, line_of, partner_of, send_posted}
use Rattle.mp_match.specs.Pairs.{partner_for, partner_of_line}
use Rattle.mp_match.proofs.Lines.{add_given, add_new}
use Rattle.mp_match.proofs.OrderKept.{chosen}
use Rattle.mp_probe.specs.Claims.{next_number}
use Rattle.mp_hub.specs.Hub.{HubView, is_complete, is_done, outcome, sending, was_received, with_board}
use Rattle.cl_way_laws.proofs.Posting.{receives}

module _ (h : HubView) (r comm dest tag : ℕ) (bytes : List ℕ) where
  abbrev s : Sent
  s = sending r true comm dest tag bytes

  abbrev lines : List Line
  lines = h.board.lines

  abbrev n : ℕ
  n = next_number h.board

  -- the hub behind the send, where there is room for it
  abbrev after : HubView
  after = with_board h (send_posted h.board s bytes)

  abbrev new : Line
  new = record { post = Send s; partner = partner_for lines (Send s) }

  there : line_of after.board n ≡ Some new
  there = (let e : suc (length lines)
      ≡ n = omega arith in subst (λ k. line_of after.board k ≡ Some new) e (add_new lines (Send s)))

  partner_is : partner_of after.board n ≡ partner_for lines (Send s)
  partner_is =
      let e : suc (length lines) ≡ n = omega arith in
      subst (λ k. partner_of after.board k ≡ partner_for lines (Send s)) e (ap partner_of_line (add_new lines (Send s)))

  has_receive : (place : ℕ) → partner_for lines (Send s) ≡ Some place
      → is_receive_at after.board (partner_of after.board n) ≡ true
  has_receive place e =
      let c = chosen lines (Send s) place e in
      ap (is_receive_at after.board) (partner_is ∙ e)
      ∙ ap is_receive (add_given lines (Send s) place c.line c.here e)
      ∙ receives s c.line c.line.post refl c.pair (length lines)

  complete : (place : ℕ) → partner_for lines (Send s) ≡ Some place → is_complete after n ≡ true
  complete place e =
      ap (λ b. b || was_received after (claim_of after.board n))
      (ap (λ o. is_standard o || is_receive_at after.board (partner_of after.board n)) there ∙ has_receive place e)

  done_after : (o : Option ℕ) → partner_for lines (Send s) ≡ o → is_some o ≡ true
      → (outcome after r (request.Finished n)).0 ≡ reply.Done
  done_after None e some = absurd (cc)
  done_after (Some place) e some =
      ap (λ b. (let x : Reply × HubView =
      cond b (cond (is_complete after n) reply.Done reply.NotYet, after) (reply.Code code.BadRequest, after) in x.0))
      (ap (is_send_of r) there ∙ eq-eqb r r refl)
      ∙ ap (λ b. cond b reply.Done reply.NotYet) (complete place e)

  same_paired : (a b : Bool) (k m : ℕ) → reply.Posted k a ≡ reply.Posted m b → a ≡ b
  same_paired a b k m e = cc

  -- whoever is told so when it sends is told so when it asks
  pub complete_still : (outcome h r (request.Send true comm dest tag bytes)).0 ≡ reply.Posted n true
      → (outcome (outcome h r (request.Send true comm dest tag bytes)).1 r (request.Finished n)).0 ≡ reply.Done
  complete_still told = go (nat_lt (held_count h.board.bodies) 65536) told
    where
      go : (b : Bool)
          → (let x : Reply × HubView = cond b (reply.Posted n (is_done h.board s), after) (reply.Code code.Full, h)
          in x.0)
          ≡ reply.Posted n true
          → (let x : Reply × HubView = cond b (reply.Posted n (is_done h.board s), after) (reply.Code code.Full, h) in
          (outcome x.1 r (request.Finished n)).0)
          ≡ reply.Done
      go true told =
          done_after (partner_for lines (Send s)) refl (same_paired (is_done h.board s) true n n told)
      go false told = absurd (cc)

  -- a question changes nothing
  pub asked_still : (k : HubView) (m : ℕ) → (outcome k r (request.Finished m)).1 ≡ k
  asked_still k m = go (is_send_of r (line_of k.board m)) (cond (is_complete k m) reply.Done reply.NotYet)
    where
      go : (b : Bool) (x : Reply) → (let y : Reply × HubView = cond b (x, k) (reply.Code code.BadRequest, k) in y.1) ≡ k
      go true x = refl
      go false x = refl
