-- When a send is complete.
use Rattle.std.proofs.Common.{◌≡◌, ℕ, suc, ◌⊎◌, inl, inr, List, Bool, true, false, cond, not, Option, Some, None, refl, sym, ap, ◌∙◌, add-one}
use Rattle.std.specs.Prelude.{◌||◌}
use Rattle.std.specs.List.{slice_get}
use Rattle.std.proofs.lemmas.Bool.{not-true, eq-eqb}
use Rattle.std.proofs.lemmas.Option.{same_Some}
use Rattle.rv_image_types.specs.declared.images.Link.{Link}
use Rattle.mp_types.specs.declared.codes.Code.TheVariants.{BadRequest}
use Rattle.mp_types.specs.declared.replies.Reply.{Reply}
use Rattle.mp_types.specs.declared.replies.Reply.TheVariants as reply
use Rattle.mp_types.specs.declared.requests.Request.TheVariants as request
use Rattle.mp_match.specs.declared.posts.Sent.{Sent}
use Rattle.mp_match.specs.declared.posts.Selection.{Selection}
use Rattle.mp_match.specs.declared.posts.Post.{Post}
use Rattle.mp_match.specs.declared.posts.Post.TheVariants as post
use Rattle.mp_match.specs.declared.posts.Line.{Line}
use Rattle.mp_match.specs.Order.{SendsAt, TakesAt}
use Rattle.mp_match.specs.Matches.{Matches}
use Rattle.mp_match.specs.Board.{line_of, partner_of, is_send_of, is_standard, is_receive, is_receive_at, is_finished, claim_in, claim_at, claim_of}
use Rattle.mp_match.proofs.Matched.{line_at, pairing_laws}
use Rattle.mp_probe.specs.Claims.{is_waiting}
use Rattle.mp_hub.specs.Hub.{HubView, Call, was_received, is_complete, hub_after, reply_of}
use Rattle.mp_hub.specs.Histories.{posts_after, partner_after}
use Rattle.mp_hub.specs.Finished.{IsReceived, IsComplete, FinishedLaw}
use Rattle.mp_hub.proofs.Handles.{handles, may_wait, or_cases}
use Rattle.mp_hub.proofs.Losses.{partner_is, post_at}

or_right : (a b : Bool) → b ≡ true → (a || b) ≡ true
or_right true b h = refl
or_right false b h = h

not_same : (b : Bool) → b ≡ false → not b ≡ true
not_same b e = ap not e

module _ (links : List Link) (calls : List Call) where
  abbrev now : HubView
  now = hub_after links calls

  -- what the line of a post at a place tells
  pub line_tells : {A : Type 0} (f : Option Line → A) (place : ℕ) (p : Post)
      → slice_get (posts_after links calls) place ≡ Some p
      → (o : Option ℕ) × (f (slice_get (now).board.lines place) ≡ f (Some (record { post = p; partner = o })))
  line_tells f place p at =
      let l = line_at (now).board.lines place p (post_at links calls place p at) in (
        (l.0).partner,
        ap f l.1 ∙ ap (λ (q : Post). f (Some (record { post = q; partner = (l.0).partner }))) l.2,
      )

  takes_at : (place j : ℕ) (s : Sent) → SendsAt (posts_after links calls) place s
      → partner_after links calls place ≡ Some j
      → (a : Selection) × TakesAt (posts_after links calls) j a
  takes_at place j s sends pair = go (pairing_laws.fit (posts_after links calls) place j pair)
    where
      no_send : (a : Selection) → TakesAt (posts_after links calls) place a → ⊥
      no_send a (inl e) =
          (let same : post.Receive a ≡ post.Send s = same_Some (post.Receive a) (post.Send s) (sym e ∙ sends) in cc)
      no_send a (inr e) =
          (let same : post.Claim a ≡ post.Send s = same_Some (post.Claim a) (post.Send s) (sym e ∙ sends) in cc)

      go : (b : Selection) × (t : Sent) × Matches b t
          × ((TakesAt (posts_after links calls) place b × SendsAt (posts_after links calls) j t)
          ⊎ (SendsAt (posts_after links calls) place t × TakesAt (posts_after links calls) j b))
          → (a : Selection) × TakesAt (posts_after links calls) j a
      go f = elim f.3 [ inl t ↦ absurd (no_send f.0 t.0) | inr t ↦ (f.0, t.1) ]

  -- the number of a claim that has the message
  claim_number : (j : ℕ) (a : Selection) → slice_get (posts_after links calls) j ≡ Some (post.Claim a)
      → claim_at (now).board (Some j) ≡ Some (suc j)
  claim_number j a at = (line_tells (claim_in j) j (post.Claim a) at).1 ∙ ap (λ n. Some n) (add-one j)

  pub complete_from : (place : ℕ) (s : Sent) → SendsAt (posts_after links calls) place s
      → IsComplete links calls place s
      → is_complete (now) (suc place) ≡ true
  complete_from place s sends (inl standard) =
      let here : is_standard (line_of (now).board (suc place)) ≡ true =
      (line_tells is_standard place (post.Send s) sends).1 ∙ not_same s.sync standard in
      (λ i. (here i || is_receive_at (now).board (partner_of (now).board (suc place)))
      || was_received (now) (claim_of (now).board (suc place)))
  complete_from place s sends (inr r) =
      let pair : partner_of (now).board (suc place) ≡ Some r.0 = partner_is links calls place ∙ r.2 in elim r.3 [
        | inl receives ↦
            (let there : is_receive_at (now).board (partner_of (now).board (suc place)) ≡ true =
            ap (is_receive_at (now).board) pair ∙ (line_tells is_receive r.0 (post.Receive r.1) receives).1 in
            ap (λ b. b || was_received (now) (claim_of (now).board (suc place)))
            (or_right (is_standard (line_of (now).board (suc place)))
            (is_receive_at (now).board (partner_of (now).board (suc place))) there))
        | inr claims ↦
            (let taken : was_received (now) (claim_of (now).board (suc place)) ≡ true =
            ap (λ o. was_received (now) (claim_at (now).board o)) pair
            ∙ ap (was_received (now)) (claim_number r.0 r.1 claims.0)
            ∙ not_same (is_waiting (now).claims (suc r.0)) ((handles links calls).past (suc r.0) claims.1) in
            or_right (is_finished (now).board (suc place))
            (was_received (now) (claim_of (now).board (suc place))) taken)
      ]

  complete_is : (place : ℕ) (s : Sent) → SendsAt (posts_after links calls) place s
      → is_complete (now) (suc place) ≡ true → IsComplete links calls place s
  complete_is place s sends e =
      elim (or_cases (is_finished (now).board (suc place)) (was_received (now) (claim_of (now).board (suc place))) e) [
        | inl finished ↦ elim (or_cases (is_standard (line_of (now).board (suc place)))
            (is_receive_at (now).board (partner_of (now).board (suc place))) finished) [
              | inl standard ↦ inl (not-true s.sync
                  (sym (line_tells is_standard place (post.Send s) sends).1 ∙ standard))
              | inr there ↦ inr (receive (partner_after links calls place) refl there)
            ]
        | inr taken ↦ inr (claim (partner_after links calls place) refl taken)
      ]
    where
      receive : (o : Option ℕ) → partner_after links calls place ≡ o
          → is_receive_at (now).board (partner_of (now).board (suc place)) ≡ true → IsReceived links calls place
      receive None pair there =
          (let no : false ≡ true =
          sym (ap (is_receive_at (now).board) (partner_is links calls place ∙ pair)) ∙ there in absurd (cc))
      receive (Some j) pair there = at (takes_at place j s sends pair)
        where
          at : (a : Selection) × TakesAt (posts_after links calls) j a → IsReceived links calls place
          at t = elim t.1 [
            | inl receives ↦ (j, t.0, pair, inl receives)
            | inr claims ↦
                (let no : false ≡ true =
                sym (ap (is_receive_at (now).board) (partner_is links calls place ∙ pair)
                ∙ (line_tells is_receive j (post.Claim t.0) claims).1) ∙ there in absurd (cc))
          ]

      claim : (o : Option ℕ) → partner_after links calls place ≡ o
          → was_received (now) (claim_of (now).board (suc place)) ≡ true → IsReceived links calls place
      claim None pair taken =
          (let no : false ≡ true =
          sym (ap (λ o. was_received (now) (claim_at (now).board o)) (partner_is links calls place ∙ pair)) ∙ taken in
          absurd (cc))
      claim (Some j) pair taken = at (takes_at place j s sends pair)
        where
          past : (a : Selection) → slice_get (posts_after links calls) j ≡ Some (post.Claim a)
              → is_waiting (now).claims (suc j) ≡ false
          past a claims =
              not-true (is_waiting (now).claims (suc j))
              (sym (ap (λ o. was_received (now) (claim_at (now).board o)) (partner_is links calls place ∙ pair)
              ∙ ap (was_received (now)) (claim_number j a claims)) ∙ taken)

          at : (a : Selection) × TakesAt (posts_after links calls) j a → IsReceived links calls place
          at t = elim t.1 [
            | inl receives ↦ (j, t.0, pair, inl receives)
            | inr claims ↦ elim ((handles links calls).waits j t.0 (post_at links calls j (post.Claim t.0) claims)) [
              | inl received ↦ (j, t.0, pair, inr (claims, received))
              | inr w ↦ (let no : true ≡ false =
                  sym (may_wait (now).claims (t.0).rank (suc j) w) ∙ past t.0 claims in absurd (cc))
            ]
          ]

  -- the reply to the rank that sent it
  told : (place : ℕ) (s : Sent) → SendsAt (posts_after links calls) place s → (b : Bool)
      → is_complete (now) (suc place) ≡ b
      → reply_of links calls s.envelope.source (request.Finished (suc place)) ≡ cond b reply.Done reply.NotYet
  told place s sends b e =
      let own : is_send_of s.envelope.source (line_of (now).board (suc place)) ≡ true =
      (line_tells (is_send_of s.envelope.source) place (post.Send s) sends).1
      ∙ eq-eqb s.envelope.source s.envelope.source refl in
      (λ i. (let o : Reply × HubView =
      cond (own i) (cond (e i) reply.Done reply.NotYet, now) (reply.Code BadRequest, now) in o.0))

pub finished_law : FinishedLaw
finished_law = record {
  done = λ links calls place s sends complete.
      told links calls place s sends true (complete_from links calls place s sends complete);
  not_yet = λ links calls place s sends incomplete.
      told links calls place s sends false (no links calls place s sends incomplete
      (is_complete (hub_after links calls) (suc place)) refl);
}
  where
    no : (links : List Link) (calls : List Call) (place : ℕ) (s : Sent) → SendsAt (posts_after links calls) place s
        → (IsComplete links calls place s → ⊥) → (b : Bool) → is_complete (hub_after links calls) (suc place) ≡ b
        → is_complete (hub_after links calls) (suc place) ≡ false
    no links calls place s sends incomplete true e = absurd (incomplete (complete_is links calls place s sends e))
    no links calls place s sends incomplete false e = e
