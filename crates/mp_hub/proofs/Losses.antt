-- Nothing is lost.
use Rattle.std.proofs.Common.{◌≡◌, ℕ, zero, suc, ◌⊎◌, inl, inr, List, [], ◌∷◌, length, Bool, true, false, cond, not, Option, Some, None, refl, sym, ap, ◌∙◌, subst, arith, add-one}
use Rattle.std.specs.Prelude.{◌==◌, ◌&&◌, ◌||◌}
use Rattle.std.specs.Option.{is_some}
use Rattle.std.specs.List.{slice_get, list_any, list_all, Contains}
use Rattle.std.proofs.lemmas.Bool.{and_parts, eqb-true, eq-eqb, not-true}
use Rattle.std.proofs.lemmas.Option.{same_Some}
use Rattle.rv_image_types.specs.declared.images.Link.{Link}
use Rattle.mp_types.specs.declared.messages.Envelope.{Envelope}
use Rattle.mp_types.specs.declared.messages.Message.{Message}
use Rattle.mp_types.specs.declared.codes.Code.TheVariants.{BadRequest, BadMessage}
use Rattle.mp_types.specs.declared.replies.Reply.{Reply}
use Rattle.mp_types.specs.declared.replies.Reply.TheVariants as reply
use Rattle.mp_types.specs.declared.requests.Request.TheVariants.{Recv, Collect, Probe, Claim, Claimed, All}
use Rattle.mp_match.specs.declared.posts.Sent.{Sent}
use Rattle.mp_match.specs.declared.posts.Selection.{Selection}
use Rattle.mp_match.specs.declared.posts.Post.{Post}
use Rattle.mp_match.specs.declared.posts.Post.TheVariants as post
use Rattle.mp_match.specs.declared.posts.Line.{Line}
use Rattle.mp_match.specs.Pairs.{accepts, may_pair, is_free, fits, partner_for, partner_at, partner_of_line}
use Rattle.mp_match.specs.PostPairs.{posts_of}
use Rattle.mp_match.specs.Order.{SendsAt, TakesAt}
use Rattle.mp_match.specs.Board.{Board, collect, collect_from, receive_posted, partner_of, line_of, is_send_of, is_receive_of, is_gone, is_held, is_collected, envelope_at, envelope_in, message_at, without}
use Rattle.mp_match.proofs.Places.{found_none, get_front}
use Rattle.mp_match.proofs.Lines.{add_new}
use Rattle.mp_match.proofs.OrderKept.{order_laws, posts_add, chosen}
use Rattle.mp_match.specs.Matches.{Matches}
use Rattle.mp_match.proofs.Matched.{accepting, line_at, pairing_laws}
use Rattle.mp_probe.specs.Claims.{next_number, may_receive, is_waiting, without_claim}
use Rattle.mp_hub.specs.Hub.{HubView, Call, message_or, got_or, may_collect, claimed_now, claim_found, selecting, with_claims, is_complete, is_known, is_ready, are_distinct, all_got, one_got, all_collected, hub_after, reply_of, seen}
use Rattle.mp_hub.specs.Histories.{posts_after, partner_after, got_after, received_after}
use Rattle.mp_hub.specs.Losses.{ClaimsOf, CollectsOf, IsThere, LossLaw}
use Rattle.mp_hub.proofs.HeldKept.{stock, held_message, set_other}
use Rattle.mp_hub.proofs.SentKept.{message_parts, message_from}
use Rattle.mp_hub.proofs.BoardKept.{one_lines}
use Rattle.mp_hub.proofs.Handles.{handles, waiting_claim, not_true, or_cases, same_lines}
use Rattle.mp_hub.proofs.Histories.{posts_are, lines_posts}

module _ (links : List Link) (calls : List Call) where
  abbrev pub hub : HubView
  hub = hub_after links calls

  collect_reply : (rank n : ℕ) → may_collect (hub) rank n ≡ true
      → reply_of links calls rank (Collect n) ≡ message_or reply.NotYet (collect (hub).board n).0
  collect_reply rank n e =
      ap (λ b. (let o : Reply × HubView =
      cond b (got_or (hub) reply.NotYet (collect (hub).board n)) (reply.Code BadRequest, hub) in o.0)) e

  claimed_reply : (rank n : ℕ) → may_receive (hub).claims rank n ≡ true
      → reply_of links calls rank (Claimed true n) ≡ message_or reply.NotYet (collect (hub).board n).0
  claimed_reply rank n e =
      ap (λ b. (let o : Reply × HubView =
      cond b (claimed_now (with_claims (hub) (without_claim (hub).claims rank n)) true n) (reply.Code BadMessage, hub) in
      o.0)) e

  -- the board's partners are those of the posts
  pub partner_is : (place : ℕ) → partner_at (hub).board.lines place ≡ partner_after links calls place
  partner_is place = ap (λ ms. partner_at ms place) (posts_are links calls)

  pub post_at : (place : ℕ) (p : Post) → slice_get (posts_after links calls) place ≡ Some p
      → slice_get (posts_of (hub).board.lines) place ≡ Some p
  post_at place p e = ap (λ ps. slice_get ps place) (lines_posts links calls) ∙ e

  back : (i j : ℕ) → partner_after links calls i ≡ Some j → partner_after links calls j ≡ Some i
  back i j e = (order_laws.pairing (posts_after links calls) i j e).0

  -- a send that isn't paired with a post whose message was got is held
  still_held : (j : ℕ) (s : Sent) → SendsAt (posts_after links calls) j s
      → ((i : ℕ) → partner_after links calls i ≡ Some j → Contains (got_after links calls) (suc i) → ⊥)
      → (x : List ℕ) × (slice_get (hub).board.bodies j ≡ Some (Some x))
  still_held j s sends kept = elim ((stock links calls).kept j s (post_at j (post.Send s) sends)) [
    | inl held ↦ held
    | inr got ↦ absurd (kept got.0 (sym (partner_is got.0) ∙ got.1) got.2)
  ]

  takes_no_send : (place : ℕ) (a : Selection) (s : Sent) → TakesAt (posts_after links calls) place a
      → SendsAt (posts_after links calls) place s → ⊥
  takes_no_send place a s (inl e) f =
      (let same : post.Receive a ≡ post.Send s = same_Some (post.Receive a) (post.Send s) (sym e ∙ f) in cc)
  takes_no_send place a s (inr e) f =
      (let same : post.Claim a ≡ post.Send s = same_Some (post.Claim a) (post.Send s) (sym e ∙ f) in cc)

  -- the message of a post that is paired and whose message wasn't got
  pub paired_message : (place j : ℕ) (a : Selection) → TakesAt (posts_after links calls) place a
      → partner_after links calls place ≡ Some j → (Contains (got_after links calls) (suc place) → ⊥)
      → (x : List ℕ) × (m : Message) × (slice_get (hub).board.bodies j ≡ Some (Some x))
      × (message_at (hub).board j ≡ Some m)
  paired_message place j a takes pair kept = go (pairing_laws.fit (posts_after links calls) place j pair)
    where
      is_place : (i : ℕ) → partner_after links calls i ≡ Some j → Contains (got_after links calls) (suc i) → ⊥
      is_place i e c =
          kept (subst (λ k. Contains (got_after links calls) (suc k))
          (same_Some i place (sym (back i j e) ∙ back place j pair)) c)

      go : (b : Selection) × (s : Sent) × Matches b s
          × ((TakesAt (posts_after links calls) place b × SendsAt (posts_after links calls) j s)
          ⊎ (SendsAt (posts_after links calls) place s × TakesAt (posts_after links calls) j b))
          → (x : List ℕ) × (m : Message) × (slice_get (hub).board.bodies j ≡ Some (Some x))
          × (message_at (hub).board j ≡ Some m)
      go f = elim f.3 [
        | inl t ↦ (let held = still_held j f.1 t.1 is_place in (
          held.0,
          record { envelope = (f.1).envelope; bytes = held.0 },
          held.1,
          held_message (hub).board j f.1 held.0 (post_at j (post.Send f.1) t.1) held.1,
        ))
        | inr t ↦ absurd (takes_no_send place a f.1 takes t.0)
      ]

  -- ---- Collect

  pub takes_of : (rank place : ℕ) → CollectsOf links calls rank place
      → (a : Selection) × TakesAt (posts_after links calls) place a × (a.rank ≡ rank)
  takes_of rank place (inl r) = (r.0, inl r.1, r.2)
  takes_of rank place (inr c) = ((c.0).0, inr (c.0).1, (c.0).2)

  receive_of : (rank place : ℕ) (a : Selection) → TakesAt (posts_after links calls) place a → a.rank ≡ rank
      → is_receive_of rank (line_of (hub).board (suc place)) ≡ true
  receive_of rank place a (inl e) own =
      let l = line_at (hub).board.lines place (post.Receive a) (post_at place (post.Receive a) e) in
      ap (is_receive_of rank) l.1
      ∙ ap (λ (p : Post). is_receive_of rank (Some (record { post = p; partner = (l.0).partner }))) l.2
      ∙ eq-eqb a.rank rank own
  receive_of rank place a (inr e) own =
      let l = line_at (hub).board.lines place (post.Claim a) (post_at place (post.Claim a) e) in
      ap (is_receive_of rank) l.1
      ∙ ap (λ (p : Post). is_receive_of rank (Some (record { post = p; partner = (l.0).partner }))) l.2
      ∙ eq-eqb a.rank rank own

  -- a receive, and a claim that was received, waits under no handle
  waits_not : (rank place : ℕ) → CollectsOf links calls rank place → is_waiting (hub).claims (suc place) ≡ false
  waits_not rank place (inr c) = (handles links calls).past (suc place) c.1
  waits_not rank place (inl r) =
      not_true (is_waiting (hub).claims (suc place)) (λ e.
      let w = waiting_claim (posts_of (hub).board.lines) (hub).claims (suc place) (handles links calls).owned e in
      let c = w.1 in
      let same : place ≡ c.0 = (let n = c.2 in omega (arith, n)) in
      let no : post.Receive r.0 ≡ post.Claim c.1 =
      same_Some (post.Receive r.0) (post.Claim c.1)
      (sym (post_at place (post.Receive r.0) r.1) ∙ ap (λ k. slice_get (posts_of (hub).board.lines) k) same ∙ c.3) in
      cc)

  pub may : (rank place : ℕ) → CollectsOf links calls rank place → is_collected (hub).board (suc place) ≡ false
      → may_collect (hub) rank (suc place) ≡ true
  may rank place c gone =
      let t = takes_of rank place c in
      let own = receive_of rank place t.0 t.1 t.2 in
      let past = waits_not rank place c in
      (λ i. own i && not (past i) && not (gone i))

  collected : (rank place j : ℕ) → CollectsOf links calls rank place → partner_after links calls place ≡ Some j
      → (Contains (got_after links calls) (suc place) → ⊥)
      → (m : Message) × (reply_of links calls rank (Collect (suc place)) ≡ reply.Got m)
  collected rank place j c pair kept =
      let t = takes_of rank place c in
      let p = paired_message place j t.0 t.1 pair kept in
      let at : partner_of (hub).board (suc place) ≡ Some j = partner_is place ∙ pair in
      let gone : is_collected (hub).board (suc place) ≡ false =
      ap (is_gone (hub).board) at ∙ ap (λ o. not (is_held o)) p.2 in
      let allowed = may rank place c gone in
      let message : (collect (hub).board (suc place)).0 ≡ Some p.1 =
      ap (λ o. (collect_from (hub).board o).0) at ∙ p.3 in
      (p.1, collect_reply rank (suc place) allowed ∙ ap (message_or reply.NotYet) message)

  waited : (rank place : ℕ) → CollectsOf links calls rank place → partner_after links calls place ≡ None
      → reply_of links calls rank (Collect (suc place)) ≡ reply.NotYet
  waited rank place c alone =
      let at : partner_of (hub).board (suc place) ≡ None = partner_is place ∙ alone in
      let allowed = may rank place c (ap (is_gone (hub).board) at) in
      collect_reply rank (suc place) allowed
      ∙ ap (λ o. message_or reply.NotYet (collect_from (hub).board o).0) at

  -- ---- Claimed

  pub claimed : (rank place : ℕ) → ClaimsOf links calls rank place
      → (Contains (received_after links calls) (suc place) → ⊥)
      → (m : Message) × (reply_of links calls rank (Claimed true (suc place)) ≡ reply.Got m)
  claimed rank place c kept =
      elim ((handles links calls).waits place c.0 (post_at place (post.Claim c.0) c.1)) [
        | inl taken ↦ absurd (kept taken)
        | inr waits ↦
            (let pair = (handles links calls).paired place c.0 (post_at place (post.Claim c.0) c.1) in
            let p = paired_message place pair.0 c.0 (inr c.1) (sym (partner_is place) ∙ pair.1)
            (λ got. kept ((handles links calls).got_later place c.0 (post_at place (post.Claim c.0) c.1) got)) in
            let own : may_receive (hub).claims rank (suc place) ≡ true =
            ap (λ r. may_receive (hub).claims r (suc place)) (sym c.2) ∙ waits in
            let message : (collect (hub).board (suc place)).0 ≡ Some p.1 =
            ap (λ o. (collect_from (hub).board o).0) pair.1 ∙ p.3 in
            (p.1, claimed_reply rank (suc place) own ∙ ap (message_or reply.NotYet) message))
      ]

  -- ---- messages that are there

  -- a receive or a claim finds a send that no post has, where there is one that it matches
  record FoundSend (p : Post) : Type 0 where
    place : ℕ
    sent : Sent
    found : partner_for (hub).board.lines p ≡ Some place
    sends : SendsAt (posts_after links calls) place sent
    alone : partner_after links calls place ≡ None

  pub post_out : (ms : List Line) (i : ℕ) (m : Line) → slice_get ms i ≡ Some m → slice_get (posts_of ms) i ≡ Some m.post
  post_out [] i m e = absurd (cc)
  post_out (x ∷ ms) zero m e = ap (λ (y : Line). Some y.post) (same_Some x m e)
  post_out (x ∷ ms) (suc i) m e = post_out ms i m e

  finds : (p : Post) (rank comm : ℕ) (source tag : Option ℕ)
      → ((s : Sent) → accepts (selecting rank comm source tag) s ≡ true → may_pair p (post.Send s) ≡ true)
      → ((q : Post) → may_pair p q ≡ true → (s : Sent) × (q ≡ post.Send s))
      → IsThere links calls rank comm source tag → FoundSend p
  finds p rank comm source tag takes only there = go (partner_for (hub).board.lines p) refl
    where
      go : (o : Option ℕ) → partner_for (hub).board.lines p ≡ o → FoundSend p
      go None e =
          let s = there.1 in
          let l = line_at (hub).board.lines there.0 (post.Send s) (post_at there.0 (post.Send s) there.2) in
          let free : (l.0).partner ≡ None = sym (ap partner_of_line l.1) ∙ partner_is there.0 ∙ there.3 in
          let pair : may_pair p (l.0).post ≡ true =
          ap (may_pair p) l.2 ∙ takes s (accepting (selecting rank comm source tag) s there.4) in
          let fit : fits p l.0 ≡ true = (λ i. is_free (free i) && pair i) in
          let unfit : fits p l.0 ≡ false = found_none (fits p) 0 (hub).board.lines e there.0 l.0 l.1 in
          absurd (cc)
      go (Some q) e =
          let c = chosen (hub).board.lines p q e in
          let t = only (c.line).post c.pair in
          record {
            place = q;
            sent = t.0;
            found = e;
            sends = ap (λ ps. slice_get ps q) (sym (lines_posts links calls))
                ∙ post_out (hub).board.lines q c.line c.here ∙ ap (λ x. Some x) t.1;
            alone = sym (partner_is q) ∙ ap partner_of_line c.here ∙ c.free;
          }

  receive_only : (a : Selection) (q : Post) → may_pair (post.Receive a) q ≡ true → (s : Sent) × (q ≡ post.Send s)
  receive_only a (post.Send s) e = (s, refl)
  receive_only a (post.Receive b) e = absurd (cc)
  receive_only a (post.Claim b) e = absurd (cc)

  claim_only : (a : Selection) (q : Post) → may_pair (post.Claim a) q ≡ true → (s : Sent) × (q ≡ post.Send s)
  claim_only a (post.Send s) e = (s, refl)
  claim_only a (post.Receive b) e = absurd (cc)
  claim_only a (post.Claim b) e = absurd (cc)

  envelope_is : (p : Post) (f : FoundSend p) → envelope_at (hub).board (Some f.place) ≡ Some (f.sent).envelope
  envelope_is p f =
      let l = line_at (hub).board.lines f.place (post.Send f.sent) (post_at f.place (post.Send f.sent) f.sends) in
      ap envelope_in l.1 ∙ ap (λ (x : Post). envelope_in (Some (record { post = x; partner = (l.0).partner }))) l.2

  sees : (rank comm : ℕ) (source tag : Option ℕ) → IsThere links calls rank comm source tag
      → (e : Envelope) × (reply_of links calls rank (Probe comm source tag) ≡ reply.Seen e)
  sees rank comm source tag there =
      let a = selecting rank comm source tag in
      let f = finds (post.Receive a) rank comm source tag (λ s e. e) (receive_only a) there in (
        (f.sent).envelope,
        ap (λ o. seen (envelope_at (hub).board o)) f.found ∙ ap seen (envelope_is (post.Receive a) f),
      )

  holds : (rank comm : ℕ) (source tag : Option ℕ) → IsThere links calls rank comm source tag
      → (number : ℕ) × (e : Envelope) × (reply_of links calls rank (Claim comm source tag) ≡ reply.Held number e)
  holds rank comm source tag there =
      let a = selecting rank comm source tag in
      let f = finds (post.Claim a) rank comm source tag (λ s e. e) (claim_only a) there in (
        next_number (hub).board,
        (f.sent).envelope,
        ap (λ o. (claim_found hub a (envelope_at (hub).board o)).0) f.found
            ∙ ap (λ o. (claim_found hub a o).0) (envelope_is (post.Claim a) f),
      )

  receives : (rank comm : ℕ) (source tag : Option ℕ) → IsThere links calls rank comm source tag
      → (m : Message) × (reply_of links calls rank (Recv true comm source tag) ≡ reply.Got m)
  receives rank comm source tag there =
      let a = selecting rank comm source tag in
      let b = (hub).board in
      let f = finds (post.Receive a) rank comm source tag (λ s e. e) (receive_only a) there in
      let held = still_held f.place f.sent f.sends (λ i pair c.
      (let no : Some i ≡ None = sym (back i f.place pair) ∙ f.alone in cc)) in
      let sent : slice_get (posts_of (receive_posted b a).lines) f.place ≡ Some (post.Send f.sent) =
      ap (λ ps. slice_get ps f.place) (posts_add b.lines (post.Receive a))
      ∙ get_front (posts_of b.lines) (post.Receive a ∷ []) f.place (post.Send f.sent)
      (post_at f.place (post.Send f.sent) f.sends) in
      let message = held_message (receive_posted b a) f.place f.sent held.0 sent
      (get_front b.bodies (None ∷ []) f.place (Some held.0) held.1) in
      let partner : partner_of (receive_posted b a) (next_number b) ≡ Some f.place =
      ap (λ n. partner_of (receive_posted b a) n) (add-one (length b.lines))
      ∙ ap partner_of_line (add_new b.lines (post.Receive a)) ∙ f.found in (
        record { envelope = (f.sent).envelope; bytes = held.0 },
        ap (λ o. message_or (reply.Posted (next_number b) false) (collect_from (receive_posted b a) o).0) partner
            ∙ ap (message_or (reply.Posted (next_number b) false)) message,
      )

  -- ---- All

  -- the post is a send of the rank's, or it has a message on the board
  abbrev IsGiven : ℕ → Board → ℕ → Type 0
  IsGiven rank b n = (is_send_of rank (line_of (hub).board n) ≡ true)
      ⊎ ((place : ℕ) × (j : ℕ) × (m : Message) × (n ≡ suc place) × (partner_at (hub).board.lines place ≡ Some j)
      × (message_at b j ≡ Some m))

  any_at : {A : Type 0} (p : A → Bool) (xs : List A) (k : ℕ) (y : A) → slice_get xs k ≡ Some y → p y ≡ true
      → list_any p xs ≡ true
  any_at p [] k y e t = absurd (cc)
  any_at p (x ∷ xs) zero y e t = ap (λ b. b || list_any p xs) (ap p (same_Some x y e) ∙ t)
  any_at p (x ∷ xs) (suc k) y e t = go (p x) (any_at p xs k y e t)
    where
      go : (b : Bool) → list_any p xs ≡ true → (b || list_any p xs) ≡ true
      go true h = refl
      go false h = h

  pub all_at : {A : Type 0} (p : A → Bool) (xs : List A) (k : ℕ) (y : A) → list_all p xs ≡ true
      → slice_get xs k ≡ Some y
      → p y ≡ true
  all_at p [] k y h e = absurd (cc)
  all_at p (x ∷ xs) zero y h e = ap p (sym (same_Some x y e)) ∙ (and_parts (p x) (list_all p xs) h).0
  all_at p (x ∷ xs) (suc k) y h e = all_at p xs k y (and_parts (p x) (list_all p xs) h).1 e

  message_stays : (b : Board) (i j : ℕ) (m : Message) → (i ≡ j → ⊥) → message_at b j ≡ Some m
      → message_at (without b i) j ≡ Some m
  message_stays b i j m apart e =
      let p = message_parts (envelope_at b (Some j)) (slice_get b.bodies j) m e in
      message_from (without b i) j m p.0 (set_other b.bodies i j m.bytes apart p.1)

  one_place : (i k j : ℕ) → partner_at (hub).board.lines i ≡ Some j → partner_at (hub).board.lines k ≡ Some j → i ≡ k
  one_place i k j e f =
      same_Some i k (sym (back i j (sym (partner_is i) ∙ e)) ∙ back k j (sym (partner_is k) ∙ f))

  -- what is given stays when another post is collected
  given_stays : (rank : ℕ) (b : Board) (x n : ℕ) → b.lines ≡ (hub).board.lines → (x ≡ n → ⊥) → IsGiven rank b n
      → IsGiven rank (one_got rank b x).1 n
  given_stays rank b x n same apart (inl sends) = inl sends
  given_stays rank b x n same apart (inr g) =
      inr (g.0, g.1, g.2, g.3, g.4, go (is_send_of rank (line_of b x)))
    where
      collected_other : (x : ℕ) → (x ≡ n → ⊥) → message_at (collect b x).1 g.1 ≡ Some g.2
      collected_other zero apart = g.5
      collected_other (suc place) apart = at (partner_at b.lines place) refl
        where
          at : (o : Option ℕ) → partner_at b.lines place ≡ o → message_at (collect_from b o).1 g.1 ≡ Some g.2
          at None e = g.5
          at (Some i) e =
              message_stays b i g.1 g.2 (λ f. apart (ap suc (one_place place g.0 g.1
              (ap (λ ms. partner_at ms place) (sym same) ∙ e ∙ ap (λ k. Some k) f) g.4) ∙ sym g.3)) g.5

      go : (c : Bool) → (let o : Option Message × Board = cond c (None, b) (collect b x) in
          message_at o.1 g.1 ≡ Some g.2)
      go true = g.5
      go false = collected_other x apart

  given_some : (rank : ℕ) (b : Board) (n : ℕ) → b.lines ≡ (hub).board.lines → IsGiven rank b n
      → (one_got rank b n).0 ≡ None → is_send_of rank (line_of (hub).board n) ≡ true
  given_some rank b n same (inl sends) none = sends
  given_some rank b n same (inr g) none = go (is_send_of rank (line_of b n)) refl none
    where
      go : (c : Bool) → is_send_of rank (line_of b n) ≡ c
          → (let o : Option Message × Board = cond c (None, b) (collect b n) in o.0 ≡ None)
          → is_send_of rank (line_of (hub).board n) ≡ true
      go true e f = sym (same_lines rank (hub).board b same n) ∙ e
      go false e f =
          let message : (collect b n).0 ≡ Some g.2 =
          ap (λ k. (collect b k).0) g.3
          ∙ ap (λ o. (collect_from b o).0) (ap (λ ms. partner_at ms g.0) same ∙ g.4) ∙ g.5 in
          let no : Some g.2 ≡ None = sym message ∙ f in
          absurd (cc)

  sends_alone : (rank : ℕ) (ns : List ℕ) (b : Board) → b.lines ≡ (hub).board.lines → are_distinct ns ≡ true
      → ((k n : ℕ) → slice_get ns k ≡ Some n → IsGiven rank b n)
      → (i number : ℕ) → slice_get ns i ≡ Some number → slice_get (all_got rank b ns).0 i ≡ Some None
      → is_send_of rank (line_of (hub).board number) ≡ true
  sends_alone rank [] b same distinct given i number e f = absurd (cc)
  sends_alone rank (x ∷ ns) b same distinct given zero number e f =
      let is : x ≡ number = same_Some x number e in
      ap (λ n. is_send_of rank (line_of (hub).board n)) (sym is)
      ∙ given_some rank b x same (given 0 x refl) (same_Some (one_got rank b x).0 None f)
  sends_alone rank (x ∷ ns) b same distinct given (suc i) number e f =
      let parts = and_parts (not (list_any (λ m. m == x) ns)) (are_distinct ns) distinct in
      sends_alone rank ns (one_got rank b x).1 (one_lines rank b x ∙ same) parts.1 (λ k n at.
      given_stays rank b x n same (λ is.
      (let twice = any_at (λ m. m == x) ns k n at (eq-eqb n x (sym is)) in
      let no : false ≡ true = ap not (sym twice) ∙ parts.0 in cc)) (given (suc k) n at)) i number e f

  -- a receive that may be collected, and is ready, is given its message
  ready_given : (rank n : ℕ) → is_known (hub) rank n ≡ true → is_ready (hub) rank n ≡ true → IsGiven rank (hub).board n
  ready_given rank n known ready = go (is_send_of rank (line_of (hub).board n)) refl ready
    where
      message : (place j : ℕ) → is_receive_of rank (slice_get (hub).board.lines place) ≡ true
          → partner_at (hub).board.lines place ≡ Some j
          → is_held (slice_get (hub).board.bodies j) ≡ true → (m : Message) × (message_at (hub).board j ≡ Some m)
      message place j own pair held = at (slice_get (hub).board.bodies j) refl held
        where
          send : (x : List ℕ) → slice_get (hub).board.bodies j ≡ Some (Some x)
              → (b : Selection) × (s : Sent) × Matches b s
              × ((TakesAt (posts_after links calls) place b × SendsAt (posts_after links calls) j s)
              ⊎ (SendsAt (posts_after links calls) place s × TakesAt (posts_after links calls) j b))
              → (m : Message) × (message_at (hub).board j ≡ Some m)
          send x e f = elim f.3 [
            | inl t ↦ (
              record { envelope = (f.1).envelope; bytes = x },
              held_message (hub).board j f.1 x (post_at j (post.Send f.1) t.1) e,
            )
            | inr t ↦
                (let l = line_at (hub).board.lines place (post.Send f.1) (post_at place (post.Send f.1) t.0) in
                let no : false ≡ true =
                sym (ap (is_receive_of rank) l.1
                ∙ ap (λ (p : Post). is_receive_of rank (Some (record { post = p; partner = (l.0).partner }))) l.2)
                ∙ own in absurd (cc))
          ]

          at : (o : Option (Option (List ℕ))) → slice_get (hub).board.bodies j ≡ o → is_held o ≡ true
              → (m : Message) × (message_at (hub).board j ≡ Some m)
          at None e f = absurd (cc)
          at (Some None) e f = absurd (cc)
          at (Some (Some x)) e f =
              send x e (pairing_laws.fit (posts_after links calls) place j (sym (partner_is place) ∙ pair))

      receive : (n : ℕ) → may_collect (hub) rank n ≡ true → is_some (partner_of (hub).board n) ≡ true
          → IsGiven rank (hub).board n
      receive zero may there = absurd (cc)
      receive (suc place) may there = at (partner_at (hub).board.lines place) refl there
        where
          at : (o : Option ℕ) → partner_at (hub).board.lines place ≡ o → is_some o ≡ true
              → IsGiven rank (hub).board (suc place)
          at None e f = absurd (cc)
          at (Some j) e f =
              let own = is_receive_of rank (line_of (hub).board (suc place)) in
              let past = not (is_waiting (hub).claims (suc place)) in
              let kept = not (is_collected (hub).board (suc place)) in
              let p = and_parts (own && past) kept may in
              let gone : is_collected (hub).board (suc place) ≡ false =
              not-true (is_collected (hub).board (suc place)) p.1 in
              let held : is_held (slice_get (hub).board.bodies j) ≡ true =
              turn (is_held (slice_get (hub).board.bodies j)) (sym (ap (is_gone (hub).board) e) ∙ gone) in
              let m = message place j (and_parts own past p.0).0 e held in
              inr (place, j, m.0, refl, e, m.1)
            where
              turn : (b : Bool) → not b ≡ false → b ≡ true
              turn true h = refl
              turn false h = absurd (cc)

      go : (c : Bool) → is_send_of rank (line_of (hub).board n) ≡ c
          → cond c (is_complete (hub) n) (is_some (partner_of (hub).board n)) ≡ true → IsGiven rank (hub).board n
      go true e f = inl e
      go false e f = elim (or_cases (may_collect (hub) rank n) (is_send_of rank (line_of (hub).board n)) known) [
        | inl may ↦ receive n may f
        | inr sends ↦ inl sends
      ]

  pub send_there : (rank n : ℕ) → is_send_of rank (line_of (hub).board n) ≡ true
      → (place : ℕ) × (s : Sent) × (n ≡ suc place) × SendsAt (posts_after links calls) place s
      × (s.envelope.source ≡ rank)
  send_there rank zero e = absurd (cc)
  send_there rank (suc place) e = go (slice_get (hub).board.lines place) refl e
    where
      line : (p : Post) (o : Option ℕ) → slice_get (hub).board.lines place ≡ Some (record { post = p; partner = o })
          → is_send_of rank (Some (record { post = p; partner = o })) ≡ true
          → (k : ℕ) × (s : Sent) × (suc place ≡ suc k) × SendsAt (posts_after links calls) k s
          × (s.envelope.source ≡ rank)
      line (post.Send s) o at f = (
        place,
        s,
        refl,
        ap (λ ps. slice_get ps place) (sym (lines_posts links calls)) ∙ post_out (hub).board.lines place _ at,
        eqb-true s.envelope.source rank f,
      )
      line (post.Receive a) o at f = absurd (cc)
      line (post.Claim a) o at f = absurd (cc)

      go : (o : Option Line) → slice_get (hub).board.lines place ≡ o → is_send_of rank o ≡ true
          → (k : ℕ) × (s : Sent) × (suc place ≡ suc k) × SendsAt (posts_after links calls) k s
          × (s.envelope.source ≡ rank)
      go None at f = absurd (cc)
      go (Some l) at f = line l.post l.partner at f

  several : (rank i number : ℕ) (ns : List ℕ) (gots : List (Option Message))
      → reply_of links calls rank (All ns) ≡ reply.AllGot gots
      → slice_get ns i ≡ Some number → slice_get gots i ≡ Some None
      → (place : ℕ) × (s : Sent) × (number ≡ suc place) × SendsAt (posts_after links calls) place s
      × (s.envelope.source ≡ rank)
  several rank i number ns gots r at none =
      go (are_distinct ns && list_all (λ n. is_known (hub) rank n) ns) refl
      (list_all (λ n. is_ready (hub) rank n) ns) refl r
    where
      given : (are_distinct ns && list_all (λ n. is_known (hub) rank n) ns) ≡ true
          → list_all (λ n. is_ready (hub) rank n) ns ≡ true → (all_got rank (hub).board ns).0 ≡ gots
          → (place : ℕ) × (s : Sent) × (number ≡ suc place) × SendsAt (posts_after links calls) place s
          × (s.envelope.source ≡ rank)
      given e f same =
          let p = and_parts (are_distinct ns) (list_all (λ n. is_known (hub) rank n) ns) e in
          send_there rank number (sends_alone rank ns (hub).board refl p.0 (λ k n there.
          ready_given rank n (all_at (λ n. is_known (hub) rank n) ns k n p.1 there)
          (all_at (λ n. is_ready (hub) rank n) ns k n f there)) i number at (ap (λ gs. slice_get gs i) same ∙ none))

      go : (c : Bool) → (are_distinct ns && list_all (λ n. is_known (hub) rank n) ns) ≡ c
          → (d : Bool) → list_all (λ n. is_ready (hub) rank n) ns ≡ d
          → (cond c (cond d (all_collected hub (all_got rank (hub).board ns)) (reply.NotYet, hub))
          (reply.Code BadRequest, hub)).0 ≡ reply.AllGot gots
          → (place : ℕ) × (s : Sent) × (number ≡ suc place) × SendsAt (posts_after links calls) place s
          × (s.envelope.source ≡ rank)
      go true e true f g = given e f (cc)
      go true e false f g = absurd (cc)
      go false e d f g = absurd (cc)

pub loss_law : LossLaw
loss_law = record {
  collected = collected;
  waited = waited;
  claimed = claimed;
  received = receives;
  seen = sees;
  held = holds;
  all = several;
  once = λ links calls. (stock links calls).once;
}
