-- Once nothing is on its way, the hub is the one at which all has arrived.
use Rattle.std.proofs.Common.{◌≡◌, ◌∙◌, ℕ, suc, ◌⊎◌, inl, inr, refl, sym, ap, subst, true, false, List, [], ◌∷◌, Option, Some, None}
use Rattle.std.specs.Prelude.{not, nat_lt, ◌&&◌}
use Rattle.std.specs.List.{slice_get}
use Rattle.std.proofs.lemmas.Option.{same_Some}
use Rattle.rv_image_types.specs.declared.images.Link.{Link}
use Rattle.mp_types.specs.declared.messages.Envelope.{Envelope}
use Rattle.mp_types.specs.declared.replies.Reply.TheVariants as reply
use Rattle.mp_types.specs.declared.requests.Request.{Request}
use Rattle.mp_types.specs.declared.requests.Request.TheVariants as request
use Rattle.mp_match.specs.declared.posts.Line.{Line}
use Rattle.mp_match.specs.declared.posts.Post.{Post}
use Rattle.mp_match.specs.declared.posts.Post.TheVariants.{Claim, Receive, Send}
use Rattle.mp_match.specs.declared.posts.Selection.{Selection}
use Rattle.mp_match.specs.declared.posts.Sent.{Sent}
use Rattle.mp_match.specs.Board.{collect, envelope_at, envelope_in, held_count}
use Rattle.mp_match.specs.Order.{ReceivesAt, SendsAt, TakesAt}
use Rattle.mp_match.specs.Pairs.{accepts, is_free, partner_at, partner_for}
use Rattle.mp_match.specs.PostPairs.{pairs, posts_of}
use Rattle.mp_match.proofs.Matched.{line_at}
use Rattle.mp_match.proofs.OrderKept.{chosen, order_laws, posts_pairs}
use Rattle.mp_probe.specs.Claims.{next_number}
use Rattle.mp_hub.specs.Hub.{seen, selecting}
use Rattle.mp_way_laws.specs.Way.{HasArrived, WayView, all_arrived, fits_in, found, lines_of, received}
use Rattle.mp_way_laws.specs.Runs.{NamesSource}
use Rattle.mp_way_laws.specs.Laws.{IsCameTo}
use Rattle.mp_way_laws.specs.Answers.{IsSameHub, reply_at_once, reply_on_way}
use Rattle.mp_way_laws.proofs.Came.{is_well}
use Rattle.mp_way_laws.proofs.Parts.{Well}
use Rattle.cl_way_laws.proofs.Asking.{not_posted, sent_now, told_now}
use Rattle.cl_way_laws.proofs.Received.{fits_send, found_fits, none_fits}
use Rattle.cl_way_laws.proofs.SameHubs.{same_call}

-- ---- lines of the same posts with the same partners

same_line : (m n : Line) → m.post ≡ n.post → m.partner ≡ n.partner → m ≡ n
same_line m n posts partners = λ i. record { post = posts i; partner = partners i }

heads : (p q : Post) (ps qs : List Post) → (p ∷ ps) ≡ (q ∷ qs) → p ≡ q
heads p q ps qs e = cc

tails : (p q : Post) (ps qs : List Post) → (p ∷ ps) ≡ (q ∷ qs) → ps ≡ qs
tails p q ps qs e = cc

same_lines : (ms ns : List Line) → posts_of ms ≡ posts_of ns → ((i : ℕ) → partner_at ms i ≡ partner_at ns i) → ms ≡ ns
same_lines [] [] posts partners = refl
same_lines [] (n ∷ ns) posts partners = absurd (cc)
same_lines (m ∷ ms) [] posts partners = absurd (cc)
same_lines (m ∷ ms) (n ∷ ns) posts partners =
    let one = same_line m n (heads m.post n.post (posts_of ms) (posts_of ns) posts) (partners 0) in
    let rest = same_lines ms ns (tails m.post n.post (posts_of ms) (posts_of ns) posts) (λ i. partners (suc i)) in
    (λ i. one i ∷ rest i)

-- ---- partners

module _ (ps : List Post) (ms : List Line) (arr : List ℕ) (well : Well ps ms arr)
    (all : (place : ℕ) (s : Sent) → SendsAt ps place s → HasArrived arr place) where
  -- who has no partner has none then
  alone : (i j : ℕ) → partner_at (pairs ps) i ≡ Some j → partner_at ms i ≡ None → partner_at ms j ≡ None
  alone i j then none = go (partner_at ms j) refl
    where
      go : (o : Option ℕ) → partner_at ms j ≡ o → partner_at ms j ≡ None
      go None e = e
      go (Some k) e =
          let back = (order_laws.pairing ps i j then).0 in
          let same : k ≡ i = same_Some k i (sym (well.part j k e) ∙ back) in
          let both = subst (λ x. partner_at ms x ≡ Some j) same (well.both j k e) in
          absurd (cc)

  idle : (i j : ℕ) → partner_at (pairs ps) i ≡ Some j → partner_at ms i ≡ None → ⊥
  idle i j then none = go pair.3
    where
      pair : (a : Selection) × (s : Sent) × (accepts a s ≡ true)
          × ((TakesAt ps i a × SendsAt ps j s) ⊎ (SendsAt ps i s × TakesAt ps j a))
      pair = (order_laws.pairing ps i j then).1

      receives : (k : ℕ) → TakesAt ps k pair.0 → ReceivesAt ps k pair.0
      receives k (inl is) = is
      receives k (inr is) = absurd (well.claims k pair.0 is)

      go : (TakesAt ps i pair.0 × SendsAt ps j pair.1) ⊎ (SendsAt ps i pair.1 × TakesAt ps j pair.0) → ⊥
      go (inl x) =
          well.idle i j pair.0 pair.1 (receives i x.0) x.1 (all j pair.1 x.1) none (alone i j then none) pair.2
      go (inr x) =
          well.idle j i pair.0 pair.1 (receives j x.1) x.0 (all i pair.1 x.0) (alone i j then none) none pair.2

  partner_is : (i : ℕ) → partner_at ms i ≡ partner_at (pairs ps) i
  partner_is i = go (partner_at ms i) refl (partner_at (pairs ps) i) refl
    where
      go : (o : Option ℕ) → partner_at ms i ≡ o → (p : Option ℕ) → partner_at (pairs ps) i ≡ p
          → partner_at ms i ≡ partner_at (pairs ps) i
      go (Some j) e p f = e ∙ sym (well.part i j e)
      go None e None f = e ∙ sym f
      go None e (Some j) f = absurd (idle i j f e)

  lines_are : ms ≡ pairs ps
  lines_are = same_lines ms (pairs ps) (well.posts ∙ sym (posts_pairs ps)) partner_is

-- ---- the hub

module _ (links : List Link) (w : WayView) (came : IsCameTo links w)
    (all : (place : ℕ) (s : Sent) → SendsAt (posts_of (lines_of w)) place s → HasArrived w.arrived place) where
  lines_now : lines_of w ≡ pairs (posts_of (lines_of w))
  lines_now =
      let well = is_well links w came in
      let posts = well.1.posts in
      lines_are well.0 (lines_of w) w.arrived well.1
      (λ place s sends. all place s (subst (λ qs. SendsAt qs place s) (sym posts) sends))
      ∙ ap pairs (sym posts)

  pub same_now : IsSameHub w.hub (all_arrived w)
  same_now = record { links = refl; lines = lines_now; bodies = refl; claims = refl; sides = refl }

  -- ---- what isn't there

  -- what a receive doesn't find then it wouldn't find
  none_there : (a : Selection) → found w (Receive a) ≡ None → partner_for (all_arrived w).board.lines (Receive a) ≡ None
  none_there a none = go (partner_for (all_arrived w).board.lines (Receive a)) refl
    where
      fits_there : (place : ℕ) → partner_for (all_arrived w).board.lines (Receive a) ≡ Some place
          → fits_in (Receive a) (slice_get (lines_of w) place) ≡ true
      fits_there place e =
          let c = chosen (all_arrived w).board.lines (Receive a) place e in
          ap (λ ls. fits_in (Receive a) (slice_get ls place)) lines_now ∙ ap (fits_in (Receive a)) c.here
          ∙ (λ i. is_free (c.free i) && c.pair i)

      go : (o : Option ℕ) → partner_for (all_arrived w).board.lines (Receive a) ≡ o
          → partner_for (all_arrived w).board.lines (Receive a) ≡ None
      go None e = e
      go (Some place) e =
          let fits = fits_there place e in
          let s = fits_send (lines_of w) a place fits in
          let at = all place s.0 s.1 in
          let missing = none_fits (lines_of w) (Receive a) w.arrived none at.0 place at.1 in
          absurd (cc)

  unseen : (o : Option Envelope) → seen o ≡ reply.NotYet → o ≡ None
  unseen None e = refl
  unseen (Some envelope) e = absurd (cc)

  -- and a probe finds the message of a send
  found_seen : (a : Selection) → seen (envelope_at w.hub.board (found w (Receive a))) ≡ reply.NotYet
      → found w (Receive a) ≡ None
  found_seen a none = go (found w (Receive a)) refl none
    where
      by_post : (m : Line) (s : Sent) → m.post ≡ Send s → envelope_in (Some m) ≡ Some s.envelope
      by_post m s e = ap (λ p. elim p [ Send t ↦ Some t.envelope | Receive c ↦ None | Claim c ↦ None ]) e

      go : (o : Option ℕ) → found w (Receive a) ≡ o → seen (envelope_at w.hub.board o) ≡ reply.NotYet
          → found w (Receive a) ≡ None
      go None e h = e
      go (Some place) e h =
          let s = fits_send (lines_of w) a place (found_fits (lines_of w) (Receive a) w.arrived place e) in
          let l = line_at (lines_of w) place (Send s.0) s.1 in
          let is = unseen (envelope_at w.hub.board (Some place)) h in
          let also : envelope_at w.hub.board (Some place) ≡ Some s.0.envelope = ap envelope_in l.1
          ∙ by_post l.0 s.0 l.2 in
          absurd (cc)

  -- a call that is told on the way that nothing is there would be told so
  pub vain_now : (r : ℕ) (q : Request) → NamesSource q → reply_on_way w r q ≡ reply.NotYet
      → reply_at_once w r q ≡ reply.NotYet
  vain_now r (request.Send sync comm dest tag bytes) named none =
      absurd (sent_now w (nat_lt (held_count w.hub.board.bodies) 65536) (not sync) (next_number w.hub.board) _ none)
  vain_now r (request.Recv true comm source tag) named none =
      absurd (told_now (next_number w.hub.board)
      (collect (received w (selecting r comm source tag)) (next_number w.hub.board)).0 none)
  vain_now r (request.Recv false comm source tag) named none = absurd (not_posted _ false none)
  vain_now r (request.Probe comm source tag) named none =
      let a = selecting r comm source tag in
      ap (λ o. seen (envelope_at (all_arrived w).board o)) (none_there a (found_seen a none))
  vain_now r (request.Claim comm source tag) named none = absurd named
  vain_now r (request.Claimed now message) named none = absurd named
  vain_now r (request.Collect n) named none = (same_call w.hub (all_arrived w) r (request.Collect n) same_now).0 ∙ none
  vain_now r (request.Finished n) named none =
      (same_call w.hub (all_arrived w) r (request.Finished n) same_now).0 ∙ none
  vain_now r (request.All ns) named none = (same_call w.hub (all_arrived w) r (request.All ns) same_now).0 ∙ none
  vain_now r (request.Init sends comm peer tag parts size) named none =
      (same_call w.hub (all_arrived w) r (request.Init sends comm peer tag parts size) same_now).0 ∙ none
  vain_now r (request.Cut link) named none = (same_call w.hub (all_arrived w) r (request.Cut link) same_now).0 ∙ none
