-- What a call is told on the way, against what it is told once all has arrived: call by call.
use Rattle.std.specs.Prelude.{ℕ, zero, suc, ◌+◌, ◌≡◌, ◌⊎◌, ◌&&◌, ◌||◌, not, nat_lt, Bool, true, false, cond, List, [], ◌∷◌, ◌++◌, length, Option, Some, None}
use Rattle.std.specs.List.{list_all, slice_get}
use Rattle.std.specs.Option.{is_some}
use Rattle.std.proofs.Common.{refl, sym, ap, ◌∙◌, subst, arith}
use Rattle.std.proofs.lemmas.Bool.{cond-true, eq-eqb}
use mathlib.Core.Logic.{inl, inr}
use Rattle.mp_types.specs.declared.messages.Message.{Message}
use Rattle.mp_types.specs.declared.requests.Request.{Request}
use Rattle.mp_types.specs.declared.requests.Request.TheVariants as request
use Rattle.mp_types.specs.declared.codes.Code.TheVariants.{BadRequest, Full, NoChannel, Shape}
use Rattle.mp_types.specs.declared.replies.Reply.{Reply}
use Rattle.mp_types.specs.declared.replies.Reply.TheVariants.{AllGot, Code, Done, NotYet, Posted}
use Rattle.mp_match.specs.declared.posts.Sent.{Sent}
use Rattle.mp_match.specs.declared.posts.Selection.{Selection}
use Rattle.mp_match.specs.declared.posts.Post.{Post}
use Rattle.mp_match.specs.declared.posts.Post.TheVariants.{Claim, Receive, Send}
use Rattle.mp_match.specs.declared.posts.Line.{Line}
use Rattle.mp_match.specs.Board.{Board, collect, collect_from, envelope_at, held_count, is_collected, is_gone, is_held, is_receive_of, is_send_of, line_of, message_at, partner_of, receive_posted, send_posted, without}
use Rattle.mp_match.specs.Pairs.{add, partner_at, partner_for, partner_of_line}
use Rattle.mp_match.specs.PostPairs.{pairs, posts_of}
use Rattle.mp_match.specs.Order.{ReceivesAt, SendsAt}
use Rattle.mp_match.proofs.Lines.{add_new}
use Rattle.mp_match.proofs.Places.{get_front}
use Rattle.mp_match.proofs.OrderKept.{chosen, posts_add, posts_pairs}
use Rattle.mp_probe.specs.Claims.{is_waiting, next_number}
use Rattle.mp_transfers.specs.declared.sides.Setup.{Setup}
use Rattle.mp_transfers.specs.declared.sides.Side.{Side}
use Rattle.mp_transfers.specs.Inits.{is_receiver, lowest_link, peer_of, same_total, sender_over}
use Rattle.mp_hub.specs.Hub.{HubView, all_collected, all_got, are_distinct, cut_of, got_or, init_first, init_with, is_complete, is_done, is_known, is_ready, may_collect, message_or, outcome as outcome_at_once, seen, selecting, sending, setup_of, side_added, with_board}
use Rattle.mp_hub.proofs.BoardKept.{all_lines, collect_lines, pairs_snoc}
use Rattle.mp_way_laws.specs.Way.{WayView, add_with, all_arrived, answered, found, lines_of, outcome, posted, received, with_hub}
use Rattle.mp_way_laws.specs.Runs.{IsNamed, NamesSource}
use Rattle.mp_way_laws.specs.Answers.{AnswerLaw, IsSameHub, IsToldAs, behind, behind_at_once, in_vain, same, synchronous, waits}
use Rattle.mp_way_laws.proofs.Joined.{new_at, posts_length, posts_with}
use Rattle.mp_way_laws.proofs.Parts.{Well, back_then, finds, free_yet, post_at, post_then, sender, wants}
use Rattle.mp_way_laws.proofs.Came.{is_well}
use Rattle.mp_way_laws.proofs.Bodies.{IsStocked, front_held, is_stocked}
use Rattle.mp_way_laws.proofs.Boards.{IsPartOf, all_ready_too, all_same, collect_same, complete_too, envelope_same, message_held, message_same, ready_met, receive_same, send_same}

same_hub : (h : HubView) → IsSameHub h h
same_hub h = record { links = refl; lines = refl; bodies = refl; claims = refl; sides = refl }

-- a post that may be collected takes a message
takes : (rank : ℕ) (p : Post) → is_receive_of rank (Some (record { post = p; partner = None })) ≡ true
    → (a : Selection) × ((p ≡ Receive a) ⊎ (p ≡ Claim a))
takes rank (Send s) h = absurd (cc)
takes rank (Receive a) h = (a, inl refl)
takes rank (Claim a) h = (a, inr refl)

-- the next number is that of the post at the end
partner_next : (b : Board) (k : ℕ) → partner_of b (k + 1) ≡ partner_at b.lines k
partner_next b k = (let e : suc k ≡ k + 1 = omega arith in ap (partner_of b) (sym e))

line_next : (b : Board) (k : ℕ) → line_of b (k + 1) ≡ slice_get b.lines k
line_next b k = (let e : suc k ≡ k + 1 = omega arith in ap (line_of b) (sym e))

all_agree : (p q : ℕ → Bool) → ((n : ℕ) → q n ≡ p n) → (ns : List ℕ) → list_all q ns ≡ list_all p ns
all_agree p q agree [] = refl
all_agree p q agree (n ∷ ns) = ap (λ x. x && list_all q ns) (agree n) ∙ ap (λ x. p n && x) (all_agree p q agree ns)

module _ (w : WayView) (well : Well (posts_of (lines_of w)) (lines_of w) w.arrived) (stocked : IsStocked w.hub)
    (rank : ℕ) where
  abbrev hub : HubView
  hub = w.hub

  abbrev then : HubView
  then = all_arrived w

  part : IsPartOf hub.board then.board
  part = record { posts = posts_pairs (posts_of (lines_of w)); bodies = refl; part = well.part }

  next_same : next_number then.board ≡ next_number hub.board
  next_same =
      ap (λ k. k + 1) (sym (posts_length then.board.lines) ∙ ap length part.posts ∙ posts_length (lines_of w))

  -- ---- how it is told

  is_same : (q : Request) (x : Reply × WayView) (y : Reply × HubView) → outcome w rank q ≡ x
      → outcome_at_once then rank q ≡ y
      → x.0 ≡ y.0 → IsSameHub (all_arrived x.1) y.1 → IsToldAs w rank q
  is_same q x y e f r h =
      same (ap (λ (o : Reply × WayView). o.0) e ∙ r ∙ sym (ap (λ (o : Reply × HubView). o.0) f))
      (subst (λ (o : Reply × HubView). IsSameHub (all_arrived (behind w rank q)) o.1) (sym f)
      (subst (λ (o : Reply × WayView). IsSameHub (all_arrived o.1) y.1) (sym e) h))

  is_in_vain : (q : Request) → outcome w rank q ≡ (NotYet, w) → IsToldAs w rank q
  is_in_vain q e = in_vain (ap (λ (o : Reply × WayView). o.0) e) (ap (λ (o : Reply × WayView). o.1) e)

  -- a board with the same posts, and one with the same messages
  boarded : (b c : Board) → b.lines ≡ lines_of w → c.lines ≡ then.board.lines → c.bodies ≡ b.bodies
      → IsSameHub (all_arrived (with_hub w (with_board hub b))) (with_board then c)
  boarded b c e f g = record {
    links = refl;
    lines = ap (λ ls. pairs (posts_of ls)) e ∙ sym f;
    bodies = sym g;
    claims = refl;
    sides = refl;
  }

  -- a post more, with any partner so far
  lines_more : (p : Post) (o : Option ℕ) → pairs (posts_of (add_with (lines_of w) p o)) ≡ add then.board.lines p
  lines_more p o = ap pairs (posts_with (lines_of w) p o) ∙ pairs_snoc (posts_of (lines_of w)) p

  -- ---- what may be collected

  -- nobody has a message that a receive waits for on the way
  unmet : (i v : ℕ) → partner_at (lines_of w) i ≡ None → partner_at then.board.lines v ≡ Some i
      → partner_at (lines_of w) v ≡ None
  unmet i v none has = go (partner_at (lines_of w) v) refl
    where
      go : (x : Option ℕ) → partner_at (lines_of w) v ≡ x → partner_at (lines_of w) v ≡ None
      go None e = e
      go (Some x) e = absurd (free_yet (posts_of (lines_of w)) (lines_of w) w.arrived well i v x none has e)

  -- it is held
  held_yet : (i v : ℕ) (a : Selection) → ReceivesAt (posts_of (lines_of w)) i a → partner_at (lines_of w) i ≡ None
      → partner_at then.board.lines i ≡ Some v → is_held (slice_get hub.board.bodies v) ≡ true
  held_yet i v a receives none has =
      let t = sender (posts_of (lines_of w)) well.claims i v a receives has in
      stocked.board.held v t.0 t.1 (unmet i v none (back_then (posts_of (lines_of w)) well.claims i v has))

  collected_same : (n : ℕ) → is_receive_of rank (line_of hub.board n) ≡ true
      → is_collected then.board n ≡ is_collected hub.board n
  collected_same zero its = absurd (cc)
  collected_same (suc i) its = go (partner_at (lines_of w) i) refl (partner_at then.board.lines i) refl
    where
      receives : (o : Option Line) → slice_get (lines_of w) i ≡ o → is_receive_of rank o ≡ true
          → (a : Selection) × ReceivesAt (posts_of (lines_of w)) i a
      receives None e h = absurd (cc)
      receives (Some m) e h =
          let t = takes rank m.post h in
          let here = post_at (lines_of w) i m e in
          elim t.1 [
            | inl f ↦ (t.0, here ∙ ap (λ p. Some p) f)
            | inr f ↦ absurd (well.claims i t.0 (here ∙ ap (λ p. Some p) f))
          ]

      go : (o : Option ℕ) → partner_at (lines_of w) i ≡ o → (k : Option ℕ) → partner_at then.board.lines i ≡ k
          → is_collected then.board (suc i) ≡ is_collected hub.board (suc i)
      go (Some j) e k f = ap (is_gone then.board) (well.part i j e) ∙ sym (ap (is_gone hub.board) e)
      go None e None f = ap (is_gone then.board) f ∙ sym (ap (is_gone hub.board) e)
      go None e (Some v) f =
          let a = receives (slice_get (lines_of w) i) refl its in
          ap (is_gone then.board) f ∙ ap not (held_yet i v a.0 a.1 e f) ∙ sym (ap (is_gone hub.board) e)

  may_same : (n : ℕ) → may_collect then rank n ≡ may_collect hub rank n
  may_same n =
      ap (λ x. x && not (is_waiting hub.claims n) && not (is_collected then.board n))
      (receive_same hub.board then.board part.posts rank n)
      ∙ go (is_receive_of rank (line_of hub.board n)) refl
    where
      go : (x : Bool) → is_receive_of rank (line_of hub.board n) ≡ x
          → (x && not (is_waiting hub.claims n) && not (is_collected then.board n))
          ≡ (x && not (is_waiting hub.claims n) && not (is_collected hub.board n))
      go false e = refl
      go true e = ap (λ c. true && not (is_waiting hub.claims n) && not c) (collected_same n e)

  -- ---- collecting, and asking whether a send is complete

  collects : (n : ℕ) → IsToldAs w rank (request.Collect n)
  collects n = go (may_collect hub rank n) refl (partner_of hub.board n) refl
    where
      go : (b : Bool) → may_collect hub rank n ≡ b → (o : Option ℕ) → partner_of hub.board n ≡ o
          → IsToldAs w rank (request.Collect n)
      go false e o f =
          is_same (request.Collect n) (Code BadRequest, w) (Code BadRequest, then)
          (ap (λ b. answered w (cond b (got_or hub NotYet (collect hub.board n)) (Code BadRequest, hub))) e)
          (ap (λ b. cond b (got_or then NotYet (collect then.board n)) (Code BadRequest, then)) (may_same n ∙ e))
          refl (same_hub then)
      go true e None f =
          is_in_vain (request.Collect n)
          (ap (λ b. answered w (cond b (got_or hub NotYet (collect hub.board n)) (Code BadRequest, hub))) e
          ∙ ap (λ o. answered w (got_or hub NotYet (collect_from hub.board o))) f)
      go true e (Some j) f =
          let g = collect_same hub.board then.board part n j f in
          is_same (request.Collect n) (answered w (got_or hub NotYet (collect hub.board n)))
          (got_or then NotYet (collect then.board n))
          (ap (λ b. answered w (cond b (got_or hub NotYet (collect hub.board n)) (Code BadRequest, hub))) e)
          (ap (λ b. cond b (got_or then NotYet (collect then.board n)) (Code BadRequest, then)) (may_same n ∙ e))
          (ap (message_or NotYet) (sym g.got))
          (boarded (collect hub.board n).1 (collect then.board n).1 (collect_lines hub.board n)
          (collect_lines then.board n) g.boards.bodies)

  finishes : (n : ℕ) → IsToldAs w rank (request.Finished n)
  finishes n = go (is_send_of rank (line_of hub.board n)) refl (is_complete hub n) refl
    where
      q : Request
      q = request.Finished n

      go : (b : Bool) → is_send_of rank (line_of hub.board n) ≡ b → (d : Bool) → is_complete hub n ≡ d
          → IsToldAs w rank q
      go false e d f =
          is_same q (Code BadRequest, w) (Code BadRequest, then)
          (ap (λ b. answered w (cond b (cond (is_complete hub n) Done NotYet, hub) (Code BadRequest, hub))) e)
          (ap (λ b. cond b (cond (is_complete then n) Done NotYet, then) (Code BadRequest, then))
          (send_same hub.board then.board part.posts rank n ∙ e))
          refl (same_hub then)
      go true e false f =
          is_in_vain q
          (ap (λ b. answered w (cond b (cond (is_complete hub n) Done NotYet, hub) (Code BadRequest, hub))) e
          ∙ ap (λ d. answered w (cond d Done NotYet, hub)) f)
      go true e true f =
          is_same q (Done, w) (Done, then)
          (ap (λ b. answered w (cond b (cond (is_complete hub n) Done NotYet, hub) (Code BadRequest, hub))) e
          ∙ ap (λ d. answered w (cond d Done NotYet, hub)) f)
          (ap (λ b. cond b (cond (is_complete then n) Done NotYet, then) (Code BadRequest, then))
          (send_same hub.board then.board part.posts rank n ∙ e)
          ∙ ap (λ d. (cond d Done NotYet, then)) (complete_too hub then part refl n f))
          refl (same_hub then)

  -- ---- several posts

  known_same : (n : ℕ) → is_known then rank n ≡ is_known hub rank n
  known_same n =
      ap (λ x. x || is_send_of rank (line_of then.board n)) (may_same n)
      ∙ ap (λ x. may_collect hub rank n || x) (send_same hub.board then.board part.posts rank n)

  gathers : (ns : List ℕ) → IsToldAs w rank (request.All ns)
  gathers ns =
      go (are_distinct ns && list_all (λ n. is_known hub rank n) ns) refl (list_all (λ n. is_ready hub rank n) ns) refl
    where
      q : Request
      q = request.All ns

      told : Bool → Bool → HubView → Reply × HubView
      told b c h = cond b (cond c (all_collected h (all_got rank h.board ns)) (NotYet, h)) (Code BadRequest, h)

      known : (are_distinct ns && list_all (λ n. is_known then rank n) ns)
          ≡ (are_distinct ns && list_all (λ n. is_known hub rank n) ns)
      known = ap (λ x. are_distinct ns && x)
          (all_agree (λ n. is_known hub rank n) (λ n. is_known then rank n) known_same ns)

      go : (b : Bool) → (are_distinct ns && list_all (λ n. is_known hub rank n) ns) ≡ b
          → (c : Bool) → list_all (λ n. is_ready hub rank n) ns ≡ c → IsToldAs w rank q
      go false e c f =
          is_same q (Code BadRequest, w) (Code BadRequest, then)
          (ap (λ b. answered w (told b (list_all (λ n. is_ready hub rank n) ns) hub)) e)
          (ap (λ b. told b (list_all (λ n. is_ready then rank n) ns) then) (known ∙ e)) refl (same_hub then)
      go true e false f =
          is_in_vain q
          (ap (λ b. answered w (told b (list_all (λ n. is_ready hub rank n) ns) hub)) e
          ∙ ap (λ c. answered w (told true c hub)) f)
      go true e true f =
          let g = all_same rank ns hub.board then.board part (ready_met hub rank ns f) in
          is_same q (answered w (all_collected hub (all_got rank hub.board ns)))
          (all_collected then (all_got rank then.board ns))
          (ap (λ b. answered w (told b (list_all (λ n. is_ready hub rank n) ns) hub)) e
          ∙ ap (λ c. answered w (told true c hub)) f)
          (ap (λ b. told b (list_all (λ n. is_ready then rank n) ns) then) (known ∙ e)
          ∙ ap (λ c. told true c then) (all_ready_too hub then part refl rank ns f))
          (ap (λ gots. AllGot gots) (sym g.got))
          (boarded (all_got rank hub.board ns).1 (all_got rank then.board ns).1 (all_lines rank ns hub.board)
          (all_lines rank ns then.board) g.boards.bodies)

  -- ---- sides of transfers

  abbrev Alike : Reply × HubView → Reply × HubView → Type 0
  Alike x y = (x.0 ≡ y.0) × IsSameHub (all_arrived (with_hub w x.1)) y.1

  refused : (r : Reply) → Alike (r, hub) (r, then)
  refused r = (refl, same_hub then)

  begins : (sends : Bool) (comm peer tag parts size : ℕ) → IsToldAs w rank (request.Init sends comm peer tag parts size)
  begins sends comm peer tag parts size = (let a = go (peer_of hub.sides s) in same a.0 a.1)
    where
      s : Setup
      s = setup_of rank sends comm peer tag parts size

      joins : (link : ℕ) → Alike (side_added hub s link) (side_added then s link)
      joins link = (refl, record { links = refl; lines = refl; bodies = refl; claims = refl; sides = refl })

      first : (o : Option ℕ) → Alike (init_first hub s o) (init_first then s o)
      first None = refused (Code NoChannel)
      first (Some link) = joins link

      second : (other : Side) (b : Bool)
          → Alike (cond b (side_added hub s other.link) (Code Shape, hub))
          (cond b (side_added then s other.link) (Code Shape, then))
      second other true = joins other.link
      second other false = refused (Code Shape)

      go : (o : Option Side) → Alike (init_with hub s o) (init_with then s o)
      go None = first (lowest_link hub.links hub.sides s)
      go (Some other) = second other (same_total s other.setup)

  cuts : (link : ℕ) → IsToldAs w rank (request.Cut link)
  cuts link = (let a = go (is_receiver hub.links rank link) in same a.0 a.1)
    where
      go : (b : Bool)
          → Alike (cond b (cut_of (sender_over hub.sides link), hub) (Code BadRequest, hub))
          (cond b (cut_of (sender_over hub.sides link), then) (Code BadRequest, then))
      go true = refused (cut_of (sender_over hub.sides link))
      go false = refused (Code BadRequest)

  -- ---- sends

  module _ (sync : Bool) (comm dest tag : ℕ) (bytes : List ℕ) where
    abbrev s : Sent
    s = sending rank sync comm dest tag bytes

    abbrev sent_on_way : Bool → Reply × WayView
    sent_on_way b =
        cond b (
          Posted (next_number hub.board) (not s.sync),
          with_hub w (with_board hub (posted hub.board (Send s) None (Some bytes))),
        )
        (Code Full, w)

    abbrev sent_at_once : Bool → Reply × HubView
    sent_at_once b =
        cond b
        (Posted (next_number then.board) (is_done then.board s), with_board then (send_posted then.board s bytes))
        (Code Full, then)

    sent_hub : IsSameHub (all_arrived (sent_on_way true).1) (sent_at_once true).1
    sent_hub = record { links = refl; lines = lines_more (Send s) None; bodies = refl; claims = refl; sides = refl }

    abbrev room : Bool
    room = nat_lt (held_count hub.board.bodies) 65536

    no_room : room ≡ false → IsToldAs w rank (request.Send sync comm dest tag bytes)
    no_room e =
        is_same (request.Send sync comm dest tag bytes) (Code Full, w) (Code Full, then) (ap sent_on_way e)
        (ap sent_at_once e) refl (same_hub then)

    done_too : room ≡ true → not s.sync ≡ is_done then.board s → IsToldAs w rank (request.Send sync comm dest tag bytes)
    done_too e done =
        is_same (request.Send sync comm dest tag bytes) (sent_on_way true) (sent_at_once true) (ap sent_on_way e)
        (ap sent_at_once e)
        (ap (λ d. Posted (next_number hub.board) d) done
        ∙ ap (λ n. Posted n (is_done then.board s)) (sym next_same))
        sent_hub

  sends : (sync : Bool) (comm dest tag : ℕ) (bytes : List ℕ) → IsToldAs w rank (request.Send sync comm dest tag bytes)
  sends false comm dest tag bytes = go (nat_lt (held_count hub.board.bodies) 65536) refl
    where
      go : (b : Bool) → nat_lt (held_count hub.board.bodies) 65536 ≡ b
          → IsToldAs w rank (request.Send false comm dest tag bytes)
      go true e = done_too false comm dest tag bytes e refl
      go false e = no_room false comm dest tag bytes e
  sends true comm dest tag bytes =
      go (nat_lt (held_count hub.board.bodies) 65536) refl (partner_for then.board.lines (Send t)) refl
    where
      t : Sent
      t = sending rank true comm dest tag bytes

      go : (b : Bool) → nat_lt (held_count hub.board.bodies) 65536 ≡ b → (o : Option ℕ)
          → partner_for then.board.lines (Send t) ≡ o → IsToldAs w rank (request.Send true comm dest tag bytes)
      go false e o f = no_room true comm dest tag bytes e
      go true e None f = done_too true comm dest tag bytes e (sym (ap is_some f))
      go true e (Some r) f =
          synchronous comm dest tag bytes refl
          (ap (λ b. (sent_on_way true comm dest tag bytes b).0) e)
          (ap (λ b. (sent_at_once true comm dest tag bytes b).0) e
          ∙ ap (λ n. Posted n (is_done then.board t)) next_same
          ∙ ap (λ o. Posted (next_number hub.board) (is_some o)) f)
          (subst (λ b. IsSameHub (all_arrived (sent_on_way true comm dest tag bytes b).1)
          (sent_at_once true comm dest tag bytes b).1) (sym e) (sent_hub true comm dest tag bytes))

  -- ---- receives and probes

  module _ (comm : ℕ) (source tag : Option ℕ) (named : IsNamed source) where
    abbrev a : Selection
    a = selecting rank comm source tag

    -- the boards behind the post
    abbrev mine : Board
    mine = received w a

    abbrev theirs : Board
    theirs = receive_posted then.board a

    abbrev number : ℕ
    number = next_number hub.board

    behind_post : all_arrived (with_hub w (with_board hub mine)) ≡ with_board then theirs
    behind_post = ap with_lines (lines_more (Receive a) (found w (Receive a)))
      where
        with_lines : List Line → HubView
        with_lines ls =
            with_board hub
            (record { lines = ls; bodies = hub.board.bodies ++ None ∷ []; compared = hub.board.compared })

    found_too : (place : ℕ) → found w (Receive a) ≡ Some place → partner_for then.board.lines (Receive a) ≡ Some place
    found_too place e = finds (posts_of (lines_of w)) (lines_of w) w.arrived well a named place e

    posts_behind : posts_of theirs.lines ≡ posts_of mine.lines
    posts_behind =
        posts_add then.board.lines (Receive a)
        ∙ ap (λ ps. ps ++ Receive a ∷ []) part.posts
        ∙ sym (posts_with (lines_of w) (Receive a) (found w (Receive a)))

    posts : IsToldAs w rank (request.Recv false comm source tag)
    posts =
        same (ap (λ n. Posted n false) (sym next_same))
        (subst (λ h. IsSameHub (all_arrived (with_hub w (with_board hub mine))) h) behind_post
        (same_hub (all_arrived (with_hub w (with_board hub mine)))))

    -- who the post is
    partner_here : partner_of mine number ≡ found w (Receive a)
    partner_here = partner_next mine (length (lines_of w)) ∙ new_at (lines_of w) (Receive a) (found w (Receive a))

    new_line : slice_get theirs.lines (length then.board.lines)
        ≡ Some (record { post = Receive a; partner = partner_for then.board.lines (Receive a) })
    new_line = add_new then.board.lines (Receive a)

    partner_there : partner_of theirs number ≡ partner_for then.board.lines (Receive a)
    partner_there =
        ap (partner_of theirs) (sym next_same) ∙ partner_next theirs (length then.board.lines)
        ∙ ap partner_of_line new_line

    mine_is : (o : Option ℕ) → found w (Receive a) ≡ o
        → outcome w rank (request.Recv true comm source tag)
        ≡ answered w (got_or hub (Posted number false) (collect_from mine o))
    mine_is o e = ap (λ k. answered w (got_or hub (Posted number false) (collect_from mine k))) (partner_here ∙ e)

    theirs_is : (o : Option ℕ) → partner_for then.board.lines (Receive a) ≡ o
        → outcome_at_once then rank (request.Recv true comm source tag)
        ≡ got_or then (Posted number false) (collect_from theirs o)
    theirs_is o e =
        ap (λ n. got_or then (Posted n false) (collect theirs n)) next_same
        ∙ ap (λ k. got_or then (Posted number false) (collect_from theirs k)) (partner_there ∙ e)

    -- the same message, or none
    gets : (o : Option ℕ) → found w (Receive a) ≡ o → partner_for then.board.lines (Receive a) ≡ o
        → IsToldAs w rank (request.Recv true comm source tag)
    gets o e f =
        is_same (request.Recv true comm source tag)
        (answered w (got_or hub (Posted number false) (collect_from mine o)))
        (got_or then (Posted number false) (collect_from theirs o)) (mine_is o e) (theirs_is o f)
        (ap (message_or (Posted number false)) (sym (message o))) (hubs o)
      where
        message : (o : Option ℕ) → (collect_from theirs o).0 ≡ (collect_from mine o).0
        message None = refl
        message (Some place) = message_same mine theirs posts_behind refl place

        hubs : (o : Option ℕ)
            → IsSameHub (all_arrived (with_hub w (with_board hub (collect_from mine o).1)))
            (with_board then (collect_from theirs o).1)
        hubs None = record {
          links = refl;
          lines = lines_more (Receive a) (found w (Receive a));
          bodies = refl;
          claims = refl;
          sides = refl;
        }
        hubs (Some place) = record {
          links = refl;
          lines = lines_more (Receive a) (found w (Receive a));
          bodies = refl;
          claims = refl;
          sides = refl;
        }

    -- ---- a message on its way

    module _ (v : ℕ) (none : found w (Receive a) ≡ None)
        (comes : partner_for then.board.lines (Receive a) ≡ Some v) where
      -- what it would have is held
      held_now : (t : Sent) × SendsAt (posts_of (lines_of w)) v t × (is_held (slice_get hub.board.bodies v) ≡ true)
      held_now =
          let c = chosen then.board.lines (Receive a) v comes in
          let t = wants a (c.line).post c.pair in
          let sends = post_then (posts_of (lines_of w)) well.claims v c.line c.here ∙ ap (λ p. Some p) t.1 in (
            t.0,
            sends,
            stocked.board.held v t.0 sends
                (free (ap partner_of_line c.here ∙ c.free) (partner_at (lines_of w) v) refl),
          )
        where
          free : partner_at then.board.lines v ≡ None → (x : Option ℕ) → partner_at (lines_of w) v ≡ x
              → partner_at (lines_of w) v ≡ None
          free alone None e = e
          free alone (Some x) e = (let g = well.part v x e in absurd (cc))

      held_behind : is_held (slice_get theirs.bodies v) ≡ true
      held_behind = front_held hub.board.bodies None v held_now.2

      sends_behind : SendsAt (posts_of theirs.lines) v held_now.0
      sends_behind =
          subst (λ ps. SendsAt ps v held_now.0)
          (sym (posts_add then.board.lines (Receive a) ∙ ap (λ ps. ps ++ Receive a ∷ []) part.posts))
          (get_front (posts_of (lines_of w)) (Receive a ∷ []) v (Send held_now.0) held_now.1)

      message : (m : Message) × (message_at theirs v ≡ Some m)
      message = message_held theirs v held_now.0 sends_behind held_behind

      may_ask : may_collect (with_board then theirs) rank number ≡ true
      may_ask =
          ap (λ x. x && not (is_waiting hub.claims number) && not (is_collected theirs number))
          (ap (is_receive_of rank)
          (ap (line_of theirs) (sym next_same) ∙ line_next theirs (length then.board.lines) ∙ new_line)
          ∙ eq-eqb rank rank refl)
          ∙ ap (λ ws. true && not (is_waiting ws number) && not (is_collected theirs number)) stocked.claims
          ∙ ap (λ o. true && true && not (is_gone theirs o)) (partner_there ∙ comes)
          ∙ ap (λ x. true && true && not (not x)) held_behind

      -- the question for it that follows the post
      asks : outcome_at_once (all_arrived (behind w rank (request.Recv true comm source tag))) rank
          (request.Collect number)
          ≡ got_or (with_board then theirs) NotYet (collect_from theirs (Some v))
      asks =
          ap (λ (h : HubView). outcome_at_once h rank (request.Collect number))
          (ap (λ (o : Reply × WayView). all_arrived o.1) (mine_is None none) ∙ behind_post)
          ∙ cond-true (may_collect (with_board then theirs) rank number)
          (got_or (with_board then theirs) NotYet (collect theirs number))
          (Code BadRequest, with_board then theirs) may_ask
          ∙ ap (λ o. got_or (with_board then theirs) NotYet (collect_from theirs o)) (partner_there ∙ comes)

      waiting : IsToldAs w rank (request.Recv true comm source tag)
      waiting =
          let at_once = theirs_is (Some v) comes in
          waits comm source tag message.0 refl (ap (λ (o : Reply × WayView). o.0) (mine_is None none))
          (ap (λ (o : Reply × HubView). o.0) at_once ∙ ap (message_or (Posted number false)) message.1)
          (ap (λ (o : Reply × HubView). o.0) asks ∙ ap (message_or NotYet) message.1)
          (subst (λ (o : Reply × HubView). IsSameHub o.1 (behind_at_once w rank (request.Recv true comm source tag)))
          (sym asks)
          (subst (λ (o : Reply × HubView). IsSameHub (with_board then (without theirs v)) o.1) (sym at_once)
          (same_hub (with_board then (without theirs v)))))

    receives : IsToldAs w rank (request.Recv true comm source tag)
    receives = go (found w (Receive a)) refl (partner_for then.board.lines (Receive a)) refl
      where
        go : (o : Option ℕ) → found w (Receive a) ≡ o → (k : Option ℕ) → partner_for then.board.lines (Receive a) ≡ k
            → IsToldAs w rank (request.Recv true comm source tag)
        go (Some place) e k f = gets (Some place) e (found_too place e)
        go None e None f = gets None e f
        go None e (Some v) f = waiting v e f

    probes : IsToldAs w rank (request.Probe comm source tag)
    probes = go (found w (Receive a)) refl
      where
        q : Request
        q = request.Probe comm source tag

        go : (o : Option ℕ) → found w (Receive a) ≡ o → IsToldAs w rank q
        go None e = is_in_vain q (ap (λ o. (seen (envelope_at hub.board o), w)) e)
        go (Some place) e =
            is_same q (seen (envelope_at hub.board (Some place)), w) (seen (envelope_at then.board (Some place)), then)
            (ap (λ o. (seen (envelope_at hub.board o), w)) e)
            (ap (λ o. (seen (envelope_at then.board o), then)) (found_too place e))
            (ap seen (sym (envelope_same hub.board then.board part.posts (Some place))))
            (same_hub then)

  -- ---- every call

  answers : (q : Request) → NamesSource q → IsToldAs w rank q
  answers (request.Send sync comm dest tag bytes) named = sends sync comm dest tag bytes
  answers (request.Recv true comm source tag) named = receives comm source tag named
  answers (request.Recv false comm source tag) named = posts comm source tag named
  answers (request.Collect n) named = collects n
  answers (request.Finished n) named = finishes n
  answers (request.Probe comm source tag) named = probes comm source tag named
  answers (request.Claim comm source tag) named = absurd named
  answers (request.Claimed now claim) named = absurd named
  answers (request.All ns) named = gathers ns
  answers (request.Init sends comm peer tag parts size) named = begins sends comm peer tag parts size
  answers (request.Cut link) named = cuts link

pub answer_law : AnswerLaw
answer_law links w c rank q named =
    let well = is_well links w c in
    answers w (subst (λ ps. Well ps (lines_of w) w.arrived) (sym well.1.posts) well.1)
    (is_stocked links w c) rank q named
