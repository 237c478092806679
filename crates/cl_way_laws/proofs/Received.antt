-- A receive that finds nothing on the way is posted, as one that doesn't wait.
use Rattle.std.proofs.Common.{◌≡◌, ◌∙◌, ℕ, zero, suc, refl, sym, ap, subst, arith, Bool, true, false, List, [], ◌∷◌, length, Option, Some, None}
use Rattle.std.specs.Prelude.{cond, ◌&&◌}
use Rattle.std.specs.List.{slice_get, slice_set}
use Rattle.std.proofs.lemmas.Option.{same_Some}
use Rattle.mp_types.specs.declared.messages.Envelope.{Envelope}
use Rattle.mp_types.specs.declared.messages.Message.{Message}
use Rattle.mp_types.specs.declared.replies.Reply.TheVariants as reply
use Rattle.mp_types.specs.declared.requests.Request.TheVariants as request
use Rattle.mp_match.specs.declared.posts.Line.{Line}
use Rattle.mp_match.specs.declared.posts.Post.{Post}
use Rattle.mp_match.specs.declared.posts.Post.TheVariants.{Claim, Receive, Send}
use Rattle.mp_match.specs.declared.posts.Selection.{Selection}
use Rattle.mp_match.specs.declared.posts.Sent.{Sent}
use Rattle.mp_match.specs.Board.{Board, collect, collect_from, envelope_at, envelope_in, message_in, partner_of, without}
use Rattle.mp_match.specs.Order.{SendsAt}
use Rattle.mp_match.specs.Pairs.{is_free, may_pair}
use Rattle.mp_match.specs.PostPairs.{posts_of}
use Rattle.mp_match.proofs.Matched.{line_at}
use Rattle.mp_match.proofs.Places.{get_front}
use Rattle.mp_probe.specs.Claims.{next_number}
use Rattle.mp_hub.specs.Hub.{message_or, selecting, with_board}
use Rattle.mp_way_laws.specs.Way.{WayView, first_found, fits_in, found, lines_of, received, with_hub}
use Rattle.mp_way_laws.specs.Answers.{behind, reply_on_way}
use Rattle.mp_way_laws.proofs.Joined.{new_at, posts_with}

-- ---- what is found is a send

pub found_fits : (ms : List Line) (new : Post) (came : List ℕ) (place : ℕ) → first_found ms new came ≡ Some place
    → fits_in new (slice_get ms place) ≡ true
found_fits ms new [] place h = absurd (cc)
found_fits ms new (x ∷ xs) place h = go (fits_in new (slice_get ms x)) refl h (λ e. found_fits ms new xs place e)
  where
    go : (b : Bool) → fits_in new (slice_get ms x) ≡ b → cond b (Some x) (first_found ms new xs) ≡ Some place
        → (first_found ms new xs ≡ Some place → fits_in new (slice_get ms place) ≡ true)
        → fits_in new (slice_get ms place) ≡ true
    go true e h rest = subst (λ k. fits_in new (slice_get ms k) ≡ true) (same_Some x place h) e
    go false e h rest = rest h

-- and what isn't found doesn't fit
pub none_fits : (ms : List Line) (new : Post) (came : List ℕ) → first_found ms new came ≡ None → (n x : ℕ)
    → slice_get came n ≡ Some x
    → fits_in new (slice_get ms x) ≡ false
none_fits ms new [] h n x at = absurd (cc)
none_fits ms new (y ∷ ys) h n x at =
    go (fits_in new (slice_get ms y)) refl h n at (λ e n at. none_fits ms new ys e n x at)
  where
    go : (b : Bool) → fits_in new (slice_get ms y) ≡ b → cond b (Some y) (first_found ms new ys) ≡ None → (n : ℕ)
        → slice_get (y ∷ ys) n ≡ Some x
        → (first_found ms new ys ≡ None → (n : ℕ) → slice_get ys n ≡ Some x → fits_in new (slice_get ms x) ≡ false)
        → fits_in new (slice_get ms x) ≡ false
    go true e h n at rest = absurd (cc)
    go false e h zero at rest = subst (λ k. fits_in new (slice_get ms k) ≡ false) (same_Some y x at) e
    go false e h (suc n) at rest = rest h n at

second : (a b : Bool) → (a && b) ≡ true → b ≡ true
second true b e = e
second false b e = absurd (cc)

-- it stands at the place
pub fits_send : (ms : List Line) (a : Selection) (place : ℕ) → fits_in (Receive a) (slice_get ms place) ≡ true
    → (s : Sent) × SendsAt (posts_of ms) place s
fits_send ms a place h = go (slice_get ms place) refl h
  where
    sends : (m : Line) (p : Post) → m.post ≡ p → may_pair (Receive a) p ≡ true → (s : Sent) × (m.post ≡ Send s)
    sends m (Send s) e may = (s, e)
    sends m (Receive b) e may = absurd (cc)
    sends m (Claim b) e may = absurd (cc)

    go : (o : Option Line) → slice_get ms place ≡ o → fits_in (Receive a) o ≡ true → (s : Sent)
        × SendsAt (posts_of ms) place s
    go None e h = absurd (cc)
    go (Some m) e h =
        let s = sends m m.post refl (second (is_free m.partner) (may_pair (Receive a) m.post) h) in
        (s.0, post_there ms place m e ∙ ap (λ p. Some p) s.1)
      where
        post_there : (ms : List Line) (i : ℕ) (m : Line) → slice_get ms i ≡ Some m
            → slice_get (posts_of ms) i ≡ Some m.post
        post_there [] i m e = absurd (cc)
        post_there (x ∷ ms) zero m e = ap (λ (l : Line). Some l.post) (same_Some x m e)
        post_there (x ∷ ms) (suc i) m e = post_there ms i m e

-- ---- a message that isn't there isn't taken out

unset : (xs : List (Option (List ℕ))) (i : ℕ) (e : Envelope) → message_in (Some e) (slice_get xs i) ≡ None
    → slice_set xs i None ≡ xs
unset [] i e h = refl
unset (None ∷ xs) zero e h = refl
unset (Some bytes ∷ xs) zero e h = absurd (cc)
unset (x ∷ xs) (suc i) e h = ap (λ l. x ∷ l) (unset xs i e h)

left : (b : Board) (place : ℕ) (e : Envelope) → envelope_at b (Some place) ≡ Some e
    → message_in (envelope_at b (Some place)) (slice_get b.bodies place) ≡ None
    → without b place ≡ b
left b place e is none =
    ap (λ xs. (let c : Board = record { lines = b.lines; bodies = xs; compared = b.compared } in c))
    (unset b.bodies place e (ap (λ o. message_in o (slice_get b.bodies place)) (sym is) ∙ none))

-- ---- the receive

module _ (w : WayView) (a : Selection) where
  abbrev b : Board
  b = received w a

  partner_is : partner_of b (next_number w.hub.board) ≡ found w (Receive a)
  partner_is =
      let e : suc (length (lines_of w)) ≡ next_number w.hub.board = omega arith in
      subst (λ n. partner_of b n ≡ found w (Receive a)) e (new_at (lines_of w) (Receive a) (found w (Receive a)))

  -- what it found is the message of a send
  envelope_is : (place : ℕ) → found w (Receive a) ≡ Some place → (e : Envelope) × (envelope_at b (Some place) ≡ Some e)
  envelope_is place at =
      let s = fits_send (lines_of w) a place (found_fits (lines_of w) (Receive a) w.arrived place at) in
      let also : SendsAt (posts_of b.lines) place s.0 =
      ap (λ qs. slice_get qs place) (posts_with (lines_of w) (Receive a) (found w (Receive a)))
      ∙ get_front (posts_of (lines_of w)) (Receive a ∷ []) place (Send s.0) s.1 in
      let l = line_at b.lines place (Send s.0) also in
      (s.0.envelope, ap envelope_in l.1 ∙ by_post l.0 s.0 l.2)
    where
      by_post : (m : Line) (s : Sent) → m.post ≡ Send s → envelope_in (Some m) ≡ Some s.envelope
      by_post m s e =
          ap (λ p. elim p [ Send t ↦ Some t.envelope | Receive c ↦ None | Claim c ↦ None ]) e

  none_left : (collect b (next_number w.hub.board)).0 ≡ None → (collect b (next_number w.hub.board)).1 ≡ b
  none_left none =
      ap (λ o. (collect_from b o).1) partner_is
      ∙ go (found w (Receive a)) refl (ap (λ o. (collect_from b o).0) (sym partner_is) ∙ none)
    where
      go : (o : Option ℕ) → found w (Receive a) ≡ o → (collect_from b o).0 ≡ None → (collect_from b o).1 ≡ b
      go None at h = refl
      go (Some place) at h = (let e = envelope_is place at in left b place e.0 e.1 h)

-- told that it is posted, it is left as one that doesn't wait
pub posted_as : (w : WayView) (r comm : ℕ) (source tag : Option ℕ)
    → reply_on_way w r (request.Recv true comm source tag) ≡ reply.Posted (next_number w.hub.board) false
    → behind w r (request.Recv true comm source tag) ≡ behind w r (request.Recv false comm source tag)
posted_as w r comm source tag posted =
    let a = selecting r comm source tag in
    ap (λ c. with_hub w (with_board w.hub c)) (none_left w a (no_message _ posted))
  where
    no_message : (o : Option Message)
        → message_or (reply.Posted (next_number w.hub.board) false) o ≡ reply.Posted (next_number w.hub.board) false
        → o ≡ None
    no_message None e = refl
    no_message (Some m) e = absurd (cc)
