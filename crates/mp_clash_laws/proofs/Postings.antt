-- Calls that make a post: what they are told, and the board behind them.
use Rattle.std.proofs.Common.{◌≡◌, ℕ, zero, suc, ◌+◌, ◌<◌, List, [], ◌∷◌, ◌++◌, length, true, false, not, Option, Some, None, refl, sym, ap, ◌∙◌, arith, add-one}
use Rattle.std.specs.Prelude.{◌≢◌, ◌||◌, nat_lt}
use Rattle.std.specs.List.{slice_get, slice_set}
use Rattle.std.specs.Option.{is_some}
use Rattle.std.proofs.lemmas.Bool.{cond-true, lt-ltb}
use Rattle.mp_types.specs.declared.codes.Code.TheVariants.{Full}
use Rattle.mp_types.specs.declared.messages.Message.{Message}
use Rattle.mp_types.specs.declared.replies.Reply.{Reply}
use Rattle.mp_types.specs.declared.replies.Reply.TheVariants as reply
use Rattle.mp_types.specs.declared.requests.Request.{Request}
use Rattle.mp_types.specs.declared.requests.Request.TheVariants.{Send, Recv, Collect, Finished, Probe, Claim, Claimed, All, Init, Cut}
use Rattle.mp_match.specs.declared.posts.Line.{Line}
use Rattle.mp_match.specs.declared.posts.Post.{Post}
use Rattle.mp_match.specs.declared.posts.Post.TheVariants as post
use Rattle.mp_match.specs.Board.{Board, board_with, collect_from, envelope_at, envelope_in, held_count, message_at, message_in, partner_of, receive_posted, without}
use Rattle.mp_match.specs.Pairs.{partner_for, partner_of_line}
use Rattle.mp_match.proofs.Lines.{add_new}
use Rattle.mp_match.proofs.Places.{get_front}
use Rattle.mp_match.proofs.Rows.{held_below}
use Rattle.mp_hub.specs.Hub.{HubView, got_or, message_or, outcome, selecting, sending, with_board}
use Rattle.mp_probe.specs.Claims.{next_number}
use Rattle.mp_wait_laws.proofs.Lines.{post_stays}
use Rattle.mp_wait_laws.proofs.Sets.{get-set_other}
use Rattle.mp_clash_laws.specs.Exchanges.{IsPosting}

-- ---- what a call posts

abbrev pub post_of : ℕ → Request → Post
post_of r (Send sync comm dest tag bytes) = post.Send (sending r sync comm dest tag bytes)
post_of r (Recv now comm source tag) = post.Receive (selecting r comm source tag)
post_of r _ = post.Receive (selecting r 0 None None)

abbrev pub body_of : Request → Option (List ℕ)
body_of (Send sync comm dest tag bytes) = Some bytes
body_of _ = None

-- the place of the message that it takes at once, of a partner's place
abbrev pub taken_of : Request → Option ℕ → Option ℕ
taken_of (Recv true comm source tag) o = o
taken_of _ o = None

abbrev pub emptied_at : Board → Option ℕ → Board
emptied_at b None = b
emptied_at b (Some place) = without b place

abbrev pub message_of : Board → Option ℕ → Option Message
message_of b None = None
message_of b (Some place) = message_at b place

-- what it is told: behind so many posts, with this partner, and this message at once
abbrev pub told_of : Request → ℕ → Option ℕ → Option Message → Reply
told_of (Send sync comm dest tag bytes) n o m = reply.Posted (n + 1) (not sync || is_some o)
told_of _ n o m = message_or (reply.Posted (n + 1) false) m

-- the board with its post, before a message is taken
abbrev pub posted : Board → ℕ → Request → Board
posted b r q = board_with b (post_of r q) (body_of q)

abbrev pub partner_in : Board → ℕ → Request → Option ℕ
partner_in b r q = partner_for b.lines (post_of r q)

abbrev pub told_at : Board → ℕ → Request → Option ℕ → Reply
told_at b r q o = told_of q (length b.lines) o (message_of (posted b r q) (taken_of q o))

abbrev pub board_at : Board → ℕ → Request → Option ℕ → Board
board_at b r q o = emptied_at (posted b r q) (taken_of q o)

-- the call, told by the partner of its post
pub posting : (h : HubView) (r : ℕ) (q : Request) → IsPosting q → length h.board.bodies < 65536
    → outcome h r q
    ≡ (told_at h.board r q (partner_in h.board r q), with_board h (board_at h.board r q (partner_in h.board r q)))
posting h r (Send sync comm dest tag bytes) is room =
    cond-true (nat_lt (held_count h.board.bodies) 65536) _ (reply.Code Full, h)
    (lt-ltb (held_count h.board.bodies) 65536 (let e = held_below h.board.bodies in omega (arith, e, room)))
posting h r (Recv false comm source tag) is room = refl
posting h r (Collect k) is room = absurd is
posting h r (Finished k) is room = absurd is
posting h r (Probe comm source tag) is room = absurd is
posting h r (Claim comm source tag) is room = absurd is
posting h r (Claimed now k) is room = absurd is
posting h r (All ks) is room = absurd is
posting h r (Init sends comm peer tag parts size) is room = absurd is
posting h r (Cut link) is room = absurd is
posting h r (Recv true comm source tag) is room =
    ap (λ o. got_or h (reply.Posted (next_number h.board) false) (collect_from b o)) found ∙ go (partner_for h.board.lines p)
  where
    p : Post
    p = post.Receive (selecting r comm source tag)

    b : Board
    b = receive_posted h.board (selecting r comm source tag)

    found : partner_of b (next_number h.board) ≡ partner_for h.board.lines p
    found = ap (partner_of b) (add-one (length h.board.lines)) ∙ ap partner_of_line (add_new h.board.lines p)

    go : (o : Option ℕ) → got_or h (reply.Posted (next_number h.board) false) (collect_from b o)
        ≡ (message_or (reply.Posted (length h.board.lines + 1) false) (message_of b o), with_board h (emptied_at b o))
    go None = refl
    go (Some place) = refl

-- ---- posts and messages that others leave as they are

pub message_more : (b : Board) (p : Post) (x : Option (List ℕ)) (i : ℕ) (m : Line) (y : Option (List ℕ))
    → slice_get b.lines i ≡ Some m → slice_get b.bodies i ≡ Some y → message_at (board_with b p x) i ≡ message_at b i
message_more b p x i m y here there =
    let n = post_stays b.lines p i m here in
    ap (λ e. message_in e (slice_get (b.bodies ++ x ∷ []) i))
    (ap envelope_in n.1 ∙ same_envelope n.0 m n.2 ∙ sym (ap envelope_in here))
    ∙ ap (message_in (envelope_at b (Some i))) (get_front b.bodies (x ∷ []) i y there ∙ sym there)
  where
    same_envelope : (a c : Line) → a.post ≡ c.post → envelope_in (Some a) ≡ envelope_in (Some c)
    same_envelope a c e = ap (λ (z : Post). (let l : Line = record { post = z; partner = None } in envelope_in (Some l))) e

pub message_emptied : (b : Board) (i j : ℕ) → j ≢ i → message_at (without b j) i ≡ message_at b i
message_emptied b i j apart =
    ap (message_in (envelope_at b (Some i))) (get-set_other b.bodies j i None apart)

set_front : {A : Type 0} (xs ys : List A) (k : ℕ) (x : A) → k < length xs
    → slice_set xs k x ++ ys ≡ slice_set (xs ++ ys) k x
set_front [] ys k x below = absurd (omega (arith, below))
set_front (y ∷ xs) ys zero x below = refl
set_front (y ∷ xs) ys (suc k) x below = ap (λ l. y ∷ l) (set_front xs ys k x (omega (arith, below)))

bodies_as : (lines : List Line) (compared : ℕ) (xs ys : List (Option (List ℕ))) → xs ≡ ys
    → (let b : Board = record { lines = lines; bodies = xs; compared = compared } in b)
    ≡ record { lines = lines; bodies = ys; compared = compared }
bodies_as lines compared xs ys same = λ i. record { lines = lines; bodies = same i; compared = compared }

-- a message that is taken before a post is the same as one that is taken behind it
pub emptied_more : (b : Board) (p : Post) (x : Option (List ℕ)) (k : ℕ) → k < length b.bodies
    → board_with (without b k) p x ≡ without (board_with b p x) k
emptied_more b (post.Send s) x k below = bodies_as _ _ _ _ (set_front b.bodies (x ∷ []) k None below)
emptied_more b (post.Receive a) x k below = bodies_as _ _ _ _ (set_front b.bodies (x ∷ []) k None below)
emptied_more b (post.Claim a) x k below = bodies_as _ _ _ _ (set_front b.bodies (x ∷ []) k None below)

-- two that are taken may be taken in either order
set_twice : {A : Type 0} (xs : List A) (i j : ℕ) (x : A) → slice_set (slice_set xs i x) j x ≡ slice_set (slice_set xs j x) i x
set_twice [] i j x = refl
set_twice (z ∷ xs) zero zero x = refl
set_twice (z ∷ xs) zero (suc j) x = refl
set_twice (z ∷ xs) (suc i) zero x = refl
set_twice (z ∷ xs) (suc i) (suc j) x = ap (λ l. z ∷ l) (set_twice xs i j x)

pub emptied_twice : (b : Board) (o p : Option ℕ) → emptied_at (emptied_at b o) p ≡ emptied_at (emptied_at b p) o
emptied_twice b None None = refl
emptied_twice b None (Some j) = refl
emptied_twice b (Some i) None = refl
emptied_twice b (Some i) (Some j) = bodies_as _ _ _ _ (set_twice b.bodies i j None)

pub emptied_lines : (b : Board) (o : Option ℕ) → (emptied_at b o).lines ≡ b.lines
emptied_lines b None = refl
emptied_lines b (Some place) = refl
