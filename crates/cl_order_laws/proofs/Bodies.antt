-- Whether a rank's message is held is seen by no call of another rank.
use Rattle.std.proofs.Common.{◌≡◌, ℕ, zero, suc, ◌<◌, ◌⊎◌, inl, inr, List, [], ◌∷◌, ◌++◌, length, Bool, true, false, cond, not, Option, Some, None, refl, sym, ap, ◌∙◌, subst, arith, add-one}
use Rattle.std.specs.Prelude.{◌&&◌, ◌||◌, nat_lt}
use Rattle.std.specs.List.{slice_get, slice_set, list_all}
use Rattle.std.specs.Option.{is_some}
use Rattle.std.proofs.lemmas.Bool.{and_parts, cases_Bool, eq-eqb, lt-ltb, or_cases}
use Rattle.std.proofs.lemmas.Option.{same_Some}
use Rattle.mp_types.specs.declared.codes.Code.TheVariants.{BadRequest, BadMessage, Full, Shape}
use Rattle.mp_types.specs.declared.messages.Envelope.{Envelope}
use Rattle.mp_types.specs.declared.messages.Message.{Message}
use Rattle.mp_types.specs.declared.replies.Reply.{Reply}
use Rattle.mp_types.specs.declared.replies.Reply.TheVariants as reply
use Rattle.mp_types.specs.declared.requests.Request.{Request}
use Rattle.mp_types.specs.declared.requests.Request.TheVariants.{Send, Recv, Collect, Finished, Probe, Claim, Claimed, All, Init, Cut}
use Rattle.mp_match.specs.declared.posts.Line.{Line}
use Rattle.mp_match.specs.declared.posts.Post.{Post}
use Rattle.mp_match.specs.declared.posts.Post.TheVariants as post
use Rattle.mp_match.specs.declared.posts.Selection.{Selection}
use Rattle.mp_match.specs.Pairs.{add, partner_for, partner_of_line}
use Rattle.mp_match.specs.Board.{Board, board_with, claim_at, collect, collect_from, held_count, is_gone, is_held, is_receive_at, is_receive_of, is_send_of, is_standard, line_of, message_in, envelope_at, partner_of, probed, receive_posted, send_posted}
use Rattle.mp_match.proofs.Lines.{add_new}
use Rattle.mp_match.proofs.OrderKept.{Good, Takes, good_more}
use Rattle.mp_match.proofs.Places.{get_within}
use Rattle.mp_match.proofs.Rows.{held_below}
use Rattle.mp_probe.specs.Claims.{is_waiting, may_receive, next_number, waiting_if, without_claim}
use Rattle.mp_transfers.specs.declared.sides.Setup.{Setup}
use Rattle.mp_transfers.specs.declared.sides.Side.{Side}
use Rattle.mp_transfers.specs.Inits.{is_receiver, lowest_link, peer_of, same_total, sender_over}
use Rattle.mp_hub.specs.Hub.{HubView, all_collected, all_got, are_distinct, claim_found, claimed_now, cut_of, got_or, init_first, init_with, is_complete, is_done, is_known, is_ready, may_collect, one_got, outcome, seen, selecting, sending, setup_of, side_added, was_received, with_board, with_claims}
use Rattle.mp_hub.proofs.BoardKept.{one_lines}
use Rattle.mp_wait_laws.proofs.Sets.{get-set_other}
use Rattle.mp_wait_laws.proofs.Collects.{taken_at}
use Rattle.mp_wait_laws.proofs.Fresh.{Laid}
use Rattle.mp_wait_laws.proofs.Lines.{at_place, paired_stays}
use Rattle.mp_wait_laws.proofs.Moves.{GrowsBy, all, fits_all, moves}
use Rattle.cl_order_laws.proofs.Commuting.{set_apart}
use Rattle.cl_order_laws.proofs.Each.{set_length}

-- ---- a message that a rank has got

-- this receive or claim of the rank has the message of the post at the place
pub record HasIt (lines : List Line) (r number k : ℕ) : Type 0 where
  pub place : ℕ
  pub numbered : number ≡ suc place
  pub line : Line
  pub here : slice_get lines place ≡ Some line
  pub what : Selection
  pub takes : Takes line.post what
  pub mine : what.rank ≡ r
  pub has : line.partner ≡ Some k

one_what : (p : Post) (a c : Selection) → Takes p a → Takes p c → a ≡ c
one_what p a c (inl e) (inl g) = (let h : post.Receive a ≡ post.Receive c = sym e ∙ g in cc)
one_what p a c (inl e) (inr g) = absurd (cc)
one_what p a c (inr e) (inl g) = absurd (cc)
one_what p a c (inr e) (inr g) = (let h : post.Claim a ≡ post.Claim c = sym e ∙ g in cc)

pub line_there : (r : ℕ) (o : Option Line) → is_receive_of r o ≡ true → (x : Line) × (o ≡ Some x)
line_there r None h = absurd (cc)
line_there r (Some x) h = (x, refl)

-- a post more leaves it
has_more : (r number k : ℕ) (lines : List Line) (p : Post) → HasIt lines r number k → HasIt (add lines p) r number k
has_more r number k lines p f = record {
  place = f.place;
  numbered = f.numbered;
  line = f.line;
  here = paired_stays lines p f.place k f.line f.here f.has;
  what = f.what;
  takes = f.takes;
  mine = f.mine;
  has = f.has;
}

pub has_stays : (r s number k : ℕ) (h : HubView) (q : Request) → HasIt h.board.lines r number k
    → HasIt (outcome h s q).1.board.lines r number k
has_stays r s number k h q f = go (moves all h s q (fits_all s q)).lines
  where
    go : GrowsBy all s h.board.lines (outcome h s q).1.board.lines
        → HasIt (outcome h s q).1.board.lines r number k
    go (inl same) = subst (λ ms. HasIt ms r number k) (sym same) f
    go (inr g) = subst (λ ms. HasIt ms r number k) (sym g.2) (has_more r number k h.board.lines g.0 f)

-- the message has a body, or had one
pub body_within : (h : HubView) (r number k : ℕ) → Laid h → HasIt h.board.lines r number k → k < length h.board.bodies
body_within h r number k laid f =
    let g = (laid.good).paired f.place k f.line f.here f.has in
    let below = get_within h.board.lines k g.0 g.1 in
    let even = laid.even in
    omega (arith, below, even)

-- no receive or claim of another rank has it
apart_from : (lines : List Line) (r s number k place : ℕ) → Good lines → (s ≡ r → ⊥) → HasIt lines r number k
    → is_receive_of s (slice_get lines place) ≡ true → partner_of_line (slice_get lines place) ≡ Some k → ⊥
apart_from lines r s number k m good apart f its theirs =
    let l = line_there s (slice_get lines m) its in
    let t = taken_at (l.0).post (l.0).partner s (sym (ap (is_receive_of s) l.1) ∙ its) in
    let to : (l.0).partner ≡ Some k = sym (ap partner_of_line l.1) ∙ theirs in
    let g = good.paired m k l.0 l.1 to in
    let h = good.paired f.place k f.line f.here f.has in
    let twice : g.0 ≡ h.0 = at_place lines k g.0 h.0 g.1 h.1 in
    let places : m ≡ f.place = same_Some m f.place (sym g.2 ∙ ap (λ (x : Line). x.partner) twice ∙ h.2) in
    let same : l.0 ≡ f.line =
    at_place lines f.place l.0 f.line (subst (λ i. slice_get lines i ≡ Some l.0) places l.1) f.here in
    apart (sym t.2 ∙ ap (λ (x : Selection). x.rank)
    (one_what (l.0).post t.0 f.what t.1 (subst (λ (x : Line). Takes x.post f.what) (sym same) f.takes)) ∙ f.mine)

-- ---- boards that hold another body at a place

abbrev pub with_body : Board → ℕ → Option (List ℕ) → Board
with_body b k x = record { lines = b.lines; bodies = slice_set b.bodies k x; compared = b.compared }

abbrev pub hub_with : HubView → ℕ → Option (List ℕ) → HubView
hub_with h k x = with_board h (with_body h.board k x)

set_front : {A : Type 0} (xs ys : List A) (k : ℕ) (x : A) → k < length xs
    → slice_set xs k x ++ ys ≡ slice_set (xs ++ ys) k x
set_front [] ys k x below = absurd (omega (arith, below))
set_front (y ∷ xs) ys zero x below = refl
set_front (y ∷ xs) ys (suc k) x below = ap (λ l. y ∷ l) (set_front xs ys k x (omega (arith, below)))

module _ (k : ℕ) (x : Option (List ℕ)) where
  bodies_as : (lines : List Line) (compared : ℕ) (xs ys : List (Option (List ℕ))) → xs ≡ ys
      → (let b : Board = record { lines = lines; bodies = xs; compared = compared } in b)
      ≡ record { lines = lines; bodies = ys; compared = compared }
  bodies_as lines compared xs ys same = λ i. record { lines = lines; bodies = same i; compared = compared }

  posted_with : (b : Board) (p : Post) (body : Option (List ℕ)) → k < length b.bodies
      → board_with (with_body b k x) p body ≡ with_body (board_with b p body) k x
  posted_with b (post.Send s) body below = bodies_as _ _ _ _ (set_front b.bodies (body ∷ []) k x below)
  posted_with b (post.Receive a) body below = bodies_as _ _ _ _ (set_front b.bodies (body ∷ []) k x below)
  posted_with b (post.Claim a) body below = bodies_as _ _ _ _ (set_front b.bodies (body ∷ []) k x below)

  line_with : (b : Board) (n : ℕ) → line_of (with_body b k x) n ≡ line_of b n
  line_with b zero = refl
  line_with b (suc place) = refl

  -- ---- collecting what another has

  abbrev BothGot : Option Message × Board → Option Message × Board → Type 0
  BothGot g f = f ≡ (g.0, with_body g.1 k x)

  from_with : (b : Board) (o : Option ℕ) → (o ≡ Some k → ⊥)
      → BothGot (collect_from b o) (collect_from (with_body b k x) o)
  from_with b None apart = refl
  from_with b (Some j) apart = λ i. (
    message_in (envelope_at b (Some j)) (get-set_other b.bodies k j x (λ e. apart (ap (λ z. Some z) (sym e))) i),
    bodies_as b.lines b.compared _ _ (set_apart b.bodies k j x None (λ e. apart (ap (λ z. Some z) (sym e)))) i,
  )

  collect_with : (b : Board) (n : ℕ) → (partner_of b n ≡ Some k → ⊥)
      → BothGot (collect b n) (collect (with_body b k x) n)
  collect_with b zero apart = from_with b (partner_of b zero) apart
  collect_with b (suc place) apart = from_with b (partner_of b (suc place)) apart

  gone_with : (b : Board) (o : Option ℕ) → (o ≡ Some k → ⊥) → is_gone (with_body b k x) o ≡ is_gone b o
  gone_with b None apart = refl
  gone_with b (Some j) apart =
      ap (λ o. not (is_held o)) (get-set_other b.bodies k j x (λ e. apart (ap (λ z. Some z) (sym e))))

  module _ (r s number : ℕ) (apart : s ≡ r → ⊥) where
    others_partner : (b : Board) (n : ℕ) → Good b.lines → HasIt b.lines r number k
        → is_receive_of s (line_of b n) ≡ true → partner_of b n ≡ Some k → ⊥
    others_partner b zero good f its theirs = absurd (cc)
    others_partner b (suc place) good f its theirs = apart_from b.lines r s number k place good apart f its theirs

    -- a post that a rank may ask for is a send of its own, or a receive or a claim of its own
    abbrev IsAsked : Board → ℕ → Type 0
    IsAsked b n = (is_receive_of s (line_of b n) ≡ true) ⊎ (is_send_of s (line_of b n) ≡ true)

    known_asked : (h : HubView) (n : ℕ) → is_known h s n ≡ true → IsAsked h.board n
    known_asked h n known = elim (or_cases (may_collect h s n) (is_send_of s (line_of h.board n)) known) [
      | inl may ↦ inl (and_parts (is_receive_of s (line_of h.board n)) _ (and_parts _ _ may).0).0
      | inr sends ↦ inr sends
    ]

    all_known : (h : HubView) (ns : List ℕ) → list_all (λ n. is_known h s n) ns ≡ true → (i n : ℕ)
        → slice_get ns i ≡ Some n → is_known h s n ≡ true
    all_known h [] all i n here = absurd (cc)
    all_known h (m ∷ ns) all zero n here =
        subst (λ z. is_known h s z ≡ true) (same_Some m n here) (and_parts (is_known h s m) _ all).0
    all_known h (m ∷ ns) all (suc i) n here = all_known h ns (and_parts (is_known h s m) _ all).1 i n here

    one_with : (b : Board) (n : ℕ) → Good b.lines → HasIt b.lines r number k → IsAsked b n
        → BothGot (one_got s b n) (one_got s (with_body b k x) n)
    one_with b n good f is =
        ap (λ (o : Option Line). (let g : Option Message × Board =
        cond (is_send_of s o) (None, with_body b k x) (collect (with_body b k x) n) in g)) (line_with b n)
        ∙ go (is_send_of s (line_of b n)) refl is
      where
        go : (c : Bool) → is_send_of s (line_of b n) ≡ c → IsAsked b n
            → BothGot (cond c (None, b) (collect b n)) (cond c (None, with_body b k x) (collect (with_body b k x) n))
        go true e is = refl
        go false e (inl receive) = collect_with b n (others_partner b n good f receive)
        go false e (inr sends) = absurd (cc)

    same_line : (b c : Board) (n : ℕ) → c.lines ≡ b.lines → line_of c n ≡ line_of b n
    same_line b c zero same = refl
    same_line b c (suc i) same = ap (λ ms. slice_get ms i) same

    asked_too : (b c : Board) (n : ℕ) → c.lines ≡ b.lines → IsAsked b n → IsAsked c n
    asked_too b c n same (inl e) = inl (ap (is_receive_of s) (same_line b c n same) ∙ e)
    asked_too b c n same (inr e) = inr (ap (is_send_of s) (same_line b c n same) ∙ e)

    all_with : (ns : List ℕ) (b : Board) → Good b.lines → HasIt b.lines r number k
        → ((i n : ℕ) → slice_get ns i ≡ Some n → IsAsked b n)
        → (all_got s (with_body b k x) ns) ≡ ((all_got s b ns).0, with_body (all_got s b ns).1 k x)
    all_with [] b good f each = refl
    all_with (n ∷ ns) b good f each =
        let c = (one_got s b n).1 in
        let same : c.lines ≡ b.lines = one_lines s b n in
        ap (λ (g : Option Message × Board). (let o : List (Option Message) × Board =
        (g.0 ∷ (all_got s g.1 ns).0, (all_got s g.1 ns).1) in o)) (one_with b n good f (each 0 n refl))
        ∙ ap (λ (g : List (Option Message) × Board). (let o : List (Option Message) × Board =
        ((one_got s b n).0 ∷ g.0, g.1) in o))
        (all_with ns c (subst (λ ms. Good ms) (sym same) good) (subst (λ ms. HasIt ms r number k) (sym same) f)
        (λ i m here. asked_too b c m same (each (suc i) m here)))

    -- ---- one call

    -- the same, and the other body stays
    abbrev Both : Reply × HubView → Reply × HubView → Type 0
    Both o p = p ≡ (o.0, hub_with o.1 k x)

    either : (c : Bool) (o p o' p' : Reply × HubView) → Both o o' → Both p p' → Both (cond c o p) (cond c o' p')
    either true o p o' p' f g = f
    either false o p o' p' f g = g

    if_so : (c d : Bool) (o p o' p' : Reply × HubView) → d ≡ c → (c ≡ true → Both o o') → Both p p'
        → Both (cond c o p) (cond d o' p')
    if_so true true o p o' p' e f g = f refl
    if_so false false o p o' p' e f g = g
    if_so true false o p o' p' e f g = absurd (cc)
    if_so false true o p o' p' e f g = absurd (cc)

    got_with : (h : HubView) (q : Reply) (g f : Option Message × Board) → BothGot g f
        → Both (got_or h q g) (got_or (hub_with h k x) q f)
    got_with h q g f e = ap (λ y. got_or (hub_with h k x) q y) e

    init_with_body : (h : HubView) (t : Setup) (o : Option Side)
        → Both (init_with h t o) (init_with (hub_with h k x) t o)
    init_with_body h t None = free (lowest_link h.links h.sides t)
      where
        free : (o : Option ℕ) → Both (init_first h t o) (init_first (hub_with h k x) t o)
        free None = refl
        free (Some link) = refl
    init_with_body h t (Some peer) =
        either (same_total t peer.setup) (side_added h t peer.link) (reply.Code Shape, h)
        (side_added (hub_with h k x) t peer.link) (reply.Code Shape, hub_with h k x) refl refl

    receive_with : (b : Board) (o : Option ℕ) → is_receive_at (with_body b k x) o ≡ is_receive_at b o
    receive_with b None = refl
    receive_with b (Some j) = refl

    claim_with : (b : Board) (o : Option ℕ) → claim_at (with_body b k x) o ≡ claim_at b o
    claim_with b None = refl
    claim_with b (Some j) = refl

    envelope_with : (b : Board) (o : Option ℕ) → envelope_at (with_body b k x) o ≡ envelope_at b o
    envelope_with b None = refl
    envelope_with b (Some j) = refl

    received_with : (h : HubView) (o : Option ℕ) → was_received (hub_with h k x) o ≡ was_received h o
    received_with h None = refl
    received_with h (Some j) = refl

    complete_with : (h : HubView) (n : ℕ) → is_complete (hub_with h k x) n ≡ is_complete h n
    complete_with h zero = refl
    complete_with h (suc place) =
        let o = partner_of h.board (suc place) in
        let claimed : was_received (hub_with h k x) (claim_at (with_body h.board k x) o)
        ≡ was_received h (claim_at h.board o) =
        ap (was_received (hub_with h k x)) (claim_with h.board o) ∙ received_with h (claim_at h.board o) in
        λ i. (is_standard (slice_get h.board.lines place) || receive_with h.board o i) || claimed i

    may_with : (h : HubView) (n : ℕ) → Good h.board.lines → HasIt h.board.lines r number k
        → may_collect (hub_with h k x) s n ≡ may_collect h s n
    may_with h zero good f = refl
    may_with h (suc place) good f = elim (cases_Bool (is_receive_of s (slice_get h.board.lines place))) [
      | inl its ↦
          ap (λ c. is_receive_of s (slice_get h.board.lines place) && not (is_waiting h.claims (suc place)) && not c)
          (gone_with h.board (partner_of h.board (suc place)) (others_partner h.board (suc place) good f its))
      | inr none ↦
          ap (λ c. c && not (is_waiting h.claims (suc place))
          && not (is_gone (with_body h.board k x) (partner_of h.board (suc place)))) none
          ∙ sym (ap (λ c. c && not (is_waiting h.claims (suc place))
          && not (is_gone h.board (partner_of h.board (suc place)))) none)
    ]

    known_with : (h : HubView) (ns : List ℕ) → Good h.board.lines → HasIt h.board.lines r number k
        → list_all (λ n. is_known (hub_with h k x) s n) ns ≡ list_all (λ n. is_known h s n) ns
    known_with h [] good f = refl
    known_with h (n ∷ ns) good f = λ i.
        (may_with h n good f i || is_send_of s (line_with h.board n i)) && known_with h ns good f i

    ready_with : (h : HubView) (n : ℕ) → is_ready (hub_with h k x) s n ≡ is_ready h s n
    ready_with h zero = refl
    ready_with h (suc place) = λ i.
        cond (is_send_of s (slice_get h.board.lines place)) (complete_with h (suc place) i)
        (is_some (partner_of h.board (suc place)))

    all_ready_with : (h : HubView) (ns : List ℕ)
        → list_all (λ n. is_ready (hub_with h k x) s n) ns ≡ list_all (λ n. is_ready h s n) ns
    all_ready_with h [] = refl
    all_ready_with h (n ∷ ns) = λ i. ready_with h n i && all_ready_with h ns i

    room_in : (h : HubView) → Laid h → length h.board.lines < 65536
        → nat_lt (held_count (slice_set h.board.bodies k x)) 65536 ≡ nat_lt (held_count h.board.bodies) 65536
    room_in h laid below =
        let even = laid.even in
        let few = held_below h.board.bodies in
        let also = held_below (slice_set h.board.bodies k x) in
        let many = set_length h.board.bodies k x in
        lt-ltb (held_count (slice_set h.board.bodies k x)) 65536 (omega (arith, also, many, even, below))
        ∙ sym (lt-ltb (held_count h.board.bodies) 65536 (omega (arith, few, even, below)))

    newest : (b : Board) (a : Selection) → a.rank ≡ s
        → is_receive_of s (line_of (receive_posted b a) (next_number b)) ≡ true
    newest b a mine =
        subst (λ n. is_receive_of s (line_of (receive_posted b a) n) ≡ true) (sym (add-one (length b.lines)))
        (ap (is_receive_of s) (add_new b.lines (post.Receive a)) ∙ eq-eqb a.rank s mine)

    pub outcome_with : (h : HubView) (q : Request) → Laid h → HasIt h.board.lines r number k
        → length h.board.lines < 65536 → Both (outcome h s q) (outcome (hub_with h k x) s q)
    outcome_with h (Send sync comm dest tag bytes) laid f room =
        let t = sending s sync comm dest tag bytes in
        let answer = reply.Posted (next_number h.board) (is_done h.board t) in
        if_so (nat_lt (held_count h.board.bodies) 65536) (nat_lt (held_count (slice_set h.board.bodies k x)) 65536)
        (answer, with_board h (send_posted h.board t bytes)) (reply.Code Full, h)
        (answer, with_board h (send_posted (with_body h.board k x) t bytes)) (reply.Code Full, hub_with h k x)
        (room_in h laid room)
        (λ e. ap (λ (y : Board). (answer, with_board h y)) (posted_with h.board (post.Send t) (Some bytes) (body_within h r number k laid f)))
        refl
    outcome_with h (Recv true comm source tag) laid f room =
        let a = selecting s comm source tag in
        let n = next_number h.board in
        got_with h (reply.Posted n false) (collect (receive_posted h.board a) n)
        (collect (receive_posted (with_body h.board k x) a) n)
        (ap (λ (y : Board). collect y n) (posted_with h.board (post.Receive a) None (body_within h r number k laid f))
        ∙ collect_with (receive_posted h.board a) n
        (others_partner (receive_posted h.board a) n (good_more h.board.lines (post.Receive a) laid.good)
        (has_more r number k h.board.lines (post.Receive a) f) (newest h.board a refl)))
    outcome_with h (Recv false comm source tag) laid f room =
        let a = selecting s comm source tag in
        let answer = reply.Posted (next_number h.board) false in
        ap (λ (y : Board). (answer, with_board h y)) (posted_with h.board (post.Receive a) None (body_within h r number k laid f))
    outcome_with h (Collect n) laid f room =
        if_so (may_collect h s n) (may_collect (hub_with h k x) s n) (got_or h reply.NotYet (collect h.board n))
        (reply.Code BadRequest, h) (got_or (hub_with h k x) reply.NotYet (collect (with_body h.board k x) n))
        (reply.Code BadRequest, hub_with h k x) (may_with h n laid.good f)
        (λ may. got_with h reply.NotYet (collect h.board n) (collect (with_body h.board k x) n)
        (collect_with h.board n
        (others_partner h.board n laid.good f
        (and_parts (is_receive_of s (line_of h.board n)) _ (and_parts _ _ may).0).0)))
        refl
    outcome_with h (Finished n) laid f room =
        if_so (is_send_of s (line_of h.board n)) (is_send_of s (line_of (with_body h.board k x) n))
        (cond (is_complete h n) reply.Done reply.NotYet, h) (reply.Code BadRequest, h)
        (cond (is_complete (hub_with h k x) n) reply.Done reply.NotYet, hub_with h k x)
        (reply.Code BadRequest, hub_with h k x) (ap (is_send_of s) (line_with h.board n))
        (λ e. ap (λ c. (cond c reply.Done reply.NotYet, hub_with h k x)) (complete_with h n)) refl
    outcome_with h (Probe comm source tag) laid f room =
        ap (λ e. (seen e, hub_with h k x))
        (envelope_with h.board (partner_for h.board.lines (post.Receive (selecting s comm source tag))))
    outcome_with h (Claim comm source tag) laid f room =
        let a = selecting s comm source tag in
        ap (λ e. claim_found (hub_with h k x) a e)
        (envelope_with h.board (partner_for h.board.lines (post.Claim a)))
        ∙ go a (probed h.board (post.Claim a))
      where
        go : (a : Selection) (o : Option Envelope) → Both (claim_found h a o) (claim_found (hub_with h k x) a o)
        go a None = refl
        go a (Some e) =
            ap (λ (y : Board). (
              reply.Held (next_number h.board) e,
              with_claims (with_board h y) (waiting_if h.claims a.rank (next_number h.board) (Some e)),
            ))
            (posted_with h.board (post.Claim a) None (body_within h r number k laid f))
    outcome_with h (Claimed now n) laid f room =
        let ws = without_claim h.claims s n in
        if_so (may_receive h.claims s n) (may_receive h.claims s n) (claimed_now (with_claims h ws) now n)
        (reply.Code BadMessage, h) (claimed_now (with_claims (hub_with h k x) ws) now n)
        (reply.Code BadMessage, hub_with h k x) refl (λ may. go now may) refl
      where
        go : (now : Bool) → may_receive h.claims s n ≡ true
            → Both (claimed_now (with_claims h (without_claim h.claims s n)) now n)
            (claimed_now (with_claims (hub_with h k x) (without_claim h.claims s n)) now n)
        go true may =
            let c = laid.owned s n may in
            let its : is_receive_of s (line_of h.board n) ≡ true =
            subst (λ i. is_receive_of s (line_of h.board i) ≡ true) (sym (c.numbered ∙ add-one c.place))
            (ap (is_receive_of s) c.here
            ∙ ap (λ (p : Post). is_receive_of s (Some (record { post = p; partner = (c.line).partner }))) c.claims
            ∙ eq-eqb (c.what).rank s c.mine) in
            got_with (with_claims h (without_claim h.claims s n)) reply.NotYet (collect h.board n)
            (collect (with_body h.board k x) n)
            (collect_with h.board n (others_partner h.board n laid.good f its))
        go false may = refl
    outcome_with h (All ns) laid f room =
        if_so (are_distinct ns && list_all (λ n. is_known h s n) ns)
        (are_distinct ns && list_all (λ n. is_known (hub_with h k x) s n) ns)
        (cond (list_all (λ n. is_ready h s n) ns) (all_collected h (all_got s h.board ns)) (reply.NotYet, h))
        (reply.Code BadRequest, h)
        (cond (list_all (λ n. is_ready (hub_with h k x) s n) ns)
        (all_collected (hub_with h k x) (all_got s (with_body h.board k x) ns)) (reply.NotYet, hub_with h k x))
        (reply.Code BadRequest, hub_with h k x)
        (ap (λ c. are_distinct ns && c) (known_with h ns laid.good f))
        (λ known. if_so (list_all (λ n. is_ready h s n) ns) (list_all (λ n. is_ready (hub_with h k x) s n) ns)
        (all_collected h (all_got s h.board ns)) (reply.NotYet, h)
        (all_collected (hub_with h k x) (all_got s (with_body h.board k x) ns)) (reply.NotYet, hub_with h k x)
        (all_ready_with h ns)
        (λ ready. ap (λ g. all_collected (hub_with h k x) g)
        (all_with ns h.board laid.good f
        (λ i n here. known_asked h n (all_known h ns (and_parts (are_distinct ns) _ known).1 i n here))))
        refl)
        refl
    outcome_with h (Init sends comm peer tag parts size) laid f room =
        let t = setup_of s sends comm peer tag parts size in init_with_body h t (peer_of h.sides t)
    outcome_with h (Cut link) laid f room =
        either (is_receiver h.links s link) (cut_of (sender_over h.sides link), h) (reply.Code BadRequest, h)
        (cut_of (sender_over h.sides link), hub_with h k x) (reply.Code BadRequest, hub_with h k x) refl refl

-- ---- so it stays

set_same : {A : Type 0} (xs : List A) (k : ℕ) (x : A) → slice_get xs k ≡ Some x → slice_set xs k x ≡ xs
set_same [] k x here = refl
set_same (y ∷ xs) zero x here = ap (λ z. z ∷ xs) (sym (same_Some y x here))
set_same (y ∷ xs) (suc k) x here = ap (λ l. y ∷ l) (set_same xs k x here)

at_here : {A : Type 0} (xs : List A) (k : ℕ) (x : A) → k < length xs → slice_get (slice_set xs k x) k ≡ Some x
at_here [] k x below = absurd (omega (arith, below))
at_here (y ∷ xs) zero x below = refl
at_here (y ∷ xs) (suc k) x below = at_here xs k x (omega (arith, below))

pub body_stays : (r s number k : ℕ) → (s ≡ r → ⊥) → (h : HubView) (q : Request) → Laid h → Laid (outcome h s q).1
    → HasIt h.board.lines r number k → length h.board.lines < 65536 → (x : Option (List ℕ))
    → slice_get h.board.bodies k ≡ Some x → slice_get (outcome h s q).1.board.bodies k ≡ Some x
body_stays r s number k apart h q laid then f room x here =
    let new = (outcome h s q).1 in
    let back : hub_with h k x ≡ h = hub_as h (set_same h.board.bodies k x here) in
    let same : new ≡ hub_with new k x =
    ap (λ g. (outcome g s q).1) (sym back)
    ∙ ap (λ (o : Reply × HubView). o.1) (outcome_with k x r s number apart h q laid f room) in
    ap (λ (g : HubView). slice_get g.board.bodies k) same
    ∙ at_here new.board.bodies k x (body_within new r number k then (has_stays r s number k h q f))
  where
    hub_as : (h : HubView) {bodies : List (Option (List ℕ))} → bodies ≡ h.board.bodies
        → with_board h (record { lines = h.board.lines; bodies = bodies; compared = h.board.compared }) ≡ h
    hub_as h same = λ i. with_board h (record { lines = h.board.lines; bodies = same i; compared = h.board.compared })
