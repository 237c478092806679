-- A rank's receive that wasn't collected: calls of other ranks don't collect it.
use Rattle.std.proofs.Common.{◌≡◌, ℕ, zero, suc, ◌⊎◌, inl, inr, List, [], ◌∷◌, length, Bool, true, false, cond, Option, Some, None, refl, sym, ap, ◌∙◌, subst, add-one}
use Rattle.std.specs.Prelude.{◌&&◌, nat_lt}
use Rattle.std.specs.List.{slice_get, list_all}
use Rattle.std.proofs.lemmas.Bool.{and_parts, cases_eq, eq-eqb, or_cases}
use Rattle.std.proofs.lemmas.Option.{same_Some}
use Rattle.mp_types.specs.declared.codes.Code.TheVariants.{BadRequest, BadMessage, Full, Shape}
use Rattle.mp_types.specs.declared.messages.Envelope.{Envelope}
use Rattle.mp_types.specs.declared.messages.Message.{Message}
use Rattle.mp_types.specs.declared.replies.Reply.{Reply}
use Rattle.mp_types.specs.declared.replies.Reply.TheVariants as reply
use Rattle.mp_types.specs.declared.requests.Request.{Request}
use Rattle.mp_types.specs.declared.requests.Request.TheVariants.{Send, Recv, Collect, Finished, Probe, Claim, Claimed, All, Init, Cut}
use Rattle.mp_match.specs.declared.posts.Sent.{Sent}
use Rattle.mp_match.specs.declared.posts.Selection.{Selection}
use Rattle.mp_match.specs.declared.posts.Post.{Post}
use Rattle.mp_match.specs.declared.posts.Post.TheVariants as post
use Rattle.mp_match.specs.declared.posts.Line.{Line}
use Rattle.mp_match.specs.Pairs.{may_pair, partner_for, partner_of_line}
use Rattle.mp_match.specs.Board.{Board, collect, collect_from, held_count, is_held, is_receive_of, is_send_of, line_of, partner_of, board_with, probed, receive_posted, send_posted}
use Rattle.mp_match.proofs.Lines.{add_given, add_new, add_old, given}
use Rattle.mp_match.proofs.OrderKept.{Good, Takes, chosen, good_more}
use Rattle.mp_match.proofs.Places.{get_front, get_last}
use Rattle.mp_probe.specs.Claims.{may_receive, next_number, without_claim}
use Rattle.mp_transfers.specs.declared.sides.Setup.{Setup}
use Rattle.mp_transfers.specs.declared.sides.Side.{Side}
use Rattle.mp_transfers.specs.Inits.{is_receiver, lowest_link, peer_of, same_total, sender_over}
use Rattle.mp_hub.specs.Hub.{HubView, all_collected, all_got, are_distinct, claim_found, claimed_now, cut_of, got_or, init_first, init_with, is_complete, is_done, is_known, is_ready, may_collect, one_got, outcome, selecting, sending, setup_of, side_added, with_board, with_claims}
use Rattle.mp_hub.proofs.BoardKept.{one_lines}
use Rattle.mp_wait_laws.proofs.Sets.{get-set_other}
use Rattle.mp_wait_laws.proofs.Collects.{taken_at}
use Rattle.mp_wait_laws.proofs.Lines.{at_place}
use Rattle.mp_wait_laws.proofs.Moves.{got_hub}
use Rattle.mp_wait_laws.proofs.Owned.{AreOwned}

-- the message of the post's partner, where it has one, is held
abbrev pub HasBody : Board → Option ℕ → Type 0
HasBody b o = (j : ℕ) → o ≡ Some j → is_held (slice_get b.bodies j) ≡ true

pub record Fresh (b : Board) (r place : ℕ) : Type 0 where
  pub line : Line
  pub here : slice_get b.lines place ≡ Some line
  pub what : Selection
  pub takes : Takes line.post what
  pub mine : what.rank ≡ r
  pub body : HasBody b line.partner

some_body : (o : Option (Option (List ℕ))) → is_held o ≡ true → (x : List ℕ) × (o ≡ Some (Some x))
some_body None h = absurd (cc)
some_body (Some None) h = absurd (cc)
some_body (Some (Some x)) h = (x, refl)

-- ---- one post more

-- a send comes with its bytes
abbrev pub CarriesIts : Post → Option (List ℕ) → Type 0
CarriesIts p body = (s : Sent) → p ≡ post.Send s → (bytes : List ℕ) × (body ≡ Some bytes)

held_front : (b : Board) (p : Post) (body : Option (List ℕ)) (j : ℕ) → is_held (slice_get b.bodies j) ≡ true
    → is_held (slice_get (board_with b p body).bodies j) ≡ true
held_front b p body j h =
    (let x = some_body (slice_get b.bodies j) h in ap is_held (get_front b.bodies (body ∷ []) j (Some x.0) x.1))

-- a receive may pair with a new send alone
send_only : (p q : Post) (a : Selection) → Takes q a → may_pair p q ≡ true → (s : Sent) × (p ≡ post.Send s)
send_only (post.Send s) q a takes pair = (s, refl)
send_only (post.Receive b) q a (inl e) pair =
    (let f : may_pair (post.Receive b) (post.Receive a) ≡ true = subst
    (λ (x : Post). may_pair (post.Receive b) x ≡ true) e pair in absurd (cc))
send_only (post.Receive b) q a (inr e) pair =
    (let f : may_pair (post.Receive b) (post.Claim a) ≡ true = subst
    (λ (x : Post). may_pair (post.Receive b) x ≡ true) e pair in absurd (cc))
send_only (post.Claim b) q a (inl e) pair =
    (let f : may_pair (post.Claim b) (post.Receive a) ≡ true = subst (λ (x : Post). may_pair (post.Claim b) x ≡ true)
    e pair in absurd (cc))
send_only (post.Claim b) q a (inr e) pair =
    (let f : may_pair (post.Claim b) (post.Claim a) ≡ true = subst (λ (x : Post). may_pair (post.Claim b) x ≡ true) e
    pair in absurd (cc))

pub fresh_posted : (b : Board) (p : Post) (body : Option (List ℕ)) (r place : ℕ) → length b.bodies ≡ length b.lines
    → CarriesIts p body → Fresh b r place → Fresh (board_with b p body) r place
fresh_posted b p body r place even carries f = go (partner_for b.lines p) refl
  where
    old : (partner_for b.lines p ≡ Some place → ⊥) → Fresh (board_with b p body) r place
    old other = record {
      line = f.line;
      here = add_old b.lines p place f.line f.here other;
      what = f.what;
      takes = f.takes;
      mine = f.mine;
      body = λ j e. held_front b p body j (f.body j e);
    }

    new : partner_for b.lines p ≡ Some place → Fresh (board_with b p body) r place
    new found =
        let c = chosen b.lines p place found in
        let same : c.line ≡ f.line = at_place b.lines place c.line f.line c.here f.here in
        let s = send_only p (f.line).post f.what f.takes (subst (λ (z : Line). may_pair p z.post ≡ true) same c.pair) in
        let x = carries s.0 s.1 in
        record {
          line = given f.line (length b.lines);
          here = add_given b.lines p place f.line f.here found;
          what = f.what;
          takes = f.takes;
          mine = f.mine;
          body = λ j e.
              let end : length b.lines ≡ j = same_Some (length b.lines) j e in
              subst (λ k. is_held (slice_get (board_with b p body).bodies k) ≡ true) (even ∙ end)
              (ap is_held (get_last b.bodies body) ∙ ap (λ (o : Option (List ℕ)). is_held (Some o)) x.1);
        }

    go : (o : Option ℕ) → partner_for b.lines p ≡ o → Fresh (board_with b p body) r place
    go None e = old (λ found. absurd (cc))
    go (Some q) e = elim (cases_eq q place) [
      | inl same ↦ new (e ∙ ap (λ k. Some k) same)
      | inr other ↦ old (λ found. other (same_Some q place (sym e ∙ found)))
    ]

-- ---- a receive of another rank is collected

pub fresh_collected : (b : Board) (r other place number : ℕ) → Good b.lines → (other ≡ r → ⊥)
    → is_receive_of other (line_of b number) ≡ true → Fresh b r place → Fresh (collect b number).1 r place
fresh_collected b r other place zero good apart its f = absurd (cc)
fresh_collected b r other place (suc m) good apart its f = go (partner_of b (suc m)) refl
  where
    line : (o : Option Line) → is_receive_of other o ≡ true → (x : Line) × (o ≡ Some x)
    line None h = absurd (cc)
    line (Some x) h = (x, refl)

    not_same : (q : ℕ) → partner_of b (suc m) ≡ Some q → (f.line).partner ≡ Some q → ⊥
    not_same q theirs mine =
        let l = line (line_of b (suc m)) its in
        let t = taken_at (l.0).post (l.0).partner other (sym (ap (is_receive_of other) l.1) ∙ its) in
        let to : (l.0).partner ≡ Some q = sym (ap partner_of_line l.1) ∙ theirs in
        let g = good.paired m q l.0 l.1 to in
        let k = good.paired place q f.line f.here mine in
        let twice : g.0 ≡ k.0 = at_place b.lines q g.0 k.0 g.1 k.1 in
        let places : m ≡ place = same_Some m place (sym g.2 ∙ ap (λ (x : Line). x.partner) twice ∙ k.2) in
        let same : l.0 ≡ f.line =
        at_place b.lines place l.0 f.line (subst (λ i. slice_get b.lines i ≡ Some l.0) places l.1) f.here in
        apart (sym t.2 ∙ ap (λ (x : Selection). x.rank)
        (one_what (l.0).post t.0 f.what t.1 (subst (λ (x : Line). Takes x.post f.what) (sym same) f.takes)) ∙ f.mine)
      where
        one_what : (p : Post) (a c : Selection) → Takes p a → Takes p c → a ≡ c
        one_what p a c (inl e) (inl g) = (let h : post.Receive a ≡ post.Receive c = sym e ∙ g in cc)
        one_what p a c (inl e) (inr g) = absurd (cc)
        one_what p a c (inr e) (inl g) = absurd (cc)
        one_what p a c (inr e) (inr g) = (let h : post.Claim a ≡ post.Claim c = sym e ∙ g in cc)

    go : (o : Option ℕ) → partner_of b (suc m) ≡ o → Fresh (collect_from b o).1 r place
    go None e = f
    go (Some q) e = record {
      line = f.line;
      here = f.here;
      what = f.what;
      takes = f.takes;
      mine = f.mine;
      body = λ j h.
          ap is_held (get-set_other b.bodies q j None (λ same. not_same q e (h ∙ ap (λ k. Some k) (sym same))))
          ∙ f.body j h;
    }

-- ---- a call of another rank

pub record Laid (h : HubView) : Type 0 where
  pub good : Good h.board.lines
  pub owned : AreOwned h
  pub even : length h.board.bodies ≡ length h.board.lines

module _ (r other place : ℕ) (apart : other ≡ r → ⊥) where
  abbrev pub Then : Reply × HubView → Type 0
  Then o = Fresh (o.1).board r place

  got_then : (h : HubView) (q : Reply) (g : Option Message × Board) → Fresh g.1 r place → Then (got_or h q g)
  got_then h q g f = subst (λ (x : HubView). Fresh x.board r place) (sym (got_hub h q g)) f

  either : (b : Bool) (x y : Reply × HubView) → (b ≡ true → Then x) → Then y → Then (cond b x y)
  either true x y p q = p refl
  either false x y p q = q

  init_then : (h : HubView) (s : Setup) (o : Option Side) → Fresh h.board r place → Then (init_with h s o)
  init_then h s None f = free (lowest_link h.links h.sides s)
    where
      free : (o : Option ℕ) → Then (init_first h s o)
      free None = f
      free (Some k) = f
  init_then h s (Some t) f = either (same_total s t.setup) (side_added h s t.link) (reply.Code Shape, h) (λ e. f) f

  -- a post that may be asked for is a send of its rank or a receive of its rank
  abbrev IsAsked : Board → ℕ → Type 0
  IsAsked b n = (is_receive_of other (line_of b n) ≡ true) ⊎ (is_send_of other (line_of b n) ≡ true)

  same_line : (b c : Board) (n : ℕ) → c.lines ≡ b.lines → line_of c n ≡ line_of b n
  same_line b c zero same = refl
  same_line b c (suc k) same = ap (λ ms. slice_get ms k) same

  asked_too : (b c : Board) (n : ℕ) → c.lines ≡ b.lines → IsAsked b n → IsAsked c n
  asked_too b c n same (inl e) = inl (ap (is_receive_of other) (same_line b c n same) ∙ e)
  asked_too b c n same (inr e) = inr (ap (is_send_of other) (same_line b c n same) ∙ e)

  fresh_one : (b : Board) (n : ℕ) → Good b.lines → IsAsked b n → Fresh b r place → Fresh (one_got other b n).1 r place
  fresh_one b n good is f = go (is_send_of other (line_of b n)) refl is
    where
      go : (s : Bool) → is_send_of other (line_of b n) ≡ s → IsAsked b n
          → (let g : Option Message × Board = cond s (None, b) (collect b n) in Fresh g.1 r place)
      go true e is = f
      go false e (inl receive) = fresh_collected b r other place n good apart receive f
      go false e (inr sends) = absurd (cc)

  fresh_all : (ns : List ℕ) (b : Board) → Good b.lines → ((i n : ℕ) → slice_get ns i ≡ Some n → IsAsked b n)
      → Fresh b r place → Fresh (all_got other b ns).1 r place
  fresh_all [] b good each f = f
  fresh_all (n ∷ ns) b good each f =
      fresh_all ns (one_got other b n).1 (subst (λ ms. Good ms) (sym (one_lines other b n)) good)
      (λ i m here. asked_too b (one_got other b n).1 m (one_lines other b n) (each (suc i) m here))
      (fresh_one b n good (each 0 n refl) f)

  known_asked : (h : HubView) (n : ℕ) → is_known h other n ≡ true → IsAsked h.board n
  known_asked h n known = elim (or_cases (may_collect h other n) (is_send_of other (line_of h.board n)) known) [
    | inl may ↦ inl (and_parts (is_receive_of other (line_of h.board n)) _ (and_parts _ _ may).0).0
    | inr sends ↦ inr sends
  ]

  all_known : (h : HubView) (ns : List ℕ) → list_all (λ n. is_known h other n) ns ≡ true → (i n : ℕ)
      → slice_get ns i ≡ Some n → is_known h other n ≡ true
  all_known h [] all i n here = absurd (cc)
  all_known h (m ∷ ns) all zero n here =
      subst (λ k. is_known h other k ≡ true) (same_Some m n here) (and_parts (is_known h other m) _ all).0
  all_known h (m ∷ ns) all (suc i) n here = all_known h ns (and_parts (is_known h other m) _ all).1 i n here

  pub fresh_stays : (h : HubView) (q : Request) → Laid h → Fresh h.board r place → Then (outcome h other q)
  fresh_stays h (Send sync comm dest tag bytes) laid f =
      let s = sending other sync comm dest tag bytes in
      either (nat_lt (held_count h.board.bodies) 65536)
      (reply.Posted (next_number h.board) (is_done h.board s), with_board h (send_posted h.board s bytes))
      (reply.Code Full, h)
      (λ e. fresh_posted h.board (post.Send s) (Some bytes) r place laid.even (λ t same. (bytes, refl)) f)
      f
  fresh_stays h (Recv true comm source tag) laid f =
      let a = selecting other comm source tag in
      let b = receive_posted h.board a in
      got_then h (reply.Posted (next_number h.board) false) (collect b (next_number h.board))
      (fresh_collected b r other place (next_number h.board) (good_more h.board.lines (post.Receive a) laid.good)
      apart (newest h a refl)
      (fresh_posted h.board (post.Receive a) None r place laid.even (λ t same. absurd (cc)) f))
    where
      newest : (h : HubView) (a : Selection) → a.rank ≡ other
          → is_receive_of other (line_of (receive_posted h.board a) (next_number h.board)) ≡ true
      newest h a mine =
          subst (λ n. is_receive_of other (line_of (receive_posted h.board a) n) ≡ true)
          (sym (add-one (length h.board.lines)))
          (ap (is_receive_of other) (add_new h.board.lines (post.Receive a)) ∙ eq-eqb a.rank other mine)
  fresh_stays h (Recv false comm source tag) laid f =
      fresh_posted h.board (post.Receive (selecting other comm source tag)) None r place laid.even
      (λ t same. absurd (cc)) f
  fresh_stays h (Collect n) laid f =
      either (may_collect h other n) (got_or h reply.NotYet (collect h.board n)) (reply.Code BadRequest, h)
      (λ may. got_then h reply.NotYet (collect h.board n)
      (fresh_collected h.board r other place n laid.good apart
      (and_parts (is_receive_of other (line_of h.board n)) _ (and_parts _ _ may).0).0 f))
      f
  fresh_stays h (Finished n) laid f =
      either (is_send_of other (line_of h.board n)) (cond (is_complete h n) reply.Done reply.NotYet, h)
      (reply.Code BadRequest, h) (λ e. f) f
  fresh_stays h (Probe comm source tag) laid f = f
  fresh_stays h (Claim comm source tag) laid f = go (probed h.board (post.Claim (selecting other comm source tag)))
    where
      go : (o : Option Envelope) → Then (claim_found h (selecting other comm source tag) o)
      go None = f
      go (Some e) =
          fresh_posted h.board (post.Claim (selecting other comm source tag)) None r place laid.even
          (λ t same. absurd (cc)) f
  fresh_stays h (Claimed now n) laid f =
      let k = with_claims h (without_claim h.claims other n) in
      either (may_receive h.claims other n) (claimed_now k now n) (reply.Code BadMessage, h) (go now) f
    where
      go : (now : Bool) → may_receive h.claims other n ≡ true
          → Then (claimed_now (with_claims h (without_claim h.claims other n)) now n)
      go true may =
          let c = laid.owned other n may in
          let its : is_receive_of other (line_of h.board n) ≡ true =
          subst (λ k. is_receive_of other (line_of h.board k) ≡ true) (sym (c.numbered ∙ add-one c.place))
          (ap (is_receive_of other) c.here
          ∙ ap (λ (p : Post). is_receive_of other (Some (record { post = p; partner = (c.line).partner }))) c.claims
          ∙ eq-eqb (c.what).rank other c.mine) in
          got_then (with_claims h (without_claim h.claims other n)) reply.NotYet (collect h.board n)
          (fresh_collected h.board r other place n laid.good apart its f)
      go false may = f
  fresh_stays h (All ns) laid f =
      either (are_distinct ns && list_all (λ n. is_known h other n) ns)
      (cond (list_all (λ n. is_ready h other n) ns) (all_collected h (all_got other h.board ns)) (reply.NotYet, h))
      (reply.Code BadRequest, h)
      (λ known. either (list_all (λ n. is_ready h other n) ns) (all_collected h (all_got other h.board ns))
      (reply.NotYet, h)
      (λ ready. fresh_all ns h.board laid.good
      (λ i n here. known_asked h n (all_known h ns (and_parts (are_distinct ns) _ known).1 i n here)) f)
      f)
      f
  fresh_stays h (Init sends comm peer tag parts size) laid f =
      let s = setup_of other sends comm peer tag parts size in init_then h s (peer_of h.sides s) f
  fresh_stays h (Cut link) laid f =
      either (is_receiver h.links other link) (cut_of (sender_over h.sides link), h) (reply.Code BadRequest, h)
      (λ e. f) f
