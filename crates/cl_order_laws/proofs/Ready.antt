-- What a rank asks for, and is there, stays: it is told the same before and behind the calls of others.
use Rattle.std.proofs.Common.{◌≡◌, ℕ, zero, suc, ◌<◌, ◌⊎◌, inl, inr, List, [], ◌∷◌, length, Bool, true, false, cond, not, Option, Some, None, refl, sym, ap, ◌∙◌, subst, arith, add-one}
use Rattle.std.specs.Prelude.{◌&&◌}
use Rattle.std.specs.List.{slice_get, list_all}
use Rattle.std.specs.Option.{is_some}
use Rattle.std.proofs.lemmas.Bool.{and_from, and_parts, cases_Bool, cond-true, cond-false, not_from_false, or_cases, or_left, or_right}
use Rattle.std.proofs.lemmas.Option.{same_Some}
use Rattle.mp_types.specs.declared.codes.Code.TheVariants.{BadRequest}
use Rattle.mp_types.specs.declared.messages.Message.{Message}
use Rattle.mp_types.specs.declared.replies.Reply.{Reply}
use Rattle.mp_types.specs.declared.replies.Reply.TheVariants as reply
use Rattle.mp_types.specs.declared.requests.Request.{Request}
use Rattle.mp_types.specs.declared.requests.Request.TheVariants.{Collect, Finished, Probe, All, Cut}
use Rattle.mp_match.specs.declared.posts.Line.{Line}
use Rattle.mp_match.specs.declared.posts.Post.{Post}
use Rattle.mp_match.specs.declared.posts.Post.TheVariants as post
use Rattle.mp_match.specs.declared.posts.Selection.{Selection}
use Rattle.mp_match.specs.Pairs.{partner_for, partner_of_line}
use Rattle.mp_match.specs.Board.{Board, claim_at, claim_in, claim_of, collect, envelope_at, collect_from, envelope_in, is_finished, is_gone, is_held, is_receive, is_receive_at, is_receive_of, is_send_of, is_standard, line_of, message_at, message_in, partner_of}
use Rattle.mp_match.proofs.OrderKept.{Takes}
use Rattle.mp_match.proofs.Places.{get_within}
use Rattle.mp_probe.specs.Claims.{is_waiting}
use Rattle.mp_transfers.specs.declared.sides.Side.{Side}
use Rattle.mp_transfers.specs.Inits.{is_receiver, sender_over}
use Rattle.mp_hub.specs.Hub.{HubView, all_collected, all_got, are_distinct, cut_of, got_or, is_complete, is_known, is_ready, may_collect, message_or, one_got, outcome, seen, selecting, was_received, with_board}
use Rattle.mp_hub.proofs.BoardKept.{all_lines}
use Rattle.mp_wait_laws.proofs.Collects.{mine_at, none_waits, not_false, not_true, taken_at}
use Rattle.mp_wait_laws.proofs.Fresh.{Laid}
use Rattle.mp_wait_laws.proofs.Lines.{paired_stays, post_stays}
use Rattle.mp_wait_laws.proofs.Moves.{GrowsBy, all, fits_all, moves}
use Rattle.cl_order_laws.specs.SureAsks.{IsReady}
use Rattle.cl_order_laws.proofs.Bodies.{HasIt, body_stays, body_within, has_stays, hub_with, line_there, outcome_with, with_body}
use Rattle.cl_order_laws.proofs.Each.{set_length}
use Rattle.cl_order_laws.proofs.Seen.{cut_stays, found_stays, links_stay, seen_stays}

-- ---- posts that are at their end

-- the rank's receive or received claim has a message, which wasn't collected
pub record Has (h : HubView) (r n : ℕ) : Type 0 where
  pub k : ℕ
  pub it : HasIt h.board.lines r n k
  pub idle : is_waiting h.claims n ≡ false
  pub held : is_held (slice_get h.board.bodies k) ≡ true

-- the rank's send is complete
pub record IsSent (h : HubView) (r n : ℕ) : Type 0 where
  pub its : is_send_of r (line_of h.board n) ≡ true
  pub complete : is_complete h n ≡ true

abbrev pub IsReadyCall : HubView → ℕ → Request → Type 0
IsReadyCall h r (Collect n) = Has h r n
IsReadyCall h r (Finished n) = IsSent h r n
IsReadyCall h r (All ns) =
    (are_distinct ns ≡ true) × ((i n : ℕ) → slice_get ns i ≡ Some n → IsSent h r n ⊎ Has h r n)
IsReadyCall h r (Probe comm source tag) =
    (i : ℕ) × (partner_for h.board.lines (post.Receive (selecting r comm source tag)) ≡ Some i)
IsReadyCall h r (Cut link) =
    (is_receiver h.links r link ≡ true) × ((t : Side) × (sender_over h.sides link ≡ Some t))
IsReadyCall h r _ = ⊥

-- ---- told by the reply

has_from : (h : HubView) (r n : ℕ) → may_collect h r n ≡ true → is_some (partner_of h.board n) ≡ true → Has h r n
has_from h r zero may some = absurd (cc)
has_from h r (suc place) may some =
    let parts = and_parts _ (not (is_gone h.board (partner_of h.board (suc place)))) may in
    let two =
    and_parts (is_receive_of r (line_of h.board (suc place))) (not (is_waiting h.claims (suc place))) parts.0 in
    let l = line_there r (line_of h.board (suc place)) two.0 in
    let t = taken_at (l.0).post (l.0).partner r (sym (ap (is_receive_of r) l.1) ∙ two.0) in
    go (partner_of h.board (suc place)) refl some (not_true _ parts.1) l.0 l.1 t.0 t.1 t.2 (not_true _ two.1)
  where
    go : (o : Option ℕ) → partner_of h.board (suc place) ≡ o → is_some o ≡ true → is_gone h.board o ≡ false
        → (line : Line) → slice_get h.board.lines place ≡ Some line → (a : Selection) → Takes line.post a → a.rank ≡ r
        → is_waiting h.claims (suc place) ≡ false → Has h r (suc place)
    go None e some held line here a takes mine idle = absurd (cc)
    go (Some k) e some held line here a takes mine idle = record {
      k = k;
      it = record {
        place = place;
        numbered = refl;
        line = line;
        here = here;
        what = a;
        takes = takes;
        mine = mine;
        has = sym (ap partner_of_line here) ∙ e;
      };
      idle = idle;
      held = not_false _ held;
    }

end_from : (h : HubView) (r n : ℕ) → is_known h r n ≡ true → is_ready h r n ≡ true → IsSent h r n ⊎ Has h r n
end_from h r n known ready = elim (cases_Bool (is_send_of r (line_of h.board n))) [
  | inl its ↦ inl (record {
    its = its;
    complete = sym (cond-true (is_send_of r (line_of h.board n)) (is_complete h n) (is_some (partner_of h.board n)) its)
        ∙ ready;
  })
  | inr none ↦ elim (or_cases (may_collect h r n) (is_send_of r (line_of h.board n)) known) [
    | inl may ↦ inr (has_from h r n may
        (sym (cond-false (is_send_of r (line_of h.board n)) (is_complete h n) (is_some (partner_of h.board n)) none)
        ∙ ready))
    | inr its ↦ absurd (cc)
  ]
]

all_at : (t : ℕ → Bool) (ns : List ℕ) → list_all t ns ≡ true → (i n : ℕ) → slice_get ns i ≡ Some n → t n ≡ true
all_at t [] all i n here = absurd (cc)
all_at t (m ∷ ns) all zero n here = subst (λ k. t k ≡ true) (same_Some m n here) (and_parts (t m) (list_all t ns) all).0
all_at t (m ∷ ns) all (suc i) n here = all_at t ns (and_parts (t m) (list_all t ns) all).1 i n here

all_from : (t : ℕ → Bool) (ns : List ℕ) → ((i n : ℕ) → slice_get ns i ≡ Some n → t n ≡ true) → list_all t ns ≡ true
all_from t [] each = refl
all_from t (m ∷ ns) each =
    and_from (t m) (list_all t ns) (each 0 m refl) (all_from t ns (λ i n here. each (suc i) n here))

pub ready_from : (h : HubView) (r : ℕ) (q : Request) → IsReady q (outcome h r q).0 → IsReadyCall h r q
ready_from h r (Collect n) is = go (may_collect h r n) refl is
  where
    some : (o : Option ℕ) → IsReady (Collect n) (got_or h reply.NotYet (collect_from h.board o)).0 → is_some o ≡ true
    some None is = absurd is
    some (Some k) is = refl

    go : (c : Bool) → may_collect h r n ≡ c
        → IsReady (Collect n) (let o : Reply × HubView =
        cond c (got_or h reply.NotYet (collect h.board n)) (reply.Code BadRequest, h) in o.0)
        → Has h r n
    go true may is = has_from h r n may (some (partner_of h.board n) is)
    go false may is = absurd is
ready_from h r (Finished n) is = go (is_send_of r (line_of h.board n)) refl (is_complete h n) refl is
  where
    go : (c : Bool) → is_send_of r (line_of h.board n) ≡ c → (d : Bool) → is_complete h n ≡ d
        → IsReady (Finished n) (let o : Reply × HubView =
        cond c (cond d reply.Done reply.NotYet, h) (reply.Code BadRequest, h) in o.0)
        → IsSent h r n
    go true its true complete is = record { its = its; complete = complete }
    go true its false complete is = absurd is
    go false its d complete is = absurd is
ready_from h r (All ns) is =
    go (are_distinct ns && list_all (λ n. is_known h r n) ns) refl (list_all (λ n. is_ready h r n) ns) refl is
  where
    go : (c : Bool) → (are_distinct ns && list_all (λ n. is_known h r n) ns) ≡ c → (d : Bool)
        → list_all (λ n. is_ready h r n) ns ≡ d
        → IsReady (All ns) (let o : Reply × HubView =
        cond c (cond d (all_collected h (all_got r h.board ns)) (reply.NotYet, h)) (reply.Code BadRequest, h) in o.0)
        → IsReadyCall h r (All ns)
    go true fine true ready is =
        let parts = and_parts (are_distinct ns) (list_all (λ n. is_known h r n) ns) fine in (
          parts.0,
          λ i n here. end_from h r n (all_at (λ n. is_known h r n) ns parts.1 i n here)
              (all_at (λ n. is_ready h r n) ns ready i n here),
        )
    go true fine false ready is = absurd is
    go false fine d ready is = absurd is
ready_from h r (Probe comm source tag) is =
    go (partner_for h.board.lines (post.Receive (selecting r comm source tag))) is
  where
    go : (o : Option ℕ) → IsReady (Probe comm source tag) (seen (envelope_at h.board o))
        → (i : ℕ) × (o ≡ Some i)
    go None is = absurd is
    go (Some i) is = (i, refl)
ready_from h r (Cut link) is = go (is_receiver h.links r link) refl (sender_over h.sides link) refl is
  where
    go : (c : Bool) → is_receiver h.links r link ≡ c → (o : Option Side) → sender_over h.sides link ≡ o
        → IsReady (Cut link) (let x : Reply × HubView = cond c (cut_of o, h) (reply.Code BadRequest, h) in x.0)
        → IsReadyCall h r (Cut link)
    go true its (Some t) known is = (its, (t, known))
    go true its None known is = absurd is
    go false its o known is = absurd is
ready_from h r _ is = absurd is

-- ---- what its calls are told

-- the rank's receive is no send
no_send : (r : ℕ) (p : Post) (o : Option ℕ) (a : Selection) → Takes p a
    → is_send_of r (Some (record { post = p; partner = o })) ≡ false
no_send r p o a (inl e) = ap (λ (x : Post). is_send_of r (Some (record { post = x; partner = o }))) e
no_send r p o a (inr e) = ap (λ (x : Post). is_send_of r (Some (record { post = x; partner = o }))) e

module _ (b : Board) (r n k : ℕ) (f : HasIt b.lines r n k) where
  its_line : line_of b n ≡ Some f.line
  its_line = ap (line_of b) f.numbered ∙ f.here

  its_partner : partner_of b n ≡ Some k
  its_partner = ap (partner_of b) f.numbered ∙ ap partner_of_line f.here ∙ f.has

  is_no_send : is_send_of r (line_of b n) ≡ false
  is_no_send = ap (is_send_of r) its_line ∙ no_send r (f.line).post (f.line).partner f.what f.takes

  is_its_receive : is_receive_of r (line_of b n) ≡ true
  is_its_receive = ap (is_receive_of r) its_line ∙ mine_at (f.line).post (f.line).partner f.what r f.takes f.mine

  collects_it : collect b n ≡ (message_at b k, with_body b k None)
  collects_it = ap (collect_from b) its_partner

  one_has : one_got r b n ≡ (message_at b k, with_body b k None)
  one_has = cond-false (is_send_of r (line_of b n)) (None, b) (collect b n) is_no_send ∙ collects_it

one_sent : (b : Board) (r n : ℕ) → is_send_of r (line_of b n) ≡ true → one_got r b n ≡ (None, b)
one_sent b r n its = cond-true (is_send_of r (line_of b n)) (None, b) (collect b n) its

has_may : (h : HubView) (r n : ℕ) → Has h r n → may_collect h r n ≡ true
has_may h r n f =
    and_from _ _ (and_from _ _ (is_its_receive h.board r n f.k f.it) (not_from_false _ f.idle))
    (ap (λ o. not (is_gone h.board o)) (its_partner h.board r n f.k f.it) ∙ ap (λ c. not (not c)) f.held)

collect_told : (h : HubView) (r n : ℕ) → (f : Has h r n)
    → outcome h r (Collect n) ≡ (message_or reply.NotYet (message_at h.board f.k), hub_with h f.k None)
collect_told h r n f =
    cond-true (may_collect h r n) (got_or h reply.NotYet (collect h.board n)) (reply.Code BadRequest, h)
    (has_may h r n f)
    ∙ ap (λ g. got_or h reply.NotYet g) (collects_it h.board r n f.k f.it)

finished_told : (h : HubView) (r n : ℕ) → IsSent h r n → outcome h r (Finished n) ≡ (reply.Done, h)
finished_told h r n f =
    cond-true (is_send_of r (line_of h.board n)) (cond (is_complete h n) reply.Done reply.NotYet, h)
    (reply.Code BadRequest, h) f.its
    ∙ ap (λ c. (let o : Reply × HubView = (cond c reply.Done reply.NotYet, h) in o)) f.complete

cut_told : (h : HubView) (r link : ℕ) (t : Side) → is_receiver h.links r link ≡ true
    → sender_over h.sides link ≡ Some t → outcome h r (Cut link) ≡ (reply.Cut t.setup.parts t.setup.size, h)
cut_told h r link t its known =
    cond-true (is_receiver h.links r link) (cut_of (sender_over h.sides link), h) (reply.Code BadRequest, h) its
    ∙ ap (λ o. (let x : Reply × HubView = (cut_of o, h) in x)) known

all_told : (h : HubView) (r : ℕ) (ns : List ℕ) → IsReadyCall h r (All ns)
    → outcome h r (All ns) ≡ all_collected h (all_got r h.board ns)
all_told h r ns f =
    cond-true (are_distinct ns && list_all (λ n. is_known h r n) ns)
    (cond (list_all (λ n. is_ready h r n) ns) (all_collected h (all_got r h.board ns)) (reply.NotYet, h))
    (reply.Code BadRequest, h)
    (and_from (are_distinct ns) _ f.0 (all_from (λ n. is_known h r n) ns (λ i n here. known n (f.1 i n here))))
    ∙ cond-true (list_all (λ n. is_ready h r n) ns) (all_collected h (all_got r h.board ns)) (reply.NotYet, h)
    (all_from (λ n. is_ready h r n) ns (λ i n here. ready n (f.1 i n here)))
  where
    known : (n : ℕ) → IsSent h r n ⊎ Has h r n → is_known h r n ≡ true
    known n (inl s) = or_right (may_collect h r n) _ s.its
    known n (inr g) = or_left (may_collect h r n) _ (has_may h r n g)

    ready : (n : ℕ) → IsSent h r n ⊎ Has h r n → is_ready h r n ≡ true
    ready n (inl s) =
        cond-true (is_send_of r (line_of h.board n)) (is_complete h n) (is_some (partner_of h.board n)) s.its
        ∙ s.complete
    ready n (inr g) =
        cond-false (is_send_of r (line_of h.board n)) (is_complete h n) (is_some (partner_of h.board n))
        (is_no_send h.board r n g.k g.it)
        ∙ ap is_some (its_partner h.board r n g.k g.it)

-- no post is made
pub same_lines : (h : HubView) (r : ℕ) (q : Request) → IsReadyCall h r q
    → (outcome h r q).1.board.lines ≡ h.board.lines
same_lines h r (Collect n) f = ap (λ (o : Reply × HubView). (o.1).board.lines) (collect_told h r n f)
same_lines h r (Finished n) f = ap (λ (o : Reply × HubView). (o.1).board.lines) (finished_told h r n f)
same_lines h r (Probe comm source tag) f = refl
same_lines h r (All ns) f =
    ap (λ (o : Reply × HubView). (o.1).board.lines) (all_told h r ns f) ∙ all_lines r ns h.board
same_lines h r (Cut link) f =
    ap (λ (o : Reply × HubView). (o.1).board.lines) (cut_told h r link (f.1).0 f.0 (f.1).1)
same_lines h r _ f = absurd f

-- ---- a call of another rank

laid_with : (h : HubView) (k : ℕ) (x : Option (List ℕ)) → Laid h → Laid (hub_with h k x)
laid_with h k x laid =
    record { good = laid.good; owned = laid.owned; even = set_length h.board.bodies k x ∙ laid.even }

module _ (r s : ℕ) (apart : s ≡ r → ⊥) (p : Request) where
  abbrev then : HubView → HubView
  then h = (outcome h s p).1

  post_at : (h : HubView) (i : ℕ) (m : Line) → slice_get h.board.lines i ≡ Some m
      → (n : Line) × (slice_get (then h).board.lines i ≡ Some n) × (n.post ≡ m.post)
  post_at h i m here = go (moves all h s p (fits_all s p)).lines
    where
      go : GrowsBy all s h.board.lines (then h).board.lines
          → (n : Line) × (slice_get (then h).board.lines i ≡ Some n) × (n.post ≡ m.post)
      go (inl same) = (m, subst (λ ms. slice_get ms i ≡ Some m) (sym same) here, refl)
      go (inr g) =
          (let n = post_stays h.board.lines g.0 i m here in
          (n.0, subst (λ ms. slice_get ms i ≡ Some n.0) (sym g.2) n.1, n.2))

  pub line_at : (h : HubView) (i k : ℕ) (m : Line) → slice_get h.board.lines i ≡ Some m → m.partner ≡ Some k
      → slice_get (then h).board.lines i ≡ Some m
  line_at h i k m here partner = go (moves all h s p (fits_all s p)).lines
    where
      go : GrowsBy all s h.board.lines (then h).board.lines → slice_get (then h).board.lines i ≡ Some m
      go (inl same) = subst (λ ms. slice_get ms i ≡ Some m) (sym same) here
      go (inr g) =
          subst (λ ms. slice_get ms i ≡ Some m) (sym g.2) (paired_stays h.board.lines g.0 i k m here partner)

  -- a test of a post alone passes still
  tested : (t : Option Line → Bool) → t None ≡ false
      → ((a b : Line) → b.post ≡ a.post → t (Some b) ≡ t (Some a)) → (h : HubView) (i : ℕ)
      → t (slice_get h.board.lines i) ≡ true → t (slice_get (then h).board.lines i) ≡ true
  tested t none same h i is = go (slice_get h.board.lines i) refl is
    where
      go : (o : Option Line) → slice_get h.board.lines i ≡ o → t o ≡ true
          → t (slice_get (then h).board.lines i) ≡ true
      go None e is = absurd (cc)
      go (Some m) e is = (let n = post_at h i m e in ap t n.1 ∙ same m n.0 n.2 ∙ is)

  pub send_too : (h : HubView) (n : ℕ) → is_send_of r (line_of h.board n) ≡ true
      → is_send_of r (line_of (then h).board n) ≡ true
  send_too h zero its = absurd (cc)
  send_too h (suc place) its =
      tested (is_send_of r) refl
      (λ a b e. ap (λ (x : Post). is_send_of r (Some (record { post = x; partner = b.partner }))) e ∙ by a.post b.partner a.partner)
      h place its
    where
      by : (x : Post) (o q : Option ℕ) → is_send_of r (Some (record { post = x; partner = o }))
          ≡ is_send_of r (Some (record { post = x; partner = q }))
      by (post.Send t) o q = refl
      by (post.Receive t) o q = refl
      by (post.Claim t) o q = refl

  idle_too : (h : HubView) (i : ℕ) (m : Line) → slice_get h.board.lines i ≡ Some m
      → is_waiting h.claims (suc i) ≡ false → is_waiting (then h).claims (suc i) ≡ false
  idle_too h i m here idle =
      none_waits s h (then h) i (moves all h s p (fits_all s p)).claims (get_within h.board.lines i m here) idle

  pub partner_too : (h : HubView) (i j : ℕ) → partner_of h.board (suc i) ≡ Some j
      → partner_of (then h).board (suc i) ≡ Some j
  partner_too h i j is = go (slice_get h.board.lines i) refl is
    where
      go : (o : Option Line) → slice_get h.board.lines i ≡ o → partner_of_line o ≡ Some j
          → partner_of (then h).board (suc i) ≡ Some j
      go None e is = absurd (cc)
      go (Some m) e is = ap partner_of_line (line_at h i j m e is) ∙ is

  standard_too : (h : HubView) (i : ℕ) → is_standard (slice_get h.board.lines i) ≡ true
      → is_standard (slice_get (then h).board.lines i) ≡ true
  standard_too h i is = tested is_standard refl (λ a b e. by a.post b.post e a.partner b.partner) h i is
    where
      by : (x y : Post) → y ≡ x → (o q : Option ℕ)
          → is_standard (Some (record { post = y; partner = q })) ≡ is_standard (Some (record { post = x; partner = o }))
      by (post.Send t) y e o q = ap (λ (z : Post). is_standard (Some (record { post = z; partner = q }))) e
      by (post.Receive t) y e o q = ap (λ (z : Post). is_standard (Some (record { post = z; partner = q }))) e
      by (post.Claim t) y e o q = ap (λ (z : Post). is_standard (Some (record { post = z; partner = q }))) e

  receive_too : (h : HubView) (o : Option ℕ) → is_receive_at h.board o ≡ true → is_receive_at (then h).board o ≡ true
  receive_too h None is = is
  receive_too h (Some j) is = tested is_receive refl (λ a b e. by a.post b.post e a.partner b.partner) h j is
    where
      by : (x y : Post) → y ≡ x → (o q : Option ℕ)
          → is_receive (Some (record { post = y; partner = q })) ≡ is_receive (Some (record { post = x; partner = o }))
      by (post.Send t) y e o q = ap (λ (z : Post). is_receive (Some (record { post = z; partner = q }))) e
      by (post.Receive t) y e o q = ap (λ (z : Post). is_receive (Some (record { post = z; partner = q }))) e
      by (post.Claim t) y e o q = ap (λ (z : Post). is_receive (Some (record { post = z; partner = q }))) e

  claimed_too : (h : HubView) (o : Option ℕ) → was_received h (claim_at h.board o) ≡ true
      → was_received (then h) (claim_at (then h).board o) ≡ true
  claimed_too h None is = absurd (cc)
  claimed_too h (Some j) is = go (slice_get h.board.lines j) refl is
    where
      one : (m : Line) → slice_get h.board.lines j ≡ Some m → (x : Post) → m.post ≡ x
          → was_received h (claim_in j (Some (record { post = x; partner = m.partner }))) ≡ true
          → was_received (then h) (claim_in j (slice_get (then h).board.lines j)) ≡ true
      one m here (post.Send t) e is = absurd (cc)
      one m here (post.Receive t) e is = absurd (cc)
      one m here (post.Claim a) e is =
          let n = post_at h j m here in
          let idle : is_waiting h.claims (suc j) ≡ false =
          subst (λ i. is_waiting h.claims i ≡ false) (add-one j) (not_true _ is) in
          ap (λ (o : Option Line). was_received (then h) (claim_in j o)) n.1
          ∙ ap (λ (x : Post). was_received (then h) (claim_in j (Some (record { post = x; partner = (n.0).partner }))))
          (n.2 ∙ e)
          ∙ not_from_false _
          (subst (λ i. is_waiting (then h).claims i ≡ false) (sym (add-one j)) (idle_too h j m here idle))

      go : (o : Option Line) → slice_get h.board.lines j ≡ o → was_received h (claim_in j o) ≡ true
          → was_received (then h) (claim_in j (slice_get (then h).board.lines j)) ≡ true
      go None e is = absurd (cc)
      go (Some m) e is = one m e m.post refl is

  pub complete_too : (h : HubView) (n : ℕ) → is_complete h n ≡ true → is_complete (then h) n ≡ true
  complete_too h zero complete = absurd (cc)
  complete_too h (suc i) complete =
      elim (or_cases (is_finished h.board (suc i)) (was_received h (claim_of h.board (suc i))) complete) [
        | inl finished ↦ or_left (is_finished (then h).board (suc i)) _
            (elim (or_cases (is_standard (line_of h.board (suc i))) (is_receive_at h.board (partner_of h.board (suc i)))
            finished) [
              | inl standard ↦ or_left (is_standard (line_of (then h).board (suc i))) _ (standard_too h i standard)
              | inr paired ↦ or_right (is_standard (line_of (then h).board (suc i))) _
                  (by (partner_of h.board (suc i)) refl (is_receive_at h.board) (is_receive_at (then h).board)
                  (λ is. absurd (cc)) (λ o is. receive_too h o is) paired)
            ])
        | inr claimed ↦ or_right (is_finished (then h).board (suc i)) _
            (by (partner_of h.board (suc i)) refl (λ o. was_received h (claim_at h.board o))
            (λ o. was_received (then h) (claim_at (then h).board o)) (λ is. absurd (cc)) (λ o is. claimed_too h o is)
            claimed)
      ]
    where
      -- what holds with a partner holds still
      by : (o : Option ℕ) → partner_of h.board (suc i) ≡ o → (t u : Option ℕ → Bool) → (t None ≡ true → ⊥)
          → ((o : Option ℕ) → t o ≡ true → u o ≡ true) → t (partner_of h.board (suc i)) ≡ true
          → u (partner_of (then h).board (suc i)) ≡ true
      by None e t u none on is = absurd (none (sym (ap t e) ∙ is))
      by (Some j) e t u none on is = ap u (partner_too h i j e) ∙ on (Some j) (sym (ap t e) ∙ is)

  pub sent_too : (h : HubView) (n : ℕ) → IsSent h r n → IsSent (then h) r n
  sent_too h n f = record { its = send_too h n f.its; complete = complete_too h n f.complete }

  module _ (h : HubView) (laid : Laid h) (laid_then : Laid (then h)) (room : length h.board.lines < 65536) where
    body_too : (n k : ℕ) → HasIt h.board.lines r n k
        → slice_get (then h).board.bodies k ≡ slice_get h.board.bodies k
    body_too n k f =
        let x = within (h.board).bodies k (body_within h r n k laid f) in
        body_stays r s n k apart h p laid laid_then f room x.0 x.1 ∙ sym x.1
      where
        within : {A : Type 0} (xs : List A) (i : ℕ) → i < length xs → (x : A) × (slice_get xs i ≡ Some x)
        within [] i below = absurd (omega (arith, below))
        within (y ∷ xs) zero below = (y, refl)
        within (y ∷ xs) (suc i) below = within xs i (omega (arith, below))

    message_too : (n k : ℕ) → HasIt h.board.lines r n k → message_at (then h).board k ≡ message_at h.board k
    message_too n k f =
        let g = (laid.good).paired f.place k f.line f.here f.has in
        let lines : slice_get (then h).board.lines k ≡ slice_get h.board.lines k =
        line_at h k f.place g.0 g.1 g.2 ∙ sym g.1 in
        let bodies = body_too n k f in
        λ i. message_in (envelope_in (lines i)) (bodies i)

    pub has_too : (n : ℕ) → Has h r n → Has (then h) r n
    has_too n f = record {
      k = f.k;
      it = has_stays r s n f.k h p f.it;
      idle = subst (λ m. is_waiting (then h).claims m ≡ false) (sym (f.it).numbered)
          (idle_too h (f.it).place (f.it).line (f.it).here
          (subst (λ m. is_waiting h.claims m ≡ false) (f.it).numbered f.idle));
      held = ap is_held (body_too n f.k f.it) ∙ f.held;
    }

    pub ready_too : (q : Request) → IsReadyCall h r q → IsReadyCall (then h) r q
    ready_too (Collect n) f = has_too n f
    ready_too (Finished n) f = sent_too h n f
    ready_too (All ns) f = (
      f.0,
      λ i n here. elim (f.1 i n here) [ inl g ↦ inl (sent_too h n g) | inr g ↦ inr (has_too n g) ],
    )
    ready_too (Probe comm source tag) f =
        (f.0, found_stays h s p (selecting r comm source tag) f.0 apart f.1)
    ready_too (Cut link) f =
        (ap (λ ls. is_receiver ls r link) (links_stay h s p) ∙ f.0, ((f.1).0, cut_stays h s p link (f.1).0 (f.1).1))
    ready_too _ f = absurd f

  -- ---- the two calls exchanged

  -- several posts of the rank, which are sends or have their messages
  abbrev IsOwn : List Line → ℕ → Type 0
  IsOwn lines n =
      ((i : ℕ) × (n ≡ suc i) × (is_send_of r (slice_get lines i) ≡ true)) ⊎ ((k : ℕ) × HasIt lines r n k)

  record Swapped (h : HubView) (ns : List ℕ) : Type 0 where
    gots : (all_got r (then h).board ns).0 ≡ (all_got r h.board ns).0
    call : outcome (with_board h (all_got r h.board ns).1) s p
        ≡ ((outcome h s p).0, with_board (then h) (all_got r (then h).board ns).1)

  abbrev Gots : Type 0
  Gots = List (Option Message) × Board

  -- the rest behind one of them
  abbrev rest : List ℕ → Option Message × Board → Gots
  rest ns g = (g.0 ∷ (all_got r g.1 ns).0, (all_got r g.1 ns).1)

  swapped : (ns : List ℕ) (h : HubView) → Laid h → Laid (then h) → length h.board.lines < 65536
      → ((i n : ℕ) → slice_get ns i ≡ Some n → IsOwn h.board.lines n) → Swapped h ns
  swapped [] h laid laid_then room own = record { gots = refl; call = refl }
  swapped (n ∷ ns) h laid laid_then room own = elim (own 0 n refl) [
    | inl f ↦ sends f.0 f.1 f.2 (swapped ns h laid laid_then room (λ i m here. own (suc i) m here))
    | inr f ↦
        let told = outcome_with f.0 None r s n apart h p laid f.1 room in
        has f.0 f.1 told (swapped ns (hub_with h f.0 None) (laid_with h f.0 None laid)
        (subst Laid (ap (λ (o : Reply × HubView). o.1) (sym told)) (laid_with (then h) f.0 None laid_then)) room
        (λ i m here. own (suc i) m here))
  ]
    where
      sends : (i : ℕ) → n ≡ suc i → is_send_of r (slice_get h.board.lines i) ≡ true → Swapped h ns → Swapped h (n ∷ ns)
      sends i numbered its w =
          let here : is_send_of r (line_of h.board n) ≡ true =
          subst (λ m. is_send_of r (line_of h.board m) ≡ true) (sym numbered) its in
          let old = ap (rest ns) (one_sent h.board r n here) in
          let new = ap (rest ns) (one_sent (then h).board r n (send_too h n here)) in
          record {
            gots = ap (λ (g : Gots). g.0) new ∙ ap (λ gs. None ∷ gs) w.gots ∙ sym (ap (λ (g : Gots). g.0) old);
            call = ap (λ (g : Gots). outcome (with_board h g.1) s p) old ∙ w.call
                ∙ sym (ap (λ (g : Gots). (let o : Reply × HubView = ((outcome h s p).0, with_board (then h) g.1) in o)) new);
          }

      has : (k : ℕ) → HasIt h.board.lines r n k
          → outcome (hub_with h k None) s p ≡ ((outcome h s p).0, hub_with (then h) k None)
          → Swapped (hub_with h k None) ns → Swapped h (n ∷ ns)
      has k f told w =
          let old = ap (rest ns) (one_has h.board r n k f) in
          let new = ap (rest ns) (one_has (then h).board r n k (has_stays r s n k h p f)) in
          let there : (then (hub_with h k None)).board ≡ with_body (then h).board k None =
          ap (λ (o : Reply × HubView). (o.1).board) told in
          record {
            gots = ap (λ (g : Gots). g.0) new
                ∙ ap (λ m. m ∷ (all_got r (with_body (then h).board k None) ns).0) (message_too h laid laid_then room n k f)
                ∙ ap (λ gs. message_at h.board k ∷ gs) (sym (ap (λ (b : Board). (all_got r b ns).0) there) ∙ w.gots)
                ∙ sym (ap (λ (g : Gots). g.0) old);
            call = ap (λ (g : Gots). outcome (with_board h g.1) s p) old ∙ w.call
                ∙ ap (λ (o : Reply × HubView). (let v : Reply × HubView =
                (o.0, with_board o.1 (all_got r (o.1).board ns).1) in v)) told
                ∙ sym (ap (λ (g : Gots). (let o : Reply × HubView = ((outcome h s p).0, with_board (then h) g.1) in o)) new);
          }

  -- what the rank is told it would have been told before, and the other's call the same behind it
  pub record Exchanged (h : HubView) (q : Request) : Type 0 where
    pub reply : (outcome (then h) r q).0 ≡ (outcome h r q).0
    pub call : outcome (outcome h r q).1 s p ≡ ((outcome h s p).0, (outcome (then h) r q).1)

  pub exchanged : (h : HubView) (q : Request) → Laid h → Laid (then h) → length h.board.lines < 65536
      → IsReadyCall h r q → Exchanged h q
  unfolding has_too
  exchanged h (Collect n) laid laid_then room f =
      let old = collect_told h r n f in
      let new = collect_told (then h) r n (has_too h laid laid_then room n f) in
      record {
        reply = ap (λ (o : Reply × HubView). o.0) new
            ∙ ap (message_or reply.NotYet) (message_too h laid laid_then room n f.k f.it)
            ∙ sym (ap (λ (o : Reply × HubView). o.0) old);
        call = ap (λ (o : Reply × HubView). outcome o.1 s p) old
            ∙ outcome_with f.k None r s n apart h p laid f.it room
            ∙ sym (ap (λ (o : Reply × HubView). (let v : Reply × HubView = ((outcome h s p).0, o.1) in v)) new);
      }
  exchanged h (Finished n) laid laid_then room f =
      let old = finished_told h r n f in
      let new = finished_told (then h) r n (sent_too h n f) in
      record {
        reply = ap (λ (o : Reply × HubView). o.0) new ∙ sym (ap (λ (o : Reply × HubView). o.0) old);
        call = ap (λ (o : Reply × HubView). outcome o.1 s p) old
            ∙ sym (ap (λ (o : Reply × HubView). (let v : Reply × HubView = ((outcome h s p).0, o.1) in v)) new);
      }
  exchanged h (All ns) laid laid_then room f =
      let old = all_told h r ns f in
      let new = all_told (then h) r ns (ready_too h laid laid_then room (All ns) f) in
      let w = swapped ns h laid laid_then room (λ i n here. own n (f.1 i n here)) in
      record {
        reply = ap (λ (o : Reply × HubView). o.0) new ∙ ap reply.AllGot w.gots
            ∙ sym (ap (λ (o : Reply × HubView). o.0) old);
        call = ap (λ (o : Reply × HubView). outcome o.1 s p) old ∙ w.call
            ∙ sym (ap (λ (o : Reply × HubView). (let v : Reply × HubView = ((outcome h s p).0, o.1) in v)) new);
      }
    where
      own : (n : ℕ) → IsSent h r n ⊎ Has h r n → IsOwn h.board.lines n
      own zero (inl g) = (let its = g.its in absurd (cc))
      own (suc i) (inl g) = inl (i, refl, g.its)
      own n (inr g) = inr (g.k, g.it)
  exchanged h (Probe comm source tag) laid laid_then room f =
      record { reply = ap seen (seen_stays h s p (selecting r comm source tag) f.0 apart f.1); call = refl }
  exchanged h (Cut link) laid laid_then room f =
      let g = ready_too h laid laid_then room (Cut link) f in
      let old = cut_told h r link (f.1).0 f.0 (f.1).1 in
      let new = cut_told (then h) r link (f.1).0 g.0 (cut_stays h s p link (f.1).0 (f.1).1) in
      record {
        reply = ap (λ (o : Reply × HubView). o.0) new ∙ sym (ap (λ (o : Reply × HubView). o.0) old);
        call = ap (λ (o : Reply × HubView). outcome o.1 s p) old
            ∙ sym (ap (λ (o : Reply × HubView). (let v : Reply × HubView = ((outcome h s p).0, o.1) in v)) new);
      }
  exchanged h _ laid laid_then room f = absurd f
