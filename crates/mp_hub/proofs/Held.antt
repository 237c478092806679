-- The messages that somebody may still be given stay held, through each step of the posts and of the claims.
use Rattle.std.proofs.Common.{◌≡◌, ◌+◌, ℕ, zero, suc, inl, inr, List, [], ◌∷◌, ◌++◌, length, Bool, true, false, cond, not, Option, Some, None, refl, sym, ap, ◌∙◌, subst, arith, add-one, is_some, length-append, ◌↔◌, Result, Ok, Err, IfOk, OnOk, OnErr}
use Rattle.std.specs.Prelude.{◌==◌, ◌&&◌, ◌||◌}
use Rattle.std.specs.List.{All, list_all, slice_get, slice_set}
use Rattle.std.proofs.lemmas.Bool.{and_parts, cases_Bool, eq-eqb, eqb-true, not-true}
use Rattle.std.proofs.lemmas.Option.{same_Some}
use Rattle.std.proofs.lemmas.List.Elements.{All-nil, All-cons, All-head, All-tail, All-push, All-weaker, All-filter}
use Rattle.mp_types.specs.declared.messages.Envelope.{Envelope}
use Rattle.mp_types.specs.declared.messages.Message.{Message}
use Rattle.mp_match.specs.declared.posts.Sent.{Sent}
use Rattle.mp_match.specs.declared.posts.Selection.{Selection}
use Rattle.mp_match.specs.declared.posts.Post.{Post}
use Rattle.mp_match.specs.declared.posts.Post.TheVariants.{Send, Receive, Claim}
use Rattle.mp_match.specs.declared.posts.Line.{Line}
use Rattle.mp_match.specs.Pairs.{add, may_pair, partner_at, partner_for, partner_of_line}
use Rattle.mp_match.specs.PostPairs.{pairs, posts_of}
use Rattle.mp_match.specs.Board.{Board, no_posts, board_with, claim_posted, claimed_if, collect, collect_from}
use Rattle.mp_match.specs.Board.{envelope_at, is_held, line_of, is_send_of, probed, receive_posted, without}
use Rattle.mp_match.specs.Board.{claim_at, claim_in, claim_of, is_finished}
use Rattle.mp_match.specs.Claimed.{holds, is_claim_collected, open_claim}
use Rattle.mp_match.proofs.Places.{get_front, get_last, get_within}
use Rattle.mp_match.proofs.Lines.{is_new, is_old, is_given, look, add_length, add_new}
use Rattle.mp_match.proofs.OrderKept.{chosen, order_laws, partner_line, posts_add, stays_add}
use Rattle.mp_match.proofs.Rows.{slice_set_length}
use Rattle.std.specs.Result.{is_err}
use Rattle.mp_probe.specs.declared.handles.Waiting.{Waiting}
use Rattle.mp_probe.specs.declared.handles.ClaimFault.{ClaimFault}
use Rattle.mp_probe.specs.declared.handles.ClaimFault.TheVariants.{BadMessage}
use Rattle.mp_probe.specs.Claims.{is_claim, is_waiting, may_receive, next_number, without_claim, waiting_if}
use Rattle.mp_hub.specs.Hub.{HubView, all_got, is_complete, is_known, may_collect, one_got, was_received}
use Rattle.mp_hub.specs.Held.{IsHeldFor, AreHeld}
use Rattle.mp_hub.specs.Claimed.{waits_for_receive}
use Rattle.mp_hub.proofs.BoardKept.{one_lines, pairs_snoc}
use Rattle.mp_hub.proofs.HeldKept.{set_other}
use Rattle.mp_hub.proofs.Handles.{Owned, not_true, or_cases, or_none, receiving_claim, waits_no_longer}

held_there : (o : Option (Option (List ℕ))) → is_held o ≡ true → (x : List ℕ) × (o ≡ Some (Some x))
held_there None e = absurd (cc)
held_there (Some None) e = absurd (cc)
held_there (Some (Some x)) e = (x, refl)

held_body : (o : Option (List ℕ)) → is_some o ≡ true → is_held (Some o) ≡ true
held_body None e = absurd (cc)
held_body (Some x) e = refl

front_held : (bodies : List (Option (List ℕ))) (body : Option (List ℕ)) (i : ℕ) → is_held (slice_get bodies i) ≡ true
    → is_held (slice_get (bodies ++ body ∷ []) i) ≡ true
front_held bodies body i h =
    let x = held_there (slice_get bodies i) h in ap is_held (get_front bodies (body ∷ []) i (Some x.0) x.1)

other_held : (bodies : List (Option (List ℕ))) (i j : ℕ) → (i ≡ j → ⊥) → is_held (slice_get bodies j) ≡ true
    → is_held (slice_get (slice_set bodies i None) j) ≡ true
other_held bodies i j other h =
    let x = held_there (slice_get bodies j) h in ap is_held (set_other bodies i j x.0 other x.1)

-- ---- pairs

paired_back : (b : Board) (ws : List Waiting) → AreHeld b ws → (i j : ℕ) → partner_at b.lines i ≡ Some j
    → partner_at b.lines j ≡ Some i
paired_back b ws h i j e =
    ap (λ (ms : List Line). partner_at ms j) h.paired
    ∙ (order_laws.pairing (posts_of b.lines) i j (ap (λ (ms : List Line). partner_at ms i) (sym h.paired) ∙ e)).0

-- ---- a claim that waits

waits_at : {P : Waiting → Type 0} (ws : List Waiting) (n : ℕ) → All P ws → is_waiting ws n ≡ true
    → (w : Waiting) × P w × (w.message ≡ n)
waits_at [] n a h = absurd (cc)
waits_at {P} (w ∷ ws) n a h = elim (or_cases (w.message == n) (is_waiting ws n) h) [
  | inl here ↦ (w, All-head P w ws a, eqb-true w.message n here)
  | inr there ↦ waits_at {P = P} ws n (All-tail P w ws a) there
]

-- the number of the next post isn't waited for
not_next : (b : Board) (ws : List Waiting) → AreHeld b ws → is_waiting ws (next_number b) ≡ false
not_next b ws h = not_true (is_waiting ws (next_number b)) (λ e.
    let x = waits_at {P = IsHeldFor b} ws (next_number b) h.claims e in
    let k = x.1 in
    let m = partner_line b.lines k.place k.send k.has in
    let below = get_within b.lines k.place m.0 m.1 in
    let number = k.number in
    let same = x.2 in
    absurd (omega (arith, below, number, same)))

-- ---- posting

pub held_none : AreHeld no_posts []
held_none = record {
  paired = refl;
  even = refl;
  sends = λ place s h. absurd (cc);
  claims = All-nil (IsHeldFor no_posts);
}

module _ (b : Board) (ws : List Waiting) (p : Post) (body : Option (List ℕ)) (h : AreHeld b ws)
    (brought : (s : Sent) → p ≡ Send s → is_some body ≡ true) where
  more_paired : add b.lines p ≡ pairs (posts_of (add b.lines p))
  more_paired =
      ap (λ (ms : List Line). add ms p) h.paired ∙ sym (pairs_snoc (posts_of b.lines) p)
      ∙ ap pairs (sym (posts_add b.lines p))

  more_even : length (b.bodies ++ body ∷ []) ≡ length (add b.lines p)
  more_even =
      let l = add_length b.lines p in let e = h.even in
      omega (arith, l, e, length-append b.bodies (body ∷ []))

  more_sends : (place : ℕ) (s : Sent)
      → slice_get (add b.lines p) place ≡ Some (record { post = Send s; partner = None })
      → is_held (slice_get (b.bodies ++ body ∷ []) place) ≡ true
  more_sends place s at = elim (look b.lines p place (record { post = Send s; partner = None }) at) [
    | is_new u e ↦
        let sent : p ≡ Send s = sym (ap (λ (m : Line). m.post) e) in
        let end : length b.bodies ≡ place = h.even ∙ sym u in
        ap is_held (subst (λ n. slice_get (b.bodies ++ body ∷ []) n ≡ Some body) end (get_last b.bodies body))
        ∙ held_body body (brought s sent)
    | is_old e ↦ front_held b.bodies body place (h.sends place s e)
    | is_given x e for g ↦
        (let bad : None ≡ Some (length b.lines) = ap (λ (m : Line). m.partner) g in absurd (cc))
  ]

  more_held : (w : Waiting) → IsHeldFor b w → IsHeldFor (board_with b p body) w
  more_held w k = record {
    place = k.place;
    claim = k.claim;
    number = k.number;
    posted = ap (λ (ps : List Post). slice_get ps k.place) (posts_add b.lines p)
        ∙ get_front (posts_of b.lines) (p ∷ []) k.place (Claim k.claim) k.posted;
    rank = k.rank;
    send = k.send;
    has = stays_add b.lines p k.place k.send k.has;
    held = front_held b.bodies body k.send k.held;
  }

  -- one more post; a send brings its message
  pub held_more : AreHeld (board_with b p body) ws
  held_more = record {
    paired = more_paired;
    even = more_even;
    sends = more_sends;
    claims = All-weaker (IsHeldFor b) (IsHeldFor (board_with b p body)) more_held ws h.claims;
  }

pub held_sent : (b : Board) (ws : List Waiting) (s : Sent) (bytes : List ℕ) → AreHeld b ws
    → AreHeld (board_with b (Send s) (Some bytes)) ws
held_sent b ws s bytes h = held_more b ws (Send s) (Some bytes) h (λ t e. refl)

pub held_posted : (b : Board) (ws : List Waiting) (a : Selection) → AreHeld b ws → AreHeld (receive_posted b a) ws
held_posted b ws a h = held_more b ws (Receive a) None h (λ t e. absurd (cc))

-- ---- collecting

module _ (b : Board) (ws : List Waiting) (i j : ℕ) (h : AreHeld b ws) (pair : partner_at b.lines i ≡ Some j) where
  other_send : (place : ℕ) (s : Sent) → slice_get b.lines place ≡ Some (record { post = Send s; partner = None })
      → is_held (slice_get (slice_set b.bodies j None) place) ≡ true
  other_send place s at = other_held b.bodies j place apart (h.sends place s at)
    where
      apart : j ≡ place → ⊥
      apart same =
          let has : partner_at b.lines place ≡ Some i =
          ap (partner_at b.lines) (sym same) ∙ paired_back b ws h i j pair in
          let bad : Some i ≡ None = sym has ∙ ap partner_of_line at in absurd (cc)

  other_claim : (w : Waiting) → IsHeldFor b w → (w.message ≡ suc i → ⊥) → IsHeldFor (without b j) w
  other_claim w k apart = record {
    place = k.place;
    claim = k.claim;
    number = k.number;
    posted = k.posted;
    rank = k.rank;
    send = k.send;
    has = k.has;
    held = other_held b.bodies j k.send other k.held;
  }
    where
      other : j ≡ k.send → ⊥
      other same =
          let mine : partner_at b.lines j ≡ Some k.place =
          ap (partner_at b.lines) same ∙ paired_back b ws h k.place k.send k.has in
          let place : i ≡ k.place = same_Some i k.place (sym (paired_back b ws h i j pair) ∙ mine) in
          apart (k.number ∙ ap suc (sym place))

  other_claims : (vs : List Waiting) → All (IsHeldFor b) vs → is_waiting vs (suc i) ≡ false
      → All (IsHeldFor (without b j)) vs
  other_claims [] a free = All-nil (IsHeldFor (without b j))
  other_claims (w ∷ vs) a free =
      let parts = or_none (w.message == suc i) (is_waiting vs (suc i)) free in
      All-cons (IsHeldFor (without b j)) w vs
      (other_claim w (All-head (IsHeldFor b) w vs a)
      (λ e. (let bad : true ≡ false = sym (eq-eqb w.message (suc i) e) ∙ parts.0 in absurd (cc))))
      (other_claims vs (All-tail (IsHeldFor b) w vs a) parts.1)

  pub held_without : is_waiting ws (suc i) ≡ false → AreHeld (without b j) ws
  held_without free = record {
    paired = h.paired;
    even = slice_set_length b.bodies j None ∙ h.even;
    sends = other_send;
    claims = other_claims ws h.claims free;
  }

-- collecting a post that no claim waits at
pub held_collected : (b : Board) (ws : List Waiting) (n : ℕ) → AreHeld b ws → is_waiting ws n ≡ false
    → AreHeld (collect b n).1 ws
held_collected b ws zero h free = h
held_collected b ws (suc i) h free = go (partner_at b.lines i) refl
  where
    go : (o : Option ℕ) → partner_at b.lines i ≡ o → AreHeld (collect_from b o).1 ws
    go None e = h
    go (Some j) e = held_without b ws i j h e free

-- a receive that asks for its message at once
pub held_received : (b : Board) (ws : List Waiting) (a : Selection) → AreHeld b ws
    → AreHeld (collect (receive_posted b a) (next_number b)).1 ws
held_received b ws a h =
    held_collected (receive_posted b a) ws (next_number b) (held_posted b ws a h) (not_next b ws h)

-- what may be collected isn't waited for
pub may_not_wait : (h : HubView) (rank n : ℕ) → may_collect h rank n ≡ true → is_waiting h.claims n ≡ false
may_not_wait h rank n e =
    not-true (is_waiting h.claims n)
    (and_parts _ (not (is_waiting h.claims n)) (and_parts _ _ e).0).1

-- several posts of a rank, each its send or free to be collected
pub held_gathered : (h : HubView) (rank : ℕ) (ns : List ℕ) (b : Board) → b.lines ≡ h.board.lines
    → list_all (λ n. is_known h rank n) ns ≡ true → AreHeld b h.claims → AreHeld (all_got rank b ns).1 h.claims
held_gathered h rank [] b same known held = held
held_gathered h rank (n ∷ ns) b same known held =
    let parts = and_parts (is_known h rank n) (list_all (λ n. is_known h rank n) ns) known in
    held_gathered h rank ns (one_got rank b n).1 (one_lines rank b n ∙ same) parts.1
    (one (is_send_of rank (line_of b n)) refl parts.0)
  where
    line_same : (k : ℕ) → line_of b k ≡ line_of h.board k
    line_same zero = refl
    line_same (suc place) = ap (λ (ms : List Line). slice_get ms place) same

    one : (s : Bool) → is_send_of rank (line_of b n) ≡ s → is_known h rank n ≡ true
        → (let g : Option Message × Board = cond s (None, b) (collect b n) in AreHeld g.1 h.claims)
    one true e k = held
    one false e k = elim (or_cases (may_collect h rank n) (is_send_of rank (line_of h.board n)) k) [
      | inl may ↦ held_collected b h.claims n held (may_not_wait h rank n may)
      | inr sends ↦
          (let bad : true ≡ false = sym sends ∙ ap (is_send_of rank) (sym (line_same n)) ∙ e in absurd (cc))
    ]

-- and of what a hub keeps, which is seen as this hub
pub held_by_gathering : (h seen : HubView) (rank : ℕ) (ns : List ℕ) (after : Board) → h ≡ seen
    → list_all (λ n. is_known seen rank n) ns ≡ true → after ≡ (all_got rank h.board ns).1
    → AreHeld h.board h.claims → AreHeld after h.claims
held_by_gathering h seen rank ns after is known gathered held =
    subst (λ (b : Board). AreHeld b h.claims) (sym gathered)
    (held_gathered h rank ns h.board refl (ap (λ (k : HubView). list_all (λ n. is_known k rank n) ns) is ∙ known) held)

-- ---- claims

pub held_fewer : (b : Board) (ws : List Waiting) (rank n : ℕ) → AreHeld b ws → AreHeld b (without_claim ws rank n)
held_fewer b ws rank n h = record {
  paired = h.paired;
  even = h.even;
  sends = h.sends;
  claims = All-filter (λ (w : Waiting). not (is_claim rank n w)) (IsHeldFor b) ws h.claims;
}

owned : (b : Board) (ws : List Waiting) → All (IsHeldFor b) ws → Owned (posts_of b.lines) ws
owned b [] a = tt
owned b (w ∷ ws) a =
    let k = All-head (IsHeldFor b) w ws a in
    ((k.place, k.claim, k.number, k.posted, k.rank), owned b ws (All-tail (IsHeldFor b) w ws a))

-- a claimed message that is received and collected at once
pub held_taken : (b : Board) (ws : List Waiting) (rank n : ℕ) → AreHeld b ws → may_receive ws rank n ≡ true
    → AreHeld (collect b n).1 (without_claim ws rank n)
held_taken b ws rank n h may =
    let own = owned b ws h.claims in
    held_collected b (without_claim ws rank n) n (held_fewer b ws rank n h)
    (waits_no_longer (posts_of b.lines) ws rank n own (receiving_claim (posts_of b.lines) ws rank n own may))

-- the send that a claim finds holds its message
found_held : (b : Board) (ws : List Waiting) (a : Selection) (q : ℕ) → AreHeld b ws
    → partner_for b.lines (Claim a) ≡ Some q → is_held (slice_get b.bodies q) ≡ true
found_held b ws a q h for = (let c = chosen b.lines (Claim a) q for in go c.line.post c.line refl c.here c.free c.pair)
  where
    go : (p : Post) (m : Line) → m.post ≡ p → slice_get b.lines q ≡ Some m → m.partner ≡ None
        → may_pair (Claim a) m.post ≡ true → is_held (slice_get b.bodies q) ≡ true
    go (Send s) m e at free pair =
        h.sends q s (at ∙ (λ i. Some (let x : Line = record { post = e i; partner = free i } in x)))
    go (Receive c) m e at free pair =
        (let bad : false ≡ true = sym (ap (may_pair (Claim a)) e) ∙ pair in absurd (cc))
    go (Claim c) m e at free pair =
        (let bad : false ≡ true = sym (ap (may_pair (Claim a)) e) ∙ pair in absurd (cc))

posts_length : (ms : List Line) → length (posts_of ms) ≡ length ms
posts_length [] = refl
posts_length (m ∷ ms) = ap suc (posts_length ms)

pub held_claimed : (b : Board) (ws : List Waiting) (a : Selection) → AreHeld b ws
    → AreHeld (claimed_if b a (probed b (Claim a))) (waiting_if ws a.rank (next_number b) (probed b (Claim a)))
held_claimed b ws a h = go (partner_for b.lines (Claim a)) refl
  where
    new : (q : ℕ) → partner_for b.lines (Claim a) ≡ Some q
        → IsHeldFor (claim_posted b a) (record { message = next_number b; rank = a.rank })
    new q for = record {
      place = length b.lines;
      claim = a;
      number = add-one (length b.lines);
      posted = ap (λ (ps : List Post). slice_get ps (length b.lines)) (posts_add b.lines (Claim a))
          ∙ subst (λ n. slice_get (posts_of b.lines ++ Claim a ∷ []) n ≡ Some (Claim a)) (posts_length b.lines)
          (get_last (posts_of b.lines) (Claim a));
      rank = refl;
      send = q;
      has = ap partner_of_line (add_new b.lines (Claim a)) ∙ for;
      held = front_held b.bodies None q (found_held b ws a q h for);
    }

    made : (q : ℕ) → partner_for b.lines (Claim a) ≡ Some q → (e : Option Envelope)
        → AreHeld (claimed_if b a e) (waiting_if ws a.rank (next_number b) e)
    made q for None = h
    made q for (Some envelope) =
        let more = held_more b ws (Claim a) None h (λ t e. absurd (cc)) in record {
          paired = more.paired;
          even = more.even;
          sends = more.sends;
          claims = All-push (IsHeldFor (claim_posted b a)) ws _ more.claims (new q for);
        }

    go : (o : Option ℕ) → partner_for b.lines (Claim a) ≡ o
        → AreHeld (claimed_if b a (envelope_at b o)) (waiting_if ws a.rank (next_number b) (envelope_at b o))
    go None e = h
    go (Some q) e = made q e (envelope_at b (Some q))

-- ---- complete sends

-- a claim whose message isn't held any more was received
gone : (b : Board) (ws : List Waiting) → AreHeld b ws → (n c : ℕ) → claim_of b n ≡ Some c → holds b n ≡ false
    → is_waiting ws c ≡ false
gone b ws h zero c claimed empty = absurd (cc)
gone b ws h (suc p) c claimed empty = go (partner_at b.lines p) refl claimed
  where
    waited : (k : ℕ) → partner_at b.lines p ≡ Some k → k + 1 ≡ c → is_waiting ws c ≡ true → ⊥
    waited k pair number e =
        let x = waits_at {P = IsHeldFor b} ws c h.claims e in
        let f = x.1 in
        let place : k ≡ f.place = (let u = f.number in let v = x.2 in omega (arith, u, v, number)) in
        let send : p ≡ f.send =
        same_Some p f.send (sym (paired_back b ws h p k pair) ∙ ap (partner_at b.lines) place ∙ f.has) in
        let bad : true ≡ false = sym f.held ∙ ap (λ n. is_held (slice_get b.bodies n)) (sym send) ∙ empty in absurd (cc)

    number_in : (k : ℕ) (o : Option Line) → claim_in k o ≡ Some c → k + 1 ≡ c
    number_in k None e = absurd (cc)
    number_in k (Some m) e = by_post m.post e
      where
        by_post : (p : Post) → elim p [ Send s ↦ None | Receive a ↦ None | Claim a ↦ Some (k + 1) ] ≡ Some c → k + 1 ≡ c
        by_post (Send s) e = absurd (cc)
        by_post (Receive a) e = absurd (cc)
        by_post (Claim a) e = same_Some (k + 1) c e

    go : (o : Option ℕ) → partner_at b.lines p ≡ o → claim_at b o ≡ Some c → is_waiting ws c ≡ false
    go None pair e = absurd (cc)
    go (Some k) pair e = not_true (is_waiting ws c) (waited k pair (number_in k (slice_get b.lines k) e))

-- a send is complete where it is finished or its claim was collected, or where its claim, whose message is still held,
-- was received
pub complete_is : (h : HubView) (n : ℕ) → AreHeld h.board h.claims
    → ((is_finished h.board n || is_claim_collected h.board n) || was_received h (open_claim h.board n))
    ≡ is_complete h n
complete_is h n held = go (claim_of h.board n) refl (holds h.board n) refl
  where
    alone : (f : Bool) → ((f || false) || false) ≡ (f || false)
    alone true = refl
    alone false = refl

    open_still : (f w : Bool) → ((f || false) || w) ≡ (f || w)
    open_still true w = refl
    open_still false w = refl

    over : (f w : Bool) → w ≡ true → ((f || true) || false) ≡ (f || w)
    over true w e = refl
    over false w e = sym e

    go : (o : Option ℕ) → claim_of h.board n ≡ o → (x : Bool) → holds h.board n ≡ x
        → ((is_finished h.board n || (not x && is_some o)) || was_received h (cond x o None))
        ≡ (is_finished h.board n || was_received h o)
    go None e true f = alone (is_finished h.board n)
    go None e false f = alone (is_finished h.board n)
    go (Some c) e true f = open_still (is_finished h.board n) (was_received h (Some c))
    go (Some c) e false f =
        over (is_finished h.board n) (was_received h (Some c)) (ap not (gone h.board h.claims held n c e f))

-- ---- steps that may be refused

-- the board after a step, or the board as it was
pub held_if_ok : {A E : Type 0} (r : Result A E) (old done new : Board) (ws : List Waiting)
    → IfOk r (λ x. new ≡ done) → OnErr r (new ≡ old) → AreHeld old ws → AreHeld done ws → AreHeld new ws
held_if_ok (Ok x) old done new ws good bad before after = subst (λ (b : Board). AreHeld b ws) (sym good) after
held_if_ok (Err e) old done new ws good bad before after = subst (λ (b : Board). AreHeld b ws) (sym bad) before

pub held_on_ok : {A E : Type 0} (r : Result A E) (old done new : Board) (ws : List Waiting)
    → OnOk r (new ≡ done) → OnErr r (new ≡ old) → AreHeld old ws → AreHeld done ws → AreHeld new ws
held_on_ok (Ok x) old done new ws good bad before after = subst (λ (b : Board). AreHeld b ws) (sym good) after
held_on_ok (Err e) old done new ws good bad before after = subst (λ (b : Board). AreHeld b ws) (sym bad) before

both_held : (b c : Board) (ws vs : List Waiting) → c ≡ b → vs ≡ ws → AreHeld b ws → AreHeld c vs
both_held b c ws vs e f h = subst (λ (x : Board). AreHeld x vs) (sym e) (subst (λ xs. AreHeld b xs) (sym f) h)

pub held_after_claim : {A E : Type 0} (r : Result A E) (b c : Board) (ws vs : List Waiting) (a : Selection)
    → OnOk r (c ≡ claimed_if b a (probed b (Claim a)))
    → OnOk r (vs ≡ waiting_if ws a.rank (next_number b) (probed b (Claim a)))
    → OnErr r (c ≡ b) → OnErr r (vs ≡ ws) → AreHeld b ws → AreHeld c vs
held_after_claim (Ok x) b c ws vs a posted waits same still h =
    both_held (claimed_if b a (probed b (Claim a))) c
    (waiting_if ws a.rank (next_number b) (probed b (Claim a))) vs posted waits (held_claimed b ws a h)
held_after_claim (Err e) b c ws vs a posted waits same still h = both_held b c ws vs same still h

-- a claim that was received, and perhaps collected
pub held_when_received : {A : Type 0} (r : Result A ClaimFault) (b : Board) (ws vs : List Waiting) (rank n : ℕ)
    → OnOk r (vs ≡ without_claim ws rank n) → OnErr r (vs ≡ ws) → AreHeld b ws → AreHeld b vs
held_when_received (Ok x) b ws vs rank n good bad h = both_held b b (without_claim ws rank n) vs refl good (held_fewer b ws rank n h)
held_when_received (Err e) b ws vs rank n good bad h = both_held b b ws vs refl bad h

pub held_when_taken : {A : Type 0} (r : Result A ClaimFault) (b c : Board) (ws vs : List Waiting) (rank n : ℕ)
    → is_err r ≡ false → ((r ≡ Err BadMessage) ↔ (may_receive ws rank n ≡ false)) → OnOk r (vs ≡ without_claim ws rank n)
    → c ≡ (collect b n).1 → AreHeld b ws → AreHeld c vs
held_when_taken (Ok x) b c ws vs rank n done asked good after h =
    both_held (collect b n).1 c (without_claim ws rank n) vs after good
    (held_taken b ws rank n h (may (may_receive ws rank n) asked.1))
  where
    may : (m : Bool) → (m ≡ false → Ok x ≡ Err BadMessage) → m ≡ true
    may true f = refl
    may false f = (let bad = f refl in absurd (cc))
held_when_taken (Err e) b c ws vs rank n done asked good after h = absurd (cc)

pub held_when_may : (b c : Board) (ws vs : List Waiting) (rank n : ℕ) → may_receive ws rank n ≡ true
    → vs ≡ without_claim ws rank n → c ≡ (collect b n).1 → AreHeld b ws → AreHeld c vs
held_when_may b c ws vs rank n may good after h =
    both_held (collect b n).1 c (without_claim ws rank n) vs after good (held_taken b ws rank n h may)

-- whether the message of a send is claimed and not received is told by its claim while it is held
pub only_claimed_is : (h : HubView) (n : ℕ) → AreHeld h.board h.claims
    → waits_for_receive h (open_claim h.board n) ≡ waits_for_receive h (claim_of h.board n)
only_claimed_is h n held = elim (cases_Bool (holds h.board n)) [
  | inl full ↦ ap (λ b. waits_for_receive h (cond b (claim_of h.board n) None)) full
  | inr empty ↦ ap (λ b. waits_for_receive h (cond b (claim_of h.board n) None)) empty
      ∙ sym (none empty (claim_of h.board n) refl)
]
  where
    none : holds h.board n ≡ false → (o : Option ℕ) → claim_of h.board n ≡ o → waits_for_receive h o ≡ false
    none empty None e = refl
    none empty (Some c) e = gone h.board h.claims held n c e empty
