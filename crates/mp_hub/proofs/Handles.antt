-- Claimed messages: each waits for the rank that claimed it until it is received, and isn't got before.
use Rattle.std.proofs.Common.{◌≡◌, ℕ, zero, suc, ◌⊎◌, inl, inr, List, [], ◌∷◌, ◌++◌, length, Bool, true, false, cond, not, Option, Some, None, refl, sym, ap, ◌∙◌, subst, arith, add-one}
use Rattle.std.specs.Prelude.{◌==◌, ◌&&◌, ◌||◌, nat_lt, filter}
use Rattle.std.specs.List.{slice_get, list_any, list_all, Contains}
use Rattle.std.proofs.lemmas.Bool.{and_parts, cases_eq, eqb-true, eq-eqb, not-true}
use Rattle.std.proofs.lemmas.Option.{same_Some}
use Rattle.std.proofs.lemmas.List.Elements.{Contains-append_left, Contains-append_cases, Contains-push, Contains-push_cases}
use Rattle.rv_image_types.specs.declared.images.Link.{Link}
use Rattle.mp_types.specs.declared.messages.Envelope.{Envelope}
use Rattle.mp_types.specs.declared.messages.Message.{Message}
use Rattle.mp_types.specs.declared.codes.Code.TheVariants.{BadRequest, BadMessage, Full, Shape}
use Rattle.mp_types.specs.declared.replies.Reply.{Reply}
use Rattle.mp_types.specs.declared.replies.Reply.TheVariants as reply
use Rattle.mp_types.specs.declared.requests.Request.{Request}
use Rattle.mp_types.specs.declared.requests.Request.TheVariants.{Send, Recv, Collect, Finished, Probe, Claim, Claimed, All, Init, Cut}
use Rattle.mp_match.specs.declared.posts.Selection.{Selection}
use Rattle.mp_match.specs.declared.posts.Post.{Post}
use Rattle.mp_match.specs.declared.posts.Post.TheVariants as post
use Rattle.mp_match.specs.declared.posts.Line.{Line}
use Rattle.mp_match.specs.Pairs.{add, partner_at, partner_of_line, partner_for}
use Rattle.mp_match.specs.PostPairs.{posts_of}
use Rattle.mp_match.specs.Board.{Board, collect, receive_posted, send_posted, held_count, is_send_of, is_receive_of, is_collected, line_of, envelope_at}
use Rattle.mp_match.proofs.Places.{get_front, get_snoc, get_last, get_within}
use Rattle.mp_match.proofs.Lines.{add_new}
use Rattle.mp_match.proofs.OrderKept.{posts_add, stays_add, partner_line}
use Rattle.mp_probe.specs.declared.handles.Waiting.{Waiting}
use Rattle.mp_probe.specs.Claims.{next_number, is_claim, may_receive, is_waiting, without_claim}
use Rattle.mp_transfers.specs.declared.sides.Setup.{Setup}
use Rattle.mp_transfers.specs.declared.sides.Side.{Side}
use Rattle.mp_transfers.specs.Inits.{peer_of, lowest_link, same_total, sender_over, is_receiver}
use Rattle.mp_hub.specs.Hub.{HubView, Call, outcome, message_or, got_or, claim_found, claimed_now, is_complete, may_collect, init_with, init_first, cut_of, setup_of, side_added, all_got, one_got, all_collected, are_distinct, is_known, is_ready, sending, selecting, with_board, with_claims, is_done, hub_after, reply_of, hub_at_start}
use Rattle.mp_hub.specs.Histories.{got_of, got_by, got_after, received_by, received_after, number_after}
use Rattle.mp_hub.proofs.BoardKept.{collect_lines, one_lines, all_lines}
use Rattle.mp_hub.proofs.HeldKept.{Stock, stock}
use Rattle.mp_hub.proofs.Histories.{each_more, call_by_call, hub_more, number_is}

pub or_cases : (a b : Bool) → (a || b) ≡ true → (a ≡ true) ⊎ (b ≡ true)
or_cases true b h = inl refl
or_cases false b h = inr h

or_right : (a b : Bool) → b ≡ true → (a || b) ≡ true
or_right true b h = refl
or_right false b h = h

or_false : (a b : Bool) → a ≡ false → b ≡ false → (a || b) ≡ false
or_false a b p q = λ i. p i || q i

pub or_none : (a b : Bool) → (a || b) ≡ false → (a ≡ false) × (b ≡ false)
or_none true b h = absurd (cc)
or_none false b h = (refl, h)

pub not_true : (b : Bool) → (b ≡ true → ⊥) → b ≡ false
not_true true h = absurd (h refl)
not_true false h = refl

any_snoc : {A : Type 0} (p : A → Bool) (xs : List A) (x : A) → list_any p (xs ++ x ∷ []) ≡ (list_any p xs || p x)
any_snoc p [] x = go (p x)
  where
    go : (b : Bool) → (b || false) ≡ (false || b)
    go true = refl
    go false = refl
any_snoc p (y ∷ xs) x = ap (λ b. p y || b) (any_snoc p xs x) ∙ go (p y) (list_any p xs) (p x)
  where
    go : (a b c : Bool) → (a || (b || c)) ≡ ((a || b) || c)
    go true b c = refl
    go false b c = refl

-- what no element passes no element that is left passes
any_left : {A : Type 0} (p keep : A → Bool) (xs : List A) → list_any p xs ≡ false → list_any p (filter keep xs) ≡ false
any_left p keep [] h = refl
any_left p keep (x ∷ xs) h =
    (let parts = or_none (p x) (list_any p xs) h in go (keep x) parts.0 (any_left p keep xs parts.1))
  where
    go : (b : Bool) → p x ≡ false → list_any p (filter keep xs) ≡ false
        → list_any p (cond b (x ∷ filter keep xs) (filter keep xs)) ≡ false
    go true here rest = or_false (p x) (list_any p (filter keep xs)) here rest
    go false here rest = rest

-- ---- messages that wait, and their claims

-- the post of this number is a claim of the rank's
abbrev pub ClaimOf : List Post → ℕ → ℕ → Type 0
ClaimOf ps rank number =
    (place : ℕ) × (a : Selection) × (number ≡ suc place) × (slice_get ps place ≡ Some (post.Claim a)) × (a.rank ≡ rank)

-- each message that waits has its claim
abbrev pub Owned : List Post → List Waiting → Type 0
Owned ps [] = Unit {0}
Owned ps (w ∷ ws) = ClaimOf ps w.rank w.message × Owned ps ws

pub waiting_claim : (ps : List Post) (ws : List Waiting) (n : ℕ) → Owned ps ws → is_waiting ws n ≡ true
    → (rank : ℕ) × ClaimOf ps rank n
waiting_claim ps [] n owned h = absurd (cc)
waiting_claim ps (w ∷ ws) n owned h = elim (or_cases (w.message == n) (is_waiting ws n) h) [
  | inl here ↦ (w.rank, subst (λ k. ClaimOf ps w.rank k) (eqb-true w.message n here) owned.0)
  | inr there ↦ waiting_claim ps ws n owned.1 there
]

pub receiving_claim : (ps : List Post) (ws : List Waiting) (rank n : ℕ) → Owned ps ws → may_receive ws rank n ≡ true
    → ClaimOf ps rank n
receiving_claim ps [] rank n owned h = absurd (cc)
receiving_claim ps (w ∷ ws) rank n owned h = elim (or_cases (is_claim rank n w) (may_receive ws rank n) h) [
  | inl here ↦ (let p = and_parts (w.rank == rank) (w.message == n) here in
      subst (λ k. ClaimOf ps k n) (eqb-true w.rank rank p.0)
      (subst (λ k. ClaimOf ps w.rank k) (eqb-true w.message n p.1) owned.0))
  | inr there ↦ receiving_claim ps ws rank n owned.1 there
]

pub may_wait : (ws : List Waiting) (rank n : ℕ) → may_receive ws rank n ≡ true → is_waiting ws n ≡ true
may_wait [] rank n h = absurd (cc)
may_wait (w ∷ ws) rank n h = elim (or_cases (is_claim rank n w) (may_receive ws rank n) h) [
  | inl here ↦ ap (λ b. b || is_waiting ws n) (and_parts (w.rank == rank) (w.message == n) here).1
  | inr there ↦ or_right (w.message == n) (is_waiting ws n) (may_wait ws rank n there)
]

-- a number has one claim
one_claim : (ps : List Post) (r s n : ℕ) → ClaimOf ps r n → ClaimOf ps s n → r ≡ s
one_claim ps r s n c d =
    let place : c.0 ≡ d.0 = (let e = c.2 in let f = d.2 in omega (arith, e, f)) in
    let same : post.Claim c.1 ≡ post.Claim d.1 =
    same_Some (post.Claim c.1) (post.Claim d.1) (sym c.3 ∙ ap (λ k. slice_get ps k) place ∙ d.3) in
    let selection : c.1 ≡ d.1 = (cc) in
    sym c.4 ∙ ap (λ (a : Selection). a.rank) selection ∙ d.4

-- a message that its rank receives waits no longer
pub waits_no_longer : (ps : List Post) (ws : List Waiting) (rank n : ℕ) → Owned ps ws → ClaimOf ps rank n
    → is_waiting (without_claim ws rank n) n ≡ false
waits_no_longer ps [] rank n owned c = refl
waits_no_longer ps (w ∷ ws) rank n owned c = go (is_claim rank n w) refl (waits_no_longer ps ws rank n owned.1 c)
  where
    other : is_claim rank n w ≡ false → (w.message == n) ≡ true → ⊥
    other may_not here =
        let number : w.message ≡ n = eqb-true w.message n here in
        let own : w.rank ≡ rank =
        one_claim ps w.rank rank n (subst (λ k. ClaimOf ps w.rank k) number owned.0) c in
        let both : is_claim rank n w ≡ true =
        (λ i. eq-eqb w.rank rank own i && here i) in
        (let no : true ≡ false = sym both ∙ may_not in cc)

    go : (b : Bool) → is_claim rank n w ≡ b → is_waiting (without_claim ws rank n) n ≡ false
        → is_waiting (cond (not b) (w ∷ without_claim ws rank n) (without_claim ws rank n)) n ≡ false
    go true e rest = rest
    go false e rest =
        or_false (w.message == n) (is_waiting (without_claim ws rank n) n) (not_true (w.message == n) (other e)) rest

-- any other message waits on
waits_on : (ws : List Waiting) (rank n r m : ℕ) → (n ≡ m → ⊥) → may_receive ws r m ≡ true
    → may_receive (without_claim ws rank n) r m ≡ true
waits_on [] rank n r m apart h = absurd (cc)
waits_on (w ∷ ws) rank n r m apart h =
    go (is_claim rank n w) refl (λ g. waits_on ws rank n r m apart g) (or_cases (is_claim r m w) (may_receive ws r m) h)
  where
    go : (b : Bool) → is_claim rank n w ≡ b
        → (may_receive ws r m ≡ true → may_receive (without_claim ws rank n) r m ≡ true)
        → (is_claim r m w ≡ true) ⊎ (may_receive ws r m ≡ true)
        → may_receive (cond (not b) (w ∷ without_claim ws rank n) (without_claim ws rank n)) r m ≡ true
    go true e rest (inl here) =
        let p = eqb-true w.message n (and_parts (w.rank == rank) (w.message == n) e).1 in
        let q = eqb-true w.message m (and_parts (w.rank == r) (w.message == m) here).1 in
        absurd (apart (sym p ∙ q))
    go true e rest (inr there) = rest there
    go false e rest (inl here) = ap (λ b. b || may_receive (without_claim ws rank n) r m) here
    go false e rest (inr there) = or_right (is_claim r m w) (may_receive (without_claim ws rank n) r m) (rest there)

owned_left : (ps : List Post) (ws : List Waiting) (rank n : ℕ) → Owned ps ws → Owned ps (without_claim ws rank n)
owned_left ps [] rank n owned = tt
owned_left ps (w ∷ ws) rank n owned = go (is_claim rank n w) (owned_left ps ws rank n owned.1)
  where
    go : (b : Bool) → Owned ps (without_claim ws rank n)
        → Owned ps (cond (not b) (w ∷ without_claim ws rank n) (without_claim ws rank n))
    go true rest = rest
    go false rest = (owned.0, rest)

claim_more : (ps : List Post) (p : Post) (rank n : ℕ) → ClaimOf ps rank n → ClaimOf (ps ++ p ∷ []) rank n
claim_more ps p rank n c = (c.0, c.1, c.2, get_front ps (p ∷ []) c.0 (post.Claim c.1) c.3, c.4)

owned_more : (ps : List Post) (p : Post) (ws : List Waiting) → Owned ps ws → Owned (ps ++ p ∷ []) ws
owned_more ps p [] owned = tt
owned_more ps p (w ∷ ws) owned = (claim_more ps p w.rank w.message owned.0, owned_more ps p ws owned.1)

owned_push : (ps : List Post) (ws : List Waiting) (w : Waiting) → Owned ps ws → ClaimOf ps w.rank w.message
    → Owned ps (ws ++ w ∷ [])
owned_push ps [] w owned c = (c, tt)
owned_push ps (x ∷ ws) w owned c = (owned.0, owned_push ps ws w owned.1 c)

-- ---- what holds of the claims

pub record Handles (h : HubView) (got taken : List ℕ) : Type 0 where
  pub owned : Owned (posts_of h.board.lines) h.claims
  pub waits : (place : ℕ) (a : Selection) → slice_get (posts_of h.board.lines) place ≡ Some (post.Claim a)
      → Contains taken (suc place) ⊎ (may_receive h.claims a.rank (suc place) ≡ true)
  pub past : (n : ℕ) → Contains taken n → is_waiting h.claims n ≡ false
  pub claimed : (n : ℕ) → Contains taken n → (rank : ℕ) × ClaimOf (posts_of h.board.lines) rank n
  pub paired : (place : ℕ) (a : Selection) → slice_get (posts_of h.board.lines) place ≡ Some (post.Claim a)
      → (j : ℕ) × (partner_at h.board.lines place ≡ Some j)
  pub got_later : (place : ℕ) (a : Selection) → slice_get (posts_of h.board.lines) place ≡ Some (post.Claim a)
      → Contains got (suc place) → Contains taken (suc place)

-- what a call does to the claims
data Deals (h : HubView) (new taken : List ℕ) (k : HubView) : Type 0 where
  is_same : k.board.lines ≡ h.board.lines → k.claims ≡ h.claims → taken ≡ []
      → ((n : ℕ) → Contains new n → is_waiting h.claims n ≡ false) → Deals h new taken k
  is_more : (p : Post) → ((a : Selection) → p ≡ post.Claim a → ⊥) → k.board.lines ≡ add h.board.lines p
      → k.claims ≡ h.claims → taken ≡ [] → ((n : ℕ) → Contains new n → n ≡ suc (length h.board.lines))
      → Deals h new taken k
  is_claimed : (a : Selection) (j : ℕ) → partner_for h.board.lines (post.Claim a) ≡ Some j
      → k.board.lines ≡ add h.board.lines (post.Claim a)
      → k.claims ≡ h.claims ++ record { message = suc (length h.board.lines); rank = a.rank } ∷ []
      → taken ≡ [] → new ≡ [] → Deals h new taken k
  is_received : (rank n : ℕ) → may_receive h.claims rank n ≡ true → k.board.lines ≡ h.board.lines
      → k.claims ≡ without_claim h.claims rank n → taken ≡ n ∷ [] → ((m : ℕ) → Contains new m → m ≡ n) → Deals h new taken k

abbrev DealsTo : HubView → ℕ → Request → Reply × HubView → Type 0
DealsTo h rank q o = Deals h (got_by (next_number h.board) q o.0) (received_by q o.0) o.1

either : (h : HubView) (rank : ℕ) (q : Request) (c : Bool) (x y : Reply × HubView) → DealsTo h rank q x
    → DealsTo h rank q y
    → DealsTo h rank q (cond c x y)
either h rank q true x y p n = p
either h rank q false x y p n = n

pub no_number : {X : Type 0} (n : ℕ) → Contains [] n → X
no_number n c = (let lt = c.1 in absurd (omega (arith, lt)))

one_of : (x n : ℕ) → Contains (x ∷ []) n → n ≡ x
one_of x n c = elim (Contains-push_cases [] x n c) [ inl old ↦ no_number n old | inr same ↦ sym same ]

-- a post that may be collected is no claim that waits
past_waiting : (h : HubView) (rank n : ℕ) → may_collect h rank n ≡ true → is_waiting h.claims n ≡ false
past_waiting h rank n e =
    let a = is_receive_of rank (line_of h.board n) in
    let b = not (is_waiting h.claims n) in
    let p = and_parts (a && b) (not (is_collected h.board n)) e in
    not-true (is_waiting h.claims n) (and_parts a b p.0).1

pub same_lines : (rank : ℕ) (b c : Board) → c.lines ≡ b.lines → (n : ℕ)
    → is_send_of rank (line_of c n) ≡ is_send_of rank (line_of b n)
same_lines rank b c same zero = refl
same_lines rank b c same (suc place) = ap (λ (ls : List Line). is_send_of rank (slice_get ls place)) same

-- of several posts those that give a message may be collected
got_past : (h : HubView) (rank : ℕ) (ns : List ℕ) (b : Board) → b.lines ≡ h.board.lines
    → list_all (λ n. is_known h rank n) ns ≡ true → (n : ℕ) → Contains (got_of ns (all_got rank b ns).0) n
    → is_waiting h.claims n ≡ false
got_past h rank [] b same known n c = no_number n c
got_past h rank (x ∷ ns) b same known n c =
    go (is_send_of rank (line_of b x)) refl
    (λ (d : Contains (got_of ns (all_got rank (one_got rank b x).1 ns).0) n).
    got_past h rank ns (one_got rank b x).1 (one_lines rank b x ∙ same) parts.1 n d) c
  where
    parts : (is_known h rank x ≡ true) × (list_all (λ n. is_known h rank n) ns ≡ true)
    parts = and_parts (is_known h rank x) (list_all (λ n. is_known h rank n) ns) known

    here : is_send_of rank (line_of b x) ≡ false → is_waiting h.claims x ≡ false
    here e = elim (or_cases (may_collect h rank x) (is_send_of rank (line_of h.board x)) parts.0) [
      | inl may ↦ past_waiting h rank x may
      | inr sends ↦ (let no : true ≡ false = sym sends ∙ sym (same_lines rank h.board b same x) ∙ e in absurd (cc))
    ]

    one : (o : Option Message) (gots : List (Option Message)) → is_waiting h.claims x ≡ false
        → (Contains (got_of ns gots) n → is_waiting h.claims n ≡ false)
        → Contains (got_of (x ∷ ns) (o ∷ gots)) n → is_waiting h.claims n ≡ false
    one None gots first rest d = rest d
    one (Some m) gots first rest d = elim (Contains-append_cases (x ∷ []) (got_of ns gots) n d) [
      | inl e ↦ ap (is_waiting h.claims) (one_of x n e) ∙ first
      | inr e ↦ rest e
    ]

    go : (s : Bool) → is_send_of rank (line_of b x) ≡ s
        → (let g : Option Message × Board = cond s (None, b) (collect b x) in
        (Contains (got_of ns (all_got rank g.1 ns).0) n → is_waiting h.claims n ≡ false)
        → Contains (got_of (x ∷ ns) (g.0 ∷ (all_got rank g.1 ns).0)) n → is_waiting h.claims n ≡ false)
    go true e rest d = rest d
    go false e rest d = one (collect b x).0 (all_got rank (collect b x).1 ns).0 (here e) rest d

deals : (h : HubView) (rank : ℕ) (q : Request) → DealsTo h rank q (outcome h rank q)
deals h rank (Send sync comm dest tag bytes) =
    either h rank (Send sync comm dest tag bytes) (nat_lt (held_count h.board.bodies) 65536) (
      reply.Posted (next_number h.board) (is_done h.board (sending rank sync comm dest tag bytes)),
      with_board h (send_posted h.board (sending rank sync comm dest tag bytes) bytes),
    )
    (reply.Code Full, h)
    (is_more (post.Send (sending rank sync comm dest tag bytes)) (λ a e. absurd (cc)) refl refl refl
    (λ n c. no_number n c))
    (is_same refl refl refl (λ n c. no_number n c))
deals h rank (Recv true comm source tag) =
    let a = selecting rank comm source tag in
    is_more (post.Receive a) (λ b e. absurd (cc))
    (collect_lines (receive_posted h.board a) (next_number h.board)) refl refl
    (λ n c. go (collect (receive_posted h.board a) (next_number h.board)).0 n c)
  where
    go : (o : Option Message) (n : ℕ)
        → Contains (got_by (next_number h.board) (Recv true comm source tag)
        (message_or (reply.Posted (next_number h.board) false) o)) n
        → n ≡ suc (length h.board.lines)
    go None n c = no_number n c
    go (Some m) n c = one_of (next_number h.board) n c ∙ add-one (length h.board.lines)
deals h rank (Recv false comm source tag) =
    is_more (post.Receive (selecting rank comm source tag)) (λ b e. absurd (cc)) refl refl refl (λ n c. no_number n c)
deals h rank (Collect k) = go (may_collect h rank k) refl
  where
    one : is_waiting h.claims k ≡ false → (o : Option Message) (n : ℕ)
        → Contains (got_by (next_number h.board) (Collect k) (message_or reply.NotYet o)) n
        → is_waiting h.claims n ≡ false
    one past None n c = no_number n c
    one past (Some m) n c = ap (is_waiting h.claims) (one_of k n c) ∙ past

    go : (c : Bool) → may_collect h rank k ≡ c
        → DealsTo h rank (Collect k) (cond c (got_or h reply.NotYet (collect h.board k)) (reply.Code BadRequest, h))
    go true e =
        is_same (collect_lines h.board k) refl refl
        (λ n c. one (past_waiting h rank k e) (collect h.board k).0 n c)
    go false e = is_same refl refl refl (λ n c. no_number n c)
deals h rank (Finished n) =
    either h rank (Finished n) (is_send_of rank (line_of h.board n)) (cond (is_complete h n) reply.Done reply.NotYet, h)
    (reply.Code BadRequest, h)
    (is_same refl refl refl (λ n c. no_number n c)) (is_same refl refl refl (λ n c. no_number n c))
deals h rank (Probe comm source tag) = is_same refl refl refl (λ n c. no_number n c)
deals h rank (Claim comm source tag) = go (partner_for h.board.lines (post.Claim a)) refl
  where
    a : Selection
    a = selecting rank comm source tag

    found : (j : ℕ) → partner_for h.board.lines (post.Claim a) ≡ Some j → (o : Option Envelope)
        → DealsTo h rank (Claim comm source tag) (claim_found h a o)
    found j e None = is_same refl refl refl (λ n c. no_number n c)
    found j e (Some envelope) =
        is_claimed a j e refl
        (ap (λ n. h.claims ++ record { message = n; rank = rank } ∷ []) (add-one (length h.board.lines))) refl refl

    go : (o : Option ℕ) → partner_for h.board.lines (post.Claim a) ≡ o
        → DealsTo h rank (Claim comm source tag) (claim_found h a (envelope_at h.board o))
    go None e = is_same refl refl refl (λ n c. no_number n c)
    go (Some j) e = found j e (envelope_at h.board (Some j))
deals h rank (Claimed now k) = go (may_receive h.claims rank k) refl now
  where
    one : (o : Option Message) (n : ℕ)
        → Contains (got_by (next_number h.board) (Claimed true k) (message_or reply.NotYet o)) n → n ≡ k
    one None n c = no_number n c
    one (Some m) n c = one_of k n c

    taken : (o : Option Message) → received_by (Claimed true k) (message_or reply.NotYet o) ≡ k ∷ []
    taken None = refl
    taken (Some m) = refl

    go : (c : Bool) → may_receive h.claims rank k ≡ c → (now : Bool)
        → DealsTo h rank (Claimed now k)
        (cond c (claimed_now (with_claims h (without_claim h.claims rank k)) now k) (reply.Code BadMessage, h))
    go true e true =
        is_received rank k e (collect_lines h.board k) refl (taken (collect h.board k).0)
        (λ n c. one (collect h.board k).0 n c)
    go true e false = is_received rank k e refl refl refl (λ n c. no_number n c)
    go false e true = is_same refl refl refl (λ n c. no_number n c)
    go false e false = is_same refl refl refl (λ n c. no_number n c)
deals h rank (All ns) = go (are_distinct ns && list_all (λ n. is_known h rank n) ns) refl
  where
    several : list_all (λ n. is_known h rank n) ns ≡ true
        → DealsTo h rank (All ns) (all_collected h (all_got rank h.board ns))
    several known = is_same (all_lines rank ns h.board) refl refl (λ n c. got_past h rank ns h.board refl known n c)

    go : (c : Bool) → (are_distinct ns && list_all (λ n. is_known h rank n) ns) ≡ c
        → DealsTo h rank (All ns)
        (cond c
        (cond (list_all (λ n. is_ready h rank n) ns) (all_collected h (all_got rank h.board ns)) (reply.NotYet, h))
        (reply.Code BadRequest, h))
    go true e =
        either h rank (All ns) (list_all (λ n. is_ready h rank n) ns) (all_collected h (all_got rank h.board ns))
        (reply.NotYet, h)
        (several (and_parts (are_distinct ns) (list_all (λ n. is_known h rank n) ns) e).1)
        (is_same refl refl refl (λ n c. no_number n c))
    go false e = is_same refl refl refl (λ n c. no_number n c)
deals h rank (Init sends comm peer tag parts size) =
    go (setup_of rank sends comm peer tag parts size) (peer_of h.sides (setup_of rank sends comm peer tag parts size))
  where
    first : (s : Setup) (o : Option ℕ) → DealsTo h rank (Init sends comm peer tag parts size) (init_first h s o)
    first s None = is_same refl refl refl (λ n c. no_number n c)
    first s (Some k) = is_same refl refl refl (λ n c. no_number n c)

    go : (s : Setup) (o : Option Side) → DealsTo h rank (Init sends comm peer tag parts size) (init_with h s o)
    go s None = first s (lowest_link h.links h.sides s)
    go s (Some t) =
        either h rank (Init sends comm peer tag parts size) (same_total s t.setup) (side_added h s t.link)
        (reply.Code Shape, h)
        (is_same refl refl refl (λ n c. no_number n c)) (is_same refl refl refl (λ n c. no_number n c))
deals h rank (Cut link) = go (is_receiver h.links rank link) (sender_over h.sides link)
  where
    go : (c : Bool) (o : Option Side) → DealsTo h rank (Cut link) (cond c (cut_of o, h) (reply.Code BadRequest, h))
    go true None = is_same refl refl refl (λ n c. no_number n c)
    go true (Some t) = is_same refl refl refl (λ n c. no_number n c)
    go false o = is_same refl refl refl (λ n c. no_number n c)

-- ---- one call more

posts_length : (ms : List Line) → length (posts_of ms) ≡ length ms
posts_length [] = refl
posts_length (m ∷ ms) = ap suc (posts_length ms)

-- no number of a post that isn't there was received
below : (ps : List Post) (rank n : ℕ) → ClaimOf ps rank n → n ≡ suc (length ps) → ⊥
below ps rank n c e =
    (let lt = get_within ps c.0 (post.Claim c.1) c.3 in let f = c.2 in absurd (omega (arith, lt, e, f)))

handles_same : (h k : HubView) (got new taken more : List ℕ) → Handles h got taken → k.board.lines ≡ h.board.lines
    → k.claims ≡ h.claims → more ≡ []
    → ((n : ℕ) → Contains new n → is_waiting h.claims n ≡ false) → Handles k (got ++ new) (taken ++ more)
handles_same h k got new taken more hs e f t past = record {
  owned = subst (λ ws. Owned (posts_of k.board.lines) ws) (sym f) (subst (λ ps. Owned ps h.claims) same hs.owned);
  waits = λ place a at. elim (hs.waits place a (old place a at)) [
    | inl c ↦ inl (Contains-append_left taken more (suc place) c)
    | inr m ↦ inr (ap (λ ws. may_receive ws a.rank (suc place)) f ∙ m)
  ];
  past = λ n c. ap (λ ws. is_waiting ws n) f ∙ hs.past n (before n c);
  claimed = λ n c. (let x = hs.claimed n (before n c) in (x.0, subst (λ ps. ClaimOf ps x.0 n) same x.1));
  paired = λ place a at.
      (let x = hs.paired place a (old place a at) in (x.0, ap (λ ms. partner_at ms place) e ∙ x.1));
  got_later = later;
}
  where
    same : posts_of h.board.lines ≡ posts_of k.board.lines
    same = ap posts_of (sym e)

    old : (place : ℕ) (a : Selection) → slice_get (posts_of k.board.lines) place ≡ Some (post.Claim a)
        → slice_get (posts_of h.board.lines) place ≡ Some (post.Claim a)
    old place a at = ap (λ ps. slice_get ps place) same ∙ at

    before : (n : ℕ) → Contains (taken ++ more) n → Contains taken n
    before n c = elim (Contains-append_cases taken more n c) [
      | inl was ↦ was
      | inr new ↦ no_number n (subst (λ ns. Contains ns n) t new)
    ]

    later : (place : ℕ) (a : Selection) → slice_get (posts_of k.board.lines) place ≡ Some (post.Claim a)
        → Contains (got ++ new) (suc place) → Contains (taken ++ more) (suc place)
    later place a at c = elim (Contains-append_cases got new (suc place) c) [
      | inl was ↦ Contains-append_left taken more (suc place) (hs.got_later place a (old place a at) was)
      | inr now ↦ elim (hs.waits place a (old place a at)) [
        | inl t ↦ Contains-append_left taken more (suc place) t
        | inr m ↦ (let no : true ≡ false =
            sym (may_wait h.claims a.rank (suc place) m) ∙ past (suc place) now in absurd (cc))
      ]
    ]

handles_more : (h k : HubView) (got new taken more : List ℕ) (p : Post) → Handles h got taken
    → ((a : Selection) → p ≡ post.Claim a → ⊥) → k.board.lines ≡ add h.board.lines p
    → k.claims ≡ h.claims → more ≡ []
    → ((n : ℕ) → Contains new n → n ≡ suc (length h.board.lines)) → Handles k (got ++ new) (taken ++ more)
handles_more h k got new taken more p hs other e f t next = record {
  owned = subst (λ ws. Owned (posts_of k.board.lines) ws) (sym f)
      (subst (λ ps. Owned ps h.claims) same (owned_more (posts_of h.board.lines) p h.claims hs.owned));
  waits = λ place a at. elim (hs.waits place a (old place a at)) [
    | inl c ↦ inl (Contains-append_left taken more (suc place) c)
    | inr m ↦ inr (ap (λ ws. may_receive ws a.rank (suc place)) f ∙ m)
  ];
  past = λ n c. ap (λ ws. is_waiting ws n) f ∙ hs.past n (before n c);
  claimed = λ n c. (let x = hs.claimed n (before n c) in
      (x.0, subst (λ ps. ClaimOf ps x.0 n) same (claim_more (posts_of h.board.lines) p x.0 n x.1)));
  paired = λ place a at.
      (let x = hs.paired place a (old place a at) in
      (x.0, ap (λ ms. partner_at ms place) e ∙ stays_add h.board.lines p place x.0 x.1));
  got_later = later;
}
  where
    same : posts_of h.board.lines ++ p ∷ [] ≡ posts_of k.board.lines
    same = sym (ap posts_of e ∙ posts_add h.board.lines p)

    old : (place : ℕ) (a : Selection) → slice_get (posts_of k.board.lines) place ≡ Some (post.Claim a)
        → slice_get (posts_of h.board.lines) place ≡ Some (post.Claim a)
    old place a at =
        elim (get_snoc (posts_of h.board.lines) p place (post.Claim a) (ap (λ ps. slice_get ps place) same ∙ at)) [
          | inl new ↦ absurd (other a (sym new.1))
          | inr was ↦ was
        ]

    before : (n : ℕ) → Contains (taken ++ more) n → Contains taken n
    before n c = elim (Contains-append_cases taken more n c) [
      | inl was ↦ was
      | inr new ↦ no_number n (subst (λ ns. Contains ns n) t new)
    ]

    later : (place : ℕ) (a : Selection) → slice_get (posts_of k.board.lines) place ≡ Some (post.Claim a)
        → Contains (got ++ new) (suc place) → Contains (taken ++ more) (suc place)
    later place a at c = elim (Contains-append_cases got new (suc place) c) [
      | inl was ↦ Contains-append_left taken more (suc place) (hs.got_later place a (old place a at) was)
      | inr now ↦
          (let lt = get_within (posts_of h.board.lines) place (post.Claim a) (old place a at) in
          let end = next (suc place) now in
          let long = posts_length h.board.lines in
          absurd (omega (arith, lt, end, long)))
    ]

handles_claimed : (h k : HubView) (got new taken more : List ℕ) (a : Selection) (j : ℕ) → Handles h got taken
    → ((n : ℕ) → Contains got n → n ≡ suc (length h.board.lines) → ⊥)
    → partner_for h.board.lines (post.Claim a) ≡ Some j → k.board.lines ≡ add h.board.lines (post.Claim a)
    → k.claims ≡ h.claims ++ record { message = suc (length h.board.lines); rank = a.rank } ∷ []
    → more ≡ [] → new ≡ [] → Handles k (got ++ new) (taken ++ more)
handles_claimed h k got new taken more a j hs few for e f t g = record {
  owned = subst (λ ws. Owned (posts_of k.board.lines) ws) (sym f)
      (subst (λ ps. Owned ps (h.claims ++ w ∷ [])) same
      (owned_push (ps ++ post.Claim a ∷ []) h.claims w (owned_more ps (post.Claim a) h.claims hs.owned)
      (length ps, a, ap suc (sym long), get_last ps (post.Claim a), refl)));
  waits = waits;
  past = λ n c.
      (let was = before n c in
      let x = hs.claimed n was in
      ap (λ ws. is_waiting ws n) f ∙ any_snoc (λ (v : Waiting). v.message == n) h.claims w
      ∙ or_false (is_waiting h.claims n) (suc (length h.board.lines) == n) (hs.past n was)
      (not_true (suc (length h.board.lines) == n)
      (λ b. below ps x.0 n x.1 (sym (eqb-true (suc (length h.board.lines)) n b) ∙ ap suc (sym long)))));
  claimed = λ n c. (let x = hs.claimed n (before n c) in
      (x.0, subst (λ qs. ClaimOf qs x.0 n) same (claim_more ps (post.Claim a) x.0 n x.1)));
  paired = paired;
  got_later = later;
}
  where
    ps : List Post
    ps = posts_of h.board.lines

    w : Waiting
    w = record { message = suc (length h.board.lines); rank = a.rank }

    long : length ps ≡ length h.board.lines
    long = posts_length h.board.lines

    same : ps ++ post.Claim a ∷ [] ≡ posts_of k.board.lines
    same = sym (ap posts_of e ∙ posts_add h.board.lines (post.Claim a))

    at_end : (place : ℕ) (b : Selection) → slice_get (posts_of k.board.lines) place ≡ Some (post.Claim b)
        → ((place ≡ length ps) × (post.Claim b ≡ post.Claim a)) ⊎ (slice_get ps place ≡ Some (post.Claim b))
    at_end place b at = get_snoc ps (post.Claim a) place (post.Claim b) (ap (λ qs. slice_get qs place) same ∙ at)

    before : (n : ℕ) → Contains (taken ++ more) n → Contains taken n
    before n c = elim (Contains-append_cases taken more n c) [
      | inl was ↦ was
      | inr now ↦ no_number n (subst (λ ns. Contains ns n) t now)
    ]

    got_before : (n : ℕ) → Contains (got ++ new) n → Contains got n
    got_before n c = elim (Contains-append_cases got new n c) [
      | inl was ↦ was
      | inr now ↦ no_number n (subst (λ ns. Contains ns n) g now)
    ]

    waits : (place : ℕ) (b : Selection) → slice_get (posts_of k.board.lines) place ≡ Some (post.Claim b)
        → Contains (taken ++ more) (suc place) ⊎ (may_receive k.claims b.rank (suc place) ≡ true)
    waits place b at = elim (at_end place b at) [
      | inl end ↦
          (let selection : b ≡ a = (cc) in
          let rank : (a.rank == b.rank) ≡ true =
          eq-eqb a.rank b.rank (ap (λ (x : Selection). x.rank) (sym selection)) in
          let number : (suc (length h.board.lines) == suc place) ≡ true =
          eq-eqb (suc (length h.board.lines)) (suc place) (ap suc (sym (end.0 ∙ long))) in
          inr (ap (λ ws. may_receive ws b.rank (suc place)) f
          ∙ any_snoc (is_claim b.rank (suc place)) h.claims w
          ∙ or_right (may_receive h.claims b.rank (suc place)) (is_claim b.rank (suc place) w)
          (λ i. rank i && number i)))
      | inr old ↦ elim (hs.waits place b old) [
        | inl c ↦ inl (Contains-append_left taken more (suc place) c)
        | inr m ↦ inr (ap (λ ws. may_receive ws b.rank (suc place)) f
            ∙ any_snoc (is_claim b.rank (suc place)) h.claims w
            ∙ ap (λ c. c || is_claim b.rank (suc place) w) m)
      ]
    ]

    paired : (place : ℕ) (b : Selection) → slice_get (posts_of k.board.lines) place ≡ Some (post.Claim b)
        → (i : ℕ) × (partner_at k.board.lines place ≡ Some i)
    paired place b at = elim (at_end place b at) [
      | inl end ↦ (
        j,
        (λ i. partner_at (e i) ((end.0 ∙ long) i)) ∙ ap partner_of_line (add_new h.board.lines (post.Claim a)) ∙ for,
      )
      | inr old ↦ (let x = hs.paired place b old in
          (x.0, ap (λ ms. partner_at ms place) e ∙ stays_add h.board.lines (post.Claim a) place x.0 x.1))
    ]

    later : (place : ℕ) (b : Selection) → slice_get (posts_of k.board.lines) place ≡ Some (post.Claim b)
        → Contains (got ++ new) (suc place) → Contains (taken ++ more) (suc place)
    later place b at c = elim (at_end place b at) [
      | inl end ↦ absurd (few (suc place) (got_before (suc place) c) (ap suc (end.0 ∙ long)))
      | inr old ↦
          Contains-append_left taken more (suc place) (hs.got_later place b old (got_before (suc place) c))
    ]

handles_received : (h k : HubView) (got new taken more : List ℕ) (rank n : ℕ) → Handles h got taken
    → may_receive h.claims rank n ≡ true → k.board.lines ≡ h.board.lines
    → k.claims ≡ without_claim h.claims rank n → more ≡ n ∷ []
    → ((m : ℕ) → Contains new m → m ≡ n) → Handles k (got ++ new) (taken ++ more)
handles_received h k got new taken more rank n hs may e f t only = record {
  owned = subst (λ ws. Owned (posts_of k.board.lines) ws) (sym f)
      (subst (λ ps. Owned ps (without_claim h.claims rank n)) same
      (owned_left (posts_of h.board.lines) h.claims rank n hs.owned));
  waits = waits;
  past = λ m c. ap (λ ws. is_waiting ws m) f ∙ past m (before m c);
  claimed = λ m c. elim (before m c) [
    | inl was ↦ (let x = hs.claimed m was in (x.0, subst (λ ps. ClaimOf ps x.0 m) same x.1))
    | inr now ↦ (
      rank,
      subst (λ ps. ClaimOf ps rank m) same
          (subst (λ l. ClaimOf (posts_of h.board.lines) rank l) (sym now) own),
    )
  ];
  paired = λ place a at.
      (let x = hs.paired place a (old place a at) in (x.0, ap (λ ms. partner_at ms place) e ∙ x.1));
  got_later = later;
}
  where
    same : posts_of h.board.lines ≡ posts_of k.board.lines
    same = ap posts_of (sym e)

    own : ClaimOf (posts_of h.board.lines) rank n
    own = receiving_claim (posts_of h.board.lines) h.claims rank n hs.owned may

    old : (place : ℕ) (a : Selection) → slice_get (posts_of k.board.lines) place ≡ Some (post.Claim a)
        → slice_get (posts_of h.board.lines) place ≡ Some (post.Claim a)
    old place a at = ap (λ ps. slice_get ps place) same ∙ at

    here : (m : ℕ) → m ≡ n → Contains (taken ++ more) m
    here m is =
        subst (λ ns. Contains (taken ++ ns) m) (sym t)
        (subst (λ l. Contains (taken ++ n ∷ []) l) (sym is) (Contains-push taken n))

    before : (m : ℕ) → Contains (taken ++ more) m → Contains taken m ⊎ (m ≡ n)
    before m c = elim (Contains-append_cases taken more m c) [
      | inl was ↦ inl was
      | inr now ↦ inr (one_of n m (subst (λ ns. Contains ns m) t now))
    ]

    past : (m : ℕ) → Contains taken m ⊎ (m ≡ n) → is_waiting (without_claim h.claims rank n) m ≡ false
    past m (inl was) =
        any_left (λ (v : Waiting). v.message == m) (λ (v : Waiting). not (is_claim rank n v)) h.claims (hs.past m was)
    past m (inr is) =
        ap (is_waiting (without_claim h.claims rank n)) is
        ∙ waits_no_longer (posts_of h.board.lines) h.claims rank n hs.owned own

    waits : (place : ℕ) (a : Selection) → slice_get (posts_of k.board.lines) place ≡ Some (post.Claim a)
        → Contains (taken ++ more) (suc place) ⊎ (may_receive k.claims a.rank (suc place) ≡ true)
    waits place a at = elim (cases_eq n (suc place)) [
      | inl is ↦ inl (here (suc place) (sym is))
      | inr apart ↦ elim (hs.waits place a (old place a at)) [
        | inl c ↦ inl (Contains-append_left taken more (suc place) c)
        | inr m ↦ inr (ap (λ ws. may_receive ws a.rank (suc place)) f
            ∙ waits_on h.claims rank n a.rank (suc place) apart m)
      ]
    ]

    later : (place : ℕ) (a : Selection) → slice_get (posts_of k.board.lines) place ≡ Some (post.Claim a)
        → Contains (got ++ new) (suc place) → Contains (taken ++ more) (suc place)
    later place a at c = elim (Contains-append_cases got new (suc place) c) [
      | inl was ↦ Contains-append_left taken more (suc place) (hs.got_later place a (old place a at) was)
      | inr now ↦ here (suc place) (only (suc place) now)
    ]

handles_call : (h k : HubView) (got new taken more : List ℕ) → Handles h got taken
    → ((n : ℕ) → Contains got n → n ≡ suc (length h.board.lines) → ⊥)
    → Deals h new more k → Handles k (got ++ new) (taken ++ more)
handles_call h k got new taken more hs few (is_same e f t past) =
    handles_same h k got new taken more hs e f t past
handles_call h k got new taken more hs few (is_more p other e f t next) =
    handles_more h k got new taken more p hs other e f t next
handles_call h k got new taken more hs few (is_claimed a j for e f t g) =
    handles_claimed h k got new taken more a j hs few for e f t g
handles_call h k got new taken more hs few (is_received rank n may e f t only) =
    handles_received h k got new taken more rank n hs may e f t only

-- a number that was got is that of a post
got_below : (b : Board) (got : List ℕ) → Stock b got → (n : ℕ) → Contains got n → n ≡ suc (length b.lines) → ⊥
got_below b got stock n c e =
    let g = stock.gone n c in
    let l = partner_line b.lines g.0 g.2 g.3 in
    let lt = get_within b.lines g.0 l.0 l.1 in
    let f = g.1 in
    absurd (omega (arith, lt, e, f))

pub handles : (links : List Link) (calls : List Call)
    → Handles (hub_after links calls) (got_after links calls) (received_after links calls)
handles links =
    call_by_call (λ calls. Handles (hub_after links calls) (got_after links calls) (received_after links calls))
    none more
  where
    none : Handles (hub_at_start links) [] []
    none = record {
      owned = tt;
      waits = λ place a at. absurd (cc);
      past = λ n c. no_number n c;
      claimed = λ n c. no_number n c;
      paired = λ place a at. absurd (cc);
      got_later = λ place a at. absurd (cc);
    }

    more : (calls : List Call) (c : Call)
        → Handles (hub_after links calls) (got_after links calls) (received_after links calls)
        → Handles (hub_after links (calls ++ c ∷ [])) (got_after links (calls ++ c ∷ []))
        (received_after links (calls ++ c ∷ []))
    more calls c before =
        let h = hub_after links calls in
        let r = reply_of links calls c.0 c.1 in
        let after = handles_call h (outcome h c.0 c.1).1 (got_after links calls) (got_by (next_number h.board) c.1 r)
        (received_after links calls) (received_by c.1 r) before
        (got_below h.board (got_after links calls) (stock links calls)) (deals h c.0 c.1) in
        let got : got_after links (calls ++ c ∷ [])
        ≡ got_after links calls ++ got_by (next_number h.board) c.1 r =
        each_more (λ before c. got_by (number_after links before) c.1 (reply_of links before c.0 c.1)) calls c
        ∙ ap (λ n. got_after links calls ++ got_by n c.1 r) (sym (number_is links calls)) in
        let taken : received_after links (calls ++ c ∷ []) ≡ received_after links calls ++ received_by c.1 r =
        each_more (λ before c. received_by c.1 (reply_of links before c.0 c.1)) calls c in
        subst (λ (k : HubView). Handles k (got_after links (calls ++ c ∷ [])) (received_after links (calls ++ c ∷ [])))
        (sym (hub_more links calls c))
        (subst (λ g. Handles (outcome h c.0 c.1).1 g (received_after links (calls ++ c ∷ []))) (sym got)
        (subst (λ t. Handles (outcome h c.0 c.1).1
        (got_after links calls ++ got_by (next_number h.board) c.1 r) t) (sym taken) after))
