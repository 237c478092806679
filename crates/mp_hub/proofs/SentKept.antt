-- What the hub gives is what was sent.
use Rattle.std.proofs.Common.{◌≡◌, ◌<◌, ℕ, zero, suc, ◌⊎◌, inl, inr, List, [], ◌∷◌, ◌++◌, length, Bool, true, false, cond, Option, Some, None, refl, sym, ap, ◌∙◌, subst, arith, add-one, append_assoc, append-nil, length-append}
use Rattle.std.specs.Prelude.{◌&&◌}
use Rattle.std.specs.List.{list_all, slice_get, slice_set}
use Rattle.std.proofs.lemmas.Option.{same_Some}
use Rattle.rv_image_types.specs.declared.images.Link.{Link}
use Rattle.mp_types.specs.declared.messages.Envelope.{Envelope}
use Rattle.mp_types.specs.declared.messages.Message.{Message}
use Rattle.mp_types.specs.declared.codes.Code.TheVariants.{BadRequest}
use Rattle.mp_types.specs.declared.replies.Reply.{Reply}
use Rattle.mp_types.specs.declared.replies.Reply.TheVariants as reply
use Rattle.mp_types.specs.declared.requests.Request.{Request}
use Rattle.mp_types.specs.declared.requests.Request.TheVariants.{Send, Claim, All}
use Rattle.mp_match.specs.declared.posts.Sent.{Sent}
use Rattle.mp_match.specs.declared.posts.Selection.{Selection}
use Rattle.mp_match.specs.declared.posts.Post.{Post}
use Rattle.mp_match.specs.declared.posts.Post.TheVariants as post
use Rattle.mp_match.specs.declared.posts.Line.{Line}
use Rattle.mp_match.specs.Pairs.{add, partner_for, partner_at, partner_of_line}
use Rattle.mp_match.specs.Board.{Board, board_with, send_posted, claim_posted, line_of, is_send_of, partner_of, envelope_in, envelope_at, message_in, message_at, without, collect_from, collect, no_posts}
use Rattle.mp_match.proofs.Places.{get_snoc, get_within}
use Rattle.mp_match.proofs.Lines.{Look, is_new, is_old, is_given, look, add_new, add_length}
use Rattle.mp_probe.specs.Claims.{next_number}
use Rattle.mp_hub.specs.Hub.{HubView, Call, outcome, message_or, claim_found, all_got, one_got, all_collected, are_distinct, is_known, is_ready, hub_after, reply_of, hub_at_start, sending, selecting, seen}
use Rattle.mp_hub.specs.Laws.{SentAt, PairedWith, collecting, GotIsSent, SeenIsSent, HeldIsSent, AllGotIsSent, SentLaw}
use Rattle.mp_hub.proofs.CallsSoFar.{hub_on-snoc}
use Rattle.mp_hub.proofs.BoardKept.{collect_lines, one_lines}
use Rattle.mp_hub.proofs.Outcomes.{is_plain, post_envelope, IsReady, Comes, is_nothing, is_full, is_sent, is_posted, is_got, is_gathered, comes}

-- ---- a message and its parts

pub message_parts : (o : Option Envelope) (p : Option (Option (List ℕ))) (m : Message) → message_in o p ≡ Some m
    → (o ≡ Some m.envelope) × (p ≡ Some (Some m.bytes))
message_parts None p m h = absurd (cc)
message_parts (Some e) None m h = absurd (cc)
message_parts (Some e) (Some None) m h = absurd (cc)
message_parts (Some e) (Some (Some bytes)) m h =
    let made : Message = record { envelope = e; bytes = bytes } in
    let same : made ≡ m = same_Some made m h in
    (ap (λ (x : Message). Some x.envelope) same, ap (λ (x : Message). Some (Some x.bytes)) same)

pub message_from : (b : Board) (place : ℕ) (m : Message) → envelope_at b (Some place) ≡ Some m.envelope
    → slice_get b.bodies place ≡ Some (Some m.bytes)
    → message_at b place ≡ Some m
message_from b place m e p = λ i. message_in (e i) (p i)

line_in : (o : Option Line) (e : Envelope) → envelope_in o ≡ Some e → (line : Line) × (o ≡ Some line)
line_in None e h = absurd (cc)
line_in (Some line) e h = (line, refl)

envelope_within : (b : Board) (place : ℕ) (e : Envelope) → envelope_at b (Some place) ≡ Some e → place < length b.lines
envelope_within b place e h = (let l = line_in (slice_get b.lines place) e h in get_within b.lines place l.0 l.1)

-- an envelope after one more post is the new post's or was there before
envelope_more : (lines : List Line) (p : Post) (place : ℕ) (e : Envelope)
    → envelope_in (slice_get (add lines p) place) ≡ Some e
    → ((place ≡ length lines) × (post_envelope p ≡ Some e)) ⊎ (envelope_in (slice_get lines place) ≡ Some e)
envelope_more lines p place e h =
    let l = line_in (slice_get (add lines p) place) e h in
    go l.0 (look lines p place l.0 l.1) (sym (ap envelope_in l.1) ∙ h)
  where
    go : (line : Line) → Look lines p place line → envelope_in (Some line) ≡ Some e
        → ((place ≡ length lines) × (post_envelope p ≡ Some e)) ⊎ (envelope_in (slice_get lines place) ≡ Some e)
    go line (is_new u f) g = inl (u, sym (ap (λ (x : Line). envelope_in (Some x)) f) ∙ g)
    go line (is_old f) g = inr (ap envelope_in f ∙ g)
    go line (is_given x f c t) g = inr (ap envelope_in f ∙ sym (ap (λ (y : Line). envelope_in (Some y)) t) ∙ g)

pub set_held : (bodies : List (Option (List ℕ))) (s i : ℕ) (x : List ℕ)
    → slice_get (slice_set bodies s None) i ≡ Some (Some x) → slice_get bodies i ≡ Some (Some x)
set_held [] s i x h = h
set_held (b ∷ bodies) zero zero x h = absurd (cc)
set_held (b ∷ bodies) zero (suc i) x h = h
set_held (b ∷ bodies) (suc s) zero x h = h
set_held (b ∷ bodies) (suc s) (suc i) x h = set_held bodies s i x h

pub set_length : (bodies : List (Option (List ℕ))) (s : ℕ) → length (slice_set bodies s None) ≡ length bodies
set_length [] s = refl
set_length (b ∷ bodies) zero = refl
set_length (b ∷ bodies) (suc s) = ap suc (set_length bodies s)

-- ---- boards with no new message

pub record Keeps (b c : Board) : Type 0 where
  pub envelopes : (place : ℕ) (e : Envelope) → envelope_at c (Some place) ≡ Some e → envelope_at b (Some place) ≡ Some e
  pub messages : (place : ℕ) (m : Message) → message_at c place ≡ Some m → message_at b place ≡ Some m
  pub even : length b.bodies ≡ length b.lines → length c.bodies ≡ length c.lines

pub keeps_refl : (b : Board) → Keeps b b
keeps_refl b = record { envelopes = λ place e h. h; messages = λ place m h. h; even = λ h. h }

pub keeps_trans : (b c d : Board) → Keeps b c → Keeps c d → Keeps b d
keeps_trans b c d p q = record {
  envelopes = λ place e h. p.envelopes place e (q.envelopes place e h);
  messages = λ place m h. p.messages place m (q.messages place m h);
  even = λ h. q.even (p.even h);
}

keeps_without : (b : Board) (s : ℕ) → Keeps b (without b s)
keeps_without b s = record {
  envelopes = λ place e h. h;
  messages = λ place m h.
      (let q = message_parts (envelope_at (without b s) (Some place)) (slice_get (without b s).bodies place) m h in
      message_from b place m q.0 (set_held b.bodies s place m.bytes q.1));
  even = λ h. set_length b.bodies s ∙ h;
}

pub keeps_collect : (b : Board) (number : ℕ) → Keeps b (collect b number).1
keeps_collect b number = go (partner_of b number)
  where
    go : (o : Option ℕ) → Keeps b (collect_from b o).1
    go None = keeps_refl b
    go (Some s) = keeps_without b s

-- a post that is no send brings no message
keeps_posted : (b : Board) (p : Post) → post_envelope p ≡ None → Keeps b (board_with b p None)
keeps_posted b p none = record {
  envelopes = old;
  messages = λ place m h.
      (let q = message_parts (envelope_at (board_with b p None) (Some place))
      (slice_get (board_with b p None).bodies place) m h in
      message_from b place m (old place m.envelope q.0)
      (body place m.bytes (get_snoc b.bodies None place (Some m.bytes) q.1)));
  even = λ h. (let l = add_length b.lines p in omega (arith, l, h, length-append b.bodies (None ∷ [])));
}
  where
    old : (place : ℕ) (e : Envelope) → envelope_at (board_with b p None) (Some place) ≡ Some e
        → envelope_at b (Some place) ≡ Some e
    old place e h = elim (envelope_more b.lines p place e h) [ inl n ↦ (let f = n.1 in absurd (cc)) | inr o ↦ o ]

    body : (place : ℕ) (x : List ℕ)
        → ((place ≡ length b.bodies) × (Some x ≡ None)) ⊎ (slice_get b.bodies place ≡ Some (Some x))
        → slice_get b.bodies place ≡ Some (Some x)
    body place x (inl n) = (let f = n.1 in absurd (cc))
    body place x (inr o) = o

pub keeps_one : (rank : ℕ) (b : Board) (n : ℕ) → Keeps b (one_got rank b n).1
keeps_one rank b n = go (is_send_of rank (line_of b n))
  where
    go : (s : Bool) → (let g : Option Message × Board = cond s (None, b) (collect b n) in Keeps b g.1)
    go true = keeps_refl b
    go false = keeps_collect b n

keeps_all : (rank : ℕ) (ns : List ℕ) (b : Board) → Keeps b (all_got rank b ns).1
keeps_all rank [] b = keeps_refl b
keeps_all rank (n ∷ ns) b =
    keeps_trans b (one_got rank b n).1 (all_got rank (one_got rank b n).1 ns).1 (keeps_one rank b n)
    (keeps_all rank ns (one_got rank b n).1)

keeps_ready : (b c : Board) → IsReady b c → Keeps b c
keeps_ready b c (inl same) = subst (λ (d : Board). Keeps b d) (sym same) (keeps_refl b)
keeps_ready b c (inr r) = subst (λ (d : Board). Keeps b d) (sym r.1) (keeps_posted b (post.Receive r.0) refl)

-- ---- the messages on a board are those that were sent

pub record Mail (links : List Link) (calls : List Call) (b : Board) : Type 0 where
  pub envelopes : (place : ℕ) (e : Envelope) → envelope_at b (Some place) ≡ Some e
      → (m : Message) × SentAt links calls place m × (m.envelope ≡ e)
  pub messages : (place : ℕ) (m : Message) → message_at b place ≡ Some m → SentAt links calls place m
  pub even : length b.bodies ≡ length b.lines

sent_later : (links : List Link) (calls : List Call) (c : Call) (place : ℕ) (m : Message) → SentAt links calls place m
    → SentAt links (calls ++ c ∷ []) place m
sent_later links calls c place m s = record {
  before = s.before;
  after = s.after ++ c ∷ [];
  sender = s.sender;
  sync = s.sync;
  dest = s.dest;
  done = s.done;
  made = ap (λ cs. cs ++ c ∷ []) s.made
      ∙ append_assoc s.before ((s.sender, Send s.sync m.envelope.comm s.dest m.envelope.tag m.bytes) ∷ s.after)
      (c ∷ []);
  answered = s.answered;
  source = s.source;
  count = s.count;
}

mail_keeps : (links : List Link) (calls : List Call) (call : Call) (b c : Board) → Mail links calls b → Keeps b c
    → Mail links (calls ++ call ∷ []) c
mail_keeps links calls call b c mail k = record {
  envelopes = λ place e h.
      (let s = mail.envelopes place e (k.envelopes place e h) in (s.0, sent_later links calls call place s.0 s.1, s.2));
  messages = λ place m h. sent_later links calls call place m (mail.messages place m (k.messages place m h));
  even = k.even mail.even;
}

kept_mail : (links : List Link) (calls : List Call) (call : Call) (b c d : Board) → Mail links calls b → Keeps b d
    → c ≡ d
    → Mail links (calls ++ call ∷ []) c
kept_mail links calls call b c d mail k e =
    subst (λ (x : Board). Mail links (calls ++ call ∷ []) x) (sym e) (mail_keeps links calls call b d mail k)

abbrev sent_message : Sent → List ℕ → Message
sent_message s bytes = record { envelope = s.envelope; bytes = bytes }

-- one more send
mail_send : (links : List Link) (calls : List Call) (call : Call) (b : Board) (s : Sent) (bytes : List ℕ)
    → Mail links calls b
    → SentAt links (calls ++ call ∷ []) (length b.lines) (sent_message s bytes)
    → Mail links (calls ++ call ∷ []) (send_posted b s bytes)
mail_send links calls call b s bytes mail new = record {
  envelopes = λ place e h. envelopes place e (envelope_more b.lines (post.Send s) place e h);
  messages = λ place m h.
      (let q = message_parts (envelope_at (send_posted b s bytes) (Some place))
      (slice_get (send_posted b s bytes).bodies place) m h in
      messages place m (envelope_more b.lines (post.Send s) place m.envelope q.0)
      (get_snoc b.bodies (Some bytes) place (Some m.bytes) q.1));
  even = (let l = add_length b.lines (post.Send s) in let h = mail.even in
      omega (arith, l, h, length-append b.bodies (Some bytes ∷ [])));
}
  where
    at : (place : ℕ) → place ≡ length b.lines → SentAt links (calls ++ call ∷ []) place (sent_message s bytes)
    at place u = subst (λ k. SentAt links (calls ++ call ∷ []) k (sent_message s bytes)) (sym u) new

    envelopes : (place : ℕ) (e : Envelope)
        → ((place ≡ length b.lines) × (Some s.envelope ≡ Some e)) ⊎ (envelope_at b (Some place) ≡ Some e)
        → (m : Message) × SentAt links (calls ++ call ∷ []) place m × (m.envelope ≡ e)
    envelopes place e (inl n) = (sent_message s bytes, at place n.0, same_Some s.envelope e n.1)
    envelopes place e (inr o) =
        (let t = mail.envelopes place e o in (t.0, sent_later links calls call place t.0 t.1, t.2))

    messages : (place : ℕ) (m : Message)
        → ((place ≡ length b.lines) × (Some s.envelope ≡ Some m.envelope))
        ⊎ (envelope_at b (Some place) ≡ Some m.envelope)
        → ((place ≡ length b.bodies) × (Some m.bytes ≡ Some bytes)) ⊎ (slice_get b.bodies place ≡ Some (Some m.bytes))
        → SentAt links (calls ++ call ∷ []) place m
    messages place m (inl n) (inl k) =
        let e : s.envelope ≡ m.envelope = same_Some s.envelope m.envelope n.1 in
        let x : bytes ≡ m.bytes = sym (same_Some m.bytes bytes k.1) in
        let same : sent_message s bytes ≡ m = (λ i. record { envelope = e i; bytes = x i }) in
        subst (λ (y : Message). SentAt links (calls ++ call ∷ []) place y) same (at place n.0)
    messages place m (inl n) (inr k) =
        (let w = get_within b.bodies place (Some m.bytes) k in let u = n.0 in let h = mail.even in
        absurd (omega (arith, w, u, h)))
    messages place m (inr o) (inl k) =
        (let w = envelope_within b place m.envelope o in let u = k.0 in let h = mail.even in
        absurd (omega (arith, w, u, h)))
    messages place m (inr o) (inr k) =
        sent_later links calls call place m (mail.messages place m (message_from b place m o k))

-- ---- the hub after some calls

mail_call : (links : List Link) (calls : List Call) (h : HubView) (rank : ℕ) (q : Request) (b : Board)
    → h ≡ hub_after links calls
    → Mail links calls h.board → Comes h rank q (outcome h rank q).0 b → Mail links (calls ++ (rank, q) ∷ []) b
mail_call links calls h rank q b is mail (is_nothing p e) =
    kept_mail links calls (rank, q) h.board b h.board mail (keeps_refl h.board) e
mail_call links calls h rank q b is mail (is_full f there e) =
    kept_mail links calls (rank, q) h.board b h.board mail (keeps_refl h.board) e
mail_call links calls h rank q b is mail (is_sent sync comm dest tag bytes done asked f e) =
    let s = sending rank sync comm dest tag bytes in
    let request : Request = Send sync comm dest tag bytes in
    let made : calls ++ (rank, q) ∷ [] ≡ calls ++ (rank, request) ∷ [] =
    ap (λ (x : Request). calls ++ (rank, x) ∷ []) asked in
    let answered : reply_of links calls rank request ≡ reply.Posted (next_number h.board) done =
    ap (λ (k : HubView). (outcome k rank request).0) (sym is) ∙ ap (λ (x : Request). (outcome h rank x).0) (sym asked)
    ∙ f in
    subst (λ (c : Board). Mail links (calls ++ (rank, q) ∷ []) c) (sym e)
    (mail_send links calls (rank, q) h.board s bytes mail (record {
      before = calls;
      after = [];
      sender = rank;
      sync = sync;
      dest = dest;
      done = done;
      made = made;
      answered = answered;
      source = refl;
      count = refl;
    }))
mail_call links calls h rank q b is mail (is_posted p none f e) =
    kept_mail links calls (rank, q) h.board b (board_with h.board p None) mail (keeps_posted h.board p none) e
mail_call links calls h rank q b is mail (is_got c n other ready asked one p f e) =
    kept_mail links calls (rank, q) h.board b (collect c n).1 mail
    (keeps_trans h.board c (collect c n).1 (keeps_ready h.board c ready) (keeps_collect c n)) e
mail_call links calls h rank q b is mail (is_gathered ns asked f e) =
    kept_mail links calls (rank, q) h.board b (all_got rank h.board ns).1 mail (keeps_all rank ns h.board) e

mail_on : (links : List Link) (rest calls : List Call) → Mail links calls (hub_after links calls).board
    → Mail links (calls ++ rest) (hub_after links (calls ++ rest)).board
mail_on links [] calls mail = subst (λ cs. Mail links cs (hub_after links cs).board) (sym (append-nil calls)) mail
mail_on links (c ∷ rest) calls mail =
    let more = mail_call links calls (hub_after links calls) c.0 c.1 _ refl mail
    (comes (hub_after links calls) c.0 c.1) in
    let next : Mail links (calls ++ c ∷ []) (hub_after links (calls ++ c ∷ [])).board =
    subst (λ (k : HubView). Mail links (calls ++ c ∷ []) k.board) (sym (hub_on-snoc calls (hub_at_start links) c)) more in
    subst (λ cs. Mail links cs (hub_after links cs).board) (append_assoc calls (c ∷ []) rest)
    (mail_on links rest (calls ++ c ∷ []) next)

mail_none : (links : List Link) → Mail links [] no_posts
mail_none links = record { envelopes = λ place e h. absurd (cc); messages = λ place m h. absurd (cc); even = refl }

pub mail : (links : List Link) (calls : List Call) → Mail links calls (hub_after links calls).board
mail links calls = mail_on links calls [] (mail_none links)

-- ---- what is got

pub partner_lines : (b c : Board) → c.lines ≡ b.lines → (n : ℕ) → partner_of c n ≡ partner_of b n
partner_lines b c e zero = refl
partner_lines b c e (suc place) = ap (λ (ls : List Line). partner_at ls place) e

pub record Collects (b : Board) (n : ℕ) (m : Message) : Type 0 where
  pub place : ℕ
  pub partner : partner_of b n ≡ Some place
  pub message : message_at b place ≡ Some m
  pub after : partner_of (collect b n).1 n ≡ Some place

pub collects : (b : Board) (n : ℕ) (m : Message) → (collect b n).0 ≡ Some m → Collects b n m
collects b n m h = go (partner_of b n) refl h
  where
    go : (o : Option ℕ) → partner_of b n ≡ o → (collect_from b o).0 ≡ Some m → Collects b n m
    go None e h = absurd (cc)
    go (Some place) e h = record {
      place = place;
      partner = e;
      message = h;
      after = partner_lines b (collect b n).1 (collect_lines b n) n ∙ e;
    }

plain_got : (r : Reply) (m : Message) → is_plain r ≡ true → r ≡ reply.Got m → ⊥
plain_got r m p e = (let q : false ≡ true = sym (ap is_plain e) ∙ p in cc)

got_back : (other : Reply) (o : Option Message) (m : Message) → is_plain other ≡ true → message_or other o ≡ reply.Got m
    → o ≡ Some m
got_back other None m p e = absurd (plain_got other m p e)
got_back other (Some k) m p e = (let same : k ≡ m = (cc) in ap (λ x. Some x) same)

abbrev GotOf : List Link → List Call → Board → Option ℕ → Message → Type 0
GotOf links calls after number m = (n : ℕ) × (number ≡ Some n) × PairedWith links calls after n m

got_call : (links : List Link) (calls : List Call) (h : HubView) (rank : ℕ) (q : Request) (r : Reply) (b : Board)
    (m : Message)
    → Mail links calls h.board → Comes h rank q r b → r ≡ reply.Got m → GotOf links calls b (collecting h q) m
got_call links calls h rank q r b m mail (is_nothing p e) g = absurd (plain_got r m p g)
got_call links calls h rank q r b m mail (is_full f there e) g = absurd (cc)
got_call links calls h rank q r b m mail (is_sent sync comm dest tag bytes done asked f e) g = absurd (cc)
got_call links calls h rank q r b m mail (is_posted p none f e) g = absurd (plain_got r m f g)
got_call links calls h rank q r b m mail (is_got c n other ready asked one p f e) g =
    let t = collects c n m (got_back other (collect c n).0 m p (sym f ∙ g)) in (
      n,
      asked,
      (
        t.place,
        ap (λ (d : Board). partner_of d n) e ∙ t.after,
        mail.messages t.place m ((keeps_ready h.board c ready).messages t.place m t.message),
      ),
    )
got_call links calls h rank q r b m mail (is_gathered ns asked f e) g = absurd (cc)

-- the board after one more call
board_next : (links : List Link) (calls : List Call) (rank : ℕ) (q : Request)
    → ((outcome (hub_after links calls) rank q).1).board ≡ (hub_after links (calls ++ (rank, q) ∷ [])).board
board_next links calls rank q = ap (λ (k : HubView). k.board) (sym (hub_on-snoc calls (hub_at_start links) (rank, q)))

got_law : (links : List Link) (calls : List Call) (rank : ℕ) (q : Request) → GotIsSent links calls rank q
got_law links calls rank q m e =
    let g = got_call links calls (hub_after links calls) rank q _ _ m (mail links calls)
    (comes (hub_after links calls) rank q) e in
    (g.0, g.1, subst (λ (b : Board). PairedWith links calls b g.0 m) (board_next links calls rank q) g.2)

-- ---- what is seen and held

seen_law : (links : List Link) (calls : List Call) (rank comm : ℕ) (source tag : Option ℕ)
    → SeenIsSent links calls rank comm source tag
seen_law links calls rank comm source tag e r =
    go (partner_for (hub_after links calls).board.lines (post.Receive (selecting rank comm source tag))) refl r
  where
    found : (o : Option Envelope) → seen o ≡ reply.Seen e → o ≡ Some e
    found None r = absurd (cc)
    found (Some k) r = (let same : k ≡ e = (cc) in ap (λ x. Some x) same)

    go : (o : Option ℕ)
        → partner_for (hub_after links calls).board.lines (post.Receive (selecting rank comm source tag)) ≡ o
        → seen (envelope_at (hub_after links calls).board o) ≡ reply.Seen e
        → (place : ℕ) × (m : Message)
        × (partner_for (hub_after links calls).board.lines (post.Receive (selecting rank comm source tag)) ≡ Some place)
        × SentAt links calls place m × (m.envelope ≡ e)
    go None is r = absurd (cc)
    go (Some place) is r =
        let s = (mail links calls).envelopes place e
        (found (envelope_at (hub_after links calls).board (Some place)) r) in
        (place, s.0, is, s.1, s.2)

abbrev HeldBy : List Link → List Call → HubView → ℕ → Envelope → Board → Type 0
HeldBy links calls h number e b = (m : Message) × (number ≡ next_number h.board) × (m.envelope ≡ e)
    × PairedWith links calls b number m

-- the partner of a claim that was just posted
claim_partner : (b : Board) (a : Selection) (place : ℕ) → partner_for b.lines (post.Claim a) ≡ Some place
    → partner_of (claim_posted b a) (next_number b) ≡ Some place
claim_partner b a place is =
    ap (λ n. partner_of (claim_posted b a) n) (add-one (length b.lines))
    ∙ ap partner_of_line (add_new b.lines (post.Claim a)) ∙ is

held_call : (links : List Link) (calls : List Call) (h : HubView) (a : Selection) (number : ℕ) (e : Envelope)
    → Mail links calls h.board
    → (o : Option ℕ) → partner_for h.board.lines (post.Claim a) ≡ o
    → (claim_found h a (envelope_at h.board o)).0 ≡ reply.Held number e
    → HeldBy links calls h number e ((claim_found h a (envelope_at h.board o)).1).board
held_call links calls h a number e mail None is r = absurd (cc)
held_call links calls h a number e mail (Some place) is r = found (envelope_at h.board (Some place)) refl r
  where
    found : (o : Option Envelope) → envelope_at h.board (Some place) ≡ o → (claim_found h a o).0 ≡ reply.Held number e
        → HeldBy links calls h number e ((claim_found h a o).1).board
    found None w r = absurd (cc)
    found (Some k) w r =
        let same : k ≡ e = (cc) in
        let n : next_number h.board ≡ number = (cc) in
        let s = mail.envelopes place k w in (
          s.0,
          sym n,
          s.2 ∙ same,
          (
            place,
            ap (λ x. partner_of (claim_posted h.board a) x) (sym n) ∙ claim_partner h.board a place is,
            s.1,
          ),
        )

held_law : (links : List Link) (calls : List Call) (rank comm : ℕ) (source tag : Option ℕ)
    → HeldIsSent links calls rank (Claim comm source tag)
held_law links calls rank comm source tag number e r =
    let h = hub_after links calls in
    let a = selecting rank comm source tag in
    let t = held_call links calls h a number e (mail links calls) (partner_for h.board.lines (post.Claim a)) refl r in (
      t.0,
      t.1,
      t.2,
      subst (λ (b : Board). PairedWith links calls b number t.0)
          (board_next links calls rank (Claim comm source tag)) t.3,
    )

-- ---- what several posts gave

one_collects : (rank : ℕ) (b : Board) (n : ℕ) (m : Message) → (one_got rank b n).0 ≡ Some m → Collects b n m
one_collects rank b n m e = go (is_send_of rank (line_of b n)) e
  where
    go : (c : Bool) → (let g : Option Message × Board = cond c (None, b) (collect b n) in g.0 ≡ Some m) → Collects b n m
    go true e = absurd (cc)
    go false e = collects b n m e

pub all_length : (rank : ℕ) (ns : List ℕ) (b : Board) → length (all_got rank b ns).0 ≡ length ns
all_length rank [] b = refl
all_length rank (n ∷ ns) b = ap suc (all_length rank ns (one_got rank b n).1)

all_collects : (rank : ℕ) (ns : List ℕ) (b : Board) (i n : ℕ) (m : Message) → slice_get ns i ≡ Some n
    → slice_get (all_got rank b ns).0 i ≡ Some (Some m)
    → (place : ℕ) × (partner_of b n ≡ Some place) × (message_at b place ≡ Some m)
all_collects rank [] b i n m e g = absurd (cc)
all_collects rank (x ∷ ns) b zero n m e g =
    let same : x ≡ n = (cc) in
    let one : (one_got rank b x).0 ≡ Some m = same_Some (one_got rank b x).0 (Some m) g in
    let t = one_collects rank b x m one in
    (t.place, ap (λ y. partner_of b y) (sym same) ∙ t.partner, t.message)
all_collects rank (x ∷ ns) b (suc i) n m e g =
    let t = all_collects rank ns (one_got rank b x).1 i n m e g in (
      t.0,
      sym (partner_lines b (one_got rank b x).1 (one_lines rank b x) n)
          ∙ t.1,
      (keeps_one rank b x).messages t.0 m t.2,
    )

all_call : (h : HubView) (rank : ℕ) (ns : List ℕ) (gots : List (Option Message))
    → (outcome h rank (All ns)).0 ≡ reply.AllGot gots
    → (all_got rank h.board ns).0 ≡ gots
all_call h rank ns gots r =
    go (are_distinct ns && list_all (λ n. is_known h rank n) ns) (list_all (λ n. is_ready h rank n) ns) r
  where
    go : (c d : Bool)
        → (cond c (cond d (all_collected h (all_got rank h.board ns)) (reply.NotYet, h)) (reply.Code BadRequest, h)).0
        ≡ reply.AllGot gots
        → (all_got rank h.board ns).0 ≡ gots
    go true true r = (cc)
    go true false r = absurd (cc)
    go false d r = absurd (cc)

all_law : (links : List Link) (calls : List Call) (rank : ℕ) (numbers : List ℕ) → AllGotIsSent links calls rank numbers
all_law links calls rank ns gots r =
    let h = hub_after links calls in
    let same = all_call h rank ns gots r in (
      ap length (sym same) ∙ all_length rank ns h.board,
      λ i n m e g.
          (let t = all_collects rank ns h.board i n m e (ap (λ gs. slice_get gs i) same ∙ g) in
          (t.0, t.1, (mail links calls).messages t.0 m t.2)),
    )

pub sent_law : SentLaw
sent_law = record { got = got_law; seen = seen_law; held = held_law; all = all_law }
