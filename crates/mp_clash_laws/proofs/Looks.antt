-- An unsuccessful poll stays unsuccessful behind a send to a third rank, and one for a message behind any receive of
-- another rank too.
use Rattle.std.proofs.Common.{◌≡◌, ℕ, zero, suc, ◌+◌, ◌⊎◌, inl, inr, List, [], ◌∷◌, Bool, true, false, cond, Option, Some, None, refl, sym, ap, ◌∙◌, subst}
use Rattle.std.specs.Prelude.{◌≢◌, ◌&&◌, nat_lt}
use Rattle.std.specs.List.{list_all, position_from, slice_get}
use Rattle.std.proofs.lemmas.Bool.{and_left, and_right, cases_Bool, cond-false, false_from_ne_true}
use Rattle.mp_types.specs.declared.codes.Code.TheVariants.{BadRequest, Full}
use Rattle.mp_types.specs.declared.replies.Reply.{Reply}
use Rattle.mp_types.specs.declared.replies.Reply.TheVariants as reply
use Rattle.mp_types.specs.declared.requests.Request.{Request}
use Rattle.mp_types.specs.declared.requests.Request.TheVariants.{Send, Recv, Collect, Finished, Probe, All}
use Rattle.mp_match.specs.declared.posts.Line.{Line}
use Rattle.mp_match.specs.declared.posts.Post.{Post}
use Rattle.mp_match.specs.declared.posts.Post.TheVariants as post
use Rattle.mp_match.specs.declared.posts.Selection.{Selection}
use Rattle.mp_match.specs.declared.posts.Sent.{Sent}
use Rattle.mp_match.specs.Board.{collect, held_count, is_send_of, line_of, receive_posted, send_posted}
use Rattle.mp_match.specs.Pairs.{add, fits, is_free, may_pair, partner_for}
use Rattle.mp_match.proofs.Lines.{Look, is_given, is_new, is_old, look}
use Rattle.mp_match.proofs.OrderKept.{Takes}
use Rattle.mp_match.proofs.Places.{found_none}
use Rattle.mp_probe.specs.Claims.{is_waiting, may_receive, next_number}
use Rattle.mp_hub.specs.Hub.{HubView, all_collected, all_got, are_distinct, hub_after, is_done, is_known, is_ready, outcome, selecting, sending, with_board}
use Rattle.mp_hub.proofs.BoardKept.{collect_lines}
use Rattle.mp_wait_laws.specs.Waits.{IsUpTo}
use Rattle.mp_wait_laws.proofs.Collects.{NoMessage}
use Rattle.mp_wait_laws.proofs.Fresh.{Laid, fresh_stays}
use Rattle.mp_wait_laws.proofs.Lines.{accepted, free_stays, paired_stays}
use Rattle.mp_wait_laws.proofs.Moves.{all, got_hub}
use Rattle.mp_wait_laws.proofs.Probes.{NothingSent}
use Rattle.mp_wait_laws.proofs.Sends.{Open, Unmatched, alone, claimed}
use Rattle.mp_wait_laws.proofs.Several.{Known, Missing, OneMissing, sends, takes}
use Rattle.mp_wait_laws.proofs.Waits.{Waits, laid_after, waits_answer, waits_from}
use Rattle.mp_clash_laws.specs.Exchanges.{BringsNothing, IsLook, IsPosting}
use Rattle.mp_clash_laws.specs.Laws.{VainLookLaw}
use Rattle.mp_clash_laws.proofs.Calls.{made_by}
use Rattle.mp_clash_laws.proofs.Postings.{post_of}
use Rattle.mp_clash_laws.proofs.Refused.{no_send, same_at, sends_by, sends_it}

-- it doesn't matter here who could bring what isn't there
abbrev anybody : ℕ → Bool
anybody k = true

-- ---- what a call that posts does

-- no post more, or this one, and the same messages are claimed
record Adds (p : Post) (h k : HubView) : Type 0 where
  lines : (k.board.lines ≡ h.board.lines) ⊎ (k.board.lines ≡ add h.board.lines p)
  claims : k.claims ≡ h.claims

adds_if : (p : Post) (h : HubView) (b : Bool) (x y : Reply × HubView) → Adds p h x.1 → Adds p h y.1
    → Adds p h (cond b x y).1
adds_if p h true x y one other = one
adds_if p h false x y one other = other

adds : (h : HubView) (r : ℕ) (q : Request) → IsPosting q → Adds (post_of r q) h (outcome h r q).1
adds h r (Send sync comm dest tag bytes) is =
    let s = sending r sync comm dest tag bytes in
    adds_if (post.Send s) h (nat_lt (held_count h.board.bodies) 65536)
    (reply.Posted (next_number h.board) (is_done h.board s), with_board h (send_posted h.board s bytes))
    (reply.Code Full, h) (record { lines = inr refl; claims = refl }) (record { lines = inl refl; claims = refl })
adds h r (Recv true comm source tag) is =
    let a = selecting r comm source tag in
    let b = receive_posted h.board a in
    subst (Adds (post.Receive a) h)
    (sym (got_hub h (reply.Posted (next_number h.board) false) (collect b (next_number h.board))))
    (record { lines = inr (collect_lines b (next_number h.board)); claims = refl })
adds h r (Recv false comm source tag) is = record { lines = inr refl; claims = refl }
adds h r _ is = absurd is

-- ---- what isn't there behind a post that doesn't bring it

none_found : {A : Type 0} (t : A → Bool) (k : ℕ) (xs : List A)
    → ((i : ℕ) (x : A) → slice_get xs i ≡ Some x → t x ≡ false) → position_from t k xs ≡ None
none_found t k [] each = refl
none_found t k (x ∷ xs) each =
    cond-false (t x) _ _ (each 0 x refl) ∙ none_found t (k + 1) xs (λ i y h. each (suc i) y h)

module _ (p : Post) (h k : HubView) (added : Adds p h k) where
  free_line : (i : ℕ) (m : Line) → slice_get h.board.lines i ≡ Some m → (may_pair p m.post ≡ true → ⊥)
      → slice_get k.board.lines i ≡ Some m
  free_line i m here apart = go added.lines
    where
      go : (k.board.lines ≡ h.board.lines) ⊎ (k.board.lines ≡ add h.board.lines p)
          → slice_get k.board.lines i ≡ Some m
      go (inl same) = ap (λ ms. slice_get ms i) same ∙ here
      go (inr more) = ap (λ ms. slice_get ms i) more ∙ free_stays h.board.lines p i m here apart

  paired_line : (i j : ℕ) (m : Line) → slice_get h.board.lines i ≡ Some m → m.partner ≡ Some j
      → slice_get k.board.lines i ≡ Some m
  paired_line i j m here paired = go added.lines
    where
      go : (k.board.lines ≡ h.board.lines) ⊎ (k.board.lines ≡ add h.board.lines p)
          → slice_get k.board.lines i ≡ Some m
      go (inl same) = ap (λ ms. slice_get ms i) same ∙ here
      go (inr more) = ap (λ ms. slice_get ms i) more ∙ paired_stays h.board.lines p i j m here paired

  no_message : (s place : ℕ)
      → ((a : Selection) (z : Post) → a.rank ≡ s → Takes z a → may_pair p z ≡ true → ⊥)
      → NoMessage all anybody h s place → NoMessage all anybody k s place
  no_message s place apart n = record {
    line = n.line;
    here = free_line place n.line n.here (apart n.what (n.line).post n.mine n.takes);
    what = n.what;
    takes = n.takes;
    mine = n.mine;
    free = n.free;
    idle = ap (λ ws. is_waiting ws (suc place)) added.claims ∙ n.idle;
    only = n.only;
  }

  unmatched : (s place : ℕ) → ((t : Sent) → may_pair p (post.Send t) ≡ true → ⊥)
      → Unmatched all anybody h s place → Unmatched all anybody k s place
  unmatched s place apart n = record {
    line = n.line;
    here = here n.open_still;
    what = n.what;
    sends = n.sends;
    mine = n.mine;
    sync = n.sync;
    open_still = still n.open_still;
    only = n.only;
  }
    where
      here : Open h n.line n.what → slice_get k.board.lines place ≡ Some n.line
      here (alone none) =
          free_line place n.line n.here
          (λ pair. apart n.what (subst (λ (z : Post). may_pair p z ≡ true) n.sends pair))
      here (claimed j i x a partner there is back may) = paired_line place j n.line n.here partner

      still : Open h n.line n.what → Open k n.line n.what
      still (alone none) = alone none
      still (claimed j i x a partner there is back may) =
          claimed j i x a partner (paired_line j i x there back) is back
          (ap (λ ws. may_receive ws (n.what).dest (j + 1)) added.claims ∙ may)

  send_same : (s : ℕ) → sends_it s p ≡ false → (number : ℕ)
      → is_send_of s (line_of k.board number) ≡ is_send_of s (line_of h.board number)
  send_same s others zero = refl
  send_same s others (suc i) = go added.lines
    where
      go : (k.board.lines ≡ h.board.lines) ⊎ (k.board.lines ≡ add h.board.lines p)
          → is_send_of s (slice_get k.board.lines i) ≡ is_send_of s (slice_get h.board.lines i)
      go (inl same) = ap (λ ms. is_send_of s (slice_get ms i)) same
      go (inr more) =
          ap (λ ms. is_send_of s (slice_get ms i)) more
          ∙ same_at s (is_send_of s) (sends_it s) (sends_by s) refl h.board.lines p others i

  nothing_sent : (w : Post) → (may_pair w p ≡ true → ⊥)
      → NothingSent all anybody h.board.lines w → NothingSent all anybody k.board.lines w
  nothing_sent w apart n = record { what = n.what; takes = n.takes; none = go added.lines; only = n.only }
    where
      unfit : (i : ℕ) (m : Line) → Look h.board.lines p i m → fits w m ≡ false
      unfit i m (is_new end is) =
          ap (fits w) is
          ∙ and_right (is_free (partner_for h.board.lines p)) (may_pair w p) (false_from_ne_true (may_pair w p) apart)
      unfit i m (is_old here) = found_none (fits w) 0 h.board.lines n.none i m here
      unfit i m (is_given x here found is) = ap (fits w) is ∙ and_left false (may_pair w x.post) refl

      go : (k.board.lines ≡ h.board.lines) ⊎ (k.board.lines ≡ add h.board.lines p) → partner_for k.board.lines w ≡ None
      go (inl same) = ap (λ ms. partner_for ms w) same ∙ n.none
      go (inr more) =
          ap (λ ms. partner_for ms w) more
          ∙ none_found (fits w) 0 (add h.board.lines p) (λ i m here. unfit i m (look h.board.lines p i m here))

-- ---- which posts bring nothing

-- a send to another rank is received by none of this rank's receives
send_apart : (t : Sent) (s : ℕ) → t.dest ≢ s → (a : Selection) (z : Post) → a.rank ≡ s → Takes z a
    → may_pair (post.Send t) z ≡ true → ⊥
send_apart t s other a z mine (inl is) pair =
    other ((accepted a t (subst (λ (y : Post). may_pair (post.Send t) y ≡ true) is pair)).0 ∙ mine)
send_apart t s other a z mine (inr is) pair =
    (let f : may_pair (post.Send t) (post.Claim a) ≡ true = subst (λ (y : Post). may_pair (post.Send t) y ≡ true) is
    pair in absurd (cc))

-- no receive has another receive as its partner
receive_apart : (b : Selection) (a : Selection) (z : Post) → Takes z a → may_pair (post.Receive b) z ≡ true → ⊥
receive_apart b a z (inl is) pair =
    (let f : may_pair (post.Receive b) (post.Receive a) ≡ true = subst
    (λ (y : Post). may_pair (post.Receive b) y ≡ true) is pair in absurd (cc))
receive_apart b a z (inr is) pair =
    (let f : may_pair (post.Receive b) (post.Claim a) ≡ true = subst
    (λ (y : Post). may_pair (post.Receive b) y ≡ true) is pair in absurd (cc))

-- ---- a look behind such a call

module _ (h : HubView) (r s : ℕ) (apart : r ≢ s) (laid : Laid h) where
  known : (q : Request) → IsPosting q → (number : ℕ) → Known h s number → Known (outcome h r q).1 s number
  known q is number (sends its) =
      let added = adds h r q is in
      sends (send_same (post_of r q) h (outcome h r q).1 added s (no_send s r (post_of r q) apart (made_by r q is)) number
      ∙ its)
  known q is number (takes place e f idle) =
      let added = adds h r q is in
      takes place e (fresh_stays s r place apart h q laid f)
      (ap (λ ws. is_waiting ws (suc place)) added.claims ∙ idle)

  module _ (sync : Bool) (comm dest tag : ℕ) (bytes : List ℕ) (other : dest ≢ s) where
    abbrev q : Request
    q = Send sync comm dest tag bytes

    abbrev t : Sent
    t = sending r sync comm dest tag bytes

    abbrev k : HubView
    k = (outcome h r q).1

    added : Adds (post.Send t) h k
    added = adds h r q tt

    message_missing : (place : ℕ) → NoMessage all anybody h s place → NoMessage all anybody k s place
    message_missing place n = no_message (post.Send t) h k added s place (send_apart t s other) n

    receive_missing : (place : ℕ) → Unmatched all anybody h s place → Unmatched all anybody k s place
    receive_missing place n = unmatched (post.Send t) h k added s place (λ u pair. absurd (cc)) n

    missing : (place : ℕ) → Missing all anybody h s place → Missing all anybody k s place
    missing place (inl n) = inl (message_missing place n)
    missing place (inr n) = inr (receive_missing place n)

    behind_send : (x : Request) → IsLook x → Waits all anybody h s x → Waits all anybody k s x
    behind_send (Collect n) looks w = (w.0, w.1, message_missing w.0 w.2)
    behind_send (Finished n) looks w = (w.0, w.1, receive_missing w.0 w.2)
    behind_send (Probe in_comm source label) looks w =
        nothing_sent (post.Send t) h k added (post.Receive (selecting s in_comm source label))
        (λ pair. other (accepted (selecting s in_comm source label) t pair).0) w
    behind_send (All ns) looks w = record {
      distinct = w.distinct;
      known = λ i n here. known q tt n (w.known i n here);
      at = w.at;
      place = w.place;
      here = w.here;
      missing = missing w.place w.missing;
    }
    behind_send _ looks w = absurd looks

  module _ (now : Bool) (comm : ℕ) (source tag : Option ℕ) where
    abbrev asks : Request
    asks = Recv now comm source tag

    abbrev b : Selection
    b = selecting r comm source tag

    abbrev then : HubView
    then = (outcome h r asks).1

    behind_receive : (x : Request) → BringsNothing asks s x → Waits all anybody h s x → Waits all anybody then s x
    behind_receive (Collect n) brings w = (
      w.0,
      w.1,
      no_message (post.Receive b) h then (adds h r asks tt) s w.0
          (λ a z mine takes pair. receive_apart b a z takes pair) w.2,
    )
    behind_receive (Probe in_comm from label) brings w =
        nothing_sent (post.Receive b) h then (adds h r asks tt) (post.Receive (selecting s in_comm from label))
        (λ pair. absurd (cc)) w
    behind_receive _ brings w = absurd brings

  stays : (q x : Request) → IsLook x → BringsNothing q s x → Waits all anybody h s x
      → Waits all anybody (outcome h r q).1 s x
  stays (Send sync comm dest tag bytes) x looks brings w = behind_send sync comm dest tag bytes brings x looks w
  stays (Recv now comm source tag) x looks brings w = behind_receive now comm source tag x brings w
  stays _ x looks brings w = absurd brings

-- ---- what isn't there

one_off : (t : ℕ → Bool) (ns : List ℕ) → list_all t ns ≡ false
    → (i : ℕ) × (n : ℕ) × (slice_get ns i ≡ Some n) × (t n ≡ false)
one_off t [] off = absurd (cc)
one_off t (n ∷ ns) off = elim (cases_Bool (t n)) [
  | inl on ↦ (let o = one_off t ns (sym (ap (λ b. b && list_all t ns) on) ∙ off) in (suc o.0, o.1, o.2, o.3))
  | inr this ↦ (0, n, refl, this)
]

-- of several posts that aren't there one isn't ready
one_missing : (h : HubView) (s : ℕ) (ns : List ℕ) → (outcome h s (All ns)).0 ≡ reply.NotYet
    → OneMissing all anybody h s ns
one_missing h s ns answer =
    go (are_distinct ns && list_all (λ n. is_known h s n) ns) (list_all (λ n. is_ready h s n) ns) refl answer
  where
    go : (b c : Bool) → list_all (λ n. is_ready h s n) ns ≡ c
        → (cond b (cond c (all_collected h (all_got s h.board ns)) (reply.NotYet, h)) (reply.Code BadRequest, h)).0
        ≡ reply.NotYet
        → OneMissing all anybody h s ns
    go true false off told =
        (let o = one_off (λ n. is_ready h s n) ns off in (o.0, o.1, o.2, o.3, λ k could. refl))
    go true true off told = absurd (cc)
    go false c off told = absurd (cc)

up_to : (h : HubView) (s : ℕ) (x : Request) → IsLook x → (outcome h s x).0 ≡ reply.NotYet → IsUpTo all anybody h s x
up_to h s (Collect n) looks answer = λ k could. refl
up_to h s (Finished n) looks answer = λ k could. refl
up_to h s (Probe comm source tag) looks answer = λ k could. refl
up_to h s (All ns) looks answer = one_missing h s ns answer
up_to h s _ looks answer = absurd looks

pub vain_look_law : VainLookLaw
vain_look_law links calls r s q x apart posts looks brings answer =
    let h = hub_after links calls in
    let laid = laid_after links calls in
    let w = waits_from all anybody h s x laid answer (up_to h s x looks answer) in (
      waits_answer all anybody h s x w,
      waits_answer all anybody (outcome h r q).1 s x (stays h r s apart laid q x looks brings w),
    )
