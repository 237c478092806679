-- Two calls that post, of two ranks: whichever is first.
use Rattle.std.proofs.Common.{◌≡◌, ℕ, zero, suc, ◌+◌, ◌<◌, ◌⊎◌, inl, inr, List, [], ◌∷◌, length, Bool, true, false, not, Option, Some, None, refl, sym, ap, ◌∙◌, subst, arith}
use Rattle.std.specs.Prelude.{◌≢◌, ◌||◌}
use Rattle.std.specs.List.{slice_get, slice_set}
use Rattle.std.specs.Option.{is_some}
use Rattle.std.proofs.lemmas.Bool.{eqb-true}
use Rattle.std.proofs.lemmas.Option.{same_Some}
use Rattle.mp_types.specs.declared.messages.Message.{Message}
use Rattle.mp_types.specs.declared.replies.Reply.{Reply}
use Rattle.mp_types.specs.declared.replies.Reply.TheVariants as reply
use Rattle.mp_types.specs.declared.requests.Request.{Request}
use Rattle.mp_types.specs.declared.requests.Request.TheVariants.{Send, Recv, Collect, Finished, Probe, Claim, Claimed, All, Init, Cut}
use Rattle.mp_match.specs.declared.posts.Line.{Line}
use Rattle.mp_match.specs.declared.posts.Post.{Post}
use Rattle.mp_match.specs.declared.posts.Post.TheVariants as post
use Rattle.mp_match.specs.declared.posts.Selection.{Selection}
use Rattle.mp_match.specs.declared.posts.Sent.{Sent}
use Rattle.mp_match.specs.Board.{Board, board_with, message_at, without}
use Rattle.mp_match.specs.Pairs.{add, admits, may_pair, partner_for}
use Rattle.mp_match.proofs.Lines.{add_length}
use Rattle.mp_match.proofs.OrderKept.{chosen}
use Rattle.mp_match.proofs.Places.{get_front, get_within}
use Rattle.mp_hub.specs.Hub.{HubView, outcome, selecting, sending, with_board}
use Rattle.mp_wait_laws.proofs.Fresh.{Laid}
use Rattle.mp_wait_laws.proofs.Lines.{accepted, post_stays}
use Rattle.mp_wait_laws.proofs.Sets.{get-set_other}
use Rattle.mp_alike_laws.specs.Renaming.{Renaming, number_by}
use Rattle.mp_alike_laws.specs.Alike.{maker}
use Rattle.mp_source_laws.specs.Alike.{AlikeBoards, AlikeHubs, Wild}
use Rattle.mp_source_laws.specs.Laws.{AsksFrom}
use Rattle.mp_source_laws.proofs.Collecting.{without_alike}
use Rattle.mp_clash_laws.specs.Exchanges.{IsPosting, MayExchange, NoRace, WaitsWithin, behind, reply_by}
use Rattle.mp_clash_laws.proofs.Boards.{IsNoRace, IsPlain, item_at, snoc_length, two_alike}
use Rattle.mp_clash_laws.proofs.Postings.{board_at, body_of, emptied_at, emptied_lines, emptied_more, emptied_twice, message_emptied, message_more, message_of, partner_in, post_of, posted, posting, taken_of, told_at, told_of}
use Rattle.mp_clash_laws.proofs.Swaps.{at_first, at_second, below, swap}
use Rattle.mp_clash_laws.proofs.Two.{ArePair, ArentPair, HaveOwn, lines_apart, lines_pair, new_partner, other, pair_back, same_partner}

-- ---- who has which partner

pub plain : (r : ℕ) (q : Request) → IsPlain (post_of r q)
plain r (Send sync comm dest tag bytes) = tt
plain r (Recv now comm source tag) = tt
plain r (Collect n) = tt
plain r (Finished n) = tt
plain r (Probe comm source tag) = tt
plain r (Claim comm source tag) = tt
plain r (Claimed now n) = tt
plain r (All ns) = tt
plain r (Init sends comm peer tag parts size) = tt
plain r (Cut link) = tt

pub made_by : (r : ℕ) (q : Request) → IsPosting q → maker (post_of r q) ≡ r
made_by r (Send sync comm dest tag bytes) is = refl
made_by r (Recv now comm source tag) is = refl
made_by r _ is = absurd is

either_way : (p q : Post) → IsPlain p → IsPlain q → may_pair p q ≡ may_pair q p
either_way (post.Send s) (post.Send t) u v = refl
either_way (post.Send s) (post.Receive a) u v = refl
either_way (post.Receive a) (post.Send s) u v = refl
either_way (post.Receive a) (post.Receive b) u v = refl
either_way (post.Claim a) q u v = absurd u
either_way (post.Send s) (post.Claim a) u v = absurd v
either_way (post.Receive b) (post.Claim a) u v = absurd v

-- two posts are a pair of their own, or not
pub pair_or_not : (ms : List Line) (p q : Post) → IsPlain p → IsPlain q → ArePair ms p q ⊎ ArentPair ms p q
pair_or_not ms p q u v = go (partner_for ms p) refl (partner_for ms q) refl (may_pair p q) refl
  where
    go : (o : Option ℕ) → partner_for ms p ≡ o → (k : Option ℕ) → partner_for ms q ≡ k → (b : Bool) → may_pair p q ≡ b
        → ArePair ms p q ⊎ ArentPair ms p q
    go (Some i) e k f b g = inr (record { one = λ x y. absurd (cc); other = λ x y. absurd (cc) })
    go None e (Some j) f b g = inr (record { one = λ x y. absurd (cc); other = λ x y. absurd (cc) })
    go None e None f true g =
        inl (record { none = e; neither = f; one = g; other = sym (either_way p q u v) ∙ g })
    go None e None f false g =
        inr (record { one = λ x y. g; other = λ x y. sym (either_way p q u v) ∙ g })

no_race : (wild : Wild) (r s : ℕ) (q p : Request) → IsPosting q → IsPosting p → NoRace wild q p
    → IsNoRace wild (post_of r q) (post_of s p)
no_race wild r s (Send a comm dest tag bytes) (Send b from to label others) is its calm t u e f goes comms any =
    let k : sending s b from to label others ≡ t = sent e in
    let l : sending r a comm dest tag bytes ≡ u = sent f in
    calm (ap (λ (x : Sent). x.dest) l ∙ sym goes ∙ sym (ap (λ (x : Sent). x.dest) k))
    (ap (λ (x : Sent). (x.envelope).comm) l ∙ sym comms ∙ sym (ap (λ (x : Sent). (x.envelope).comm) k))
    (ap (λ (x : Sent). wild x.dest (x.envelope).comm) l ∙ sym (ap (λ d. wild d (u.envelope).comm) goes)
    ∙ sym (ap (λ c. wild t.dest c) comms) ∙ any)
  where
    sent : {x y : Sent} → post.Send x ≡ post.Send y → x ≡ y
    sent h = cc
no_race wild r s (Send a comm dest tag bytes) (Recv now from source label) is its calm t u e f goes comms any = absurd (cc)
no_race wild r s (Recv now comm source tag) p is its calm t u e f goes comms any = absurd (cc)
no_race wild r s _ p is its calm t u e f goes comms any = absurd (cc)

-- no message or receive is for both
module _ (wild : Wild) (h : HubView) (r s : ℕ) (apart : r ≢ s) (within : WaitsWithin wild h) where
  line_is : (m : Line) {p : Post} {o : Option ℕ} → m.post ≡ p → m.partner ≡ o → m ≡ record { post = p; partner = o }
  line_is m e f = λ k. record { post = e k; partner = f k }

  two_sends : (i : ℕ) (m : Line) (t u : Sent) → (t.envelope).source ≡ r → (u.envelope).source ≡ s
      → slice_get h.board.lines i ≡ Some m → m.partner ≡ None → (a : Post) → m.post ≡ a
      → may_pair (post.Send t) a ≡ true → may_pair (post.Send u) a ≡ true
      → (t.dest ≡ u.dest) × ((t.envelope).comm ≡ (u.envelope).comm) × (wild t.dest (t.envelope).comm ≡ true)
  two_sends i m t u mine yours here free (post.Send v) e x y = absurd (cc)
  two_sends i m t u mine yours here free (post.Claim a) e x y = absurd (cc)
  two_sends i m t u mine yours here free (post.Receive a) e x y =
      let f = accepted a t x in
      let g = accepted a u y in (
        f.0 ∙ sym g.0,
        f.1 ∙ sym g.1,
        any a.source refl (within i a (here ∙ ap (λ z. Some z) (line_is m e free))) f g,
      )
    where
      any : (o : Option ℕ) → a.source ≡ o → AsksFrom wild a.rank a.comm a.source
          → (t.dest ≡ a.rank) × ((t.envelope).comm ≡ a.comm) × (admits a.source (t.envelope).source ≡ true)
          → (u.dest ≡ a.rank) × ((u.envelope).comm ≡ a.comm) × (admits a.source (u.envelope).source ≡ true)
          → wild t.dest (t.envelope).comm ≡ true
      any None e may f g =
          ap (λ d. wild d (t.envelope).comm) f.0 ∙ ap (wild a.rank) f.1
          ∙ subst (λ o. AsksFrom wild a.rank a.comm o) e may
      any (Some k) e may f g =
          let source_of_t : (t.envelope).source ≡ k = eqb-true (t.envelope).source k (sym (ap (λ o. admits o (t.envelope).source) e) ∙ f.2) in
          let two : (u.envelope).source ≡ k = eqb-true (u.envelope).source k (sym (ap (λ o. admits o (u.envelope).source) e) ∙ g.2) in
          absurd (apart (sym mine ∙ source_of_t ∙ sym two ∙ yours))

  two_receives : (a b : Selection) → a.rank ≡ r → b.rank ≡ s → (c : Post) → may_pair (post.Receive a) c ≡ true
      → may_pair (post.Receive b) c ≡ true → ⊥
  two_receives a b mine yours (post.Send t) x y =
      apart (sym mine ∙ sym (accepted a t x).0 ∙ (accepted b t y).0 ∙ yours)
  two_receives a b mine yours (post.Receive c) x y = absurd (cc)
  two_receives a b mine yours (post.Claim c) x y = absurd (cc)

  send_receive : (t : Sent) (a : Selection) (c : Post) → may_pair (post.Send t) c ≡ true
      → may_pair (post.Receive a) c ≡ true → ⊥
  send_receive t a (post.Send u) x y = absurd (cc)
  send_receive t a (post.Receive c) x y = absurd (cc)
  send_receive t a (post.Claim c) x y = absurd (cc)

  pub own : (q p : Request) → IsPosting q → IsPosting p → NoRace wild q p
      → HaveOwn h.board.lines (post_of r q) (post_of s p)
  own q p is its calm i e f =
      let c = chosen h.board.lines (post_of r q) i e in
      let d = chosen h.board.lines (post_of s p) i f in
      let same : d.line ≡ c.line = same_Some d.line c.line (sym d.here ∙ c.here) in
      go q p is its calm c.line c.here c.free c.pair (subst (λ (m : Line). may_pair (post_of s p) m.post ≡ true) same d.pair)
    where
      go : (q p : Request) → IsPosting q → IsPosting p → NoRace wild q p → (m : Line)
          → slice_get h.board.lines i ≡ Some m → m.partner ≡ None → may_pair (post_of r q) m.post ≡ true
          → may_pair (post_of s p) m.post ≡ true → ⊥
      go (Send a comm dest tag bytes) (Send b from to label others) is its calm m here free x y =
          let t = two_sends i m (sending r a comm dest tag bytes) (sending s b from to label others) refl refl here free
          m.post refl x y in
          calm t.0 t.1 t.2
      go (Send a comm dest tag bytes) (Recv now from source label) is its calm m here free x y =
          send_receive (sending r a comm dest tag bytes) (selecting s from source label) m.post x y
      go (Recv now comm source tag) (Send b from to label others) is its calm m here free x y =
          send_receive (sending s b from to label others) (selecting r comm source tag) m.post y x
      go (Recv now comm source tag) (Recv then from other label) is its calm m here free x y =
          two_receives (selecting r comm source tag) (selecting s from other label) refl refl m.post x y
      go (Recv now comm source tag) _ is its calm m here free x y = absurd its
      go (Send a comm dest tag bytes) _ is its calm m here free x y = absurd its
      go _ p is its calm m here free x y = absurd is

-- ---- numbers and messages by other names

behind_number : (n : ℕ) → number_by (swap n) (n + 1 + 1) ≡ n + 1
behind_number n =
    let e : n + 1 + 1 ≡ suc (suc n) = omega arith in
    let f : suc n ≡ n + 1 = omega arith in
    ap (number_by (swap n)) e ∙ ap suc (at_second n) ∙ f

pub before_number : (n : ℕ) → number_by (swap n) (n + 1) ≡ n + 1 + 1
before_number n =
    let e : n + 1 ≡ suc n = omega arith in
    let f : suc (suc n) ≡ n + 1 + 1 = omega arith in
    ap (number_by (swap n)) e ∙ ap suc (at_first n) ∙ f

-- the same reply, one post later
told_later : (q : Request) (n : ℕ) (o : Option ℕ) (m : Option Message)
    → told_of q n o m ≡ reply_by (swap n) (told_of q (n + 1) o m)
told_later (Send sync comm dest tag bytes) n o m = ap (λ k. reply.Posted k (not sync || is_some o)) (sym (behind_number n))
told_later (Recv now comm source tag) n o None = ap (λ k. reply.Posted k false) (sym (behind_number n))
told_later (Recv now comm source tag) n o (Some m) = refl
told_later (Collect k) n o None = ap (λ k. reply.Posted k false) (sym (behind_number n))
told_later (Collect k) n o (Some m) = refl
told_later (Finished k) n o None = ap (λ k. reply.Posted k false) (sym (behind_number n))
told_later (Finished k) n o (Some m) = refl
told_later (Probe comm source tag) n o None = ap (λ k. reply.Posted k false) (sym (behind_number n))
told_later (Probe comm source tag) n o (Some m) = refl
told_later (Claim comm source tag) n o None = ap (λ k. reply.Posted k false) (sym (behind_number n))
told_later (Claim comm source tag) n o (Some m) = refl
told_later (Claimed now k) n o None = ap (λ k. reply.Posted k false) (sym (behind_number n))
told_later (Claimed now k) n o (Some m) = refl
told_later (All ns) n o None = ap (λ k. reply.Posted k false) (sym (behind_number n))
told_later (All ns) n o (Some m) = refl
told_later (Init sends comm peer tag parts size) n o None = ap (λ k. reply.Posted k false) (sym (behind_number n))
told_later (Init sends comm peer tag parts size) n o (Some m) = refl
told_later (Cut link) n o None = ap (λ k. reply.Posted k false) (sym (behind_number n))
told_later (Cut link) n o (Some m) = refl

told_sooner : (q : Request) (n : ℕ) (o : Option ℕ) (m : Option Message) → IsPosting q
    → told_of q (n + 1) o m ≡ reply_by (swap n) (told_of q n o m)
told_sooner (Send sync comm dest tag bytes) n o m is =
    ap (λ k. reply.Posted k (not sync || is_some o)) (sym (before_number n))
told_sooner (Recv now comm source tag) n o None is = ap (λ k. reply.Posted k false) (sym (before_number n))
told_sooner (Recv now comm source tag) n o (Some m) is = refl
told_sooner _ n o m is = absurd is

-- what is taken is the partner's
pub taken_is : (q : Request) (o : Option ℕ) (i : ℕ) → taken_of q o ≡ Some i → o ≡ Some i
taken_is (Recv true comm source tag) o i e = e
taken_is (Recv false comm source tag) o i e = absurd (cc)
taken_is (Send sync comm dest tag bytes) o i e = absurd (cc)
taken_is (Collect k) o i e = absurd (cc)
taken_is (Finished k) o i e = absurd (cc)
taken_is (Probe comm source tag) o i e = absurd (cc)
taken_is (Claim comm source tag) o i e = absurd (cc)
taken_is (Claimed now k) o i e = absurd (cc)
taken_is (All ns) o i e = absurd (cc)
taken_is (Init sends comm peer tag parts size) o i e = absurd (cc)
taken_is (Cut link) o i e = absurd (cc)

emptied_length : (b : Board) (o : Option ℕ) → length (emptied_at b o).bodies ≡ length b.bodies
emptied_length b None = refl
emptied_length b (Some k) = set_long b.bodies k
  where
    set_long : (xs : List (Option (List ℕ))) (k : ℕ) → length (slice_set xs k None) ≡ length xs
    set_long [] k = refl
    set_long (y ∷ xs) zero = refl
    set_long (y ∷ xs) (suc k) = ap suc (set_long xs k)

-- a message that was taken before a post
moved : (b : Board) (o : Option ℕ) (p : Post) (x : Option (List ℕ)) → ((k : ℕ) → o ≡ Some k → k < length b.bodies)
    → board_with (emptied_at b o) p x ≡ emptied_at (board_with b p x) o
moved b None p x below = refl
moved b (Some k) p x below = emptied_more b p x k (below k refl)

emptied_alike : (wild : Wild) (names : Renaming) (a b : Board) (o : Option ℕ) → ((k : ℕ) → o ≡ Some k → names.to k ≡ k)
    → AlikeBoards wild names a b → AlikeBoards wild names (emptied_at a o) (emptied_at b o)
emptied_alike wild names a b None fixed alike = alike
emptied_alike wild names a b (Some k) fixed alike =
    subst (λ j. AlikeBoards wild names (without a k) (without b j)) (fixed k refl) (without_alike names a b alike k)

-- hubs are alike where their boards are and nothing else is changed
pub hubs_of : (wild : Wild) (names : Renaming) (h : HubView) (a b : Board) → AlikeBoards wild names a b
    → AlikeHubs wild names (with_board h a) (with_board h b)
hubs_of wild names h a b alike = record {
  links = refl;
  board = alike;
  claims = refl;
  sides = λ s. refl;
  reserved = λ link. refl;
  senders = λ link. refl;
}

-- ---- two calls

module _ (wild : Wild) (h : HubView) (r s : ℕ) (q p : Request) (is : IsPosting q) (its : IsPosting p) (laid : Laid h)
    (room : length h.board.lines + 1 < 65536) (apart : r ≢ s) (calm : NoRace wild q p) where
  abbrev b : Board
  b = h.board

  abbrev n : ℕ
  n = length b.lines

  abbrev P : Post
  P = post_of r q

  abbrev Q : Post
  Q = post_of s p

  even : length b.bodies ≡ length b.lines
  even = laid.even

  -- behind the call of s alone
  abbrev b_s : Board
  b_s = board_at b s p (partner_in b s p)

  abbrev b_r : Board
  b_r = board_at b r q (partner_in b r q)

  small : length b.bodies < 65536
  small = (let e = even in omega (arith, e, room))

  pub first_s : outcome h s p ≡ (told_at b s p (partner_in b s p), with_board h b_s)
  first_s = posting h s p its small

  pub first_r : outcome h r q ≡ (told_at b r q (partner_in b r q), with_board h b_r)
  first_r = posting h r q is small

  long_bodies : (c : Board) (u : ℕ) (t : Request) (o : Option ℕ) → length c.bodies ≡ length b.bodies
      → length (board_at c u t o).bodies ≡ length b.bodies + 1
  long_bodies c u t o same =
      let e = emptied_length (posted c u t) (taken_of t o) in
      let f = snoc_length c.bodies (body_of t) in
      omega (arith, e, f, same)

  -- behind both
  pub second_r : outcome (outcome h s p).1 r q
      ≡ (told_at b_s r q (partner_in b_s r q), with_board h (board_at b_s r q (partner_in b_s r q)))
  second_r =
      ap (λ (o : Reply × HubView). outcome o.1 r q) first_s
      ∙ posting (with_board h b_s) r q is
      (let e = long_bodies b s p (partner_in b s p) refl in let f = even in omega (arith, e, f, room))

  pub second_s : outcome (outcome h r q).1 s p
      ≡ (told_at b_r s p (partner_in b_r s p), with_board h (board_at b_r s p (partner_in b_r s p)))
  second_s =
      ap (λ (o : Reply × HubView). outcome o.1 s p) first_r
      ∙ posting (with_board h b_r) s p its
      (let e = long_bodies b r q (partner_in b r q) refl in let f = even in omega (arith, e, f, room))

  lines_s : b_s.lines ≡ add b.lines Q
  lines_s = emptied_lines (posted b s p) (taken_of p (partner_in b s p))

  lines_r : b_r.lines ≡ add b.lines P
  lines_r = emptied_lines (posted b r q) (taken_of q (partner_in b r q))

  makers : maker P ≢ maker Q
  makers e = apart (sym (made_by r q is) ∙ e ∙ made_by s p its)

  -- a partner's place is an old one
  found_below : (ps : Post) (k : ℕ) → partner_for b.lines ps ≡ Some k → k < n
  found_below ps k e = (let c = chosen b.lines ps k e in get_within b.lines k c.line c.here)

  -- ---- where they are no pair

  module _ (own_partner : HaveOwn b.lines P Q) (none : ArentPair b.lines P Q) where
    mine_same : partner_in b_s r q ≡ partner_in b r q
    mine_same = ap (λ ms. partner_for ms P) lines_s ∙ same_partner b.lines P Q own_partner none

    theirs_same : partner_in b_r s p ≡ partner_in b s p
    theirs_same =
        ap (λ ms. partner_for ms Q) lines_r
        ∙ same_partner b.lines Q P (λ i e f. own_partner i f e) (record { one = λ x y. none.other y x; other = λ x y. none.one y x })

    -- the message that a call takes at once is the same behind the other's
    same_message : (u v : ℕ) (t w : Request)
        → ((k : ℕ) → taken_of t (partner_in b u t) ≡ Some k → taken_of w (partner_in b v w) ≡ Some k → ⊥)
        → message_of (posted (board_at b v w (partner_in b v w)) u t) (taken_of t (partner_in b u t))
        ≡ message_of (posted b u t) (taken_of t (partner_in b u t))
    same_message u v t w other' = go (taken_of t (partner_in b u t)) refl
      where
        c : Board
        c = board_at b v w (partner_in b v w)

        go : (o : Option ℕ) → taken_of t (partner_in b u t) ≡ o → message_of (posted c u t) o ≡ message_of (posted b u t) o
        go None e = refl
        go (Some i) e =
            let d = chosen b.lines (post_of u t) i (taken_is t (partner_in b u t) i e) in
            let below' = get_within b.lines i d.line d.here in
            let y = item_at b.bodies i (let f = even in omega (arith, f, below')) in
            before d.line d.here y.0 y.1 (taken_of w (partner_in b v w)) refl
            ∙ sym (message_more b (post_of u t) (body_of t) i d.line y.0 d.here y.1)
          where
            before : (line : Line) → slice_get b.lines i ≡ Some line → (y : Option (List ℕ))
                → slice_get b.bodies i ≡ Some y → (k : Option ℕ) → taken_of w (partner_in b v w) ≡ k
                → message_at (posted (emptied_at (posted b v w) k) u t) i ≡ message_at b i
            before line here y there k f = step k f
              where
                stays : (m : Line) × (slice_get (add b.lines (post_of v w)) i ≡ Some m) × (m.post ≡ line.post)
                stays = post_stays b.lines (post_of v w) i line here

                body : slice_get (posted b v w).bodies i ≡ Some y
                body = get_front b.bodies (body_of w ∷ []) i y there

                first : message_at (posted b v w) i ≡ message_at b i
                first = message_more b (post_of v w) (body_of w) i line y here there

                step : (k : Option ℕ) → taken_of w (partner_in b v w) ≡ k
                    → message_at (posted (emptied_at (posted b v w) k) u t) i ≡ message_at b i
                step None f =
                    message_more (posted b v w) (post_of u t) (body_of t) i stays.0 y stays.1 body ∙ first
                step (Some j) f =
                    message_more (without (posted b v w) j) (post_of u t) (body_of t) i stays.0 y stays.1
                    (get-set_other (posted b v w).bodies j i None elsewhere ∙ body)
                    ∙ message_emptied (posted b v w) i j elsewhere ∙ first
                  where
                    elsewhere : j ≢ i
                    elsewhere same = other' i e (f ∙ ap (λ z. Some z) same)

    long_s : length b_s.lines ≡ n + 1
    long_s = ap length lines_s ∙ add_length b.lines Q

    long_r : length b_r.lines ≡ n + 1
    long_r = ap length lines_r ∙ add_length b.lines P

    never_both : (k : ℕ) → taken_of q (partner_in b r q) ≡ Some k → taken_of p (partner_in b s p) ≡ Some k → ⊥
    never_both k e f = own_partner k (taken_is q (partner_in b r q) k e) (taken_is p (partner_in b s p) k f)

    told_behind : told_at b_s r q (partner_in b_s r q)
        ≡ told_of q (n + 1) (partner_in b r q) (message_of (posted b r q) (taken_of q (partner_in b r q)))
    told_behind =
        ap (told_at b_s r q) mine_same
        ∙ ap (λ k. told_of q k (partner_in b r q) (message_of (posted b_s r q) (taken_of q (partner_in b r q)))) long_s
        ∙ ap (told_of q (n + 1) (partner_in b r q)) (same_message r s q p never_both)

    told_theirs : told_at b_r s p (partner_in b_r s p)
        ≡ told_of p (n + 1) (partner_in b s p) (message_of (posted b s p) (taken_of p (partner_in b s p)))
    told_theirs =
        ap (told_at b_r s p) theirs_same
        ∙ ap (λ k. told_of p k (partner_in b s p) (message_of (posted b_r s p) (taken_of p (partner_in b s p)))) long_r
        ∙ ap (told_of p (n + 1) (partner_in b s p)) (same_message s r p q (λ k e f. never_both k f e))

    -- both boards, with what is taken taken last
    abbrev boards_q : Option ℕ
    boards_q = taken_of q (partner_in b r q)

    abbrev boards_p : Option ℕ
    boards_p = taken_of p (partner_in b s p)

    old_place : (k : ℕ) → k < n → k < length (posted b s p).bodies
    old_place k below' = (let e = snoc_length b.bodies (body_of p) in let f = even in omega (arith, e, f, below'))

    old_too : (k : ℕ) → k < n → k < length (posted b r q).bodies
    old_too k below' = (let e = snoc_length b.bodies (body_of q) in let f = even in omega (arith, e, f, below'))

    below_q : (k : ℕ) → boards_q ≡ Some k → k < n
    below_q k e = found_below P k (taken_is q (partner_in b r q) k e)

    below_p : (k : ℕ) → boards_p ≡ Some k → k < n
    below_p k e = found_below Q k (taken_is p (partner_in b s p) k e)

    end_sr : board_at b_s r q (partner_in b_s r q)
        ≡ emptied_at (emptied_at (board_with (posted b s p) P (body_of q)) boards_p) boards_q
    end_sr =
        ap (board_at b_s r q) mine_same
        ∙ ap (λ c. emptied_at c boards_q)
        (moved (posted b s p) boards_p P (body_of q) (λ k e. old_place k (below_p k e)))

    end_rs : board_at b_r s p (partner_in b_r s p)
        ≡ emptied_at (emptied_at (board_with (posted b r q) Q (body_of p)) boards_p) boards_q
    end_rs =
        ap (board_at b_r s p) theirs_same
        ∙ ap (λ c. emptied_at c boards_p)
        (moved (posted b r q) boards_q Q (body_of p) (λ k e. old_too k (below_q k e)))
        ∙ emptied_twice (board_with (posted b r q) Q (body_of p)) boards_q boards_p

    both_boards : AlikeBoards wild (swap n) (board_at b_s r q (partner_in b_s r q)) (board_at b_r s p (partner_in b_r s p))
    both_boards =
        subst (λ c. AlikeBoards wild (swap n) c (board_at b_r s p (partner_in b_r s p))) (sym end_sr)
        (subst (λ c. AlikeBoards wild (swap n)
        (emptied_at (emptied_at (board_with (posted b s p) P (body_of q)) boards_p) boards_q) c) (sym end_rs)
        (emptied_alike wild (swap n) _ _ boards_q (λ k e. below n k (below_q k e))
        (emptied_alike wild (swap n) _ _ boards_p (λ k e. below n k (below_p k e))
        (two_alike wild b P Q (body_of q) (body_of p) laid.good even (plain r q) (plain s p) makers
        (no_race wild r s q p is its calm) (lines_apart b.lines P Q laid.good own_partner none)))))

    pub exchange_apart : MayExchange wild h r q s p
    exchange_apart = record {
      names = swap n;
      old = λ place h. below n place h;
      told = record {
        mine = ap (λ (o : Reply × HubView). o.0) first_r
            ∙ told_later q n (partner_in b r q) (message_of (posted b r q) (taken_of q (partner_in b r q)))
            ∙ ap (reply_by (swap n)) (sym (ap (λ (o : Reply × HubView). o.0) second_r ∙ told_behind));
        theirs = ap (λ (o : Reply × HubView). o.0) second_s ∙ told_theirs
            ∙ told_sooner p n (partner_in b s p) (message_of (posted b s p) (taken_of p (partner_in b s p))) its
            ∙ ap (reply_by (swap n)) (sym (ap (λ (o : Reply × HubView). o.0) first_s));
      };
      hubs = subst (λ k. AlikeHubs wild (swap n) k (behind h r q s p)) (sym (ap (λ (o : Reply × HubView). o.1) second_r))
          (subst (λ k. AlikeHubs wild (swap n) (with_board h (board_at b_s r q (partner_in b_s r q))) k)
          (sym (ap (λ (o : Reply × HubView). o.1) second_s))
          (hubs_of wild (swap n) h _ _ both_boards));
    }

  -- ---- where they are a pair

  module _ (pair : ArePair b.lines P Q) where
    pub mine_pair : partner_in b_s r q ≡ Some n
    mine_pair = ap (λ ms. partner_for ms P) lines_s ∙ new_partner b.lines P Q pair

    pub theirs_pair : partner_in b_r s p ≡ Some n
    theirs_pair = ap (λ ms. partner_for ms Q) lines_r ∙ new_partner b.lines Q P (pair_back b.lines P Q pair)

    pub paired_boards : AlikeBoards wild (swap n) (board_with (posted b s p) P (body_of q)) (board_with (posted b r q) Q (body_of p))
    paired_boards =
        two_alike wild b P Q (body_of q) (body_of p) laid.good even (plain r q) (plain s p) makers
        (no_race wild r s q p is its calm) (lines_pair b.lines P Q laid.good pair)

    -- neither takes a message at once, and neither is told of a partner
    module _ (none : (o : Option ℕ) → taken_of q o ≡ None) (neither : (o : Option ℕ) → taken_of p o ≡ None)
        (same : (k : ℕ) → told_of q k (Some n) None ≡ told_of q k None None)
        (also : (k : ℕ) → told_of p k (Some n) None ≡ told_of p k None None) where
      b_s_is : b_s ≡ posted b s p
      b_s_is = ap (emptied_at (posted b s p)) (neither (partner_in b s p))

      b_r_is : b_r ≡ posted b r q
      b_r_is = ap (emptied_at (posted b r q)) (none (partner_in b r q))

      told_first : (c : Board) (u : ℕ) (t : Request) (o : Option ℕ) → ((o : Option ℕ) → taken_of t o ≡ None)
          → told_at c u t o ≡ told_of t (length c.lines) o None
      told_first c u t o no_message =
          ap (λ k. told_of t (length c.lines) o (message_of (posted c u t) k)) (no_message o)

      pub exchange_paired : MayExchange wild h r q s p
      exchange_paired = record {
        names = swap n;
        old = λ place h. below n place h;
        told = record {
          mine = ap (λ (o : Reply × HubView). o.0) first_r ∙ told_first b r q (partner_in b r q) none
              ∙ ap (λ o. told_of q n o None) pair.none ∙ told_later q n None None
              ∙ ap (reply_by (swap n))
              (sym (ap (λ (o : Reply × HubView). o.0) second_r ∙ told_first b_s r q (partner_in b_s r q) none
              ∙ ap (λ o. told_of q (length b_s.lines) o None) mine_pair
              ∙ same (length b_s.lines)
              ∙ ap (λ k. told_of q k None None) (ap length lines_s ∙ add_length b.lines Q)));
          theirs = ap (λ (o : Reply × HubView). o.0) second_s ∙ told_first b_r s p (partner_in b_r s p) neither
              ∙ ap (λ o. told_of p (length b_r.lines) o None) theirs_pair
              ∙ also (length b_r.lines)
              ∙ ap (λ k. told_of p k None None) (ap length lines_r ∙ add_length b.lines P)
              ∙ told_sooner p n None None its
              ∙ ap (reply_by (swap n))
              (sym (ap (λ (o : Reply × HubView). o.0) first_s ∙ told_first b s p (partner_in b s p) neither
              ∙ ap (λ o. told_of p n o None) pair.neither));
        };
        hubs = subst (λ k. AlikeHubs wild (swap n) k (behind h r q s p)) (sym (ap (λ (o : Reply × HubView). o.1) second_r))
            (subst (λ k. AlikeHubs wild (swap n) (with_board h (board_at b_s r q (partner_in b_s r q))) k)
            (sym (ap (λ (o : Reply × HubView). o.1) second_s))
            (hubs_of wild (swap n) h _ _
            (subst (λ c. AlikeBoards wild (swap n) c (board_at b_r s p (partner_in b_r s p)))
            (sym (ap (emptied_at (posted b_s r q)) (none (partner_in b_s r q)) ∙ ap (λ c. posted c r q) b_s_is))
            (subst (λ c. AlikeBoards wild (swap n) (board_with (posted b s p) P (body_of q)) c)
            (sym (ap (emptied_at (posted b_r s p)) (neither (partner_in b_r s p)) ∙ ap (λ c. posted c s p) b_r_is))
            paired_boards))));
      }
