-- A receive that is posted before its message is sent collects it behind the send.
use Rattle.std.proofs.Common.{◌≡◌, ℕ, suc, ◌+◌, ◌<◌, ◌⊎◌, inl, inr, List, length, true, false, not, Option, Some, None, refl, sym, ap, ◌∙◌, subst, arith, add-one}
use Rattle.std.specs.Prelude.{◌≢◌}
use Rattle.std.specs.List.{slice_get}
use Rattle.std.proofs.lemmas.Bool.{and_from, cond-true, eq-eqb, false_from_ne_true, not_from_false}
use Rattle.mp_types.specs.declared.codes.Code.TheVariants.{BadRequest}
use Rattle.mp_types.specs.declared.messages.Message.{Message}
use Rattle.mp_types.specs.declared.replies.Reply.{Reply}
use Rattle.mp_types.specs.declared.replies.Reply.TheVariants as reply
use Rattle.mp_types.specs.declared.requests.Request.{Request}
use Rattle.mp_types.specs.declared.requests.Request.TheVariants.{Send, Recv, Collect}
use Rattle.mp_match.specs.declared.posts.Post.{Post}
use Rattle.mp_match.specs.Board.{Board, board_with, collect, collect_from, envelope_in, is_gone, is_held, is_receive_of, message_at, message_in, without}
use Rattle.mp_match.specs.Pairs.{partner_for, partner_of_line}
use Rattle.mp_match.proofs.Lines.{add_given, add_length, add_new}
use Rattle.mp_match.proofs.Places.{get_within}
use Rattle.mp_hub.specs.Hub.{HubView, got_or, hub_after, may_collect, message_or, outcome, selecting, sending, with_board}
use Rattle.mp_probe.specs.Claims.{is_waiting}
use Rattle.mp_wait_laws.proofs.Fresh.{Laid}
use Rattle.mp_wait_laws.proofs.Lines.{accepted}
use Rattle.mp_wait_laws.proofs.Owned.{somebody's}
use Rattle.mp_wait_laws.proofs.Waits.{laid_after}
use Rattle.mp_source_laws.specs.Alike.{AlikeBoards, AlikeHubs, Wild}
use Rattle.mp_source_laws.proofs.Collecting.{without_alike}
use Rattle.mp_clash_laws.specs.Exchanges.{CollectsLater, IsPosting, MayExchange, NoRace, NoSync, WaitsWithin, behind, reply_by}
use Rattle.mp_clash_laws.specs.Laws.{PostsLaw}
use Rattle.mp_clash_laws.proofs.Boards.{first_of, last_of}
use Rattle.mp_clash_laws.proofs.Calls.{before_number, exchange_apart, exchange_paired, first_r, first_s, hubs_of, mine_pair, own, pair_or_not, paired_boards, plain, second_r, second_s}
use Rattle.mp_clash_laws.proofs.Postings.{board_at, emptied_at, post_of, posted, told_at}
use Rattle.mp_clash_laws.proofs.Swaps.{at_first, below, swap}
use Rattle.mp_clash_laws.proofs.Two.{ArePair, last_other, new_line, new_partner, other, pair_there}

-- no message waits under the number of the next post
no_claim_yet : (h : HubView) → Laid h → is_waiting h.claims (suc (length h.board.lines)) ≡ false
no_claim_yet h laid = false_from_ne_true (is_waiting h.claims (suc (length h.board.lines))) (λ waits.
    let s = somebody's h.claims (suc (length h.board.lines)) waits in
    let c = laid.owned s.0 (suc (length h.board.lines)) s.1 in
    let below = get_within h.board.lines c.place c.line c.here in
    let e = c.numbered in
    absurd (omega (arith, below, e)))

module _ (wild : Wild) (h : HubView) (r s comm : ℕ) (source tag : Option ℕ) (from to label : ℕ) (bytes : List ℕ)
    (laid : Laid h) (room : length h.board.lines + 1 < 65536) (apart : r ≢ s) where
  abbrev q : Request
  q = Recv true comm source tag

  abbrev p : Request
  p = Send false from to label bytes

  abbrev b : Board
  b = h.board

  abbrev n : ℕ
  n = length b.lines

  abbrev P : Post
  P = post_of r q

  abbrev Q : Post
  Q = post_of s p

  abbrev sent : Message
  sent = record { envelope = record { comm = from; source = s; tag = label; count = length bytes }; bytes = bytes }

  module _ (pair : ArePair b.lines P Q) where
    -- the send first, and the receive first
    abbrev A : Board
    A = board_with (posted b s p) P None

    abbrev B : Board
    B = board_with (posted b r q) Q (Some bytes)

    sent_a : message_at A n ≡ Some sent
    sent_a =
        ap (λ o. message_in (envelope_in o) (slice_get A.bodies n))
        (add_given (posted b s p).lines P n (new_line Q (partner_for b.lines Q)) (add_new b.lines Q)
        (new_partner b.lines P Q pair))
        ∙ ap (message_in (Some (sent.envelope)))
        (subst (λ k. slice_get A.bodies k ≡ Some (Some bytes)) laid.even (first_of b.bodies (Some bytes) None (Some bytes) None))

    body_b : slice_get B.bodies (suc n) ≡ Some (Some bytes)
    body_b =
        subst (λ k. slice_get B.bodies (suc k) ≡ Some (Some bytes)) laid.even (last_of b.bodies None (Some bytes) None (Some bytes))

    sent_b : message_at B (suc n) ≡ Some sent
    sent_b =
        ap (λ o. message_in (envelope_in o) (slice_get B.bodies (suc n))) (last_other b.lines P Q laid.good)
        ∙ ap (message_in (Some (sent.envelope))) body_b

    first_two : outcome (outcome h s p).1 r q ≡ (reply.Got sent, with_board h (without A n))
    first_two =
        second_r wild h r s q p tt tt laid room apart tt
        ∙ ap (λ o. (let x : Reply × HubView = (told_at (posted b s p) r q o, with_board h (board_at (posted b s p) r q o)) in x))
        (mine_pair wild h r s q p tt tt laid room apart tt pair)
        ∙ ap (λ m. (let x : Reply × HubView =
        (message_or (reply.Posted (length (posted b s p).lines + 1) false) m, with_board h (without A n)) in x)) sent_a

    posted_first : outcome h r q ≡ (reply.Posted (n + 1) false, with_board h (posted b r q))
    posted_first =
        first_r wild h r s q p tt tt laid room apart tt
        ∙ ap (λ o. (let x : Reply × HubView = (told_at b r q o, with_board h (board_at b r q o)) in x)) pair.none

    then_sent : outcome (outcome h r q).1 s p ≡ (reply.Posted (n + 1 + 1) true, with_board h B)
    then_sent =
        second_s wild h r s q p tt tt laid room apart tt
        ∙ ap (λ o. (let c : Board = emptied_at (posted b r q) o in
        let x : Reply × HubView = (reply.Posted (length c.lines + 1) true, with_board h (posted c s p)) in x)) pair.none
        ∙ ap (λ k. (let x : Reply × HubView = (reply.Posted (k + 1) true, with_board h B) in x)) (add_length b.lines P)

    there : slice_get B.lines n ≡ Some (record { post = P; partner = Some (suc n) })
    there = pair_there b.lines P Q laid.good pair

    may : may_collect (with_board h B) r (suc n) ≡ true
    may =
        and_from _ _
        (and_from _ _ (ap (is_receive_of r) there ∙ eq-eqb r r refl) (not_from_false _ (no_claim_yet h laid)))
        (ap (λ o. not (is_gone B (partner_of_line o))) there ∙ ap (λ o. not (not (is_held o))) body_b)

    collected : outcome (with_board h B) r (Collect (suc n)) ≡ (reply.Got sent, with_board h (without B (suc n)))
    collected =
        cond-true (may_collect (with_board h B) r (suc n)) (got_or (with_board h B) reply.NotYet (collect B (suc n)))
        (reply.Code BadRequest, with_board h B) may
        ∙ ap (λ o. got_or (with_board h B) reply.NotYet (collect_from B (partner_of_line o))) there
        ∙ ap (λ m. (let x : Reply × HubView = (message_or reply.NotYet m, with_board h (without B (suc n))) in x)) sent_b

    then_collected : outcome (behind h r q s p) r (Collect (n + 1)) ≡ (reply.Got sent, with_board h (without B (suc n)))
    then_collected =
        ap (λ (o : Reply × HubView). outcome o.1 r (Collect (n + 1))) then_sent
        ∙ ap (λ k. outcome (with_board h B) r (Collect k)) (add-one n) ∙ collected

    pub collects_later : CollectsLater wild h r q s p
    collects_later = record {
      names = swap n;
      old = λ place h. below n place h;
      comm = comm;
      source = source;
      tag = tag;
      asks = refl;
      message = sent;
      at_once = ap (λ (o : Reply × HubView). o.0) first_two;
      posted = ap (λ (o : Reply × HubView). o.0) posted_first;
      theirs = ap (λ (o : Reply × HubView). o.0) then_sent ∙ ap (λ k. reply.Posted k true) (sym (before_number n))
          ∙ ap (reply_by (swap n))
          (sym (ap (λ (o : Reply × HubView). o.0) (first_s wild h r s q p tt tt laid room apart tt)));
      later = ap (λ (o : Reply × HubView). o.0) then_collected;
      hubs = subst (λ k. AlikeHubs wild (swap n) k (outcome (behind h r q s p) r (Collect (n + 1))).1)
          (sym (ap (λ (o : Reply × HubView). o.1) first_two))
          (subst (λ k. AlikeHubs wild (swap n) (with_board h (without A n)) k)
          (sym (ap (λ (o : Reply × HubView). o.1) then_collected))
          (hubs_of wild (swap n) h (without A n) (without B (suc n))
          (subst (λ k. AlikeBoards wild (swap n) (without A n) (without B k)) (at_first n)
          (without_alike (swap n) A B (paired_boards wild h r s q p tt tt laid room apart tt pair) n))));
    }

-- ---- all pairs of calls that post

abbrev Comes : Wild → HubView → ℕ → Request → ℕ → Request → Type 0
Comes wild h r q s p = MayExchange wild h r q s p ⊎ (CollectsLater wild h r q s p ⊎ CollectsLater wild h s p r q)

module _ (wild : Wild) (h : HubView) (r s : ℕ) (laid : Laid h) (room : length h.board.lines + 1 < 65536) (apart : r ≢ s) where
  back : s ≢ r
  back e = apart (sym e)

  pair_back : (q p : Request) → ArePair h.board.lines (post_of r q) (post_of s p)
      → ArePair h.board.lines (post_of s p) (post_of r q)
  pair_back q p f = record { none = f.neither; neither = f.none; one = f.other; other = f.one }

  paired : (q p : Request) → IsPosting q → IsPosting p → NoSync r q s p
      → ArePair h.board.lines (post_of r q) (post_of s p)
      → Comes wild h r q s p
  paired (Send a comm dest tag bytes) (Send c from to label others) is its sync pair = (let e = pair.one in absurd (cc))
  paired (Recv now comm source tag) (Recv then from other label) is its sync pair = (let e = pair.one in absurd (cc))
  paired (Recv true comm source tag) (Send false from to label bytes) is its sync pair =
      inr (inl (collects_later wild h r s comm source tag from to label bytes laid room apart pair))
  paired (Recv false comm source tag) (Send false from to label bytes) is its sync pair =
      inl (exchange_paired wild h r s (Recv false comm source tag) (Send false from to label bytes) tt tt laid room apart tt
      pair (λ o. refl) (λ o. refl) (λ k. refl) (λ k. refl))
  paired (Recv now comm source tag) (Send true from to label bytes) is its sync pair =
      absurd (sync (accepted (selecting r comm source tag) (sending s true from to label bytes) pair.one).0)
  paired (Send false from to label bytes) (Recv true comm source tag) is its sync pair =
      inr (inr (collects_later wild h s r comm source tag from to label bytes laid room back
      (pair_back (Send false from to label bytes) (Recv true comm source tag) pair)))
  paired (Send false from to label bytes) (Recv false comm source tag) is its sync pair =
      inl (exchange_paired wild h r s (Send false from to label bytes) (Recv false comm source tag) tt tt laid room apart tt
      pair (λ o. refl) (λ o. refl) (λ k. refl) (λ k. refl))
  paired (Send true from to label bytes) (Recv now comm source tag) is its sync pair =
      absurd (sync (accepted (selecting s comm source tag) (sending r true from to label bytes) pair.other).0)
  paired (Send a from to label bytes) _ is its sync pair = absurd its
  paired (Recv now comm source tag) _ is its sync pair = absurd its
  paired _ p is its sync pair = absurd is

  pub comes : (q p : Request) → IsPosting q → IsPosting p → WaitsWithin wild h → NoRace wild q p → NoSync r q s p
      → Comes wild h r q s p
  comes q p is its within calm sync =
      elim (pair_or_not h.board.lines (post_of r q) (post_of s p) (plain r q) (plain s p)) [
        | inl pair ↦ paired q p is its sync pair
        | inr none ↦
            inl (exchange_apart wild h r s q p is its laid room apart calm (own wild h r s apart within q p is its calm) none)
      ]

pub posts_law : PostsLaw
posts_law wild links calls r s q p apart is its room within calm sync =
    comes wild (hub_after links calls) r s (laid_after links calls) room apart q p is its within calm sync
