-- What holds after all calls holds if each call keeps it; and the posts of the board are those that the calls made.
use Rattle.std.proofs.Common.{◌≡◌, ℕ, suc, ◌+◌, List, [], ◌∷◌, ◌++◌, length, Bool, true, false, cond, Option, Some, None, refl, sym, ap, ◌∙◌, subst, append_assoc, append-nil}
use Rattle.std.specs.Prelude.{nat_lt, ◌&&◌}
use Rattle.std.specs.List.{list_all}
use Rattle.rv_image_types.specs.declared.images.Link.{Link}
use Rattle.mp_types.specs.declared.messages.Envelope.{Envelope}
use Rattle.mp_types.specs.declared.messages.Message.{Message}
use Rattle.mp_types.specs.declared.codes.Code.TheVariants.{BadRequest, BadMessage, Full, Shape}
use Rattle.mp_types.specs.declared.replies.Reply.{Reply}
use Rattle.mp_types.specs.declared.replies.Reply.TheVariants as reply
use Rattle.mp_types.specs.declared.requests.Request.{Request}
use Rattle.mp_types.specs.declared.requests.Request.TheVariants.{Send, Recv, Collect, Finished, Probe, Claim, Claimed, All, Init, Cut}
use Rattle.mp_match.specs.declared.posts.Post.TheVariants as post
use Rattle.mp_match.specs.declared.posts.Line.{Line}
use Rattle.mp_match.specs.PostPairs.{pairs, pairs_on, posts_of}
use Rattle.mp_match.specs.Board.{collect, receive_posted, send_posted, held_count, probed, is_send_of, line_of}
use Rattle.mp_match.proofs.OrderKept.{posts_pairs, pairs_more}
use Rattle.mp_probe.specs.Claims.{next_number, may_receive, without_claim}
use Rattle.mp_transfers.specs.declared.sides.Setup.{Setup}
use Rattle.mp_transfers.specs.declared.sides.Side.{Side}
use Rattle.mp_transfers.specs.Inits.{peer_of, lowest_link, same_total, sender_over, is_receiver}
use Rattle.mp_hub.specs.Hub.{HubView, Call, outcome, message_or, got_or, claim_found, claimed_now, is_complete, may_collect, init_with, init_first, cut_of, setup_of, side_added, all_got, all_collected, are_distinct, is_known, is_ready, sending, selecting, with_board, with_claims, is_done, hub_after, reply_of, hub_at_start}
use Rattle.mp_hub.specs.Histories.{each_behind, post_made, posts_after, number_after}
use Rattle.mp_hub.specs.Posts.{PostsLaw}
use Rattle.mp_hub.proofs.CallsSoFar.{hub_on-snoc}
use Rattle.mp_hub.proofs.BoardKept.{collect_lines, all_lines}

-- ---- one call after others

each_snoc : {A : Type 0} (adds : List Call → Call → List A) (calls before : List Call) (c : Call)
    → each_behind adds before (calls ++ c ∷ []) ≡ each_behind adds before calls ++ adds (before ++ calls) c
each_snoc adds [] before c = append-nil (adds before c) ∙ ap (λ cs. adds cs c) (sym (append-nil before))
each_snoc adds (x ∷ calls) before c =
    ap (λ xs. adds before x ++ xs) (each_snoc adds calls (before ++ x ∷ []) c)
    ∙ sym (append_assoc (adds before x) (each_behind adds (before ++ x ∷ []) calls)
    (adds ((before ++ x ∷ []) ++ calls) c))
    ∙ ap (λ cs. (adds before x ++ each_behind adds (before ++ x ∷ []) calls) ++ adds cs c)
    (append_assoc before (x ∷ []) calls)

pub each_more : {A : Type 0} (adds : List Call → Call → List A) (calls : List Call) (c : Call)
    → each_behind adds [] (calls ++ c ∷ []) ≡ each_behind adds [] calls ++ adds calls c
each_more adds calls c = each_snoc adds calls [] c

-- what holds of no calls, and of one more where it holds of some, holds of all
pub call_by_call : (P : List Call → Type 0) → P [] → ((calls : List Call) (c : Call) → P calls → P (calls ++ c ∷ []))
    → (calls : List Call) → P calls
call_by_call P none more calls = on calls [] none
  where
    on : (rest calls : List Call) → P calls → P (calls ++ rest)
    on [] calls p = subst P (sym (append-nil calls)) p
    on (c ∷ rest) calls p =
        subst P (append_assoc calls (c ∷ []) rest) (on rest (calls ++ c ∷ []) (more calls c p))

pub hub_more : (links : List Link) (calls : List Call) (c : Call)
    → hub_after links (calls ++ c ∷ []) ≡ (outcome (hub_after links calls) c.0 c.1).1
hub_more links calls c = hub_on-snoc calls (hub_at_start links) c

-- ---- the post that a call makes

abbrev Adds : HubView → ℕ → Request → Reply × HubView → Type 0
Adds h rank q o = (o.1).board.lines ≡ pairs_on h.board.lines (post_made rank q o.0)

either : (h : HubView) (rank : ℕ) (q : Request) (c : Bool) (x y : Reply × HubView) → Adds h rank q x → Adds h rank q y
    → Adds h rank q (cond c x y)
either h rank q true x y p n = p
either h rank q false x y p n = n

adds : (h : HubView) (rank : ℕ) (q : Request) → Adds h rank q (outcome h rank q)
adds h rank (Send sync comm dest tag bytes) =
    either h rank (Send sync comm dest tag bytes) (nat_lt (held_count h.board.bodies) 65536) (
      reply.Posted (next_number h.board) (is_done h.board (sending rank sync comm dest tag bytes)),
      with_board h (send_posted h.board (sending rank sync comm dest tag bytes) bytes),
    )
    (reply.Code Full, h) refl refl
adds h rank (Recv true comm source tag) =
    collect_lines (receive_posted h.board (selecting rank comm source tag)) (next_number h.board)
adds h rank (Recv false comm source tag) = refl
adds h rank (Collect n) =
    either h rank (Collect n) (may_collect h rank n) (got_or h reply.NotYet (collect h.board n))
    (reply.Code BadRequest, h) (collect_lines h.board n) refl
adds h rank (Finished n) =
    either h rank (Finished n) (is_send_of rank (line_of h.board n)) (cond (is_complete h n) reply.Done reply.NotYet, h)
    (reply.Code BadRequest, h) refl refl
adds h rank (Probe comm source tag) = refl
adds h rank (Claim comm source tag) = go (probed h.board (post.Claim (selecting rank comm source tag)))
  where
    go : (o : Option Envelope)
        → Adds h rank (Claim comm source tag) (claim_found h (selecting rank comm source tag) o)
    go None = refl
    go (Some e) = refl
adds h rank (Claimed now n) =
    either h rank (Claimed now n) (may_receive h.claims rank n)
    (claimed_now (with_claims h (without_claim h.claims rank n)) now n) (reply.Code BadMessage, h) (go now) refl
  where
    go : (now : Bool) → Adds h rank (Claimed now n) (claimed_now (with_claims h (without_claim h.claims rank n)) now n)
    go true = collect_lines h.board n
    go false = refl
adds h rank (All ns) =
    either h rank (All ns) (are_distinct ns && list_all (λ n. is_known h rank n) ns)
    (cond (list_all (λ n. is_ready h rank n) ns) (all_collected h (all_got rank h.board ns)) (reply.NotYet, h))
    (reply.Code BadRequest, h)
    (either h rank (All ns) (list_all (λ n. is_ready h rank n) ns) (all_collected h (all_got rank h.board ns))
    (reply.NotYet, h) (all_lines rank ns h.board) refl)
    refl
adds h rank (Init sends comm peer tag parts size) =
    go (setup_of rank sends comm peer tag parts size) (peer_of h.sides (setup_of rank sends comm peer tag parts size))
  where
    first : (s : Setup) (o : Option ℕ) → Adds h rank (Init sends comm peer tag parts size) (init_first h s o)
    first s None = refl
    first s (Some k) = refl

    go : (s : Setup) (o : Option Side) → Adds h rank (Init sends comm peer tag parts size) (init_with h s o)
    go s None = first s (lowest_link h.links h.sides s)
    go s (Some t) =
        either h rank (Init sends comm peer tag parts size) (same_total s t.setup) (side_added h s t.link)
        (reply.Code Shape, h) refl refl
adds h rank (Cut link) =
    either h rank (Cut link) (is_receiver h.links rank link) (cut_of (sender_over h.sides link), h)
    (reply.Code BadRequest, h) refl refl

pub posts_are : (links : List Link) (calls : List Call)
    → (hub_after links calls).board.lines ≡ pairs (posts_after links calls)
posts_are links =
    call_by_call (λ calls. (hub_after links calls).board.lines ≡ pairs (posts_after links calls)) refl more
  where
    more : (calls : List Call) (c : Call) → (hub_after links calls).board.lines ≡ pairs (posts_after links calls)
        → (hub_after links (calls ++ c ∷ [])).board.lines ≡ pairs (posts_after links (calls ++ c ∷ []))
    more calls c before =
        let made = post_made c.0 c.1 (reply_of links calls c.0 c.1) in
        ap (λ (h : HubView). h.board.lines) (hub_more links calls c)
        ∙ adds (hub_after links calls) c.0 c.1
        ∙ ap (λ ms. pairs_on ms made) before
        ∙ sym (pairs_more (posts_after links calls) made [])
        ∙ ap pairs (sym (each_more (λ before c. post_made c.0 c.1 (reply_of links before c.0 c.1)) calls c))

pub lines_posts : (links : List Link) (calls : List Call)
    → posts_of (hub_after links calls).board.lines ≡ posts_after links calls
lines_posts links calls = ap posts_of (posts_are links calls) ∙ posts_pairs (posts_after links calls)

posts_length : (ms : List Line) → length (posts_of ms) ≡ length ms
posts_length [] = refl
posts_length (m ∷ ms) = ap suc (posts_length ms)

pub number_is : (links : List Link) (calls : List Call)
    → next_number (hub_after links calls).board ≡ number_after links calls
number_is links calls =
    ap (λ n. n + 1)
    (sym (posts_length (hub_after links calls).board.lines) ∙ ap length (lines_posts links calls))

-- ---- numbers

abbrev number_told : Reply → ℕ → ℕ
number_told (reply.Posted number done) other = number
number_told (reply.Held number e) other = number
number_told r other = other

told : (r : Reply) (n : ℕ) → (number_told r n ≡ n) → (number : ℕ) (done : Bool) → r ≡ reply.Posted number done
    → number ≡ n
told r n same number done e = ap (λ x. number_told x n) (sym e) ∙ same

send_told : (h : HubView) (rank : ℕ) (sync : Bool) (comm dest tag : ℕ) (bytes : List ℕ) (number : ℕ) (done : Bool)
    → (outcome h rank (Send sync comm dest tag bytes)).0 ≡ reply.Posted number done → number ≡ next_number h.board
send_told h rank sync comm dest tag bytes number done =
    go (nat_lt (held_count h.board.bodies) 65536)
    (is_done h.board (sending rank sync comm dest tag bytes))
    (with_board h (send_posted h.board (sending rank sync comm dest tag bytes) bytes))
  where
    go : (c d : Bool) (k : HubView)
        → (let o : Reply × HubView = cond c (reply.Posted (next_number h.board) d, k) (reply.Code Full, h) in
        o.0 ≡ reply.Posted number done) → number ≡ next_number h.board
    go true d k e = told (reply.Posted (next_number h.board) d) (next_number h.board) refl number done e
    go false d k e = absurd (cc)

receive_told : (h : HubView) (rank : ℕ) (now : Bool) (comm : ℕ) (source tag : Option ℕ) (number : ℕ) (done : Bool)
    → (outcome h rank (Recv now comm source tag)).0 ≡ reply.Posted number done → number ≡ next_number h.board
receive_told h rank true comm source tag number done e =
    go (collect (receive_posted h.board (selecting rank comm source tag)) (next_number h.board)).0 e
  where
    go : (o : Option Message) → message_or (reply.Posted (next_number h.board) false) o ≡ reply.Posted number done
        → number ≡ next_number h.board
    go None e = told (reply.Posted (next_number h.board) false) (next_number h.board) refl number done e
    go (Some m) e = absurd (cc)
receive_told h rank false comm source tag number done e =
    told (reply.Posted (next_number h.board) false) (next_number h.board) refl number done e

claim_told : (h : HubView) (rank comm : ℕ) (source tag : Option ℕ) (number : ℕ) (e : Envelope)
    → (outcome h rank (Claim comm source tag)).0 ≡ reply.Held number e → number ≡ next_number h.board
claim_told h rank comm source tag number e r = go (probed h.board (post.Claim (selecting rank comm source tag))) r
  where
    go : (o : Option Envelope) → (claim_found h (selecting rank comm source tag) o).0 ≡ reply.Held number e
        → number ≡ next_number h.board
    go None r = absurd (cc)
    go (Some k) r = ap (λ x. number_told x number) (sym r)

pub posts_law : PostsLaw
posts_law = record {
  board = posts_are;
  sends = λ links calls rank sync comm dest tag bytes number done e.
      send_told (hub_after links calls) rank sync comm dest tag bytes number done e ∙ number_is links calls;
  receives = λ links calls rank now comm source tag number done e.
      receive_told (hub_after links calls) rank now comm source tag number done e ∙ number_is links calls;
  claims = λ links calls rank comm source tag number e r.
      claim_told (hub_after links calls) rank comm source tag number e r ∙ number_is links calls;
}
