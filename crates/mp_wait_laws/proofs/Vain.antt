-- A call is answered NotYet exactly where it is told so without making it.
use Rattle.std.proofs.Common.{◌≡◌, ◌↔◌, ℕ, suc, List, Bool, true, false, cond, not, Option, Some, None, refl, ap, ◌∙◌, subst}
use Rattle.std.specs.Prelude.{◌&&◌}
use Rattle.std.specs.List.{list_all}
use Rattle.std.specs.Option.{is_some}
use Rattle.std.proofs.lemmas.Bool.{and_from, and_parts, cond-true, cond-false}
use Rattle.rv_image_types.specs.declared.images.Link.{Link}
use Rattle.mp_types.specs.declared.messages.Envelope.{Envelope}
use Rattle.mp_types.specs.declared.codes.Code.TheVariants.{BadRequest}
use Rattle.mp_types.specs.declared.replies.Reply.{Reply}
use Rattle.mp_types.specs.declared.replies.Reply.TheVariants as reply
use Rattle.mp_types.specs.declared.requests.Request.{Request}
use Rattle.mp_types.specs.declared.requests.Request.TheVariants.{Send, Recv, Collect, Finished, Probe, Claim, Claimed, All, Init, Cut}
use Rattle.mp_match.specs.declared.posts.Post.TheVariants as post
use Rattle.mp_match.specs.Pairs.{partner_of_line}
use Rattle.mp_match.specs.Board.{collect, collect_from, is_send_of, line_of, partner_of, probed}
use Rattle.mp_probe.specs.Claims.{handle_if, next_number}
use Rattle.mp_transfers.specs.declared.sides.Side.{Side}
use Rattle.mp_transfers.specs.Inits.{is_receiver, sender_over}
use Rattle.mp_hub.specs.Hub.{Call, HubView, all_collected, all_got, are_distinct, cut_of, got_or, held, hub_after, is_complete, is_known, is_ready, may_collect, reply_of, seen, selecting}
use Rattle.mp_hub.specs.Replies.{IsReplyTo}
use Rattle.mp_hub.specs.Vain.{asks_in_vain}
use Rattle.mp_hub.proofs.Owners.{replies_law}
use Rattle.mp_wait_laws.specs.Laws.{VainLaw}
use Rattle.mp_wait_laws.proofs.Collects.{no_message_from}
use Rattle.mp_wait_laws.proofs.Moves.{all}
use Rattle.mp_wait_laws.proofs.Waits.{laid_after}

-- the reply of one outcome or the other
told_first : (b : Bool) (x y : Reply × HubView) → b ≡ true → (cond b x y).0 ≡ x.0
told_first b x y its = ap (λ (o : Reply × HubView). o.0) (cond-true b x y its)

told_second : (b : Bool) (x y : Reply × HubView) → b ≡ false → (cond b x y).0 ≡ y.0
told_second b x y its = ap (λ (o : Reply × HubView). o.0) (cond-false b x y its)

-- what is refused with a code isn't answered NotYet
not_refused : (b : Bool) (x : Reply × HubView) (h : HubView) → (cond b x (reply.Code BadRequest, h)).0 ≡ reply.NotYet
    → b ≡ true
not_refused true x h answer = refl
not_refused false x h answer = absurd (cc)

none_is : {X : Type 0} (o : Option X) → not (is_some o) ≡ true → o ≡ None
none_is None its = refl
none_is (Some x) its = absurd (cc)

none_some : {X : Type 0} (o : Option X) → o ≡ None → not (is_some o) ≡ true
none_some o its = ap (λ x. not (is_some x)) its

seen_none : (o : Option Envelope) → (not (is_some o) ≡ true) ↔ (seen o ≡ reply.NotYet)
seen_none None = (λ its. refl, λ answer. refl)
seen_none (Some e) = (λ its. absurd (cc), λ answer. absurd (cc))

held_none : (n : ℕ) (o : Option Envelope) → (not (is_some o) ≡ true) ↔ (held (handle_if n o) ≡ reply.NotYet)
held_none n None = (λ its. refl, λ answer. refl)
held_none n (Some e) = (λ its. absurd (cc), λ answer. absurd (cc))

cut_none : (o : Option Side) → (not (is_some o) ≡ true) ↔ (cut_of o ≡ reply.NotYet)
cut_none None = (λ its. refl, λ answer. refl)
cut_none (Some t) = (λ its. absurd (cc), λ answer. absurd (cc))

done_not : (b : Bool) → (not b ≡ true) ↔ (cond b reply.Done reply.NotYet ≡ reply.NotYet)
done_not true = (λ its. absurd (cc), λ answer. absurd (cc))
done_not false = (λ its. refl, λ answer. refl)

-- both, or just the second where the first decides whether the call is refused
behind : (b c : Bool) (x h : HubView) (a : Reply) → ((c ≡ true) ↔ (a ≡ reply.NotYet))
    → ((b && c) ≡ true)
    ↔ ((let o : Reply × HubView = cond b (a, x) (reply.Code BadRequest, h) in o.0) ≡ reply.NotYet)
behind true c x h a both = both
behind false c x h a both = (λ its. absurd (cc), λ answer. absurd (cc))

module _ (links : List Link) (calls : List Call) (rank : ℕ) where
  abbrev h : HubView
  h = hub_after links calls

  abbrev Vain : Request → Type 0
  Vain q = asks_in_vain h rank q ≡ true

  abbrev Answered : Request → Type 0
  Answered q = reply_of links calls rank q ≡ reply.NotYet

  -- the hub gives no such reply
  never : (q : Request) → (IsReplyTo q reply.NotYet → ⊥) → (false ≡ true) ↔ Answered q
  never q none = (
    λ its. absurd (cc),
    λ answer. absurd (none (subst (λ a. IsReplyTo q a) answer (replies_law links calls rank q))),
  )

  uncollected : (n : ℕ) → Vain (Collect n) → Answered (Collect n)
  uncollected n its =
      let parts = and_parts (may_collect h rank n) (not (is_some (partner_of h.board n))) its in
      told_first (may_collect h rank n) (got_or h reply.NotYet (collect h.board n)) (reply.Code BadRequest, h) parts.0
      ∙ ap (λ (o : Option ℕ). (got_or h reply.NotYet (collect_from h.board o)).0)
      (none_is (partner_of h.board n) parts.1)

  -- what has a partner would be got, since a partner is a send whose message is held
  alone : (n : ℕ) → Answered (Collect n) → Vain (Collect n)
  alone n answer =
      let m = no_message_from all (λ j. true) h rank n (laid_after links calls).good answer (λ j could. refl) in
      let free : partner_of h.board (suc m.0) ≡ None = ap partner_of_line (m.2).here ∙ (m.2).free in
      and_from _ _ (not_refused (may_collect h rank n) _ h answer)
      (none_some (partner_of h.board n) (ap (partner_of h.board) m.1 ∙ free))

  abbrev Told : List ℕ → Bool → Bool → Reply × HubView
  Told ns b c =
      cond b (cond c (all_collected h (all_got rank h.board ns)) (reply.NotYet, h)) (reply.Code BadRequest, h)

  several : (ns : List ℕ) → Vain (All ns) ↔ Answered (All ns)
  several ns =
      go (are_distinct ns && list_all (λ n. is_known h rank n) ns) (list_all (λ n. is_ready h rank n) ns)
    where
      go : (b c : Bool) → ((b && not c) ≡ true) ↔ ((Told ns b c).0 ≡ reply.NotYet)
      go true true = (λ its. absurd (cc), λ answer. absurd (cc))
      go true false = (λ its. refl, λ answer. refl)
      go false c = (λ its. absurd (cc), λ answer. absurd (cc))

pub vain_law : VainLaw
vain_law links calls rank (Collect n) = (uncollected links calls rank n, alone links calls rank n)
vain_law links calls rank (Finished n) =
    behind (is_send_of rank (line_of (hub_after links calls).board n)) (not (is_complete (hub_after links calls) n))
    (hub_after links calls) (hub_after links calls)
    (cond (is_complete (hub_after links calls) n) reply.Done reply.NotYet)
    (done_not (is_complete (hub_after links calls) n))
vain_law links calls rank (Probe comm source tag) =
    seen_none (probed (hub_after links calls).board (post.Receive (selecting rank comm source tag)))
vain_law links calls rank (Claim comm source tag) =
    held_none (next_number (hub_after links calls).board)
    (probed (hub_after links calls).board (post.Claim (selecting rank comm source tag)))
vain_law links calls rank (All ns) = several links calls rank ns
vain_law links calls rank (Cut link) =
    behind (is_receiver (hub_after links calls).links rank link)
    (not (is_some (sender_over (hub_after links calls).sides link))) (hub_after links calls) (hub_after links calls)
    (cut_of (sender_over (hub_after links calls).sides link))
    (cut_none (sender_over (hub_after links calls).sides link))
vain_law links calls rank (Send sync comm dest tag bytes) =
    never links calls rank (Send sync comm dest tag bytes) (λ none. none)
vain_law links calls rank (Recv now comm source tag) = never links calls rank (Recv now comm source tag) (λ none. none)
vain_law links calls rank (Claimed now n) = never links calls rank (Claimed now n) (λ none. none)
vain_law links calls rank (Init sends comm peer tag parts size) =
    never links calls rank (Init sends comm peer tag parts size) (λ none. none)
