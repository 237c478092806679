-- A call that asks in vain is answered NotYet, and leaves the hub as it was.
use Rattle.std.proofs.Common.{◌≡◌, ℕ, Bool, true, false, cond, not, Option, Some, None, refl, ap, ◌∙◌, sym, List, [], ◌∷◌, ◌++◌}
use Rattle.std.specs.Prelude.{◌&&◌}
use Rattle.std.specs.List.{list_all}
use Rattle.std.specs.Option.{is_some}
use Rattle.std.proofs.lemmas.Bool.{and_parts, cond-true}
use Rattle.rv_image_types.specs.declared.images.Link.{Link}
use Rattle.mp_types.specs.declared.messages.Envelope.{Envelope}
use Rattle.mp_types.specs.declared.codes.Code.TheVariants.{BadRequest}
use Rattle.mp_types.specs.declared.replies.Reply.{Reply}
use Rattle.mp_types.specs.declared.replies.Reply.TheVariants as reply
use Rattle.mp_types.specs.declared.requests.Request.{Request}
use Rattle.mp_types.specs.declared.requests.Request.TheVariants.{Send, Recv, Collect, Finished, Probe, Claim, Claimed, All, Init, Cut}
use Rattle.mp_match.specs.declared.posts.Post.TheVariants as post
use Rattle.mp_match.specs.Board.{collect, collect_from, is_send_of, line_of, partner_of, probed}
use Rattle.mp_transfers.specs.declared.sides.Side.{Side}
use Rattle.mp_transfers.specs.Inits.{is_receiver, sender_over}
use Rattle.mp_hub.specs.Hub.{Call, HubView, all_collected, all_got, are_distinct, claim_found, cut_of, got_or, hub_at_start, is_complete, is_known, is_ready, may_collect, outcome, reply_of, seen, selecting}
use Rattle.mp_hub.specs.Outcomes.{StandsFor}
use Rattle.mp_hub.proofs.CallsSoFar.{hub_on-snoc}
use Rattle.mp_hub.specs.Vain.{asks_in_vain}

none_is : {X : Type 0} (o : Option X) → not (is_some o) ≡ true → o ≡ None
none_is None its = refl
none_is (Some x) its = absurd (cc)

abbrev InVain : HubView → ℕ → Request → Type 0
InVain h rank q = outcome h rank q ≡ (reply.NotYet, h)

several : (b c : Bool) (x : Reply × HubView) (h : HubView) (r : Reply) → (b && not c) ≡ true
    → cond b (cond c x (reply.NotYet, h)) (r, h) ≡ (reply.NotYet, h)
several true true x h r its = absurd (cc)
several true false x h r its = refl
several false c x h r its = absurd (cc)

unfinished : (b c : Bool) (h : HubView) → (b && not c) ≡ true
    → (let o : Reply × HubView = cond b (cond c reply.Done reply.NotYet, h) (reply.Code BadRequest, h) in o)
    ≡ (reply.NotYet, h)
unfinished true true h its = absurd (cc)
unfinished true false h its = refl
unfinished false c h its = absurd (cc)

-- any hub, not only one that stands for calls
pub in_vain : (h : HubView) (rank : ℕ) (q : Request) → asks_in_vain h rank q ≡ true → InVain h rank q
in_vain h rank (Collect n) its =
    let parts = and_parts (may_collect h rank n) (not (is_some (partner_of h.board n))) its in
    cond-true (may_collect h rank n) (got_or h reply.NotYet (collect h.board n)) (reply.Code BadRequest, h) parts.0
    ∙ ap (λ (o : Option ℕ). got_or h reply.NotYet (collect_from h.board o)) (none_is (partner_of h.board n) parts.1)
in_vain h rank (Finished n) its =
    unfinished (is_send_of rank (line_of h.board n)) (is_complete h n) h its
in_vain h rank (Probe comm source tag) its =
    let a = selecting rank comm source tag in
    ap (λ (o : Option Envelope). (seen o, h)) (none_is (probed h.board (post.Receive a)) its)
in_vain h rank (Claim comm source tag) its =
    let a = selecting rank comm source tag in
    ap (λ (o : Option Envelope). claim_found h a o) (none_is (probed h.board (post.Claim a)) its)
in_vain h rank (All ns) its =
    several (are_distinct ns && list_all (λ n. is_known h rank n) ns) (list_all (λ n. is_ready h rank n) ns)
    (all_collected h (all_got rank h.board ns)) h (reply.Code BadRequest) its
in_vain h rank (Cut link) its =
    let parts = and_parts (is_receiver h.links rank link) (not (is_some (sender_over h.sides link))) its in
    cond-true (is_receiver h.links rank link) (cut_of (sender_over h.sides link), h) (reply.Code BadRequest, h) parts.0
    ∙ ap (λ (o : Option Side). (cut_of o, h)) (none_is (sender_over h.sides link) parts.1)
in_vain h rank (Send sync comm dest tag bytes) its = absurd (cc)
in_vain h rank (Recv now comm source tag) its = absurd (cc)
in_vain h rank (Claimed now message) its = absurd (cc)
in_vain h rank (Init sends comm peer tag parts size) its = absurd (cc)

-- so its reply is that, and the hub stands for one call more
pub answered : (h : HubView) (links : List Link) (calls : List Call) (rank : ℕ) (q : Request) → StandsFor h links calls
    → asks_in_vain h rank q ≡ true → reply_of links calls rank q ≡ reply.NotYet
answered h links calls rank q stands its =
    ap (λ (k : HubView). (outcome k rank q).0) (sym stands) ∙ ap (λ (o : Reply × HubView). o.0) (in_vain h rank q its)

pub still_stands : (h : HubView) (links : List Link) (calls : List Call) (rank : ℕ) (q : Request)
    → StandsFor h links calls → asks_in_vain h rank q ≡ true → StandsFor h links (calls ++ (rank, q) ∷ [])
still_stands h links calls rank q stands its =
    ap (λ (o : Reply × HubView). o.1) (sym (in_vain h rank q its))
    ∙ ap (λ (k : HubView). (outcome k rank q).1) stands
    ∙ sym (hub_on-snoc calls (hub_at_start links) (rank, q))
