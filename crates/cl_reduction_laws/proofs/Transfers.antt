-- A call about partitioned transfers, and a call of another rank about something else, exchanged.
use Rattle.std.proofs.Common.{◌≡◌, ◌∙◌, ℕ, ◌⊎◌, inl, inr, refl, sym, ap, List, ◌++◌, Bool, true, false, Option, Some, None}
use Rattle.std.specs.Prelude.{◌≢◌, ◌==◌, ◌&&◌, cond, nat_lt}
use Rattle.std.specs.List.{list_all}
use Rattle.std.specs.Option.{option_or}
use Rattle.std.proofs.lemmas.Bool.{and_right}
use Rattle.std.proofs.lemmas.List.Folds.{find-append}
use Rattle.mp_types.specs.declared.codes.Code.TheVariants as code
use Rattle.mp_types.specs.declared.replies.Reply.{Reply}
use Rattle.mp_types.specs.declared.replies.Reply.TheVariants as reply
use Rattle.mp_types.specs.declared.requests.Request.{Request}
use Rattle.mp_types.specs.declared.requests.Request.TheVariants as request
use Rattle.mp_match.specs.declared.posts.Sent.{Sent}
use Rattle.mp_match.specs.Board.{collect, held_count, is_send_of, line_of, send_posted}
use Rattle.mp_transfers.specs.declared.sides.Setup.{Setup}
use Rattle.mp_transfers.specs.declared.sides.Side.{Side}
use Rattle.mp_transfers.specs.Inits.{is_receiver, is_sender_over, lowest_link, peer_of, same_total, sender_over}
use Rattle.mp_probe.specs.Claims.{may_receive, next_number, without_claim}
use Rattle.mp_hub.specs.Hub.{HubView, all_collected, all_got, are_distinct, claimed_now, cut_of, got_or, init_first, init_with, is_complete, is_done, is_known, is_ready, may_collect, outcome, sending, setup_of, side_added, with_board, with_claims, with_sides}
use Rattle.mp_hub.proofs.Transfers.{numbered}
use Rattle.mp_clash_laws.specs.Exchanges.{IsPosting, behind}
use Rattle.cl_reduction_laws.proofs.Initialisations.{init_is, none_more, started, told}

-- an initialisation, or the question how a sender cut its transfer
abbrev pub IsTransfer : Request → Type 0
IsTransfer (request.Init sends comm peer tag parts size) = Unit {0}
IsTransfer (request.Cut link) = Unit {0}
IsTransfer _ = ⊥

-- the links of one hub, the posts and the claims of another, and these initialisations
abbrev over : HubView → HubView → List Side → HubView
over h k sides = record { links = h.links; board = k.board; claims = k.claims; sides = sides }

-- all other calls
abbrev pub IsOther : Request → Type 0
IsOther (request.Init sends comm peer tag parts size) = ⊥
IsOther (request.Cut link) = ⊥
IsOther _ = Unit {0}

pub posts_other : (q : Request) → IsPosting q → IsOther q
posts_other (request.Send sync comm dest tag bytes) is = tt
posts_other (request.Recv now comm source tag) is = tt
posts_other _ is = absurd is

-- the same with these initialisations, in the hub and in the one behind it
abbrev Over : HubView → List Side → Reply × HubView → Reply × HubView
Over h sides o = (o.0, over h o.1 sides)

either_over : (h : HubView) (sides : List Side) (b : Bool) (f g : HubView → Reply × HubView)
    → f (over h h sides) ≡ Over h sides (f h) → g (over h h sides) ≡ Over h sides (g h)
    → cond b (f (over h h sides)) (g (over h h sides)) ≡ Over h sides (cond b (f h) (g h))
either_over h sides true f g one other = one
either_over h sides false f g one other = other

-- they don't ask for initialisations, and keep them
other_on : (h : HubView) (r : ℕ) (q : Request) → IsOther q → (sides : List Side)
    → outcome (over h h sides) r q ≡ Over h sides (outcome h r q)
other_on h r (request.Send sync comm dest tag bytes) is sides =
    either_over h sides (nat_lt (held_count h.board.bodies) 65536)
    (λ k. (reply.Posted (next_number k.board) (is_done k.board s), with_board k (send_posted k.board s bytes)))
    (λ k. (reply.Code code.Full, k)) refl refl
  where
    s : Sent
    s = sending r sync comm dest tag bytes
other_on h r (request.Recv true comm source tag) is sides = refl
other_on h r (request.Recv false comm source tag) is sides = refl
other_on h r (request.Collect n) is sides =
    either_over h sides (may_collect h r n) (λ k. got_or k reply.NotYet (collect k.board n))
    (λ k. (reply.Code code.BadRequest, k)) refl refl
other_on h r (request.Finished n) is sides =
    either_over h sides (is_send_of r (line_of h.board n)) (λ k. (cond (is_complete k n) reply.Done reply.NotYet, k))
    (λ k. (reply.Code code.BadRequest, k)) refl refl
other_on h r (request.Probe comm source tag) is sides = refl
other_on h r (request.Claim comm source tag) is sides = refl
other_on h r (request.Claimed true n) is sides =
    either_over h sides (may_receive h.claims r n)
    (λ k. claimed_now (with_claims k (without_claim k.claims r n)) true n) (λ k. (reply.Code code.BadMessage, k)) refl refl
other_on h r (request.Claimed false n) is sides =
    either_over h sides (may_receive h.claims r n)
    (λ k. claimed_now (with_claims k (without_claim k.claims r n)) false n) (λ k. (reply.Code code.BadMessage, k)) refl refl
other_on h r (request.All ns) is sides =
    either_over h sides (are_distinct ns && list_all (λ n. is_known h r n) ns)
    (λ k. cond (list_all (λ n. is_ready k r n) ns) (all_collected k (all_got r k.board ns)) (reply.NotYet, k))
    (λ k. (reply.Code code.BadRequest, k))
    (either_over h sides (list_all (λ n. is_ready h r n) ns) (λ k. all_collected k (all_got r k.board ns))
    (λ k. (reply.NotYet, k)) refl refl)
    refl
other_on h r _ is sides = absurd is

-- and those calls ask for nothing else, and change nothing else
transfers_on : (h k : HubView) (s : ℕ) (p : Request) → IsTransfer p
    → (let o : Reply × HubView = ((outcome h s p).0, over h k (outcome h s p).1.sides) in outcome (over h k h.sides) s p ≡ o)
transfers_on h k s (request.Init sends comm peer tag parts size) is =
    joins (setup_of s sends comm peer tag parts size) (peer_of h.sides (setup_of s sends comm peer tag parts size))
  where
    first : (t : Setup) (o : Option ℕ)
        → (let x : Reply × HubView = ((init_first h t o).0, over h k (init_first h t o).1.sides) in
        init_first (over h k h.sides) t o ≡ x)
    first t None = refl
    first t (Some link) = refl

    second : (t : Setup) (other : Side) (b : Bool)
        → (let x : Reply × HubView = cond b (side_added h t other.link) (reply.Code code.Shape, h) in
        let y : Reply × HubView = cond b (side_added (over h k h.sides) t other.link) (reply.Code code.Shape, over h k h.sides) in
        let z : Reply × HubView = (x.0, over h k x.1.sides) in
        y ≡ z)
    second t other true = refl
    second t other false = refl

    joins : (t : Setup) (o : Option Side)
        → (let x : Reply × HubView = ((init_with h t o).0, over h k (init_with h t o).1.sides) in
        init_with (over h k h.sides) t o ≡ x)
    joins t None = first t (lowest_link h.links h.sides t)
    joins t (Some other) = second t other (same_total t other.setup)
transfers_on h k s (request.Cut link) is = by (is_receiver h.links s link) (cut_of (sender_over h.sides link))
  where
    by : (b : Bool) (a : Reply)
        → (let x : Reply × HubView = cond b (a, h) (reply.Code code.BadRequest, h) in
        let y : Reply × HubView = cond b (a, over h k h.sides) (reply.Code code.BadRequest, over h k h.sides) in
        let z : Reply × HubView = (x.0, over h k x.1.sides) in
        y ≡ z)
    by true a = refl
    by false a = refl
transfers_on h k s _ is = absurd is

-- whichever is first, both are told the same, and lead to the same hub
pub record AreBoth (h : HubView) (r : ℕ) (q : Request) (s : ℕ) (p : Request) : Type 0 where
  pub mine : (outcome h r q).0 ≡ (outcome (outcome h s p).1 r q).0
  pub theirs : (outcome (outcome h r q).1 s p).0 ≡ (outcome h s p).0
  pub hubs : behind h s p r q ≡ behind h r q s p

pub both_ways : (h : HubView) (r s : ℕ) (q p : Request) → IsOther q → IsTransfer p → AreBoth h r q s p
both_ways h r s q p other is =
    let sides = (outcome h s p).1.sides in
    let mine = ap (λ (o : Reply × HubView). outcome o.1 r q) (transfers_on h h s p is) ∙ other_on h r q other sides in
    let theirs = ap (λ (o : Reply × HubView). outcome o.1 s p) (other_on h r q other h.sides)
    ∙ transfers_on h (outcome h r q).1 s p is in
    record {
      mine = sym (ap (λ (o : Reply × HubView). o.0) mine);
      theirs = ap (λ (o : Reply × HubView). o.0) theirs;
      hubs = ap (λ (o : Reply × HubView). o.1) mine ∙ sym (ap (λ (o : Reply × HubView). o.1) theirs);
    }

-- ---- an initialisation, and the question how a sender cut its transfer

-- the question leaves all as it is
pub asks_cut : (h : HubView) (s link : ℕ) → (outcome h s (request.Cut link)).1 ≡ h
asks_cut h s link = go (is_receiver h.links s link)
  where
    go : (b : Bool)
        → (let o : Reply × HubView = cond b (cut_of (sender_over h.sides link), h) (reply.Code code.BadRequest, h) in o.1 ≡ h)
    go true = refl
    go false = refl

-- it is answered the same behind an initialisation by a receiver, or where the cut is known or asked for in vain
pub cut_kept : (h : HubView) (r : ℕ) (sends : Bool) (comm peer tag parts size s link : ℕ)
    → (sends ≡ false) ⊎ ((outcome h s (request.Cut link)).0 ≢ reply.NotYet)
    → (outcome (outcome h r (request.Init sends comm peer tag parts size)).1 s (request.Cut link)).0
    ≡ (outcome h s (request.Cut link)).0
cut_kept h r sends comm peer tag parts size s link why =
    ap (λ (o : Reply × HubView). (outcome o.1 s (request.Cut link)).0) (init_is h t)
    ∙ answered (with_sides h (h.sides ++ new))
    ∙ ap (answer (is_receiver h.links s link)) (find-append (is_sender_over link) h.sides new)
    ∙ by (is_receiver h.links s link) (sender_over h.sides link) (of_answer why)
    ∙ sym (answered h)
  where
    t : Setup
    t = setup_of r sends comm peer tag parts size

    new : List Side
    new = started t (told h.links h.sides t)

    answer : Bool → Option Side → Reply
    answer b o = cond b (cut_of o) (reply.Code code.BadRequest)

    answered : (k : HubView) → (outcome k s (request.Cut link)).0 ≡ answer (is_receiver k.links s link) (sender_over k.sides link)
    answered k = go (is_receiver k.links s link)
      where
        go : (b : Bool)
            → (let o : Reply × HubView = cond b (cut_of (sender_over k.sides link), k) (reply.Code code.BadRequest, k) in
            o.0 ≡ answer b (sender_over k.sides link))
        go true = refl
        go false = refl

    Why : Reply → Type 0
    Why a = (sends ≡ false) ⊎ (a ≢ reply.NotYet)

    of_answer : Why (outcome h s (request.Cut link)).0 → Why (answer (is_receiver h.links s link) (sender_over h.sides link))
    of_answer (inl off) = inl off
    of_answer (inr known) = inr (λ e. known (answered h ∙ e))

    never : (a : Reply) → sends ≡ false → sender_over (started t a) link ≡ None
    never (reply.Link k) off = ap (λ b. cond b (Some (numbered t k)) None) (and_right (k == link) sends off)
    never _ off = refl

    by : (b : Bool) (o : Option Side) → Why (answer b o) → answer b (option_or o (sender_over new link)) ≡ answer b o
    by b o (inl off) =
        ap (λ v. answer b (option_or o v)) (never (told h.links h.sides t) off) ∙ ap (answer b) (none_more o)
    by false o (inr known) = refl
    by true (Some u) (inr known) = refl
    by true None (inr known) = absurd (known refl)
