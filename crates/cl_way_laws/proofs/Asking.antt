-- What a rank asks that only waits for named ranks, and what it is told on the way.
use Rattle.std.proofs.Common.{◌≡◌, ◌∙◌, ℕ, ◌⊎◌, inl, inr, refl, sym, Bool, true, false, List, Option, Some, None}
use Rattle.std.specs.Prelude.{cond, nat_lt, not}
use Rattle.mp_types.specs.declared.codes.Code.TheVariants as code
use Rattle.mp_types.specs.declared.messages.Message.{Message}
use Rattle.mp_types.specs.declared.replies.Reply.{Reply}
use Rattle.mp_types.specs.declared.replies.Reply.TheVariants as reply
use Rattle.mp_types.specs.declared.requests.Request.{Request}
use Rattle.mp_types.specs.declared.requests.Request.TheVariants as request
use Rattle.mp_match.specs.Board.{collect, held_count}
use Rattle.mp_probe.specs.Claims.{next_number}
use Rattle.mp_transfers.specs.declared.sides.Setup.{Setup}
use Rattle.mp_transfers.specs.declared.sides.Side.{Side}
use Rattle.mp_transfers.specs.Inits.{is_receiver, lowest_link, peer_of, same_total, sender_over}
use Rattle.mp_hub.specs.Hub.{HubView, cut_of, init_first, init_with, message_or, selecting, setup_of, side_added}
use Rattle.mp_source_laws.specs.Laws.{AsksWithin}
use Rattle.mp_way_laws.specs.Way.{WayView, all_arrived, received}
use Rattle.mp_way_laws.specs.Runs.{NamesSource}
use Rattle.mp_way_laws.specs.Answers.{IsSameHub, IsToldAs, behind, behind_at_once, in_vain, reply_at_once, reply_on_way, same, synchronous, waits}
use Rattle.cl_reduction_laws.specs.Clusters.{Search}
use Rattle.cl_reduction_laws.specs.Patterns.{IsAllowed, claim, pattern_of_request}
use Rattle.cl_contests.specs.Waiting.{OnlyWaits}
use Rattle.cl_way_laws.proofs.SameHubs.{same_hub_itself}

-- a question how a transfer is cut
abbrev pub AsksCut : Request → Type 0
AsksCut (request.Cut link) = Unit {0}
AsksCut _ = ⊥

-- ---- calls that are told something at once

-- a receive or a send is told something, and so is an initialisation
pub not_posted : (n : ℕ) (b : Bool) → reply.Posted n b ≡ reply.NotYet → ⊥
not_posted n b e = absurd (cc)

pub told_now : (n : ℕ) (o : Option Message) → message_or (reply.Posted n false) o ≡ reply.NotYet → ⊥
told_now n None e = absurd (cc)
told_now n (Some m) e = absurd (cc)

pub sent_now : (w : WayView) (b x : Bool) (n : ℕ) (v : WayView)
    → (let r : Reply × WayView = cond b (reply.Posted n x, v) (reply.Code code.Full, w) in r.0) ≡ reply.NotYet → ⊥
sent_now w true x n v e = absurd (cc)
sent_now w false x n v e = absurd (cc)

pub begun_now : (h : HubView) (s : Setup) (o : Option Side) → (init_with h s o).0 ≡ reply.NotYet → ⊥
begun_now h s None e = first (lowest_link h.links h.sides s) e
  where
    first : (o : Option ℕ) → (init_first h s o).0 ≡ reply.NotYet → ⊥
    first None e = absurd (cc)
    first (Some link) e = absurd (cc)
begun_now h s (Some peer) e = joins (same_total s peer.setup) e
  where
    joins : (b : Bool) →
        (let r : Reply × HubView = cond b (side_added h s peer.link) (reply.Code code.Shape, h) in r.0) ≡ reply.NotYet
        → ⊥
    joins true e = absurd (cc)
    joins false e = absurd (cc)

-- ---- how calls go

-- how a call goes on the way, with the same once all has arrived: nothing is there yet, and the rank waits; or it is
-- told the same; or it posts the receive of what is on its way; or its synchronous send is complete only once it has
-- arrived
pub data GoesAs (w : WayView) (r : ℕ) (on : Bool) (q : Request) : Type 0 where
  stays : on ≡ true → reply_on_way w r q ≡ reply.NotYet → behind w r q ≡ w → GoesAs w r on q
  at_once : reply_on_way w r q ≡ reply_at_once w r q → IsSameHub (all_arrived (behind w r q)) (behind_at_once w r q)
      → GoesAs w r on q
  posts : (comm : ℕ) (source tag : Option ℕ) (m : Message) → q ≡ request.Recv true comm source tag
      → reply_on_way w r q ≡ reply.Posted (next_number w.hub.board) false
      → reply_at_once w r q ≡ reply.Got m
      → reply_at_once (behind w r q) r (request.Collect (next_number w.hub.board)) ≡ reply.Got m
      → IsSameHub (behind_at_once (behind w r q) r (request.Collect (next_number w.hub.board))) (behind_at_once w r q)
      → GoesAs w r on q
  completes : (comm dest tag : ℕ) (bytes : List ℕ) → q ≡ request.Send true comm dest tag bytes
      → reply_on_way w r q ≡ reply.Posted (next_number w.hub.board) false
      → reply_at_once w r q ≡ reply.Posted (next_number w.hub.board) true
      → IsSameHub (all_arrived (behind w r q)) (behind_at_once w r q)
      → GoesAs w r on q

module _ (search : Search) (waits_only : OnlyWaits search) where
  -- ---- sources

  no_any : (r comm : ℕ) → search.wild r comm ≡ true → ⊥
  no_any r comm is = (let e = sym is ∙ waits_only.sources r comm in absurd (cc))

  no_claim : (r : ℕ) → search.patterns r claim ≡ true → ⊥
  no_claim r is = (let e = sym is ∙ waits_only.claims r in absurd (cc))

  pub names_source : (r : ℕ) (on : Bool) (q : Request) → IsAllowed search.patterns r (pattern_of_request on q)
      → AsksWithin search.wild r q
      → NamesSource q
  names_source r on (request.Recv now comm None tag) is within = absurd (no_any r comm within)
  names_source r on (request.Recv now comm (Some source) tag) is within = tt
  names_source r on (request.Probe comm None tag) is within = absurd (no_any r comm within)
  names_source r on (request.Probe comm (Some source) tag) is within = tt
  names_source r on (request.Claim comm source tag) is within = absurd (no_claim r is)
  names_source r on (request.Claimed now message) is within = absurd (no_claim r is)
  names_source r on (request.Send sync comm dest tag bytes) is within = tt
  names_source r on (request.Collect n) is within = tt
  names_source r on (request.Finished n) is within = tt
  names_source r on (request.All ns) is within = tt
  names_source r on (request.Init sends comm peer tag parts size) is within = tt
  names_source r on (request.Cut link) is within = tt

  -- ---- what isn't there yet

  -- a call that is told so is one that waits, or asks how a transfer is cut
  pub waits_or_cut : (w : WayView) (r : ℕ) (on : Bool) (q : Request)
      → IsAllowed search.patterns r (pattern_of_request on q)
      → reply_on_way w r q ≡ reply.NotYet
      → (on ≡ true) ⊎ AsksCut q
  waits_or_cut w r on (request.Send sync comm dest tag bytes) is none =
      absurd (sent_now w (nat_lt (held_count w.hub.board.bodies) 65536) (not sync) (next_number w.hub.board) _ none)
  waits_or_cut w r on (request.Recv true comm source tag) is none =
      absurd (told_now (next_number w.hub.board)
      (collect (received w (selecting r comm source tag)) (next_number w.hub.board)).0 none)
  waits_or_cut w r on (request.Recv false comm source tag) is none = absurd (not_posted _ false none)
  waits_or_cut w r true (request.Collect n) is none = inl refl
  waits_or_cut w r false (request.Collect n) is none = (let e = sym is ∙ waits_only.polls r in absurd (cc))
  waits_or_cut w r true (request.Finished n) is none = inl refl
  waits_or_cut w r false (request.Finished n) is none = (let e = sym is ∙ waits_only.polls_of_sends r in absurd (cc))
  waits_or_cut w r true (request.All ns) is none = inl refl
  waits_or_cut w r false (request.All ns) is none = (let e = sym is ∙ waits_only.polls_of_sends r in absurd (cc))
  waits_or_cut w r true (request.Probe comm source tag) is none = inl refl
  waits_or_cut w r false (request.Probe comm source tag) is none = (let e = sym is ∙ waits_only.polls r in absurd (cc))
  waits_or_cut w r on (request.Claim comm source tag) is none = absurd (no_claim r is)
  waits_or_cut w r on (request.Claimed now message) is none = absurd (no_claim r is)
  waits_or_cut w r on (request.Init sends comm peer tag parts size) is none =
      let s = setup_of r sends comm peer tag parts size in
      absurd (begun_now w.hub s (peer_of w.hub.sides s) none)
  waits_or_cut w r on (request.Cut link) is none = inr tt

  -- ---- how the calls of such a rank go

  -- how a transfer is cut isn't on its way
  cut_at_once : (w : WayView) (r : ℕ) (on : Bool) (link : ℕ) → GoesAs w r on (request.Cut link)
  cut_at_once w r on link = at_once (go b).0 (go b).1
    where
      b : Bool
      b = is_receiver w.hub.links r link

      at : Bool → HubView → Reply × HubView
      at b h = cond b (cut_of (sender_over w.hub.sides link), h) (reply.Code code.BadRequest, h)

      go : (b : Bool)
          → ((at b w.hub).0 ≡ (at b (all_arrived w)).0)
          × (let v : WayView = record { hub = (at b w.hub).1; arrived = w.arrived } in
          IsSameHub (all_arrived v) (at b (all_arrived w)).1)
      go true = (refl, same_hub_itself (all_arrived w))
      go false = (refl, same_hub_itself (all_arrived w))

  cut_too : (w : WayView) (r : ℕ) (on : Bool) (q : Request) → AsksCut q → GoesAs w r on q
  cut_too w r on (request.Cut link) is = cut_at_once w r on link
  cut_too w r on _ is = absurd is

  pub goes_as : (w : WayView) (r : ℕ) (on : Bool) (q : Request) → IsAllowed search.patterns r (pattern_of_request on q)
      → IsToldAs w r q
      → GoesAs w r on q
  goes_as w r on q may (in_vain none still) = elim (waits_or_cut w r on q may none) [
    | inl on_is ↦ stays on_is none still
    | inr cut ↦ cut_too w r on q cut
  ]
  goes_as w r on q may (same reply hub) = at_once reply hub
  goes_as w r on q may (waits comm source tag m is posted got collects hub) =
      posts comm source tag m is posted got collects hub
  goes_as w r on q may (synchronous comm dest tag bytes is posted done hub) =
      completes comm dest tag bytes is posted done hub
