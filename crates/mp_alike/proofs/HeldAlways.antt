-- The messages that somebody may still be given stay held, whichever request a hub answers.
use Rattle.std.proofs.Common.{◌≡◌, ℕ, List, Bool, true, false, cond, Option, Some, None, refl, sym, subst, Result, Ok, Err, IfOk, OnErr}
use Rattle.std.specs.List.{list_all}
use Rattle.std.proofs.lemmas.Bool.{and_parts}
use Rattle.mp_types.specs.declared.requests.Request.{Request}
use Rattle.mp_types.specs.declared.requests.Request.TheVariants as request
use Rattle.mp_types.specs.declared.replies.Reply.{Reply}
use Rattle.mp_match.specs.declared.posts.Sent.{Sent}
use Rattle.mp_match.specs.declared.posts.Selection.{Selection}
use Rattle.mp_probe.specs.Claims.{may_receive}
use Rattle.mp_transfers.specs.declared.sides.Setup.{Setup}
use Rattle.mp_transfers.specs.declared.sides.Side.{Side}
use Rattle.mp_transfers.specs.Inits.{lowest_link, peer_of, same_total}
use Rattle.mp_hub.specs.Hub.{HubView, all_outcome, are_distinct, claimed_outcome, collect_outcome, cut_outcome}
use Rattle.mp_hub.specs.Hub.{finished_outcome, init_first, init_with, is_known, may_collect, outcome, recv_outcome}
use Rattle.mp_hub.specs.Hub.{selecting, send_outcome, sending, setup_of}
use Rattle.mp_hub.specs.Held.{AreHeld}
use Rattle.mp_hub.specs.InnerOutcomes.{IsOutcome}
use Rattle.mp_hub.proofs.Held.{held_claimed, held_collected, held_fewer, held_gathered, held_posted, held_received}
use Rattle.mp_hub.proofs.Held.{held_sent, held_taken, may_not_wait}

abbrev IsHeldIn : HubView → Type 0
IsHeldIn h = AreHeld h.board h.claims

by_test : (t : Bool) (x y : Reply × HubView) → (t ≡ true → IsHeldIn x.1) → IsHeldIn y.1 → IsHeldIn (cond t x y).1
by_test true x y held other = held refl
by_test false x y held other = other

module _ (h : HubView) (rank : ℕ) (held : AreHeld h.board h.claims) where
  sent : (s : Sent) (bytes : List ℕ) → IsHeldIn (send_outcome h s bytes).1
  sent s bytes = by_test _ _ _ (λ e. held_sent h.board h.claims s bytes held) held

  posted : (now : Bool) (a : Selection) → IsHeldIn (recv_outcome h now a).1
  posted true a = held_received h.board h.claims a held
  posted false a = held_posted h.board h.claims a held

  collected : (n : ℕ) → IsHeldIn (collect_outcome h rank n).1
  collected n =
      by_test (may_collect h rank n) _ _
      (λ e. held_collected h.board h.claims n held (may_not_wait h rank n e)) held

  finished : (n : ℕ) → IsHeldIn (finished_outcome h rank n).1
  finished n = by_test _ _ _ (λ e. held) held

  received : (now : Bool) (n : ℕ) → IsHeldIn (claimed_outcome h rank now n).1
  received true n =
      by_test (may_receive h.claims rank n) _ _ (λ e. held_taken h.board h.claims rank n held e) held
  received false n = by_test _ _ _ (λ e. held_fewer h.board h.claims rank n held) held

  gathered : (ns : List ℕ) → IsHeldIn (all_outcome h rank ns).1
  gathered ns =
      by_test _ _ _
      (λ e. (let parts = and_parts (are_distinct ns) (list_all (λ n. is_known h rank n) ns) e in by_test _ _ _
      (λ ready. held_gathered h rank ns h.board refl parts.1 held) held)) held

  first : (s : Setup) (o : Option ℕ) → IsHeldIn (init_first h s o).1
  first s None = held
  first s (Some link) = held

  set_up : (s : Setup) (o : Option Side) → IsHeldIn (init_with h s o).1
  set_up s None = first s (lowest_link h.links h.sides s)
  set_up s (Some peer) = by_test (same_total s peer.setup) _ _ (λ e. held) held

  cut : (link : ℕ) → IsHeldIn (cut_outcome h rank link).1
  cut link = by_test _ _ _ (λ e. held) held

-- one call, whichever it is
pub held_always : (h : HubView) (rank : ℕ) (q : Request) → AreHeld h.board h.claims
    → AreHeld (outcome h rank q).1.board (outcome h rank q).1.claims
held_always h rank (request.Send sync comm dest tag bytes) held =
    sent h rank held (sending rank sync comm dest tag bytes) bytes
held_always h rank (request.Recv now comm source tag) held =
    posted h rank held now (selecting rank comm source tag)
held_always h rank (request.Collect post) held = collected h rank held post
held_always h rank (request.Finished post) held = finished h rank held post
held_always h rank (request.Probe comm source tag) held = held
held_always h rank (request.Claim comm source tag) held =
    held_claimed h.board h.claims (selecting rank comm source tag) held
held_always h rank (request.Claimed now message) held = received h rank held now message
held_always h rank (request.All posts) held = gathered h rank held posts
held_always h rank (request.Init sends comm peer tag parts size) held =
    let s = setup_of rank sends comm peer tag parts size in set_up h rank held s (peer_of h.sides s)
held_always h rank (request.Cut link) held = cut h rank held link

-- and of a call that may be refused
pub held_after : {E : Type 0} (old new : HubView) (rank : ℕ) (q : Request) (r : Result Reply E)
    → IfOk r (λ x. IsOutcome (outcome old rank q) x new) → OnErr r (new ≡ old) → AreHeld old.board old.claims
    → AreHeld new.board new.claims
held_after old new rank q (Ok x) told kept held =
    subst (λ (h : HubView). AreHeld h.board h.claims) (sym told.1) (held_always old rank q held)
held_after old new rank q (Err e) told kept held =
    subst (λ (h : HubView). AreHeld h.board h.claims) (sym kept) held
