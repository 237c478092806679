-- What a rank waits for, as the hub has it: how it begins, what it is answered, and that calls of other ranks leave it.
use Rattle.std.proofs.Common.{◌≡◌, ◌∙◌, ℕ, suc, List, [], ◌∷◌, ◌++◌, Bool, true, false, sym, ap, subst}
use Rattle.rv_image_types.specs.declared.images.Link.{Link}
use Rattle.mp_types.specs.declared.replies.Reply.{Reply}
use Rattle.mp_types.specs.declared.replies.Reply.TheVariants as reply
use Rattle.mp_types.specs.declared.requests.Request.{Request}
use Rattle.mp_types.specs.declared.requests.Request.TheVariants.{Collect, Finished, Probe, Claim, All, Cut}
use Rattle.mp_match.specs.declared.posts.Post.TheVariants as post
use Rattle.mp_hub.specs.Hub.{Call, HubView, hub_after, outcome, selecting}
use Rattle.mp_hub.proofs.BoardKept.{board_law}
use Rattle.mp_hub.proofs.Histories.{hub_more}
use Rattle.mp_hub.proofs.SentKept.{mail}
use Rattle.mp_wait_laws.proofs.Cuts.{NoCut, no_cut_from, no_cut_stays, no_cut_waits}
use Rattle.mp_wait_laws.specs.Waits.{IsUpTo, WaitsFor}
use Rattle.mp_wait_laws.specs.Laws.{SendsAsMember, WaitsLaw}
use Rattle.mp_wait_laws.proofs.Lines.{good_lines}
use Rattle.mp_wait_laws.proofs.Moves.{Moves, moves}
use Rattle.mp_wait_laws.proofs.Probes.{NothingSent, claim_from, claim_up_to, claim_waits, nothing_stays, probe_from, probe_up_to, probe_waits}
use Rattle.mp_wait_laws.proofs.Owned.{owned_after}
use Rattle.mp_wait_laws.proofs.Fresh.{Laid}
use Rattle.mp_wait_laws.proofs.Several.{NotAll, not_all_from, not_all_stays, not_all_up_to, not_all_waits}
use Rattle.mp_wait_laws.proofs.Sends.{Unmatched, unmatched_from, unmatched_stays, unmatched_up_to, unmatched_waits}
use Rattle.mp_wait_laws.proofs.Collects.{NoMessage, no_message_from, no_message_stays, no_message_waits, no_message_up_to}

pub laid_after : (links : List Link) (calls : List Call) → Laid (hub_after links calls)
laid_after links calls = record {
  good = good_lines _ (board_law links calls).pairs;
  owned = owned_after links calls;
  even = (mail links calls).even;
}

module _ (member : ℕ → ℕ → Bool) (among : ℕ → Bool) where
  abbrev pub Waits : HubView → ℕ → Request → Type 0
  Waits h r (Collect n) = (place : ℕ) × (n ≡ suc place) × NoMessage member among h r place
  Waits h r (Probe comm source tag) =
      NothingSent member among h.board.lines (post.Receive (selecting r comm source tag))
  Waits h r (Claim comm source tag) = NothingSent member among h.board.lines (post.Claim (selecting r comm source tag))
  Waits h r (Finished n) = (place : ℕ) × (n ≡ suc place) × Unmatched member among h r place
  Waits h r (All ns) = NotAll member among h r ns
  Waits h r (Cut link) = NoCut among h r link
  Waits h r _ = ⊥

  pub waits_from : (h : HubView) (r : ℕ) (q : Request) → Laid h → (outcome h r q).0 ≡ reply.NotYet
      → IsUpTo member among h r q → Waits h r q
  waits_from h r (Collect n) laid answer up_to = no_message_from member among h r n laid.good answer up_to
  waits_from h r (Probe comm source tag) laid answer up_to = probe_from member among h r comm source tag answer up_to
  waits_from h r (Claim comm source tag) laid answer up_to = claim_from member among h r comm source tag answer up_to
  waits_from h r (Finished n) laid answer up_to = unmatched_from member among h r n laid.good laid.owned answer up_to
  waits_from h r (All ns) laid answer up_to = not_all_from member among h r ns laid answer up_to
  waits_from h r (Cut link) laid answer up_to = no_cut_from among h r link answer up_to
  waits_from h r _ laid answer up_to = absurd up_to

  pub waits_up_to : (h : HubView) (r : ℕ) (q : Request) → Waits h r q → IsUpTo member among h r q
  waits_up_to h r (Collect n) w =
      subst (λ k. IsUpTo member among h r (Collect k)) (sym w.1) (no_message_up_to member among h r w.0 w.2)
  waits_up_to h r (Probe comm source tag) w = probe_up_to member among h r comm source tag w
  waits_up_to h r (Claim comm source tag) w = claim_up_to member among h r comm source tag w
  waits_up_to h r (Finished n) w =
      subst (λ k. IsUpTo member among h r (Finished k)) (sym w.1) (unmatched_up_to member among h r w.0 w.2)
  waits_up_to h r (All ns) w = not_all_up_to member among h r ns w
  waits_up_to h r (Cut link) w = w.only
  waits_up_to h r _ w = absurd w

  pub waits_answer : (h : HubView) (r : ℕ) (q : Request) → Waits h r q → outcome h r q ≡ (reply.NotYet, h)
  waits_answer h r (Collect n) w =
      subst (λ k. outcome h r (Collect k) ≡ (reply.NotYet, h)) (sym w.1) (no_message_waits member among h r w.0 w.2)
  waits_answer h r (Probe comm source tag) w = probe_waits member among h r comm source tag w
  waits_answer h r (Claim comm source tag) w = claim_waits member among h r comm source tag w
  waits_answer h r (Finished n) w =
      subst (λ k. outcome h r (Finished k) ≡ (reply.NotYet, h)) (sym w.1) (unmatched_waits member among h r w.0 w.2)
  waits_answer h r (All ns) w = not_all_waits member among h r ns w
  waits_answer h r (Cut link) w = no_cut_waits among h r link w
  waits_answer h r _ w = absurd w

module _ (member : ℕ → ℕ → Bool) (among : ℕ → Bool) (links : List Link) (calls : List Call) (r other : ℕ) where
  waits_stays : (q call : Request) → SendsAsMember member other call → among other ≡ false → among r ≡ true
      → Waits member among (hub_after links calls) r q
      → Waits member among (outcome (hub_after links calls) other call).1 r q
  waits_stays q call fits out inside w = go q w
    where
      h : HubView
      h = hub_after links calls

      k : HubView
      k = (outcome h other call).1

      moved : Moves member other h k
      moved = moves member h other call fits

      go : (q : Request) → Waits member among h r q → Waits member among k r q
      go (Collect n) w = (w.0, w.1, no_message_stays member among h k r w.0 other moved out w.2)
      go (Finished n) w = (w.0, w.1, unmatched_stays member among h k r w.0 other moved out w.2)
      go (Probe comm source tag) w =
          nothing_stays member among h k (post.Receive (selecting r comm source tag)) other moved out w
      go (Claim comm source tag) w =
          nothing_stays member among h k (post.Claim (selecting r comm source tag)) other moved out w
      go (All ns) w = not_all_stays member among h r other call ns (laid_after links calls) fits out inside w
      go (Cut link) w = no_cut_stays among links calls r link other call out w
      go _ w = absurd w

-- ---- after calls

module _ (member : ℕ → ℕ → Bool) (among : ℕ → Bool) (links : List Link) (calls : List Call) where
  begins : (rank : ℕ) (q : Request) → WaitsFor member among links calls rank q
      → Waits member among (hub_after links calls) rank q
  begins rank q w = waits_from member among (hub_after links calls) rank q (laid_after links calls) w.0 w.1

  others_law : (rank other : ℕ) (q call : Request) → among rank ≡ true → among other ≡ false
      → SendsAsMember member other call → WaitsFor member among links calls rank q
      → WaitsFor member among links (calls ++ (other, call) ∷ []) rank q
  others_law rank other q call inside out fits w =
      let k = (outcome (hub_after links calls) other call).1 in
      let still = waits_stays member among links calls rank other q call fits out inside (begins rank q w) in
      let after : hub_after links (calls ++ (other, call) ∷ []) ≡ k = hub_more links calls (other, call) in (
        ap (λ (x : HubView). (outcome x rank q).0) after
            ∙ ap (λ (o : Reply × HubView). o.0) (waits_answer member among k rank q still),
        subst (λ (x : HubView). IsUpTo member among x rank q) (sym after) (waits_up_to member among k rank q still),
      )

  own_law : (rank : ℕ) (q : Request) → WaitsFor member among links calls rank q
      → hub_after links (calls ++ (rank, q) ∷ []) ≡ hub_after links calls
  own_law rank q w =
      hub_more links calls (rank, q)
      ∙ ap (λ (o : Reply × HubView). o.1)
      (waits_answer member among (hub_after links calls) rank q (begins rank q w))

pub waits_law : WaitsLaw
waits_law = record {
  others = λ member among links calls rank other q call inside out fits w.
      others_law member among links calls rank other q call inside out fits w;
  own = λ member among links calls rank q w. own_law member among links calls rank q w;
}
