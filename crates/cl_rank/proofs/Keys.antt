-- What the acts of a rank make of the keys of its sides.
use Rattle.std.proofs.Common.{◌≡◌, ◌≢◌, ℕ, List, Bool, true, false, Option, Some, None, refl, sym, ap, subst, ◌∙◌}
use Rattle.std.specs.Prelude.{option_map, slice_get}
use Rattle.part_box.specs.declared.view.Receiving.{Receiving}
use Rattle.part_box.specs.declared.view.Sending.{Sending}
use Rattle.part_box.specs.Keys.{Receiver, Sender}
use Rattle.part_channel.specs.Receiving.{RecvView}
use Rattle.part_channel.specs.Sending.{SendView, modified}
use Rattle.rv_image_types.specs.declared.images.ImageVersion.{ImageVersion}
use Rattle.cl_deeds.specs.Deeds.{Act}
use Rattle.cl_rank.specs.Sides.{ReceiverActs, SenderActs, is_place, box_id_of}
use Rattle.cl_sides.specs.Sides.{Sides}
use Rattle.cl_rank.specs.RankSides.{HasKey, KeyMoves, KeysMove}
use Rattle.cl_sides.specs.Sides.{receiver_key, receiver_of, receiver_view, sender_key, sender_of, sender_view}
use Rattle.cl_sides.specs.Sides.{side_of}
use Rattle.cl_sides.specs.Steps.{changed_side}
use Rattle.cl_rank.proofs.Kept.{each_link}
use Rattle.cl_sides.proofs.Lists.{at_changed, beside, differs, itself}
use Rattle.cl_rank.proofs.Lists.{at_modified, beside_modified}

stays : {K : Type 0} (Acts : K → K → Type 0) (o : Option K) → KeyMoves false Acts o o
stays Acts None = tt
stays Acts (Some key) = refl

pub key_stays : {K : Type 0} (Acts : K → K → Type 0) (o p : Option K) → p ≡ o → KeyMoves false Acts o p
key_stays Acts o p same = subst (KeyMoves false Acts o) (sym same) (stays Acts o)

none_stays : {K : Type 0} (b : Bool) (Acts : K → K → Type 0) → KeyMoves b Acts None None
none_stays true Acts = tt
none_stays false Acts = tt

-- an act on no box
not_here : (l p : ℕ) (o : Option (ℕ × ℕ)) → o ≡ None → is_place l p o ≡ false
not_here l p o none = ap (is_place l p) none

pub somewhere : (place : ℕ × ℕ) → Some place ≡ None → ⊥
somewhere place h = cc

elsewhere : (sides : Sides) (act : Act) → box_id_of act ≡ None → HasKey sides act
elsewhere sides Act.Plain none = tt
elsewhere sides Act.Local none = tt
elsewhere sides (Act.Hub clock request reply) none = tt
elsewhere sides (Act.Ready link part bytes) none = absurd (somewhere (link, part) none)
elsewhere sides (Act.Take link part gate bytes) none = absurd (somewhere (link, part) none)
elsewhere sides (Act.Miss link part) none = absurd (somewhere (link, part) none)
elsewhere sides (Act.Freed link part gate) none = absurd (somewhere (link, part) none)
elsewhere sides Act.Held none = tt
elsewhere sides Act.Idle none = tt

-- an act on no box leaves the keys
pub keys_stay : (v : ImageVersion) (stamp : ℕ) (act : Act) (old new : Sides) → box_id_of act ≡ None
    → ((l p : ℕ) → sender_of new l p ≡ sender_of old l p) → ((l p : ℕ) → receiver_of new l p ≡ receiver_of old l p)
    → KeysMove v stamp act old new
keys_stay v stamp act old new none sent got = record {
  there = elsewhere old act none;
  sends = λ l p. subst (λ b. KeyMoves b (SenderActs v stamp act) (sender_of old l p) (sender_of new l p))
      (sym (not_here l p (box_id_of act) none)) (key_stays (SenderActs v stamp act) _ _ (sent l p));
  recvs = λ l p. subst (λ b. KeyMoves b (ReceiverActs v stamp act) (receiver_of old l p) (receiver_of new l p))
      (sym (not_here l p (box_id_of act) none)) (key_stays (ReceiverActs v stamp act) _ _ (got l p));
}

here : (link part : ℕ) → is_place link part (Some (link, part)) ≡ true
here link part = rw (itself link, itself part) refl

other_link : (link part l p : ℕ) → l ≢ link → is_place l p (Some (link, part)) ≡ false
other_link link part l p other = rw (differs link l (λ e. other (sym e))) refl

other_part : (link part p : ℕ) → p ≢ part → is_place link p (Some (link, part)) ≡ false
other_part link part p other = rw (itself link, differs part p (λ e. other (sym e))) refl

-- ---- sender's keys

-- a side that keeps its keys
pub senders_stay : (link : ℕ) (f : SendView → SendView) (xs : List (ℕ × SendView))
    → ((s : SendView) → side_of link xs ≡ Some s → (f s).keys ≡ s.keys)
    → (l p : ℕ) → sender_key (side_of l (changed_side link f xs)) p ≡ sender_key (side_of l xs) p
senders_stay link f xs same l p =
    each_link (λ l. sender_key (side_of l (changed_side link f xs)) p ≡ sender_key (side_of l xs) p) link
    (ap (λ o. sender_key o p) (at_changed link f xs) ∙ at_link (side_of link xs) same)
    (λ l other. ap (λ o. sender_key o p) (beside l link f xs other)) l
  where
    at_link : (o : Option SendView) → ((s : SendView) → o ≡ Some s → (f s).keys ≡ s.keys)
        → sender_key (option_map f o) p ≡ sender_key o p
    at_link None same = refl
    at_link (Some s) same = ap (λ keys. sender_view (slice_get keys p)) (same s refl)

-- a side of which one key moves
pub senders_move : (link part : ℕ) (f : SendView → SendView) (change : Sender → Sender) (xs : List (ℕ × SendView))
    (Acts : Sending → Sending → Type 0)
    → ((s : SendView) → side_of link xs ≡ Some s → (f s).keys ≡ modified s.keys part change)
    → ((s : SendView) (k : Sender) → side_of link xs ≡ Some s → slice_get s.keys part ≡ Some k → Acts k.view (change k).view)
    → (l p : ℕ) → KeyMoves (is_place l p (Some (link, part))) Acts (sender_key (side_of l xs) p)
    (sender_key (side_of l (changed_side link f xs)) p)
senders_move link part f change xs Acts keys acts l p =
    each_link (λ l. KeyMoves (is_place l p (Some (link, part))) Acts (sender_key (side_of l xs) p)
    (sender_key (side_of l (changed_side link f xs)) p)) link
    (subst (λ o. KeyMoves (is_place link p (Some (link, part))) Acts (sender_key (side_of link xs) p) (sender_key o p))
    (sym (at_changed link f xs)) (at_link (side_of link xs) keys acts))
    (λ l other. subst (λ b. KeyMoves b Acts (sender_key (side_of l xs) p) (sender_key (side_of l (changed_side link f xs)) p))
    (sym (other_link link part l p other))
    (key_stays Acts _ _ (ap (λ o. sender_key o p) (beside l link f xs other)))) l
  where
    at_key : (o : Option Sender) → ((k : Sender) → o ≡ Some k → Acts k.view (change k).view)
        → KeyMoves true Acts (sender_view o) (sender_view (option_map change o))
    at_key None acts = tt
    at_key (Some k) acts = acts k refl

    at_part : (s : SendView) → (f s).keys ≡ modified s.keys part change
        → ((k : Sender) → slice_get s.keys part ≡ Some k → Acts k.view (change k).view)
        → (q : ℕ) → KeyMoves (is_place link q (Some (link, part))) Acts (sender_view (slice_get s.keys q))
        (sender_view (slice_get (f s).keys q))
    at_part s is acts q =
        each_link (λ q. KeyMoves (is_place link q (Some (link, part))) Acts (sender_view (slice_get s.keys q))
        (sender_view (slice_get (f s).keys q))) part
        (rw (here link part, is, at_modified s.keys part change) (at_key (slice_get s.keys part) acts))
        (λ q other. subst (λ b. KeyMoves b Acts (sender_view (slice_get s.keys q)) (sender_view (slice_get (f s).keys q)))
        (sym (other_part link part q other))
        (key_stays Acts _ _ (ap (λ keys. sender_view (slice_get keys q)) is
        ∙ ap sender_view (beside_modified s.keys part q change other)))) q

    at_link : (o : Option SendView) → ((s : SendView) → o ≡ Some s → (f s).keys ≡ modified s.keys part change)
        → ((s : SendView) (k : Sender) → o ≡ Some s → slice_get s.keys part ≡ Some k → Acts k.view (change k).view)
        → KeyMoves (is_place link p (Some (link, part))) Acts (sender_key o p) (sender_key (option_map f o) p)
    at_link None keys acts = none_stays (is_place link p (Some (link, part))) Acts
    at_link (Some s) keys acts = at_part s (keys s refl) (λ k is. acts s k refl is) p

-- no side of the link: an act on a box there moves no such key
pub senders_apart : (link part : ℕ) (xs : List (ℕ × SendView)) (Acts : Sending → Sending → Type 0) → side_of link xs ≡ None
    → (l p : ℕ) → KeyMoves (is_place l p (Some (link, part))) Acts (sender_key (side_of l xs) p) (sender_key (side_of l xs) p)
senders_apart link part xs Acts none l p =
    each_link (λ l. KeyMoves (is_place l p (Some (link, part))) Acts (sender_key (side_of l xs) p)
    (sender_key (side_of l xs) p)) link
    (rw none (none_stays (is_place link p (Some (link, part))) Acts))
    (λ l other. subst (λ b. KeyMoves b Acts (sender_key (side_of l xs) p) (sender_key (side_of l xs) p))
    (sym (other_link link part l p other)) (stays Acts _)) l

-- ---- receiver's keys

-- a side that keeps its keys
pub receivers_stay : (link : ℕ) (f : RecvView → RecvView) (xs : List (ℕ × RecvView))
    → ((s : RecvView) → side_of link xs ≡ Some s → (f s).keys ≡ s.keys)
    → (l p : ℕ) → receiver_key (side_of l (changed_side link f xs)) p ≡ receiver_key (side_of l xs) p
receivers_stay link f xs same l p =
    each_link (λ l. receiver_key (side_of l (changed_side link f xs)) p ≡ receiver_key (side_of l xs) p) link
    (ap (λ o. receiver_key o p) (at_changed link f xs) ∙ at_link (side_of link xs) same)
    (λ l other. ap (λ o. receiver_key o p) (beside l link f xs other)) l
  where
    at_link : (o : Option RecvView) → ((s : RecvView) → o ≡ Some s → (f s).keys ≡ s.keys)
        → receiver_key (option_map f o) p ≡ receiver_key o p
    at_link None same = refl
    at_link (Some s) same = ap (λ keys. receiver_view (slice_get keys p)) (same s refl)

-- a side of which one key moves
pub receivers_move : (link part : ℕ) (f : RecvView → RecvView) (change : Receiver → Receiver) (xs : List (ℕ × RecvView))
    (Acts : Receiving → Receiving → Type 0)
    → ((s : RecvView) → side_of link xs ≡ Some s → (f s).keys ≡ modified s.keys part change)
    → ((s : RecvView) (k : Receiver) → side_of link xs ≡ Some s → slice_get s.keys part ≡ Some k → Acts k.view (change k).view)
    → (l p : ℕ) → KeyMoves (is_place l p (Some (link, part))) Acts (receiver_key (side_of l xs) p)
    (receiver_key (side_of l (changed_side link f xs)) p)
receivers_move link part f change xs Acts keys acts l p =
    each_link (λ l. KeyMoves (is_place l p (Some (link, part))) Acts (receiver_key (side_of l xs) p)
    (receiver_key (side_of l (changed_side link f xs)) p)) link
    (subst (λ o. KeyMoves (is_place link p (Some (link, part))) Acts (receiver_key (side_of link xs) p) (receiver_key o p))
    (sym (at_changed link f xs)) (at_link (side_of link xs) keys acts))
    (λ l other. subst (λ b. KeyMoves b Acts (receiver_key (side_of l xs) p) (receiver_key (side_of l (changed_side link f xs)) p))
    (sym (other_link link part l p other))
    (key_stays Acts _ _ (ap (λ o. receiver_key o p) (beside l link f xs other)))) l
  where
    at_key : (o : Option Receiver) → ((k : Receiver) → o ≡ Some k → Acts k.view (change k).view)
        → KeyMoves true Acts (receiver_view o) (receiver_view (option_map change o))
    at_key None acts = tt
    at_key (Some k) acts = acts k refl

    at_part : (s : RecvView) → (f s).keys ≡ modified s.keys part change
        → ((k : Receiver) → slice_get s.keys part ≡ Some k → Acts k.view (change k).view)
        → (q : ℕ) → KeyMoves (is_place link q (Some (link, part))) Acts (receiver_view (slice_get s.keys q))
        (receiver_view (slice_get (f s).keys q))
    at_part s is acts q =
        each_link (λ q. KeyMoves (is_place link q (Some (link, part))) Acts (receiver_view (slice_get s.keys q))
        (receiver_view (slice_get (f s).keys q))) part
        (rw (here link part, is, at_modified s.keys part change) (at_key (slice_get s.keys part) acts))
        (λ q other. subst (λ b. KeyMoves b Acts (receiver_view (slice_get s.keys q)) (receiver_view (slice_get (f s).keys q)))
        (sym (other_part link part q other))
        (key_stays Acts _ _ (ap (λ keys. receiver_view (slice_get keys q)) is
        ∙ ap receiver_view (beside_modified s.keys part q change other)))) q

    at_link : (o : Option RecvView) → ((s : RecvView) → o ≡ Some s → (f s).keys ≡ modified s.keys part change)
        → ((s : RecvView) (k : Receiver) → o ≡ Some s → slice_get s.keys part ≡ Some k → Acts k.view (change k).view)
        → KeyMoves (is_place link p (Some (link, part))) Acts (receiver_key o p) (receiver_key (option_map f o) p)
    at_link None keys acts = none_stays (is_place link p (Some (link, part))) Acts
    at_link (Some s) keys acts = at_part s (keys s refl) (λ k is. acts s k refl is) p

-- no side of the link: an act on a box there moves no such key
pub receivers_apart : (link part : ℕ) (xs : List (ℕ × RecvView)) (Acts : Receiving → Receiving → Type 0) → side_of link xs ≡ None
    → (l p : ℕ) → KeyMoves (is_place l p (Some (link, part))) Acts (receiver_key (side_of l xs) p) (receiver_key (side_of l xs) p)
receivers_apart link part xs Acts none l p =
    each_link (λ l. KeyMoves (is_place l p (Some (link, part))) Acts (receiver_key (side_of l xs) p)
    (receiver_key (side_of l xs) p)) link
    (rw none (none_stays (is_place link p (Some (link, part))) Acts))
    (λ l other. subst (λ b. KeyMoves b Acts (receiver_key (side_of l xs) p) (receiver_key (side_of l xs) p))
    (sym (other_link link part l p other)) (stays Acts _)) l
