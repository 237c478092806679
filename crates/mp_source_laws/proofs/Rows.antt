-- The worked rows of messages that were collected.
use Rattle.std.proofs.Common.{◌≡◌, ℕ, zero, suc, true, false, List, [], ◌∷◌, length, Option, Some, None, refl, sym, ap, ◌∙◌, arith}
use Rattle.std.specs.Prelude.{filter}
use Rattle.std.specs.List.{slice_get}
use Rattle.std.specs.Option.{option_map}
use Rattle.mp_match.specs.declared.posts.Line.{Line}
use Rattle.mp_match.specs.declared.posts.Post.{Post}
use Rattle.mp_match.specs.declared.posts.Post.TheVariants.{Receive, Send}
use Rattle.mp_match.specs.declared.posts.Selection.{Selection}
use Rattle.mp_match.specs.declared.posts.Sent.{Sent}
use Rattle.mp_match.specs.Board.{Board}
use Rattle.mp_transfers.specs.Inits.{is_reserved, is_same_side, sender_over}
use Rattle.mp_hub.specs.Hub.{HubView, selecting, sending}
use Rattle.mp_alike_laws.specs.Renaming.{Renaming, no_renaming}
use Rattle.mp_source_laws.specs.Alike.{AlikeHubs, IsAlikeAt, IsOverReceive, IsOverSend, is_same, over_receives, over_sends}
use Rattle.mp_source_laws.specs.Rows.{InEitherOrder, StillHeld, SynchronousSend, WhoeverSent, WorkedHubs, anybody, first_complete, received_from}
use Rattle.mp_source_laws.proofs.Over.{paired}

-- ---- each post goes to its own place

in_place : (a b : HubView) → b.links ≡ a.links → b.claims ≡ a.claims → b.sides ≡ a.sides
    → (let c : Board = a.board in let d : Board = b.board in d.bodies ≡ c.bodies)
    → ((place : ℕ) → IsAlikeAt no_renaming a.board b.board place)
    → (let c : Board = a.board in let d : Board = b.board in length d.lines ≡ length c.lines)
    → AlikeHubs anybody no_renaming a b
in_place a b links claims sides bodies lines many = record {
  links = links;
  board = record {
    many = many;
    next = λ place past. refl;
    lines = lines;
    bodies = λ place. ap (λ xs. slice_get xs place) bodies;
    claims = λ place line what here is. refl;
    ranks = λ i j m n below here there same live alive. below;
    sends = λ i j s t below here there dest comm any. below;
  };
  claims = claims;
  sides = λ s. ap (filter (is_same_side s)) sides;
  reserved = λ link. ap (λ xs. is_reserved xs link) sides;
  senders = λ link. ap (λ xs. sender_over xs link) sides;
}

-- ---- two messages that were received

-- rank 0 or 1 sends rank 2 a byte
abbrev sent : ℕ → ℕ → Sent
sent from byte = sending from false 0 2 7 (byte ∷ [])

send_over : (b : Board) (place partner : ℕ) (s : Sent) → slice_get b.lines place ≡ Some (paired (Send s) partner)
    → s.sync ≡ false → slice_get b.bodies place ≡ Some None
    → IsOverSend b place
send_over b place partner s there standard gone =
    record { sent = s; partner = partner; there = there; standard = standard; gone = gone }

receive_over : (b : Board) (place partner : ℕ) (a : Selection) → slice_get b.lines place ≡ Some (paired (Receive a) partner)
    → slice_get b.bodies partner ≡ Some None
    → IsOverReceive b place
receive_over b place partner a there gone = record { what = a; partner = partner; there = there; gone = gone }

in_either_order : InEitherOrder
in_either_order = (no_renaming, in_place one other refl refl refl refl line refl)
  where
    one : HubView
    one = received_from 0 1 (Some 0) (Some 1)

    other : HubView
    other = received_from 0 1 (Some 1) (Some 0)

    line : (place : ℕ) → IsAlikeAt no_renaming one.board other.board place
    line zero = over_sends (send_over one.board 0 2 (sent 0 97) refl refl refl) (send_over other.board 0 3 (sent 0 97) refl refl refl)
    line (suc zero) =
        over_sends (send_over one.board 1 3 (sent 1 98) refl refl refl) (send_over other.board 1 2 (sent 1 98) refl refl refl)
    line (suc (suc zero)) =
        over_receives (receive_over one.board 2 0 (selecting 2 0 (Some 0) None) refl refl)
        (receive_over other.board 2 1 (selecting 2 0 (Some 1) None) refl refl)
    line (suc (suc (suc zero))) =
        over_receives (receive_over one.board 3 1 (selecting 2 0 (Some 1) None) refl refl)
        (receive_over other.board 3 0 (selecting 2 0 (Some 0) None) refl refl)
    line (suc (suc (suc (suc place)))) = is_same refl

whoever_sent : WhoeverSent
whoever_sent = (no_renaming, in_place one other refl refl refl refl line refl)
  where
    one : HubView
    one = received_from 0 1 None None

    other : HubView
    other = received_from 0 0 None None

    line : (place : ℕ) → IsAlikeAt no_renaming one.board other.board place
    line zero = over_sends (send_over one.board 0 2 (sent 0 97) refl refl refl) (send_over other.board 0 2 (sent 0 97) refl refl refl)
    line (suc zero) =
        over_sends (send_over one.board 1 3 (sent 1 98) refl refl refl) (send_over other.board 1 3 (sent 0 98) refl refl refl)
    line (suc (suc zero)) =
        over_receives (receive_over one.board 2 0 (selecting 2 0 None None) refl refl)
        (receive_over other.board 2 0 (selecting 2 0 None None) refl refl)
    line (suc (suc (suc zero))) =
        over_receives (receive_over one.board 3 1 (selecting 2 0 None None) refl refl)
        (receive_over other.board 3 1 (selecting 2 0 None None) refl refl)
    line (suc (suc (suc (suc place)))) = is_same refl

-- ---- what isn't alike

abbrev Bodies : Type 0
Bodies = List (Option (List ℕ))

no_message : (byte k : ℕ) → (let none : Bodies = None ∷ None ∷ [] in slice_get none k) ≡ Some (Some (byte ∷ [])) → ⊥
no_message byte zero e = absurd (cc)
no_message byte (suc zero) e = absurd (cc)
no_message byte (suc (suc k)) e = absurd (cc)

still_held : StillHeld
still_held alike = no_message 97 ((alike.0).to 1) (((alike.1).board).bodies 1)

-- rank 0 sends rank 1 a byte by a synchronous send
abbrev ssent : ℕ → Sent
ssent from = sending from true 0 1 7 (97 ∷ [])

abbrev lines_of : HubView → List Line
lines_of h = h.board.lines

abbrev post_in : Option Line → Option Post
post_in o = option_map (λ (z : Line). z.post) o

abbrev partner_in : Option Line → Option (Option ℕ)
partner_in o = option_map (λ (z : Line). z.partner) o

other_kind : (a : Selection) (s : Sent) → Some (Receive a) ≡ Some (Send s) → ⊥
other_kind a s e = absurd (cc)

same_send : (x y : Sent) → Some (Send x) ≡ Some (Send y) → x ≡ y
same_send x y e = cc

other_sender : (let two : ℕ = 2 in two ≡ 0) → ⊥
other_sender e = absurd (omega (arith, e))

no_partner : (k : ℕ) → (let none : Option ℕ = None in Some none ≡ Some (Some k)) → ⊥
no_partner k e = absurd (cc)

nothing : (line : Line) → None ≡ Some line → ⊥
nothing line e = absurd (cc)

-- rank 0's send has no partner where rank 2 was first
alone : (k partner : ℕ) → slice_get (lines_of (first_complete 2 0)) k ≡ Some (paired (Send (ssent 0)) partner) → ⊥
alone zero partner e = other_kind (selecting 1 0 None None) (ssent 0) (ap post_in e)
alone (suc zero) partner e =
    other_sender (ap (λ (x : Sent). (x.envelope).source) (same_send (ssent 2) (ssent 0) (ap post_in e)))
alone (suc (suc zero)) partner e = no_partner partner (ap partner_in e)
alone (suc (suc (suc k))) partner e = nothing (paired (Send (ssent 0)) partner) e

no_over_sync : (s : Sent) (k : ℕ) → Some (paired (Send (ssent 0)) 0) ≡ Some (paired (Send s) k) → s.sync ≡ false → ⊥
no_over_sync s k e standard =
    true_false (ap (λ (x : Sent). x.sync) (same_send (ssent 0) s (ap post_in e)) ∙ standard)
  where
    true_false : true ≡ false → ⊥
    true_false e = absurd (cc)

no_over_receive : (a : Selection) (k : ℕ) → Some (paired (Send (ssent 0)) 0) ≡ Some (paired (Receive a) k) → ⊥
no_over_receive a k e = other_kind a (ssent 0) (sym (ap post_in e))

synchronous_send : SynchronousSend
synchronous_send alike = go alike.0 (((alike.1).board).lines 1)
  where
    go : (names : Renaming) → IsAlikeAt names (first_complete 0 2).board (first_complete 2 0).board 1 → ⊥
    go names (is_same same) = alone (names.to 1) (names.to 0) same
    go names (over_sends mine theirs) = no_over_sync mine.sent mine.partner mine.there mine.standard
    go names (over_receives mine theirs) = no_over_receive mine.what mine.partner mine.there

pub worked_hubs : WorkedHubs
worked_hubs = record {
  order = in_either_order;
  sender = whoever_sent;
  held = still_held;
  synchronous = synchronous_send;
}
