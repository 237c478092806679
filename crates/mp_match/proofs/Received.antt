-- A receive's message, before it is posted and after.
use Rattle.std.specs.Prelude.{ℕ, zero, suc, ◌+◌, ◌≡◌, List, [], ◌∷◌, ◌++◌, length, Option, Some, None}
use Rattle.std.specs.List.{slice_get}
use Rattle.std.proofs.Common.{refl, sym, ap, ◌∙◌, add-one}
use Rattle.mp_types.specs.declared.messages.Envelope.{Envelope}
use Rattle.mp_match.specs.declared.posts.Selection.{Selection}
use Rattle.mp_match.specs.declared.posts.Post.TheVariants.{Receive}
use Rattle.mp_match.specs.declared.posts.Line.{Line}
use Rattle.mp_match.specs.Pairs.{fits, partner_for, partner_of_line}
use Rattle.mp_match.specs.Board.{Board, envelope_in, envelope_at, message_in, message_at, collect_from, collect, receive_posted, partner_of}
use Rattle.mp_match.proofs.Lines.{given, add_new, add_given}
use Rattle.mp_match.proofs.Places.{found_first}

-- a body behind the others is no message
body_kept : (e : Option Envelope) (bodies : List (Option (List ℕ))) (i : ℕ)
    → message_in e (slice_get (bodies ++ None ∷ []) i) ≡ message_in e (slice_get bodies i)
body_kept None bodies i = refl
body_kept (Some e) [] zero = refl
body_kept (Some e) [] (suc i) = refl
body_kept (Some e) (b ∷ bodies) zero = refl
body_kept (Some e) (b ∷ bodies) (suc i) = body_kept (Some e) bodies i

given_envelope : (m : Line) (k : ℕ) → envelope_in (Some (given m k)) ≡ envelope_in (Some m)
given_envelope m k = refl

message_kept : (b : Board) (a : Selection) (place : ℕ) → partner_for b.lines (Receive a) ≡ Some place
    → message_at b place ≡ message_at (receive_posted b a) place
message_kept b a place found =
    let f = found_first (fits (Receive a)) b.lines place found in
    let same : envelope_at b (Some place) ≡ envelope_at (receive_posted b a) (Some place) =
    ap envelope_in f.1 ∙ sym (ap envelope_in (add_given b.lines (Receive a) place f.0 f.1 found)) in
    sym (body_kept (envelope_at b (Some place)) b.bodies place)
    ∙ ap (λ e. message_in e (slice_get (b.bodies ++ None ∷ []) place)) same

-- the message of the send that a receive takes is the one that the posted receive collects
pub copied : (b : Board) (a : Selection) (o : Option ℕ) → o ≡ partner_for b.lines (Receive a)
    → (collect_from b o).0 ≡ (collect_from (receive_posted b a) o).0
copied b a None found = refl
copied b a (Some place) found = message_kept b a place (sym found)

-- a receive that was just posted is collected by the partner that was found for it
pub new_collected : (b : Board) (a : Selection) (c : Board) (o : Option ℕ) → c ≡ receive_posted b a
    → o ≡ partner_for b.lines (Receive a)
    → collect_from c o ≡ collect (receive_posted b a) (length b.lines + 1)
new_collected b a c o after found =
    ap (λ (x : Board). collect_from x o) after
    ∙ ap (collect_from (receive_posted b a))
    (found ∙ sym (ap partner_of_line (add_new b.lines (Receive a)))
    ∙ sym (ap (partner_of (receive_posted b a)) (add-one (length b.lines))))
