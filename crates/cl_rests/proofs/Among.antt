-- A hart that rests does so for one message: until the rank receives to which that was sent.
use Rattle.std.specs.Prelude.{ℕ, ◌≡◌, ◌==◌, ◌&&◌, ◌||◌, not, Bool, true, false, List, [], ◌∷◌, Option, Some, None}
use Rattle.std.specs.List.{list_any, slice_get}
use Rattle.std.proofs.Common.{inl, inr, refl, sym, subst, ◌∙◌}
use Rattle.std.proofs.lemmas.Bool.{and_from, and_parts, eq-eqb, eqb-true, or_cases, or_left, or_right}
use Rattle.mp_match.specs.declared.posts.Line.{Line}
use Rattle.mp_match.specs.declared.posts.Post.{Post}
use Rattle.mp_match.specs.declared.posts.Post.TheVariants.{Send, Receive, Claim}
use Rattle.mp_match.specs.declared.posts.Sent.{Sent}
use Rattle.mp_match.specs.Board.{line_of}
use Rattle.mp_hub.specs.Hub.{HubView}
use Rattle.mp_request.specs.Table.{request_at}
use Rattle.cl_state.specs.Rank.{Rank}
use Rattle.cl_machine.specs.Cluster.{Cluster}
use Rattle.cl_deadlock_laws.specs.Stuck.{is_among}
use Rattle.cl_order_laws.specs.Alike.{hub_of}
use Rattle.cl_rest_laws.specs.Buffering.{RestsAmong}
use Rattle.cl_rest_laws.specs.Rests.{handles_ahead, is_message_of, is_open_post, post_of_send, rests_before, rests_behind}
use Rattle.cl_rest_laws.specs.Rests.{rests_if, says_buffered, spelled, stands_behind_call}
use Rattle.cl_rest_laws.specs.Unpaired.{is_send}
use Rattle.cl_rest_laws.specs.Unreceived.{lacks_receive, is_unreceived, is_unreceived_in}
use Rattle.cl_state.specs.Asked.{part_of}
use Rattle.cl_rests.specs.Held.{IsRestBesideIf}
use Rattle.cl_rests.specs.Sought.{is_to}

-- ---- by one message

-- where it holds for messages of which p holds, it does so for one of them, whatever else that is
abbrev IsByOne : ((Sent → Bool) → Bool) → Type 0
IsByOne holds =
    (p : Sent → Bool) → holds p ≡ true
    → (m : Sent) × (p m ≡ true) × ((q : Sent → Bool) → q m ≡ true → holds q ≡ true)

never : IsByOne (λ p. false)
never p is = absurd (cc)

if_too : (b : Bool) (holds : (Sent → Bool) → Bool) → IsByOne holds → IsByOne (λ p. b && holds p)
if_too false holds one p is = absurd (cc)
if_too true holds one p is = one p is

and_too : (holds : (Sent → Bool) → Bool) (b : Bool) → IsByOne holds → IsByOne (λ p. holds p && b)
and_too holds b one p is =
    let two = and_parts (holds p) b is in
    let m = one p two.0 in
    (m.0, m.1, λ q its. and_from (holds q) b (m.2 q its) two.1)

either : (first second : (Sent → Bool) → Bool) → IsByOne first → IsByOne second → IsByOne (λ p. first p || second p)
either first second one other p is = elim (or_cases (first p) (second p) is) [
  | inl here ↦
      let m = one p here in (m.0, m.1, λ q its. or_left (first q) (second q) (m.2 q its))
  | inr there ↦
      let m = other p there in (m.0, m.1, λ q its. or_right (first q) (second q) (m.2 q its))
]

any_of : {X : Type 0} (holds : (Sent → Bool) → X → Bool) → ((x : X) → IsByOne (λ p. holds p x)) → (xs : List X)
    → IsByOne (λ p. list_any (holds p) xs)
any_of holds each [] = never
any_of holds each (x ∷ xs) = either (λ p. holds p x) (λ p. list_any (holds p) xs) (each x) (any_of holds each xs)

-- ---- where a hart rests

one_send : (also : Sent → Bool) (o : Option Post) → IsByOne (λ p. is_send (λ m. also m && p m) o)
one_send also None = never
one_send also (Some (Send s)) =
    λ p is. (let two = and_parts (also s) (p s) is in (s, two.1, λ q its. and_from (also s) (q s) two.0 its))
one_send also (Some (Receive a)) = never
one_send also (Some (Claim a)) = never

module _ (hub : HubView) (also : Sent → Bool) where
  one_line : (line : Line) → IsByOne (λ p. is_unreceived (λ m. also m && p m) hub line)
  one_line line = and_too (λ p. is_send (λ m. also m && p m) (Some line.post)) (lacks_receive hub line) (one_send also (Some line.post))

  one_in : (o : Option Line) → IsByOne (λ p. is_unreceived_in (λ m. also m && p m) hub o)
  one_in None = never
  one_in (Some line) = one_line line

one_post : (hub : HubView) (r : ℕ) (o : Option ℕ) → IsByOne (λ p. is_open_post p hub r o)
one_post hub r None = never
one_post hub r (Some number) = one_in hub (λ m. (m.envelope.source == r) && not m.sync) (line_of hub.board number)

module _ (hub : HubView) (r : ℕ) (rank : Rank) (hart : ℕ) where
  one_behind : IsByOne (λ p. rests_behind p hub r rank hart)
  one_behind =
      if_too (stands_behind_call rank hart) _
      (any_of (λ p. is_unreceived (λ m. is_message_of rank.site r (spelled rank hart) m && p m) hub)
      (one_line hub (is_message_of rank.site r (spelled rank hart))) hub.board.lines)

  one_before : IsByOne (λ p. rests_before p hub r rank hart)
  one_before =
      if_too (not (says_buffered (part_of rank hart).hart)) _
      (any_of (λ p handle. is_open_post p hub r (post_of_send (request_at rank.requests handle)))
      (λ handle. one_post hub r (post_of_send (request_at rank.requests handle))) (handles_ahead rank hart))

one_rest : (hub : HubView) (r : ℕ) (o : Option Rank) (hart : ℕ) → IsByOne (λ p. rests_if p hub r o hart)
one_rest hub r None hart = never
one_rest hub r (Some rank) hart =
    either (λ p. rests_behind p hub r rank hart) (λ p. rests_before p hub r rank hart) (one_behind hub r rank hart)
    (one_before hub r rank hart)

-- ---- until one of some ranks receives

module _ (among : List ℕ) (c : Cluster) (r : ℕ) where
  abbrev here : (Sent → Bool) → Bool
  here p = rests_if p (hub_of c.journal) r (slice_get c.ranks r) 0

  one_here : IsByOne here
  one_here = one_rest (hub_of c.journal) r (slice_get c.ranks r) 0

  one_beside : here (is_to (Some among)) ≡ true → RestsAmong among c r 0
  one_beside is =
      let m = one_here (is_to (Some among)) is in
      record {
        receiver = (m.0).dest;
        among = m.1;
        rests_there = m.2 (λ n. n.dest == (m.0).dest) (eq-eqb (m.0).dest (m.0).dest refl);
      }

  beside_one : RestsAmong among c r 0 → here (is_to (Some among)) ≡ true
  beside_one resting =
      let m = one_here (λ n. n.dest == resting.receiver) resting.rests_there in
      m.2 (is_to (Some among))
      (subst (λ k. is_among among k ≡ true) (sym (eqb-true (m.0).dest resting.receiver m.1)) resting.among)

  pub tells_beside : (found : Bool) → found ≡ here (is_to (Some among)) → IsRestBesideIf among c r found
  tells_beside true is = one_beside (sym is)
  tells_beside false is = λ resting. (let no : false ≡ true = is ∙ beside_one resting in absurd (cc))
