-- A reply brings no more messages than its request may bring.
use Rattle.std.proofs.Common.{◌≡◌, ◌≤◌, ℕ, [], ◌∷◌, true, Option, Some, None, refl, sym, ap, subst, arith, IfOk, Result, Ok, Err}
use Rattle.mp_types.specs.declared.messages.Message.{Message}
use Rattle.mp_types.specs.declared.replies.Reply.{Reply}
use Rattle.mp_types.specs.declared.replies.Reply.TheVariants as reply
use Rattle.mp_types.specs.declared.requests.Request.{Request}
use Rattle.mp_types.specs.Carried.{IsInPlace}
use Rattle.mp_match.specs.Board.{Board, collect}
use Rattle.mp_hub.specs.Hub.{HubView, outcome, message_or, hub_after}
use Rattle.mp_hub.specs.Laws.{most_messages, message_count, CountLaw}
use Rattle.mp_hub.specs.declared.state.CallFault.{CallFault}
use Rattle.mp_hub.specs.InnerOutcomes.{IsOutcome}
use Rattle.mp_hub.specs.Twins.{HasTwin}
use Rattle.mp_hub.proofs.Outcomes.{is_plain, Comes, is_nothing, is_full, is_sent, is_posted, is_got, is_gathered, comes}
use Rattle.mp_hub.proofs.SentKept.{all_length}

plain_count : (r : Reply) → is_plain r ≡ true → message_count r ≡ 0
plain_count (reply.Code c) p = refl
plain_count (reply.Posted n done) p = refl
plain_count (reply.Got m) p = absurd (cc)
plain_count reply.NotYet p = refl
plain_count reply.Done p = refl
plain_count (reply.Seen e) p = refl
plain_count (reply.Held n e) p = refl
plain_count (reply.AllGot gots) p = absurd (cc)
plain_count (reply.Link k) p = refl
plain_count (reply.Cut parts size) p = refl

one_message : (other : Reply) (o : Option Message) → is_plain other ≡ true → message_count (message_or other o) ≤ 1
one_message other None p = (let e = plain_count other p in omega (arith, e))
one_message other (Some m) p = omega arith

counted : (h : HubView) (rank : ℕ) (q : Request) (r : Reply) (b : Board) → Comes h rank q r b
    → message_count r ≤ most_messages q
counted h rank q r b (is_nothing p e) = (let n = plain_count r p in omega (arith, n))
counted h rank q r b (is_full f there e) = (let n = ap message_count f in omega (arith, n))
counted h rank q r b (is_sent sync comm dest tag bytes done asked f e) =
    (let n = ap message_count f in omega (arith, n))
counted h rank q r b (is_posted p none f e) = (let n = plain_count r f in omega (arith, n))
counted h rank q r b (is_got c number other ready asked one p f e) =
    let n = ap message_count f in
    let few = one_message other (collect c number).0 p in
    omega (arith, n, few, one)
counted h rank q r b (is_gathered numbers asked f e) =
    let n = ap message_count f in
    let even = all_length rank numbers h.board in
    let most = ap most_messages asked in
    omega (arith, n, even, most)

-- a reply with no place for a message stands in place
in_place : (r : Reply) → message_count r ≡ 0 → IsInPlace r
in_place (reply.Code c) n = tt
in_place (reply.Posted number done) n = tt
in_place (reply.Got m) n = absurd (omega (arith, n))
in_place reply.NotYet n = tt
in_place reply.Done n = tt
in_place (reply.Seen e) n = tt
in_place (reply.Held number e) n = tt
in_place (reply.AllGot []) n = refl
in_place (reply.AllGot (got ∷ gots)) n = absurd (omega (arith, n))
in_place (reply.Link k) n = tt
in_place (reply.Cut parts size) n = tt

-- and so does the reply to a request that may bring no message
pub stands_in_place : (h : HubView) (rank : ℕ) (q : Request) → most_messages q ≡ 0 → IsInPlace (outcome h rank q).0
stands_in_place h rank q none =
    in_place (outcome h rank q).0 (let few = counted h rank q _ _ (comes h rank q) in omega (arith, few, none))

-- a reply that stands in place needs no twin
pub needs_no_twin : (o : Reply × HubView) (new : HubView) (r : Result Reply CallFault) (twin : Option Reply) → twin ≡ None
    → IsInPlace o.0 → IfOk r (λ x. IsOutcome o x new) → IfOk r (λ x. HasTwin x twin)
needs_no_twin o new (Err f) twin none place g = tt
needs_no_twin o new (Ok x) twin none place g =
    subst (λ (t : Option Reply). HasTwin x t) (sym none) (subst (λ (y : Reply). IsInPlace y) (sym g.0) place)

pub count_law : CountLaw
count_law links calls rank q = counted (hub_after links calls) rank q _ _ (comes (hub_after links calls) rank q)
