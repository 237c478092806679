-- The worked rows.
use Rattle.std.proofs.Common.{◌≡◌, ℕ, suc, ◌+◌, inl, inr, List, [], ◌∷◌, None, true, false, refl, sym, ap, ◌∙◌, arith}
use Rattle.cl_machine.specs.Boxes.{empty_box, with_made, with_taken}
use Rattle.cl_order_laws.specs.Alike.{both_full}
use Rattle.cl_order_laws.specs.Closed.{IsSamePlace}
use Rattle.cl_order_laws.specs.Rows.{AskBy, BytesAreKept, CallsAreCovered, FullIsNotEmpty, MissesAreCovered, PhasesAreAlike, PlacesOfPlans, SendBy, TwoPlans, WorkedOrders, by_turns, other_way, turn_of}
use Rattle.cl_state.specs.declared.asking.Answer.{Answer}
use Rattle.cl_trace.specs.declared.events.Kind.{Kind}
use Rattle.mp_types.specs.declared.replies.Reply.{Reply}
use Rattle.mp_types.specs.declared.replies.Reply.TheVariants as reply
use Rattle.mp_types.specs.declared.requests.Request.TheVariants as request
use Rattle.cl_state.specs.Asked.{asked, doing}
use Rattle.cl_state.specs.Told.{returned, told}
use Rattle.cl_machine.specs.Cluster.{Cluster, only_told}
use Rattle.cl_machine.specs.Journal.{reply_in}
use Rattle.cl_order_laws.specs.Laws.{AreAlike}
use Rattle.cl_order_laws.proofs.GoAlike.{same_reply}
use Rattle.cl_order_laws.proofs.Boxes.{empty_too, holds_too, made_full}
use Rattle.cl_order_laws.proofs.SelfClosed.{ends_closed}
use Rattle.std.proofs.lemmas.Option.{same_Some}
use Rattle.cl_machine.specs.Boxes.{Thing}

full : FullIsNotEmpty
full stamp bytes alike =
    let e : 1 ≡ 0 = empty_too empty_box (with_made empty_box stamp bytes) alike refl in absurd (omega (arith, e))

bytes_kept : BytesAreKept
bytes_kept stamp other bytes others apart alike =
    let f = holds_too (with_made empty_box stamp bytes) (with_made empty_box other others) bytes alike refl in
    apart (sym (ap (λ (t : Thing). t.bytes)
    (same_Some (record { stamp = other; bytes = others }) (record { stamp = other; bytes = bytes }) (f.1).holds)))

phases : PhasesAreAlike
phases first bytes =
    both_full bytes (made_full empty_box 1 bytes refl)
    (made_full (with_taken (with_made empty_box 1 first) 2) 3 bytes refl)

places : PlacesOfPlans
places = record { same = same; other = λ e. (let f : 0 ≡ 1 = e 0 in absurd (omega (arith, f))) }
  where
    same : IsSamePlace by_turns 0 2
    same k =
        let e : 0 + k ≡ k = omega arith in
        let f : 2 + k ≡ suc (suc k) = omega arith in
        ap by_turns e ∙ sym (ap by_turns f)

first_of : List ℕ → ℕ
first_of [] = 0
first_of (byte ∷ bytes) = byte

-- the byte that a reply brings
byte : Reply → ℕ
byte (reply.Got m) = first_of m.bytes
byte _ = 0

-- what rank 1 would receive
next_byte : Cluster → ℕ
next_byte cluster = byte (reply_in cluster.journal 1 (request.Recv true 0 None None))

alike_bytes : (a b : Cluster) → AreAlike a b → next_byte b ≡ next_byte a
unfolding next_byte
alike_bytes a b alike =
    ap byte
    (same_reply a.journal 1 (request.Recv true 0 None None) b.journal (request.Recv true 0 None None) alike.0
    (alike.1).hubs refl)

send_by_turns : (end : Cluster) × SendBy by_turns end × (next_byte end ≡ 104)
unfolding asked doing told returned reply_in next_byte byte first_of
send_by_turns = (
  _,
  (
    _,
    (_, refl, omega arith, omega arith, (request.Send false 0 1 7 (104 ∷ []), refl, refl, refl, refl)),
    (_, (_, refl, omega arith, omega arith, (request.Send false 0 1 7 (105 ∷ []), refl, refl, refl, refl)), refl),
  ),
  refl,
)

send_other_way : (end : Cluster) × SendBy other_way end × (next_byte end ≡ 105)
unfolding asked doing told returned reply_in next_byte byte first_of
send_other_way = (
  _,
  (
    _,
    (_, refl, omega arith, omega arith, (request.Send false 0 1 7 (105 ∷ []), refl, refl, refl, refl)),
    (_, (_, refl, omega arith, omega arith, (request.Send false 0 1 7 (104 ∷ []), refl, refl, refl, refl)), refl),
  ),
  refl,
)

apart : (a b : Cluster) → next_byte a ≡ 104 → next_byte b ≡ 105 → ¬ AreAlike a b
apart a b first second alike =
    let e : 105 ≡ 104 = sym second ∙ alike_bytes a b alike ∙ first in absurd (omega (arith, e))

meet : (end : Cluster) × AskBy by_turns end × AskBy other_way end
unfolding asked doing told returned
meet = (
  _,
  (_, (_, refl, omega arith, omega arith, (refl, refl, refl)), (_, (_, refl, omega arith, omega arith, (refl, refl, refl)), refl)),
  (_, (_, refl, omega arith, omega arith, (refl, refl, refl)), (_, (_, refl, omega arith, omega arith, (refl, refl, refl)), refl)),
)

two_plans : TwoPlans
two_plans = record {
  follow = λ plan first second. (refl, (refl, tt));
  apart = (
    send_by_turns.0,
    send_other_way.0,
    send_by_turns.1,
    send_other_way.1,
    apart send_by_turns.0 send_other_way.0 send_by_turns.2 send_other_way.2,
  );
  meet = meet;
}

calls : CallsAreCovered
calls plans nodes i r node rank e new next is hart leads = elim ((next.closed).each i r node rank next.there next.has) [
  | inl done ↦ absurd (next.going done)
  | inr moves ↦ moves e new is hart leads
]

misses : MissesAreCovered
misses plans nodes i r link part node rank next looks =
    let e = turn_of plans node r (rank.clock + 1) Kind.Miss in
    calls plans nodes i r node rank e (only_told node.cluster e rank Answer.Missed) next refl refl
    (rank, next.has, next.hart, (link, part, inl looks, refl, refl))

pub worked_orders : WorkedOrders
worked_orders = record {
  full = full;
  bytes = bytes_kept;
  phases = phases;
  places = places;
  plans = two_plans;
  misses = misses;
  calls = calls;
  ends = ends_closed;
}
