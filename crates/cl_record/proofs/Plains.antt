-- Plain turns of a rank that is at its plan.
use Rattle.std.specs.Prelude.{ℕ, zero, suc, ◌≡◌, ◌<◌, ◌≤◌, ◌+◌, ◌%◌, List, [], ◌∷◌, ◌++◌, length, slice_index, Option, None, Some}
use Rattle.std.proofs.Common.{refl, sym, ap, ◌∙◌, subst, arith}
use Rattle.std.proofs.lemmas.List.{length-append}
use Rattle.cl_trace.specs.declared.events.Event.{Event}
use Rattle.cl_deeds.specs.Deeds.{Act, event_of}
use Rattle.cl_rank.specs.Plains.{IsPlainTurn, Repeats, plain_deed}
use Rattle.cl_rank.specs.RankSides.{Sides, receiver_of, sender_of}
use Rattle.cl_rank.specs.Turning.{DeskRule, RankView}
use Rattle.cl_rank.specs.declared.stops.Stop.{Stop}
use Rattle.cl_rank.proofs.Keys.{keys_stay}
use Rattle.cl_state.specs.declared.asking.Answer.TheVariants.{Alone}
use Rattle.cl_state.specs.Rank.{Rank}
use Rattle.cl_state.proofs.Moves.{told_at}
use Rattle.cl_record.specs.Seats.{Station, TakesPlainTurn, TakesTurn, viewed}
use Rattle.cl_record.specs.declared.plans.Plan.{Plan}

-- a plain turn is a turn over any desk
pub plain_turn : {D : Type 0} (gives : DeskRule D) (plan : Plan) (old new : Station) (desk : D)
    → TakesPlainTurn plan old new → TakesTurn gives plan old desk new desk
plain_turn gives plan old new desk h = record {
  deed = plain_deed old.rank (slice_index plan.order.items old.next);
  rank_is = refl;
  hart_is = refl;
  moves = h.turn.moves;
  tells = refl;
  keys = keys_stay old.rank.site.version (old.rank.clock + 1) Act.Plain old.sides new.sides refl
      (λ l p. ap (λ (s : Sides). sender_of s l p) h.turn.sides_stay)
      (λ l p. ap (λ (s : Sides). receiver_of s l p) h.turn.sides_stay);
  asked_is = h.turn.asks_none;
  runs = h.turn.runs;
  turns_left = h.turns_left;
  traced = h.turn.event;
  next_is = h.next_is;
  budget_stays = h.budget_stays;
  goes_on = h.goes_on;
}

-- a rank of this view, at this place of its plan
abbrev pub placed : ℕ → Option Stop → ℕ → RankView → Station
placed next stop budget v = record {
  rank = v.rank;
  events = v.events;
  sides = v.sides;
  asked = v.asked_box;
  next = next;
  budget = budget;
  stop = stop;
}

-- a plan of one place stays there
pub one_place : (next count : ℕ) → next < count → count ≡ 1 → next ≡ (next + 1) % count
one_place next count there one =
    let first : next ≡ 0 = omega (arith, there, one) in
    first ∙ sym (ap (λ n. (n + 1) % count) first ∙ ap (λ k. (0 + 1) % k) one)

-- where the place is the next one, too, plain turns of its hart are its turns
module _ (plan : Plan) (next budget : ℕ) (stop : Option Stop) (running : stop ≡ None)
    (round : next ≡ (next + 1) % length plan.order.items) where
  plain_on : (n : ℕ) (old new : RankView) → length old.events + n ≤ budget
      → Repeats (IsPlainTurn (slice_index plan.order.items next)) n old new
      → Repeats (TakesPlainTurn plan) n (placed next stop budget old) (placed next stop budget new)
  plain_on zero old new within same = ap (placed next stop budget) same
  plain_on (suc n) old new within turns =
      let longer : length turns.0.events ≡ length old.events + 1 =
      ap (λ (es : List Event). length es) turns.1.event
      ∙ length-append old.events
      (event_of (plain_deed old.rank (slice_index plan.order.items next)) ∷ []) in (
        placed next stop budget turns.0,
        record {
          turn = turns.1;
          turns_left = omega (arith, within);
          next_is = round;
          budget_stays = refl;
          goes_on = running;
        },
        plain_on n turns.0 new (omega (arith, within, longer)) turns.2,
      )

  pub plain_turns : (hart n after : ℕ) (old new : RankView) → hart ≡ slice_index plan.order.items next → after ≡ budget
      → length old.events + n ≤ budget → Repeats (IsPlainTurn hart) n old new
      → Repeats (TakesPlainTurn plan) n (placed next stop budget old) (placed next stop after new)
  plain_turns hart n after old new is same within turns =
      subst (λ b. Repeats (TakesPlainTurn plan) n (placed next stop budget old) (placed next stop b new)) (sym same)
      (plain_on n old new within (subst (λ h. Repeats (IsPlainTurn h) n old new) is turns))

-- what plain turns keep
pub record KeptOn (s : Station) (n : ℕ) (t : Station) : Type 0 where
  pub site : t.rank.site ≡ s.rank.site
  pub sides : t.sides ≡ s.sides
  pub budget : t.budget ≡ s.budget
  pub runs : t.stop ≡ None
  pub longer : length t.events ≡ length s.events + n
  pub asked : (place : ℕ × ℕ) → t.asked ≡ Some place → s.asked ≡ Some place

pub kept_on : (plan : Plan) (n : ℕ) (s t : Station) → s.stop ≡ None → Repeats (TakesPlainTurn plan) n s t → KeptOn s n t
kept_on plan zero s t runs same =
    subst (KeptOn s 0) (sym same) (record {
      site = refl;
      sides = refl;
      budget = refl;
      runs = runs;
      longer = omega arith;
      asked = λ place at. at;
    })
kept_on plan (suc n) s t runs turns =
    let mid = turns.0 in
    let turn = turns.1.turn in
    let deed = plain_deed s.rank (slice_index plan.order.items s.next) in
    let rest = kept_on plan n mid t turns.1.goes_on turns.2 in
    let one : length mid.events ≡ length s.events + 1 =
    ap (λ (es : List Event). length es) turn.event ∙ length-append s.events (event_of deed ∷ []) in
    let far = rest.longer in
    record {
      site = rest.site ∙ ap (λ (r : Rank). r.site) turn.moves.4 ∙ (told_at s.rank deed.hart Alone deed.stamp).site;
      sides = rest.sides ∙ turn.sides_stay;
      budget = rest.budget ∙ turns.1.budget_stays;
      runs = rest.runs;
      longer = omega (arith, far, one);
      asked = λ place at. (let none = sym (rest.asked place at) ∙ turn.asks_none in absurd (cc));
    }
