-- What one slot of the order does where ranks may be ahead.
use Rattle.std.specs.Prelude.{ℕ, zero, suc, replicate, ◌≡◌, ◌<◌, ◌≤◌, ◌+◌, ◌-◌, Bool, true, false, List, length, cond, is_some}
use Rattle.std.specs.Prelude.{Option, Some, slice_get, slice_index, slice_set, sum_by, ◌||◌}
use Rattle.std.proofs.Common.{refl, sym, ap, ◌∙◌, subst, arith}
use Rattle.std.proofs.lemmas.List.{get_or-set_other, length-map, length-set}
use Rattle.std.proofs.lemmas.List.Sums.{sum_by-set}
use Rattle.std.proofs.lemmas.Option.{get_or_from_slice_get, same_Some, slice_get_within}
use Rattle.std.proofs.lemmas.Bool.{cases_lt, false≢true}
use Rattle.std.proofs.lemmas.Bool.Decides.{eqb_tells}
use borrow.Author.Count.{below_more}
use mathlib.Core.Logic.{inl, inr}
use Rattle.rv_image_types.specs.declared.images.ImageParts.{ImageParts}
use Rattle.cl_calls.specs.declared.sites.Site.{Site}
use Rattle.cl_journal.specs.Replaying.{HubHistory}
use Rattle.cl_rank.specs.declared.stops.Stop.{Stop}
use Rattle.cl_record.specs.BoxKeys.{HasKeysOf}
use Rattle.cl_deeds.specs.Orders.{in_slot}
use Rattle.cl_record.specs.Seats.{station}
use Rattle.cl_record.specs.declared.plans.Plan.{Plan}
use Rattle.cl_record.specs.declared.seats.Seat.{Seat}
use Rattle.cl_record.proofs.Plains.{KeptOn, kept_on}
use Rattle.cl_machine.proofs.Lists.{get-set_same}
use Rattle.cl_run.specs.Ahead.{AreNamed, IsAheadOf, MayRunAhead, RunsAhead, SlotGoesAhead, SlotGone, Spends, left_ahead}
use Rattle.cl_run.specs.Driver.{AreJoined, AreSeated, IsJoined, IsStoppedAt, OneGoes, SlotGoes, left, left_of, stations}
use Rattle.cl_run.specs.UnderWay.{IsUnderWay}
use Rattle.cl_run.specs.declared.driver.Driver.{Driver}
use Rattle.cl_run.proofs.Behind.{counted_inside, nobody_ahead, rank_ahead, slot_goes_ahead, slot_passed_ahead, slot_spent}
use Rattle.cl_run.proofs.Seats.{station_at}
use Rattle.cl_run.proofs.Slots.{set_joined, set_seated, slot_count, slot_joined, slot_left, slot_seated, stations_then}

abbrev itself : ℕ → ℕ
itself n = n

-- the rank took the turn of its slot ahead
pub spent : (r : ℕ) (driver : Driver) (turns later : List ℕ) → AreJoined driver → r < length driver.seats.items
    → Spends r turns later true → SlotGone r driver turns driver later
spent r driver turns later joined inside h =
    let k = slice_index turns r - 1 in
    let some = h.0 in
    let has : slice_index turns r ≡ suc k = omega (arith, some) in
    let later_is : later ≡ slice_set turns r k = h.1 in
    let total = sum_by-set itself turns r k 0 (counted_inside turns r some) in
    let sums = ap (sum_by itself) later_is in
    record {
      joined = joined;
      count = refl;
      seated = λ plans seated. seated;
      goes = λ image plans order slot at seated w.
          subst (λ ts. IsAheadOf image plans order ts driver (slot + 1)) (ap (λ q. slice_set turns q k) at ∙ sym later_is)
          (slot_spent image plans order slot driver turns k seated
          (subst (λ q. q < length driver.seats.items) (sym at) inside) (ap (slice_index turns) at ∙ has) w);
      others = λ q other. ap (λ ts. slice_index ts q) later_is ∙ get_or-set_other turns r q k 0 (λ e. other (sym e));
      less = omega (arith, total, sums, has);
    }

-- the rank goes on in its slot
pub goes_in_slot : (r : ℕ) (old new : Driver) (turns : List ℕ) → AreJoined old → slice_index turns r ≡ 0
    → SlotGoes r old new true → SlotGone r old turns new turns
goes_in_slot r old new turns joined at_slot h =
    let less = slot_left r old new true h in
    record {
      joined = slot_joined r old new true h joined;
      count = slot_count r old new true h;
      seated = λ plans seated. slot_seated r old new plans true h seated;
      goes = λ image plans order slot at seated w.
          slot_goes_ahead image plans order slot old new turns seated (ap (slice_index turns) at ∙ at_slot) w
          (subst (λ q. OneGoes q old new) (sym at) h) (slot_seated r old new plans true h seated);
      others = λ q other. refl;
      less = omega (arith, less);
    }

-- the rank runs ahead
module _ (r : ℕ) (old new : Driver) (turns more : List ℕ) (h : RunsAhead r old turns new more) where
  on : KeptOn (station h.seat) h.n (station h.later)
  on = kept_on h.seat.plan.now h.n (station h.seat) (station h.later) h.runs h.goes

  t_at : slice_get (stations old) r ≡ Some (station h.seat)
  t_at = station_at old.seats.items r h.seat h.there

  later_joined : AreJoined old → IsJoined old.hub.links old.channels.items r (station h.later)
  later_joined j =
      let was = j.each r (station h.seat) t_at in
      record {
        number_is = ap (λ (x : Site). x.number) on.site ∙ was.number_is;
        links_are = ap (λ (x : Site). x.links) on.site ∙ was.links_are;
        keys = subst (HasKeysOf old.hub.links r) (sym on.sides) was.keys;
        over = h.own old.channels.items was.over;
        asked = λ place at. was.asked place (on.asked place at);
      }

  pub ahead_count : length new.seats.items ≡ length old.seats.items
  ahead_count = ap (λ (xs : List Seat). length xs) h.seats_are ∙ length-set old.seats.items r h.later

  pub ahead_joined : AreJoined old → AreJoined new
  ahead_joined j = set_joined r old new h.seat h.later h.there (later_joined j)
      (ap (λ (hub : HubHistory). hub.links) h.hub_stays) h.seats_are h.channels_stay j

  pub ahead_seated : (plans : List Plan) → AreSeated plans old → AreSeated plans new
  ahead_seated plans a =
      set_seated r old new plans h.seat h.later h.there h.plan_stays h.seats_are (ahead_joined a.joined) a

  ahead_left : left new + h.n ≤ left old
  ahead_left =
      let inside = slice_get_within (stations old) r (station h.seat) t_at in
      let total = sum_by-set left_of (stations old) r (station h.later) (station h.seat) inside in
      let here = ap left_of (get_or_from_slice_get (stations old) r (station h.seat) (station h.seat) t_at) in
      let then_is = ap (sum_by left_of) (stations_then old new r h.later h.seats_are) in
      let a : ◌≡◌ {A = ℕ} (cond (is_some (h.later).stop) 0 1) 1 = ap {B = ℕ} (λ (o : Option Stop). cond (is_some o) 0 1) on.runs in
      let b : ◌≡◌ {A = ℕ} (cond (is_some (h.seat).stop) 0 1) 1 = ap {B = ℕ} (λ (o : Option Stop). cond (is_some o) 0 1) h.runs in
      let longer = on.longer in
      let budget = on.budget in
      omega (arith, total, here, then_is, a, b, longer, budget)

  ahead_less : left_ahead new more ≤ left_ahead old turns
  ahead_less =
      let total = sum_by-set itself turns r h.n 0 h.inside in
      let sums = ap (sum_by itself) h.more_is in
      let at_slot = h.at_slot in
      let less = ahead_left in
      omega (arith, total, sums, at_slot, less)

  -- and then its slot is gone through
  then_gone : (last : Driver) (later : List ℕ) → SlotGone r new more last later → SlotGone r old turns last later
  then_gone last later g =
      let less = ahead_less in
      let still_less = g.less in
      record {
        joined = g.joined;
        count = g.count ∙ ahead_count;
        seated = λ plans seated. g.seated plans (ahead_seated plans seated);
        goes = λ image plans order slot at seated w.
            g.goes image plans order slot at (ahead_seated plans seated)
            (rank_ahead image plans order slot old new turns more seated
            (subst (λ q. RunsAhead q old turns new more) (sym at) h) w);
        others = λ q other. g.others q other ∙ ap (λ ts. slice_index ts q) h.more_is
            ∙ get_or-set_other turns r q h.n 0 (λ e. other (sym e));
        less = omega (arith, less, still_less);
      }

  -- it isn't stopped
  not_stopped : IsStoppedAt (stations new) r → ⊥
  not_stopped s =
      let is : station h.later ≡ s.0 = same_Some (station h.later) s.0
      (sym (get-set_same (stations old) r (station h.seat) (station h.later) t_at)
      ∙ ap (λ ss. slice_get ss r) (sym (stations_then old new r h.later h.seats_are)) ∙ s.2) in
      let stop = sym on.runs ∙ ap (λ x. x.stop) is ∙ s.3 in (cc)

-- a rank that may have run ahead, whose slot is gone through then
pub ran_and_gone : (r : ℕ) (old mid new : Driver) (turns more later : List ℕ) → MayRunAhead r old turns mid more
    → SlotGone r mid more new later → SlotGone r old turns new later
ran_and_gone r old mid new turns more later h g = elim h [
  | inl same ↦
      subst (λ d. SlotGone r d turns new later) same.0 (subst (λ ts. SlotGone r mid ts new later) same.1 g)
  | inr runs ↦ then_gone r old mid turns more runs new later g
]

pub may_joined : (r : ℕ) (old new : Driver) (turns more : List ℕ) → MayRunAhead r old turns new more
    → AreJoined old → AreJoined new
may_joined r old new turns more h j = elim h [
  | inl same ↦ subst AreJoined (sym same.0) j
  | inr runs ↦ ahead_joined r old new turns more runs j
]

pub may_count : (r : ℕ) (old new : Driver) (turns more : List ℕ) → MayRunAhead r old turns new more
    → length new.seats.items ≡ length old.seats.items
may_count r old new turns more h = elim h [
  | inl same ↦ ap (λ (d : Driver). length d.seats.items) same.0
  | inr runs ↦ ahead_count r old new turns more runs
]

-- a rank that isn't ahead, may run ahead, and still isn't: its slot is as without that
pub slot_then : (r : ℕ) (old mid new : Driver) (turns more later : List ℕ) (went : Bool)
    → AreJoined old → MayRunAhead r old turns mid more → Spends r more later false → SlotGoes r mid new went
    → SlotGoesAhead r old turns new later went
slot_then r old mid new turns more later true joined h none goes =
    subst (λ ts. SlotGone r old turns new ts) (sym none.0)
    (ran_and_gone r old mid new turns more more h
    (goes_in_slot r mid new more (may_joined r old mid turns more h joined) none.1 goes))
slot_then r old mid new turns more later false joined h none goes = elim h [
  | inl same ↦ (
    goes.0 ∙ same.0,
    none.0 ∙ same.1,
    subst (λ d. IsStoppedAt (stations d) r) same.0 goes.1,
    ap (λ ts. slice_index ts r) (sym same.1) ∙ none.1,
  )
  | inr runs ↦ absurd (not_stopped r old mid turns more runs goes.1)
]

-- a slot, whatever was done in it
module _ (r : ℕ) (old new : Driver) (turns later : List ℕ) where
  pub gone_joined : (went : Bool) → SlotGoesAhead r old turns new later went → AreJoined old → AreJoined new
  gone_joined false h j = subst AreJoined (sym h.0) j
  gone_joined true h j = h.joined

  pub gone_count : (went : Bool) → SlotGoesAhead r old turns new later went
      → length new.seats.items ≡ length old.seats.items
  gone_count false h = ap (λ (d : Driver). length d.seats.items) h.0
  gone_count true h = h.count

  pub gone_seated : (went : Bool) → SlotGoesAhead r old turns new later went → (plans : List Plan)
      → AreSeated plans old → AreSeated plans new
  gone_seated false h plans a = subst (AreSeated plans) (sym h.0) a
  gone_seated true h plans a = h.seated plans a

  pub gone_on : (went : Bool) → SlotGoesAhead r old turns new later went → (image : ImageParts) (plans : List Plan)
      (order : List ℕ) (slot : ℕ) → in_slot order slot ≡ r → AreSeated plans old
      → IsAheadOf image plans order turns old slot → IsAheadOf image plans order later new (slot + 1)
  gone_on false h image plans order slot at seated w =
      subst (λ d. IsAheadOf image plans order later d (slot + 1)) (sym h.0)
      (subst (λ ts. IsAheadOf image plans order ts old (slot + 1)) (sym h.1)
      (slot_passed_ahead image plans order slot old new turns seated (ap (slice_index turns) at ∙ h.3) w
      (subst (IsStoppedAt (stations old)) (sym at) h.2)))
  gone_on true h image plans order slot at seated w = h.goes image plans order slot at seated w

  pub gone_less : (went : Bool) → SlotGoesAhead r old turns new later went
      → left_ahead new later + cond went 1 0 ≤ left_ahead old turns
  gone_less false h = let a = ap left h.0 in let b = ap (sum_by itself) h.1 in omega (arith, a, b)
  gone_less true h = h.less

-- who is ahead behind a slot was so before it, or is the rank whose slot it was, which the order names
pub gone_named : (order : List ℕ) (i : ℕ) → i < length order → (old new : Driver) (turns later : List ℕ) (went : Bool)
    → SlotGoesAhead (slice_index order i) old turns new later went → AreNamed order turns → AreNamed order later
gone_named order i inside old new turns later false h named = subst (AreNamed order) (sym h.1) named
gone_named order i inside old new turns later true h named = λ q some. elim (eqb_tells (slice_index order i) q) [
  | inl same ↦ (i, inside, same.1)
  | inr other ↦ named q (subst (λ n. 0 < n) (h.others q other.1) some)
]

-- whether anything was done up to a place of the order, and there
pub gone_done : (order : List ℕ) (i : ℕ) (old new : Driver) (turns later : List ℕ) (moved went : Bool)
    → SlotGoesAhead (slice_index order i) old turns new later went
    → (moved ≡ false → (place : ℕ) → place < i → IsStoppedAt (stations old) (slice_index order place))
    → (moved || went) ≡ false → (place : ℕ) → place < i + 1 → IsStoppedAt (stations new) (slice_index order place)
gone_done order i old new turns later true went h done e = absurd (false≢true (sym e))
gone_done order i old new turns later false true h done e = absurd (false≢true (sym e))
gone_done order i old new turns later false false h done e =
    subst (λ d. (place : ℕ) → place < i + 1 → IsStoppedAt (stations d) (slice_index order place)) (sym h.0)
    (below_more (λ place. IsStoppedAt (stations old) (slice_index order place)) i (done refl) h.2)

pub gone_slots : (order : List ℕ) (i : ℕ) (old new : Driver) (turns later : List ℕ) (moved went : Bool)
    → SlotGoesAhead (slice_index order i) old turns new later went
    → (moved ≡ false → (place : ℕ) → place < i → slice_index turns (slice_index order place) ≡ 0)
    → (moved || went) ≡ false → (place : ℕ) → place < i + 1 → slice_index later (slice_index order place) ≡ 0
gone_slots order i old new turns later true went h done e = absurd (false≢true (sym e))
gone_slots order i old new turns later false true h done e = absurd (false≢true (sym e))
gone_slots order i old new turns later false false h done e =
    subst (λ ts. (place : ℕ) → place < i + 1 → slice_index ts (slice_index order place) ≡ 0) (sym h.1)
    (below_more (λ place. slice_index turns (slice_index order place) ≡ 0) i (done refl) h.3)

-- where no rank that the order names is ahead, nobody is
pub nobody_named : (order turns : List ℕ) → AreNamed order turns
    → ((place : ℕ) → place < length order → slice_index turns (slice_index order place) ≡ 0)
    → (r : ℕ) → slice_index turns r ≡ 0
nobody_named order turns named none r = elim (cases_lt 0 (slice_index turns r)) [
  | inl some ↦
      let at = named r some in
      let zero_here : slice_index turns r ≡ 0 = ap (slice_index turns) (sym at.2) ∙ none at.0 at.1 in
      absurd (omega (arith, some, zero_here))
  | inr past ↦ omega (arith, past)
]

-- so the run has come to that slot
pub all_at_slots : (image : ImageParts) (plans : List Plan) (order turns : List ℕ) (driver : Driver) (slot : ℕ)
    → AreSeated plans driver → ((r : ℕ) → slice_index turns r ≡ 0) → IsAheadOf image plans order turns driver slot
    → IsUnderWay image plans order (stations driver) driver.hub slot
all_at_slots image plans order turns driver slot seated none w =
    subst (λ ss. IsUnderWay image plans order ss driver.hub slot)
    (nobody_ahead plans turns w.behind (stations driver) w.ahead
    (length-map driver.seats.items station ∙ seated.one_each) none) w.under_way

-- at first nobody is ahead
pub zeros : (n r : ℕ) → slice_index (replicate n 0) r ≡ 0
zeros zero r = refl
zeros (suc n) zero = refl
zeros (suc n) (suc r) = zeros n r
