-- A rank that is alone takes plain turns.
use Rattle.std.specs.Prelude.{ℕ, zero, suc, ◌≡◌, ◌≢◌, ◌<◌, ◌≤◌, ◌+◌, ◌*◌, ◌%◌, List, [], ◌∷◌, length, map, slice_get, slice_set}
use Rattle.std.specs.Prelude.{Option, None, Some, All, cond, is_some, sum_by, vec_len}
use Rattle.std.specs.Global.{Vec}
use Rattle.std.proofs.Common.{sym, ap, ◌∙◌, subst, arith}
use Rattle.std.proofs.Math.Nat.{mod-lt}
use Rattle.std.proofs.lemmas.List.{length-set}
use Rattle.std.proofs.lemmas.List.Elements.{All-contains, Contains-get_or}
use Rattle.std.proofs.lemmas.Option.{same_Some}
use Rattle.rv_image_types.specs.declared.images.ImageParts.{ImageParts}
use Rattle.rv_image_types.specs.declared.images.Link.{Link}
use Rattle.rv_image_types.specs.Image.{IsLink}
use Rattle.part_channel.specs.Channels.{ChannelView}
use Rattle.cl_calls.specs.declared.sites.Site.{Site}
use Rattle.cl_journal.specs.Replaying.{HubHistory}
use Rattle.cl_rank.specs.Plains.{Repeats}
use Rattle.cl_rank.specs.RankSides.{AreChannelsOf}
use Rattle.cl_rank.specs.Turning.{Answered}
use Rattle.cl_rank.specs.declared.stops.Stop.{Stop}
use Rattle.cl_record.specs.BoxKeys.{HasKeysOf}
use Rattle.cl_deeds.specs.Orders.{in_slot}
use Rattle.cl_record.specs.Seats.{Station, TakesPlainTurn, station}
use Rattle.cl_record.specs.declared.plans.Plan.{Plan}
use Rattle.cl_record.specs.declared.seats.Seat.{Seat}
use Rattle.cl_record.proofs.Elements.{at_below, link_at}
use Rattle.cl_record.proofs.Plains.{KeptOn, kept_on, plain_turn}
use Rattle.cl_run.specs.Driver.{Agree, AreJoined, AreSeated, IsJoined, left, left_of, stations}
use Rattle.cl_run.specs.Going.{GoesRounds}
use Rattle.cl_run.specs.UnderWay.{IsUnderWay}
use Rattle.cl_run.specs.declared.driver.Driver.{Driver}
use Rattle.cl_run.proofs.Seats.{station_at}
use Rattle.cl_run.proofs.UnderWay.{slot_taken}

-- a list of one element
single : {X : Type 0} (xs : List X) (x : X) → length xs ≡ 1 → slice_get xs 0 ≡ Some x → xs ≡ x ∷ []
single [] x one at = absurd (cc)
single (y ∷ []) x one at = ap (λ z. z ∷ []) (same_Some y x at)
single (y ∷ z ∷ zs) x one at = let more : suc (suc (length zs)) ≡ 1 = one in absurd (omega (arith, more))

-- and what stands in it
alone_at : {X : Type 0} (P : ℕ → X → Type 0) (t : X) → P 0 t → (q : ℕ) (x : X) → slice_get (t ∷ []) q ≡ Some x → P q x
alone_at P t here zero x at = subst (P 0) (same_Some t x at) here
alone_at P t here (suc q) x at = absurd (cc)

-- an order of the only rank names it in each slot
pub only_rank : (order : List ℕ) (count : ℕ) → length order ≡ 1 → count ≡ 1 → All (λ r. r < count) order → (slot : ℕ)
    → in_slot order slot ≡ 0
only_rank order count one few all slot =
    let inside : slot % length order < length order = mod-lt slot (omega (arith, one)) in
    let low : in_slot order slot < count = All-contains (λ r. r < count) order (in_slot order slot) all
    (Contains-get_or order (slot % length order) 0 inside) in
    omega (arith, low, few)

module _ (image : ImageParts) (plans : List Plan) (order : List ℕ) (hub : HubHistory) (plan : Plan)
    (named : (slot : ℕ) → in_slot order slot ≡ 0) (planned : slice_get plans 0 ≡ Some plan)
    (apart : (link : ℕ) (l : Link) → slice_get hub.links link ≡ Some l → l.to ≢ l.from) where
  -- each plain turn takes a slot
  pub alone_goes : (n : ℕ) (s t : Station) (slot : ℕ) → Repeats (TakesPlainTurn plan) n s t → s.stop ≡ None
      → HasKeysOf hub.links 0 s.sides → IsUnderWay image plans order (s ∷ []) hub slot
      → IsUnderWay image plans order (t ∷ []) hub (slot + n)
  alone_goes zero s t slot same runs keys w =
      let here : slot ≡ slot + 0 = omega arith in
      subst (IsUnderWay image plans order (t ∷ []) hub) here
      (subst (λ (x : Station). IsUnderWay image plans order (x ∷ []) hub slot) (sym same) w)
  alone_goes (suc n) s t slot turns runs keys w =
      let mid = turns.0 in
      let at = named slot in
      let next : (slot + 1) + n ≡ slot + suc n = omega arith in
      let then_is : slice_set (s ∷ []) (in_slot order slot) mid ≡ mid ∷ [] = ap (λ k. slice_set (s ∷ []) k mid) at in
      let there : slice_get (s ∷ []) (in_slot order slot) ≡ Some s = ap (slice_get (s ∷ [])) at in
      let agree = subst (Agree hub.links (slice_set (s ∷ []) (in_slot order slot) mid)) (sym turns.1.turn.asks_none) tt in
      let one = slot_taken image plans order (s ∷ []) slot s mid plan there (ap (slice_get plans) at ∙ planned) runs hub hub
      (plain_turn Answered plan s mid hub turns.1) apart (subst (λ q. HasKeysOf hub.links q s.sides) (sym at) keys) agree w in
      subst (IsUnderWay image plans order (t ∷ []) hub) next
      (alone_goes n mid t (slot + 1) turns.2 turns.1.goes_on
      (subst (HasKeysOf hub.links 0) (sym turns.1.turn.sides_stay) keys)
      (subst (λ ss. IsUnderWay image plans order ss hub (slot + 1)) then_is one))

-- the driver of one rank, whose seat was this one and is another now
module _ (old : Driver) (seats : Vec Seat) (seat later : Seat) (n : ℕ) (one : length old.seats.items ≡ 1)
    (there : slice_get old.seats.items 0 ≡ Some seat) (runs : seat.stop ≡ None)
    (turns : Repeats (TakesPlainTurn seat.plan.now) n (station seat) (station later))
    (plan_stays : later.plan.now ≡ seat.plan.now)
    (own : (channels : List ChannelView)
    → AreChannelsOf (station seat).rank.site.version channels (station seat).sides
    → AreChannelsOf (station later).rank.site.version channels (station later).sides)
    (seats_are : seats.items ≡ slice_set old.seats.items 0 later) where
  abbrev new : Driver
  new = record { seats = seats; hub = old.hub; channels = old.channels }

  kept : KeptOn (station seat) n (station later)
  kept = kept_on seat.plan.now n (station seat) (station later) runs turns

  seats_then : seats.items ≡ later ∷ []
  seats_then = seats_are ∙ ap (λ xs. slice_set xs 0 later) (single old.seats.items seat one there)

  stations_before : stations old ≡ station seat ∷ []
  stations_before = ap (map station) (single old.seats.items seat one there)

  stations_then : stations new ≡ station later ∷ []
  stations_then = ap (map station) seats_then

  alone_count : length seats.items ≡ length old.seats.items
  alone_count = ap (λ (xs : List Seat). length xs) seats_are ∙ length-set old.seats.items 0 later

  joined_then : AreJoined old → IsJoined old.hub.links old.channels.items 0 (station later)
  joined_then j =
      let was = j.each 0 (station seat) (station_at old.seats.items 0 seat there) in
      record {
        number_is = ap (λ (x : Site). x.number) kept.site ∙ was.number_is;
        links_are = ap (λ (x : Site). x.links) kept.site ∙ was.links_are;
        keys = subst (HasKeysOf old.hub.links 0) (sym kept.sides) was.keys;
        over = own old.channels.items was.over;
        asked = λ place at. was.asked place (kept.asked place at);
      }

  alone_joined : AreJoined old → AreJoined new
  alone_joined j = record {
    few = j.few;
    one_each = j.one_each;
    links = subst (λ k. All (IsLink k) old.hub.links) (sym alone_count) j.links;
    each = λ q x at.
        alone_at (IsJoined old.hub.links old.channels.items) (station later) (joined_then j) q x
        (ap (λ ss. slice_get ss q) (sym stations_then) ∙ at);
  }

  alone_seated : (plans : List Plan) → AreSeated plans old → AreSeated plans new
  alone_seated plans a = record {
    one_each = alone_count ∙ a.one_each;
    each = λ q p x at_plan at.
        alone_at (λ k (y : Seat). slice_get plans k ≡ Some p → y.plan.now ≡ p) later
        (λ first. plan_stays ∙ a.each 0 p seat first there) q x (ap (λ xs. slice_get xs q) (sym seats_then) ∙ at) at_plan;
    joined = alone_joined a.joined;
  }

  alone_less : left new ≤ left old
  alone_less =
      let then_left = ap (sum_by left_of) stations_then in
      let left_before = ap (sum_by left_of) stations_before in
      let a : ◌≡◌ {A = ℕ} (cond (is_some later.stop) 0 1) 1 = ap {B = ℕ} (λ (o : Option Stop). cond (is_some o) 0 1) kept.runs in
      let b : ◌≡◌ {A = ℕ} (cond (is_some seat.stop) 0 1) 1 = ap {B = ℕ} (λ (o : Option Stop). cond (is_some o) 0 1) runs in
      let longer = kept.longer in
      let budget = kept.budget in
      omega (arith, then_left, left_before, a, b, longer, budget)

  alone_under_way : (image : ImageParts) (plans : List Plan) (order : List ℕ) (k : ℕ) → length order ≡ 1
      → All (λ r. r < length old.seats.items) order → AreSeated plans old
      → IsUnderWay image plans order (stations old) old.hub (k * length order)
      → (m : ℕ) × IsUnderWay image plans order (stations new) old.hub (m * length order)
  alone_under_way image plans order k single_slot all seated w =
      let slots : k * length order + n ≡ (k + n) * length order =
      subst (λ c. k * c + n ≡ (k + n) * c) (sym single_slot) (omega arith) in
      let apart = λ (link : ℕ) (l : Link) (e : slice_get old.hub.links link ≡ Some l).
      (link_at (length old.seats.items) old.hub.links link l seated.joined.links e).differ in
      let keys = (seated.joined.each 0 (station seat) (station_at old.seats.items 0 seat there)).keys in (
        k + n,
        subst (λ ss. IsUnderWay image plans order ss old.hub ((k + n) * length order)) (sym stations_then)
            (subst (IsUnderWay image plans order (station later ∷ []) old.hub) slots
            (alone_goes image plans order old.hub seat.plan.now
            (only_rank order (length old.seats.items) single_slot one all) (planned_at plans seated) apart n (station seat)
            (station later) (k * length order) turns runs keys
            (subst (λ ss. IsUnderWay image plans order ss old.hub (k * length order)) stations_before w))),
      )
    where
      planned_at : (ps : List Plan) → AreSeated ps old → slice_get ps 0 ≡ Some seat.plan.now
      planned_at ps a =
          let plan = at_below ps 0 (let e = a.one_each in omega (arith, one, e)) in
          plan.1 ∙ ap Some (sym (a.each 0 plan.0 seat plan.1 there))

  -- so the run goes on by rounds of one slot each
  pub alone_rounds : (order : List ℕ) → length order ≡ 1 → All (λ r. r < length old.seats.items) order → AreJoined old
      → vec_len seats ≡ vec_len old.seats → GoesRounds order old new
  alone_rounds order single_slot all j same_count = record {
    joined = alone_joined j;
    count = same_count;
    seated = alone_seated;
    goes = λ image plans k seated w. alone_under_way image plans order k single_slot all seated w;
    no_more = alone_less;
  }
