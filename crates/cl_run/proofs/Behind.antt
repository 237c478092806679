-- Ranks that are ahead of their slots, slot by slot.
use Rattle.std.specs.Prelude.{ℕ, zero, suc, ◌≡◌, ◌≢◌, ◌<◌, ◌+◌, List, length}
use Rattle.std.specs.Prelude.{Option, None, Some, slice_get, slice_index, slice_set}
use Rattle.std.proofs.Common.{refl, sym, ap, ◌∙◌, subst, arith}
use Rattle.std.proofs.lemmas.Bool.Decides.{eqb_tells}
use Rattle.std.proofs.lemmas.List.{get_or-set_other, get_or-set_same, get_or_past, length-map, length-set}
use Rattle.std.proofs.lemmas.Option.{same_Some, slice_get_past, slice_get_within}
use Rattle.std.proofs.lemmas.Bool.{cases_lt}
use mathlib.Core.Logic.{inl, inr}
use Rattle.rv_image_types.specs.declared.images.ImageParts.{ImageParts}
use Rattle.rv_image_types.specs.declared.images.Link.{Link}
use Rattle.cl_calls.specs.declared.sites.Site.{Site}
use Rattle.cl_rank.specs.Plains.{Repeats}
use Rattle.cl_rank.specs.RankSides.{Sides, receiver_of, sender_of}
use Rattle.cl_rank.specs.Turning.{Answered}
use Rattle.cl_record.specs.BoxKeys.{AgreeOn, HasKeysOf}
use Rattle.cl_deeds.specs.Orders.{in_slot}
use Rattle.cl_record.specs.Seats.{Station, TakesPlainTurn, station}
use Rattle.cl_record.specs.declared.plans.Plan.{Plan}
use Rattle.cl_record.specs.declared.seats.Seat.{Seat}
use Rattle.cl_record.proofs.Elements.{at_below, link_at}
use Rattle.cl_record.proofs.Plains.{kept_on, plain_turn}
use Rattle.cl_machine.proofs.Lists.{get-set_other, get-set_same, same_by_index}
use Rattle.cl_run.specs.Ahead.{AreAhead, IsAhead, IsAheadOf, RunsAhead}
use Rattle.cl_run.specs.Driver.{Agree, AreSeated, IsStoppedAt, KeysAgree, OneGoes, stations}
use Rattle.cl_run.specs.UnderWay.{IsUnderWay}
use Rattle.cl_run.specs.declared.driver.Driver.{Driver}
use Rattle.cl_run.proofs.Seats.{station_at}
use Rattle.cl_run.proofs.Slots.{stations_then}
use Rattle.cl_run.proofs.UnderWay.{slot_passed, slot_stopped, slot_taken}

-- one rank changes, and how far it is ahead
changed : (r : ℕ) (plans : List Plan) (turns later : List ℕ) (behind then_behind ahead then_ahead : List Station)
    → AreAhead plans turns behind ahead → length then_behind ≡ length then_ahead
    → ((q : ℕ) → r ≢ q → slice_index later q ≡ slice_index turns q)
    → ((q : ℕ) → r ≢ q → slice_get then_behind q ≡ slice_get behind q)
    → ((q : ℕ) → r ≢ q → slice_get then_ahead q ≡ slice_get ahead q)
    → ((plan : Plan) (s t : Station) → slice_get plans r ≡ Some plan → slice_get then_behind r ≡ Some s
    → slice_get then_ahead r ≡ Some t → IsAhead plan (slice_index later r) s t)
    → AreAhead plans later then_behind then_ahead
changed r plans turns later behind then_behind ahead then_ahead are count counts behinds aheads here = record {
  one_each = count;
  each = λ q plan s t planned at_behind at_ahead. elim (eqb_tells r q) [
    | inl same ↦
        subst (λ k. IsAhead plan (slice_index later k) s t) same.1
        (here plan s t (ap (slice_get plans) same.1 ∙ planned) (ap (slice_get then_behind) same.1 ∙ at_behind)
        (ap (slice_get then_ahead) same.1 ∙ at_ahead))
    | inr other ↦
        subst (λ n. IsAhead plan n s t) (sym (counts q other.1))
        (are.each q plan s t planned (sym (behinds q other.1) ∙ at_behind) (sym (aheads q other.1) ∙ at_ahead))
  ];
}

-- no more than so many plain turns lie between the two, and they keep sides and sites
kept : (plan : Plan) (n : ℕ) (s t : Station) → IsAhead plan n s t
    → (t.sides ≡ s.sides) × (t.rank.site ≡ s.rank.site)
kept plan zero s t h =
    (ap (λ (x : Station). x.sides) h.turns, ap (λ (x : Station). x.rank.site) h.turns)
kept plan (suc n) s t h =
    let on = kept_on plan (suc n) s t (h.runs (omega arith)) h.turns in (on.sides, on.site)

-- so what keys agree on is the same at the slot
agree_behind : (plans : List Plan) (turns : List ℕ) (behind ahead : List Station) → AreAhead plans turns behind ahead
    → length ahead ≡ length plans → (links : List Link) (asked : Option (ℕ × ℕ)) → Agree links ahead asked
    → Agree links behind asked
agree_behind plans turns behind ahead are count links None h = tt
agree_behind plans turns behind ahead are count links (Some place) h = keys
  where
    then_at : (q : ℕ) (s : Station) → slice_get behind q ≡ Some s
        → (t : Station) × (slice_get ahead q ≡ Some t) × (t.sides ≡ s.sides) × (t.rank.site ≡ s.rank.site)
    then_at q s at =
        let inside = slice_get_within behind q s at in
        let e = are.one_each in
        let t = at_below ahead q (omega (arith, inside, e)) in
        let plan = at_below plans q (omega (arith, inside, e, count)) in
        let same = kept plan.0 (slice_index turns q) s t.0 (are.each q plan.0 s t.0 plan.1 at t.1) in
        (t.0, t.1, same.0, same.1)

    keys : (l : Link) → slice_get links place.0 ≡ Some l → KeysAgree behind l place.0 place.1
    keys l there = λ from to s r from_at to_at s_is r_is.
        let f = then_at l.from from from_at in
        let t = then_at l.to to to_at in
        subst (λ (site : Site). AgreeOn site.version s r) f.3
        (h l there f.0 t.0 s r f.1 t.1 (ap (λ (x : Sides). sender_of x place.0 place.1) f.2 ∙ s_is)
        (ap (λ (x : Sides). receiver_of x place.0 place.1) t.2 ∙ r_is))

-- where nobody is ahead, all are at the slot
pub nobody_ahead : (plans : List Plan) (turns : List ℕ) (behind ahead : List Station)
    → AreAhead plans turns behind ahead → length ahead ≡ length plans → ((r : ℕ) → slice_index turns r ≡ 0)
    → behind ≡ ahead
nobody_ahead plans turns behind ahead are count none = same_by_index behind ahead (λ q. elim (cases_lt q (length behind)) [
  | inl inside ↦
      let e = are.one_each in
      let s = at_below behind q inside in
      let t = at_below ahead q (omega (arith, inside, e)) in
      let plan = at_below plans q (omega (arith, inside, e, count)) in
      let same : t.0 ≡ s.0 =
      (subst (λ n. IsAhead plan.0 n s.0 t.0) (none q) (are.each q plan.0 s.0 t.0 plan.1 s.1 t.1)).turns in
      s.1 ∙ ap Some (sym same) ∙ sym t.1
  | inr past ↦
      let e = are.one_each in
      slice_get_past behind q past ∙ sym (slice_get_past ahead q (omega (arith, past, e)))
])

-- who is ahead is counted
pub counted_inside : (turns : List ℕ) (r : ℕ) → 0 < slice_index turns r → r < length turns
counted_inside turns r some = elim (cases_lt r (length turns)) [
  | inl low ↦ low
  | inr past ↦ let none : slice_index turns r ≡ 0 = get_or_past turns r 0 past in absurd (omega (arith, none, some))
]

module _ (image : ImageParts) (plans : List Plan) (order : List ℕ) (slot : ℕ) where
  -- the rank whose slot it is took that turn ahead
  pub slot_spent : (driver : Driver) (turns : List ℕ) (k : ℕ) → AreSeated plans driver
      → in_slot order slot < length driver.seats.items → slice_index turns (in_slot order slot) ≡ suc k
      → IsAheadOf image plans order turns driver slot
      → IsAheadOf image plans order (slice_set turns (in_slot order slot) k) driver (slot + 1)
  slot_spent driver turns k seated inside has w = record {
    behind = slice_set w.behind r mid;
    ahead = changed r plans turns (slice_set turns r k) w.behind (slice_set w.behind r mid) (stations driver)
        (stations driver) w.ahead (length-set w.behind r mid ∙ w.ahead.one_each)
        (λ q other. get_or-set_other turns r q k 0 (λ e. other (sym e)))
        (λ q other. get-set_other w.behind r q mid other) (λ q other. refl) here;
    under_way = slot_taken image plans order w.behind slot v.0 mid plan.0 v.1 plan.1 runs driver.hub driver.hub
        (plain_turn Answered plan.0 v.0 mid driver.hub turn) apart keys agree w.under_way;
  }
    where
      r : ℕ
      r = in_slot order slot

      s : (x : Seat) × (slice_get driver.seats.items r ≡ Some x)
      s = at_below driver.seats.items r inside

      t_at : slice_get (stations driver) r ≡ Some (station s.0)
      t_at = station_at driver.seats.items r s.0 s.1

      plan : (x : Plan) × (slice_get plans r ≡ Some x)
      plan = at_below plans r (let e = seated.one_each in omega (arith, inside, e))

      v : (x : Station) × (slice_get w.behind r ≡ Some x)
      v = at_below w.behind r (let e = w.ahead.one_each in let t = slice_get_within (stations driver) r (station s.0) t_at in omega (arith, t, e))

      is : IsAhead plan.0 (suc k) v.0 (station s.0)
      is = subst (λ n. IsAhead plan.0 n v.0 (station s.0)) has (w.ahead.each r plan.0 v.0 (station s.0) plan.1 v.1 t_at)

      mid : Station
      mid = is.turns.0

      turn : TakesPlainTurn plan.0 v.0 mid
      turn = is.turns.1

      rest : Repeats (TakesPlainTurn plan.0) k mid (station s.0)
      rest = is.turns.2

      runs : (v.0).stop ≡ None
      runs = is.runs (omega arith)

      apart : (link : ℕ) (l : Link) → slice_get driver.hub.links link ≡ Some l → l.to ≢ l.from
      apart link l e = (link_at (length driver.seats.items) driver.hub.links link l seated.joined.links e).differ

      keys : HasKeysOf driver.hub.links r (v.0).sides
      keys = subst (HasKeysOf driver.hub.links r) (kept plan.0 (suc k) v.0 (station s.0) is).0
          (seated.joined.each r (station s.0) t_at).keys

      agree : Agree driver.hub.links (slice_set w.behind r mid) mid.asked
      agree = subst (Agree driver.hub.links (slice_set w.behind r mid)) (sym turn.turn.asks_none) tt

      here : (p : Plan) (x y : Station) → slice_get plans r ≡ Some p
          → slice_get (slice_set w.behind r mid) r ≡ Some x → slice_get (stations driver) r ≡ Some y
          → IsAhead p (slice_index (slice_set turns r k) r) x y
      here p x y p_at x_at y_at =
          let counted : slice_index (slice_set turns r k) r ≡ k = get_or-set_same turns r k 0 (counted_inside turns r (omega (arith, has))) in
          let p_is : plan.0 ≡ p = same_Some plan.0 p (sym plan.1 ∙ p_at) in
          let x_is : mid ≡ x = same_Some mid x (sym (get-set_same w.behind r v.0 mid v.1) ∙ x_at) in
          let y_is : station s.0 ≡ y = same_Some (station s.0) y (sym t_at ∙ y_at) in
          subst (λ n. IsAhead p n x y) (sym counted)
          (subst (λ z. IsAhead p k x z) y_is
          (subst (λ z. IsAhead p k z (station s.0)) x_is
          (subst (λ z. IsAhead z k mid (station s.0)) p_is (record { turns = rest; runs = λ some. turn.goes_on }))))

  -- the rank whose slot comes next runs ahead
  pub rank_ahead : (old new : Driver) (turns more : List ℕ) → AreSeated plans old
      → RunsAhead (in_slot order slot) old turns new more → IsAheadOf image plans order turns old slot
      → IsAheadOf image plans order more new slot
  rank_ahead old new turns more seated h w = record {
    behind = w.behind;
    ahead = subst (λ ts. AreAhead plans ts w.behind (stations new)) (sym h.more_is)
        (subst (AreAhead plans (slice_set turns r h.n) w.behind) (sym then_is)
        (changed r plans turns (slice_set turns r h.n) w.behind w.behind (stations old) later w.ahead
        (w.ahead.one_each ∙ sym (length-set (stations old) r (station h.later)))
        (λ q other. get_or-set_other turns r q h.n 0 (λ e. other (sym e))) (λ q other. refl)
        (λ q other. get-set_other (stations old) r q (station h.later) other) here));
    under_way = subst (λ hub. IsUnderWay image plans order w.behind hub slot) (sym h.hub_stays) w.under_way;
  }
    where
      r : ℕ
      r = in_slot order slot

      later : List Station
      later = slice_set (stations old) r (station h.later)

      then_is : stations new ≡ later
      then_is = stations_then old new r h.later h.seats_are

      t_at : slice_get (stations old) r ≡ Some (station h.seat)
      t_at = station_at old.seats.items r h.seat h.there

      here : (p : Plan) (x y : Station) → slice_get plans r ≡ Some p → slice_get w.behind r ≡ Some x
          → slice_get later r ≡ Some y → IsAhead p (slice_index (slice_set turns r h.n) r) x y
      here p x y p_at x_at y_at =
          let counted : slice_index (slice_set turns r h.n) r ≡ h.n = get_or-set_same turns r h.n 0 h.inside in
          let at_slot : station h.seat ≡ x =
          (subst (λ n. IsAhead p n x (station h.seat)) h.at_slot (w.ahead.each r p x (station h.seat) p_at x_at t_at)).turns in
          let y_is : station h.later ≡ y = same_Some (station h.later) y
          (sym (get-set_same (stations old) r (station h.seat) (station h.later) t_at) ∙ y_at) in
          let p_is : h.seat.plan.now ≡ p = seated.each r p h.seat p_at h.there in
          subst (λ n. IsAhead p n x y) (sym counted)
          (subst (λ z. IsAhead p h.n x z) y_is
          (subst (λ z. IsAhead p h.n z (station h.later)) at_slot
          (subst (λ z. IsAhead z h.n (station h.seat) (station h.later)) p_is
          (record { turns = h.goes; runs = λ some. h.runs }))))

  -- the rank whose slot it is isn't ahead: what its slot does is the same at the slot
  module _ (old new : Driver) (turns : List ℕ) (seated : AreSeated plans old)
      (at_slot : slice_index turns (in_slot order slot) ≡ 0) (w : IsAheadOf image plans order turns old slot) where
    -- it is there as its seat has it
    same_at : (s : Station) → slice_get (stations old) (in_slot order slot) ≡ Some s
        → slice_get w.behind (in_slot order slot) ≡ Some s
    same_at s at =
        let r = in_slot order slot in
        let e = w.ahead.one_each in
        let inside = slice_get_within (stations old) r s at in
        let same_count : length (stations old) ≡ length plans = length-map old.seats.items station ∙ seated.one_each in
        let v = at_below w.behind r (omega (arith, inside, e)) in
        let plan = at_below plans r (omega (arith, inside, same_count)) in
        let same : s ≡ v.0 =
        (subst (λ n. IsAhead plan.0 n v.0 s) at_slot (w.ahead.each r plan.0 v.0 s plan.1 v.1 at)).turns in
        v.1 ∙ ap Some (sym same)

    pub slot_passed_ahead : IsStoppedAt (stations old) (in_slot order slot)
        → IsAheadOf image plans order turns old (slot + 1)
    slot_passed_ahead h = record {
      behind = w.behind;
      ahead = w.ahead;
      under_way = slot_passed image plans order w.behind slot old.hub (h.0, h.1, same_at h.0 h.2, h.3) w.under_way;
    }

    pub slot_goes_ahead : OneGoes (in_slot order slot) old new → AreSeated plans new
        → IsAheadOf image plans order turns new (slot + 1)
    slot_goes_ahead h later_seated = record {
      behind = slice_set w.behind r (station h.later);
      ahead = ahead_then;
      under_way = elim h.goes [
        | inl turn ↦ slot_taken image plans order w.behind slot (station h.seat) (station h.later) h.seat.plan.now there
            planned h.runs old.hub new.hub turn apart keys agree w.under_way
        | inr stops ↦ slot_stopped image plans order w.behind slot (station h.seat) (station h.later) h.seat.plan.now there
            planned h.runs old.hub new.hub stops w.under_way
      ];
    }
      where
        r : ℕ
        r = in_slot order slot

        later : List Station
        later = slice_set (stations old) r (station h.later)

        then_is : stations new ≡ later
        then_is = stations_then old new r h.later h.seats_are

        t_at : slice_get (stations old) r ≡ Some (station h.seat)
        t_at = station_at old.seats.items r h.seat h.there

        there : slice_get w.behind r ≡ Some (station h.seat)
        there = same_at (station h.seat) t_at

        planned : slice_get plans r ≡ Some h.seat.plan.now
        planned =
            let inside = slice_get_within old.seats.items r h.seat h.there in
            let e = seated.one_each in
            let plan = at_below plans r (omega (arith, inside, e)) in
            plan.1 ∙ ap Some (sym (seated.each r plan.0 h.seat plan.1 h.there))

        apart : (link : ℕ) (l : Link) → slice_get old.hub.links link ≡ Some l → l.to ≢ l.from
        apart link l e = (link_at (length old.seats.items) old.hub.links link l seated.joined.links e).differ

        keys : HasKeysOf old.hub.links r (station h.seat).sides
        keys = (seated.joined.each r (station h.seat) t_at).keys

        here : (p : Plan) (x y : Station) → slice_get plans r ≡ Some p
            → slice_get (slice_set w.behind r (station h.later)) r ≡ Some x → slice_get later r ≡ Some y
            → IsAhead p (slice_index turns r) x y
        here p x y p_at x_at y_at =
            let x_is = same_Some (station h.later) x
            (sym (get-set_same w.behind r (station h.seat) (station h.later) there) ∙ x_at) in
            let y_is = same_Some (station h.later) y
            (sym (get-set_same (stations old) r (station h.seat) (station h.later) t_at) ∙ y_at) in
            subst (λ n. IsAhead p n x y) (sym at_slot)
            (record { turns = sym y_is ∙ x_is; runs = λ some. absurd (omega (arith, some)) })

        ahead_then : AreAhead plans turns (slice_set w.behind r (station h.later)) (stations new)
        ahead_then = subst (AreAhead plans turns (slice_set w.behind r (station h.later))) (sym then_is)
            (changed r plans turns turns w.behind (slice_set w.behind r (station h.later)) (stations old) later w.ahead
            (length-set w.behind r (station h.later) ∙ w.ahead.one_each
            ∙ sym (length-set (stations old) r (station h.later)))
            (λ q other. refl) (λ q other. get-set_other w.behind r q (station h.later) other)
            (λ q other. get-set_other (stations old) r q (station h.later) other) here)

        agree : Agree old.hub.links (slice_set w.behind r (station h.later)) (station h.later).asked
        agree = agree_behind plans turns (slice_set w.behind r (station h.later)) (stations new) ahead_then
            (length-map new.seats.items station ∙ later_seated.one_each) old.hub.links (station h.later).asked h.agree

-- where nobody is ahead, each rank is at the slot as its seat has it
pub at_slots : (plans : List Plan) (turns : List ℕ) (ss : List Station) → ((r : ℕ) → slice_index turns r ≡ 0)
    → AreAhead plans turns ss ss
at_slots plans turns ss none = record {
  one_each = refl;
  each = λ r plan s t planned s_at t_at.
      subst (λ n. IsAhead plan n s t) (sym (none r))
      (record { turns = same_Some t s (sym t_at ∙ s_at); runs = λ some. absurd (omega (arith, some)) });
}
