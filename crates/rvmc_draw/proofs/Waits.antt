-- Bars: where a hart waits, and where it went on.
use Rattle.std.specs.Prelude.{ℕ, zero, suc, ◌≡◌, ◌<◌, ◌+◌, ◌*◌, ◌-◌, ◌^◌, ◌&&◌, ◌||◌, ◌==◌, not, nat_lt, if◌then◌else◌, Bool, true, false}
use Rattle.std.specs.Prelude.{List, [], ◌∷◌, ◌++◌, filter, length, min, Option, Some, None}
use Rattle.std.specs.List.{list_any}
use Rattle.std.specs.Option.{is_some}
use Rattle.std.proofs.Common.{refl, sym, ap, ◌∙◌, subst, inl, inr, append-nil, append_assoc, arith}
use Rattle.std.proofs.lemmas.Bool.{false≢true, ltb-true, lt-ltb, or_left, or_right}
use Rattle.std.proofs.lemmas.List.{length-append}
use Rattle.std.proofs.lemmas.List.Elements.{filter-append}
use Rattle.std.proofs.lemmas.List.Folds.{list_any-append}
use Rattle.std.proofs.lemmas.Option.{same_Some}
use Rattle.rvmc_draw.specs.Among.{IsAmong}
use Rattle.rvmc_draw.specs.Looks.{bar_ended, begun_at, begun_by, ended_by, ended_if, lane_of, longer}
use Rattle.rvmc_draw.specs.Waits.{AreOver, BarsLaw, IsWaited, IsWaiting, WaitingLaw, goes_on, is_look}
use Rattle.rvmc_draw.specs.Walks.{Scope, bars_by, bars_of, begun_after, begun_before, begun_of, of_lane, within}
use Rattle.rvmc_draw.specs.declared.deeds.Deed.{Deed}
use Rattle.rvmc_draw.specs.declared.drawing.Bar.{Bar}
use Rattle.rvmc_draw.specs.declared.drawing.Spot.{Spot}
use Rattle.rvmc_draw.proofs.Among.{added_by, among_first, among_none, among_one, by_added}
use Rattle.rvmc_draw.proofs.Tables.{within_some}

-- ---- one step

-- the bar of a wait that began at this step, with so many looks behind it
abbrev bar_since : Spot → ℕ → Bar
bar_since spot more = record { first = spot; last = 0; went_on = false; looks = min (more + 1) (2 ^ 64 - 1) }

quiet_begun : (b : Option Bar) (d : Deed) → is_some d.shape ≡ false → begun_by b d ≡ b
quiet_begun b d none = ap (λ t. if t then (if d.vain then Some (longer b d.spot) else None) else b) none

look_begun : (b : Option Bar) (d : Deed) → is_some d.shape ≡ true → d.vain ≡ true → begun_by b d ≡ Some (longer b d.spot)
look_begun b d some vain =
    ap (λ t. if t then (if d.vain then Some (longer b d.spot) else None) else b) some
    ∙ ap (λ t. if t then Some (longer b d.spot) else None) vain

on_begun : (b : Option Bar) (d : Deed) → is_some d.shape ≡ true → d.vain ≡ false → begun_by b d ≡ None
on_begun b d some vain =
    ap (λ t. if t then (if d.vain then Some (longer b d.spot) else None) else b) some
    ∙ ap (λ t. if t then Some (longer b d.spot) else None) vain

look_of : (d : Deed) (s v : Bool) → is_some d.shape ≡ s → d.vain ≡ v → is_look d ≡ (s && v)
look_of d s v some vain = ap (λ t. t && d.vain) some ∙ ap (λ t. s && t) vain

on_of : (d : Deed) (s v : Bool) → is_some d.shape ≡ s → d.vain ≡ v → goes_on d ≡ (s && not v)
on_of d s v some vain = ap (λ t. t && not d.vain) some ∙ ap (λ t. s && not t) vain

-- a look is a call in vain, and what goes on is a call that isn't
both_true : (a b : Bool) → a && b ≡ true → (a ≡ true) × (b ≡ true)
both_true true true e = (refl, refl)
both_true true false e = absurd (cc)
both_true false b e = absurd (cc)

not_true : (b : Bool) → not b ≡ true → b ≡ false
not_true false e = refl
not_true true e = absurd (cc)

-- ---- nothing is waited for

over_kept : (pre : List Deed) (d : Deed) → is_look d ≡ false → AreOver pre → AreOver (pre ++ d ∷ [])
over_kept [] d none over = ((λ look. absurd (false≢true (sym none ∙ look))), tt)
over_kept (e ∷ pre) d none over = (
  λ look. list_any-append goes_on pre (d ∷ [])
      ∙ or_left (list_any goes_on pre) (list_any goes_on (d ∷ [])) (over.0 look),
  over_kept pre d none over.1,
)

any_one : (d : Deed) → goes_on d ≡ true → list_any goes_on (d ∷ []) ≡ true
any_one d on = ap (λ t. t || false) on

none_one : (d : Deed) → goes_on d ≡ false → list_any goes_on (d ∷ []) ≡ false
none_one d on = ap (λ t. t || false) on

over_ended : (pre : List Deed) (d : Deed) → goes_on d ≡ true → is_look d ≡ false → AreOver (pre ++ d ∷ [])
over_ended [] d on none = ((λ look. absurd (false≢true (sym none ∙ look))), tt)
over_ended (e ∷ pre) d on none = (
  λ look. list_any-append goes_on pre (d ∷ [])
      ∙ or_right (list_any goes_on pre) (list_any goes_on (d ∷ [])) (any_one d on),
  over_ended pre d on none,
)

none_more : (since : List Deed) (d : Deed) → list_any goes_on since ≡ false → goes_on d ≡ false
    → list_any goes_on (since ++ d ∷ []) ≡ false
none_more since d none on =
    list_any-append goes_on since (d ∷ []) ∙ ap (λ t. t || list_any goes_on (d ∷ [])) none ∙ none_one d on

looks_quiet : (since : List Deed) (d : Deed) → is_look d ≡ false
    → length (filter is_look (since ++ d ∷ [])) ≡ length (filter is_look since)
looks_quiet since d none =
    ap length (filter-append is_look since (d ∷ []))
    ∙ ap (λ b. length (filter is_look since ++ (if b then d ∷ [] else []))) none
    ∙ ap length (append-nil (filter is_look since))

looks_more : (since : List Deed) (d : Deed) → is_look d ≡ true
    → length (filter is_look (since ++ d ∷ [])) ≡ length (filter is_look since) + 1
looks_more since d look =
    ap length (filter-append is_look since (d ∷ []))
    ∙ ap (λ b. length (filter is_look since ++ (if b then d ∷ [] else []))) look
    ∙ length-append (filter is_look since) (d ∷ [])

-- ---- what is known behind some steps of a hart

abbrev Stands : List Deed → Option Bar → Type 0
Stands own None = AreOver own
Stands own (Some bar) = IsWaiting own bar

longer_since : (spot other : Spot) (n m : ℕ) → m ≡ n + 1 → longer (Some (bar_since spot n)) other ≡ bar_since spot m
longer_since spot other n m e =
    let same : min (min (n + 1) (2 ^ 64 - 1) + 1) (2 ^ 64 - 1) ≡ min (m + 1) (2 ^ 64 - 1) = omega (arith, e) in
    ap (λ k. record { first = spot; last = 0; went_on = false; looks = k }) same

first_since : (spot : Spot) → longer None spot ≡ bar_since spot 0
first_since spot =
    let same : 1 ≡ min (0 + 1) (2 ^ 64 - 1) = omega arith in
    ap (λ k. record { first = spot; last = 0; went_on = false; looks = k }) same

waits_first : (pre : List Deed) (d : Deed) → AreOver pre → is_look d ≡ true → IsWaiting (pre ++ d ∷ []) (longer None d.spot)
waits_first pre d over look = record {
  before = pre;
  first = d;
  since = [];
  all = refl;
  over = over;
  look = look;
  none_went_on = refl;
  bar_is = first_since d.spot;
}

waits_more : (pre : List Deed) (b : Bar) (d : Deed) → IsWaiting pre b → is_look d ≡ true → goes_on d ≡ false
    → IsWaiting (pre ++ d ∷ []) (longer (Some b) d.spot)
waits_more pre b d w look on = record {
  before = w.before;
  first = w.first;
  since = w.since ++ d ∷ [];
  all = ap (λ l. l ++ d ∷ []) w.all ∙ append_assoc w.before (w.first ∷ w.since) (d ∷ []);
  over = w.over;
  look = w.look;
  none_went_on = none_more w.since d w.none_went_on on;
  bar_is = ap (λ c. longer (Some c) d.spot) w.bar_is
      ∙ longer_since w.first.spot d.spot (length (filter is_look w.since)) (length (filter is_look (w.since ++ d ∷ [])))
      (looks_more w.since d look);
}

waits_still : (pre : List Deed) (b : Bar) (d : Deed) → IsWaiting pre b → is_look d ≡ false → goes_on d ≡ false
    → IsWaiting (pre ++ d ∷ []) b
waits_still pre b d w look on = record {
  before = w.before;
  first = w.first;
  since = w.since ++ d ∷ [];
  all = ap (λ l. l ++ d ∷ []) w.all ∙ append_assoc w.before (w.first ∷ w.since) (d ∷ []);
  over = w.over;
  look = w.look;
  none_went_on = none_more w.since d w.none_went_on on;
  bar_is = w.bar_is ∙ ap (bar_since w.first.spot) (sym (looks_quiet w.since d look));
}

step : (pre : List Deed) (b : Option Bar) (d : Deed) → Stands pre b → Stands (pre ++ d ∷ []) (begun_by b d)
step pre b d stands = go (is_some d.shape) d.vain refl refl
  where
    quiet : (c : Option Bar) → Stands pre c → is_look d ≡ false → goes_on d ≡ false → Stands (pre ++ d ∷ []) c
    quiet None over look on = over_kept pre d look over
    quiet (Some bar) w look on = waits_still pre bar d w look on

    look : (c : Option Bar) → Stands pre c → is_look d ≡ true → goes_on d ≡ false
        → Stands (pre ++ d ∷ []) (Some (longer c d.spot))
    look None over is on = waits_first pre d over is
    look (Some bar) w is on = waits_more pre bar d w is on

    go : (s v : Bool) → is_some d.shape ≡ s → d.vain ≡ v → Stands (pre ++ d ∷ []) (begun_by b d)
    go false v some vain =
        subst (Stands (pre ++ d ∷ [])) (sym (quiet_begun b d some))
        (quiet b stands (look_of d false v some vain) (on_of d false v some vain))
    go true true some vain =
        subst (Stands (pre ++ d ∷ [])) (sym (look_begun b d some vain))
        (look b stands (look_of d true true some vain) (on_of d true true some vain))
    go true false some vain =
        subst (Stands (pre ++ d ∷ [])) (sym (on_begun b d some vain))
        (over_ended pre d (on_of d true false some vain) (look_of d true false some vain))

run : (pre own : List Deed) (b : Option Bar) → Stands pre b → Stands (pre ++ own) (begun_after b own)
run pre [] b stands = subst (λ l. Stands l b) (sym (append-nil pre)) stands
run pre (d ∷ own) b stands =
    subst (λ l. Stands l (begun_after (begun_by b d) own)) (append_assoc pre (d ∷ []) own)
    (run (pre ++ d ∷ []) own (begun_by b d) (step pre b d stands))

-- ---- a hart waits exactly where its bar is begun

after_append : (b : Option Bar) (xs ys : List Deed) → begun_after b (xs ++ ys) ≡ begun_after (begun_after b xs) ys
after_append b [] ys = refl
after_append b (x ∷ xs) ys = after_append (begun_by b x) xs ys

-- where all looks are over no bar is begun: a wait would have a look that nothing followed
any_behind : (before : List Deed) (first : Deed) (since : List Deed) → AreOver (before ++ first ∷ since)
    → is_look first ≡ true → list_any goes_on since ≡ true
any_behind [] first since over look = over.0 look
any_behind (d ∷ before) first since over look = any_behind before first since over.1 look

none_begun : (own : List Deed) → AreOver own → begun_after None own ≡ None
none_begun own over = go (begun_after None own) (run [] own None tt)
  where
    go : (b : Option Bar) → Stands own b → b ≡ None
    go None stands = refl
    go (Some bar) w =
        absurd (false≢true (sym w.none_went_on
        ∙ any_behind w.before w.first w.since (subst AreOver w.all over) w.look))

no_end : (a b : Bool) → a || b ≡ false → (a ≡ false) × (b ≡ false)
no_end false b e = (refl, e)
no_end true b e = absurd (cc)

one_more : (n k : ℕ) → n + 1 + k ≡ n + suc k
one_more n k = omega arith

kept_begun : (spot : Spot) (n : ℕ) (since : List Deed) → list_any goes_on since ≡ false
    → begun_after (Some (bar_since spot n)) since ≡ Some (bar_since spot (n + length (filter is_look since)))
kept_begun spot n [] none = ap (λ m. Some (bar_since spot m)) (omega arith)
kept_begun spot n (d ∷ since) none =
    go (is_some d.shape) d.vain refl refl (λ m. kept_begun spot m since parts.1)
  where
    parts : (goes_on d ≡ false) × (list_any goes_on since ≡ false)
    parts = no_end (goes_on d) (list_any goes_on since) none

    go : (s v : Bool) → is_some d.shape ≡ s → d.vain ≡ v
        → ((m : ℕ) → begun_after (Some (bar_since spot m)) since
        ≡ Some (bar_since spot (m + length (filter is_look since))))
        → begun_after (begun_by (Some (bar_since spot n)) d) since
        ≡ Some (bar_since spot (n + length (filter is_look (d ∷ since))))
    go false v some vain rest =
        ap (λ b. begun_after b since) (quiet_begun (Some (bar_since spot n)) d some)
        ∙ rest n
        ∙ ap (λ t. Some (bar_since spot (n + length (if t then d ∷ filter is_look since else filter is_look since))))
        (sym (look_of d false v some vain))
    go true true some vain rest =
        ap (λ b. begun_after b since) (look_begun (Some (bar_since spot n)) d some vain)
        ∙ ap (λ b. begun_after (Some b) since) (longer_since spot d.spot n (n + 1) refl)
        ∙ rest (n + 1)
        ∙ ap (λ m. Some (bar_since spot m)) (one_more n (length (filter is_look since)))
        ∙ ap (λ t. Some (bar_since spot (n + length (if t then d ∷ filter is_look since else filter is_look since))))
        (sym (look_of d true true some vain))
    go true false some vain rest = absurd (false≢true (sym parts.0 ∙ on_of d true false some vain))

none_more_than : (k : ℕ) → 0 + k ≡ k
none_more_than k = omega arith

begun_waits : (own : List Deed) (bar : Bar) → IsWaiting own bar → begun_after None own ≡ Some bar
begun_waits own bar w =
    let look = both_true (is_some w.first.shape) w.first.vain w.look in
    ap (begun_after None) w.all
    ∙ after_append None w.before (w.first ∷ w.since)
    ∙ ap (λ b. begun_after b (w.first ∷ w.since)) (none_begun w.before w.over)
    ∙ ap (λ b. begun_after b w.since) (look_begun None w.first look.0 look.1)
    ∙ ap (λ b. begun_after (Some b) w.since) (first_since w.first.spot)
    ∙ kept_begun w.first.spot 0 w.since w.none_went_on
    ∙ ap (λ n. Some (bar_since w.first.spot n)) (none_more_than (length (filter is_look w.since)))
    ∙ ap Some (sym w.bar_is)

waits_begun : (own : List Deed) (bar : Bar) → begun_after None own ≡ Some bar → IsWaiting own bar
waits_begun own bar e = subst (Stands own) e (run [] own None tt)

pub waiting_law : WaitingLaw
waiting_law own bar = (waits_begun own bar, begun_waits own bar)

-- ---- a bar that ended

ended_on : (b : Option Bar) (d : Deed) → goes_on d ≡ true → ended_by b d ≡ ended_if b d.spot
ended_on b d on =
    let p = both_true (is_some d.shape) (not d.vain) on in
    ap (λ t. if t then (if d.vain then [] else ended_if b d.spot) else []) p.0
    ∙ ap (λ t. if t then [] else ended_if b d.spot) (not_true d.vain p.1)

-- the step went on, and its hart's bar was begun
record IsEndedBy (b : Option Bar) (d : Deed) (bar : Bar) : Type 0 where
  begun : Bar
  was : b ≡ Some begun
  on : goes_on d ≡ true
  is : bar ≡ bar_ended begun d.spot

ended : (b : Option Bar) (d : Deed) (bar : Bar) → IsAmong (ended_by b d) bar → IsEndedBy b d bar
ended b d bar is = go (is_some d.shape) d.vain refl refl is
  where
    of_begun : (c : Option Bar) → b ≡ c → goes_on d ≡ true → IsAmong (ended_if c d.spot) bar → IsEndedBy b d bar
    of_begun None was on there = absurd (among_none bar there)
    of_begun (Some begun) was on there = record {
      begun = begun;
      was = was;
      on = on;
      is = among_one (bar_ended begun d.spot) bar there;
    }

    go : (s v : Bool) → is_some d.shape ≡ s → d.vain ≡ v
        → IsAmong (if s then (if v then [] else ended_if b d.spot) else []) bar → IsEndedBy b d bar
    go false v some vain there = absurd (among_none bar there)
    go true true some vain there = absurd (among_none bar there)
    go true false some vain there = of_begun b refl (on_of d true false some vain) there

begun_some : (o : Option (Option Bar)) (begun : Bar) → begun_at o ≡ Some begun → o ≡ Some (Some begun)
begun_some None begun e = absurd (cc)
begun_some (Some b) begun e = ap Some e

waited : (scope : Scope) (deeds : List Deed) (bar : Bar) → IsAmong (bars_of scope deeds) bar → IsWaited scope deeds bar
waited scope deeds bar is =
    let a = added_by (bars_by scope) deeds bar is in
    let e = ended (begun_before scope a.before a.deed.spot) a.deed bar a.added in
    let w = within_some (scope.ranks * scope.harts) (begun_of scope.harts a.before) (lane_of scope.harts a.deed.spot)
    (Some e.begun)
    (begun_some (within (scope.ranks * scope.harts) (begun_of scope.harts a.before) (lane_of scope.harts a.deed.spot))
    e.begun e.was) in
    record {
      before = a.before;
      ender = a.deed;
      after = a.after;
      all = a.all;
      ends = e.on;
      lane = ltb-true (lane_of scope.harts a.deed.spot) (scope.ranks * scope.harts) w.0;
      begun = e.begun;
      waiting = waits_begun (of_lane scope.harts (lane_of scope.harts a.deed.spot) a.before) e.begun (sym w.1);
      bar_is = e.is;
    }

by_waited : (scope : Scope) (deeds : List Deed) (bar : Bar) → IsWaited scope deeds bar → IsAmong (bars_of scope deeds) bar
by_waited scope deeds bar w =
    let lane = lane_of scope.harts w.ender.spot in
    let below : nat_lt lane (scope.ranks * scope.harts) ≡ true = lt-ltb lane (scope.ranks * scope.harts) w.lane in
    let begun : begun_before scope w.before w.ender.spot ≡ Some w.begun =
    ap (λ t. begun_at (if t then Some (begun_of scope.harts w.before lane) else None)) below
    ∙ begun_waits (of_lane scope.harts lane w.before) w.begun w.waiting in
    let added : bars_by scope w.before w.ender ≡ bar_ended w.begun w.ender.spot ∷ [] =
    ended_on (begun_before scope w.before w.ender.spot) w.ender w.ends ∙ ap (λ b. ended_if b w.ender.spot) begun in
    by_added (bars_by scope) deeds bar (record {
      before = w.before;
      deed = w.ender;
      after = w.after;
      all = w.all;
      added = subst (λ l. IsAmong l bar) (sym added)
          (subst (λ b. IsAmong (b ∷ []) bar) w.bar_is (among_first bar []));
    })

pub bars_law : BarsLaw
bars_law scope deeds bar = (waited scope deeds bar, by_waited scope deeds bar)
