-- What each call keeps of a sending side.
use Rattle.std.proofs.Common.{◌≡◌, ◌≢◌, ℕ, zero, suc, ◌+◌, ◌-◌, ◌<◌, ◌≤◌, List, [], ◌∷◌, length, map, set, get_or, Bool}
use Rattle.std.proofs.Common.{true, false, Option, Some, None, refl, sym, ap, ◌∙◌, subst, ⊎_elim, arith}
use Rattle.std.proofs.Common.{get_or-set_other, get_or-set_same}
use Rattle.std.specs.Prelude.{slice_get, option_map, max, is_some, All, ◌==◌, if◌then◌else◌}
use Rattle.std.proofs.lemmas.List.{length-set, length-map}
use Rattle.std.proofs.lemmas.Bool.{cases_eq, cases_lt, eqb-true, eqb-false}
use Rattle.std.proofs.lemmas.Option.{slice_get-map}
use Rattle.part_box.specs.Gate.{taken_stamp}
use Rattle.part_box.specs.Keys.{BoxId, Place, Sender, new_sender, after_freed}
use Rattle.part_channel.specs.declared.progress.Progress.TheVariants.{AllFreed, NotReady, Missed, Freed}
use Rattle.part_channel.specs.Channels.{box_of, sender_box}
use Rattle.part_channel.specs.Sending.{SendView, is_ready, ready_refusal, looks_at, looked, shown, one_freed, tested}
use Rattle.part_channel.specs.Sending.{shown_progress, test_progress, one_if, phase_of, none_marked, IsSendLane}
use Rattle.part_channel.specs.Sending.{AreSendLanes, IsPast}
use Rattle.part_channel.proofs.Lists.{read_at, some_same, get_set, there, unmarked, all_unmarked, not_le}

off : true ≡ false → ⊥
off e = cc

-- a key of a list and the box beside it
pub own_at : (ks : List Sender) (ps : List Place) (boxes : List BoxId) (i : ℕ) (k : Sender) (p : Place)
    → map box_of ps ≡ boxes → map sender_box ks ≡ boxes → slice_get ks i ≡ Some k → slice_get ps i ≡ Some p
    → k.at ≡ p.at
own_at ks ps boxes i k p places keys at there = some_same k.at p.at
    (sym (slice_get-map sender_box ks i ∙ ap (λ o. option_map sender_box o) at)
    ∙ (ap (λ l. slice_get l i) (keys ∙ sym places)
    ∙ (slice_get-map box_of ps i ∙ ap (λ o. option_map box_of o) there)))

-- the key that was read is that of its partition
pub key_read : (keys : List Sender) (parts freed : ℕ) (ready : List Bool) (i : ℕ) (key : Sender)
    → AreSendLanes keys parts freed ready → i < parts → key ≡ get_or keys i key → slice_get keys i ≡ Some key
key_read keys parts freed ready i key h low is =
    let long : length keys ≡ 16 = h.long in
    let most : parts ≤ 16 = h.most in
    read_at keys i key (omega (arith, low, long, most)) is

-- what a side with these fields is seen as
abbrev pub send_view : List Sender → ℕ → ℕ → ℕ → List Bool → SendView
send_view keys parts size freed ready =
    record { keys = keys; parts = parts; size = size; phase = phase_of keys ready; ready = ready; freed = freed }

-- what one lane's step does to the phase
phase_set : (keys : List Sender) (was now : List Bool) (i : ℕ) (old new : Sender) → slice_get keys i ≡ Some old
    → ((j : ℕ) → j ≢ i → get_or now j false ≡ get_or was j false)
    → length new.view.made - one_if (get_or now i false) ≡ length old.view.made - one_if (get_or was i false)
    → phase_of (set keys i new) now ≡ phase_of keys was
phase_set [] was now i old new at others same = absurd (cc)
phase_set (k ∷ ks) was now zero old new at others same =
    same ∙ ap (λ (z : Sender). length z.view.made - one_if (get_or was 0 false)) (sym (some_same k old at))
phase_set (k ∷ ks) was now (suc i) old new at others same =
    ap (λ (b : Bool). length k.view.made - one_if b) (others 0 (λ e. omega (arith, e)))

-- a partition is made ready
pub phase_ready : (keys : List Sender) (parts freed : ℕ) (ready : List Bool) (i : ℕ) (old new : Sender)
    → AreSendLanes keys parts freed ready → slice_get keys i ≡ Some old → i < parts → get_or ready i false ≡ false
    → length new.view.made ≡ length old.view.made + 1
    → phase_of (set keys i new) (set ready i true) ≡ phase_of keys ready
phase_ready keys parts freed ready i old new h at low unready made =
    let flags : length ready ≡ 16 = h.flags in
    let most : parts ≤ 16 = h.most in
    let here : get_or (set ready i true) i false ≡ true = get_or-set_same ready i true false (omega arith) in
    let count : length new.view.made - one_if (get_or (set ready i true) i false)
    ≡ length old.view.made - one_if (get_or ready i false) =
    ap (λ (b : Bool). length new.view.made - one_if b) here
    ∙ (ap (λ n. n - 1) made ∙ ((omega arith) ∙ ap (λ (b : Bool). length old.view.made - one_if b) (sym unready))) in
    phase_set keys ready (set ready i true) i old new at (λ j ne. get_or-set_other ready i j true false ne) count

pub keeps_ready : (keys : List Sender) (parts freed : ℕ) (ready : List Bool) (i : ℕ) (old new : Sender)
    → AreSendLanes keys parts freed ready → slice_get keys i ≡ Some old → i < parts → freed < parts
    → get_or ready i false ≡ false
    → new.view.filled ≡ [] → length new.view.made ≡ length old.view.made + 1
    → AreSendLanes (set keys i new) parts freed (set ready i true)
keeps_ready keys parts freed ready i old new h at low active unready filled made =
    let flags : length ready ≡ 16 = h.flags in
    let most : parts ≤ 16 = h.most in
    let inside : i < length ready = omega arith in
    let mine = h.lanes i old at in
    let here : get_or (set ready i true) i false ≡ true = get_or-set_same ready i true false inside in
    let others : (j : ℕ) → j ≢ i
    → get_or (set ready i true) j false ≡ get_or ready j false = λ j ne. get_or-set_other ready i j true false ne in
    let phase = phase_ready keys parts freed ready i old new h at low unready made in
    let was : length old.view.made ≡ phase_of keys ready + one_if (get_or ready i false) = mine.made low in
    let was' : length old.view.made ≡ phase_of keys ready + 0 =
    was ∙ ap (λ (b : Bool). phase_of keys ready + one_if b) unready in
    record {
      long = length-set keys i new ∙ h.long;
      flags = length-set ready i true ∙ h.flags;
      most = h.most;
      within = h.within;
      lanes = λ j key e.
          subst (λ n. IsSendLane n parts freed j key.view (get_or (set ready i true) j false)) (sym phase) (⊎_elim
          (λ (x : (j ≡ i) × (new ≡ key)).
          subst (λ (y : ℕ × Sender).
          IsSendLane (phase_of keys ready) parts freed y.0 y.1.view (get_or (set ready i true) y.0 false))
          (λ t. (sym x.0 t, x.1 t))
          (subst (λ (b : Bool). IsSendLane (phase_of keys ready) parts freed i new.view b) (sym here) (record {
            filled = filled;
            made = λ _. made ∙ (ap (λ n. n + 1) was' ∙ omega arith);
            past = λ high. absurd (omega (arith, high, low));
            waiting = λ e. absurd (off e);
            opened = λ below. absurd (off (sym (mine.done below active) ∙ unready));
            done = λ _ _. refl;
            idle = λ e. absurd (omega (arith, e, active));
          })))
          (λ (x : (j ≢ i) × (slice_get keys j ≡ Some key)).
          subst (λ (b : Bool). IsSendLane (phase_of keys ready) parts freed j key.view b) (sym (others j x.0))
          (h.lanes j key x.1))
          (get_set keys i j new key e));
    }

pub no_refusal : (side : SendView) (part : ℕ) → part < side.parts → side.freed < side.parts
    → get_or side.ready part false ≡ false → ready_refusal side part ≡ None
no_refusal side part low active unready =
    simp (not_le side.parts part low, not_le side.parts side.freed active, unready) refl

-- a step that makes nothing leaves the phase
pub phase_same : (keys : List Sender) (ready : List Bool) (i : ℕ) (old new : Sender) → slice_get keys i ≡ Some old
    → new.view.made ≡ old.view.made → phase_of (set keys i new) ready ≡ phase_of keys ready
phase_same [] ready i old new at same = absurd (cc)
phase_same (k ∷ ks) ready zero old new at same =
    ap (λ l. length l - one_if (get_or ready 0 false))
    (same ∙ ap (λ (z : Sender). z.view.made) (sym (some_same k old at)))
phase_same (k ∷ ks) ready (suc i) old new at same = refl

-- with no partition ready the phase is the next
next_phase : (keys : List Sender) (parts freed : ℕ) (ready : List Bool) → AreSendLanes keys parts freed ready
    → 0 < parts → get_or ready 0 false ≡ true → phase_of keys none_marked ≡ phase_of keys ready + 1
next_phase [] parts freed ready h some on = absurd (omega (arith, h.long))
next_phase (k ∷ ks) parts freed ready h some on =
    let gone : length k.view.made - 0 ≡ length k.view.made = omega arith in
    gone ∙ ((h.lanes 0 k refl).made some ∙ ap (λ (b : Bool). phase_of (k ∷ ks) ready + one_if b) on)

-- a look that misses
pub keeps_missed : (keys : List Sender) (parts freed : ℕ) (ready : List Bool) (old new : Sender)
    → AreSendLanes keys parts freed ready → slice_get keys freed ≡ Some old → freed < parts
    → get_or ready freed false ≡ true
    → new.view.filled ≡ [] → new.view.made ≡ old.view.made → AreSendLanes (set keys freed new) parts freed ready
keeps_missed keys parts freed ready old new h at active on filled made =
    let mine = h.lanes freed old at in record {
      long = length-set keys freed new ∙ h.long;
      flags = h.flags;
      most = h.most;
      within = h.within;
      lanes = λ j key e.
          subst (λ n. IsSendLane n parts freed j key.view (get_or ready j false))
          (sym (phase_same keys ready freed old new at made)) (⊎_elim
          (λ (x : (j ≡ freed) × (new ≡ key)).
          subst (λ (y : ℕ × Sender).
          IsSendLane (phase_of keys ready) parts freed y.0 y.1.view (get_or ready y.0 false))
          (λ t. (sym x.0 t, x.1 t)) (record {
            filled = filled;
            made = λ low. ap length made ∙ mine.made low;
            past = λ high. absurd (omega (arith, high, active));
            waiting = λ e. absurd (off (sym on ∙ e));
            opened = λ below. absurd (omega (arith, below));
            done = λ below _. absurd (omega (arith, below));
            idle = λ e. absurd (omega (arith, e, active));
          }))
          (λ (x : (j ≢ freed) × (slice_get keys j ≡ Some key)). h.lanes j key x.1)
          (get_set keys freed j new key e));
    }

-- a take is seen, and others are left
keeps_more : (keys : List Sender) (parts freed : ℕ) (ready : List Bool) (old new : Sender)
    → AreSendLanes keys parts freed ready → slice_get keys freed ≡ Some old → freed + 1 < parts
    → get_or ready freed false ≡ true
    → new.view.filled ≡ [] → new.view.made ≡ old.view.made → new.view.is_open ≡ true
    → AreSendLanes (set keys freed new) parts (freed + 1) ready
keeps_more keys parts freed ready old new h at active on filled made opened =
    let mine = h.lanes freed old at in record {
      long = length-set keys freed new ∙ h.long;
      flags = h.flags;
      most = h.most;
      within = omega arith;
      lanes = λ j key e.
          subst (λ n. IsSendLane n parts (freed + 1) j key.view (get_or ready j false))
          (sym (phase_same keys ready freed old new at made)) (⊎_elim
          (λ (x : (j ≡ freed) × (new ≡ key)).
          subst (λ (y : ℕ × Sender).
          IsSendLane (phase_of keys ready) parts (freed + 1) y.0 y.1.view (get_or ready y.0 false))
          (λ t. (sym x.0 t, x.1 t)) (record {
            filled = filled;
            made = λ low. ap length made ∙ mine.made low;
            past = λ high. absurd (omega (arith, high, active));
            waiting = λ _. opened;
            opened = λ _. opened;
            done = λ _ _. on;
            idle = λ e. absurd (omega (arith, e, active));
          }))
          (λ (x : (j ≢ freed) × (slice_get keys j ≡ Some key)). let ne : j ≢ freed = x.0 in
          let lane = h.lanes j key x.1 in record {
            filled = lane.filled;
            made = lane.made;
            past = lane.past;
            waiting = lane.waiting;
            opened = λ below. lane.opened (omega (arith, below, ne));
            done = λ below _. lane.done (omega (arith, below, ne)) (omega (arith, active));
            idle = λ e. absurd (omega (arith, e, active));
          })
          (get_set keys freed j new key e));
    }

-- where the last is freed each was ready
all_ready : (keys : List Sender) (parts freed : ℕ) (ready : List Bool) → AreSendLanes keys parts freed ready
    → freed + 1 ≡ parts → get_or ready freed false ≡ true → (j : ℕ) → j < parts → get_or ready j false ≡ true
all_ready keys parts freed ready h last on j low = ⊎_elim
    (λ (e : j ≡ freed). subst (λ n. get_or ready n false ≡ true) (sym e) on)
    (λ (ne : j ≡ freed → ⊥).
    let apart : j ≢ freed = ne in
    let long : length keys ≡ 16 = h.long in
    let most : parts ≤ 16 = h.most in
    let found = there keys j (omega (arith, low)) in
    (h.lanes j found.0 found.1).done (omega (arith, low, apart, last)) (omega (arith, last)))
    (cases_eq j freed)

-- the last take is seen, which ends the phase
phase_last : (keys : List Sender) (parts freed : ℕ) (ready : List Bool) (old new : Sender)
    → AreSendLanes keys parts freed ready → slice_get keys freed ≡ Some old → freed + 1 ≡ parts
    → get_or ready freed false ≡ true → new.view.made ≡ old.view.made
    → phase_of (set keys freed new) none_marked ≡ phase_of keys ready + 1
phase_last keys parts freed ready old new h at last on made =
    phase_same keys none_marked freed old new at made
    ∙ next_phase keys parts freed ready h (omega arith) (all_ready keys parts freed ready h last on 0 (omega arith))

keeps_last : (keys : List Sender) (parts freed : ℕ) (ready : List Bool) (old new : Sender)
    → AreSendLanes keys parts freed ready → slice_get keys freed ≡ Some old → freed + 1 ≡ parts
    → get_or ready freed false ≡ true
    → new.view.filled ≡ [] → new.view.made ≡ old.view.made → new.view.is_open ≡ true
    → AreSendLanes (set keys freed new) parts (freed + 1) none_marked
keeps_last keys parts freed ready old new h at last on filled made opened =
    let mine = h.lanes freed old at in
    let active : freed < parts = omega arith in
    let all_on = all_ready keys parts freed ready h last on in
    let phase = phase_last keys parts freed ready old new h at last on made in
    record {
      long = length-set keys freed new ∙ h.long;
      flags = refl;
      most = h.most;
      within = omega arith;
      lanes = λ j key e.
          subst (λ n. IsSendLane n parts (freed + 1) j key.view (get_or none_marked j false)) (sym phase) (⊎_elim
          (λ (x : (j ≡ freed) × (new ≡ key)).
          subst (λ (y : ℕ × Sender).
          IsSendLane (phase_of keys ready + 1) parts (freed + 1) y.0 y.1.view (get_or none_marked y.0 false))
          (λ t. (sym x.0 t, x.1 t)) (record {
            filled = filled;
            made = λ low. ap length made ∙ (mine.made low ∙ count freed on);
            past = λ high. absurd (omega (arith, high, active));
            waiting = λ _. opened;
            opened = λ _. opened;
            done = λ _ low. absurd (omega (arith, low, last));
            idle = λ _. unmarked freed;
          }))
          (λ (x : (j ≢ freed) × (slice_get keys j ≡ Some key)). let ne : j ≢ freed = x.0 in
          let lane = h.lanes j key x.1 in record {
            filled = lane.filled;
            made = λ low. lane.made low ∙ count j (all_on j low);
            past = λ high. ((lane.past high).0, unmarked j);
            waiting = λ _. open_at j key x.1 ne;
            opened = λ below. lane.opened (omega (arith, below, ne));
            done = λ _ low. absurd (omega (arith, low, last));
            idle = λ _. unmarked j;
          })
          (get_set keys freed j new key e));
    }
  where
    count : (j : ℕ) → get_or ready j false ≡ true
        → phase_of keys ready + one_if (get_or ready j false)
        ≡ phase_of keys ready + 1 + one_if (get_or none_marked j false)
    count j is =
        ap (λ (b : Bool). phase_of keys ready + one_if b) is
        ∙ (omega arith ∙ ap (λ (b : Bool). phase_of keys ready + 1 + one_if b) (sym (unmarked j)))

    open_at : (j : ℕ) (key : Sender) → slice_get keys j ≡ Some key → j ≢ freed → key.view.is_open ≡ true
    open_at j key at' ne = let lane = h.lanes j key at' in ⊎_elim
        (λ (low : j < parts). lane.opened (omega (arith, low, ne, last)))
        (λ (high : parts ≤ j). lane.waiting (lane.past high).1)
        (cases_lt j parts)

-- a take is seen
pub keeps_freed : (keys : List Sender) (parts freed : ℕ) (ready : List Bool) (old new : Sender)
    → AreSendLanes keys parts freed ready → slice_get keys freed ≡ Some old → freed < parts
    → get_or ready freed false ≡ true
    → new.view.filled ≡ [] → new.view.made ≡ old.view.made → new.view.is_open ≡ true → (over : Bool)
    → (freed + 1 == parts) ≡ over
    → AreSendLanes (set keys freed new) parts (freed + 1) (if over then none_marked else ready)
keeps_freed keys parts freed ready old new h at active on filled made opened true is =
    keeps_last keys parts freed ready old new h at (eqb-true (freed + 1) parts is) on filled made opened
keeps_freed keys parts freed ready old new h at active on filled made opened false is =
    let ne : freed + 1 ≢ parts = eqb-false (freed + 1) parts is in
    keeps_more keys parts freed ready old new h at (omega arith) on filled made opened

pub phase_freed : (keys : List Sender) (parts freed : ℕ) (ready : List Bool) (old new : Sender)
    → AreSendLanes keys parts freed ready → slice_get keys freed ≡ Some old → get_or ready freed false ≡ true
    → new.view.made ≡ old.view.made
    → (over : Bool) → (freed + 1 == parts) ≡ over
    → phase_of (set keys freed new) (if over then none_marked else ready)
    ≡ (if over then phase_of keys ready + 1 else phase_of keys ready)
phase_freed keys parts freed ready old new h at on made true is =
    phase_last keys parts freed ready old new h at (eqb-true (freed + 1) parts is) on made
phase_freed keys parts freed ready old new h at on made false is = phase_same keys ready freed old new at made

pub opened_by : (key : Sender) (gate stamp : ℕ) → taken_stamp gate ≡ Some stamp
    → (after_freed key gate).view.is_open ≡ true
opened_by key gate stamp e = ap (λ (o : Option ℕ). if is_some o then true else key.view.is_open) e

-- What a test makes of a side whose lowest partition that isn't freed is ready

module _ (side : SendView) (gate : ℕ) (active : side.freed < side.parts)
    (on : get_or side.ready side.freed false ≡ true) where
  looks : looks_at side ≡ true
  looks = ap (λ (b : Bool). if b then false else is_ready side side.freed) (not_le side.parts side.freed active) ∙ on

  tested_shown : tested side gate ≡ shown (looked side gate) (taken_stamp gate)
  tested_shown = ap (λ (b : Bool). if b then shown (looked side gate) (taken_stamp gate) else side) looks

  pub tested_none : taken_stamp gate ≡ None → tested side gate ≡ looked side gate
  tested_none e = tested_shown ∙ ap (shown (looked side gate)) e

  pub tested_some : (stamp : ℕ) → taken_stamp gate ≡ Some stamp → tested side gate ≡ one_freed (looked side gate)
  tested_some stamp e = tested_shown ∙ ap (shown (looked side gate)) e

  progress_shown : (clock : ℕ) → test_progress side clock gate ≡ shown_progress clock (taken_stamp gate)
  progress_shown clock =
      ap (λ (b : Bool).
      if b then AllFreed else (if is_ready side side.freed then shown_progress clock (taken_stamp gate) else NotReady))
      (not_le side.parts side.freed active)
      ∙ ap (λ (b : Bool). if b then shown_progress clock (taken_stamp gate) else NotReady) on

  pub progress_none : (clock : ℕ) → taken_stamp gate ≡ None → test_progress side clock gate ≡ Missed (clock + 1)
  progress_none clock e = progress_shown clock ∙ ap (shown_progress clock) e

  pub progress_some : (clock stamp : ℕ) → taken_stamp gate ≡ Some stamp
      → test_progress side clock gate ≡ Freed (max clock stamp + 1)
  progress_some clock stamp e = progress_shown clock ∙ ap (shown_progress clock) e

-- A new side, its shape, and the beginning of a phase

-- each key of a new side is new
pub all_new : (boxes : List BoxId) (i : ℕ) (key : Sender) → slice_get (map new_sender boxes) i ≡ Some key
    → (box : BoxId) × (new_sender box ≡ key)
all_new [] i key e = absurd (cc)
all_new (b ∷ bs) zero key e = (b, some_same (new_sender b) key e)
all_new (b ∷ bs) (suc i) key e = all_new bs i key e

pub boxes_back : (boxes : List BoxId) → map sender_box (map new_sender boxes) ≡ boxes
boxes_back [] = refl
boxes_back (b ∷ bs) = ap (λ l. b ∷ l) (boxes_back bs)

-- a new side has ended no phase
pub new_phase : (boxes : List BoxId) → phase_of (map new_sender boxes) none_marked ≡ 0
new_phase [] = refl
new_phase (b ∷ bs) = refl

pub new_side : (boxes : List BoxId) (keys : List Sender) → length boxes ≡ 16 → keys ≡ map new_sender boxes
    → AreSendLanes keys 0 0 none_marked
new_side boxes keys long is = subst (λ l. AreSendLanes l 0 0 none_marked) (sym is) (record {
  long = length-map boxes new_sender ∙ long;
  flags = refl;
  most = omega arith;
  within = omega arith;
  lanes = λ i key e. let new = all_new boxes i key e in
      subst (λ (k : Sender).
      IsSendLane (phase_of (map new_sender boxes) none_marked) 0 0 i k.view (get_or none_marked i false)) new.1
      (record {
        filled = refl;
        made = λ low. absurd (omega (arith, low));
        past = λ _. (refl, unmarked i);
        waiting = λ _. refl;
        opened = λ _. refl;
        done = λ low _. absurd (omega (arith, low));
        idle = λ _. unmarked i;
      });
})

first_phase : (keys : List Sender) (freed : ℕ) (ready : List Bool) → AreSendLanes keys 0 freed ready
    → phase_of keys ready ≡ 0
first_phase [] freed ready h = refl
first_phase (k ∷ ks) freed ready h =
    let lane = (h.lanes 0 k refl).past (omega arith) in
    ap (λ l. length l - one_if (get_or ready 0 false)) lane.0 ∙ ap (λ b. 0 - one_if b) lane.1

pub keeps_shape : (keys : List Sender) (parts freed : ℕ) (ready : List Bool) → AreSendLanes keys 0 freed ready
    → parts ≤ 16 → AreSendLanes keys parts parts ready
keeps_shape keys parts freed ready h most = record {
  long = h.long;
  flags = h.flags;
  most = most;
  within = omega arith;
  lanes = λ i key e. let lane = h.lanes i key e in let none = lane.past (omega arith) in record {
    filled = lane.filled;
    made = λ _. ap length none.0
        ∙ (sym (first_phase keys freed ready h)
        ∙ (omega arith ∙ ap (λ b. phase_of keys ready + one_if b) (sym none.1)));
    past = λ _. none;
    waiting = lane.waiting;
    opened = λ _. lane.waiting none.1;
    done = λ low high. absurd (omega (arith, high));
    idle = λ _. none.1;
  };
}

pub keeps_start : (keys : List Sender) (parts freed : ℕ) (ready : List Bool) → AreSendLanes keys parts freed ready
    → freed ≡ parts → AreSendLanes keys parts 0 ready
keeps_start keys parts freed ready h ended = record {
  long = h.long;
  flags = h.flags;
  most = h.most;
  within = omega arith;
  lanes = λ i key e. let lane = h.lanes i key e in record {
    filled = lane.filled;
    made = lane.made;
    past = lane.past;
    waiting = lane.waiting;
    opened = λ low. absurd (omega (arith, low));
    done = λ low _. absurd (omega (arith, low));
    idle = λ _. lane.idle ended;
  };
}

-- between phases no partition is ready
pub idle_unmarked : (keys : List Sender) (parts freed : ℕ) (ready : List Bool) → AreSendLanes keys parts freed ready
    → freed ≡ parts → ready ≡ none_marked
idle_unmarked keys parts freed ready h ended =
    all_unmarked ready 16 h.flags
    (λ i low. let long : length keys ≡ 16 = h.long in let found = there keys i (omega (arith, low)) in
    (h.lanes i found.0 found.1).idle ended)

-- a key that stays in its box
pub boxes_set : (keys : List Sender) (boxes : List BoxId) (i : ℕ) (old new : Sender) → slice_get keys i ≡ Some old
    → new.at ≡ old.at → map sender_box keys ≡ boxes → map sender_box (set keys i new) ≡ boxes
boxes_set keys boxes i old new there same own = kept keys i there ∙ own
  where
    kept : (ks : List Sender) (j : ℕ) → slice_get ks j ≡ Some old → map sender_box (set ks j new) ≡ map sender_box ks
    kept [] j e = absurd (cc)
    kept (k ∷ ks) zero e = ap (λ b. b ∷ map sender_box ks) (same ∙ sym (ap sender_box (some_same k old e)))
    kept (k ∷ ks) (suc j) e = ap (λ l. sender_box k ∷ l) (kept ks j e)

-- a new side has stored and seen nothing
pub new_past : (boxes : List BoxId) (clock : ℕ) → All (λ key. key.view.front ≤ clock) (map new_sender boxes)
new_past [] clock i d low = absurd (omega (arith, low))
new_past (b ∷ bs) clock zero d low = omega arith
new_past (b ∷ bs) clock (suc i) d low = new_past bs clock i d (omega (arith, low))

-- a clock that is past all stamps of a side stays so as it goes on
pub past_later : (side : SendView) (clock later : ℕ) → clock ≤ later → IsPast side clock → IsPast side later
past_later side clock later on past i key low = let at = past i key low in omega (arith, on, at)
