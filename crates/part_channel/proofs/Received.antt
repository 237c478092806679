-- What each call keeps of a receiving side.
use Rattle.std.proofs.Common.{◌≡◌, ◌≢◌, ℕ, zero, suc, ◌+◌, ◌-◌, ◌*◌, ◌/◌, ◌%◌, ◌<◌, ◌≤◌, List, [], ◌∷◌, length, map}
use Rattle.std.proofs.Common.{set, get_or, Bool, true, false, Option, Some, None, refl, sym, ap, ◌∙◌, subst, ⊎_elim}
use Rattle.std.proofs.Common.{arith, get_or-set_other, get_or-set_same}
use Rattle.std.specs.Prelude.{slice_get, is_some, nat_lt, not, ◌&&◌, option_map, if◌then◌else◌}
use Rattle.std.proofs.lemmas.List.{length-set, length-map}
use Rattle.std.proofs.lemmas.Bool.{cases_eq, cases_lt}
use Rattle.std.proofs.lemmas.Option.{slice_get-map}
use Rattle.std.proofs.lemmas.Nat.{mul-le, div_below, mod_below, div-add-mod'}
use Rattle.std.proofs.Math.Nat.{suc-mul}
use Rattle.part_box.specs.Gate.{ready_stamp}
use Rattle.part_box.specs.Keys.{BoxId, Place, Receiver, new_receiver, after_copy}
use Rattle.part_channel.specs.declared.progress.Take.TheVariants as take
use Rattle.part_channel.specs.Channels.{box_of, receiver_box}
use Rattle.part_channel.specs.Sending.{one_if, none_marked}
use Rattle.part_channel.specs.Receiving.{RecvView, round_of, lowest_from, is_left, overlaps, are_left, take_refusal}
use Rattle.part_channel.specs.Receiving.{lane_shown, lane_took, shown_take, IsRecvLane, AreRecvLanes}
use Rattle.part_channel.proofs.Lists.{read_at, some_same, get_set, there, unmarked, all_unmarked, not_le}

off : true ≡ false → ⊥
off e = cc

-- the key that was read is that of its box
pub key_read : (keys : List Receiver) (boxes : ℕ) (active : Bool) (taken : List Bool) (i : ℕ) (key : Receiver)
    → AreRecvLanes keys boxes active taken → i < boxes → key ≡ get_or keys i key → slice_get keys i ≡ Some key
key_read keys boxes active taken i key h low is =
    let long : length keys ≡ 16 = h.long in
    let most : boxes ≤ 16 = h.most in
    read_at keys i key (omega (arith, low, long, most)) is

-- what a side with these fields is seen as, after so many phases
abbrev pub recv_view : List Receiver → ℕ → ℕ → ℕ → ℕ → ℕ → Bool → List Bool → RecvView
recv_view keys parts size boxes bytes phase active taken = record {
  keys = keys;
  parts = parts;
  size = size;
  boxes = boxes;
  bytes = bytes;
  phase = phase;
  active = active;
  taken = taken;
}

-- A new side, its cut, and the beginning of a phase

pub all_new : (boxes : List BoxId) (i : ℕ) (key : Receiver) → slice_get (map new_receiver boxes) i ≡ Some key
    → (box : BoxId) × (new_receiver box ≡ key)
all_new [] i key e = absurd (cc)
all_new (b ∷ bs) zero key e = (b, some_same (new_receiver b) key e)
all_new (b ∷ bs) (suc i) key e = all_new bs i key e

pub boxes_back : (boxes : List BoxId) → map receiver_box (map new_receiver boxes) ≡ boxes
boxes_back [] = refl
boxes_back (b ∷ bs) = ap (λ l. b ∷ l) (boxes_back bs)

pub new_side : (boxes : List BoxId) (keys : List Receiver) → length boxes ≡ 16 → keys ≡ map new_receiver boxes
    → AreRecvLanes keys 0 false none_marked
new_side boxes keys long is = subst (λ l. AreRecvLanes l 0 false none_marked) (sym is) (record {
  long = length-map boxes new_receiver ∙ long;
  flags = refl;
  most = omega arith;
  lanes = λ i key e. let new = all_new boxes i key e in
      subst (λ (k : Receiver).
      IsRecvLane (round_of (map new_receiver boxes) none_marked) 0 false i k.view (get_or none_marked i false)) new.1
      (record {
        seen = refl;
        copied = refl;
        got = λ low. absurd (omega (arith, low));
        past = λ _. (refl, unmarked i);
        idle = λ _. unmarked i;
      });
})

-- a new side has ended no phase
pub new_round : (boxes : List BoxId) → round_of (map new_receiver boxes) none_marked ≡ 0
new_round [] = refl
new_round (b ∷ bs) = refl

first_round : (keys : List Receiver) (active : Bool) (taken : List Bool) → AreRecvLanes keys 0 active taken
    → round_of keys taken ≡ 0
first_round [] active taken h = refl
first_round (k ∷ ks) active taken h =
    let lane = (h.lanes 0 k refl).past (omega arith) in
    ap (λ l. length l - one_if (get_or taken 0 false)) lane.0 ∙ ap (λ b. 0 - one_if b) lane.1

pub keeps_cut : (keys : List Receiver) (boxes : ℕ) (active : Bool) (taken : List Bool)
    → AreRecvLanes keys 0 active taken → boxes ≤ 16 → AreRecvLanes keys boxes active taken
keeps_cut keys boxes active taken h most = record {
  long = h.long;
  flags = h.flags;
  most = most;
  lanes = λ i key e. let lane = h.lanes i key e in let none = lane.past (omega arith) in record {
    seen = lane.seen;
    copied = lane.copied;
    got = λ _. ap length none.0
        ∙ (sym (first_round keys active taken h)
        ∙ (omega arith ∙ ap (λ b. round_of keys taken + one_if b) (sym none.1)));
    past = λ _. none;
    idle = lane.idle;
  };
}

pub keeps_start : (keys : List Receiver) (boxes : ℕ) (active : Bool) (taken : List Bool)
    → AreRecvLanes keys boxes active taken → AreRecvLanes keys boxes true taken
keeps_start keys boxes active taken h = record {
  long = h.long;
  flags = h.flags;
  most = h.most;
  lanes = λ i key e. let lane = h.lanes i key e in record {
    seen = lane.seen;
    copied = lane.copied;
    got = lane.got;
    past = lane.past;
    idle = λ e. absurd (cc);
  };
}

-- between phases no box is taken
pub idle_unmarked : (keys : List Receiver) (boxes : ℕ) (taken : List Bool) → AreRecvLanes keys boxes false taken
    → taken ≡ none_marked
idle_unmarked keys boxes taken h =
    all_unmarked taken 16 h.flags
    (λ i low. let long : length keys ≡ 16 = h.long in let found = there keys i (omega (arith, low)) in
    (h.lanes i found.0 found.1).idle refl)

-- a key of which words were copied
pub copy_kept : (from key now : Receiver) (word : ℕ)
    → key ≡ record from { view = record from.view { copied = key.view.copied } } → now ≡ after_copy key word
    → now ≡ record from { view = record from.view { copied = now.view.copied } }
copy_kept from key now word was is =
    is ∙ (ap (λ (k : Receiver). after_copy k word) was
    ∙ ap (λ (l : List ℕ). record from { view = record from.view { copied = l } })
    (sym (ap (λ (k : Receiver). k.view.copied) is)))

-- a number that doesn't pass is passed over
pub skips : (passes : ℕ → Bool) (i n : ℕ) → i < n → passes i ≡ false
    → lowest_from passes i (n - i) ≡ lowest_from passes (i + 1) (n - (i + 1))
skips passes i n low fails =
    let e : n - i ≡ suc (n - (i + 1)) = omega arith in
    ap (lowest_from passes i) e
    ∙ ap (λ (b : Bool). if b then Some i else lowest_from passes (i + 1) (n - (i + 1))) fails

-- a number that passes is the lowest from itself on
pub stops : (passes : ℕ → Bool) (i n : ℕ) → i < n → passes i ≡ true → lowest_from passes i (n - i) ≡ Some i
stops passes i n low holds =
    let e : n - i ≡ suc (n - (i + 1)) = omega arith in
    ap (lowest_from passes i) e
    ∙ ap (λ (b : Bool). if b then Some i else lowest_from passes (i + 1) (n - (i + 1))) holds

-- past the end there is none
pub none_left : (passes : ℕ → Bool) (i n : ℕ) → n ≤ i → lowest_from passes i (n - i) ≡ None
none_left passes i n high = let over : n - i ≡ 0 = omega arith in ap (lowest_from passes i) over

-- A take

pub own_at : (ks : List Receiver) (ps : List Place) (boxes : List BoxId) (i : ℕ) (k : Receiver) (p : Place)
    → map box_of ps ≡ boxes → map receiver_box ks ≡ boxes → slice_get ks i ≡ Some k → slice_get ps i ≡ Some p
    → k.at ≡ p.at
own_at ks ps boxes i k p places keys at there = some_same k.at p.at
    (sym (slice_get-map receiver_box ks i ∙ ap (λ o. option_map receiver_box o) at)
    ∙ (ap (λ l. slice_get l i) (keys ∙ sym places)
    ∙ (slice_get-map box_of ps i ∙ ap (λ o. option_map box_of o) there)))

pub no_refusal : (side : RecvView) (box : ℕ) → box < side.boxes → side.active ≡ true
    → get_or side.taken box false ≡ false → take_refusal side box ≡ None
no_refusal side box low on free = simp (not_le side.boxes box low, on, free) refl

-- what was answered shows what was seen
pub missed : (clock : ℕ) (words : List ℕ) (o : Option ℕ) (stamp : ℕ) → take.Missed stamp ≡ shown_take clock words o
    → o ≡ None
missed clock words None stamp e = refl
missed clock words (Some s) stamp e = absurd (cc)

pub taken : (clock : ℕ) (words : List ℕ) (o : Option ℕ) (bytes : List ℕ) (stamp : ℕ)
    → take.Taken bytes stamp ≡ shown_take clock words o → (s : ℕ) × (o ≡ Some s)
taken clock words None bytes stamp e = absurd (cc)
taken clock words (Some s) bytes stamp e = (s, refl)

round_set : (keys : List Receiver) (now was : List Bool) (i : ℕ) (old new : Receiver) → slice_get keys i ≡ Some old
    → ((j : ℕ) → j ≢ i → get_or now j false ≡ get_or was j false)
    → length new.view.got - one_if (get_or now i false) ≡ length old.view.got - one_if (get_or was i false)
    → round_of (set keys i new) now ≡ round_of keys was
round_set [] now was i old new at others same = absurd (cc)
round_set (k ∷ ks) now was zero old new at others same =
    same ∙ ap (λ (z : Receiver). length z.view.got - one_if (get_or was 0 false)) (sym (some_same k old at))
round_set (k ∷ ks) now was (suc i) old new at others same =
    ap (λ (b : Bool). length k.view.got - one_if b) (others 0 (λ e. omega (arith, e)))

-- a look that misses
pub round_missed : (keys : List Receiver) (taken : List Bool) (i : ℕ) (old new : Receiver) → slice_get keys i ≡ Some old
    → new.view.got ≡ old.view.got → round_of (set keys i new) taken ≡ round_of keys taken
round_missed keys taken i old new at got =
    round_set keys taken taken i old new at (λ _ _. refl) (ap (λ l. length l - one_if (get_or taken i false)) got)

pub keeps_missed : (keys : List Receiver) (boxes : ℕ) (active : Bool) (taken : List Bool) (i : ℕ) (old new : Receiver)
    → AreRecvLanes keys boxes active taken → slice_get keys i ≡ Some old → new.view.seen ≡ None → new.view.copied ≡ []
    → new.view.got ≡ old.view.got
    → AreRecvLanes (set keys i new) boxes active taken
keeps_missed keys boxes active taken i old new h at seen copied got =
    let mine = h.lanes i old at in
    let round = round_missed keys taken i old new at got in record {
      long = length-set keys i new ∙ h.long;
      flags = h.flags;
      most = h.most;
      lanes = λ j key e. subst (λ n. IsRecvLane n boxes active j key.view (get_or taken j false)) (sym round) (⊎_elim
          (λ (x : (j ≡ i) × (new ≡ key)).
          subst (λ (y : ℕ × Receiver).
          IsRecvLane (round_of keys taken) boxes active y.0 y.1.view (get_or taken y.0 false))
          (λ t. (sym x.0 t, x.1 t)) (record {
            seen = seen;
            copied = copied;
            got = λ low. ap length got ∙ mine.got low;
            past = λ high. (got ∙ (mine.past high).0, (mine.past high).1);
            idle = mine.idle;
          }))
          (λ (x : (j ≢ i) × (slice_get keys j ≡ Some key)). h.lanes j key x.1)
          (get_set keys i j new key e));
    }

-- one is taken, and the phase goes on
round_more : (keys : List Receiver) (boxes : ℕ) (taken : List Bool) (i : ℕ) (old new : Receiver)
    → AreRecvLanes keys boxes true taken → slice_get keys i ≡ Some old → i < boxes → get_or taken i false ≡ false
    → length new.view.got ≡ length old.view.got + 1
    → round_of (set keys i new) (set taken i true) ≡ round_of keys taken
round_more keys boxes taken i old new h at low free got =
    let flags : length taken ≡ 16 = h.flags in
    let most : boxes ≤ 16 = h.most in
    let here : get_or (set taken i true) i false ≡ true = get_or-set_same taken i true false (omega arith) in
    let count : length new.view.got - one_if (get_or (set taken i true) i false)
    ≡ length old.view.got - one_if (get_or taken i false) =
    ap (λ (b : Bool). length new.view.got - one_if b) here
    ∙ (ap (λ n. n - 1) got ∙ ((omega arith) ∙ ap (λ (b : Bool). length old.view.got - one_if b) (sym free))) in
    round_set keys (set taken i true) taken i old new at (λ j ne. get_or-set_other taken i j true false ne) count

keeps_more : (keys : List Receiver) (boxes : ℕ) (taken : List Bool) (i : ℕ) (old new : Receiver)
    → AreRecvLanes keys boxes true taken → slice_get keys i ≡ Some old → i < boxes → get_or taken i false ≡ false
    → new.view.seen ≡ None → new.view.copied ≡ [] → length new.view.got ≡ length old.view.got + 1
    → AreRecvLanes (set keys i new) boxes true (set taken i true)
keeps_more keys boxes taken i old new h at low free seen copied got =
    let flags : length taken ≡ 16 = h.flags in
    let most : boxes ≤ 16 = h.most in
    let here : get_or (set taken i true) i false ≡ true = get_or-set_same taken i true false (omega arith) in
    let round = round_more keys boxes taken i old new h at low free got in
    let was : length old.view.got ≡ round_of keys taken + 0 =
    (h.lanes i old at).got low ∙ ap (λ (b : Bool). round_of keys taken + one_if b) free in
    record {
      long = length-set keys i new ∙ h.long;
      flags = length-set taken i true ∙ h.flags;
      most = h.most;
      lanes = λ j key e.
          subst (λ n. IsRecvLane n boxes true j key.view (get_or (set taken i true) j false)) (sym round) (⊎_elim
          (λ (x : (j ≡ i) × (new ≡ key)).
          subst (λ (y : ℕ × Receiver).
          IsRecvLane (round_of keys taken) boxes true y.0 y.1.view (get_or (set taken i true) y.0 false))
          (λ t. (sym x.0 t, x.1 t))
          (subst (λ (b : Bool). IsRecvLane (round_of keys taken) boxes true i new.view b) (sym here) (record {
            seen = seen;
            copied = copied;
            got = λ _. got ∙ (ap (λ n. n + 1) was ∙ omega arith);
            past = λ high. absurd (omega (arith, high, low));
            idle = λ e. absurd (off e);
          })))
          (λ (x : (j ≢ i) × (slice_get keys j ≡ Some key)).
          subst (λ (b : Bool). IsRecvLane (round_of keys taken) boxes true j key.view b)
          (sym (get_or-set_other taken i j true false x.0)) (h.lanes j key x.1))
          (get_set keys i j new key e));
    }

-- where none passes, each fails
pub none_pass : (passes : ℕ → Bool) (first n : ℕ) → lowest_from passes first n ≡ None → (j : ℕ) → first ≤ j
    → j < first + n → passes j ≡ false
none_pass passes first zero e j low high = absurd (omega (arith, low, high))
none_pass passes first (suc n) e j low high =
    go (λ (rest : lowest_from passes (first + 1) n ≡ None) (apart : j ≢ first).
    none_pass passes (first + 1) n rest j (omega (arith, low, apart)) (omega (arith, high))) (passes first) refl
  where
    some_none : (x : ℕ) → Some x ≡ None → ⊥
    some_none x e = cc

    go : (lowest_from passes (first + 1) n ≡ None → j ≢ first → passes j ≡ false) → (b : Bool) → passes first ≡ b
        → passes j ≡ false
    go rec false is = ⊎_elim
        (λ (same : j ≡ first). ap passes same ∙ is)
        (λ (ne : j ≡ first → ⊥).
        rec (sym (ap (λ (b : Bool). if b then Some first else lowest_from passes (first + 1) n) is) ∙ e) ne)
        (cases_eq j first)
    go rec true is =
        absurd (some_none first
        (sym (ap (λ (b : Bool). if b then Some first else lowest_from passes (first + 1) n) is) ∙ e))

marked_back : (b : Bool) → not b ≡ false → b ≡ true
marked_back true e = refl
marked_back false e = absurd (off e)

-- with none left, each box is taken
all_taken : (taken : List Bool) (boxes : ℕ) → lowest_from (is_left taken) 0 boxes ≡ None → (j : ℕ) → j < boxes
    → get_or taken j false ≡ true
all_taken taken boxes e j low =
    marked_back (get_or taken j false) (none_pass (is_left taken) 0 boxes e j (omega arith) (omega (arith, low)))

-- the end of a phase
next_round : (keys : List Receiver) (boxes : ℕ) (taken : List Bool) → AreRecvLanes keys boxes true taken → 0 < boxes
    → get_or taken 0 false ≡ true → round_of keys none_marked ≡ round_of keys taken + 1
next_round [] boxes taken h some on = absurd (omega (arith, h.long))
next_round (k ∷ ks) boxes taken h some on =
    let gone : length k.view.got - 0 ≡ length k.view.got = omega arith in
    gone ∙ ((h.lanes 0 k refl).got some ∙ ap (λ (b : Bool). round_of (k ∷ ks) taken + one_if b) on)

keeps_end : (keys : List Receiver) (boxes : ℕ) (taken : List Bool) → AreRecvLanes keys boxes true taken → 0 < boxes
    → ((j : ℕ) → j < boxes → get_or taken j false ≡ true) → AreRecvLanes keys boxes false none_marked
keeps_end keys boxes taken h some on =
    let round = next_round keys boxes taken h some (on 0 some) in record {
      long = h.long;
      flags = refl;
      most = h.most;
      lanes = λ j key e. let lane = h.lanes j key e in
          subst (λ n. IsRecvLane n boxes false j key.view (get_or none_marked j false)) (sym round) (record {
            seen = lane.seen;
            copied = lane.copied;
            got = λ low. lane.got low
                ∙ (ap (λ (b : Bool). round_of keys taken + one_if b) (on j low)
                ∙ (omega arith ∙ ap (λ (b : Bool). round_of keys taken + 1 + one_if b) (sym (unmarked j))));
            past = λ high. ((lane.past high).0, unmarked j);
            idle = λ _. unmarked j;
          });
    }

-- The last box that is taken ends the phase
module _ (keys : List Receiver) (boxes : ℕ) (taken : List Bool) (h : AreRecvLanes keys boxes true taken)
    (some : 0 < boxes) where
  end_or_more : (o : Option ℕ) → lowest_from (is_left taken) 0 boxes ≡ o
      → AreRecvLanes keys boxes (is_some o) (if is_some o then taken else none_marked)
  end_or_more None is = keeps_end keys boxes taken h some (λ j low. all_taken taken boxes is j low)
  end_or_more (Some first) is = h

  round_after : (o : Option ℕ) → lowest_from (is_left taken) 0 boxes ≡ o
      → round_of keys (if is_some o then taken else none_marked)
      ≡ (if is_some o then round_of keys taken else round_of keys taken + 1)
  round_after None is = next_round keys boxes taken h some (all_taken taken boxes is 0 some)
  round_after (Some first) is = refl

module _ (keys : List Receiver) (boxes : ℕ) (taken : List Bool) (i : ℕ) (old new : Receiver)
    (h : AreRecvLanes keys boxes true taken) (at : slice_get keys i ≡ Some old) (low : i < boxes)
    (free : get_or taken i false ≡ false)
    (seen : new.view.seen ≡ None) (copied : new.view.copied ≡ []) (got : length new.view.got ≡ length old.view.got + 1)
  where
    more : AreRecvLanes (set keys i new) boxes true (set taken i true)
    more = keeps_more keys boxes taken i old new h at low free seen copied got

    pub keeps_taken : AreRecvLanes (set keys i new) boxes (are_left (set taken i true) boxes)
        (if are_left (set taken i true) boxes then set taken i true else none_marked)
    keeps_taken =
        end_or_more (set keys i new) boxes (set taken i true) more (omega (arith, low))
        (lowest_from (is_left (set taken i true)) 0 boxes) refl

    pub round_taken : round_of (set keys i new)
        (if are_left (set taken i true) boxes then set taken i true else none_marked)
        ≡ (if are_left (set taken i true) boxes then round_of keys taken else round_of keys taken + 1)
    round_taken =
        round_after (set keys i new) boxes (set taken i true) more (omega (arith, low))
        (lowest_from (is_left (set taken i true)) 0 boxes) refl
        ∙ ap (λ n. if are_left (set taken i true) boxes then n else n + 1)
        (round_more keys boxes taken i old new h at low free got)

-- a key that stays in its box
pub boxes_set : (keys : List Receiver) (boxes : List BoxId) (i : ℕ) (old new : Receiver) → slice_get keys i ≡ Some old
    → new.at ≡ old.at → map receiver_box keys ≡ boxes → map receiver_box (set keys i new) ≡ boxes
boxes_set keys boxes i old new there same own = kept keys i there ∙ own
  where
    kept : (ks : List Receiver) (j : ℕ) → slice_get ks j ≡ Some old
        → map receiver_box (set ks j new) ≡ map receiver_box ks
    kept [] j e = absurd (cc)
    kept (k ∷ ks) zero e = ap (λ b. b ∷ map receiver_box ks) (same ∙ sym (ap receiver_box (some_same k old e)))
    kept (k ∷ ks) (suc j) e = ap (λ l. receiver_box k ∷ l) (kept ks j e)

-- what a take does leaves the key in its box
pub at_took : (gate : ℕ) (words : List ℕ) (clock : ℕ) (key : Receiver) → (lane_took gate words clock key).at ≡ key.at
at_took gate words clock key = go (ready_stamp gate)
  where
    go : (o : Option ℕ) → (lane_shown gate words clock key o).at ≡ key.at
    go None = refl
    go (Some stamp) = refl

is_less : (a b : ℕ) → a < b → nat_lt a b ≡ true
is_less a b low = grind arith

and_true : (b : Bool) → (b && true) ≡ b
and_true true = refl
and_true false = refl

-- Where the cut leaves the total, a byte of a partition lies in the box of its number over the boxes' size
module _ (part size parts boxes bytes byte : ℕ) (total : boxes * bytes ≡ parts * size) (known : part < parts)
    (high : byte < (part + 1) * size) where
  inside : byte < boxes * bytes
  inside = let whole : (part + 1) * size ≤ parts * size =
      mul-le (part + 1) size parts size (omega arith) (omega arith) in omega arith

  some_bytes : 0 < bytes
  some_bytes = ⊎_elim
      (λ (some : 0 < bytes). some)
      (λ (none : bytes ≤ 0). let nothing : boxes * bytes ≤ boxes * 0 = mul-le boxes bytes boxes 0 (omega arith) none in
      let zero_is : boxes * 0 ≡ 0 = omega arith in let is = inside in absurd (omega arith))
      (cases_lt 0 bytes)

  below : byte / bytes < boxes
  below = div_below byte bytes boxes some_bytes inside

  begins : byte / bytes * bytes ≤ byte
  begins = let whole : byte / bytes * bytes + byte % bytes ≡ byte = div-add-mod' byte bytes in omega arith

  ends : byte < (byte / bytes + 1) * bytes
  ends =
      let whole : byte / bytes * bytes + byte % bytes ≡ byte = div-add-mod' byte bytes in
      let rest : byte % bytes < bytes = mod_below byte bytes some_bytes in
      let one : byte / bytes + 1 ≡ suc (byte / bytes) = omega arith in
      let next : (byte / bytes + 1) * bytes ≡ byte / bytes * bytes + bytes =
      ap (λ n. n * bytes) one ∙ suc-mul (byte / bytes) bytes in
      omega arith

  pub box_taken : (side : RecvView) → side.size ≡ size → side.boxes ≡ boxes → side.bytes ≡ bytes → part * size ≤ byte
      → lowest_from (λ box. is_left side.taken box && overlaps side part box) 0 side.boxes ≡ None
      → (byte / bytes * side.bytes ≤ byte) × (byte < (byte / bytes + 1) * side.bytes)
      × (get_or side.taken (byte / bytes) false ≡ true)
  box_taken side size_is boxes_is bytes_is low none =
      let box = byte / bytes in
      let starts = begins in
      let stops = ends in
      let first : nat_lt (box * side.bytes) ((part + 1) * side.size) ≡ true =
      ap (λ n. nat_lt (box * n) ((part + 1) * side.size)) bytes_is
      ∙ (ap (λ n. nat_lt (box * bytes) ((part + 1) * n)) size_is
      ∙ is_less (box * bytes) ((part + 1) * size) (omega arith)) in
      let second : nat_lt (part * side.size) ((box + 1) * side.bytes) ≡ true =
      ap (λ n. nat_lt (part * n) ((box + 1) * side.bytes)) size_is
      ∙ (ap (λ n. nat_lt (part * size) ((box + 1) * n)) bytes_is
      ∙ is_less (part * size) ((box + 1) * bytes) (omega arith)) in
      let within : box < 0 + side.boxes = subst (λ n. box < 0 + n) (sym boxes_is) (let less = below in omega arith) in
      let fails =
      none_pass (λ b. is_left side.taken b && overlaps side part b) 0 side.boxes none box (omega arith) within in
      let both : overlaps side part box ≡ true = λ i. first i && second i in (
        subst (λ n. box * n ≤ byte) (sym bytes_is) starts,
        subst (λ n. byte < (box + 1) * n) (sym bytes_is) stops,
        marked_back (get_or side.taken box false)
            (sym (and_true (is_left side.taken box)) ∙ (ap (λ b. is_left side.taken box && b) (sym both) ∙ fails)),
      )
