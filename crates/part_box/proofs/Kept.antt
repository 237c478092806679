-- What gates show, and what was made and got in a box that is settled.
use Rattle.std.proofs.Common.{◌≡◌, ℕ, ◌+◌, ◌-◌, ◌*◌, ◌/◌, ◌%◌, ◌^◌, ◌<◌, ◌≤◌, List, [], ◌∷◌, ◌++◌, length, take, Bool, true, false, Some, None, refl, sym, ap, ◌∙◌, subst, arith, length-append}
use Rattle.std.specs.Prelude.{All, slice_get, option_map, nat_lt, ◌==◌, ◌&&◌, if◌then◌else◌}
use Rattle.std.proofs.lemmas.List.{append-nil, length-map}
use Rattle.std.proofs.lemmas.List.Elements.{All-get_or}
use Rattle.std.proofs.lemmas.Option.{get_or_from_slice_get, slice_get-map, slice_get_within}
use Rattle.part_box.specs.declared.settled.Settled.{Settled}
use Rattle.part_box.specs.declared.view.Got.{Got}
use Rattle.part_box.specs.declared.view.Made.{Made}
use Rattle.part_box.specs.declared.view.Receiving.{Receiving}
use Rattle.part_box.specs.declared.view.Sending.{Sending}
use Rattle.part_box.specs.Gate.{ShowsMade, ShowsTake, greatest_stamp, last_take, thing_of, things_of}
use Rattle.part_box.specs.Laws.{GateLaw, IsKept, SettledLaw}
use Rattle.part_box.specs.Settling.{IsSettled, leftover}
use Rattle.part_box.proofs.GateKept.{ready_shown, taken_shown}
use Rattle.part_box.proofs.Lists.{get_front, get_last, last_take-at}

-- ---- gates

gate_shows : (gate stamp : ℕ) (b c : Bool) → gate / 2 ≡ stamp → b ≡ true → c ≡ true
    → (if b && c then Some (gate / 2) else None) ≡ Some stamp
gate_shows gate stamp true true half b c = ap Some half
gate_shows gate stamp true false half b c = cc
gate_shows gate stamp false c half b d = cc

hides_parity : (gate : ℕ) (b c : Bool) → b ≡ false → (if b && c then Some (gate / 2) else None) ≡ None
hides_parity gate true c off = cc
hides_parity gate false c off = refl

hides_stamp : (gate : ℕ) (b c : Bool) → c ≡ false → (if b && c then Some (gate / 2) else None) ≡ None
hides_stamp gate true true off = cc
hides_stamp gate true false off = refl
hides_stamp gate false c off = refl

half_even : (n : ℕ) → 2 * n / 2 ≡ n
half_even n = omega arith

half_odd : (n : ℕ) → (2 * n + 1) / 2 ≡ n
half_odd n = omega arith

-- the stamp has room above it
abbrev low : ℕ → Bool
low gate = nat_lt (gate / 2) greatest_stamp

below : (gate n : ℕ) → gate / 2 ≡ n → n < 2 ^ 62 - 1 → low gate ≡ true
below gate n half less = let h : gate / 2 < 2 ^ 62 - 1 = omega (arith, half, less) in grind (arith, h)

above : (gate n : ℕ) → gate / 2 ≡ n → 2 ^ 62 - 1 ≤ n → low gate ≡ false
above gate n half high = let h : 2 ^ 62 - 1 ≤ gate / 2 = omega (arith, half, high) in grind (arith, h)

is_1 : (n : ℕ) → ((2 * n + 1) % 2 == 1) ≡ true
is_1 n = let e : (2 * n + 1) % 2 ≡ 1 = omega arith in rw e

is_0 : (n : ℕ) → ((2 * n) % 2 == 0) ≡ true
is_0 n = let e : (2 * n) % 2 ≡ 0 = omega arith in rw e

not_1 : (n : ℕ) → ((2 * n) % 2 == 1) ≡ false
not_1 n = let e : (2 * n) % 2 ≡ 0 = omega arith in rw e

not_0 : (n : ℕ) → ((2 * n + 1) % 2 == 0) ≡ false
not_0 n = let e : (2 * n + 1) % 2 ≡ 1 = omega arith in rw e

pub gates : GateLaw
gates = record {
  ready = λ n less.
      gate_shows (2 * n + 1) n ((2 * n + 1) % 2 == 1) (low (2 * n + 1)) (half_odd n) (is_1 n)
      (below (2 * n + 1) n (half_odd n) less);
  taken = λ n less.
      gate_shows (2 * n) n (2 * n % 2 == 0) (low (2 * n)) (half_even n) (is_0 n) (below (2 * n) n (half_even n) less);
  not_taken = λ n. hides_parity (2 * n + 1) ((2 * n + 1) % 2 == 0) (low (2 * n + 1)) (not_0 n);
  not_ready = λ n. hides_parity (2 * n) (2 * n % 2 == 1) (low (2 * n)) (not_1 n);
  none_ready = λ n high. hides_stamp (2 * n + 1) ((2 * n + 1) % 2 == 1) (low (2 * n + 1)) (above (2 * n + 1) n (half_odd n) high);
  none_taken = λ n high. hides_stamp (2 * n) (2 * n % 2 == 0) (low (2 * n)) (above (2 * n) n (half_even n) high);
}

-- ---- a box that is settled

all_at : {A : Type 0} (P : A → Type 0) (xs : List A) (i : ℕ) (x : A) → All P xs → slice_get xs i ≡ Some x → P x
all_at P xs i x all e =
    subst P (get_or_from_slice_get xs i x x e) (All-get_or P xs i x (slice_get_within xs i x e) all)

module _ (width : ℕ) (s : Sending) (r : Receiving) (b : Settled) (h : IsSettled width s r b) where
  left_when : (full : Bool) → b.full ≡ full
      → leftover width b ≡ (if full then record { stamp = b.stamp; words = take width b.words } ∷ [] else [])
  left_when full is =
      ap (λ (f : Bool). if f then record { stamp = b.stamp; words = take width b.words } ∷ [] else []) is

  made_when : (full : Bool) → b.full ≡ full → s.made ≡ things_of r.got
      ++ (if full then record { stamp = b.stamp; words = take width b.words } ∷ [] else [])
  made_when full is = h.made ∙ ap (λ l. things_of r.got ++ l) (left_when full is)

  counted : length (things_of r.got) ≡ length r.got
  counted = length-map r.got thing_of

  in_place : (k : ℕ) (g : Got) → slice_get r.got k ≡ Some g → slice_get s.made k ≡ Some (thing_of g)
  in_place k g there =
      ap (λ l. slice_get l k) h.made
      ∙ get_front (things_of r.got) (leftover width b) k (thing_of g)
      (slice_get-map thing_of r.got k ∙ ap (option_map thing_of) there)

  same_thing : (k : ℕ) (m : Made) (g : Got) → slice_get s.made k ≡ Some m → slice_get r.got k ≡ Some g
      → m.stamp ≡ g.stamp
  same_thing k m g made got =
      let both : Some (thing_of g) ≡ Some m = sym (in_place k g got) ∙ made in
      let same : thing_of g ≡ m = cc in ap (λ (x : Made). x.stamp) (sym same)

  pub kept : IsKept width s r b
  kept = record {
    got = in_place;
    all_got = λ empty. ap length (made_when false empty) ∙ (ap length (append-nil (things_of r.got)) ∙ counted);
    one_left = λ full. ap length (made_when true full)
        ∙ (length-append (things_of r.got) _ ∙ ap (λ n. n + 1) counted);
    left = λ full. ap (λ l. slice_get l (length r.got)) (made_when true full)
        ∙ get_last (things_of r.got) _ (length r.got) (sym counted);
    nothing = λ empty. (h.empty empty).1;
    past = h.past;
    last = λ k g empty there end. (h.empty empty).0 ∙ last_take-at r.got k g there end;
    unused = λ empty none. (h.empty empty).0 ∙ ap last_take none;
    taken_later = λ k m g made got.
        subst (λ n. n < g.taken) (sym (same_thing k m g made got)) (h.in_turn.taken_later k g got);
    made_later = λ k g m got made. h.in_turn.made_later k g m got made;
    made_low = λ k m there. all_at (λ (x : Made). x.stamp < 2 ^ 62) s.made k m h.limited.made_low there;
    taken_low = λ k g there. all_at (λ (x : Got). x.taken < 2 ^ 62) r.got k g h.limited.taken_low there;
    freed = λ i k stamp l there count shown.
        let even = taken_shown l.word stamp shown in
        let at = all_at (ShowsTake r.got) s.loads i l h.freed there k count even.0 in
        let half : l.word / 2 ≡ at.0.taken = ap (λ n. n / 2) at.2 ∙ half_even at.0.taken in
        (at.0, at.1, sym half ∙ sym even.1);
    looked = λ i stamp l there shown.
        let odd = ready_shown l.word stamp shown in
        let at = all_at (ShowsMade s.made) r.loads i l h.looked there odd.0 in
        let half : l.word / 2 ≡ at.0.stamp = ap (λ n. n / 2) at.2 ∙ half_odd at.0.stamp in
        (at.0, at.1, sym half ∙ sym odd.1);
  }

pub settled : SettledLaw
settled width s r b h = kept width s r b h
