-- What the gate rule tells who holds both keys of a box, in what the keys know and in no words.
use Rattle.std.proofs.Common.{◌≡◌, ◌⊎◌, ℕ, ◌+◌, ◌<◌, ◌≤◌, List, [], ◌∷◌, ◌++◌, length, take, refl, sym, ap, ◌∙◌}
use Rattle.std.proofs.Common.{zero, suc, subst, inl, inr, ⊎_elim, arith, Some, Bool, true, length-append}
use Rattle.std.proofs.Common.{is_some, unwrap_or}
use Rattle.std.specs.Prelude.{slice_get, All, option_map, ◌==◌, if◌then◌else◌}
use Rattle.std.proofs.Math.Seq.{take-append_seam}
use Rattle.std.proofs.lemmas.Bool.{eq-eqb, ne_eqb}
use Rattle.std.proofs.lemmas.List.{length-map}
use Rattle.std.proofs.lemmas.Option.{get_or_from_slice_get, slice_get_within, slice_get-map}
use Rattle.part_box.specs.declared.view.Made.{Made}
use Rattle.part_box.specs.declared.view.Got.{Got}
use Rattle.part_box.specs.declared.view.Loaded.{Loaded}
use Rattle.part_box.specs.declared.view.Sending.{Sending}
use Rattle.part_box.specs.declared.view.Receiving.{Receiving}
use Rattle.part_box.specs.Gate.{stamp_of, IsEmptyGate, IsFullGate, ready_stamp, taken_stamp, thing_of, things_of}
use Rattle.part_box.specs.Gate.{last_take, ShowsTake, ShowsMade}
use Rattle.part_box.specs.LastReady.{last_ready}
use Rattle.part_box.specs.Steps.{with_made, with_freed, with_look, with_got}
use Rattle.part_box.specs.Rule.{gate_of, thing_in, contents_of, GateRule}
use Rattle.part_box.proofs.Lists.{get_front, get_last, last_take-at}
use Rattle.part_box.proofs.GateKept.{parity, all_got, one_more, count_same, ready_shown, taken_shown}

last_ready-push : (made : List Made) (m : Made) → last_ready (made ++ m ∷ []) ≡ m.stamp
last_ready-push [] m = refl
last_ready-push (x ∷ []) m = refl
last_ready-push (x ∷ y ∷ made) m = last_ready-push (y ∷ made) m

all_at : {A : Type 0} (P : A → Type 0) (xs : List A) (i : ℕ) (x : A) → All P xs → slice_get xs i ≡ Some x → P x
all_at P xs i x all at = subst P (get_or_from_slice_get xs i x x at) (all i x (slice_get_within xs i x at))

some_same : {A : Type 0} (a b : A) → Some a ≡ Some b → a ≡ b
some_same a b e = cc

module _ (width : ℕ) (words : List ℕ) (s : Sending) (r : Receiving) (g : GateRule width words s r) where
  count_more : IsFullGate (gate_of words) → length s.made ≡ length r.got + 1
  count_more odd =
      ap length (one_more width words s r g odd)
      ∙ (length-append (things_of r.got) (thing_in words ∷ []) ∙ ap (λ n. n + 1) (length-map r.got thing_of))

  -- What was made and what was got

  -- as many were made as were got, or one more
  pub made_is : (length s.made ≡ length r.got) ⊎ (length s.made ≡ length r.got + 1)
  made_is =
      ⊎_elim (λ even. inl (count_same width words s r g even)) (λ odd. inr (count_more odd)) (parity (gate_of words))

  -- what was got is the beginning of what was made
  pub got_is_first : take (length r.got) s.made ≡ things_of r.got
  got_is_first =
      ap (take (length r.got)) g.made
      ∙ (ap (λ n. take n (things_of r.got ++ contents_of words)) (sym (length-map r.got thing_of))
      ∙ take-append_seam (things_of r.got) (contents_of words))

  -- thing k that was got is thing k that was made
  pub got_is_made : (k : ℕ) (x : Got) → slice_get r.got k ≡ Some x → slice_get s.made k ≡ Some (thing_of x)
  got_is_made k x at =
      ap (λ l. slice_get l k) g.made
      ∙ get_front (things_of r.got) (contents_of words) k (thing_of x)
      (slice_get-map thing_of r.got k ∙ ap (option_map thing_of) at)

  -- The gate, by the two counts

  pub gate_is_empty : length s.made ≡ length r.got → IsEmptyGate (gate_of words)
  gate_is_empty same =
      ⊎_elim (λ even. even) (λ odd. let more = count_more odd in absurd (omega arith)) (parity (gate_of words))

  pub gate_is_full : length s.made ≡ length r.got + 1 → IsFullGate (gate_of words)
  gate_is_full more =
      ⊎_elim (λ even. let same = count_same width words s r g even in absurd (omega arith)) (λ odd. odd)
      (parity (gate_of words))

  -- where all was got
  pub all_is_got : length s.made ≡ length r.got → s.made ≡ things_of r.got
  all_is_got same = all_got width words s r g (gate_is_empty same)

  -- the one thing that wasn't got
  pub one_is_left : length s.made ≡ length r.got + 1 → s.made ≡ things_of r.got ++ thing_in words ∷ []
  one_is_left more = one_more width words s r g (gate_is_full more)

  -- the gate's stamp is that of the last take, and while a thing lies in the box that thing's
  pub stamp_is : stamp_of (gate_of words)
      ≡ (if length s.made == length r.got then last_take r.got else last_ready s.made)
  stamp_is =
      let chosen = λ (b : Bool). if b then last_take r.got else last_ready s.made in
      ⊎_elim
      (λ (same : length s.made ≡ length r.got). g.empty (gate_is_empty same)
      ∙ ap chosen (sym (eq-eqb (length s.made) (length r.got) same)))
      (λ (more : length s.made ≡ length r.got + 1).
      sym (ap last_ready (one_is_left more) ∙ last_ready-push (things_of r.got) (thing_in words))
      ∙ ap chosen (sym (ne_eqb (length s.made) (length r.got) (λ e. omega arith))))
      made_is

  -- What each key knows of the other

  -- where the sender is open all was got, and its front is the last take
  pub open_is_empty : s.is_open ≡ true → (length s.made ≡ length r.got) × (s.front ≡ last_take r.got)
  open_is_empty is_open =
      let sender = g.open_sender is_open in (count_same width words s r g sender.0, sender.1 ∙ g.empty sender.0)

  -- where the receiver has seen a stamp, one thing is left, and it has that stamp
  pub seen_is_full : (t : ℕ) → r.seen ≡ Some t → (length s.made ≡ length r.got + 1) × (t ≡ last_ready s.made)
  seen_is_full t seen =
      let receiver = g.seeing_receiver t seen in
      let stamp =
      ap last_ready (one_more width words s r g receiver.0) ∙ last_ready-push (things_of r.got) (thing_in words) in
      (count_more receiver.0, receiver.1 ∙ sym stamp)

  -- What a load showed

  -- a take that the sender saw with k + 1 things made is take k
  pub take_shown : (i k t : ℕ) (l : Loaded) → slice_get s.loads i ≡ Some l → l.count ≡ k + 1
      → taken_stamp l.word ≡ Some t
      → (x : Got) × (slice_get r.got k ≡ Some x) × (t ≡ x.taken)
  take_shown i k t l at count shows =
      let gate = taken_shown l.word t shows in
      let take = all_at (ShowsTake r.got) s.loads i l g.freed at k count gate.0 in
      let stamp = gate.1 in
      let word = take.2 in
      (take.0, take.1, omega arith)

  -- one that it saw since it made its last thing is the last take, and all was got
  pub freed_shows : (i t : ℕ) (l : Loaded) → slice_get s.loads i ≡ Some l → l.count ≡ length s.made → 0 < length s.made
      → taken_stamp l.word ≡ Some t → (length s.made ≡ length r.got) × (t ≡ last_take r.got)
  freed_shows i t l at count some shows = go (length s.made) refl some
    where
      go : (n : ℕ) → length s.made ≡ n → 0 < n → (length s.made ≡ length r.got) × (t ≡ last_take r.got)
      go zero e none = absurd (omega arith)
      go (suc k) e more =
          let take = take_shown i k t l at (omega arith) shows in
          let inside = slice_get_within r.got k take.0 take.1 in
          let same : length s.made ≡ length r.got = ⊎_elim (λ same. same) (λ past. absurd (omega arith)) made_is in
          (same, take.2 ∙ sym (last_take-at r.got k take.0 take.1 (omega arith)))

  -- a thing that the receiver saw with k things got is thing k that was made
  pub look_shows : (i t : ℕ) (l : Loaded) → slice_get r.loads i ≡ Some l → ready_stamp l.word ≡ Some t
      → (m : Made) × (slice_get s.made l.count ≡ Some m) × (t ≡ m.stamp)
  look_shows i t l at shows =
      let gate = ready_shown l.word t shows in
      let thing = all_at (ShowsMade s.made) r.loads i l g.looked at gate.0 in
      let stamp = gate.1 in
      let word = thing.2 in
      (thing.0, thing.1, omega arith)

  -- and thing k that was got
  pub look_got : (i t : ℕ) (l : Loaded) (x : Got) → slice_get r.loads i ≡ Some l → ready_stamp l.word ≡ Some t
      → slice_get r.got l.count ≡ Some x → t ≡ x.stamp
  look_got i t l x at shows got =
      let thing = look_shows i t l at shows in
      let same = some_same thing.0 (thing_of x) (sym thing.1 ∙ got_is_made l.count x got) in
      thing.2 ∙ ap (λ m. m.stamp) same

-- right after `freed` has answered a stamp
pub freed_now : (width : ℕ) (words : List ℕ) (s : Sending) (r : Receiving) (gate t : ℕ)
    → GateRule width words (with_freed s gate) r
    → taken_stamp gate ≡ Some t → (length s.made ≡ length r.got) × (t ≡ last_take r.got)
freed_now width words s r gate t g shows =
    let is_open : (with_freed s gate).is_open ≡ true = ap (λ o. if is_some o then true else s.is_open) shows in
    let front : (with_freed s gate).front ≡ t = ap (λ o. unwrap_or o s.front) shows in
    let empty = open_is_empty width words (with_freed s gate) r g is_open in
    (empty.0, sym front ∙ empty.1)

-- right after `look` has answered a stamp
pub look_now : (width : ℕ) (words : List ℕ) (s : Sending) (r : Receiving) (gate t : ℕ)
    → GateRule width words s (with_look r gate)
    → ready_stamp gate ≡ Some t → (length s.made ≡ length r.got + 1) × (t ≡ last_ready s.made)
look_now width words s r gate t g shows = seen_is_full width words s (with_look r gate) g t shows

-- right after `ready`: until then all that was made was got
pub ready_now : (width : ℕ) (words : List ℕ) (s : Sending) (r : Receiving) (stamp : ℕ)
    → GateRule width words (with_made s stamp) r → length r.got ≤ length s.made → length s.made ≡ length r.got
ready_now width words s r stamp g before =
    let more : length (with_made s stamp).made ≡ length s.made + 1 =
    length-append s.made (record { stamp = stamp; words = s.filled } ∷ []) in
    ⊎_elim (λ same. absurd (omega arith)) (λ one. omega arith) (made_is width words (with_made s stamp) r g)

-- right after `empty`: until then one thing was left, and it is the one that was got
pub empty_now : (width : ℕ) (words : List ℕ) (s : Sending) (r : Receiving) (stamp : ℕ)
    → GateRule width words s (with_got r stamp) → length s.made ≤ length r.got + 1
    → (length s.made ≡ length r.got + 1)
    × (slice_get s.made (length r.got) ≡ Some (record { stamp = unwrap_or r.seen 0; words = r.copied }))
empty_now width words s r stamp g before =
    let x : Got = record { stamp = unwrap_or r.seen 0; words = r.copied; taken = stamp } in
    let more : length (r.got ++ x ∷ []) ≡ length r.got + 1 = length-append r.got (x ∷ []) in
    let count : length s.made ≡ length r.got + 1 =
    ⊎_elim (λ same. omega arith) (λ one. absurd (omega arith)) (made_is width words s (with_got r stamp) g) in
    (count, got_is_made width words s (with_got r stamp) g (length r.got) x (get_last r.got x (length r.got) refl))
