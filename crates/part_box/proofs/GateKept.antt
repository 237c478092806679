-- Each kind of step keeps the gate rule.
use Rattle.std.proofs.Common.{◌≡◌, ◌≢◌, ◌⊎◌, ℕ, ◌+◌, ◌/◌, ◌%◌, ◌^◌, ◌<◌, List, [], ◌∷◌, ◌++◌, drop, length, set, Option}
use Rattle.std.proofs.Common.{Some, None, Bool, true, false, cond, refl, sym, ap, ◌∙◌, subst, inl, inr, ⊎_elim, arith}
use Rattle.std.proofs.Common.{is_some, unwrap_or, length-append, get_or-set_other, get_or-set_same}
use Rattle.std.specs.Prelude.{slice_get, slice_index, nat_lt, ◌==◌, ◌&&◌, if◌then◌else◌}
use Rattle.std.proofs.lemmas.List.{length-map, map-append, append-nil, length-set}
use Rattle.std.proofs.lemmas.Bool.{cases_eq, eqb-true, eq-eqb, ne_eqb}
use Rattle.std.proofs.lemmas.List.Elements.{All-nil, All-push, All-weaker}
use Rattle.part_box.specs.declared.view.Made.{Made}
use Rattle.part_box.specs.declared.view.Got.{Got}
use Rattle.part_box.specs.declared.view.Sending.{Sending}
use Rattle.part_box.specs.declared.view.Receiving.{Receiving}
use Rattle.part_box.specs.Gate.{stamp_of, IsEmptyGate, IsFullGate, greatest_stamp, ready_stamp, taken_stamp, thing_of}
use Rattle.part_box.specs.Gate.{things_of, last_take, ShowsTake, ShowsMade}
use Rattle.part_box.specs.Steps.{nothing_sent, nothing_received, with_made, with_freed, with_look}
use Rattle.part_box.specs.Seats.{with_word, with_copy}
use Rattle.part_box.specs.Steps.{with_got}
use Rattle.part_box.specs.Rule.{gate_of, DataStartsWith, thing_in, contents_of, GateRule}
use Rattle.part_box.proofs.Lists.{get_front, get_last, get_snoc, get_within, last_take-push, last_take-at, last_there}
use Rattle.part_box.proofs.Lists.{behind-set_gate, whole_data, data_nil, data_none, data_push, data_more}

-- What lies in a box

pub contents_empty : (words : List ℕ) → IsEmptyGate (gate_of words) → contents_of words ≡ []
contents_empty words even =
    ap (λ (b : Bool). if b then thing_in words ∷ [] else []) (ne_eqb (gate_of words % 2) 1 (λ e. omega arith))

pub contents_full : (words : List ℕ) → IsFullGate (gate_of words) → contents_of words ≡ thing_in words ∷ []
contents_full words odd = ap (λ (b : Bool). if b then thing_in words ∷ [] else []) (eq-eqb (gate_of words % 2) 1 odd)

module _ (width : ℕ) (words : List ℕ) (s : Sending) (r : Receiving) (g : GateRule width words s r) where
  -- at an even gate all that was made was got
  pub all_got : IsEmptyGate (gate_of words) → s.made ≡ things_of r.got
  all_got even = g.made ∙ (ap (λ l. things_of r.got ++ l) (contents_empty words even) ∙ append-nil (things_of r.got))

  -- at an odd gate one thing was made that wasn't got
  pub one_more : IsFullGate (gate_of words) → s.made ≡ things_of r.got ++ thing_in words ∷ []
  one_more odd = g.made ∙ ap (λ l. things_of r.got ++ l) (contents_full words odd)

  pub count_same : IsEmptyGate (gate_of words) → length s.made ≡ length r.got
  count_same even = ap length (all_got even) ∙ length-map r.got thing_of

-- a gate is even or odd
pub parity : (n : ℕ) → (n % 2 ≡ 0) ⊎ (n % 2 ≡ 1)
parity n =
    ⊎_elim (λ (e : n % 2 ≡ 0). inl e) (λ (ne : n % 2 ≡ 0 → ⊥). let apart : n % 2 ≢ 0 = ne in inr (omega arith))
    (cases_eq (n % 2) 0)

-- What a gate shows

chosen : (b c : Bool) (n : ℕ)
    → (cond (b && c) (Some n) None ≡ None) ⊎ ((b ≡ true) × (cond (b && c) (Some n) None ≡ Some n))
chosen true true n = inr (refl, refl)
chosen true false n = inl refl
chosen false c n = inl refl

ready_cases : (n : ℕ) → (ready_stamp n ≡ None) ⊎ (IsFullGate n × (ready_stamp n ≡ Some (stamp_of n)))
ready_cases n =
    ⊎_elim (λ a. inl a) (λ b. inr (eqb-true (n % 2) 1 b.0, b.1))
    (chosen (n % 2 == 1) (nat_lt (n / 2) greatest_stamp) (n / 2))

taken_cases : (n : ℕ) → (taken_stamp n ≡ None) ⊎ (IsEmptyGate n × (taken_stamp n ≡ Some (stamp_of n)))
taken_cases n =
    ⊎_elim (λ a. inl a) (λ b. inr (eqb-true (n % 2) 0 b.0, b.1))
    (chosen (n % 2 == 0) (nat_lt (n / 2) greatest_stamp) (n / 2))

some_same : (a b : ℕ) → Some a ≡ Some b → a ≡ b
some_same a b e = cc

-- what a look shows is the gate's stamp, and the gate is odd
pub ready_shown : (n k : ℕ) → ready_stamp n ≡ Some k → IsFullGate n × (k ≡ stamp_of n)
ready_shown n k e = ⊎_elim
    (λ (none : ready_stamp n ≡ None). absurd (cc))
    (λ (some : IsFullGate n × (ready_stamp n ≡ Some (stamp_of n))). (some.0, some_same k (stamp_of n) (sym e ∙ some.1)))
    (ready_cases n)

-- the same of a take: the gate is even
pub taken_shown : (n k : ℕ) → taken_stamp n ≡ Some k → IsEmptyGate n × (k ≡ stamp_of n)
taken_shown n k e = ⊎_elim
    (λ (none : taken_stamp n ≡ None). absurd (cc))
    (λ (some : IsEmptyGate n × (taken_stamp n ≡ Some (stamp_of n))).
    (some.0, some_same k (stamp_of n) (sym e ∙ some.1)))
    (taken_cases n)

-- The steps

pub starts : (width : ℕ) (words : List ℕ) → length words ≡ width + 1 → gate_of words ≡ 0
    → GateRule width words nothing_sent nothing_received
starts width words counted zero_gate =
    let even : gate_of words % 2 ≡ 0 = omega arith in
    let stamp : gate_of words / 2 ≡ 0 = omega arith in record {
      counted = counted;
      low = omega arith;
      made = sym (contents_empty words even);
      empty = λ _. stamp;
      in_turn = record { taken_later = λ k g e. absurd (cc); made_later = λ k g m e. absurd (cc) };
      limited = record { made_low = All-nil _; taken_low = All-nil _ };
      open_sender = λ _. (even, sym stamp, data_nil words);
      closed_sender = λ e. refl;
      seeing_receiver = λ n e. absurd (cc);
      waiting_receiver = λ _. refl;
      freed = All-nil _;
      looked = All-nil _;
    }

pub fills : (width : ℕ) (words : List ℕ) (s : Sending) (r : Receiving) (i n : ℕ) → GateRule width words s r
    → s.is_open ≡ true → length s.filled < width → i ≡ length s.filled + 1
    → GateRule width (set words i n) (with_word s n) r
fills width words s r i n g is_open room at =
    let sender = g.open_sender is_open in
    let even : gate_of words % 2 ≡ 0 = sender.0 in
    let same : gate_of (set words i n) ≡ gate_of words = get_or-set_other words i 0 n 0 (λ z. (omega arith)) in
    let even' : gate_of (set words i n) % 2 ≡ 0 = ap (λ x. x % 2) same ∙ even in
    let half : gate_of (set words i n) / 2 ≡ gate_of words / 2 = ap (λ x. x / 2) same in
    let counted : length words ≡ width + 1 = g.counted in
    let inside : length s.filled + 1 < length words = omega arith in record {
      counted = length-set words i n ∙ g.counted;
      low = subst (λ x. x < 2 ^ 62) (sym half) g.low;
      made = g.made
          ∙ ap (λ l. things_of r.got ++ l) (contents_empty words even ∙ sym (contents_empty (set words i n) even'));
      empty = λ _. half ∙ g.empty even;
      in_turn = g.in_turn;
      limited = g.limited;
      open_sender = λ _. (
        even',
        sender.1 ∙ sym half,
        subst (λ j. DataStartsWith (set words j n) (s.filled ++ n ∷ [])) (sym at)
            (data_push words s.filled n inside sender.2),
      );
      closed_sender = λ closed. absurd (cc);
      seeing_receiver = λ k is. let odd = (g.seeing_receiver k is).0 in absurd (omega arith);
      waiting_receiver = g.waiting_receiver;
      freed = g.freed;
      looked = g.looked;
    }

-- who has filled all the words is open
full_is_open : (b : Bool) (xs : List ℕ) (width : ℕ) → (b ≡ false → xs ≡ []) → length xs ≡ width → 0 < width → b ≡ true
full_is_open true xs width h l some = refl
full_is_open false xs width h l some = let e : length xs ≡ 0 = ap length (h refl) in absurd (omega arith)

pub readies : (width : ℕ) (words : List ℕ) (s : Sending) (r : Receiving) (n : ℕ) → GateRule width words s r → 0 < width
    → length s.filled ≡ width → n % 2 ≡ 1 → s.front < n / 2 → n / 2 < 2 ^ 62
    → GateRule width (set words 0 n) (with_made s (n / 2)) r
readies width words s r n g some full odd above low =
    let is_open : s.is_open ≡ true = full_is_open s.is_open s.filled width g.closed_sender full some in
    let sender = g.open_sender is_open in
    let even : gate_of words % 2 ≡ 0 = sender.0 in
    let front : s.front ≡ last_take r.got = sender.1 ∙ g.empty even in
    let counted : length words ≡ width + 1 = g.counted in
    let m : Made = record { stamp = n / 2; words = s.filled } in
    let same : gate_of (set words 0 n) ≡ n = get_or-set_same words 0 n 0 (omega arith) in
    let odd' : gate_of (set words 0 n) % 2 ≡ 1 = ap (λ x. x % 2) same ∙ odd in
    let half : gate_of (set words 0 n) / 2 ≡ n / 2 = ap (λ x. x / 2) same in
    let all_words : drop 1 (set words 0 n) ≡ s.filled =
    behind-set_gate words n ∙ whole_data words s.filled width counted full sender.2 in
    let lies : thing_in (set words 0 n) ≡ m = λ i. record { stamp = half i; words = all_words i } in
    let before : s.made ≡ things_of r.got = all_got width words s r g even in
    let count : length s.made ≡ length r.got = count_same width words s r g even in record {
      counted = length-set words 0 n ∙ g.counted;
      low = subst (λ x. x < 2 ^ 62) (sym half) low;
      made = ap (λ l. l ++ m ∷ []) before
          ∙ ap (λ l. things_of r.got ++ l) (sym (contents_full (set words 0 n) odd' ∙ ap (λ x. x ∷ []) lies));
      empty = λ zero. absurd (omega arith);
      in_turn = record {
        taken_later = g.in_turn.taken_later;
        made_later = λ k h x got made. ⊎_elim
            (λ (old : slice_get s.made (k + 1) ≡ Some x). g.in_turn.made_later k h x got old)
            (λ (new : (k + 1 ≡ length s.made) × (m ≡ x)).
            let last : last_take r.got ≡ h.taken = last_take-at r.got k h got (new.0 ∙ count) in
            let stamp : n / 2 ≡ x.stamp = ap (λ (y : Made). y.stamp) new.1 in
            omega arith)
            (get_snoc s.made m x (k + 1) made);
      };
      limited = record {
        made_low = All-push (λ (x : Made). x.stamp < 2 ^ 62) s.made m g.limited.made_low low;
        taken_low = g.limited.taken_low;
      };
      open_sender = λ is. absurd (cc);
      closed_sender = λ _. refl;
      seeing_receiver = λ k is. let was = (g.seeing_receiver k is).0 in absurd (omega arith);
      waiting_receiver = g.waiting_receiver;
      freed = g.freed;
      looked = All-weaker (ShowsMade s.made) (ShowsMade (s.made ++ m ∷ []))
          (λ l h is. ((h is).0, get_front s.made (m ∷ []) l.count (h is).0 (h is).1, (h is).2)) r.loads g.looked;
    }

-- an odd gate is that of the last thing made
shows_made : (width : ℕ) (words : List ℕ) (s : Sending) (r : Receiving) → GateRule width words s r
    → ShowsMade s.made (record { word = gate_of words; count = length r.got })
shows_made width words s r g odd =
    let m = thing_in words in
    let there : slice_get (things_of r.got ++ m ∷ []) (length r.got) ≡ Some m =
    get_last (things_of r.got) m (length r.got) (sym (length-map r.got thing_of)) in
    (m, subst (λ l. slice_get l (length r.got) ≡ Some m) (sym (one_more width words s r g odd)) there, omega arith)

pub looks : (width : ℕ) (words : List ℕ) (s : Sending) (r : Receiving) → GateRule width words s r → r.seen ≡ None
    → GateRule width words s (with_look r (gate_of words))
looks width words s r g none = record {
  counted = g.counted;
  low = g.low;
  made = g.made;
  empty = g.empty;
  in_turn = g.in_turn;
  limited = g.limited;
  open_sender = g.open_sender;
  closed_sender = g.closed_sender;
  seeing_receiver = λ k is. let shown = ready_shown (gate_of words) k is in
      (shown.0, shown.1, data_none words r.copied (g.waiting_receiver none));
  waiting_receiver = λ _. g.waiting_receiver none;
  freed = g.freed;
  looked = All-push (ShowsMade s.made) r.loads (record { word = gate_of words; count = length r.got }) g.looked
      (shows_made width words s r g);
}

pub copies : (width : ℕ) (words : List ℕ) (s : Sending) (r : Receiving) (i k : ℕ) → GateRule width words s r
    → r.seen ≡ Some k → i ≡ length r.copied + 1
    → GateRule width words s (with_copy r (slice_index words i))
copies width words s r i k g sees at = record {
  counted = g.counted;
  low = g.low;
  made = g.made;
  empty = g.empty;
  in_turn = g.in_turn;
  limited = g.limited;
  open_sender = g.open_sender;
  closed_sender = g.closed_sender;
  seeing_receiver = λ n is. let was = g.seeing_receiver n is in
      (was.0, was.1, data_more words r.copied (slice_index words i) (ap (λ j. slice_index words j) (sym at)) was.2);
  waiting_receiver = λ none. absurd (cc);
  freed = g.freed;
  looked = g.looked;
}

-- an even gate is that of the last take
shows_take : (width : ℕ) (words : List ℕ) (s : Sending) (r : Receiving) → GateRule width words s r
    → ShowsTake r.got (record { word = gate_of words; count = length s.made })
shows_take width words s r g k count even =
    let last = last_there r.got k (sym (count_same width words s r g even) ∙ count) in
    let half : gate_of words / 2 ≡ last.0.taken = g.empty even ∙ last.2 in
    (last.0, last.1, omega arith)

-- the first words of a sender, open or not
filled_first : (words : List ℕ) (b : Bool) (xs : List ℕ) → (b ≡ true → DataStartsWith words xs) → (b ≡ false → xs ≡ [])
    → DataStartsWith words xs
filled_first words true xs open_first closed_nil = open_first refl
filled_first words false xs open_first closed_nil = data_none words xs (closed_nil refl)

still_closed : (o : Option ℕ) (was : Bool) (xs : List ℕ) → (was ≡ false → xs ≡ []) → cond (is_some o) true was ≡ false
    → xs ≡ []
still_closed None was xs h e = h e
still_closed (Some n) was xs h e = absurd (cc)

pub frees : (width : ℕ) (words : List ℕ) (s : Sending) (r : Receiving) → GateRule width words s r
    → GateRule width words (with_freed s (gate_of words)) r
frees width words s r g = record {
  counted = g.counted;
  low = g.low;
  made = g.made;
  empty = g.empty;
  in_turn = g.in_turn;
  limited = g.limited;
  open_sender = λ is_open. ⊎_elim
      (λ (none : taken_stamp (gate_of words) ≡ None).
      let was : s.is_open ≡ true = subst (λ (o : Option ℕ). cond (is_some o) true s.is_open ≡ true) none is_open in
      let sender = g.open_sender was in
      (sender.0, ap (λ (o : Option ℕ). unwrap_or o s.front) none ∙ sender.1, sender.2))
      (λ (some : IsEmptyGate (gate_of words) × (taken_stamp (gate_of words) ≡ Some (stamp_of (gate_of words)))). (
        some.0,
        ap (λ (o : Option ℕ). unwrap_or o s.front) some.1,
        filled_first words s.is_open s.filled (λ e. (g.open_sender e).2) g.closed_sender,
      ))
      (taken_cases (gate_of words));
  closed_sender = still_closed (taken_stamp (gate_of words)) s.is_open s.filled g.closed_sender;
  seeing_receiver = g.seeing_receiver;
  waiting_receiver = g.waiting_receiver;
  freed = All-push (ShowsTake r.got) s.loads (record { word = gate_of words; count = length s.made }) g.freed
      (shows_take width words s r g);
  looked = g.looked;
}

pub empties : (width : ℕ) (words : List ℕ) (s : Sending) (r : Receiving) (n k : ℕ) → GateRule width words s r
    → r.seen ≡ Some k → length r.copied ≡ width → n % 2 ≡ 0 → k < n / 2 → n / 2 < 2 ^ 62
    → GateRule width (set words 0 n) s (with_got r (n / 2))
empties width words s r n k g sees full even above low =
    let receiver = g.seeing_receiver k sees in
    let odd : gate_of words % 2 ≡ 1 = receiver.0 in
    let counted : length words ≡ width + 1 = g.counted in
    let got : Got = record { stamp = unwrap_or r.seen 0; words = r.copied; taken = n / 2 } in
    let seen : unwrap_or r.seen 0 ≡ k = ap (λ (o : Option ℕ). unwrap_or o 0) sees in
    let same : gate_of (set words 0 n) ≡ n = get_or-set_same words 0 n 0 (omega arith) in
    let even' : gate_of (set words 0 n) % 2 ≡ 0 = ap (λ x. x % 2) same ∙ even in
    let half : gate_of (set words 0 n) / 2 ≡ n / 2 = ap (λ x. x / 2) same in
    let stamp : gate_of words / 2 ≡ got.stamp = sym (seen ∙ receiver.1) in
    let all_words : drop 1 words ≡ r.copied = whole_data words r.copied width counted full receiver.2 in
    let lay : thing_in words ≡ thing_of got = λ i. record { stamp = stamp i; words = all_words i } in
    let all : s.made ≡ things_of (r.got ++ got ∷ []) =
    one_more width words s r g odd
    ∙ (ap (λ x. things_of r.got ++ x ∷ []) lay ∙ sym (map-append thing_of r.got (got ∷ []))) in
    let count : length s.made ≡ length r.got + 1 =
    ap length all ∙ (length-map (r.got ++ got ∷ []) thing_of ∙ length-append r.got (got ∷ [])) in
    let last : last_take (r.got ++ got ∷ []) ≡ n / 2 = last_take-push r.got got in record {
      counted = length-set words 0 n ∙ g.counted;
      low = subst (λ x. x < 2 ^ 62) (sym half) low;
      made = all
          ∙ sym (ap (λ l. things_of (r.got ++ got ∷ []) ++ l) (contents_empty (set words 0 n) even')
          ∙ append-nil (things_of (r.got ++ got ∷ [])));
      empty = λ _. half ∙ sym last;
      in_turn = record {
        taken_later = λ j h e. ⊎_elim
            (λ (old : slice_get r.got j ≡ Some h). g.in_turn.taken_later j h old)
            (λ (new : (j ≡ length r.got) × (got ≡ h)).
            subst (λ (y : Got). y.stamp < y.taken) new.1 (subst (λ x. x < n / 2) (sym seen) above))
            (get_snoc r.got got h j e);
        made_later = λ j h x e made. ⊎_elim
            (λ (old : slice_get r.got j ≡ Some h). g.in_turn.made_later j h x old made)
            (λ (new : (j ≡ length r.got) × (got ≡ h)). let inside = get_within s.made (j + 1) x made in
            let at = new.0 in absurd (omega arith))
            (get_snoc r.got got h j e);
      };
      limited = record {
        made_low = g.limited.made_low;
        taken_low = All-push (λ (x : Got). x.taken < 2 ^ 62) r.got got g.limited.taken_low low;
      };
      open_sender = λ is. let was = (g.open_sender is).0 in absurd (omega arith);
      closed_sender = g.closed_sender;
      seeing_receiver = λ j e. absurd (cc);
      waiting_receiver = λ _. refl;
      freed = All-weaker (ShowsTake r.got) (ShowsTake (r.got ++ got ∷ []))
          (λ l h j c e. ((h j c e).0, get_front r.got (got ∷ []) j (h j c e).0 (h j c e).1, (h j c e).2)) s.loads
          g.freed;
      looked = g.looked;
    }
