-- Each step is allowed by the gate rule.
use Rattle.std.proofs.Common.{◌≡◌, ◌≢◌, ◌⊎◌, ℕ, zero, suc, ◌+◌, ◌/◌, ◌%◌, ◌^◌, ◌<◌, List, [], ◌∷◌, ◌++◌, length, set}
use Rattle.std.proofs.Common.{Some, None, true, false, refl, sym, ap, ◌∙◌, subst, inl, inr, ⊎_elim}
use Rattle.std.specs.Prelude.{slice_index}
use Rattle.std.proofs.lemmas.List.{set-get_or}
use mathlib.Core.Option.{some, some-ne-none, some-injective}
use lib.ListN.{get_elem?}
use Rattle.atomic_table.specs.Table.{State, Me, keeps, Allows, Splits, Joins, opening}
use Rattle.atomic_table.proofs.Lists.{at_set}
use Rattle.part_box.specs.declared.view.Sending.{Sending}
use Rattle.part_box.specs.declared.view.Receiving.{Receiving}
use Rattle.part_box.specs.declared.view.View.{View}
use Rattle.part_box.specs.Gate.{stamp_of}
use Rattle.part_box.specs.Steps.{nothing_sent, nothing_received, with_made, with_freed, with_look, with_got}
use Rattle.part_box.specs.Seats.{with_word, with_copy, first_view, sender_part, receiver_part, joined_view, spent_view}
use Rattle.part_box.specs.Seats.{with_sending, with_receiving}
use Rattle.part_box.specs.Rule.{gate_of, GateRule, IsSeated, IsGated}
use Rattle.part_box.proofs.GateKept as kept

off : false ≡ true → ⊥
off e = cc

-- a seat with a new view, and the other seats
all_set : (F : ℕ → View → Type 0) (views : List View) (id : ℕ) (w : View) → F id w
    → ((j : ℕ) (u : View) → j ≢ id → get_elem? views j ≡ some u → F j u)
    → (j : ℕ) (u : View) → get_elem? (set views id w) j ≡ some u → F j u
all_set F views id w mine others j u e = ⊎_elim
    (λ (x : (j ≡ id) × (w ≡ u)). subst (λ (y : ℕ × View). F y.0 y.1) (λ i. (sym x.0 i, x.1 i)) mine)
    (λ (x : (j ≢ id) × (get_elem? views j ≡ some u)). others j u x.0 x.1)
    (at_set views id j w u e)

-- the seats after one more seat
at_new : {A : Type 0} (l : List A) (a b : A) (j : ℕ) → get_elem? (l ++ a ∷ []) j ≡ some b
    → (get_elem? l j ≡ some b) ⊎ ((j ≡ length l) × (a ≡ b))
at_new [] a b zero e = inr (refl, some-injective a b e)
at_new [] a b (suc j) e = absurd (some-ne-none b (sym e))
at_new (x ∷ xs) a b zero e = inl e
at_new (x ∷ xs) a b (suc j) e = ⊎_elim (λ h. inl h) (λ h. inr (ap suc h.0, h.1)) (at_new xs a b j e)

-- the sender's seat gets a new view
sender_keeps : (width : ℕ) (t : State Unit View) (h : IsGated width t) (id : ℕ) (v : View)
    → get_elem? t.views id ≡ some v → v.sends ≡ true → (words : List ℕ) (s : Sending)
    → (GateRule width t.words v.sending h.receiving → GateRule width words s h.receiving)
    → IsGated width record { words = words; homes = t.homes; views = set t.views id (with_sending v s) }
sender_keeps width t h id v at sends words s go =
    let mine = h.seated id v at in
    let me = mine.sends sends in record {
      sender = h.sender;
      receiver = h.receiver;
      sending = s;
      receiving = h.receiving;
      rule = go (subst (λ x. GateRule width t.words x h.receiving) (sym me.1) h.rule);
      seated = all_set (IsSeated h.sender h.receiver s h.receiving) t.views id (with_sending v s)
          (record { sends = λ _. (me.0, refl); receives = mine.receives })
          (λ j u ne e. let theirs = h.seated j u e in
          record { sends = λ q. absurd (ne ((theirs.sends q).0 ∙ sym me.0)); receives = theirs.receives });
    }

-- the receiver's seat gets a new view
receiver_keeps : (width : ℕ) (t : State Unit View) (h : IsGated width t) (id : ℕ) (v : View)
    → get_elem? t.views id ≡ some v → v.receives ≡ true → (words : List ℕ) (r : Receiving)
    → (GateRule width t.words h.sending v.receiving → GateRule width words h.sending r)
    → IsGated width record { words = words; homes = t.homes; views = set t.views id (with_receiving v r) }
receiver_keeps width t h id v at receives words r go =
    let mine = h.seated id v at in
    let me = mine.receives receives in record {
      sender = h.sender;
      receiver = h.receiver;
      sending = h.sending;
      receiving = r;
      rule = go (subst (λ x. GateRule width t.words h.sending x) (sym me.1) h.rule);
      seated = all_set (IsSeated h.sender h.receiver h.sending r) t.views id (with_receiving v r)
          (record { sends = mine.sends; receives = λ _. (me.0, refl) })
          (λ j u ne e. let theirs = h.seated j u e in
          record { sends = theirs.sends; receives = λ q. absurd (ne ((theirs.receives q).0 ∙ sym me.0)) });
    }

-- a load leaves the words as they are
same : (width : ℕ) (words : List ℕ) (i : ℕ) (s : Sending) (r : Receiving) → GateRule width words s r
    → GateRule width (set words i (slice_index words i)) s r
same width words i s r g = subst (λ l. GateRule width l s r) (sym (set-get_or words i 0)) g

pub starts : (width : ℕ) (words : List ℕ) → length words ≡ width + 1 → gate_of words ≡ 0
    → IsGated width (opening words [] first_view)
starts width words counted gate = record {
  sender = 0;
  receiver = 0;
  sending = nothing_sent;
  receiving = nothing_received;
  rule = kept.starts width words counted gate;
  seated = one;
}
  where
    one : (j : ℕ) (v : View) → get_elem? (first_view ∷ []) j ≡ some v → IsSeated 0 0 nothing_sent nothing_received j v
    one zero v e =
        subst (IsSeated 0 0 nothing_sent nothing_received 0) (some-injective _ _ e)
        (record { sends = λ _. (refl, refl); receives = λ _. (refl, refl) })
    one (suc j) v e = absurd (some-ne-none v (sym e))

pub splits : (width id : ℕ) (v : View) → v.receives ≡ true
    → Splits (IsGated width) id v (sender_part v) (receiver_part v)
splits width id v receives t h at =
    let mine = h.seated id v at in
    let me = mine.receives receives in
    let views = set t.views id (sender_part v) in
    let last = length views in record {
      sender = h.sender;
      receiver = last;
      sending = h.sending;
      receiving = h.receiving;
      rule = h.rule;
      seated = λ j u e. ⊎_elim
          (λ (old : get_elem? views j ≡ some u).
          all_set (IsSeated h.sender last h.sending h.receiving) t.views id (sender_part v)
          (record { sends = mine.sends; receives = λ q. absurd (off q) })
          (λ k x ne there. let theirs = h.seated k x there in
          record { sends = theirs.sends; receives = λ q. absurd (ne ((theirs.receives q).0 ∙ sym me.0)) })
          j u old)
          (λ (new : (j ≡ last) × (receiver_part v ≡ u)).
          subst (IsSeated h.sender last h.sending h.receiving j) new.1
          (record { sends = λ q. absurd (off q); receives = λ _. (new.0, me.1) }))
          (at_new views (receiver_part v) u j e);
    }

pub fills : (width slots id : ℕ) (me : Me Unit View) (i n : ℕ) → me.0.sends ≡ true → me.0.sending.is_open ≡ true
    → length me.0.sending.filled < width → i ≡ length me.0.sending.filled + 1
    → Allows (IsGated width) slots id me i (λ _. n)
    (λ _ after. after ≡ (with_sending me.0 (with_word me.0.sending n), me.1))
fills width slots id me i n sends is_open room at t h long here fits = (
  with_sending me.0 (with_word me.0.sending n),
  keeps,
  tt,
  sender_keeps width t h id me.0 here sends (set t.words i n) (with_word me.0.sending n)
      (λ g. kept.fills width t.words me.0.sending h.receiving i n g is_open room at),
  refl,
)

pub readies : (width slots id : ℕ) (me : Me Unit View) (n : ℕ) → me.0.sends ≡ true → 0 < width
    → length me.0.sending.filled ≡ width → n % 2 ≡ 1 → me.0.sending.front < n / 2 → n / 2 < 2 ^ 62
    → Allows (IsGated width) slots id me 0 (λ _. n)
    (λ _ after. after ≡ (with_sending me.0 (with_made me.0.sending (stamp_of n)), me.1))
readies width slots id me n sends some_words full odd above low t h long here fits = (
  with_sending me.0 (with_made me.0.sending (stamp_of n)),
  keeps,
  tt,
  sender_keeps width t h id me.0 here sends (set t.words 0 n) (with_made me.0.sending (stamp_of n))
      (λ g. kept.readies width t.words me.0.sending h.receiving n g some_words full odd above low),
  refl,
)

pub frees : (width slots id : ℕ) (me : Me Unit View) → me.0.sends ≡ true
    → Allows (IsGated width) slots id me 0 (λ n. n)
    (λ n after. after ≡ (with_sending me.0 (with_freed me.0.sending n), me.1))
frees width slots id me sends t h long here fits =
    let n = gate_of t.words in
    let s = with_freed me.0.sending n in (
      with_sending me.0 (with_freed me.0.sending n),
      keeps,
      tt,
      sender_keeps width t h id me.0 here sends (set t.words 0 n) s
          (λ g. same width t.words 0 s h.receiving (kept.frees width t.words me.0.sending h.receiving g)),
      refl,
    )

pub looks : (width slots id : ℕ) (me : Me Unit View) → me.0.receives ≡ true → me.0.receiving.seen ≡ None
    → Allows (IsGated width) slots id me 0 (λ n. n)
    (λ n after. after ≡ (with_receiving me.0 (with_look me.0.receiving n), me.1))
looks width slots id me receives none t h long here fits =
    let n = gate_of t.words in
    let r = with_look me.0.receiving n in (
      with_receiving me.0 (with_look me.0.receiving n),
      keeps,
      tt,
      receiver_keeps width t h id me.0 here receives (set t.words 0 n) r
          (λ g. same width t.words 0 h.sending r (kept.looks width t.words h.sending me.0.receiving g none)),
      refl,
    )

pub copies : (width slots id : ℕ) (me : Me Unit View) (i k : ℕ) → me.0.receives ≡ true → me.0.receiving.seen ≡ Some k
    → i ≡ length me.0.receiving.copied + 1
    → Allows (IsGated width) slots id me i (λ n. n)
    (λ n after. after ≡ (with_receiving me.0 (with_copy me.0.receiving n), me.1))
copies width slots id me i k receives sees at t h long here fits =
    let n = slice_index t.words i in
    let r = with_copy me.0.receiving n in (
      with_receiving me.0 (with_copy me.0.receiving n),
      keeps,
      tt,
      receiver_keeps width t h id me.0 here receives (set t.words i n) r
          (λ g. same width t.words i h.sending r (kept.copies width t.words h.sending me.0.receiving i k g sees at)),
      refl,
    )

pub empties : (width slots id : ℕ) (me : Me Unit View) (n k : ℕ) → me.0.receives ≡ true → me.0.receiving.seen ≡ Some k
    → length me.0.receiving.copied ≡ width → n % 2 ≡ 0 → k < n / 2 → n / 2 < 2 ^ 62
    → Allows (IsGated width) slots id me 0 (λ _. n)
    (λ _ after. after ≡ (with_receiving me.0 (with_got me.0.receiving (stamp_of n)), me.1))
empties width slots id me n k receives sees full even above low t h long here fits = (
  with_receiving me.0 (with_got me.0.receiving (stamp_of n)),
  keeps,
  tt,
  receiver_keeps width t h id me.0 here receives (set t.words 0 n) (with_got me.0.receiving (stamp_of n))
      (λ g. kept.empties width t.words h.sending me.0.receiving n k g sees full even above low),
  refl,
)

pub joins : (width id other : ℕ) (v u : View) → v.sends ≡ true → u.receives ≡ true
    → Joins (IsGated width) id v other u (joined_view v u) spent_view
joins width id other v u sends receives t h at apart there =
    let w = joined_view v u in
    let mine = (h.seated id v at).sends sends in
    let was =
    ⊎_elim (λ (x : (other ≡ id) × (w ≡ u)). absurd (apart x.0))
    (λ (x : (other ≢ id) × (get_elem? t.views other ≡ some u)). x.1) (at_set t.views id other w u there) in
    let theirs = (h.seated other u was).receives receives in record {
      sender = h.sender;
      receiver = id;
      sending = h.sending;
      receiving = h.receiving;
      rule = h.rule;
      seated = all_set (IsSeated h.sender id h.sending h.receiving) (set t.views id w) other spent_view
          (record { sends = λ q. absurd (off q); receives = λ q. absurd (off q) })
          (λ j x ne e.
          all_set (λ k y. k ≢ other → IsSeated h.sender id h.sending h.receiving k y) t.views id w
          (λ _. record { sends = λ _. mine; receives = λ _. (refl, theirs.1) })
          (λ k y ne' e' far. let old = h.seated k y e' in
          record { sends = old.sends; receives = λ q. absurd (far ((old.receives q).0 ∙ sym theirs.0)) })
          j x e ne);
    }

-- the last state's rule is that of the joined view
pub settles : (width : ℕ) (t : State Unit View) (id : ℕ) (v w : View) → IsGated width t → get_elem? t.views id ≡ some v
    → v ≡ w → w.sends ≡ true → w.receives ≡ true → GateRule width t.words w.sending w.receiving
settles width t id v w h at is sends receives =
    let both = h.seated id w (at ∙ ap some is) in
    subst (λ (x : Sending × Receiving). GateRule width t.words x.0 x.1)
    (λ i. (sym (both.sends sends).1 i, sym (both.receives receives).1 i)) h.rule

-- Both keys in one seat may load the last data word, whose number is the width: the gate rule is of what they know, and
-- nothing is new
pub agrees : (width slots id : ℕ) (me : Me Unit View) (i : ℕ) → me.0.sends ≡ true → me.0.receives ≡ true → width ≡ i
    → Allows (IsGated width) slots id me i (λ n. n)
    (λ _ after. (after ≡ me) × (words : List ℕ) × GateRule i words me.0.sending me.0.receiving)
agrees width slots id me i sends receives last t h long here fits =
    let v = me.0 in
    let words = set t.words i (slice_index t.words i) in
    let rule = settles width t id v v h here refl sends receives in (
      v,
      keeps,
      tt,
      sender_keeps width t h id v here sends words v.sending (same width t.words i v.sending h.receiving),
      (refl, t.words, subst (λ n. GateRule n t.words v.sending v.receiving) last rule),
    )
