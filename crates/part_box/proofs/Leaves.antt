-- What a box is left with, from the rule and from what its words spell.
use Rattle.std.proofs.Common.{◌≡◌, ℕ, zero, suc, ◌+◌, ◌%◌, ◌^◌, ◌<◌, ◌≤◌, List, [], ◌∷◌, ◌++◌, drop, length, take}
use Rattle.std.proofs.Common.{replicate, Bool, true, false, refl, sym, ap, ◌∙◌, subst, ⊎_elim, arith}
use Rattle.std.specs.Prelude.{slice_index, ◌==◌}
use Rattle.std.proofs.lemmas.List.{length-take-le, get_or-take}
use Rattle.std.proofs.lemmas.Bool.{eqb-true, eqb-false}
use Rattle.part_box.specs.declared.settled.Settled.{Settled}
use Rattle.part_box.specs.declared.view.Made.{Made}
use Rattle.part_box.specs.declared.view.Sending.{Sending}
use Rattle.part_box.specs.declared.view.Receiving.{Receiving}
use Rattle.part_box.specs.Gate.{IsEmptyGate, IsFullGate, things_of}
use Rattle.part_box.specs.Rule.{gate_of, thing_in, contents_of, GateRule}
use Rattle.part_box.specs.Settling.{leftover, IsSettled}
use Rattle.part_box.specs.Spelled.{IsDataOf, Spells}
use Rattle.part_box.proofs.Lists.{same_lists, behind, length-behind}
use Rattle.part_box.proofs.GateKept.{parity, contents_empty, contents_full}

zero_at : (n i : ℕ) → slice_index (replicate n 0) i ≡ 0
zero_at zero i = refl
zero_at (suc n) zero = refl
zero_at (suc n) (suc i) = zero_at n i

-- a gate that isn't odd is even
even_gate : (gate : ℕ) → (gate % 2 == 1) ≡ false → IsEmptyGate gate
even_gate gate e =
    ⊎_elim (λ (even : IsEmptyGate gate). even) (λ (odd : IsFullGate gate). absurd (eqb-false (gate % 2) 1 e odd))
    (parity gate)

-- as many words as the box is wide are all words behind the gate
data_whole : (width : ℕ) (words read : List ℕ) → length words ≡ width + 1 → width ≤ 16 → IsDataOf width words read
    → take width read ≡ drop 1 words
data_whole width words read counted most h =
    let long : length read ≡ 16 = h.long in
    let short : length (take width read) ≡ width = length-take-le width read (omega arith) in
    let behind_long : length (drop 1 words) ≡ width = length-behind words width counted in
    same_lists (take width read) (drop 1 words) (short ∙ sym behind_long)
    (λ i low. let low' : i < width = omega arith in
    get_or-take width read i 0 low' ∙ (h.same i low' ∙ sym (behind words i)))

-- what is left is what lies in the box
contents_left : (width : ℕ) (words : List ℕ) (b : Settled) → length words ≡ width + 1 → width ≤ 16
    → Spells width words b → (full : Bool) → b.full ≡ full → contents_of words ≡ leftover width b
contents_left width words b counted most h true is =
    let odd : IsFullGate (gate_of words) = eqb-true (gate_of words % 2) 1 (sym h.full ∙ is) in
    let whole : take width b.words ≡ drop 1 words = data_whole width words b.words counted most (h.there is) in
    let thing : thing_in words ≡ record { stamp = b.stamp; words = take width b.words } =
    λ i. record { stamp = sym h.stamp i; words = sym whole i } in
    contents_full words odd
    ∙ (ap (λ (m : Made). m ∷ []) thing
    ∙ sym (ap (λ (full : Bool). leftover width (record { full = full; stamp = b.stamp; words = b.words })) is))
contents_left width words b counted most h false is =
    contents_empty words (even_gate (gate_of words) (sym h.full ∙ is))
    ∙ sym (ap (λ (full : Bool). leftover width (record { full = full; stamp = b.stamp; words = b.words })) is)

past_zero : (width : ℕ) (words : List ℕ) (b : Settled) → Spells width words b → (full : Bool) → b.full ≡ full → (i : ℕ)
    → width ≤ i → slice_index b.words i ≡ 0
past_zero width words b h true is i high = (h.there is).past i high
past_zero width words b h false is i high = ap (λ l. slice_index l i) (h.nothing is) ∙ zero_at 16 i

-- a box that keeps the rule is settled by what its words spell
pub settled : (width : ℕ) (words : List ℕ) (s : Sending) (r : Receiving) (b : Settled) → width ≤ 16
    → GateRule width words s r → Spells width words b → IsSettled width s r b
settled width words s r b most g h = record {
  made = g.made ∙ ap (λ l. things_of r.got ++ l) (contents_left width words b g.counted most h b.full refl);
  empty = λ off. (h.stamp ∙ g.empty (even_gate (gate_of words) (sym h.full ∙ off)), h.nothing off);
  past = past_zero width words b h b.full refl;
  stamp = subst (λ n. n < 2 ^ 62) (sym h.stamp) g.low;
  limited = g.limited;
  in_turn = g.in_turn;
  freed = g.freed;
  looked = g.looked;
}
