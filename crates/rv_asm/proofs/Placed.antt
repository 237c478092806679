-- An address is the sum of the lengths before it, and a label's is that of its line.
use Rattle.std.proofs.Common.{◌≡◌, ℕ, zero, suc, ◌+◌, List, [], ◌∷◌, ◌++◌, take, Option, Some, None, Ok, true, refl, sym, ap, ◌∙◌, add-zero, zero-add, add_assoc, append-nil}
use Rattle.std.specs.Prelude.{IfSome, slice_get}
use Rattle.std.specs.List.{filter_map}
use Rattle.std.proofs.lemmas.List.Elements.{filter_map-append}
use Rattle.std.specs.Str.Lines.{lines}
use Rattle.rv_asm_statements.specs.declared.statements.Statement.{Statement}
use Rattle.rv_asm_statements.specs.declared.statements.Statement.TheVariants.{Label, Instruction, Directive as Directed}
use Rattle.rv_asm_lines.specs.Item.{Item}
use Rattle.rv_asm_lines.specs.declared.parts.Part.{Part}
use Rattle.rv_asm_lines.specs.declared.parts.Part.TheVariants.{Text, Data}
use Rattle.rv_asm_lines.specs.Layout.{Labels, Layout, added, at_end, empty_layout, end_of, item_at, layout_of, next_place}
use Rattle.rv_asm_lines.specs.Parts.{may_stand}
use Rattle.rv_asm_lines.specs.Places.{total, label_place, length_in, IsPlaced, Follow}
use Rattle.rv_asm.proofs.Counted.{sum-cons, sum-push}
use Rattle.rv_asm.proofs.Kept.{IsKept, IsStated, lines_from-keeps}

-- where a part ends, with the lengths of items behind
end_total : (part : Part) (text init : ℕ) (xs : List Item) → end_of part (text + total Text xs) (init + total Data xs) ≡ end_of part text init + total part xs
end_total Text text init xs = refl
end_total Data text init xs = refl

Follow-push : (text init : ℕ) (xs : List Item) (x : Item) → Follow text init xs → x.place.at ≡ end_of x.place.part (text + total Text xs) (init + total Data xs) → may_stand x.place.part x.statement ≡ true → Follow text init (xs ++ x ∷ [])
Follow-push text init [] x f h may = (h ∙ rw (add-zero text, add-zero init) refl, may, tt)
Follow-push text init (y ∷ ys) x f h may =
    let texts : text + total Text (y ∷ ys) ≡ (text + length_in Text y) + total Text ys = ap (λ k. text + k) (sum-cons (length_in Text) y ys) ∙ sym (add_assoc text (length_in Text y) (total Text ys)) in
    let inits : init + total Data (y ∷ ys) ≡ (init + length_in Data y) + total Data ys = ap (λ k. init + k) (sum-cons (length_in Data) y ys) ∙ sym (add_assoc init (length_in Data y) (total Data ys)) in
    (f.0, f.1, Follow-push (text + length_in Text y) (init + length_in Data y) ys x f.2 (h ∙ ap (λ k. end_of x.place.part k (init + total Data (y ∷ ys))) texts ∙ ap (λ k. end_of x.place.part ((text + length_in Text y) + total Text ys) k) inits) may)

pub record InOrder (s : Layout) : Type 0 where
  pub follow : Follow 0 0 s.items
  pub text_end : s.text ≡ total Text s.items
  pub data_end : s.init ≡ total Data s.items
  pub labels : s.labels ≡ filter_map label_place s.items

at_next : (s : Layout) → InOrder s → at_end s ≡ end_of s.part (0 + total Text s.items) (0 + total Data s.items)
at_next s p = ap (λ k. end_of s.part k s.init) (p.text_end ∙ sym (zero-add (total Text s.items))) ∙ ap (λ k. end_of s.part (0 + total Text s.items) k) (p.data_end ∙ sym (zero-add (total Data s.items)))

pushed : (n : ℕ) (s : Layout) (stated : Statement) → may_stand s.part stated ≡ true → InOrder s → Follow 0 0 (s.items ++ item_at n (next_place s) stated ∷ [])
pushed n s stated may p = Follow-push 0 0 s.items (item_at n (next_place s) stated) p.follow (at_next s p) may

total_push : (part : Part) (xs : List Item) (x : Item) (end : ℕ) → end ≡ total part xs → end + length_in part x ≡ total part (xs ++ x ∷ [])
total_push part xs x end same = ap (λ k. k + length_in part x) same ∙ sym (sum-push (length_in part) xs x)

nothing_pushed : (part : Part) (n : ℕ) (s : Layout) (w : List ℕ) (end : ℕ) → end ≡ total part s.items → end ≡ total part (s.items ++ item_at n (next_place s) (Label w) ∷ [])
nothing_pushed part n s w end same = same ∙ sym (sum-push (length_in part) s.items (item_at n (next_place s) (Label w)) ∙ ap (λ k. total part s.items + k) (none_added part s.part) ∙ add-zero (total part s.items))
  where
    none_added : (part where_to : Part) → added part where_to 0 ≡ 0
    none_added Text Text = refl
    none_added Text Data = refl
    none_added Data Text = refl
    none_added Data Data = refl

no_label : (stated : Statement) (n : ℕ) (s : Layout) → IsStated stated → filter_map label_place (item_at n (next_place s) stated ∷ []) ≡ []
no_label (Label w) n s is = absurd is
no_label (Instruction u) n s is = refl
no_label (Directed d) n s is = refl

in_order_kept : IsKept InOrder
in_order_kept = record {
  label = λ n s w p. record {
    follow = pushed n s (Label w) refl p;
    text_end = nothing_pushed Text n s w s.text p.text_end;
    data_end = nothing_pushed Data n s w s.init p.data_end;
    labels = ap (λ (ls : Labels). ls ++ (w, next_place s) ∷ []) p.labels ∙ sym (filter_map-append label_place s.items (item_at n (next_place s) (Label w) ∷ []));
  };
  statement = λ n s stated f names room is may behind named p. record {
    follow = pushed n s stated may p;
    text_end = total_push Text s.items (item_at n (next_place s) stated) s.text p.text_end;
    data_end = total_push Data s.items (item_at n (next_place s) stated) s.init p.data_end;
    labels = p.labels ∙ sym (filter_map-append label_place s.items (item_at n (next_place s) stated ∷ []) ∙ ap (λ (ls : Labels). filter_map label_place s.items ++ ls) (no_label stated n s is) ∙ append-nil (filter_map label_place s.items));
  };
}

pub layout_in_order : (source : List ℕ) (s : Layout) → layout_of source ≡ Ok s → InOrder s
layout_in_order source s laid = lines_from-keeps InOrder in_order_kept 1 empty_layout s (lines source) laid (record { follow = tt; text_end = refl; data_end = refl; labels = refl })

end_sum : (part : Part) (text init : ℕ) (y : Item) (ys : List Item) → end_of part (text + length_in Text y) (init + length_in Data y) + total part ys ≡ end_of part text init + total part (y ∷ ys)
end_sum Text text init y ys = add_assoc text (length_in Text y) (total Text ys) ∙ ap (λ k. text + k) (sym (sum-cons (length_in Text) y ys))
end_sum Data text init y ys = add_assoc init (length_in Data y) (total Data ys) ∙ ap (λ k. init + k) (sym (sum-cons (length_in Data) y ys))

if_some_is : {A : Type 0} (P Q : A → Type 0) (o : Option A) → ((x : A) → P x → Q x) → IfSome o P → IfSome o Q
if_some_is P Q None f h = tt
if_some_is P Q (Some x) f h = f x h

Follow-at : (text init : ℕ) (xs : List Item) (k : ℕ) → Follow text init xs → IfSome (slice_get xs k) (λ i. i.place.at ≡ end_of i.place.part text init + total i.place.part (take k xs))
Follow-at text init [] k f = tt
Follow-at text init (x ∷ xs) zero f = f.0 ∙ sym (add-zero (end_of x.place.part text init))
Follow-at text init (x ∷ xs) (suc k) f =
    if_some_is (λ i. i.place.at ≡ end_of i.place.part (text + length_in Text x) (init + length_in Data x) + total i.place.part (take k xs)) (λ i. i.place.at ≡ end_of i.place.part text init + total i.place.part (x ∷ take k xs)) (slice_get xs k)
    (λ i h. h ∙ end_sum i.place.part text init x (take k xs)) (Follow-at (text + length_in Text x) (init + length_in Data x) xs k f.2)

from_nothing : (part : Part) (n : ℕ) → end_of part 0 0 + n ≡ n
from_nothing Text n = zero-add n
from_nothing Data n = zero-add n

pub layout_placed : (source : List ℕ) (s : Layout) → layout_of source ≡ Ok s → IsPlaced s
layout_placed source s laid =
    let p = layout_in_order source s laid in
    record {
      addresses = λ k. if_some_is (λ i. i.place.at ≡ end_of i.place.part 0 0 + total i.place.part (take k s.items)) (λ i. i.place.at ≡ total i.place.part (take k s.items)) (slice_get s.items k) (λ i h. h ∙ from_nothing i.place.part (total i.place.part (take k s.items))) (Follow-at 0 0 s.items k p.follow);
      text_end = p.text_end;
      data_end = p.data_end;
      labels = p.labels;
    }
