-- The worked values keep what a settled box keeps.
use Rattle.std.proofs.Common.{◌≡◌, ℕ, zero, suc, ◌+◌, ◌<◌, ◌≤◌, ◌^◌, [], ◌∷◌, replicate, Some, refl, ap, arith}
use Rattle.std.specs.Prelude.{slice_get, slice_index}
use Rattle.std.proofs.lemmas.List.Elements.{All-nil, All-cons}
use Rattle.part_box.proofs.Lists.{get_within}
use Rattle.part_box.specs.declared.view.Got.{Got}
use Rattle.part_box.specs.declared.view.Made.{Made}
use Rattle.part_box.specs.Gate.{ShowsMade, ShowsTake}
use Rattle.part_box.specs.Rows.{SettledRows, left_full, saw_9, taken_with_9}

zero_at : (n i : ℕ) → slice_index (replicate n 0) i ≡ 0
zero_at zero i = refl
zero_at (suc n) zero = refl
zero_at (suc n) (suc i) = zero_at n i

past : (i : ℕ) → 2 ≤ i → slice_index left_full.words i ≡ 0
past zero high = absurd (omega (arith, high))
past (suc zero) high = absurd (omega (arith, high))
past (suc (suc i)) high = zero_at 14 i

no_second : {A : Type 0} (x y : A) (k : ℕ) → slice_get (x ∷ []) (k + 1) ≡ Some y → ⊥
no_second x y k e = let low = get_within (x ∷ []) (k + 1) y e in omega (arith, low)

abbrev thing : Made
thing = record { stamp = 5; words = 7 ∷ 8 ∷ [] }

abbrev taken : Got
taken = record { stamp = 5; words = 7 ∷ 8 ∷ []; taken = 9 }

low_made : (m : Made) → m.stamp ≡ 5 → m.stamp < 2 ^ 62
low_made m e = omega (arith, e)

low_taken : (g : Got) → g.taken ≡ 9 → g.taken < 2 ^ 62
low_taken g e = omega (arith, e)

taken_later : (k : ℕ) (g : Got) → slice_get taken_with_9.got k ≡ Some g → g.stamp < g.taken
taken_later zero g e = let same : record { stamp = 5; words = 7 ∷ 8 ∷ []; taken = 9 } ≡ g = cc in
    let a = ap (λ (x : Got). x.stamp) same in let b = ap (λ (x : Got). x.taken) same in omega (arith, a, b)
taken_later (suc k) g e = cc

shows_11 : ShowsTake taken_with_9.got (record { word = 11; count = 1 })
shows_11 k count even = absurd (omega (arith, even))

shows_18 : ShowsTake taken_with_9.got (record { word = 18; count = 1 })
shows_18 zero count even = (record { stamp = 5; words = 7 ∷ 8 ∷ []; taken = 9 }, refl, refl)
shows_18 (suc k) count even = absurd (omega (arith, count))

shows_thing : ShowsMade saw_9.made (record { word = 11; count = 0 })
shows_thing odd = (record { stamp = 5; words = 7 ∷ 8 ∷ [] }, refl, refl)

pub settled : SettledRows
settled = record {
  taken = record {
    made = refl;
    empty = λ off. (refl, refl);
    past = λ i high. zero_at 16 i;
    stamp = omega arith;
    limited = record {
      made_low = All-cons (λ (m : Made). m.stamp < 2 ^ 62) _ [] (low_made thing refl) (All-nil _);
      taken_low = All-cons (λ (g : Got). g.taken < 2 ^ 62) _ [] (low_taken taken refl) (All-nil _);
    };
    in_turn = record {
      taken_later = taken_later;
      made_later = λ k g m got made. absurd (no_second _ m k made);
    };
    freed = All-cons (ShowsTake taken_with_9.got) _ (record { word = 18; count = 1 } ∷ []) shows_11
        (All-cons (ShowsTake taken_with_9.got) _ [] shows_18 (All-nil _));
    looked = All-cons (ShowsMade saw_9.made) _ [] shows_thing (All-nil _);
  };
  untaken = record {
    made = refl;
    empty = λ off. cc;
    past = past;
    stamp = omega arith;
    limited = record { made_low = All-cons (λ (m : Made). m.stamp < 2 ^ 62) _ [] (low_made thing refl) (All-nil _); taken_low = All-nil _ };
    in_turn = record { taken_later = λ k g e. cc; made_later = λ k g m got made. cc };
    freed = All-nil _;
    looked = All-nil _;
  };
}
