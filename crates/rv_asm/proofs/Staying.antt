-- Lines that follow leave a label where it stands.
use Rattle.std.proofs.Common.{◌≡◌, ℕ, ◌+◌, List, [], ◌∷◌, ◌++◌, cond, Some, Result, Ok, Err, Bool, true, false, sym, ap, ◌∙◌}
use Rattle.std.specs.Str.{bytes_eq}
use Rattle.rv_asm_tokens.specs.declared.fault.AsmFaultKind.{AsmFaultKind}
use Rattle.rv_asm_lines.specs.declared.parts.Place.{Place}
use Rattle.rv_asm_lines.specs.Layout.{Labels, Layout, at_line, empty_layout, line_step, lines_from, next_place, place_in}
use Rattle.rv_asm_lines.specs.Places.{LabelsStay}
use Rattle.rv_asm.proofs.Kept.{IsKept, lines_from-keeps}
use Rattle.rv_asm.proofs.Right.{line_ok}

-- the lines behind others go on from where those end
rest_of : (n : ℕ) (e s t : Layout) (before after : List (List ℕ)) → lines_from n e before ≡ Ok s → lines_from n e (before ++ after) ≡ Ok t → (m : ℕ) × (lines_from m s after ≡ Ok t)
unfolding lines_from
rest_of n e s t [] after h all = (n, ap (λ (l : Layout). lines_from n l after) (sym (line_ok e s h)) ∙ all)
rest_of n e s t (line ∷ before) after h all = go (line_step n e line) (λ f. rest_of (n + 1) f s t before after) h all
  where
    go : (r : Result Layout AsmFaultKind) → ((f : Layout) → lines_from (n + 1) f before ≡ Ok s → lines_from (n + 1) f (before ++ after) ≡ Ok t → (m : ℕ) × (lines_from m s after ≡ Ok t))
        → at_line n r (λ f. lines_from (n + 1) f before) ≡ Ok s → at_line n r (λ f. lines_from (n + 1) f (before ++ after)) ≡ Ok t → (m : ℕ) × (lines_from m s after ≡ Ok t)
    go (Ok f) again h all = again f h all
    go (Err kind) again h all = absurd cc

pub found_before : (w : List ℕ) (ls others : Labels) (place : Place) → place_in w ls ≡ Some place → place_in w (ls ++ others) ≡ Some place
found_before w [] others place h = absurd cc
found_before w (l ∷ ls) others place h = go (bytes_eq w l.0) (found_before w ls others place) h
  where
    go : (b : Bool) → (place_in w ls ≡ Some place → place_in w (ls ++ others) ≡ Some place) → cond b (Some l.1) (place_in w ls) ≡ Some place → cond b (Some l.1) (place_in w (ls ++ others)) ≡ Some place
    go true again h = h
    go false again h = again h

-- what is found among the labels stays
abbrev HasPlace : List ℕ → Place → Layout → Type 0
HasPlace w place s = place_in w s.labels ≡ Some place

finds_kept : (w : List ℕ) (place : Place) → IsKept (HasPlace w place)
finds_kept w place = record {
  label = λ n s v p. found_before w s.labels ((v, next_place s) ∷ []) place p;
  statement = λ n s stated f names room is may behind named p. p;
}

pub labels_stay : LabelsStay
labels_stay before after s t h all w place found =
    let rest = rest_of 1 empty_layout s t before after h all in
    lines_from-keeps (HasPlace w place) (finds_kept w place) rest.0 s t after rest.1 found
