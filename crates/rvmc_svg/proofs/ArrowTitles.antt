-- The titles of all arrows stand in the text.
use Rattle.std.specs.Prelude.{ℕ, ◌≡◌, ◌⊎◌, ◌<◌, ◌≤◌, ◌+◌, Bool, true, false, List, [], ◌∷◌, ◌++◌, length, take}
use Rattle.std.specs.List.{All}
use Rattle.std.proofs.Common.{refl, sym, ap, ◌∙◌, subst, inl, inr, append_assoc, get_or}
use Rattle.std.proofs.lemmas.List.{take_more}
use Rattle.std.proofs.lemmas.List.Elements.{All-cons, All-head, All-nil, All-tail}
use Rattle.rvmc_draw.specs.declared.drawing.Arrow.{Arrow}
use Rattle.rvmc_draw.specs.declared.drawing.Carried.{Carried}
use Rattle.rvmc_draw.specs.declared.drawing.Carried.TheVariants.{Could, Message, Claim, Partition}
use Rattle.rvmc_svg.specs.Adding.{AddsArrows, AddsIf, AddsWanted, is_wanted}
use Rattle.rvmc_svg.specs.Shown.{HasTitle}
use Rattle.rvmc_svg.specs.Titles.{arrow_title}
use Rattle.rvmc_svg.proofs.Shown.{all_more, all_so, all_taken, shows_before, shows_behind}

abbrev Wanted : Bool → List ℕ → Arrow → Type 0
Wanted could text a = is_wanted could a.carried ≡ true → HasTitle text (arrow_title a)

-- one more
pub one_added : (could : Bool) (arrows : List Arrow) (k : ℕ) (d : Arrow) (old now new : List ℕ) → k < length arrows
    → AddsWanted could (take k arrows) old now
    → AddsIf (is_wanted could (get_or arrows k d).carried) now (arrow_title (get_or arrows k d)) new
    → AddsWanted could (take (k + 1) arrows) old new
one_added could arrows k d old now new inside so_far own =
    let a : Arrow = get_or arrows k d in
    subst (λ l. AddsWanted could l old new) (sym (take_more arrows k d inside)) (record {
      more = so_far.more ++ own.more;
      are = own.are ∙ ap (λ l. l ++ own.more) so_far.are ∙ append_assoc old so_far.more own.more;
      shows = all_more (Wanted could)
          (λ text more b s wanted. shows_before text more (arrow_title b) (s wanted)) (take k arrows) a
          so_far.more own.more (so_far.more ++ own.more) refl so_far.shows
          (λ wanted. shows_behind own.more so_far.more (arrow_title a) (own.shows wanted));
    })

pub all_added : (could : Bool) (arrows : List Arrow) (k : ℕ) (old new : List ℕ) → length arrows ≤ k
    → AddsWanted could (take k arrows) old new → AddsWanted could arrows old new
all_added could arrows k old new past so_far = record {
  more = so_far.more;
  are = so_far.are;
  shows = all_taken (Wanted could so_far.more) arrows k past so_far.shows;
}

-- ---- both kinds

either : (c : Carried) → (is_wanted true c ≡ true) ⊎ (is_wanted false c ≡ true)
either (Could tag count) = inl refl
either (Message tag count) = inr refl
either (Claim tag count) = inr refl
either (Partition link part phase) = inr refl

all_of_both : (first second : List ℕ) (arrows : List Arrow) → All (Wanted true first) arrows
    → All (Wanted false second) arrows → All (λ (a : Arrow). HasTitle (first ++ second) (arrow_title a)) arrows
all_of_both first second [] ones others = All-nil (λ (a : Arrow). HasTitle (first ++ second) (arrow_title a))
all_of_both first second (a ∷ arrows) ones others =
    All-cons (λ (b : Arrow). HasTitle (first ++ second) (arrow_title b)) a arrows
    (elim (either a.carried) [
      | inl could ↦ shows_before first second (arrow_title a) (All-head (Wanted true first) a arrows ones could)
      | inr other ↦ shows_behind second first (arrow_title a) (All-head (Wanted false second) a arrows others other)
    ])
    (all_of_both first second arrows (All-tail (Wanted true first) a arrows ones)
    (All-tail (Wanted false second) a arrows others))

pub both_added : (arrows : List Arrow) (old now new : List ℕ) → AddsWanted true arrows old now
    → AddsWanted false arrows now new → AddsArrows arrows old new
both_added arrows old now new ones others = record {
  more = ones.more ++ others.more;
  are = others.are ∙ ap (λ l. l ++ others.more) ones.are ∙ append_assoc old ones.more others.more;
  shows = all_of_both ones.more others.more arrows ones.shows others.shows;
}

-- ---- the page

pub all_behind : (arrows : List Arrow) (old now new : List ℕ) → AddsWanted true arrows old now
    → AddsWanted false arrows now new → All (λ (a : Arrow). HasTitle new (arrow_title a)) arrows
all_behind arrows old now new ones others =
    let adds = both_added arrows old now new ones others in
    all_so (λ (a : Arrow). HasTitle adds.more (arrow_title a)) (λ (a : Arrow). HasTitle new (arrow_title a)) arrows
    (λ a s. subst (λ l. HasTitle l (arrow_title a)) (sym adds.are) (shows_behind adds.more old (arrow_title a) s))
    adds.shows
