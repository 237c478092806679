-- A step that was added, whatever its rank was before and after it.
use Rattle.std.specs.Prelude.{ℕ, ◌≡◌, ◌+◌, nat_lt, if◌then◌else◌, Bool, true, false, List, [], ◌∷◌, ◌++◌, length, map, Some}
use Rattle.std.proofs.Common.{refl, ap, ◌∙◌, subst}
use Rattle.rv_image_types.specs.declared.images.Symbol.{Symbol}
use Rattle.cl_machine.specs.declared.steps.Step.{Step}
use Rattle.cl_state.specs.Rank.{Rank}
use Rattle.cl_state.specs.declared.asking.Ask.{Ask}
use Rattle.rvmc_draw.specs.Marks.{Sign, sign_if, told_by}
use Rattle.rvmc_draw.specs.Held.{kept_by}
use Rattle.rvmc_draw.specs.Walks.{Scope}
use Rattle.rvmc_draw.specs.Held.{IsWalked, is_marked_in, tips_taken}
use Rattle.rvmc_draw.specs.declared.deeds.Deed.{Deed}
use Rattle.rvmc_draw.specs.declared.walks.Walk.{Walk}
use Rattle.rvmc_sights.specs.Lines.{hart_of, sight_of, sight_text}
use Rattle.rvmc_sights.specs.Seen.{after_of, seen}
use Rattle.rvmc_sights.specs.declared.lines.After.{After}
use Rattle.rvmc_picture.specs.Deeds.{IsDeedBy}
use Rattle.rvmc_picture.specs.Walking.{IsBefore, IsPutAt}
use Rattle.rvmc_picture.specs.declared.walking.Before.{Before}

-- where a step has no mark nothing is kept of what is told of it
tips_same : (walk : Walk) (d : Deed) (tip text : List ℕ) → (is_marked_in walk d ≡ true → tip ≡ text)
    → tips_taken walk d tip ≡ tips_taken walk d text
tips_same walk d tip text marked = go (is_marked_in walk d) marked
  where
    go : (b : Bool) → (b ≡ true → tip ≡ text)
        → kept_by walk.marks.count tip (if b then sign_if d d.shape else [])
        ≡ kept_by walk.marks.count text (if b then sign_if d d.shape else [])
    go true same = ap (λ t. kept_by walk.marks.count t (sign_if d d.shape)) (same refl)
    go false same = none (nat_lt walk.marks.count 5000)
      where
        none : (few : Bool) → (if few then map {B = Sign × List ℕ} (λ (s : Sign). (s, tip)) [] else [])
            ≡ (if few then map {B = Sign × List ℕ} (λ (s : Sign). (s, text)) [] else [])
        none true = refl
        none false = refl

-- what was seen of a step is its sight
sight_same : (place : ℕ) (e : Step) (s t : Rank) (b : Before) (after : After) → IsBefore e s (Some b)
    → after ≡ after_of e t → seen place e b.seen after ≡ sight_of place e s t
sight_same place e s t b after known end =
    ap (λ h. record {
      place = place;
      step = e;
      before = h;
      word = b.seen.word;
      box = b.seen.asks;
      after = after.hart;
      overflow = after.overflow;
    }) known.0.0
    ∙ ap (λ w. record {
      place = place;
      step = e;
      before = hart_of e s;
      word = w;
      box = b.seen.asks;
      after = after.hart;
      overflow = after.overflow;
    }) known.0.1
    ∙ ap (λ x. record {
      place = place;
      step = e;
      before = hart_of e s;
      word = (sight_of place e s t).word;
      box = x;
      after = after.hart;
      overflow = after.overflow;
    }) known.0.2
    ∙ ap (λ (a : After). record {
      place = place;
      step = e;
      before = hart_of e s;
      word = (sight_of place e s t).word;
      box = (sight_of place e s t).box;
      after = a.hart;
      overflow = a.overflow;
    }) end

pub put_at : (symbols : List Symbol) (place : ℕ) (e : Step) (s t : Rank) (b : Before) (after : After) (old new : Walk)
    → IsBefore e s (Some b) → after ≡ after_of e t → (d : Deed) (next : ℕ) → next ≡ length old.board.lines.items + 1
    → IsDeedBy place e b.ask b.seen.hart after.hart next d
    → ((scope : Scope) (deeds : List Deed) → IsWalked scope deeds old → IsWalked scope (deeds ++ d ∷ []) new)
    → (tip : List ℕ)
    → (is_marked_in old d ≡ true → tip ≡ sight_text symbols (seen d.spot.place e b.seen after))
    → map told_by new.marks.kept.items ≡ map told_by old.marks.kept.items ++ tips_taken old d tip
    → IsPutAt symbols place e s t old new
put_at symbols place e s t b after old new known end d next next_is is walked tip told tips = record {
  deed = d;
  is = subst (λ (a : Ask). IsDeedBy place e a (hart_of e s) (hart_of e t) (length old.board.lines.items + 1) d) known.1
      (subst (λ h. IsDeedBy place e b.ask h (hart_of e t) (length old.board.lines.items + 1) d) known.0.0
      (subst (λ (a : After). IsDeedBy place e b.ask b.seen.hart a.hart (length old.board.lines.items + 1) d) end
      (subst (λ n. IsDeedBy place e b.ask b.seen.hart after.hart n d) next_is is)));
  walked = walked;
  tips = tips
      ∙ ap (λ l. map told_by old.marks.kept.items ++ l)
      (tips_same old d tip (sight_text symbols (sight_of place e s t)) (λ marked.
      told marked
      ∙ ap (λ n. sight_text symbols (seen n e b.seen after)) (ap (λ spot. spot.place) is.spot)
      ∙ ap (sight_text symbols) (sight_same place e s t b after known end)));
}
