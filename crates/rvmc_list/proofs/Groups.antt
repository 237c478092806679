-- Lines in groups.
use Rattle.std.specs.Prelude.{ℕ, ◌≡◌, Bool, true, false, List, [], ◌∷◌, ◌++◌, length}
use Rattle.std.specs.List.{AllByRecursion, flat_map}
use Rattle.std.proofs.Common.{refl, sym, ap, ◌∙◌, inl, inr, arith}
use Rattle.rvmc_list.specs.Folding.{Line, folded_at_front, lines_text, folded_text}
use Rattle.rvmc_list.specs.Laws.{AreGrouped, Group, IsGroup, NoCallLeftOutLaw, group_text, lines_in}

abbrev IsFold : Line → Type 0
IsFold line = line.folded ≡ true

-- those at the front that are folded into a line before them, and groups of the others
record IsSplit (lines : List Line) : Type 0 where
  run : List Line
  groups : List Group
  all : run ++ flat_map lines_in groups ≡ lines
  folds : AllByRecursion IsFold run
  count : length run ≡ folded_at_front lines
  each : AllByRecursion IsGroup groups
  text : lines_text true lines ≡ flat_map group_text groups

record Both (lines : List Line) : Type 0 where
  split : IsSplit lines
  grouped : AreGrouped lines

none : Both []
none = record {
  split = record { run = []; groups = []; all = refl; folds = tt; count = refl; each = tt; text = refl };
  grouped = record { groups = []; all = refl; each = tt; text = refl };
}

one_more : (folded : Bool) (text : List ℕ) (lines : List Line) → Both lines
    → Both (record { folded = folded; text = text } ∷ lines)
one_more true text lines both =
    let line : Line = record { folded = true; text = text } in
    let split = both.split in
    record {
      split = record {
        run = line ∷ split.run;
        groups = split.groups;
        all = ap (λ (ls : List Line). line ∷ ls) split.all;
        folds = (refl, split.folds);
        count = (let less = split.count in omega arith);
        each = split.each;
        text = split.text;
      };
      grouped = record {
        groups = record { first = line; more = split.run } ∷ split.groups;
        all = ap (λ (ls : List Line). line ∷ ls) split.all;
        each = (inr (refl, split.folds), split.each);
        text = ap (λ n. (text ++ (folded_text n ++ 10 ∷ [])) ++ lines_text true lines) (sym split.count)
            ∙ ap (λ r. (text ++ (folded_text (length split.run) ++ 10 ∷ [])) ++ r) split.text;
      };
    }
one_more false text lines both =
    let line : Line = record { folded = false; text = text } in
    let grouped = both.grouped in
    let groups : List Group = record { first = line; more = [] } ∷ grouped.groups in
    let all : flat_map lines_in groups ≡ line ∷ lines = ap (λ (ls : List Line). line ∷ ls) grouped.all in
    let told : (text ++ 10 ∷ []) ++ lines_text false lines ≡ flat_map group_text groups =
    ap (λ r. (text ++ 10 ∷ []) ++ r) grouped.text in
    record {
      split = record {
        run = [];
        groups = groups;
        all = all;
        folds = tt;
        count = refl;
        each = (inl refl, grouped.each);
        text = told;
      };
      grouped = record { groups = groups; all = all; each = (inl refl, grouped.each); text = told };
    }

both_of : (lines : List Line) → Both lines
both_of [] = none
both_of (line ∷ lines) = one_more line.folded line.text lines (both_of lines)

pub no_call_left_out : NoCallLeftOutLaw
no_call_left_out lines = (both_of lines).grouped
