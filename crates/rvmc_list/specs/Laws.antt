-- What holds of the text of a record: no line is left out.
use Rattle.std.specs.Prelude.{ℕ, ◌≡◌, ◌⊎◌, true, false, List, [], ◌∷◌, ◌++◌, length}
use Rattle.std.specs.List.{AllByRecursion, flat_map}
use Rattle.rvmc_list.specs.Folding.{Line, lines_text, folded_text}

-- a line that stands in the text, and those that are folded into it
pub record Group : Type 0 where
  pub first : Line
  pub more : List Line

-- the line, how many are folded into it, and a newline
abbrev pub group_text : Group → List ℕ
group_text group = group.first.text ++ (folded_text (length group.more) ++ 10 ∷ [])

abbrev pub lines_in : Group → List Line
lines_in group = group.first ∷ group.more

-- it stands alone, or all of them are lines that are to be folded
abbrev pub IsGroup : Group → Type 0
IsGroup group = (group.more ≡ []) ⊎ AllByRecursion (λ (line : Line). line.folded ≡ true) (lines_in group)

-- each line is in one group, in their order, and the text is that of the groups
pub record AreGrouped (lines : List Line) : Type 0 where
  pub groups : List Group
  pub all : flat_map lines_in groups ≡ lines
  pub each : AllByRecursion IsGroup groups
  pub text : lines_text false lines ≡ flat_map group_text groups

abbrev pub NoCallLeftOutLaw : Type 0
NoCallLeftOutLaw = (lines : List Line) → AreGrouped lines
