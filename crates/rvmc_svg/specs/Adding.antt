-- What is added to a picture's text.
use Rattle.std.specs.Prelude.{ℕ, ◌≡◌, not, Bool, true, List, [], ◌∷◌, ◌++◌}
use Rattle.std.specs.List.{All}
use Rattle.rvmc_draw.specs.declared.drawing.Arrow.{Arrow}
use Rattle.rvmc_draw.specs.declared.drawing.Carried.{Carried}
use Rattle.rvmc_draw.specs.declared.drawing.Carried.TheVariants.{Could}
use Rattle.rvmc_svg.specs.Escaped.{safe_byte}
use Rattle.rvmc_svg.specs.Shown.{HasTitle}
use Rattle.rvmc_svg.specs.Titles.{arrow_title}

-- the safe byte alone
unfoldable pub safe_one : ℕ → List ℕ
safe_one byte = safe_byte byte ∷ []

-- something was added in which this title stands
pub record Adds (old title new : List ℕ) : Type 0 where
  pub more : List ℕ
  pub are : new ≡ old ++ more
  pub shows : HasTitle more title

-- ---- which lie below others

-- those of what could have been taken, or the others
abbrev pub is_wanted : Bool → Carried → Bool
is_wanted could (Could tag count) = could
is_wanted could c = not could

-- if an arrow is wanted, something was added in which its title stands
pub record AddsIf (wanted : Bool) (old title new : List ℕ) : Type 0 where
  pub more : List ℕ
  pub are : new ≡ old ++ more
  pub shows : wanted ≡ true → HasTitle more title

-- something was added in which the titles of those of the arrows stand that are wanted
pub record AddsWanted (could : Bool) (arrows : List Arrow) (old new : List ℕ) : Type 0 where
  pub more : List ℕ
  pub are : new ≡ old ++ more
  pub shows : All (λ (a : Arrow). is_wanted could a.carried ≡ true → HasTitle more (arrow_title a)) arrows

-- and those of all arrows
pub record AddsArrows (arrows : List Arrow) (old new : List ℕ) : Type 0 where
  pub more : List ℕ
  pub are : new ≡ old ++ more
  pub shows : All (λ (a : Arrow). HasTitle more (arrow_title a)) arrows
