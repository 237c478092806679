-- Laws of a rank alone.
use Rattle.std.specs.Prelude.{◌≡◌, ℕ, ◌<◌, List, [], ◌∷◌, ⊤}
use Rattle.cl_state.specs.Rank.{Rank}
use Rattle.cl_deeds.specs.Deeds.{Deed}
use Rattle.cl_deeds.specs.Alone.{IsAlone}

-- each stamp is above the one before, the first above the clock
abbrev pub RisesFrom : ℕ → List Deed → Type 0
RisesFrom clock [] = ⊤
RisesFrom clock (d ∷ ds) = (clock < d.stamp) × RisesFrom d.stamp ds

abbrev pub RisingLaw : Type 0
RisingLaw = (old new : Rank) (ds : List Deed) → IsAlone old ds new → RisesFrom old.clock ds

-- what a rank met leads it to one rank
abbrev pub OneRankLaw : Type 0
OneRankLaw = (old a b : Rank) (ds : List Deed) → IsAlone old ds a → IsAlone old ds b → a ≡ b
