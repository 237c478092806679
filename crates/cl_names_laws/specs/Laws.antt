-- The law of a rank by other names.
use Rattle.std.specs.Prelude.{ℕ, ◌≡◌}
use Rattle.cl_state.specs.declared.asking.Answer.{Answer}
use Rattle.cl_state.specs.Asked.{asked}
use Rattle.cl_state.specs.Rank.{Rank}
use Rattle.cl_state.specs.Told.{told}
use Rattle.mp_alike_laws.specs.Renaming.{Renaming}
use Rattle.cl_names_laws.specs.Named.{IsSameNamed, ask_by, rank_by}

-- it asks the same, by its names, and what it is told leaves the same, by its names
pub record NamesLaw : Type 0 where
  pub asks : (names : Renaming) (rank : Rank) (hart : ℕ) → asked (rank_by names rank) hart ≡ ask_by names (asked rank hart)
  pub tells : (names : Renaming) (rank : Rank) (hart : ℕ) (answer : Answer) (stamp : ℕ) → IsSameNamed names answer
      → told (rank_by names rank) hart answer stamp ≡ rank_by names (told rank hart answer stamp)
