-- A law of told ranks.
use Rattle.std.specs.Prelude.{◌≡◌, ℕ, length}
use Rattle.cl_state.specs.declared.asking.Answer.{Answer}
use Rattle.cl_state.specs.Rank.{Rank}
use Rattle.cl_state.specs.Told.{told}

-- the stamp is the rank's clock; what the image fixes stays, and so does the number of harts
pub record IsToldAt (stamp : ℕ) (old new : Rank) : Type 0 where
  pub clock : new.clock ≡ stamp
  pub site : new.site ≡ old.site
  pub harts : length new.harts ≡ length old.harts

abbrev pub ToldLaw : Type 0
ToldLaw = (rank : Rank) (hart : ℕ) (answer : Answer) (stamp : ℕ) → IsToldAt stamp rank (told rank hart answer stamp)
