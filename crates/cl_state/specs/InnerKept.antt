-- What is kept of a rank beside its site and its clock.
use Rattle.std.specs.Prelude.{◌≡◌}
use Rattle.cl_state.specs.Rank.{Rank}
use Rattle.cl_state.specs.declared.keeping.KeptBody.{KeptBody}

-- it is what the rank holds
pub record IsBodyOf (body : KeptBody) (rank : Rank) : Type 0 where
  pub memory : body.memory ≡ rank.memory
  pub harts : body.harts.items ≡ rank.harts
  pub requests : body.requests.value ≡ rank.requests
  pub phases : body.phases ≡ rank.phases
  pub out : body.out.items ≡ rank.out
