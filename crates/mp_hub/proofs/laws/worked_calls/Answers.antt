use Rattle.std.proofs.Common.{refl}
use Rattle.mp_hub.proofs.laws.worked_calls.Goals as goal

pub returns : goal.returns
returns c = record {
  tags = refl;
  order = refl;
  claim = refl;
  claim_post = refl;
  all = refl;
  links = refl;
  pairs = refl;
  totals = refl;
  ranks = refl;
  cut = refl;
}
