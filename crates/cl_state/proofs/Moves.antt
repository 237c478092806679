-- What holds of told ranks.
use Rattle.std.proofs.Common.{refl}
use Rattle.std.proofs.Math.ListN.{length-set}
use Rattle.cl_state.specs.Told.{told}
use Rattle.cl_state.specs.Laws.{ToldLaw}

pub told_at : ToldLaw
unfolding told
told_at rank hart answer stamp = record { clock = refl; site = refl; harts = length-set _ _ _ }
