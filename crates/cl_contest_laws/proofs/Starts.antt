-- A search may begin wherever a run led.
use Rattle.std.proofs.Common.{◌∙◌}
use Rattle.mp_alike_laws.specs.Renaming.{no_renaming}
use Rattle.cl_deadlock_laws.proofs.Reached.{comes_reached, same_harts}
use Rattle.cl_order_laws.proofs.Likeness.{itself, sound_of}
use Rattle.cl_verdict_laws.proofs.Live.{names_law}
use Rattle.cl_contest_laws.specs.Laws.{GoodLaw, StartsWellLaw}

pub good_law : GoodLaw
good_law search image c reachable waits stands = record {
  waits = waits;
  names = names_law image c reachable;
  boxes = sound_of c (no_renaming, itself c (image, reachable.0, reachable.1));
  stands = stands;
}

pub starts_well_law : StartsWellLaw
starts_well_law search plans image c harts plans_are one reachable good = record {
  reached = (image, reachable.0, reachable.1);
  single = record {
    harts = harts;
    plans_are = plans_are;
    one = λ r rank there.
        let came = comes_reached image reachable.0 c reachable.1 in
        let v = came.alone r rank there in
        same_harts image r v.0 rank v.1 ∙ one;
  };
  good = good;
}
