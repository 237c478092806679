use Rattle.std.proofs.Common.{◌∙◌, subst, sym}
use Rattle.std.proofs.lemmas.Option.{same_Some}
use Rattle.cl_rank.specs.Views.{view_of}
use Rattle.cl_rank.specs.declared.stops.Stop.{Stop}
use Rattle.cl_threads.specs.Cuts.{IsBy}
use Rattle.cl_threads.specs.OnThreads.{WentBy}
use Rattle.cl_threads.proofs.turns.run_rank.Goals as goal

pub returns : goal.returns
returns g c =
    let went = c.take_turns.ensures.went in
    let stop = same_Some _ _ (sym (c.end.ensures.stop ∙ went.3)) in
    let plan = c.args.seat.plan.now in
    record {
      by = went.2;
      is_by = subst (λ (s : Stop). IsBy c.args.until plan went.2 s) stop went.4;
      deeds = went.0;
      went = rw c.end.ensures.rank (subst (λ (s : Stop). WentBy went.2 (view_of c.args.seat.rank) (view_of c.take_turns.new.seat.rank) s went.0) stop went.5);
      over = rw c.end.ensures.rank c.take_turns.ensures.over;
    }
