use Rattle.std.specs.Prelude.{false, []}
use Rattle.cl_state.specs.Room.{rank_of}
use Rattle.rvmc_inspect.specs.Texts.{hart_waits_text}
use Rattle.test_program.proofs.Inspecting.{all_told}
use Rattle.test_program.proofs.Results.{on_ok}
use Rattle.test_program.proofs.inspected.all_that_is_waited_for_is_told.Goals as goal

pub returns : goal.returns
returns c = λ hart wait one mode two.
    let hub = c.args.hub.now in
    let boxes = c.args.boxes.now in
    let rank = rank_of c.args.own.now in
    on_ok c.put_harts.result
    (λ is. (
      hart_waits_text false [] hub boxes c.args.rank rank,
      is,
      all_told hub boxes c.args.rank rank hart wait one mode two,
    )) c.put_harts.ensures
