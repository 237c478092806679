use Rattle.std.proofs.Common.{◌++◌, ap, ◌∙◌}
use Rattle.cl_explore.specs.Runs.{all_turns}
use Rattle.cl_explore.specs.declared.runs.Run.{Run}
use Rattle.cl_explore.proofs.Winding.{all_more, run_one}
use Rattle.cl_explore.proofs.runs.begin.Goals as goal

pub returns : goal.returns
returns c =
    let runs = c.args.runs.now.items in
    let run : Run = record { turn = c.in_ok-turn.turn; last = c.stamp-last.result } in
    ap all_turns c.in_ok-push.ensures.items
    ∙ (all_more runs run
    ∙ ap (λ es. all_turns runs ++ es) (run_one run c.args.step.now c.in_ok-turn.ensures c.stamp-last.ensures))
