use Rattle.std.proofs.Common.{◌≡◌, ◌++◌, ◌∷◌, [], ap, refl, sym, suc, ◌∙◌}
use Rattle.std.proofs.lemmas.List.{append_assoc}
use Rattle.cl_machine.specs.declared.steps.Step.{Step}
use Rattle.cl_explore.specs.Runs.{all_turns, run_turns}
use Rattle.cl_explore.specs.declared.runs.Run.{Run}
use Rattle.cl_explore.proofs.Winding.{all_more, run_more}
use Rattle.cl_explore.proofs.runs.add.Goals as goal

pub returns-then-continues : goal.returns-then-continues
returns-then-continues c =
    let run = c.in-Some.run' in
    let rest = c.pop.new.self.items in
    let step = c.args.step.now in
    let is = c.continues.ensures c.if-continues.true in
    let new : Run = record { turn = run.turn; last = c.stamp.result } in
    let last : new.last ≡ suc run.last = c.stamp.ensures ∙ ap (λ (e : Step). e.stamp) is.next in
    ap all_turns c.in_ok-push.ensures.items
    ∙ (all_more rest new
    ∙ (ap (λ es. all_turns rest ++ es) (run_more run new step is refl last)
    ∙ (sym (append_assoc (all_turns rest) (run_turns run) (step ∷ []))
    ∙ ap (λ es. es ++ step ∷ []) (sym (ap all_turns c.in-Some.ensures.items ∙ all_more rest run)))))
