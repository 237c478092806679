use Rattle.std.proofs.Common.{sym, ◌∙◌, arith}
use Rattle.rvmc_starts.proofs.RunSteps.{joins_fit, runs_joined, runs_split}
use Rattle.rvmc_starts.proofs.turns.runs_of.Goals as goal
use Rattle.rvmc_starts.proofs.turns.runs_of.Goals.{then-joins, else-joins+in_ok-push}

pub loop-turn-preserved : goal.loop-turn-preserved
loop-turn-preserved c =
    let others = c.in-Some.others.now in
    let i = c.loop-turn.turn-index in
    let runs = c.loop-turn.runs.items in
    let run = c.loop-turn.run in
    elim c.if-joins.branch [
      | then-joins w ↦
          let join = sym c.joins.ensures ∙ w.if-joins.true in
          rw (w.runs-is, w.run-is) (joins_fit run _ join, runs_joined others i _ runs run _ c.loop-turn-test.true join c.loop-turn.invariant.1)
      | else-joins+in_ok-push w ↦
          let apart = sym c.joins.ensures ∙ w.if-joins.false in
          rw (w.runs-is, w.run-is, w.in_ok-push.ensures.items) (omega arith, runs_split others i _ runs run _ c.loop-turn-test.true apart c.loop-turn.invariant.1)
    ]
