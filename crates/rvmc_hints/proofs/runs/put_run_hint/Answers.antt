use Rattle.std.proofs.Common.{◌∙◌}
use Rattle.rvmc_hints.specs.Runs.{run_hint_text}
use Rattle.rvmc_hints.proofs.HintLines.{hint_from_beginning, line_from_beginning}
use Rattle.rvmc_hints.proofs.runs.put_run_hint.Goals as goal

pub returns-in-Ok : goal.returns-in-Ok
returns-in-Ok g c =
    let written = c.as_bytes.ensures.value ∙ c.in-Ok.ensures.text in
    record {
      told = line_from_beginning (run_hint_text c.args.hint) c.as_bytes.result.now _ _ written c.put_beginning.ensures;
      one_line =
          hint_from_beginning (run_hint_text c.args.hint) c.as_bytes.result.now _ _ c.in-Ok.ensures.one_line written c.put_beginning.ensures;
    }
